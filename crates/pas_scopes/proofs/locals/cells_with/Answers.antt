use Rattle.std.proofs.Common.{sym, ap, ◌∙◌, ℕ, ◌+◌, ◌*◌, map, length}
use Rattle.pas_syntax.specs.Views.{ident_in, separated_in}
use Rattle.pas_typed.specs.TypeViews.{table_view, type_view, counted}
use Rattle.pas_typed.specs.TypedViews.{mode_view, variable_view}
use Rattle.pas_scopes.specs.declared.scopes.Inner.{Inner as CodeInner}
use Rattle.pas_rules.specs.Scopes.{spellings_of}
use Rattle.pas_scopes.specs.ScopeViews.{all_idents}
use Rattle.pas_scopes.proofs.CountedLemmas.{together_by}
use Rattle.pas_scopes.proofs.AddedLemmas.{seen_length}
use Rattle.pas_scopes.proofs.LocalLemmas.{same_inner}
use Rattle.pas_scopes.proofs.locals.cells_with.Goals as goal

pub returns-in-Some : goal.returns-in-Some
returns-in-Some c inner is cells =
    let scopes = c.args.scopes.now in
    let spellings = scopes.spellings.now in
    let each : ℕ = c.cells_each-each.result in
    c.with_cells.ensures
    ∙ (ap (λ (found : CodeInner). counted (found.cells + length (all_idents c.args.names.now) * each))
    (same_inner scopes.inner c.in-Some.inner inner c.in-Some.is is)
    ∙ (ap (λ (n : ℕ). counted (inner.cells + n * each)) (sym (seen_length spellings c.args.names.now))
    ∙ sym (together_by (table_view spellings scopes.types) (map (variable_view spellings) inner.variables)
    (mode_view c.args.mode) (type_view c.args.pas_type)
    (spellings_of (separated_in (ident_in spellings) c.args.names.now)) inner.cells each cells
    c.cells_each-each.ensures)))
