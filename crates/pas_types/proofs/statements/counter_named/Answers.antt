use Rattle.std.proofs.Common.{◌≡◌, sym, ap, subst, ◌∙◌, [], ◌∷◌, Option, Some, option_map}
use Rattle.std.proofs.lemmas.Result.{err_from_is_err_and}
use Rattle.pas_syntax.specs.Views.{ident_in}
use Rattle.pas_syntax.specs.Words.{Word, name_at}
use Rattle.pas_typed.specs.Types.{Table}
use Rattle.pas_typed.specs.TypeViews.{table_view}
use Rattle.pas_typed.specs.TypedViews.{slot_view}
use Rattle.pas_scopes.specs.declared.names.Entity.{Entity as CodeEntity}
use Rattle.pas_rules.specs.Scopes.{Entity, entity_of, variable}
use Rattle.pas_rules.specs.Statements.{for_variable}
use Rattle.pas_scopes.specs.NameViews.{entity_view}
use Rattle.pas_scopes.specs.ScopeViews.{scopes_view}
use Rattle.pas_types.specs.inner.FlowViews.{ShowsBefore}
use Rattle.pas_types.proofs.TargetLemmas.{precedes_stop, counter_refused}
use Rattle.pas_types.proofs.statements.counter_named.Goals as goal

pub returns-in_err-demand-in-Some-Variable : goal.returns-in_err-demand-in-Some-Variable
returns-in_err-demand-in-Some-Variable c clear n line =
    let spellings = c.args.scopes.now.spellings.now in
    let word : Word = name_at n (ident_in spellings c.args.ident) in
    let table : Table = table_view spellings c.args.scopes.now.types in
    let entity : Option Entity =
    entity_of (scopes_view c.args.scopes.now) (ident_in spellings c.args.ident).name in
    let why = c.in_err-demand-in-Some-Variable.field-0.0 in
    let is : entity ≡ Some (variable (slot_view c.in-Some-Variable.slot)) =
    sym c.named.ensures.entity
    ∙ (ap (option_map entity_view) c.in-Some-Variable.is
    ∙ ap (λ (found : CodeEntity). Some (entity_view found)) c.in-Some-Variable.field-0-is) in
    precedes_stop line (word ∷ []) (for_variable table entity) slot_view why c.from_residual.result
    (err_from_is_err_and _ c.from_residual.ensures.1)
    (subst (λ (found : Option Entity). ShowsBefore line (word ∷ []) (for_variable table found).marks why) (sym is)
    (counter_refused table (slot_view c.in-Some-Variable.slot) word line c.counts.result why c.counts.ensures
    c.in_err-demand-in-Some-Variable.ensures))
