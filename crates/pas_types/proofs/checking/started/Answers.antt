use Rattle.std.proofs.Common.{◌≡◌, sym, ap, subst, ◌∙◌, ℕ, List, [], map, Option, rules}
use Rattle.std.specs.Prelude.{fold, ◌<◌, ◌^◌}
use Rattle.pas_syntax.specs.declared.tree.Ident.{Ident as CodeIdent}
use Rattle.pas_syntax.specs.declared.tree.Labels.{Labels as CodeLabels}
use Rattle.pas_syntax.specs.Tree.{Ident, Program, Compound}
use Rattle.pas_syntax.specs.Views.{if_there, spelled_in, ident_in}
use Rattle.pas_syntax.specs.ProgramViews.{labels_in, program_in}
use Rattle.pas_scopes.specs.declared.scopes.Scopes.{Scopes as CodeScopes}
use Rattle.pas_rules.specs.Labels.{label_at_end}
use Rattle.pas_rules.specs.Declarations.{declared_labels}
use Rattle.pas_rules.specs.Check.{parameter_names}
use Rattle.pas_rules.specs.Scopes.{with_name}
use Rattle.pas_types.specs.inner.Checking.{HasParameters}
use Rattle.pas_types.proofs.PlainSeen.{body_seen}
use Rattle.pas_types.proofs.BegunLemmas.{begins, none_has, spelled_all}
use Rattle.pas_types.proofs.checking.started.Goals as goal

pub returns-clause-declared : goal.returns-clause-declared
returns-clause-declared c =
    let spellings = c.args.spellings.now in
    let program : Program = program_in spellings c.args.tree.now in
    let fresh : CodeScopes = c.new-scopes.result in
    let now : CodeScopes = c.add_parameters.new.scopes in
    let idents : List CodeIdent = c.as_slice.result.now in
    let names : map (λ (ident : CodeIdent). spelled_in fresh.spellings.now ident.span) idents
    ≡ parameter_names program =
    ap (λ (found : List ℕ). map (λ (ident : CodeIdent). spelled_in found ident.span) idents)
    c.new-scopes.ensures.spellings
    ∙ (spelled_all spellings idents
    ∙ ap (map (λ (ident : Ident). ident.name)) (ap (map (ident_in spellings)) c.as_slice.ensures
    ∙ c.in_ok-parameters.ensures spellings)) in
    let has = subst (λ (found : List (List ℕ)). HasParameters (fold with_name [] found) now) names
    (c.in_ok-add_parameters.ensures.has [] (none_has fresh c.new-scopes.ensures.view)) in
    let labels = c.in_ok-scopes.ensures spellings
    ∙ ap (λ (part : Option CodeLabels). declared_labels (if_there (labels_in spellings) part)) c.as_ref.ensures.value in
    let last = c.label_at_end-scopes.ensures spellings
    ∙ ap (λ (body : Compound). label_at_end body.list) (sym (body_seen spellings c.args.tree.now.body)) in
    let small : c.len.result < 2 ^ 64 = search rules in
    begins program fresh now c.in_ok-scopes.field-0 c.label_at_end-scopes.result c.len.result
    c.new-scopes.ensures.view c.in_ok-add_parameters.ensures.kept has labels last c.len.ensures small
