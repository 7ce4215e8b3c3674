use Rattle.std.proofs.Common.{sym, ap, subst, ◌∙◌, ℕ, List, Some, None, IsSome}
use Rattle.std.specs.Prelude.{option_map}
use Rattle.pas_syntax.specs.Tree.{VariableRow}
use Rattle.pas_syntax.specs.ProgramViews.{variable_row_in}
use Rattle.pas_typed.specs.declared.types.PasType.{PasType as CodePasType}
use Rattle.pas_scopes.specs.declared.scopes.Scopes.{Scopes as CodeScopes}
use Rattle.pas_rules.specs.Scopes.{spellings_of}
use Rattle.pas_rules.specs.Declarations.{taken}
use Rattle.pas_scopes.specs.ScopeViews.{outer_view, made_view}
use Rattle.pas_scopes.proofs.GlobalLemmas.{row_declares}
use Rattle.pas_scopes.proofs.GlobalRowLemmas.{ok_all, ok_one, names_alone, fresh_alone, kept_globals, kept_unclear}
use Rattle.pas_scopes.proofs.GlobalRowLemmas.{value_behind, types_after, adds_some, adds_none}
use Rattle.pas_scopes.proofs.globals.global_row.Goals as goal

pub returns-in-Some-clause-declares : goal.returns-in-Some-clause-declares
returns-in-Some-clause-declares c =
    let old : CodeScopes = c.args.scopes.now in
    let now : CodeScopes = c.global_type.new.scopes in
    let new : CodeScopes = c.add_globals.new.scopes in
    let row : VariableRow = variable_row_in old.spellings.now c.args.row.now in
    let names : List (List ℕ) = spellings_of row.names in
    let found : CodePasType = c.in-Some.pas_type in
    let kept = c.in_ok-pas_type.ensures.kept in
    let stay = ap (λ (scopes : CodeScopes). scopes.types) c.add_globals.ensures.kept in
    ok_all _ _ _ _ c.add_globals.result c.add_globals.ensures.names c.add_globals.ensures.globals
    c.add_globals.ensures.cells
    (λ named globals cells. row_declares old new row c.new_names.result c.in_ok-note.ensures.ok
    (names_alone (taken (outer_view old)) c.new-before.result row.names c.new_names.result c.new-before.ensures
    c.new_names.ensures.answer)
    (fresh_alone (taken (outer_view old)) c.new-before.result names c.new_names.result c.new-before.ensures
    c.new_names.ensures.new)
    (kept_globals old now new c.args.row.now kept c.add_globals.ensures.kept) (Some found)
    (adds_some old now new c.args.row.now kept stay found named globals cells)
    (λ outer like. value_behind old now new c.args.row.now kept stay (Some found) outer
    (ap (option_map (made_view now)) (sym c.in-Some.is) ∙ c.in_ok-pas_type.ensures.value outer like))
    (λ outer like. types_after old now new c.args.row.now kept stay outer (c.in_ok-pas_type.ensures.types outer like))
    c.args.noted.now c.note.new.noted c.global_type.new.noted c.in_ok-note.ensures.noted
    c.in_ok-pas_type.ensures.notes
    (λ outer like clear none. subst IsSome c.in-Some.is (c.in_ok-pas_type.ensures.clear outer like clear none)))

pub returns-clause-declares : goal.returns-clause-declares
returns-clause-declares c =
    let old : CodeScopes = c.args.scopes.now in
    let now : CodeScopes = c.global_type.new.scopes in
    let new : CodeScopes = c.add_unclear.new.scopes in
    let row : VariableRow = variable_row_in old.spellings.now c.args.row.now in
    let names : List (List ℕ) = spellings_of row.names in
    let kept = c.in_ok-pas_type.ensures.kept in
    let stay = ap (λ (scopes : CodeScopes). scopes.types) c.add_unclear.ensures.kept in
    ok_one _ _ c.add_unclear.result c.add_unclear.ensures.names
    (λ named. row_declares old new row c.new_names.result c.in_ok-note.ensures.ok
    (names_alone (taken (outer_view old)) c.new-before.result row.names c.new_names.result c.new-before.ensures
    c.new_names.ensures.answer)
    (fresh_alone (taken (outer_view old)) c.new-before.result names c.new_names.result c.new-before.ensures
    c.new_names.ensures.new)
    (kept_globals old now new c.args.row.now kept
    (kept_unclear old now new c.args.row.now kept c.add_unclear.ensures.kept)) None
    (adds_none old now new c.args.row.now kept stay c.add_unclear.ensures.kept named)
    (λ outer like. value_behind old now new c.args.row.now kept stay None outer
    (ap (option_map (made_view now)) (sym c.in-None.is) ∙ c.in_ok-pas_type.ensures.value outer like))
    (λ outer like. types_after old now new c.args.row.now kept stay outer (c.in_ok-pas_type.ensures.types outer like))
    c.args.noted.now c.note.new.noted c.global_type.new.noted c.in_ok-note.ensures.noted
    c.in_ok-pas_type.ensures.notes
    (λ outer like clear none. subst IsSome c.in-None.is (c.in_ok-pas_type.ensures.clear outer like clear none)))
