use Rattle.std.proofs.Common.{◌≡◌, sym, ap, ◌∙◌, ℕ, List}
use Rattle.std.specs.Option.{option_copied}
use Rattle.pas_syntax.specs.declared.tree.ProgramTree.{ProgramTree}
use Rattle.pas_scopes.specs.declared.scopes.KnownRoutine.{KnownRoutine as CodeKnown}
use Rattle.pas_scopes.specs.declared.scopes.Scopes.{Scopes as CodeScopes}
use Rattle.pas_types.proofs.WholeLemmas.{constants_by, types_by, variables_by, routines_by, goes_over, if_ok}
use Rattle.pas_types.proofs.programs.declarations_of.Goals as goal

pub returns-clause-goes : goal.returns-clause-goes
returns-clause-goes c =
    let old : CodeScopes = c.args.scopes.now in
    let second : CodeScopes = c.constants_of.new.scopes in
    let third : CodeScopes = c.types_of.new.scopes in
    let fourth : CodeScopes = c.globals_of.new.scopes in
    let new : CodeScopes = c.routines_of.new.scopes in
    let tree : ProgramTree = c.args.tree.now in
    let spellings : List ℕ = old.spellings.now in
    let noted = c.args.noted.now in
    let b = c.constants_of.new.noted in
    let d = c.globals_of.new.noted in
    let spelled : CodeScopes → List ℕ = λ scopes. scopes.spellings.now in
    let labelled : CodeScopes → List ℕ = λ scopes. scopes.labels in
    let known : CodeScopes → List CodeKnown = λ scopes. scopes.routines.items in
    let second_kept = c.in_ok-constants_of.ensures.kept in
    let third_kept = c.in_ok-types_of.ensures.kept in
    let fourth_kept = c.in_ok-globals_of.ensures.kept in
    let new_kept = c.routines_of.ensures.kept in
    let second_spelled : second.spellings.now ≡ spellings = ap spelled second_kept in
    let third_spelled : third.spellings.now ≡ spellings = ap spelled third_kept ∙ second_spelled in
    let fourth_spelled : fourth.spellings.now ≡ spellings = ap spelled fourth_kept ∙ third_spelled in
    let new_spelled : new.spellings.now ≡ spellings = ap spelled new_kept ∙ fourth_spelled in
    let fourth_labels : fourth.labels ≡ old.labels =
    ap labelled fourth_kept ∙ (ap labelled third_kept ∙ ap labelled second_kept) in
    let new_labels : new.labels ≡ old.labels = ap labelled new_kept ∙ fourth_labels in
    let fourth_routines : fourth.routines.items ≡ old.routines.items =
    ap known fourth_kept ∙ (ap known third_kept ∙ ap known second_kept) in
    if_ok _ _ c.routines_of.result c.routines_of.ensures.declares (λ bodies h begun labels none.
    goes_over tree old second third fourth new noted b c.types_of.new.noted d c.routines_of.new.noted bodies begun
    (constants_by old noted second b spellings (option_copied c.as_ref.result) tree.declarations.constants
    c.as_ref.ensures.value c.in_ok-constants_of.ensures.declares)
    (types_by second b third c.types_of.new.noted second.spellings.now spellings (option_copied c.as_ref-2.result)
    tree.declarations.types second_spelled c.as_ref-2.ensures.value c.in_ok-types_of.ensures.declares)
    (variables_by third c.types_of.new.noted fourth d third.spellings.now spellings (option_copied c.as_ref-3.result)
    tree.declarations.variables third_spelled c.as_ref-3.ensures.value c.in_ok-globals_of.ensures.declares)
    (λ before. routines_by fourth d new c.routines_of.new.noted bodies fourth.spellings.now spellings
    c.as_slice.result.now tree.declarations.routines fourth_spelled c.as_slice.ensures
    (h (fourth_routines ∙ none) (λ is. labels (before is) ∙ sym fourth_labels)))
    fourth_spelled new_spelled new_labels)
