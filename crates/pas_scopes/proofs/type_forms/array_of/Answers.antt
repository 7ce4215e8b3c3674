use Rattle.std.proofs.Common.{refl, ap, ◌∙◌, map}
use Rattle.pas_typed.specs.declared.types.PasType.{PasType as CodePasType}
use Rattle.pas_typed.specs.Types.{Table, Made}
use Rattle.pas_typed.specs.TypeViews.{range_view, type_view, table_view}
use Rattle.pas_rules.specs.TypeForms.{arrays}
use Rattle.pas_scopes.specs.ScopeViews.{made_view}
use Rattle.pas_scopes.specs.Answers.{Ending, end_in}
use Rattle.pas_scopes.specs.FormAnswers.{indexes_view}
use Rattle.pas_scopes.proofs.AnswerLemmas.{ends_moved}
use Rattle.pas_scopes.proofs.FormLemmas.{array_words, array_part, array_ends}
use Rattle.pas_scopes.proofs.type_forms.array_of.Goals as goal

pub returns-clause-answers : goal.returns-clause-answers
returns-clause-answers c n line opened closed of_line packed index_words words indexes part before h e =
    let spellings = c.args.scopes.now.spellings.now in
    let table : Table = table_view spellings c.args.scopes.now.types in
    let ranges = c.args.ranges.now in
    let value : Made = made_view c.args.scopes.now c.no_file-element.result.value in
    let end : Ending = end_in c.no_file-element.result.end in
    let found : Made =
    record { type = type_view c.in_ok-arrays.field-0; table = table_view spellings c.arrays.new.types } in
    c.within_limit.ensures.ends (array_words n line opened closed of_line packed index_words words indexes part)
    (array_part n line opened closed of_line packed index_words words indexes part)
    (ends_moved (array_words n line opened closed of_line packed index_words words indexes part)
    (array_part n line opened closed of_line packed index_words words indexes part)
    (arrays table (map range_view ranges) value.type) found end end (c.in_ok-arrays.ensures.made spellings) refl
    (array_ends n line opened closed of_line packed index_words words indexes part (indexes_view before ranges)
    value end
    h (c.no_file-element.ensures.ends words part e)))

pub returns-clause-made : goal.returns-clause-made
returns-clause-made c =
    let spellings = c.args.scopes.now.spellings.now in
    let table : Table = table_view spellings c.args.scopes.now.types in
    ap (λ (type : CodePasType). record { type = type_view type; table = table_view spellings c.arrays.new.types })
    c.within_limit.ensures.value
    ∙ (c.in_ok-arrays.ensures.made spellings
    ∙ ap (λ (type : CodePasType). arrays table (map range_view c.args.ranges.now) (type_view type))
    c.no_file-element.ensures.value)
