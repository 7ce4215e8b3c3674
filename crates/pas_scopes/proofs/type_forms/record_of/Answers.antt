use Rattle.std.proofs.Common.{sym, ap, ◌∙◌}
use Rattle.pas_typed.specs.Types.{Table, fields, Made, made}
use Rattle.pas_typed.specs.TypeViews.{type_view, table_view}
use Rattle.pas_typed.specs.declared.types.PasType.{PasType as CodePasType}
use Rattle.pas_rules.specs.TypeForms.{Group}
use Rattle.pas_scopes.specs.Answers.{lawful_end, end_in}
use Rattle.pas_scopes.specs.FormAnswers.{fields_view}
use Rattle.pas_scopes.proofs.AnswerLemmas.{ends_moved}
use Rattle.pas_scopes.proofs.FormLemmas.{record_words, record_part, record_ends}
use Rattle.pas_scopes.proofs.type_forms.record_of.Goals as goal

pub returns-clause-answers : goal.returns-clause-answers
returns-clause-answers c n line packed semicolon words group h =
    let spellings = c.args.scopes.now.spellings.now in
    let table : Table = table_view spellings c.args.scopes.now.types in
    let all : Group = fields_view spellings table c.args.fields in
    let whole : Made = made table (fields all.fields) in
    let found : Made =
    record { type = type_view c.lawful.result.value; table = table_view spellings c.make.new.self } in
    c.within_limit.ensures.ends (record_words n line c.args.end packed semicolon words group)
    (record_part n line c.args.end packed semicolon words group)
    (ends_moved (record_words n line c.args.end packed semicolon words group)
    (record_part n line c.args.end packed semicolon words group) whole found (lawful_end c.args.end)
    (end_in c.lawful.result.end)
    (ap (λ (type : CodePasType). record { type = type_view type; table = table_view spellings c.make.new.self })
    c.lawful.ensures.value ∙ sym (c.in_ok-pas_type.ensures.made spellings)) c.lawful.ensures.end
    (record_ends n line c.args.end packed semicolon words group all h))

pub returns-clause-made : goal.returns-clause-made
returns-clause-made c =
    let spellings = c.args.scopes.now.spellings.now in
    ap (λ (type : CodePasType). record { type = type_view type; table = table_view spellings c.make.new.self })
    (c.within_limit.ensures.value ∙ c.lawful.ensures.value)
    ∙ sym (c.in_ok-pas_type.ensures.made spellings)
