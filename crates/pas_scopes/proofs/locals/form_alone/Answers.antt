use Rattle.std.proofs.Common.{sym, subst, Result, refl}
use Rattle.pas_syntax.specs.Words.{type_words}
use Rattle.pas_syntax.specs.ProgramViews.{type_in}
use Rattle.pas_typed.specs.declared.types.PasType.{PasType as CodePasType}
use Rattle.pas_typed.specs.TypeViews.{table_view}
use Rattle.pas_scopes.specs.declared.judged.Judged.{Judged as CodeJudged}
use Rattle.pas_scopes.specs.declared.stop.Stop.{Stop}
use Rattle.pas_rules.specs.TypeForms.{form_of}
use Rattle.pas_scopes.specs.ScopeViews.{made_view, IsClear}
use Rattle.pas_scopes.specs.TypeAnswers.{AnswersIf}
use Rattle.pas_scopes.proofs.LocalLemmas.{found_told}
use Rattle.pas_scopes.proofs.locals.form_alone.Goals as goal

pub returns-clause-answers : goal.returns-clause-answers
returns-clause-answers c s same n =
    let scopes = c.args.scopes.now in
    let spellings = scopes.spellings.now in
    let written = type_in spellings c.args.written.now in
    let part = form_of s (table_view spellings scopes.types) written in
    subst (λ (result : Result (CodeJudged CodePasType) Stop).
    AnswersIf (IsClear s) (type_words n written) part (made_view c.form_of-found.new.scopes) result)
    (sym c.first_told.ensures)
    (found_told (IsClear s) (type_words n written) part (made_view c.form_of-found.new.scopes)
    c.form_of-found.new.noted c.form_of-found.result (c.form_of-found.ensures.answers refl s same n))
