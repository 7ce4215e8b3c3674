use Rattle.std.proofs.Common.{◌≡◌, sym, ap, subst, ◌∙◌, ℕ, List, [], ◌∷◌, ◌++◌, Option, Err}
use Rattle.pas_tokens.specs.declared.kinds.Kind.TheVariants as k
use Rattle.std.proofs.lemmas.Result.{err_from_is_err_and}
use Rattle.pas_syntax.specs.Tree as tree
use Rattle.pas_syntax.specs.Words.{at, body_words, routine_words}
use Rattle.pas_syntax.specs.ProgramViews.{body_in, routine_in}
use Rattle.pas_typed.specs.TypedViews.{body_view}
use Rattle.pas_scopes.specs.declared.scopes.Scopes.{Scopes as CodeScopes}
use Rattle.pas_scopes.specs.declared.stop.Stop.{Stop}
use Rattle.pas_rules.specs.Scopes.{Outer}
use Rattle.pas_rules.specs.Routines.{HeadingParts, routine_by, routine_of}
use Rattle.pas_scopes.specs.ScopeViews.{outer_view}
use Rattle.pas_types.specs.inner.RoutineAnswers.{parts_in}
use Rattle.pas_types.specs.inner.BlockAnswers.{IsRoutine}
use Rattle.pas_types.specs.inner.LabelViews.{numbers_of}
use Rattle.pas_scopes.proofs.LocalRowLemmas.{stopped}
use Rattle.pas_types.proofs.RoutineSteps.{head_fails, routine_answer, head_words, head_stage, first, second_is}
use Rattle.pas_types.proofs.routines.routine_of.Goals as goal

pub returns-in_err-number-clause-goes : goal.returns-in_err-number-clause-goes
returns-in_err-number-clause-goes c ready program_is =
    let old : CodeScopes = c.args.scopes.now in
    let new : CodeScopes = c.headed.new.scopes in
    let spellings = old.spellings.now in
    let outer : Outer = outer_view old in
    let found : tree.Routine = routine_in spellings c.args.routine.now in
    let head = c.head_of-head.result in
    let parts : HeadingParts = parts_in spellings head in
    let waits : Option ℕ = c.awaited-found.result in
    let parts_are = c.head_of-head.ensures.parts spellings in
    let stage = head_stage outer found parts head.end waits parts_are c.head_of-head.ensures.end
    c.awaited-found.ensures.number in
    let words = head_words outer found parts head.end waits parts_are c.head_of-head.ensures.end
    c.awaited-found.ensures.number in
    let why : Stop = c.in_err-number.field-0.0 in
    stopped (IsRoutine (routine_words found) (routine_of outer found) (body_view spellings) new) why
    c.from_residual.result (err_from_is_err_and _ c.from_residual.ensures.1)
    (routine_answer outer found parts head.end waits parts_are c.head_of-head.ensures.end
    c.awaited-found.ensures.number (body_view spellings) new (Err why)
    (head_fails words stage parts.sort found.end why
    (c.in_err-number.ensures.heads (first outer found parts head.end waits parts_are c.head_of-head.ensures.end
    c.awaited-found.ensures.number) ready c.awaited-found.ensures.waits) found.body))

pub returns-clause-goes : goal.returns-clause-goes
returns-clause-goes c ready program_is =
    let old : CodeScopes = c.args.scopes.now in
    let now : CodeScopes = c.headed.new.scopes in
    let new : CodeScopes = c.body_behind.new.scopes in
    let spellings = old.spellings.now in
    let outer : Outer = outer_view old in
    let found : tree.Routine = routine_in spellings c.args.routine.now in
    let head = c.head_of-head.result in
    let parts : HeadingParts = parts_in spellings head in
    let waits : Option ℕ = c.awaited-found.result in
    let parts_are = c.head_of-head.ensures.parts spellings in
    let stage = head_stage outer found parts head.end waits parts_are c.head_of-head.ensures.end
    c.awaited-found.ensures.number in
    let words = head_words outer found parts head.end waits parts_are c.head_of-head.ensures.end
    c.awaited-found.ensures.number in
    let heads = c.in_ok-number.ensures.heads (first outer found parts head.end waits parts_are
    c.head_of-head.ensures.end c.awaited-found.ensures.number) ready c.awaited-found.ensures.waits in
    let seen : now.spellings.now ≡ spellings = ap (λ (s : CodeScopes). s.spellings.now) c.in_ok-number.ensures.kept in
    let labels : numbers_of c.args.program.now ≡ now.labels =
    program_is ∙ sym (ap (λ (s : CodeScopes). s.labels) c.in_ok-number.ensures.kept) in
    routine_answer outer found parts head.end waits parts_are c.head_of-head.ensures.end
    c.awaited-found.ensures.number (body_view spellings) new c.body_behind.result
    (subst (λ (s : List ℕ). IsRoutine (words ++ (body_words (body_in s c.args.routine.now.body)
    ++ at 0 k.Semicolon found.end ∷ [])) (routine_by stage parts.sort (body_in s c.args.routine.now.body))
    (body_view s) new c.body_behind.result) seen
    (c.body_behind.ensures.goes words stage heads (second_is outer parts waits) labels found.end))
