use Rattle.std.proofs.Common.{◌≤◌, ◌≡◌, ◌∙◌, ◌+◌, suc, length, take, sym, ap, subst, arith, ◌∷◌}
use Rattle.std.proofs.lemmas.List.{length-take-le}
use Rattle.macro_expand.specs.Expansion.{replaced}
use Rattle.macro_expand.specs.inner.Levels.{level_of, levels_of, list_of, argument_of, IsLevel}
use Rattle.macro_expand.specs.inner.Places.{levels_at}
use Rattle.macro_expand.specs.Flat.{nothing, ends, text_before}
use Rattle.macro_expand.proofs.LevelsLemmas.{length-levels_of}
use Rattle.macro_expand.proofs.StackLemmas.{Answers-as, IsLevel-macro, list_of-macro}
use Rattle.macro_expand.proofs.stack.Stack.open_text.Goals as goal

-- the new level
pub open-requires-clause-levels : goal.open-requires-clause-levels
open-requires-clause-levels c =
    let lower = take c.args.place.level c.args.self.now.frames.items in
    let long : length (levels_of lower) ≡ c.args.place.level =
    length-levels_of lower ∙ length-take-le c.args.place.level c.args.self.now.frames.items (omega (
      arith,
      c.requires.within,
    )) in
    let web = c.args.self.now.web.now in
    let number = c.args.place.level + 1 in
    let same : number ≡ suc (length (levels_of lower)) = omega arith in
    let opened : IsLevel web number (level_of c.of_macro.result) =
    subst (IsLevel web number) (sym c.of_macro.ensures)
    (IsLevel-macro web number c.args.text.now c.args.argument.text.now c.args.argument.environment c.requires.text
    c.requires.argument
    (omega (arith, c.requires.environment)) (λ some. omega (arith, c.requires.environment))) in
    (subst (λ number. IsLevel web number (level_of c.of_macro.result)) same opened, c.requires.levels)

-- it gives the text
pub returns-clause-answers : goal.returns-clause-answers
returns-clause-answers c =
    let items = c.args.self.now.frames.items in
    let place = c.args.place in
    let lower = levels_at place items in
    let frames = take place.level items in
    let short : place.level ≤ length items = omega (arith, c.requires.within) in
    let long : length (levels_of frames) ≡ place.level =
    length-levels_of frames ∙ length-take-le place.level items short in
    let tokens = c.args.self.now.web.now.tokens in
    let argument = c.args.argument in
    let text = c.args.text.now in
    let number = place.level + 1 in
    let height : number ≡ length lower = omega arith in
    Answers-as (replaced place.steps (list_of tokens (level_of c.of_macro.result ∷ lower)))
    (replaced place.steps
    (text_before (text_before (argument_of lower argument.environment) argument.text.now nothing) text
    (ends (list_of tokens lower)))) c.open.result c.open.new.self
    (ap (replaced place.steps)
    (sym (list_of-macro tokens text argument.text.now number argument.environment lower height)
    ∙ ap (λ opened. list_of tokens (opened ∷ lower)) (sym c.of_macro.ensures)))
    c.open.ensures.answers
