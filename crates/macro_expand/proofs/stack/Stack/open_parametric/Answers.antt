use Rattle.std.proofs.Common.{◌≡◌, ◌∙◌, ◌≤◌, ◌-◌, ◌∷◌, length, take, sym, ap, arith}
use Rattle.std.proofs.lemmas.List.{length-take-le}
use Rattle.std.proofs.lemmas.Result.{err_from_is_err_and}
use Rattle.macro_expand.specs.Expansion.{replaced, with_argument}
use Rattle.macro_expand.specs.Flat.{nothing, ends, text_before}
use Rattle.macro_expand.specs.inner.Levels.{level_of, levels_of, list_of, argument_of, AreLevels}
use Rattle.macro_expand.specs.inner.Places.{levels_at, IsTaken}
use Rattle.macro_expand.proofs.LevelsLemmas.{length-levels_of}
use Rattle.macro_expand.proofs.StackLemmas.{Answers-as, AreLevels-as, sought_at}
use Rattle.macro_expand.proofs.stack.Stack.open_parametric.Goals as goal

-- no argument behind the ends
pub returns-in_err-place-clause-answers : goal.returns-in_err-place-clause-answers
returns-in_err-place-clause-answers c =
    let items = c.args.self.now.frames.items in
    let lower = level_of c.args.top ∷ levels_of (take (length items - 1) items) in
    let web = c.args.self.now.web.now in
    let p = err_from_is_err_and c.from_residual.result c.from_residual.ensures.1 in
    rw (p.1, p.2) (sought_at web.tokens c.args.text.now (c.args.self.now.steps - 1) lower c.place_of.result items
    c.deref.result.now
    c.place_of.ensures.levels c.place_of.ensures.steps c.deref.ensures.0
    ∙ c.in_err-place.ensures.refused web c.args.text.now)

pub returns-in_err-argument-clause-answers : goal.returns-in_err-argument-clause-answers
returns-in_err-argument-clause-answers c =
    let items = c.args.self.now.frames.items in
    let frames = c.deref.result.now in
    let lower = level_of c.args.top ∷ levels_of (take (length items - 1) items) in
    let web = c.args.self.now.web.now in
    let text = c.args.text.now in
    let here : AreLevels web (levels_at c.place_of.result frames) =
    AreLevels-as web (levels_at c.place_of.result frames) lower
    (ap (levels_at c.place_of.result) c.deref.ensures.0 ∙ c.place_of.ensures.levels) c.requires.levels in
    let p = err_from_is_err_and c.from_residual-in_err-argument.result c.from_residual-in_err-argument.ensures.1 in
    rw (p.1, p.2) (sought_at web.tokens text (c.args.self.now.steps - 1) lower c.place_of.result items frames
    c.place_of.ensures.levels c.place_of.ensures.steps c.deref.ensures.0 ∙ c.in_ok-place.ensures.found web text
    ∙ c.in_err-argument.ensures.refused web (levels_of (take c.in_ok-place.place.level frames)) text
    (c.in_ok-place.ensures.kept web here))

-- the level behind the argument
pub open_text-requires-clause-within : goal.open_text-requires-clause-within
open_text-requires-clause-within c =
    let items = c.args.self.now.frames.items in
    let frames = c.deref.result.now in
    let lower = level_of c.args.top ∷ levels_of (take (length items - 1) items) in
    let web = c.args.self.now.web.now in
    let here : AreLevels web (levels_at c.place_of.result frames) =
    AreLevels-as web (levels_at c.place_of.result frames) lower
    (ap (levels_at c.place_of.result) c.deref.ensures.0 ∙ c.place_of.ensures.levels) c.requires.levels in
    let below = levels_of (take c.in_ok-place.place.level frames) in
    let taken : IsTaken web below c.in_ok-place.place c.in_ok-argument.argument c.in_ok-argument.place =
    c.in_ok-argument.ensures.taken web below (c.in_ok-place.ensures.kept web here) in
    omega (arith, taken.level, c.in_ok-place.ensures.lower, c.place_of.ensures.level)

pub open_text-requires-clause-levels : goal.open_text-requires-clause-levels
open_text-requires-clause-levels c =
    let items = c.args.self.now.frames.items in
    let frames = c.deref.result.now in
    let lower = level_of c.args.top ∷ levels_of (take (length items - 1) items) in
    let web = c.args.self.now.web.now in
    let here : AreLevels web (levels_at c.place_of.result frames) =
    AreLevels-as web (levels_at c.place_of.result frames) lower
    (ap (levels_at c.place_of.result) c.deref.ensures.0 ∙ c.place_of.ensures.levels) c.requires.levels in
    let below = levels_of (take c.in_ok-place.place.level frames) in
    let taken : IsTaken web below c.in_ok-place.place c.in_ok-argument.argument c.in_ok-argument.place =
    c.in_ok-argument.ensures.taken web below (c.in_ok-place.ensures.kept web here) in
    AreLevels-as web (levels_at c.in_ok-argument.place items) (level_of c.in_ok-argument.place.top ∷ below)
    (ap (λ level. level_of c.in_ok-argument.place.top ∷ levels_of (take level items)) taken.level
    ∙ ap (λ frames. level_of c.in_ok-argument.place.top ∷ levels_of (take c.in_ok-place.place.level frames)) (sym
    c.deref.ensures.0)) taken.levels

pub open_text-requires-clause-argument : goal.open_text-requires-clause-argument
open_text-requires-clause-argument c =
    let items = c.args.self.now.frames.items in
    let frames = c.deref.result.now in
    let lower = level_of c.args.top ∷ levels_of (take (length items - 1) items) in
    let web = c.args.self.now.web.now in
    let here : AreLevels web (levels_at c.place_of.result frames) =
    AreLevels-as web (levels_at c.place_of.result frames) lower
    (ap (levels_at c.place_of.result) c.deref.ensures.0 ∙ c.place_of.ensures.levels) c.requires.levels in
    (c.in_ok-argument.ensures.taken web (levels_of (take c.in_ok-place.place.level frames))
    (c.in_ok-place.ensures.kept web here)).text

pub open_text-requires-clause-environment : goal.open_text-requires-clause-environment
open_text-requires-clause-environment c =
    let items = c.args.self.now.frames.items in
    let frames = c.deref.result.now in
    let lower = level_of c.args.top ∷ levels_of (take (length items - 1) items) in
    let web = c.args.self.now.web.now in
    let here : AreLevels web (levels_at c.place_of.result frames) =
    AreLevels-as web (levels_at c.place_of.result frames) lower
    (ap (levels_at c.place_of.result) c.deref.ensures.0 ∙ c.place_of.ensures.levels) c.requires.levels in
    let below = levels_of (take c.in_ok-place.place.level frames) in
    let taken : IsTaken web below c.in_ok-place.place c.in_ok-argument.argument c.in_ok-argument.place =
    c.in_ok-argument.ensures.taken web below (c.in_ok-place.ensures.kept web here) in
    let inside : c.in_ok-place.place.level ≤ length frames =
    omega (arith, c.in_ok-place.ensures.lower, c.place_of.ensures.level, ap length c.deref.ensures.0) in
    let long : length below ≡ c.in_ok-place.place.level =
    length-levels_of (take c.in_ok-place.place.level frames) ∙ length-take-le c.in_ok-place.place.level frames
    inside in
    omega (arith, taken.level, taken.environment)

pub returns-clause-answers : goal.returns-clause-answers
returns-clause-answers c =
    let items = c.args.self.now.frames.items in
    let frames = c.deref.result.now in
    let lower = level_of c.args.top ∷ levels_of (take (length items - 1) items) in
    let web = c.args.self.now.web.now in
    let here : AreLevels web (levels_at c.place_of.result frames) =
    AreLevels-as web (levels_at c.place_of.result frames) lower
    (ap (levels_at c.place_of.result) c.deref.ensures.0 ∙ c.place_of.ensures.levels) c.requires.levels in
    let below = levels_of (take c.in_ok-place.place.level frames) in
    let taken : IsTaken web below c.in_ok-place.place c.in_ok-argument.argument c.in_ok-argument.place =
    c.in_ok-argument.ensures.taken web below (c.in_ok-place.ensures.kept web here) in
    let text = c.args.text.now in
    let steps = c.args.self.now.steps - 1 in
    let behind = levels_at c.in_ok-argument.place items in
    let argument = c.in_ok-argument.argument in
    let same : level_of c.in_ok-argument.place.top ∷ below ≡ behind =
    ap (λ frames. level_of c.in_ok-argument.place.top ∷ levels_of (take c.in_ok-place.place.level frames))
    c.deref.ensures.0
    ∙ ap (λ level. level_of c.in_ok-argument.place.top ∷ levels_of (take level items)) (sym taken.level) in
    Answers-as (replaced c.in_ok-argument.place.steps (text_before
    (text_before (argument_of behind argument.environment) argument.text.now nothing) text (ends (list_of
    web.tokens behind))))
    (with_argument text steps (list_of web.tokens lower)) c.open_text.result c.open_text.new.self
    (sought_at web.tokens text steps lower c.place_of.result items frames c.place_of.ensures.levels
    c.place_of.ensures.steps c.deref.ensures.0
    ∙ c.in_ok-place.ensures.found web text ∙ taken.list text
    ∙ ap (λ behind. replaced c.in_ok-argument.place.steps (text_before
    (text_before (argument_of behind argument.environment) argument.text.now nothing) text (ends (list_of
    web.tokens behind)))) same)
    c.open_text.ensures.answers
