use Rattle.std.proofs.Common.{◌≡◌, ◌∙◌, ◌<◌, ◌-◌, ◌∷◌, [], length, take, get_or, sym, ap}
use Rattle.std.proofs.Common.{arith}
use Rattle.std.proofs.lemmas.List.{length-take-le}
use Rattle.macro_expand.proofs.LevelsLemmas.{no_frame}
use Rattle.macro_expand.specs.Expansion.{replaced}
use Rattle.macro_expand.specs.Flat.{followed_by, ends}
use Rattle.macro_expand.specs.inner.Levels.{level_of, levels_of, list_of, argument_of, IsLevel}
use Rattle.macro_expand.specs.inner.Places.{levels_at}
use Rattle.macro_expand.proofs.LevelsLemmas.{length-levels_of, IsLevel-frame}
use Rattle.macro_expand.proofs.StackLemmas.{Answers-as, AreLevels-opened, replaced-as, IsLevel-argument}
use Rattle.macro_expand.proofs.StackLemmas.{list_of-argument, macro_level}
use Rattle.macro_expand.proofs.StackLemmas.{argument_of-topmost}
use Rattle.macro_expand.proofs.stack.Stack.open_argument.Goals as goal

-- the level whose argument is meant is open
pub offset_bounds-deref-top : goal.offset_bounds-deref-top
offset_bounds-deref-top c =
    let items = c.args.self.now.frames.items in
    let long : length (levels_of (take (length items - 1) items)) ≡ length items - 1 =
    length-levels_of (take (length items - 1) items) ∙ length-take-le (length items - 1) items (omega arith) in
    omega (arith, c.requires.levels.0.environment, c.requires.sound.few)

pub bounds-deref-top : goal.bounds-deref-top
bounds-deref-top c =
    let items = c.args.self.now.frames.items in
    let long : length (levels_of (take (length items - 1) items)) ≡ length items - 1 =
    length-levels_of (take (length items - 1) items) ∙ length-take-le (length items - 1) items (omega arith) in
    omega (arith, c.requires.levels.0.environment, ap length c.deref.ensures.0)

pub open-requires-clause-levels : goal.open-requires-clause-levels
open-requires-clause-levels c =
    let items = c.args.self.now.frames.items in
    let lower = level_of c.args.top ∷ levels_of (take (length items - 1) items) in
    let long : length (levels_of (take (length items - 1) items)) ≡ length items - 1 =
    length-levels_of (take (length items - 1) items) ∙ length-take-le (length items - 1) items (omega arith) in
    let web = c.args.self.now.web.now in
    let at = c.args.top.environment in
    let within : at < length items = omega (arith, c.requires.levels.0.environment) in
    let found = get_or items at no_frame in
    let kept : IsLevel web at (level_of found) =
    IsLevel-frame web [] items at at no_frame c.requires.sound.levels within (omega arith) in
    AreLevels-opened web (length items) (macro_level found.argument.text.now found.argument.environment [] 0)
    (level_of c.of_argument.result) lower
    (levels_at c.place_of.result items)
    (c.of_argument.ensures ∙ ap (λ items. let found = get_or items at no_frame in
    macro_level found.argument.text.now found.argument.environment [] 0) c.deref.ensures.0)
    c.place_of.ensures.levels (omega arith)
    (IsLevel-argument web (length items) found.argument.text.now found.argument.environment kept.argument (omega
    (arith, kept.meant)))
    c.requires.levels

-- it gives the argument
pub returns-clause-answers : goal.returns-clause-answers
returns-clause-answers c =
    let items = c.args.self.now.frames.items in
    let top = level_of c.args.top in
    let below = levels_of (take (length items - 1) items) in
    let all = top ∷ below in
    let long : length below ≡ length items - 1 =
    length-levels_of (take (length items - 1) items) ∙ length-take-le (length items - 1) items (omega arith) in
    let web = c.args.self.now.web.now in
    let tokens = web.tokens in
    let steps = c.args.self.now.steps - 1 in
    let at = c.args.top.environment in
    let within : at < length items = omega (arith, c.requires.levels.0.environment) in
    let found = get_or items at no_frame in
    let text = found.argument.text.now in
    let meant = found.argument.environment in
    let kept : IsLevel web at (level_of found) =
    IsLevel-frame web [] items at at no_frame c.requires.sound.levels within (omega arith) in
    let under : meant < length all = omega (arith, kept.meant) in
    let opened : level_of c.of_argument.result ≡ macro_level text meant [] 0 =
    c.of_argument.ensures ∙ ap (λ items. let found = get_or items at no_frame in
    macro_level found.argument.text.now found.argument.environment [] 0) c.deref.ensures.0 in
    Answers-as (replaced c.place_of.result.steps (list_of tokens (level_of c.of_argument.result
    ∷ levels_at c.place_of.result items)))
    (replaced steps (followed_by (argument_of all at) (ends (list_of tokens all)))) c.open.result c.open.new.self
    (ap (λ given. replaced steps (followed_by given (ends (list_of tokens all))))
    (argument_of-topmost web items c.args.top no_frame top at c.requires.sound.levels within c.requires.same)
    ∙ ap (replaced steps) (sym (list_of-argument tokens text meant all under))
    ∙ replaced-as tokens steps c.place_of.result.steps (macro_level text meant [] 0) (level_of c.of_argument.result) all
    (levels_at c.place_of.result items) opened c.place_of.ensures.levels c.place_of.ensures.steps)
    c.open.ensures.answers
