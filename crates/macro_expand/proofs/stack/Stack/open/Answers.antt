use Rattle.std.proofs.Common.{◌∙◌, ◌++◌, ◌∷◌, [], ◌+◌, ◌<◌, take, ap, arith}
use Rattle.macro_expand.specs.inner.Levels.{level_of}
use Rattle.macro_expand.proofs.StackLemmas.{opens_level, one_too_many, levels_of-opened, AreLevels-as}
use Rattle.macro_expand.proofs.stack.Stack.open.Goals as goal

-- one level too many
pub returns-then-place-eq-LEVEL_LIMIT-clause-answers : goal.returns-then-place-eq-LEVEL_LIMIT-clause-answers
returns-then-place-eq-LEVEL_LIMIT-clause-answers c =
    one_too_many c.args.self.now.web.now.tokens c.args.place.steps c.args.place.level c.args.self.now.frames.items
    (level_of c.args.place.top)
    (level_of c.args.opened) (omega (arith, c.requires.within)) c.if-place-eq-LEVEL_LIMIT.true

-- the levels with the new one
pub returns-clause-answers : goal.returns-clause-answers
returns-clause-answers c =
    let few : c.args.place.level + 1 < 200 = omega (
      arith,
      c.requires.sound.few,
      c.requires.within,
      c.if-place-eq-LEVEL_LIMIT.false,
    ) in
    opens_level c.args.self.now.web.now.tokens c.args.place.steps c.args.place.level c.args.self.now.frames.items
    c.args.place.top c.args.opened
    c.push-2.new.self.items (omega (arith, c.requires.within)) few
    (c.push-2.ensures.items ∙ ap (λ items. items ++ c.args.opened ∷ []) (c.push.ensures.items
    ∙ ap (λ items. items ++ c.args.place.top ∷ []) c.truncate.ensures.items))

pub returns-clause-sound : goal.returns-clause-sound
returns-clause-sound c = record {
  lawful = c.requires.sound.lawful;
  levels = AreLevels-as c.args.self.now.web.now _ _
      (levels_of-opened (take c.args.place.level c.args.self.now.frames.items) c.args.place.top c.args.opened
      c.push-2.new.self.items
      (c.push-2.ensures.items ∙ ap (λ items. items ++ c.args.opened ∷ []) (c.push.ensures.items
      ∙ ap (λ items. items ++ c.args.place.top ∷ []) c.truncate.ensures.items)))
      c.requires.levels;
  few = omega (
    arith,
    c.push-2.ensures.len,
    c.push.ensures.len,
    c.truncate.ensures.len,
    c.requires.within,
    c.requires.sound.few,
    c.if-place-eq-LEVEL_LIMIT.false,
  );
}
