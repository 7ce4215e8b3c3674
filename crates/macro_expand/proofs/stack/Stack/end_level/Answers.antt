use Rattle.std.proofs.Common.{◌∙◌, ◌-◌, length, take, ap, arith}
use Rattle.macro_expand.specs.inner.Levels.{levels_of}
use Rattle.macro_expand.proofs.LevelsLemmas.{no_frame}
use Rattle.macro_expand.proofs.StackLemmas.{AreLevels-as, AreLevels-below}
use Rattle.macro_expand.proofs.stack.Stack.end_level.Goals as goal

-- the levels below the topmost
pub returns-clause-sound : goal.returns-clause-sound
returns-clause-sound c =
    let items = c.args.self.now.frames.items in
    record {
      lawful = c.requires.sound.lawful;
      levels = AreLevels-as c.args.self.now.web.now (levels_of c.truncate.new.self.items) (levels_of (take (length
          items - 1) items))
          (ap levels_of c.truncate.ensures.items ∙ ap (λ count. levels_of (take (count - 1) items))
          c.len-last.ensures.value)
          (AreLevels-below c.args.self.now.web.now items no_frame (length items - 1) (omega arith)
          c.requires.sound.levels);
      few = omega (arith, c.truncate.ensures.len, c.requires.sound.few);
    }
