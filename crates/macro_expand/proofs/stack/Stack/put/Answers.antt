use Rattle.std.proofs.Common.{◌-◌, ◌∷◌, length, take, ap, arith}
use Rattle.std.specs.List.{refill}
use Rattle.std.proofs.Math.ListN.{set, length-set}
use Rattle.macro_expand.specs.inner.Levels.{level_of, levels_of, list_of}
use Rattle.macro_expand.proofs.StackLemmas.{put_items, levels_of-put_items, AreLevels-as}
use Rattle.macro_expand.proofs.stack.Stack.put.Goals as goal

-- the topmost level is another
pub returns-clause-list : goal.returns-clause-list
returns-clause-list c =
    ap (list_of c.args.self.now.web.now.tokens) (levels_of-put_items c.args.self.now.frames.items
    c.deref_mut.result.now c.args.top
    c.len-last.result c.deref_mut.ensures.value c.len-last.ensures.value c.requires.some)

pub returns-clause-sound : goal.returns-clause-sound
returns-clause-sound c =
    let items = c.args.self.now.frames.items in
    let after = refill (length items) items (set c.deref_mut.result.now (c.len-last.result - 1) c.args.top) in
    record {
      lawful = c.requires.sound.lawful;
      levels = AreLevels-as c.args.self.now.web.now (levels_of after) (level_of c.args.top ∷ levels_of (take
          (length items - 1) items))
          (levels_of-put_items items c.deref_mut.result.now c.args.top c.len-last.result c.deref_mut.ensures.value
          c.len-last.ensures.value
          c.requires.some) c.requires.levels;
      few = omega (
        arith,
        c.requires.sound.few,
        length-set items (length items - 1) c.args.top,
        ap length (put_items items c.deref_mut.result.now c.args.top c.len-last.result c.deref_mut.ensures.value
            c.len-last.ensures.value),
      );
    }
