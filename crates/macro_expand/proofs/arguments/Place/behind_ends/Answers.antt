use Rattle.std.proofs.Common.{◌∙◌, ◌<◌, ◌≡◌, ◌≤◌, length, take, true, arith, sym}
use Rattle.macro_expand.proofs.LevelsLemmas.{no_frame}
use Rattle.macro_expand.specs.inner.Levels.{level_of, levels_of, is_finished}
use Rattle.macro_expand.proofs.PlaceLemmas.{ended, ended-no_step, ended-lowest, kept}
use Rattle.macro_expand.proofs.arguments.Place.behind_ends.Goals as goal

-- no step is left for an end
pub returns-then-steps-eq0-clause-refused : goal.returns-then-steps-eq0-clause-refused
returns-then-steps-eq0-clause-refused c = λ web text.
    let finished : is_finished (level_of c.loop-top.top) ≡ true = sym c.is_finished.ensures
    ∙ c.loop-top-test.true in
    c.loop-top.invariant.found web text
    ∙ ended-no_step web.tokens text c.loop-top.steps (levels_of (take c.loop-top.level c.args.lower.now)) (level_of
    c.loop-top.top) finished
    c.if-steps-eq0.true

-- the lowest level has ended
pub returns-then-level-eq0-clause-refused : goal.returns-then-level-eq0-clause-refused
returns-then-level-eq0-clause-refused c = λ web text.
    let finished : is_finished (level_of c.loop-top.top) ≡ true = sym c.is_finished.ensures
    ∙ c.loop-top-test.true in
    let some : 0 < c.loop-top.steps = omega arith in
    c.loop-top.invariant.found web text
    ∙ ended-lowest web.tokens text c.loop-top.steps c.loop-top.level c.args.lower.now (level_of c.loop-top.top)
    finished some c.if-level-eq0.true

-- the level below it is the topmost
pub loop-top-preserved : goal.loop-top-preserved
loop-top-preserved c =
    let finished : is_finished (level_of c.loop-top.top) ≡ true = sym c.is_finished.ensures
    ∙ c.loop-top-test.true in
    let some : 0 < c.loop-top.steps = omega arith in
    let higher : 0 < c.loop-top.level = omega arith in
    let inside : c.loop-top.level ≤ length c.args.lower.now = c.loop-top.invariant.within in
    record {
      within = omega arith;
      lower = omega (arith, c.loop-top.invariant.lower);
      found = λ web text. c.loop-top.invariant.found web text
          ∙ ended web.tokens text c.loop-top.steps c.loop-top.level c.args.lower.now (level_of c.loop-top.top)
          no_frame finished some higher inside;
      kept = λ web all. kept web c.loop-top.level c.args.lower.now (level_of c.loop-top.top) no_frame higher inside
          (c.loop-top.invariant.kept web all);
    }
