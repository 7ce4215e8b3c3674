use Rattle.std.proofs.Common.{◌≡◌, ◌≤◌, List, ◌∷◌, length, take}
use Rattle.wb_base.specs.declared.tokens.Tok.{Tok}
use Rattle.web_scan.specs.Scanned.{Scanned}
use Rattle.macro_expand.specs.Expansion.{with_argument}
use Rattle.macro_expand.specs.inner.Levels.{level_of, levels_of, list_of, AreLevels}
use Rattle.macro_expand.specs.inner.Places.{levels_at}
use Rattle.macro_expand.proofs.arguments.Place.behind_ends.Given as goal

-- the argument is sought from here on
abbrev pub invariant-loop-top : goal.invariant-loop-top
invariant-loop-top l = record {
  within : l.level ≤ length l.lower;
  lower : l.level ≤ l.fn.self.level;
  found : (web : Scanned) (text : List Tok)
      → with_argument text l.fn.self.steps (list_of web.tokens (levels_at l.fn.self l.lower))
      ≡ with_argument text l.steps (list_of web.tokens (level_of l.top ∷ levels_of (take l.level l.lower)));
  kept : (web : Scanned) → AreLevels web (levels_at l.fn.self l.lower)
      → AreLevels web (level_of l.top ∷ levels_of (take l.level l.lower));
}

-- each end takes a step
abbrev pub decreases-loop-top : goal.decreases-loop-top
decreases-loop-top l = l.steps
