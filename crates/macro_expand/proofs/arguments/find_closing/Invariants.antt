use Rattle.std.proofs.Common.{◌≡◌, ◌+◌, ◌≤◌, drop}
use Rattle.std.specs.Option.{option_map}
use Rattle.macro_expand.specs.inner.Places.{closing_place}
use Rattle.macro_expand.proofs.arguments.find_closing.Given as goal

-- the `)` is sought in what is left, behind so many tokens
abbrev pub invariant-loop-index : goal.invariant-loop-index
invariant-loop-index l = record {
  place : closing_place 0 l.text ≡ option_map (λ count. l.index + count) (closing_place l.depth (drop l.index
      l.text));
  few : l.depth ≤ l.index;
}
