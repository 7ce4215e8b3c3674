use Rattle.std.proofs.Common.{◌≡◌, ◌≤◌, ◌++◌, List, length}
use Rattle.pas_tokens.specs.Tokens.{Token}
use Rattle.pas_syntax.specs.Regions.{records_of, stage_of}
use Rattle.pas_syntax.specs.inner.RegionViews.{stage_in}
use Rattle.pas_syntax.proofs.regions.part_behind.Given as goal

-- these tokens were passed, and this is known of them
abbrev pub invariant-loop : goal.invariant-loop
invariant-loop l = record {
  front : List Token;
  split : l.initial.cursor ≡ front ++ l.cursor;
  count : l.counter ≡ length front;
  records : l.region.records ≡ records_of front;
  stage : stage_in l.region.stage ≡ stage_of front;
  few : l.region.records ≤ l.counter;
}
