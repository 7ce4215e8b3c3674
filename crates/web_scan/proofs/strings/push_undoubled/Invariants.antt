use Rattle.std.proofs.Common.{◌≡◌, ◌-◌, ◌++◌, length, drop}
use Rattle.web_scan.specs.Texts.{undoubled}
use Rattle.web_scan.proofs.strings.push_undoubled.Given as goal

abbrev pub invariant-loop-index : goal.invariant-loop-index
invariant-loop-index l =
    l.initial.text ++ undoubled l.doubled l.bytes ≡ l.text ++ undoubled l.doubled (drop l.index l.bytes)

abbrev pub decreases-loop-index : goal.decreases-loop-index
decreases-loop-index l = length l.bytes - l.index
