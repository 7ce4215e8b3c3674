use Rattle.std.proofs.Common.{◌≡◌, take, length}
use Rattle.pas_typed.proofs.types.Table.shorten.Given as goal

abbrev pub invariant-loop-self : goal.invariant-loop-self
invariant-loop-self l = take l.count l.self-inside.rows ≡ take l.count l.initial.self-inside.rows

abbrev pub decreases-loop-self : goal.decreases-loop-self
decreases-loop-self l = length l.self-inside.rows
