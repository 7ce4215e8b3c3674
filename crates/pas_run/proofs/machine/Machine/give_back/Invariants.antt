use Rattle.std.proofs.Common.{◌≡◌, ◌++◌, map, length, vec_capacity}
use Rattle.std.specs.Vec.Iter.{into_iter_items, into_iter_len}
use Rattle.pas_run.proofs.machine.Machine.give_back.Given as goal

abbrev pub invariant-loop-file : goal.invariant-loop-file
invariant-loop-file g l =
    (l.yielded ++ into_iter_items l.file-iterator ≡ into_iter_items l.initial.file-iterator)
    × (l.ports.items ≡ map (λ file. file.port) l.yielded)
    × (into_iter_len l.file-iterator ≡ length (into_iter_items l.file-iterator))
    × (vec_capacity l.ports ≡ vec_capacity l.initial.ports)
