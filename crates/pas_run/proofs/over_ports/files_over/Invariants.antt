use Rattle.std.proofs.Common.{◌≡◌, ◌++◌, map, length, take, vec_capacity}
use Rattle.std.specs.Vec.Iter.{into_iter_items, into_iter_len}
use Rattle.pas_typed.specs.TypedViews.{program_view}
use Rattle.pas_meaning.specs.Trial.{parameters_of}
use Rattle.pas_run.specs.inner.Binding.{state_at_start}
use Rattle.pas_run.proofs.over_ports.files_over.Given as goal

abbrev pub invariant-loop-port : goal.invariant-loop-port
invariant-loop-port g l =
    (l.yielded ++ into_iter_items l.port-iterator ≡ into_iter_items l.initial.port-iterator)
    × (map (λ file. file.port) l.files.items ≡ l.yielded)
    × (map (λ file. file.state) l.files.items
    ≡ map state_at_start (take (length l.files.items) (parameters_of (program_view l.program))))
    × (into_iter_len l.port-iterator ≡ length (into_iter_items l.port-iterator))
    × (vec_capacity l.files ≡ vec_capacity l.initial.files)
