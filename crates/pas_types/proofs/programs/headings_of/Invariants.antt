use Rattle.std.proofs.Common.{◌≡◌, ◌++◌, map, length}
use Rattle.std.specs.Vec.Iter.{into_iter_items, into_iter_len}
use Rattle.pas_types.proofs.programs.headings_of.Given as goal

abbrev pub invariant-loop-known : goal.invariant-loop-known
invariant-loop-known l = (l.yielded ++ into_iter_items l.known-iterator ≡ into_iter_items l.initial.known-iterator)
    × (l.headings ≡ map (λ known. known.heading) l.yielded)
    × (into_iter_len l.known-iterator ≡ length (into_iter_items l.known-iterator))
