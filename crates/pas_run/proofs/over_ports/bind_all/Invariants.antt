use Rattle.std.proofs.Common.{◌≡◌, map}
use Rattle.pas_typed.specs.TypedViews.{program_view}
use Rattle.pas_meaning.specs.Trial.{parameters_of}
use Rattle.pas_run.proofs.BindingLemmas.{BoundTo}
use Rattle.pas_run.proofs.over_ports.bind_all.Given as goal

abbrev pub invariant-loop-number : goal.invariant-loop-number
invariant-loop-number g l =
    BoundTo l.number (parameters_of (program_view l.program)) (map g.P.Port.told l.initial.ports.items)
    (map g.P.Port.told l.ports.items)
    × (map g.P.Port.failures l.ports.items ≡ map g.P.Port.failures l.initial.ports.items)
