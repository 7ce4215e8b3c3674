use Rattle.std.proofs.Common.{◌<◌, arith, ap, get_or, length, refl, sym, subst, map, true, false, ◌∙◌, slice_set}
use Rattle.std.proofs.Common.{Result}
use Rattle.std.specs.Prelude.{is_err}
use Rattle.std.proofs.lemmas.Result.{err_from_is_err_and}
use Rattle.wb_ports.specs.declared.answers.Failed.{Failed}
use Rattle.std.proofs.lemmas.List.{length-set}
use Rattle.pas_typed.specs.TypedViews.{program_view}
use Rattle.pas_meaning.specs.Trial.{no_variable, parameters_of}
use Rattle.pas_run.specs.WholeRuns.{CountsFailures}
use Rattle.pas_run.proofs.RunLemmas.{parameter_there, length-parameters}
use Rattle.pas_run.proofs.BindingLemmas.{bound_one, hold_not_bound, counts_at, as_many_ports, ports_bound, ports_hold}
use Rattle.pas_run.proofs.over_ports.bind_all.Goals as goal

pub loop-number-init : goal.loop-number-init
loop-number-init g c = (refl, refl)

pub bind-requires : goal.bind-requires
bind-requires g c =
    let program = program_view c.args.program.now in
    let i = c.loop-number.number in
    let found = get_or (parameters_of program) i no_variable in
    let many = as_many_ports g.P.Port.failures c.loop-number.ports.items c.args.ports.now.items
    c.loop-number.invariant.1 in
    let within : i < length program.files =
    omega (arith, many, c.loop-number-test.true, c.len-number-end.ensures, c.requires.many) in
    let named = c.name_of.ensures found (parameter_there program i within) in
    omega (
      arith,
      ap length named,
      c.requires.names i no_variable (omega (arith, within, length-parameters program)),
    )

pub loop-number-preserved : goal.loop-number-preserved
loop-number-preserved g c =
    let program = program_view c.args.program.now in
    let i = c.loop-number.number in
    let found = get_or (parameters_of program) i no_variable in
    let ports = c.loop-number.ports.items in
    let many = as_many_ports g.P.Port.failures ports c.args.ports.now.items c.loop-number.invariant.1 in
    let less : i < length ports = omega (arith, many, c.loop-number-test.true, c.len-number-end.ensures) in
    let there = parameter_there program i (omega (arith, less, many, c.requires.many)) in (
      bound_one g.P.Port.told g.P.Port.failures (parameters_of program) c.args.ports.now.items i ports
          c.index_mut.result.now c.bind.new.self less c.index_mut.ensures.value found c.name_of.result.now there
          (c.name_of.ensures found there) c.loop-number.invariant.0 many c.in_ok-bind.ensures.ok,
      counts_at g.P.Port.told g.P.Port.failures (parameters_of program) c.args.ports.now.items i ports
          c.index_mut.result.now c.bind.new.self less c.index_mut.ensures.value false c.in_ok-bind.ensures.cause
          ∙ c.loop-number.invariant.1,
    )

pub returns-in_err-bind-clause-bytes : goal.returns-in_err-bind-clause-bytes
returns-in_err-bind-clause-bytes g c bytes hold =
    let program = program_view c.args.program.now in
    let i = c.loop-number.number in
    let ports = c.loop-number.ports.items in
    let many = as_many_ports g.P.Port.failures ports c.args.ports.now.items c.loop-number.invariant.1 in
    let less : i < length ports = omega (arith, many, c.loop-number-test.true, c.len-number-end.ensures) in
    hold_not_bound g.P.Port.told g.P.Port.failures (parameters_of program) c.args.ports.now.items i ports
    c.index_mut.result.now c.bind.new.self less c.index_mut.ensures.value bytes c.loop-number.invariant.0
    c.in_err-bind.ensures.failed hold

pub returns-in_err-bind-clause-many : goal.returns-in_err-bind-clause-many
returns-in_err-bind-clause-many g c =
    length-set c.loop-number.ports.items c.loop-number.number c.bind.new.self
    ∙ as_many_ports g.P.Port.failures c.loop-number.ports.items c.args.ports.now.items c.loop-number.invariant.1

pub returns-in_err-bind-clause-cause : goal.returns-in_err-bind-clause-cause
returns-in_err-bind-clause-cause g c =
    let program = program_view c.args.program.now in
    let i = c.loop-number.number in
    let ports = c.loop-number.ports.items in
    let many = as_many_ports g.P.Port.failures ports c.args.ports.now.items c.loop-number.invariant.1 in
    let less : i < length ports = omega (arith, many, c.loop-number-test.true, c.len-number-end.ensures) in
    let is = err_from_is_err_and _ c.from_residual.ensures.1 in
    subst (λ (result : Result (Unit {0}) Failed). CountsFailures (is_err result)
    (map g.P.Port.failures c.args.ports.now.items)
    (map g.P.Port.failures (slice_set ports i c.bind.new.self))) (sym is.1)
    (subst (λ before. CountsFailures true before (map g.P.Port.failures (slice_set ports i c.bind.new.self)))
    c.loop-number.invariant.1
    (counts_at g.P.Port.told g.P.Port.failures (parameters_of program) c.args.ports.now.items i ports
    c.index_mut.result.now c.bind.new.self less c.index_mut.ensures.value true c.in_err-bind.ensures.cause))

pub returns-clause-bound : goal.returns-clause-bound
returns-clause-bound g c =
    let program = program_view c.args.program.now in
    ports_bound g.P.Port.told (parameters_of program) c.args.ports.now.items c.loop-number.ports.items
    c.loop-number.number c.loop-number.invariant.0
    (omega (arith, c.loop-number-test.false, c.len-number-end.ensures))
    (omega (arith, c.requires.many, length-parameters program))

pub returns-clause-bytes : goal.returns-clause-bytes
returns-clause-bytes g c bytes hold =
    ports_hold g.P.Port.told (parameters_of (program_view c.args.program.now)) c.args.ports.now.items
    c.loop-number.ports.items c.loop-number.number bytes c.loop-number.invariant.0 hold

pub returns-clause-many : goal.returns-clause-many
returns-clause-many g c =
    as_many_ports g.P.Port.failures c.loop-number.ports.items c.args.ports.now.items c.loop-number.invariant.1
