use Rattle.std.proofs.Common.{sym, subst, All}
use Rattle.pas_typed.specs.TypedViews.{program_view}
use Rattle.pas_typed.specs.declared.typed.TypedProgram.{TypedProgram}
use Rattle.pas_meaning.specs.Trial.{parameters_of}
use Rattle.pas_run.specs.inner.Binding.{HasPortName}
use Rattle.pas_run.proofs.PortRunLemmas.{port_names, reports_by}
use Rattle.pas_run.proofs.over_ports.run.Goals as goal

pub stop_of_run-requires-clause-names : goal.stop_of_run-requires-clause-names
stop_of_run-requires-clause-names g c =
    subst (λ (program : TypedProgram). All HasPortName (parameters_of (program_view program)))
    (sym c.program.ensures.program) (port_names (program_view c.args.program.now) c.program.ensures.names)

pub returns-clause-reports : goal.returns-clause-reports
returns-clause-reports g c given same =
    reports_by _ c.args.ports.now.items c.stop_of_run.new.ports.items c.args.program.now c.program.result.now given
    c.args.steps c.stop_of_run.result c.answer.result c.program.ensures.program c.answer.ensures
    c.stop_of_run.ensures.reports same
