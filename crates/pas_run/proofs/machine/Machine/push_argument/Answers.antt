use Rattle.std.proofs.Common.{◌++◌, List, subst, sym, ap, ◌∙◌}
use Rattle.pas_typed.specs.TypedViews.{program_view}
use Rattle.pas_run.specs.declared.arguments.Argument.{Argument as CodeArgument}
use Rattle.pas_run.specs.declared.cells.Cell.{Cell}
use Rattle.pas_run.specs.inner.Calling.{IsGiven}
use Rattle.pas_run.proofs.OpenLemmas.{named_slot, named_given}
use Rattle.pas_run.proofs.machine.Machine.push_argument.Goals as goal

pub returns-in_ok-push-in-Named-clause-found : goal.returns-in_ok-push-in-Named-clause-found
returns-in_ok-push-in-Named-clause-found g c variables result kinds at parameter value is ports run stands =
    let program = program_view c.args.scene.program.now in
    let given = subst (λ (argument : CodeArgument). IsGiven program variables parameter argument value) c.in-Named.is is
    in
    c.in_ok-push-in-Named.ensures.items
    ∙ ap (λ (cells : List Cell). c.args.cells.now.items ++ cells)
    (sym (named_given program c.args.scene.layouts.now c.args.scene.locals.now variables result kinds at parameter
    c.in-Named.slot c.in-Named.behind value given ports c.args.self.now run stands c.home_of.result
    (c.home_of.ensures variables result kinds at
    (named_slot program c.args.scene.layouts.now c.args.scene.locals.now variables result kinds at parameter
    c.in-Named.slot c.in-Named.behind value given) ports run stands) c.in_ok-at-in-Named.at
    c.in_ok-at-in-Named.ensures.found))
