use Rattle.std.proofs.Common.{◌∙◌, sym}
use Rattle.pas_syntax.proofs.RoutineSteps.{forward_passed, no_forward}
use Rattle.pas_syntax.proofs.routines.forward.Goals as goal

pub returns-then-comes : goal.returns-then-comes
returns-then-comes c =
    forward_passed c.requires.name c.requires.fits (sym c.if-comes.true ∙ c.comes.ensures c.requires.name)
    c.pass.ensures

pub returns-else-comes : goal.returns-else-comes
returns-else-comes c =
    no_forward c.requires.name c.requires.fits (sym c.if-comes.false ∙ c.comes.ensures c.requires.name)
