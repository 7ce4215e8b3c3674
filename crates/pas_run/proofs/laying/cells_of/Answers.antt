use Rattle.pas_run.proofs.LayingLemmas.{variable_cells}
use Rattle.pas_run.proofs.laying.cells_of.Goals as goal

pub returns-in-Declared : goal.returns-in-Declared
returns-in-Declared c lawful =
    variable_cells c.args.program.now c.args.variable.now c.cells_of.result c.in-Declared.is c.cells_of.ensures lawful
