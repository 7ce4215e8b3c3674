use Rattle.pas_run.proofs.LayingLemmas.{bodies_found}
use Rattle.pas_run.proofs.laying.layouts_of.Goals as goal

pub returns-clause-found : goal.returns-clause-found
returns-clause-found c lawful = record {
  globals = c.in_ok-globals.ensures.found lawful;
  bodies = c.in_ok-bodies.ensures.found lawful;
  routines = bodies_found c.args.program.now c.in_ok-routines.routines c.in_ok-routines.ensures.found;
}
