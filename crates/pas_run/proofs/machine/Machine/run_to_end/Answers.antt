use Rattle.std.proofs.Common.{refl, sym}
use Rattle.pas_typed.specs.TypedViews.{program_view}
use Rattle.pas_meaning.specs.Trial.{parameters_of, run_at_start, pascal_trial}
use Rattle.pas_meaning.proofs.TrialLemmas.{bytes_given, trial_tells}
use Rattle.pas_run.proofs.RunLemmas.{trial_ends, trial_gives}
use Rattle.pas_run.proofs.machine.Machine.run_to_end.Goals as goal

pub returns-in-Ok-clause-ends : goal.returns-in-Ok-clause-ends
returns-in-Ok-clause-ends g c kinds ports given at many stands =
    let program = program_view c.args.scene.program.now in
    let steps = c.args.self.now.steps in
    c.finished.ensures.ends ports given (run_at_start program given steps).world (pascal_trial program given steps) refl
    (sym (bytes_given (parameters_of program) given many)) (trial_tells program given steps many)
    (trial_gives program given steps kinds ports c.args.self.now c.whole_run.new.self stands
    (c.in-Ok.ensures.does kinds at steps))

pub returns-in-Err-clause-ends : goal.returns-in-Err-clause-ends
returns-in-Err-clause-ends g c kinds ports given at many stands =
    let program = program_view c.args.scene.program.now in
    let steps = c.args.self.now.steps in
    c.finished-in-Err.ensures.ends ports given (run_at_start program given steps).world
    (pascal_trial program given steps) refl (sym (bytes_given (parameters_of program) given many))
    (trial_tells program given steps many)
    (trial_ends program given steps kinds ports c.args.self.now c.whole_run.new.self c.in-Err.why stands
    (c.in-Err.ensures.does kinds at steps))
