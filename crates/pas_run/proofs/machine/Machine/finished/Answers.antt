use Rattle.std.proofs.Common.{sym, ◌∙◌}
use Rattle.pas_run.proofs.EndingLemmas.{ends_finished, ends_unfinished, ends_cut_off, counts_finished}
use Rattle.pas_run.proofs.EndingLemmas.{counts_unfinished}
use Rattle.pas_run.proofs.machine.Machine.finished.Goals as goal

pub returns-then-not-is_end-clause-ends : goal.returns-then-not-is_end-clause-ends
returns-then-not-is_end-clause-ends g c ports given first end none bytes told ends =
    ends_cut_off ports given first end c.args.self.now c.args.self.now c.args.why
    (sym c.is_end.ensures ∙ c.if-not-is_end.true) ends none bytes

pub returns-in-Ok-clause-ends : goal.returns-in-Ok-clause-ends
returns-in-Ok-clause-ends g c ports given first end none bytes told ends =
    ends_finished ports given first end c.args.self.now c.finish_files.new.self c.args.why
    (sym c.is_end.ensures ∙ c.if-not-is_end.false) ends c.in-Ok.ensures.finished

pub returns-in-Ok-clause-cause : goal.returns-in-Ok-clause-cause
returns-in-Ok-clause-cause g c before counts =
    counts_finished before c.args.self.now.files c.finish_files.new.self.files c.args.why
    (sym c.is_end.ensures ∙ c.if-not-is_end.false) counts c.in-Ok.ensures.cause

pub returns-in-Err-clause-ends : goal.returns-in-Err-clause-ends
returns-in-Err-clause-ends g c ports given first end none bytes told ends =
    ends_unfinished ports given first end c.args.self.now c.finish_files.new.self c.args.why
    (sym c.is_end.ensures ∙ c.if-not-is_end.false) ends none bytes told
    c.in-Err.ensures.shown

pub returns-in-Err-clause-cause : goal.returns-in-Err-clause-cause
returns-in-Err-clause-cause g c before counts =
    counts_unfinished before c.args.self.now.files c.finish_files.new.self.files c.args.why
    (sym c.is_end.ensures ∙ c.if-not-is_end.false) counts c.in-Err.ensures.cause
