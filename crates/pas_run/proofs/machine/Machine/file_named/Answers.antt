use Rattle.std.proofs.Common.{arith, ap, ◌∙◌, nat_abs}
use Rattle.std.proofs.Math.Facts.{to_z-of_z}
use Rattle.pas_run.proofs.FileLemmas.{named_there, named_nowhere}
use Rattle.pas_run.proofs.machine.Machine.file_named.Goals as goal

pub returns-then-file-file_count-clause-named : goal.returns-then-file-file_count-clause-named
returns-then-file-file_count-clause-named g c ports world is =
    let number = c.unsigned_abs-file.ensures.value ∙ ap nat_abs (to_z-of_z c.ranges.number) in (
      nat_abs c.args.number,
      named_there ports c.args.self.now world (nat_abs c.args.number) is
          (omega (arith, c.if-file-file_count.true, c.file_count.ensures, number)),
      number,
    )

pub returns-else-file-file_count-clause-named : goal.returns-else-file-file_count-clause-named
returns-else-file-file_count-clause-named g c ports world is =
    let number = c.unsigned_abs-file.ensures.value ∙ ap nat_abs (to_z-of_z c.ranges.number) in
    named_nowhere ports c.args.self.now world (nat_abs c.args.number) is
    (omega (arith, c.if-file-file_count.false, c.file_count.ensures, number))
