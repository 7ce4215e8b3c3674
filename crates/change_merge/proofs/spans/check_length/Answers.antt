use Rattle.change_merge.proofs.LinesLemmas.{lines_of-long_file}
use Rattle.change_merge.proofs.spans.check_length.Goals as goal

pub returns-then-bytes-gt-FILE_LIMIT-clause-fault : goal.returns-then-bytes-gt-FILE_LIMIT-clause-fault
returns-then-bytes-gt-FILE_LIMIT-clause-fault c =
    rw c.limit.ensures (lines_of-long_file _ _ c.if-bytes-gt-FILE_LIMIT.true)
