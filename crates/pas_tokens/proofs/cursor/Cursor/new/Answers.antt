use Rattle.std.proofs.Common.{◌∙◌, ap, sym, Err, arith}
use Rattle.pas_tokens.proofs.WalkLemmas.{tokens_of-long}
use Rattle.pas_tokens.proofs.cursor.Cursor.new.Goals as goal

pub returns-then-text-gt-FILE_LIMIT-clause-fault : goal.returns-then-text-gt-FILE_LIMIT-clause-fault
returns-then-text-gt-FILE_LIMIT-clause-fault c =
    tokens_of-long c.args.text.now (omega arith) ∙ ap Err (sym c.limit.ensures)
