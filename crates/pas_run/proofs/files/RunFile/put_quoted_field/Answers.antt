use Rattle.std.proofs.Common.{replicate}
use Rattle.pas_meaning.specs.Files.{space}
use Rattle.pas_run.proofs.WritingLemmas.{pieces_behind, part_of_first}
use Rattle.pas_run.proofs.files.RunFile.put_quoted_field.Goals as goal

pub returns-in-Err-clause-pieces : goal.returns-in-Err-clause-pieces
returns-in-Err-clause-pieces g c = record {
  each = λ bound file h. part_of_first _ _ _ _ (c.in-Err.ensures.pieces.each bound file h);
}

pub returns-in-Ok-clause-pieces : goal.returns-in-Ok-clause-pieces
returns-in-Ok-clause-pieces g c =
    pieces_behind (replicate c.args.spaces space) _ _ _ _ _ _ _ _
    (λ bound file h. c.in-Ok.ensures.pieces.each bound file h) c.put_quoted.ensures.pieces
