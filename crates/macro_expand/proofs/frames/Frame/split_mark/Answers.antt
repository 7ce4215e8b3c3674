use Rattle.std.proofs.Common.{Some, get_or}
use Rattle.macro_expand.specs.inner.Levels.{level_of}
use Rattle.macro_expand.proofs.HeadLemmas.{first_and_rest, IsLevel-opened}
use Rattle.macro_expand.proofs.frames.Frame.split_mark.Goals as goal

-- the level behind the mark of a piece
pub returns-in-len1-up-clause-kept : goal.returns-in-len1-up-clause-kept
returns-in-len1-up-clause-kept c = λ number is.
    let pieces = c.args.self.now.pieces.now in
    let piece = get_or pieces 0 (record { number = 0; first = 0; count = 0 }) in (
      IsLevel-opened c.args.web.now number (level_of c.args.self.now) piece _ c.tokens-text.result.now (Some
          piece.number) is
          (first_and_rest pieces (record { number = 0; first = 0; count = 0 }) c.in-len1-up.len_at_least)
          c.tokens-text.ensures,
      tt,
    )
