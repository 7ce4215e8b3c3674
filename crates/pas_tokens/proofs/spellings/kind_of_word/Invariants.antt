use Rattle.std.proofs.Common.{◌≡◌, map, drop}
use Rattle.std.specs.Char.{to_ascii_lowercase}
use Rattle.pas_tokens.specs.Spellings.{kind_in}
use Rattle.pas_tokens.specs.inner.CodeCuts.{folded_by}
use Rattle.pas_tokens.proofs.spellings.kind_of_word.Given as goal

abbrev pub invariant-loop-row : goal.invariant-loop-row
invariant-loop-row l =
    kind_in (map folded_by (drop l.row-index l.rows)) (map to_ascii_lowercase l.word)
    ≡ kind_in (map folded_by l.rows) (map to_ascii_lowercase l.word)
