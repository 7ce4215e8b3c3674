use Rattle.std.proofs.Common.{◌≡◌, map, drop}
use Rattle.pas_tokens.specs.Spellings.{kind_in}
use Rattle.pas_tokens.specs.inner.CodeCuts.{spelling_by}
use Rattle.pas_tokens.proofs.spellings.kind_of.Given as goal

abbrev pub invariant-loop-row : goal.invariant-loop-row
invariant-loop-row l =
    kind_in (map spelling_by (drop l.row-index l.rows)) l.bytes ≡ kind_in (map spelling_by l.rows) l.bytes
