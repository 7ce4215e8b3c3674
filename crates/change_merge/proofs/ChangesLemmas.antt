-- A change file by its lines.
use Rattle.std.proofs.Common.{◌≡◌, ℕ, List, Result, Ok, Err, ap, ◌∙◌}
use Rattle.wb_base.specs.declared.places.FileTag.TheVariants.{Change as change_file}
use Rattle.wb_base.specs.declared.faults.Fault.{Fault}
use Rattle.change_merge.specs.Lines.{Line, lines_of}
use Rattle.wb_base.specs.Steps.{◌>>=◌}
use Rattle.change_merge.specs.Changes.{Change, parts_of, blocks_of, changes_of}

pub changes_of-line_fault : (bytes : List ℕ) (fault : Fault) → lines_of change_file bytes ≡ Err fault
    → changes_of bytes ≡ Err fault
unfolding changes_of
changes_of-line_fault bytes fault fails = ap (λ lines. lines >>= (λ ls. blocks_of (parts_of ls))) fails

pub changes_of-lines : (bytes : List ℕ) (lines : List Line) (r : Result (List Change) Fault)
    → lines_of change_file bytes ≡ Ok lines → blocks_of (parts_of lines) ≡ r → changes_of bytes ≡ r
unfolding changes_of
changes_of-lines bytes lines r are blocks = ap (λ found. found >>= (λ ls. blocks_of (parts_of ls))) are ∙ blocks
