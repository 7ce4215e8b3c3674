-- The merge of a web with the blocks of a change file, as TANGLE makes it. The faults are this project's own.
use Rattle.std.specs.Prelude.{ℕ, if◌then◌else◌, List, [], ◌∷◌, Result, Ok, Err}
use Rattle.std.specs.Str.{bytes_eq}
use Rattle.wb_base.specs.declared.places.FileTag.TheVariants.{Web}
use Rattle.wb_base.specs.declared.faults.Fault.{Fault}
use Rattle.wb_base.specs.declared.faults.TheConstants.{CHANGE_LINES_DIFFER, CHANGE_NOT_FOUND}
use Rattle.change_merge.specs.Lines.{Line, lines_of}
use Rattle.wb_base.specs.FaultAt.{fault_at}
use Rattle.change_merge.specs.Changes.{Change}
use Rattle.wb_base.specs.Steps.{◌>>=◌, followed_by}

-- the lines after these old lines; the first old line that is not the next line, or finds none, is a fault
abbrev pub lines_after : List Line → List Line → Result (List Line) Fault
lines_after [] lines = Ok lines
lines_after (old ∷ olds) [] = Err (fault_at CHANGE_LINES_DIFFER old.place)
lines_after (old ∷ olds) (line ∷ lines) =
    if bytes_eq old.bytes line.bytes then lines_after olds lines else Err (fault_at CHANGE_LINES_DIFFER old.place)

-- the lines with a block's new lines in place of its old ones at the first line that equals its first old line, and
-- then what `further` makes of the lines after; a fault where there is no such line
abbrev pub with_change : Change → (List Line → Result (List Line) Fault) → List Line → Result (List Line) Fault
with_change change further [] = Err (fault_at CHANGE_NOT_FOUND change.place)
with_change change further (line ∷ lines) =
    if bytes_eq change.first.bytes line.bytes
    then lines_after change.others lines >>= (λ rest. followed_by change.new (further rest))
    else followed_by (line ∷ []) (with_change change further lines)

-- the lines with all these blocks, each after the one before
abbrev pub with_changes : List Change → List Line → Result (List Line) Fault
with_changes [] lines = Ok lines
with_changes (change ∷ changes) lines = with_change change (with_changes changes) lines

-- the lines of the web with these blocks, or the first fault
unfoldable pub merge_of : List ℕ → List Change → Result (List Line) Fault
merge_of web changes = do
  lines ← lines_of Web web
  with_changes changes lines
