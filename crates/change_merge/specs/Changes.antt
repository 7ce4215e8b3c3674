-- Change files, as TANGLE reads them: the blocks of a change file, or its first fault in reading order. The faults,
-- and that an old part without lines is one, are this project's own.
use Rattle.std.specs.Prelude.{ℕ, ◌==◌, ◌||◌, Bool, if◌then◌else◌, List, [], ◌∷◌, length, drop}
use Rattle.std.specs.Prelude.{Option, Some, None, is_some, Result, Ok, Err}
use Rattle.std.specs.List.{before_first, prefix_len}
use Rattle.wb_base.specs.declared.places.FileTag.TheVariants.{Change as change_file}
use Rattle.wb_base.specs.declared.places.Place.{Place}
use Rattle.wb_base.specs.declared.faults.Fault.{Fault}
use Rattle.wb_base.specs.declared.faults.TheConstants.{EMPTY_CHANGE, NO_END_OF_CHANGE, NO_NEW_PART}
use Rattle.wb_base.specs.declared.faults.TheConstants.{STRAY_CHANGE_MARK}
use Rattle.change_merge.specs.declared.marks.Mark.{Mark}
use Rattle.change_merge.specs.declared.marks.Mark.TheVariants.{Old, New, End}
use Rattle.change_merge.specs.Lines.{Line, lines_of}
use Rattle.wb_base.specs.FaultAt.{fault_at}
use Rattle.wb_base.specs.Steps.{◌>>=◌, followed_by}

-- a block of a change file: the place of its `@x`, its old lines, of which there is a first, and its new lines
pub record Change : Type 0 where
  pub place : Place
  pub first : Line
  pub others : List Line
  pub new : List Line

-- the mark of the letter x, y or z after an at sign, in either case
abbrev pub mark_of_letter : ℕ → Option Mark
mark_of_letter letter =
    if letter == 120 || letter == 88 then Some Old
    else (if letter == 121 || letter == 89 then Some New
    else (if letter == 122 || letter == 90 then Some End else None))

-- the mark that a line begins with
abbrev pub mark_of : List ℕ → Option Mark
mark_of [] = None
mark_of (byte ∷ []) = None
mark_of (byte ∷ (letter ∷ rest)) = if byte == 64 then mark_of_letter letter else None

-- whether a line begins with a mark
abbrev pub has_mark : Line → Bool
has_mark line = is_some (mark_of line.bytes)

-- a mark, its place, and the lines after it before the next mark
pub data Part : Type 0 where
  part : Mark → Place → List Line → Part

-- with the part that a line with this mark, or none, begins
abbrev pub parts_with : Option Mark → Place → List Line → List Part → List Part
parts_with None place lines parts = parts
parts_with (Some mark) place lines parts = part mark place (before_first has_mark lines) ∷ parts

-- the parts of a change file; what stands before the first mark is in none
abbrev pub parts_of : List Line → List Part
parts_of [] = []
parts_of (line ∷ lines) = parts_with (mark_of line.bytes) line.place lines (parts_of lines)

-- whether a line has no bytes
abbrev pub is_empty : Line → Bool
is_empty line = length line.bytes == 0

-- the lines of an old part: the empty ones directly after its mark are skipped
abbrev pub old_lines_of : List Line → List Line
old_lines_of lines = drop (prefix_len is_empty lines) lines

-- a block at this place, and then the others; one without old lines is a fault
abbrev pub block : Place → List Line → List Line → Result (List Change) Fault → Result (List Change) Fault
block place [] new changes = Err (fault_at EMPTY_CHANGE place)
block place (first ∷ others) new changes =
    followed_by (record { place = place; first = first; others = others; new = new } ∷ []) changes

-- the blocks of these parts, each a part of old lines, a part of new lines and the end. It is a fault where the end
-- or the
-- new part is missing, and where another part stands in the place of a block's first
unfoldable pub blocks_of : List Part → Result (List Change) Fault
blocks_of [] = Ok []
blocks_of (part Old place old ∷ (part New at_new new ∷ (part End at_end outside ∷ parts))) =
    block place (old_lines_of old) new (blocks_of parts)
blocks_of (part Old place old ∷ (part New at_new new ∷ parts)) =
    block place (old_lines_of old) new (Err (fault_at NO_END_OF_CHANGE place))
blocks_of (part Old place old ∷ parts) = Err (fault_at NO_NEW_PART place)
blocks_of (part mark place lines ∷ parts) = Err (fault_at STRAY_CHANGE_MARK place)

-- the blocks of a change file, or its first fault
unfoldable pub changes_of : List ℕ → Result (List Change) Fault
changes_of bytes = do
  lines ← lines_of change_file bytes
  blocks_of (parts_of lines)
