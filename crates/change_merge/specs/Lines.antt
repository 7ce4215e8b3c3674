-- The lines of a text. That a text is cut at byte 10 is the WEB profile's; the removal of white space at a line's
-- end,
-- the limits and the faults are this project's own.
use Rattle.std.specs.Prelude.{ℕ, ◌+◌, ◌-◌, nat_lt, Bool, if◌then◌else◌, List, [], ◌∷◌, length, take, find}
use Rattle.std.specs.Prelude.{Option, Some, None, Result, Ok, Err}
use Rattle.std.specs.List.{suffix_len}
use Rattle.wb_base.specs.declared.places.FileTag.{FileTag}
use Rattle.wb_base.specs.declared.places.Place.{Place}
use Rattle.wb_base.specs.declared.faults.Fault.{Fault}
use Rattle.wb_base.specs.Bytes.{is_white}
use Rattle.wb_base.specs.Pieces.{pieces_of}
use Rattle.wb_base.specs.declared.faults.TheConstants.{FILE_LIMIT, LIMIT_FILE_BYTES, LINE_TOO_LONG}
use Rattle.wb_base.specs.FaultAt.{fault_at, limit_passed}
use Rattle.change_merge.specs.declared.spans.TheConstants.{LINE_LIMIT}

-- where a line stands, and its bytes
pub record Line : Type 0 where
  pub place : Place
  pub bytes : List ℕ

-- the bytes but for the longest row of these at their end
abbrev pub without_white_at_end : List ℕ → List ℕ
without_white_at_end bytes = take (length bytes - suffix_len is_white bytes) bytes

-- each piece as a line of the file, numbered from this number on
abbrev pub lines_numbered_from : ℕ → FileTag → List (List ℕ) → List Line
lines_numbered_from number tag [] = []
lines_numbered_from number tag (piece ∷ pieces) =
    record { place = record { file = tag; line = number }; bytes = without_white_at_end piece }
    ∷ lines_numbered_from (number + 1) tag pieces

-- all lines of a text
unfoldable pub all_lines : FileTag → List ℕ → List Line
all_lines tag text = lines_numbered_from 1 tag (pieces_of text)

-- whether a line is too long after the white space at its end was removed
abbrev pub is_too_long : Line → Bool
is_too_long line = nat_lt LINE_LIMIT (length line.bytes)

-- the fault of a file past its limit
abbrev pub file_too_long : FileTag → Fault
file_too_long tag = limit_passed LIMIT_FILE_BYTES (record { file = tag; line = 0 })

-- the lines, unless there is one that is too long
abbrev pub lines_unless_too_long : List Line → Option Line → Result (List Line) Fault
lines_unless_too_long lines None = Ok lines
lines_unless_too_long lines (Some line) = Err (fault_at LINE_TOO_LONG line.place)

-- the lines of a text, or the fault of its length, or else that of the first line that is too long
unfoldable pub lines_of : FileTag → List ℕ → Result (List Line) Fault
lines_of tag text =
    if nat_lt FILE_LIMIT (length text) then Err (file_too_long tag)
    else (let lines = all_lines tag text in lines_unless_too_long lines (find is_too_long lines))
