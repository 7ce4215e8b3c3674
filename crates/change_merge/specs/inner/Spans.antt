-- Lines as spans of one text, and blocks as rows of such lines. No public contract cites this.
use Rattle.wb_base.specs.declared.faults.TheConstants.{FILE_LIMIT}
use Rattle.std.specs.Prelude.{ℕ, ◌+◌, ◌<◌, ◌≤◌, List, [], map, length, slice_get, slice_range, slice_index_or, Option}
use Rattle.std.specs.Prelude.{All}
use Rattle.std.specs.Option.{option_and_then}
use Rattle.change_merge.specs.declared.marks.Mark.{Mark}
use Rattle.change_merge.specs.declared.spans.Span.{Span}
use Rattle.change_merge.specs.declared.blocks.Block.{Block}
use Rattle.change_merge.specs.Lines.{Line}
use Rattle.change_merge.specs.Changes.{Change, mark_of}

-- the span's bytes are within a text of this length
pub record IsWithin (size : ℕ) (span : Span) : Type 0 where
  pub ordered : span.start ≤ span.end
  pub inside : span.end ≤ size

-- the line at this span of a text
abbrev pub line_at : List ℕ → Span → Line
line_at text span = record { place = span.place; bytes = slice_range text span.start span.end }

-- the lines at these spans
abbrev pub lines_at : List ℕ → List Span → List Line
lines_at text spans = map (line_at text) spans

-- all spans are within the text
abbrev pub AllInside : List ℕ → List Span → Type 0
AllInside text spans = All (IsWithin (length text)) spans

-- the mark of the line at this index, if there is such a line
abbrev pub mark_there : List Line → ℕ → Option Mark
mark_there lines index = option_and_then (λ line. mark_of line.bytes) (slice_get lines index)

-- the block's lines are among this number of lines, and there is an old line
pub record IsInOrder (count : ℕ) (block : Block) : Type 0 where
  pub some_old : block.first_old < block.new_mark
  pub marks : block.new_mark < block.end_mark
  pub within : block.end_mark < count

-- the block at these indexes of a change file's lines
abbrev pub change_at : List Line → Block → Change
change_at lines block = record {
  place = block.place;
  first = slice_index_or lines block.first_old (record { place = block.place; bytes = [] });
  others = slice_range lines (block.first_old + 1) block.new_mark;
  new = slice_range lines (block.new_mark + 1) block.end_mark;
}

-- the blocks at these indexes
abbrev pub changes_at : List Line → List Block → List Change
changes_at lines blocks = map (change_at lines) blocks

-- what stands of a change file: its text, its lines and its blocks
pub record IsChangeFile (text : List ℕ) (spans : List Span) (blocks : List Block) : Type 0 where
  pub small : length text ≤ FILE_LIMIT
  pub inside : AllInside text spans
  pub in_order : All (IsInOrder (length spans)) blocks
