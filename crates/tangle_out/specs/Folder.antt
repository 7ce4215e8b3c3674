-- What a folder holds, and for which items it stands. A caller needs of this only that the clauses of a folder speak of
-- the same: which items it stands for, and how many metacomments are open. This project's own.
use Rattle.std.specs.Prelude.{◌≡◌, ℕ, ◌≤◌, Bool, List, [], ◌∷◌, ◌++◌, length, reverse}
use Rattle.std.specs.Prelude.{Option, Some, None}
use Rattle.macro_expand.specs.Items.{Expanded}
use Rattle.tangle_out.specs.declared.folding.Kept.{Kept}
use Rattle.tangle_out.specs.declared.packing.TheConstants.{WIDTH}
use Rattle.tangle_out.specs.Metacomments.{HasRoom}
use Rattle.tangle_out.specs.Packer.{longest_text}
use Rattle.tangle_out.specs.declared.folder.Step.{Step}
use Rattle.tangle_out.specs.declared.folder.Step.TheVariants as step
use Rattle.tangle_out.specs.Pieces.{Piece, piece_of}
use Rattle.tangle_out.specs.Units.{digits_before, units_of}
use Rattle.tangle_out.specs.Folding.{folded, folded_whole}
use Rattle.tangle_out.specs.inner.Stands.{Holds}

-- the number of the digits at the end, if there are some, what is kept of the units before it, and whether the next
-- piece is the first after a join
pub record FolderState : Type 0 where
  pub number : Option ℕ
  pub kept : Kept
  pub joined : Bool

-- what is held of items, the nearest first
pub record HoldsItems (state : FolderState) (before : List Expanded) : Type 0 where
  pub number : state.number ≡ digits_before before
  pub units : Holds state.kept state.joined (units_of before)

-- a folder stands for these items, which show no fault
pub record Stands (state : FolderState) (items : List Expanded) : Type 0 where
  pub no_fault : (folded items).fault ≡ None
  pub holds : HoldsItems state (reverse items)

-- how many metacomments are begun and not ended
abbrev pub open_metacomments : FolderState → ℕ
open_metacomments state = state.kept.depth

-- the condition on a metacomment that begins: fewer than 4294967295 are open
abbrev pub HasRoomFor : FolderState → Expanded → Type 0
HasRoomFor state item = HasRoom (open_metacomments state) item

-- with the item, the items show no fault and give these pieces more
abbrev pub Adds : List Expanded → Expanded → List Piece → Type 0
Adds items item pieces = folded (items ++ item ∷ []) ≡ record { pieces = (folded items).pieces ++ pieces; fault = None }

-- the item is the first to show a fault, this one
abbrev pub Shows : List Expanded → Expanded → ℕ → Type 0
Shows items item code = folded (items ++ item ∷ []) ≡ record { pieces = (folded items).pieces; fault = Some code }

-- the end shows no fault, and gives these pieces more
abbrev pub AddsAtEnd : List Expanded → List Piece → Type 0
AddsAtEnd items pieces = folded_whole items ≡ record { pieces = (folded items).pieces ++ pieces; fault = None }

-- the end is the first to show a fault, this one
abbrev pub ShowsAtEnd : List Expanded → ℕ → Type 0
ShowsAtEnd items code = folded_whole items ≡ record { pieces = (folded items).pieces; fault = Some code }

-- the piece has no more bytes than a piece of its kind may have
pub record IsShort (piece : Piece) : Type 0 where
  pub short : length piece.text ≤ longest_text WIDTH piece.kind

-- the pieces that a step adds, if it took the item
abbrev pub pieces_by : Step → Option (List Piece)
pieces_by step.Nothing = Some []
pieces_by (step.Gives piece) = Some (piece_of piece ∷ [])
pieces_by step.Left = None
