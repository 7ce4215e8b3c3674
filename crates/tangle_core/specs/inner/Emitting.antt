-- What has been given to a sink, on the way through the items of an expansion. A sink began with what it held at the
-- start. No public contract cites this.
use Rattle.std.specs.Prelude.{◌≡◌, ℕ, ◌+◌, ◌*◌, ◌<◌, ◌≤◌, List, ◌++◌, length, Option, Some, None, Result, Ok, Err, ⊤}
use Rattle.std.specs.Prelude.{All}
use Rattle.wb_ports.specs.Held.{Gains}
use Rattle.macro_expand.specs.declared.refusals.ExpandErr.{ExpandErr}
use Rattle.macro_expand.specs.declared.limits.TheConstants.{STEP_LIMIT}
use Rattle.macro_expand.specs.Items.{Expanded}
use Rattle.macro_expand.specs.Expansion.{Expansion}
use Rattle.tangle_out.specs.declared.packing.TheConstants.{WIDTH}
use Rattle.tangle_out.specs.declared.pieces.OutErr.{OutErr}
use Rattle.tangle_out.specs.declared.pieces.OutErr.TheVariants.{Fault, Failed}
use Rattle.tangle_out.specs.Pieces.{Piece}
use Rattle.tangle_out.specs.Folding.{folded}
use Rattle.tangle_out.specs.Folder.{FolderState, IsShort, Stands as FolderStands}
use Rattle.tangle_out.specs.Packing.{text_of_lines}
use Rattle.tangle_out.specs.Packer.{PackerState, Stands as PackerStands}
use Rattle.tangle_core.specs.declared.output.TheConstants.{MOST_PIECES}
use Rattle.tangle_core.specs.Tangled.{Lined, lined, lined_to_end, folded_to_end}

-- the lines of the pieces that these items have given, and the fault that one of them shows first, or none
abbrev pub lined_behind : List Piece → Option ℕ → Lined
lined_behind pieces None = lined pieces
lined_behind pieces (Some code) = lined_to_end pieces (Some code)

abbrev pub so_far : List Expanded → Lined
so_far items = let made = folded items in lined_behind made.pieces made.fault

-- all lines of an expansion, and the number of the fault behind them, or none
abbrev pub made_of : List Expanded → Option ExpandErr → Lined
made_of items fault = let made = folded_to_end items fault in lined_to_end made.pieces made.fault

-- the sink has got these lines, and they were counted
pub record Tells (made : Lined) (count : ℕ) (start held : Option (List ℕ)) : Type 0 where
  pub counted : count ≡ length made.lines
  pub told : Gains (text_of_lines made.lines) start held

-- the same, and behind them comes this fault
pub record Breaks (made : Lined) (code count : ℕ) (start held : Option (List ℕ)) : Type 0 where
  pub fault : made.fault ≡ Some code
  pub tells : Tells made count start held

-- the same, and no fault comes behind them
pub record Whole (made : Lined) (count : ℕ) (start held : Option (List ℕ)) : Type 0 where
  pub fault : made.fault ≡ None
  pub tells : Tells made count start held

-- a packer stands for these pieces, and the sink has got their lines
pub record Sent (packer : PackerState) (pieces : List Piece) (start held : Option (List ℕ)) : Type 0 where
  pub stands : PackerStands WIDTH packer pieces
  pub told : Gains (text_of_lines (lined pieces).lines) start held

-- a packer can take so many pieces more and still count its lines
pub record CanCount (packer : PackerState) (more : ℕ) : Type 0 where
  pub pieces : List Piece
  pub stands : PackerStands WIDTH packer pieces
  pub few : length pieces + more < 4294967295

-- a folder and a packer stand for these items, and the sink has got their lines
pub record At (folder : FolderState) (packer : PackerState) (items : List Expanded) (start held : Option (List ℕ))
    : Type 0 where
  pub folds : FolderStands folder items
  pub sent : Sent packer (folded items).pieces start held
  pub few : length (folded items).pieces ≤ MOST_PIECES * length items

-- the same on the way through an expansion, of which this is left
pub record Going (whole : Expansion) (folder : FolderState) (packer : PackerState) (left : Expansion)
    (start held : Option (List ℕ)) : Type 0 where
  pub items : List Expanded
  pub at : At folder packer items start held
  pub parts : items ++ left.items ≡ whole.items
  pub fault : left.fault ≡ whole.fault
  pub few : length whole.items ≤ STEP_LIMIT

-- on the way through a list of pieces, of which these are left: a packer that stood for some pieces before, and had
-- given their lines, stands for those that were packed since
pub record Packs (whole : List Piece) (first : PackerState) (first_held : Option (List ℕ)) (packer : PackerState)
    (left : List Piece) (held : Option (List ℕ)) : Type 0 where
  pub can_count : CanCount packer (length left)
  pub short : All IsShort left
  pub sends : (before : List Piece) (start : Option (List ℕ)) → Sent first before start first_held
      → (done : List Piece) × (Sent packer done start held × (done ++ left ≡ before ++ whole))

-- where the answer is a fault, this holds of its number
abbrev pub IfFaultCode : {T : Type 0} → Result T OutErr → (ℕ → Type 0) → Type 0
IfFaultCode (Ok value) P = ⊤
IfFaultCode (Err (Fault code)) P = P code
IfFaultCode (Err Failed) P = ⊤
