-- What tangling makes of a web: the lines of its Pascal text, and a fault or none behind them, as its expansion is
-- folded and the pieces are packed. Where several things are wrong, the fault is the one that the earliest item shows,
-- and at one item that of folding before that of packing: an item that shows a fault of folding gives no piece, so a
-- piece that cannot be packed came with an earlier item; and a fault of the expansion comes after all its items. The
-- order of faults is this project's own.
use Rattle.std.specs.Prelude.{ℕ, ◌+◌, List, [], ◌∷◌, ◌++◌, length, Option, Some, None, option_map, Result, Ok, Err}
use Rattle.std.specs.Option.{option_or}
use Rattle.wb_base.specs.declared.places.FileTag.TheVariants.{Pas}
use Rattle.wb_base.specs.declared.faults.Fault.{Fault}
use Rattle.wb_base.specs.declared.faults.TheConstants.{SECTION_NOT_PRESENT, NO_PARAMETER_GIVEN}
use Rattle.wb_base.specs.declared.faults.TheConstants.{TOO_MANY_LEVELS, TOO_MANY_STEPS}
use Rattle.wb_base.specs.FaultAt.{fault_at}
use Rattle.macro_expand.specs.declared.refusals.ExpandErr.{ExpandErr}
use Rattle.macro_expand.specs.declared.refusals.ExpandErr.TheVariants.{NotPresent, NoParameter, Levels, Steps}
use Rattle.macro_expand.specs.Items.{Expanded}
use Rattle.macro_expand.specs.Expansion.{Expansion}
use Rattle.tangle_out.specs.declared.packing.TheConstants.{WIDTH}
use Rattle.tangle_out.specs.Pieces.{Piece}
use Rattle.tangle_out.specs.Folding.{Folded, folded, folded_whole, and_then}
use Rattle.tangle_out.specs.Packing.{Packed, with_piece, nothing_packed, forced_line}

-- the number of a fault of the expansion
abbrev pub number_of : ExpandErr → ℕ
number_of NotPresent = SECTION_NOT_PRESENT
number_of NoParameter = NO_PARAMETER_GIVEN
number_of Levels = TOO_MANY_LEVELS
number_of Steps = TOO_MANY_STEPS

-- the pieces of these items, and the first fault: behind the items comes this fault, or else the end
abbrev pub folded_to_end : List Expanded → Option ExpandErr → Folded
folded_to_end items None = folded_whole items
folded_to_end items (Some error) = and_then (folded items) (Err (number_of error))

-- lines, and the number of the fault behind them, or none
pub record Lined : Type 0 where
  pub lines : List (List ℕ)
  pub fault : Option ℕ

-- what the next piece makes of the lines finished so far: those with it, and what follows; or its fault behind them
abbrev pub lined_by : List (List ℕ) → Result Packed ℕ → (Packed → Lined) → Lined
lined_by lines (Ok packed) further = further packed
lined_by lines (Err fault) further = record { lines = lines; fault = Some fault }

-- the lines that these pieces finish after what is packed already, up to the first that shows a fault
abbrev pub lined_from : Packed → List Piece → Lined
lined_from packed [] = record { lines = packed.lines; fault = None }
lined_from packed (piece ∷ pieces) =
    lined_by packed.lines (with_piece WIDTH packed piece) (λ next. lined_from next pieces)

-- the lines that these pieces finish, up to the first that shows a fault
abbrev pub lined : List Piece → Lined
lined pieces = lined_from nothing_packed pieces

-- the lines of these pieces, up to the first fault: behind the pieces comes this fault, or else the end, which finishes
-- the last line
abbrev pub lined_to_end : List Piece → Option ℕ → Lined
lined_to_end pieces None = lined (pieces ++ forced_line ∷ [])
lined_to_end pieces (Some code) =
    let so_far = lined pieces in record so_far { fault = option_or so_far.fault (Some code) }

-- the lines of the Pascal text, and the fault behind them, or none
pub record Tangled : Type 0 where
  pub lines : List (List ℕ)
  pub fault : Option Fault

-- the fault of this number at the Pascal file's line after these
abbrev pub fault_after : List (List ℕ) → ℕ → Fault
fault_after lines code = fault_at code (record { file = Pas; line = length lines + 1 })

-- lines with the place of their fault
abbrev pub placed : Lined → Tangled
placed made = record { lines = made.lines; fault = option_map (fault_after made.lines) made.fault }

-- an expansion tangled
unfoldable pub tangled : Expansion → Tangled
tangled expansion =
    let made = folded_to_end expansion.items expansion.fault in placed (lined_to_end made.pieces made.fault)
