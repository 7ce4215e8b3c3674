-- The definition of the tangled lines, at work on short expansions.
use Rattle.std.specs.Prelude.{◌≡◌, ℕ, List, [], ◌∷◌, ◌++◌, replicate, codes, Option, Some, None, refl}
use Rattle.std.specs.Fmt.{digits}
use Rattle.wb_base.specs.declared.faults.TheConstants.{SECTION_NOT_PRESENT, TOO_MANY_STEPS}
use Rattle.wb_base.specs.declared.faults.TheConstants.{STRAY_END_OF_METACOMMENT, METACOMMENT_NOT_ENDED, LINE_NOT_CUT}
use Rattle.macro_expand.specs.declared.refusals.ExpandErr.{ExpandErr}
use Rattle.macro_expand.specs.declared.refusals.ExpandErr.TheVariants.{NotPresent, Steps}
use Rattle.macro_expand.specs.Items.{Expanded, digit, word, sign, join, line, meta_open, meta_close, opens, closes}
use Rattle.tangle_core.specs.Tangled.{Tangled, fault_after, tangled}

-- the items, and the end
abbrev whole : List Expanded → Tangled
whole items = tangled (record { items = items; fault = None })

-- the items, and a fault of the expansion behind them
abbrev broken_off : List Expanded → ExpandErr → Tangled
broken_off items error = tangled (record { items = items; fault = Some error })

-- all these lines
abbrev done : List (List ℕ) → Tangled
done lines = record { lines = lines; fault = None }

-- these lines, and behind them the fault of this number
abbrev broken : List (List ℕ) → ℕ → Tangled
broken lines code = record { lines = lines; fault = Some (fault_after lines code) }

-- a line that waits, and the items of 72 bytes that can be cut nowhere, and then a join
abbrev line_of_a : List Expanded
line_of_a = word (codes "a") ∷ (line ∷ [])

abbrev full_line : List Expanded
full_line = word (replicate 50 98) ∷ (join ∷ (word (replicate 22 98) ∷ (join ∷ [])))

-- {1:}aa, a forced line, bb{:1}
pub two_lines : whole (opens 1 ∷ (word (codes "aa") ∷ (line ∷ (word (codes "bb") ∷ (closes 1 ∷ [])))))
    ≡ done (codes "{1:}aa" ∷ (codes "bb{:1}" ∷ []))
unfolding tangled digits
two_lines = refl

-- no items give no line
pub nothing : whole [] ≡ done []
unfolding tangled
nothing = refl

-- the line that waits at a fault of the expansion is not written, and neither is a number that has not ended
pub expansion_broken_off : broken_off (line_of_a ++ (word (codes "b") ∷ (digit 49 ∷ []))) NotPresent
    ≡ broken (codes "a" ∷ []) SECTION_NOT_PRESENT
unfolding tangled digits
expansion_broken_off = refl

-- a fault of folding comes before that of the expansion behind it
pub folding_before_expansion : broken_off (line_of_a ++ (meta_close ∷ [])) Steps
    ≡ broken (codes "a" ∷ []) STRAY_END_OF_METACOMMENT
unfolding tangled
folding_before_expansion = refl

-- but not where folding would show it only at the next item
pub expansion_before_folding : broken_off (digit 49 ∷ (join ∷ (digit 50 ∷ (sign 43 ∷ (digit 51 ∷ []))))) Steps
    ≡ broken [] TOO_MANY_STEPS
unfolding tangled digits
expansion_before_folding = refl

-- a piece that cannot be packed comes before a fault of folding at a later item
pub packing_at_an_earlier_item : whole (full_line ++ (sign 59 ∷ (meta_close ∷ []))) ≡ broken [] LINE_NOT_CUT
unfolding tangled
packing_at_an_earlier_item = refl

-- at one item the fault of folding comes first: the sign that the item ends could not be packed either
pub folding_before_packing : whole (full_line ++ (sign 43 ∷ (meta_close ∷ [])))
    ≡ broken [] STRAY_END_OF_METACOMMENT
unfolding tangled
folding_before_packing = refl

-- a metacomment that is open at the end comes before the last line
pub open_at_the_end : whole (line_of_a ++ (word (codes "b") ∷ (meta_open ∷ [])))
    ≡ broken (codes "a" ∷ []) METACOMMENT_NOT_ENDED
unfolding tangled
open_at_the_end = refl

-- the end gives the number that waits, and the last line
pub joined_number_at_the_end : whole (line_of_a ++ (digit 49 ∷ (join ∷ (digit 50 ∷ []))))
    ≡ done (codes "a" ∷ (codes "12" ∷ []))
unfolding tangled digits
joined_number_at_the_end = refl

-- what the end adds may be a piece that cannot be packed
pub packing_at_the_end : whole (full_line ++ (sign 43 ∷ [])) ≡ broken [] LINE_NOT_CUT
unfolding tangled
packing_at_the_end = refl
