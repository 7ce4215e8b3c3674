-- What a folder holds after a list of items.
use Rattle.std.specs.Prelude.{◌≡◌, ℤ, Bool, true, false, List, [], ◌∷◌, Option, Some, None}
use Rattle.tangle_out.specs.declared.folding.Sign.{Sign}
use Rattle.tangle_out.specs.declared.folding.Lead.{Lead}
use Rattle.tangle_out.specs.declared.folding.Lead.TheVariants.{Signed}
use Rattle.tangle_out.specs.declared.folding.Held.{Held}
use Rattle.tangle_out.specs.declared.folding.Held.TheVariants.{Nothing, Factor, Signs, Sum, SumAndSigns, SumAndTerm}
use Rattle.tangle_out.specs.declared.folding.Last.{Last}
use Rattle.tangle_out.specs.declared.folding.Last.TheVariants.{Else}
use Rattle.tangle_out.specs.declared.folding.Kept.{Kept}
use Rattle.tangle_out.specs.Units.{FoldingUnit, other}
use Rattle.tangle_out.specs.Runs.{stands_alone, run_before, is_after_join, last_signs, terms_of, lead_of, total}
use Rattle.tangle_out.specs.Folding.{depth_of}
use Rattle.tangle_out.specs.inner.Table.{last_of}

-- what is held of a run: whether a number would stand alone, its terms, the last first, the signs after them, its lead
pub data HoldsRun : Bool → List ℤ → Option Sign → Option Lead → Held → Type 0 where
  nothing : HoldsRun false [] None None Nothing
  factor : HoldsRun true [] None None Factor
  signs : (s : Sign) → HoldsRun false [] (Some s) (Some Signed) (Signs s)
  sum : (lead : Lead) (term : ℤ) → HoldsRun false (term ∷ []) None (Some lead) (Sum lead term)
  sum_and_signs : (lead : Lead) (term : ℤ) (terms : List ℤ) (s : Sign)
      → HoldsRun false (term ∷ terms) (Some s) (Some lead) (SumAndSigns lead (total (term ∷ terms)) s)
  sum_and_term : (lead : Lead) (last term : ℤ) (terms : List ℤ)
      → HoldsRun false (last ∷ (term ∷ terms)) None (Some lead) (SumAndTerm lead (total (term ∷ terms)) last)

-- what the last of the units, the nearest first, was
abbrev pub last_unit : List FoldingUnit → Last
last_unit (other item ∷ before) = last_of item
last_unit before = Else

-- what is kept of units, the nearest first, and whether the next piece is the first after a join
pub record Holds (kept : Kept) (joined : Bool) (units : List FoldingUnit) : Type 0 where
  pub run : HoldsRun (stands_alone units) (terms_of (run_before units)) (last_signs (run_before units))
      (lead_of (run_before units)) kept.held
  pub after_join : joined ≡ is_after_join units
  pub last : kept.last ≡ last_unit units
  pub depth : kept.depth ≡ depth_of units
