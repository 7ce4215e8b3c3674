-- The runs of folding: neighbouring signs and numbers, and the terms that they are. Made after tangle.web; the rule is
-- this project's own. In a list called `before` or `run` the nearest unit comes first, and the first one last.
use Rattle.std.specs.Prelude.{ℕ, ℤ, pos, neg_ℤ, ◌+ℤ◌, Bool, true, false, if◌then◌else◌, List, [], ◌∷◌}
use Rattle.std.specs.Prelude.{Option, Some, None, nat_lt, unsigned_abs}
use Rattle.std.specs.Option.{unwrap_or}
use Rattle.wb_base.specs.declared.faults.TheConstants.{CONSTANT_TOO_BIG, NUMBERS_WITHOUT_SIGN}
use Rattle.tangle_out.specs.declared.folding.TheConstants.{GREATEST_CONSTANT}
use Rattle.tangle_out.specs.declared.folding.Sign.{Sign}
use Rattle.tangle_out.specs.declared.folding.Sign.TheVariants.{Plus, Minus}
use Rattle.tangle_out.specs.declared.folding.Lead.{Lead}
use Rattle.tangle_out.specs.declared.folding.Lead.TheVariants.{Signed, Bare}
use Rattle.tangle_out.specs.Units.{FoldingUnit, addition, constant, product, joining}

-- whether a number directly after these units stands alone, because it follows a product sign or word or a join
abbrev pub stands_alone : List FoldingUnit → Bool
stands_alone (product item ∷ before) = true
stands_alone (joining ∷ before) = true
stands_alone before = false

-- the run directly before: the longest list of neighbouring signs and numbers, without numbers that stand alone
abbrev pub run_before : List FoldingUnit → List FoldingUnit
run_before (addition s ∷ before) = addition s ∷ run_before before
run_before (constant value ∷ before) = if stands_alone before then [] else constant value ∷ run_before before
run_before before = []

-- whether a join comes directly before the run, so that nothing was put out since
abbrev pub is_after_join : List FoldingUnit → Bool
is_after_join (addition s ∷ before) = is_after_join before
is_after_join (constant value ∷ before) = if stands_alone before then false else is_after_join before
is_after_join (joining ∷ before) = true
is_after_join before = false

-- the product of two signs
abbrev pub sign_times : Sign → Sign → Sign
sign_times Plus s = s
sign_times Minus Plus = Minus
sign_times Minus Minus = Plus

-- the product of the signs, if there are some, with one more
abbrev pub signs_times : Option Sign → Sign → Sign
signs_times None s = s
signs_times (Some signs) s = sign_times signs s

-- a number times the sign 1 or -1
abbrev pub signed_value : Sign → ℤ → ℤ
signed_value Plus value = value
signed_value Minus value = neg_ℤ value

-- a number times the signs, if there are some
abbrev pub term_value : Option Sign → ℤ → ℤ
term_value None value = value
term_value (Some s) value = signed_value s value

-- the product of the signs at the run's end, none where no sign is there
abbrev pub last_signs : List FoldingUnit → Option Sign
last_signs (addition s ∷ run) = Some (signs_times (last_signs run) s)
last_signs run = None

-- the values of the run's terms, the last first: each is a number times the signs directly before it
abbrev pub terms_of : List FoldingUnit → List ℤ
terms_of (constant value ∷ run) = term_value (last_signs run) value ∷ terms_of run
terms_of (addition s ∷ run) = terms_of run
terms_of run = []

-- how the first term is printed, by the run's first unit, none where there is no unit: with a plus where it has a sign
abbrev pub lead_of : List FoldingUnit → Option Lead
lead_of (addition s ∷ run) = Some (unwrap_or (lead_of run) Signed)
lead_of (constant value ∷ run) = Some (unwrap_or (lead_of run) Bare)
lead_of run = None

-- the sum of terms
abbrev pub total : List ℤ → ℤ
total [] = pos 0
total (term ∷ []) = term
total (term ∷ (earlier ∷ terms)) = total (earlier ∷ terms) +ℤ term

-- whether a value is past the greatest constant, its sign aside
abbrev pub is_too_big : ℤ → Bool
is_too_big value = nat_lt GREATEST_CONSTANT (unsigned_abs value)

-- the fault that a number shows directly after a run of these terms and signs after them: it needs a sign there
abbrev pub fault_of_number : List ℤ → Option Sign → Option ℕ
fault_of_number (term ∷ terms) None = Some NUMBERS_WITHOUT_SIGN
fault_of_number terms signs = None

-- the fault that a sign, another unit or the end shows directly after the last of several terms: their sum is too big
abbrev pub fault_of_sum : List ℤ → Option Sign → Option ℕ
fault_of_sum (term ∷ (earlier ∷ terms)) None =
    if is_too_big (total (term ∷ (earlier ∷ terms))) then Some CONSTANT_TOO_BIG else None
fault_of_sum terms signs = None
