-- What is held says all that matters of the run so far: its terms, the signs after them and its lead. So the next unit
-- gives what the definition by runs gives.
use Rattle.std.proofs.Common.{◌≡◌, ℕ, ℤ, ◌+ℤ◌, Bool, true, false, cond, List, [], ◌∷◌, refl}
use Rattle.std.specs.Prelude.{Option, Some, None, Result, Ok, Err}
use Rattle.std.specs.Option.{unwrap_or}
use Rattle.wb_base.specs.declared.faults.TheConstants.{CONSTANT_TOO_BIG}
use Rattle.tangle_out.specs.declared.folding.Sign.{Sign}
use Rattle.tangle_out.specs.declared.folding.Lead.{Lead}
use Rattle.tangle_out.specs.declared.folding.Lead.TheVariants.{Signed, Bare}
use Rattle.tangle_out.specs.declared.folding.Held.{Held}
use Rattle.tangle_out.specs.declared.folding.Held.TheVariants.{Nothing, SumAndSigns}
use Rattle.tangle_out.specs.Runs.{signs_times, term_value, total, is_too_big, fault_of_number, fault_of_sum}
use Rattle.tangle_out.specs.Folding.{pieces_of_terms, alone_piece}
use Rattle.tangle_out.specs.Pieces.{Piece}
use Rattle.tangle_out.specs.inner.Stands.{HoldsRun, nothing, factor, signs, sum, sum_and_signs, sum_and_term}
use Rattle.tangle_out.specs.inner.Table.{after_sign, after_constant, and_map, fault_of_held, pieces_of_held}
use Rattle.tangle_out.specs.inner.Table.{pieces_of_constant}

-- an answer and a fault agree: an Ok with no fault, where the fact holds of its value, and an Err with its fault
abbrev pub Agrees : Result Held ℕ → Option ℕ → (Held → Type 0) → Type 0
Agrees (Ok held) fault Holds = (fault ≡ None) × Holds held
Agrees (Err code) fault Holds = fault ≡ Some code

-- a sign after a sum and a term, by whether they are too big
after_sum : (big : Bool) (lead : Lead) (last term : ℤ) (terms : List ℤ) (s : Sign)
    → Agrees
    (and_map (λ sum. SumAndSigns lead sum s) (cond big (Err CONSTANT_TOO_BIG) (Ok (total (term ∷ terms) +ℤ last))))
    (cond big (Some CONSTANT_TOO_BIG) None) (HoldsRun false (last ∷ (term ∷ terms)) (Some s) (Some lead))
after_sum true lead last term terms s = refl
after_sum false lead last term terms s = (refl, sum_and_signs lead last (term ∷ terms) s)

-- a sign
pub after_sign-run : (alone : Bool) (terms : List ℤ) (before : Option Sign) (lead : Option Lead) (held : Held)
    (s : Sign)
    → HoldsRun alone terms before lead held
    → Agrees (after_sign held s) (fault_of_sum terms before)
    (HoldsRun false terms (Some (signs_times before s)) (Some (unwrap_or lead Signed)))
after_sign-run _ _ _ _ _ s nothing = (refl, signs s)
after_sign-run _ _ _ _ _ s factor = (refl, signs s)
after_sign-run _ _ _ _ _ s (signs t) = (refl, signs _)
after_sign-run _ _ _ _ _ s (sum lead term) = (refl, sum_and_signs lead term [] s)
after_sign-run _ _ _ _ _ s (sum_and_signs lead term [] t) = (refl, sum_and_signs lead term [] _)
after_sign-run _ _ _ _ _ s (sum_and_signs lead term (x ∷ xs) t) = (refl, sum_and_signs lead term (x ∷ xs) _)
after_sign-run _ _ _ _ _ s (sum_and_term lead last term terms) =
    after_sum (is_too_big (total (term ∷ terms) +ℤ last)) lead last term terms s

-- a number: one that stands alone gives its piece, and the others give none
abbrev pub AgreesConstant : Bool → ℤ → Result Held ℕ → List Piece → Option ℕ → (Held → Type 0) → Type 0
AgreesConstant true value answer pieces fault Holds = (answer ≡ Ok Nothing) × (pieces ≡ alone_piece value ∷ [])
AgreesConstant false value answer pieces fault Holds = Agrees answer fault Holds × (pieces ≡ [])

pub after_constant-run :
    (alone : Bool) (terms : List ℤ) (before : Option Sign) (lead : Option Lead) (held : Held) (value : ℤ)
    → HoldsRun alone terms before lead held
    → AgreesConstant alone value (after_constant held value) (pieces_of_constant held value)
    (fault_of_number terms before)
    (HoldsRun false (term_value before value ∷ terms) None (Some (unwrap_or lead Bare)))
after_constant-run _ _ _ _ _ value nothing = ((refl, sum Bare value), refl)
after_constant-run _ _ _ _ _ value factor = (refl, refl)
after_constant-run _ _ _ _ _ value (signs t) = ((refl, sum Signed _), refl)
after_constant-run _ _ _ _ _ value (sum lead term) = (refl, refl)
after_constant-run _ _ _ _ _ value (sum_and_signs lead term terms t) = ((refl, sum_and_term lead _ term terms), refl)
after_constant-run _ _ _ _ _ value (sum_and_term lead last term terms) = (refl, refl)

-- the fault of the sum that a unit ends
pub fault_of_held-run :
    (alone : Bool) (terms : List ℤ) (before : Option Sign) (lead : Option Lead) (held : Held)
    → HoldsRun alone terms before lead held → fault_of_held held ≡ fault_of_sum terms before
fault_of_held-run _ _ _ _ _ nothing = refl
fault_of_held-run _ _ _ _ _ factor = refl
fault_of_held-run _ _ _ _ _ (signs t) = refl
fault_of_held-run _ _ _ _ _ (sum lead term) = refl
fault_of_held-run _ _ _ _ _ (sum_and_signs lead term [] t) = refl
fault_of_held-run _ _ _ _ _ (sum_and_signs lead term (x ∷ xs) t) = refl
fault_of_held-run _ _ _ _ _ (sum_and_term lead last term terms) = refl

-- the pieces of a run that a unit ends
pub pieces_of_held-run :
    (follows : Bool) (alone : Bool) (terms : List ℤ) (before : Option Sign) (lead : Option Lead) (held : Held)
    → HoldsRun alone terms before lead held
    → pieces_of_terms follows (unwrap_or lead Bare) terms before ≡ pieces_of_held follows held
pieces_of_held-run follows _ _ _ _ _ nothing = refl
pieces_of_held-run follows _ _ _ _ _ factor = refl
pieces_of_held-run follows _ _ _ _ _ (signs t) = refl
pieces_of_held-run true _ _ _ _ _ (sum lead term) = refl
pieces_of_held-run false _ _ _ _ _ (sum lead term) = refl
pieces_of_held-run true _ _ _ _ _ (sum_and_signs lead term [] t) = refl
pieces_of_held-run true _ _ _ _ _ (sum_and_signs lead term (x ∷ xs) t) = refl
pieces_of_held-run false _ _ _ _ _ (sum_and_signs lead term terms t) = refl
pieces_of_held-run true _ _ _ _ _ (sum_and_term lead last term terms) = refl
pieces_of_held-run false _ _ _ _ _ (sum_and_term lead last term terms) = refl
