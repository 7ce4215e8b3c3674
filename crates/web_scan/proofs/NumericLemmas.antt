-- The sum of a right side, a term at a time.
use Rattle.std.proofs.Common.{◌≡◌, ℕ, ℤ, Bool, true, false, List, ◌∷◌, None, refl}
use Rattle.std.proofs.Common.{ap, ◌∙◌}
use Rattle.std.specs.Prelude.{neg_ℤ, ◌+ℤ◌, ◌*ℤ◌, not, IsOkAnd}
use Rattle.wb_base.specs.declared.places.Place.{Place}
use Rattle.web_scan.specs.declared.numeric.Sum.{Sum}
use Rattle.web_scan.specs.Numeric.{Term, plus, minus, constant, product_of_signs, with_sign}
use Rattle.web_scan.specs.inner.StandsFor.{sign_of, IsTotalOf, StandsFor}

-- one more constant
pub with_constant_added :
    (old middle new : Sum) (value : ℤ) → ((terms : List Term) → StandsFor old terms → IsTotalOf middle terms)
    → new.number ≡ middle.number → new.total ≡ (sign_of middle.negated *ℤ value) +ℤ middle.total → new.negated ≡ false
    → (terms : List Term) → StandsFor old terms → StandsFor new (constant value ∷ terms)
with_constant_added old middle new value whole number total signs terms stands =
    let ended : IsTotalOf middle terms = whole terms stands in
    let none : new.number ≡ None = number ∙ ended.number in
    record {
      before = constant value ∷ terms;
      terms_are = rw none refl;
      whole = refl;
      total = total
          ∙ ap (λ sign. (sign *ℤ value) +ℤ middle.total) ended.sign
          ∙ ap (λ sum. (product_of_signs terms *ℤ value) +ℤ sum) ended.total;
      sign = ap sign_of signs;
    }

-- a plus sign
pub with_plus_added :
    (sum : Sum) (place : Place) (byte : ℕ) (terms : List Term) → byte ≡ 43 → IsTotalOf sum terms
    → IsOkAnd (with_sign place byte terms) (StandsFor sum)
with_plus_added sum place byte terms is ended =
    let none = ended.number in
    let stands : StandsFor sum (plus ∷ terms) = record {
      before = plus ∷ terms;
      terms_are = rw none refl;
      whole = refl;
      total = ended.total;
      sign = ended.sign;
    } in
    rw is stands

sign_of-not : (negated : Bool) → sign_of (not negated) ≡ neg_ℤ (sign_of negated)
sign_of-not true = refl
sign_of-not false = refl

-- a minus sign
pub with_minus_added :
    (sum : Sum) (place : Place) (byte : ℕ) (terms : List Term) → byte ≡ 45 → IsTotalOf sum terms
    → IsOkAnd (with_sign place byte terms) (StandsFor (record sum { negated = not sum.negated }))
with_minus_added sum place byte terms is ended =
    let none = ended.number in
    let stands : StandsFor (record sum { negated = not sum.negated }) (minus ∷ terms) = record {
      before = minus ∷ terms;
      terms_are = rw none refl;
      whole = refl;
      total = ended.total;
      sign = sign_of-not sum.negated ∙ ap neg_ℤ ended.sign;
    } in
    rw is stands
