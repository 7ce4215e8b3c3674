-- How the right side of a numeric definition is added up as it is read.
use Rattle.std.specs.Prelude.{ℕ, ℤ, pos, neg_ℤ, ◌≡◌, Bool, true, false, List, ◌∷◌, Option, Some}
use Rattle.std.specs.Prelude.{None}
use Rattle.web_scan.specs.declared.numeric.Sum.{Sum}
use Rattle.web_lex.specs.declared.codes.Code.{Code}
use Rattle.web_scan.specs.Scanned.{Scanned, Scanning}
use Rattle.web_scan.specs.Numeric.{Term, digits, product_of_signs, sum_of}

-- whether the last term is a number of digits
abbrev pub ends_in_digits : List Term → Bool
ends_in_digits (digits value ∷ terms) = true
ends_in_digits terms = false

-- terms, and the number that the last digits make, if there is one
abbrev pub and_number : Option ℕ → List Term → List Term
and_number None terms = terms
and_number (Some value) terms = digits value ∷ terms

-- the product of signs: whether an odd number of them is `-`
abbrev pub sign_of : Bool → ℤ
sign_of true = neg_ℤ (pos 1)
sign_of false = pos 1

-- the sum is that of these terms, and counts their last number too
pub record IsTotalOf (sum : Sum) (terms : List Term) : Type 0 where
  pub number : sum.number ≡ None
  pub total : sum.total ≡ sum_of terms
  pub sign : sign_of sum.negated ≡ product_of_signs terms

-- the sum is that of these terms, and keeps apart the number that the last digits make
pub record StandsFor (sum : Sum) (terms : List Term) : Type 0 where
  pub before : List Term
  pub terms_are : terms ≡ and_number sum.number before
  pub whole : ends_in_digits before ≡ false
  pub total : sum.total ≡ sum_of before
  pub sign : sign_of sum.negated ≡ product_of_signs before

-- one more token of a right side: the sum stands for the terms with it, and this is the web after it
pub record AddedTo (sum : Sum) (web : Scanned) (answer : List Term × Scanned) : Type 0 where
  pub terms : StandsFor sum answer.0
  pub web_is : answer.1 ≡ web

-- a whole right side: the sum stands for its terms, this code ends it, and this is the web after that
pub record ReadTo (sum : Sum) (code : Code) (scanning : Scanning) (answer : List Term × Code × Scanning) : Type 0 where
  pub terms : StandsFor sum answer.0
  pub code_is : answer.1 ≡ code
  pub scanning_is : answer.2 ≡ scanning
