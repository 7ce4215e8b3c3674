-- Tests of a class, and what the definition of a name again answers.
use Rattle.std.proofs.Common.{◌≡◌, ℕ, Bool, true, false, not, if◌then◌else◌, List, Ok, Err, Result, refl, sym}
use Rattle.std.proofs.Common.{ap}
use denote.Enum.Bare.{sameb}
use Rattle.web_names.specs.contracts.classes.Class.{the_type}
use Rattle.web_names.specs.declared.classes.Class.{Class}
use Rattle.web_names.specs.declared.classes.Class.TheVariants.{Ordinary, Numeric, Simple, Parametric}
use Rattle.web_names.specs.declared.name_errors.NameErr.{NameErr}
use Rattle.web_names.specs.declared.name_errors.NameErr.TheVariants.{Before, Appeared}
use Rattle.web_names.specs.Identifiers.{Name, is_ordinary, is_numeric, class_of, with_class, changed_at}
use Rattle.web_names.specs.Identifiers.{defined_again}

pub same_as_ordinary : (class : Class) → sameb the_type class Ordinary ≡ is_ordinary class
same_as_ordinary Ordinary = refl
same_as_ordinary Numeric = refl
same_as_ordinary Simple = refl
same_as_ordinary Parametric = refl

pub same_as_numeric : (class : Class) → sameb the_type class Numeric ≡ is_numeric class
same_as_numeric Ordinary = refl
same_as_numeric Numeric = refl
same_as_numeric Simple = refl
same_as_numeric Parametric = refl

-- a class that differs from `Ordinary`, by its test, and one that does not
pub not_ordinary : (class : Class) → not (sameb the_type class Ordinary) ≡ true → is_ordinary class ≡ false
not_ordinary Ordinary differs = sym differs
not_ordinary Numeric differs = refl
not_ordinary Simple differs = refl
not_ordinary Parametric differs = refl

pub ordinary : (class : Class) → not (sameb the_type class Ordinary) ≡ false → is_ordinary class ≡ true
ordinary Ordinary same = refl
ordinary Numeric same = sym same
ordinary Simple same = sym same
ordinary Parametric same = sym same

module _ (id : ℕ) (class : Class) (names : List Name) where
  answer : Bool → Bool → Result (ℕ × List Name) NameErr
  answer ordinary numeric =
      if not ordinary then Err Before else
      (if numeric then Err Appeared else Ok (id, changed_at id (with_class class) names))

  pub defined_again-before : is_ordinary (class_of id names) ≡ false → defined_again id class names ≡ Err Before
  unfolding answer
  defined_again-before macro = ap (λ b. answer b (is_numeric class)) macro

  pub defined_again-appeared : is_ordinary (class_of id names) ≡ true → is_numeric class ≡ true
      → defined_again id class names ≡ Err Appeared
  unfolding answer
  defined_again-appeared ordinary numeric = (λ i. answer (ordinary i) (numeric i))

  pub defined_again-done : is_ordinary (class_of id names) ≡ true → is_numeric class ≡ false
      → defined_again id class names ≡ Ok (id, changed_at id (with_class class) names)
  unfolding answer
  defined_again-done ordinary numeric = (λ i. answer (ordinary i) (numeric i))
