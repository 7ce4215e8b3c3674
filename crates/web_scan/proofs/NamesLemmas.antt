-- How many names there are after a use or a definition, and that its id is one of them.
use Rattle.std.proofs.Common.{◌≡◌, ℕ, ℤ, Bool, true, false, not, if◌then◌else◌, zero, suc, ◌+◌, ◌<◌, ◌≤◌, List, []}
use Rattle.std.proofs.Common.{◌∷◌, ◌++◌, length, Option, Some, None, Result, Ok, Err, refl, sym, ap, ◌∙◌, inl, inr}
use Rattle.std.proofs.Common.{arith, length-append}
use Rattle.std.proofs.lemmas.Bool.{cases_lt}
use Rattle.std.proofs.lemmas.List.Quantifiers.{position-Some}
use Rattle.wb_base.specs.declared.options.Options.{Options}
use Rattle.web_names.proofs.NameLemmas.{with_name-kept, with_name-full}
use Rattle.web_names.specs.declared.classes.Class.{Class}
use Rattle.web_names.specs.declared.classes.Class.TheVariants as class
use Rattle.web_names.specs.declared.name_errors.NameErr.{NameErr}
use Rattle.web_names.specs.declared.name_errors.NameErr.TheVariants as refusal
use Rattle.web_names.specs.Identifiers.{Name, id_of, is_named, is_ordinary, is_numeric, is_in_conflict, class_of}
use Rattle.web_names.specs.Identifiers.{new_name, with_name, used, used_at, defined, defined_at, defined_again}
use Rattle.web_names.specs.Identifiers.{changed_at, with_class, with_value, name_limit}

-- not more than there may be, and this id among them
pub record IsAmong (id : ℕ) (names : List Name) : Type 0 where
  pub few : length names ≤ name_limit
  pub among : id < length names

-- two answers that are the same
same_answer : (a b : ℕ × List Name) (answer : Result (ℕ × List Name) NameErr) → answer ≡ Ok a → answer ≡ Ok b → a ≡ b
same_answer a b answer is_a is_b = cc

pub among_with_name : (name : Name) (names : List Name) (id : ℕ) (after : List Name)
    → with_name name names ≡ Ok (id, after) → IsAmong id after
among_with_name name names id after is =
    elim (cases_lt (length names) name_limit) [
      | inl room ↦ (
          let same = same_answer _ _ _ (with_name-kept name names room) is in
          let at : length names ≡ id = ap (λ p. p.0) same in
          let all : names ++ name ∷ [] ≡ after = ap (λ p. p.1) same in
          let long : length after ≡ length names + 1 = ap length (sym all) ∙ length-append names (name ∷ []) in
          record { few = omega arith; among = omega arith })
      | inr full ↦ absurd (let wrong = sym (with_name-full name names full) ∙ is in cc)
    ]

-- the id of a word that is a name
pub id_of-among : (word : List ℕ) (names : List Name) (id : ℕ) → id_of word names ≡ Some id → id < length names
id_of-among word names id is = (position-Some (is_named word) names id (new_name [] class.Ordinary) is).0

-- the answer of a use of a new word by whether it looks like another one
abbrev new_by : Bool → List ℕ → List Name → Result (ℕ × List Name) NameErr
new_by conflict word names = if conflict then Err refusal.Conflict else with_name (new_name word class.Ordinary) names

by_conflict :
    (conflict : Bool) (word : List ℕ) (names : List Name) (id : ℕ) (after : List Name)
    → new_by conflict word names ≡ Ok (id, after) → IsAmong id after
by_conflict true word names id after wrong = absurd cc
by_conflict false word names id after is = among_with_name (new_name word class.Ordinary) names id after is

-- after a use of a word
among_used_at :
    (held : Option ℕ) (options : Options) (word : List ℕ) (names : List Name) (id : ℕ) (after : List Name)
    → id_of word names ≡ held → length names ≤ name_limit → used_at held options word names ≡ Ok (id, after)
    → IsAmong id after
among_used_at (Some place) options word names id after held few is =
    let same = same_answer (place, names) (id, after) (Ok (place, names)) refl is in
    let at : place ≡ id = ap (λ p. p.0) same in
    let all : names ≡ after = ap (λ p. p.1) same in
    let within = id_of-among word names place held in
    let long : length names ≡ length after = ap length all in
    record { few = omega arith; among = omega arith }
among_used_at None options word names id after held few is =
    by_conflict (is_in_conflict options word names) word names id after is

pub among_used :
    (options : Options) (word : List ℕ) (names : List Name) (id : ℕ) (after : List Name)
    → length names ≤ name_limit → used options word names ≡ Ok (id, after) → IsAmong id after
unfolding used
among_used options word names id after few is =
    among_used_at (id_of word names) options word names id after refl few is

-- a change of one name
pub length-changed_at : (id : ℕ) (change : Name → Name) (names : List Name)
    → length (changed_at id change names) ≡ length names
length-changed_at id change [] = refl
length-changed_at zero change (name ∷ names) = refl
length-changed_at (suc id) change (name ∷ names) = ap suc (length-changed_at id change names)

pub length-with_value : (id : ℕ) (value : ℤ) (names : List Name) → length (with_value id value names) ≡ length names
unfolding with_value
length-with_value id value names = length-changed_at id (λ name. record name { value = value }) names

-- the answer of a definition of a name by two tests of it
abbrev again_by : Bool → Bool → ℕ → List Name → Result (ℕ × List Name) NameErr
again_by macro numeric place names =
    if macro then Err refusal.Before else (if numeric then Err refusal.Appeared else Ok (place, names))

by_tests :
    (macro numeric : Bool) (place : ℕ) (changed : List Name) (id : ℕ) (after names : List Name)
    → place < length names → length names ≤ name_limit → length changed ≡ length names
    → again_by macro numeric place changed ≡ Ok (id, after) → IsAmong id after
by_tests true numeric place changed id after names within few long wrong = absurd cc
by_tests false true place changed id after names within few long wrong = absurd cc
by_tests false false place changed id after names within few long is =
    let same = same_answer (place, changed) (id, after) (Ok (place, changed)) refl is in
    let at : place ≡ id = ap (λ p. p.0) same in
    let all : changed ≡ after = ap (λ p. p.1) same in
    let length_of : length changed ≡ length after = ap length all in
    record { few = omega arith; among = omega arith }

among_again :
    (word : List ℕ) (kind : Class) (names : List Name) (place id : ℕ) (after : List Name)
    → place < length names → length names ≤ name_limit → defined_again place kind names ≡ Ok (id, after)
    → IsAmong id after
among_again word kind names place id after within few is =
    by_tests (not (is_ordinary (class_of place names))) (is_numeric kind) place
    (changed_at place (with_class kind) names) id after names
    within few (length-changed_at place (with_class kind) names) is

among_defined_at :
    (held : Option ℕ) (word : List ℕ) (kind : Class) (names : List Name) (id : ℕ) (after : List Name)
    → id_of word names ≡ held → length names ≤ name_limit → defined_at held word kind names ≡ Ok (id, after)
    → IsAmong id after
among_defined_at (Some place) word kind names id after held few is =
    among_again word kind names place id after (id_of-among word names place held) few is
among_defined_at None word kind names id after held few is = among_with_name (new_name word kind) names id after is

-- after a definition of a word
pub among_defined :
    (word : List ℕ) (kind : Class) (names : List Name) (id : ℕ) (after : List Name)
    → length names ≤ name_limit → defined word kind names ≡ Ok (id, after) → IsAmong id after
unfolding defined
among_defined word kind names id after few is =
    among_defined_at (id_of word names) word kind names id after refl few is
