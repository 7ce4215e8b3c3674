-- The value of a word in a numeric definition, by what a use of the word gives.
use Rattle.std.proofs.Common.{◌≡◌, ◌≢◌, ℕ, ℤ, inl, inr, Bool, true, false, List, [], ◌∷◌, ◌++◌, map}
use Rattle.std.proofs.Common.{length}
use Rattle.std.proofs.Common.{Option, Some, None, Result, Ok, Err, refl, sym, ap, ◌∙◌}
use Rattle.std.specs.Prelude.{slice_get, pos, ◌==◌, if◌then◌else◌, option_map}
use Rattle.std.proofs.lemmas.Bool.{ne_eqb, cases_lt}
use Rattle.std.proofs.lemmas.Bool.Decides.{eqb_tells}
use Rattle.std.proofs.lemmas.Option.{slice_get-map}
use Rattle.wb_base.specs.declared.options.Options.{Options}
use Rattle.web_names.proofs.NameLemmas.{with_name-kept, with_name-full, used-held, used-new, slice_get-push_last}
use Rattle.web_names.specs.declared.classes.Class.{Class}
use Rattle.web_names.specs.declared.classes.Class.TheVariants as class
use Rattle.web_names.specs.declared.name_errors.NameErr.{NameErr}
use Rattle.web_names.specs.declared.name_errors.NameErr.TheVariants as refusal
use Rattle.web_names.specs.Refusals.{IfRefused}
use Rattle.web_names.specs.Identifiers.{Name, Identifiers, id_of, is_numeric, is_in_conflict, new_name, with_name}
use Rattle.web_names.specs.Identifiers.{used, name_limit}
use Rattle.wb_base.specs.declared.faults.WorkErr.{WorkErr}
use Rattle.wb_base.specs.declared.faults.WorkErr.TheVariants.{Fault as of_input}
use Rattle.wb_base.specs.declared.faults.TheConstants.{BAD_NUMERIC_DEFINITION}
use Rattle.wb_base.specs.declared.places.Place.{Place}
use Rattle.wb_base.specs.FaultAt.{fault_at}
use Rattle.wb_base.specs.WorkResult.{IfFault}
use Rattle.std.specs.Result.{IsErrOf}
use Rattle.web_scan.specs.Numeric.{Term, constant, name_value, word_value, with_constant}

-- the class and value of a name
abbrev pub kind_of : Name → Class × ℤ
kind_of name = (name.class, name.value)

-- two answers that are the same
same_answer : (a b : ℕ × List Name) (answer : Result (ℕ × List Name) NameErr) → answer ≡ Ok a → answer ≡ Ok b → a ≡ b
same_answer a b answer is_a is_b = cc

same_kind : (a b : Class × ℤ) (found : Option (Class × ℤ)) → found ≡ Some a → found ≡ Some b → a ≡ b
same_kind a b found is_a is_b = cc

-- the word is a name already, and this is its id; or it is new and ordinary
pub data UsedAs (word : List ℕ) (names : List Name) (id : ℕ) (after : List Name) : Type 0 where
  held : id_of word names ≡ Some id → after ≡ names → UsedAs word names id after
  new : id_of word names ≡ None → slice_get (map kind_of after) id ≡ Some (class.Ordinary, pos 0)
      → UsedAs word names id after

new_kind :
    (word : List ℕ) (names : List Name) (id : ℕ) (after : List Name)
    → with_name (new_name word class.Ordinary) names ≡ Ok (id, after)
    → slice_get (map kind_of after) id ≡ Some (class.Ordinary, pos 0)
new_kind word names id after is =
    let name = new_name word class.Ordinary in
    elim (cases_lt (length names) name_limit) [
      | inl room ↦ (
          let same = same_answer _ _ _ (with_name-kept name names room) is in
          let at : length names ≡ id = ap (λ p. p.0) same in
          let all : names ++ name ∷ [] ≡ after = ap (λ p. p.1) same in
          ap (λ (after : List Name). slice_get (map kind_of after) id) (sym all)
          ∙ ap (λ id. slice_get (map kind_of (names ++ name ∷ [])) id) (sym at)
          ∙ slice_get-map kind_of (names ++ name ∷ []) (length names)
          ∙ ap (option_map kind_of) (slice_get-push_last names name))
      | inr full ↦ absurd (let wrong = sym (with_name-full name names full) ∙ is in cc)
    ]

by_conflict :
    (conflict : Bool) (word : List ℕ) (names : List Name) (id : ℕ) (after : List Name)
    → (if conflict then Err refusal.Conflict else with_name (new_name word class.Ordinary) names) ≡ Ok (id, after)
    → slice_get (map kind_of after) id ≡ Some (class.Ordinary, pos 0)
by_conflict true word names id after wrong = absurd cc
by_conflict false word names id after is = new_kind word names id after is

used_as_by :
    (at : Option ℕ) (options : Options) (word : List ℕ) (names : List Name) (id : ℕ) (after : List Name)
    → id_of word names ≡ at → used options word names ≡ Ok (id, after) → UsedAs word names id after
used_as_by (Some place) options word names id after is uses =
    let same = same_answer _ _ _ (used-held options word names place is) uses in
    let at : place ≡ id = ap (λ p. p.0) same in
    let all : names ≡ after = ap (λ p. p.1) same in
    held (is ∙ ap Some at) (sym all)
used_as_by None options word names id after is uses =
    new is
    (by_conflict (is_in_conflict options word names) word names id after (sym (used-new options word names is) ∙ uses))

pub used_as :
    (options : Options) (word : List ℕ) (names : List Name) (id : ℕ) (after : List Name)
    → used options word names ≡ Ok (id, after) → UsedAs word names id after
used_as options word names id after uses = used_as_by (id_of word names) options word names id after refl uses

-- a refused word is no name
refused_by :
    (at : Option ℕ) (options : Options) (word : List ℕ) (names : List Name) (error : NameErr)
    → id_of word names ≡ at → used options word names ≡ Err error → id_of word names ≡ None
refused_by (Some place) options word names error is refuses =
    absurd (let wrong = sym (used-held options word names place is) ∙ refuses in cc)
refused_by None options word names error is refuses = is

unknown :
    (options : Options) (word : List ℕ) (names : List Name) (error : NameErr)
    → IfRefused {T = ℕ} (Err error) (λ refusal. used options word names ≡ Err refusal)
    → (IsErrOf {T = ℕ} (Err error) refusal.OutOfMemory → id_of word names ≡ None) → id_of word names ≡ None
unknown options word names refusal.OutOfMemory refused memory = memory refl
unknown options word names other refused memory = refused_by (id_of word names) options word names other refl refused

pub value-refused :
    (defining : ℕ) (options : Options) (word : List ℕ) (names : List Name) (error : NameErr)
    → IfRefused {T = ℕ} (Err error) (λ refusal. used options word names ≡ Err refusal)
    → (IsErrOf {T = ℕ} (Err error) refusal.OutOfMemory → id_of word names ≡ None)
    → word_value defining (id_of word names) names ≡ None
value-refused defining options word names error refused memory =
    ap (λ at. word_value defining at names) (unknown options word names error refused memory)

-- what is answered for a word without a value
pub none_refused :
    (T : Type 0) (r : Result T WorkErr) (place : Place) (defining : ℕ) (word : List ℕ) (names now : List Name)
    → names ≡ now → word_value defining (id_of word names) names ≡ None
    → r ≡ Err (of_input (fault_at BAD_NUMERIC_DEFINITION place))
    → IfFault r (λ fault.
    (terms : List Term) → with_constant place (word_value defining (id_of word now) now) terms ≡ Err fault)
none_refused T r place defining word names now same none is =
    rw is
    (λ terms.
    ap (λ (names : List Name). with_constant place (word_value defining (id_of word names) names) terms) (sym same)
    ∙ ap (λ value. with_constant place value terms) none)

-- two lists of names with the same options
pub same_identifiers : (a b : Identifiers) → a.options ≡ b.options → a.names ≡ b.names → a ≡ b
same_identifiers a b options names =
    let with_options : Options → Identifiers = λ options. record { options = options; names = a.names } in
    let with_names : List Name → Identifiers = λ names. record { options = b.options; names = names } in
    ap with_options options ∙ ap with_names names

-- the value of the name with this id
by_found :
    (defining id : ℕ) (found : Option Name) (value : ℤ) → option_map kind_of found ≡ Some (class.Numeric, value)
    → id ≢ defining → name_value defining id found ≡ Some value
by_found defining id None value is other = absurd cc
by_found defining id (Some name) value is other =
    let same = same_kind (kind_of name) (class.Numeric, value) (Some (kind_of name)) refl is in
    let numeric : name.class ≡ class.Numeric = ap (λ p. p.0) same in
    let valued : name.value ≡ value = ap (λ p. p.1) same in
    rw (ne_eqb id defining other, numeric) (ap Some valued)

none_by_class : (kind : Class) (value : ℤ) → kind ≢ class.Numeric
    → (if is_numeric kind then Some value else None) ≡ None
none_by_class class.Ordinary value other = refl
none_by_class class.Numeric value other = absurd (other refl)
none_by_class class.Simple value other = refl
none_by_class class.Parametric value other = refl

none_at : (same : Bool) (kind : Class) (value : ℤ) → kind ≢ class.Numeric
    → (if same then None else (if is_numeric kind then Some value else None)) ≡ None
none_at true kind value other = refl
none_at false kind value other = none_by_class kind value other

none_found :
    (defining id : ℕ) (found : Option Name) (kind : Class) (value : ℤ) → option_map kind_of found ≡ Some (kind, value)
    → kind ≢ class.Numeric → name_value defining id found ≡ None
none_found defining id None kind value is other = refl
none_found defining id (Some name) kind value is other =
    let same = same_kind (kind_of name) (kind, value) (Some (kind_of name)) refl is in
    let is_kind : name.class ≡ kind = ap (λ p. p.0) same in
    none_at (id == defining) name.class name.value (λ numeric. other (sym is_kind ∙ numeric))

none_defined : (defining id : ℕ) (found : Option Name) → id ≡ defining → name_value defining id found ≡ None
none_defined defining id None defined = refl
none_defined defining id (Some name) defined =
    elim (eqb_tells id defining) [
      | inl same ↦ rw same.0 refl
      | inr other ↦ absurd (other.1 defined)
    ]

-- the value of a numeric macro
pub record IsValueOf (defining : ℕ) (word : List ℕ) (names after : List Name) (value : ℤ) : Type 0 where
  pub value_is : word_value defining (id_of word names) names ≡ Some value
  pub unchanged : after ≡ names

pub value-numeric :
    (defining : ℕ) (word : List ℕ) (names : List Name) (id : ℕ) (after : List Name) (kind : Class) (value : ℤ)
    → UsedAs word names id after → slice_get (map kind_of after) id ≡ Some (kind, value) → kind ≡ class.Numeric
    → id ≢ defining
    → IsValueOf defining word names after value
value-numeric defining word names id after kind value (held is same) at numeric other =
    record {
      value_is = ap (λ at. word_value defining at names) is
          ∙ by_found defining id (slice_get names id) value
          (sym (slice_get-map kind_of names id)
          ∙ ap (λ (after : List Name). slice_get (map kind_of after) id) (sym same) ∙ at
          ∙ ap (λ kind. Some (kind, value)) numeric) other;
      unchanged = same;
    }
value-numeric defining word names id after kind value (new is ordinary) at numeric other =
    absurd (let wrong = ap (λ p. p.0) (same_kind _ _ _ ordinary at) in cc)

-- any other word has none
pub value-none :
    (defining : ℕ) (word : List ℕ) (names : List Name) (id : ℕ) (after : List Name) (kind : Class) (value : ℤ)
    → UsedAs word names id after → slice_get (map kind_of after) id ≡ Some (kind, value)
    → kind ≢ class.Numeric → word_value defining (id_of word names) names ≡ None
value-none defining word names id after kind value (held is same) at other =
    ap (λ at. word_value defining at names) is
    ∙ none_found defining id (slice_get names id) kind value
    (sym (slice_get-map kind_of names id)
    ∙ ap (λ (after : List Name). slice_get (map kind_of after) id) (sym same) ∙ at) other
value-none defining word names id after kind value (new is ordinary) at other =
    ap (λ at. word_value defining at names) is

-- nor has the one that is being defined
pub value-defining :
    (defining : ℕ) (word : List ℕ) (names : List Name) (id : ℕ) (after : List Name)
    → UsedAs word names id after → id ≡ defining → word_value defining (id_of word names) names ≡ None
value-defining defining word names id after (held is same) defined =
    ap (λ at. word_value defining at names) is ∙ none_defined defining id (slice_get names id) defined
value-defining defining word names id after (new is ordinary) defined = ap (λ at. word_value defining at names) is

-- what is answered for a word with a value
pub some_known :
    (place : Place) (defining : ℕ) (word : List ℕ) (names now : List Name) (value other : ℤ) → names ≡ now
    → word_value defining (id_of word names) names ≡ Some value → other ≡ value → (terms : List Term)
    → with_constant place (word_value defining (id_of word now) now) terms ≡ Ok (constant other ∷ terms)
some_known place defining word names now value other same some is terms =
    ap (λ (names : List Name). with_constant place (word_value defining (id_of word names) names) terms) (sym same)
    ∙ ap (λ value. with_constant place value terms) some
    ∙ ap (λ value. Ok (constant value ∷ terms)) (sym is)
