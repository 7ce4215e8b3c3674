-- The names of a web after a use and a definition, and the places of names of sections.
use Rattle.std.proofs.Common.{◌≡◌, ℕ, ℤ, zero, suc, ◌+◌, ◌<◌, ◌≤◌, not, nat_lt, if◌then◌else◌, List, [], ◌∷◌, ◌++◌}
use Rattle.std.proofs.Common.{length, map, filter, All, Option, Some, None, Result, Ok, Err, IfOk, position, refl, sym}
use Rattle.std.proofs.Common.{ap, ◌∙◌, arith, length-append, append_assoc, append-nil}
use Rattle.std.specs.List.{list_any, enumerate_from}
use Rattle.std.specs.Str.{bytes_eq}
use Rattle.std.proofs.lemmas.List.Elements.{All-nil, All-cons, All-head, All-tail, All-append, All-push, All-map}
use Rattle.std.proofs.lemmas.List.Elements.{All-filter}
use Rattle.std.proofs.lemmas.List.Quantifiers.{position-Some}
use Rattle.wb_base.specs.declared.options.Options.{Options}
use Rattle.web_names.specs.declared.classes.Class.{Class}
use Rattle.web_names.specs.declared.classes.Class.TheVariants as class
use Rattle.web_names.specs.declared.name_errors.NameErr.{NameErr}
use Rattle.web_names.specs.declared.name_errors.NameErr.TheVariants as refusal
use Rattle.web_names.specs.Identifiers.{Name, id_of, is_ordinary, is_numeric, is_in_conflict, class_of, new_name}
use Rattle.web_names.specs.Identifiers.{with_name, used, used_at, defined, defined_at, defined_again, changed_at}
use Rattle.web_names.specs.Identifiers.{with_class, with_value, name_limit}
use Rattle.web_names.specs.SectionNames.{is_prefix_of, is_incompatible, section_limit, whole_at, whole_name, the_only}
use Rattle.web_names.specs.SectionNames.{prefix_name}
use Rattle.web_scan.proofs.AnswerLemmas.{choice}
use Rattle.web_scan.proofs.NamesLemmas.{id_of-among, length-changed_at}

-- only ordinary names come after these
pub record AddsOrdinary (before after : List Name) : Type 0 where
  pub more : List Name
  pub is : after ≡ before ++ more
  pub ordinary : All (λ name. name.class ≡ class.Ordinary) more

pub AddsOrdinary-none : (names : List Name) → AddsOrdinary names names
AddsOrdinary-none names =
    record { more = []; is = sym (append-nil names); ordinary = All-nil (λ name. name.class ≡ class.Ordinary) }

pub AddsOrdinary-more : (before between after : List Name) → AddsOrdinary before between → AddsOrdinary between after
    → AddsOrdinary before after
AddsOrdinary-more before between after first then_ = record {
  more = first.more ++ then_.more;
  is = then_.is ∙ ap (λ names. names ++ then_.more) first.is ∙ append_assoc before first.more then_.more;
  ordinary = All-append (λ name. name.class ≡ class.Ordinary) first.more then_.more first.ordinary then_.ordinary;
}

pub AddsOrdinary-grows : (before after : List Name) → AddsOrdinary before after → length before ≤ length after
AddsOrdinary-grows before after adds = omega (arith, ap length adds.is, length-append before adds.more)

-- the id and the names after a use of a word
pub record IsUse (before : List Name) (answer : ℕ × List Name) : Type 0 where
  pub adds : AddsOrdinary before answer.1
  pub among : answer.0 < length answer.1

abbrev HasUse : List Name → Result (ℕ × List Name) NameErr → Type 0
HasUse before answer = IfOk answer (IsUse before)

with_name-use : (word : List ℕ) (names : List Name) → HasUse names (with_name (new_name word class.Ordinary) names)
with_name-use word names =
    let name = new_name word class.Ordinary in
    choice (HasUse names) (nat_lt (length names) name_limit) (Ok (length names, names ++ name ∷ [])) (Err refusal.Full)
    (λ room. record {
      adds = record {
        more = name ∷ [];
        is = refl;
        ordinary = All-cons (λ name. name.class ≡ class.Ordinary) name [] refl
            (All-nil (λ name. name.class ≡ class.Ordinary));
      };
      among = omega (arith, length-append names (name ∷ []));
    }) (λ full. tt)

used_at-use : (held : Option ℕ) (options : Options) (word : List ℕ) (names : List Name) → id_of word names ≡ held
    → HasUse names (used_at held options word names)
used_at-use (Some id) options word names is =
    record { adds = AddsOrdinary-none names; among = id_of-among word names id is }
used_at-use None options word names is =
    choice (HasUse names) (is_in_conflict options word names) (Err refusal.Conflict)
    (with_name (new_name word class.Ordinary) names)
    (λ conflict. tt) (λ none. with_name-use word names)

pub used-use : (options : Options) (word : List ℕ) (names : List Name) → HasUse names (used options word names)
unfolding used
used-use options word names = used_at-use (id_of word names) options word names refl

-- after a definition, and once the defined name has this value, this holds of the class and value of each name
pub record IsDefined (P : Class → ℤ → Type 0) (value : ℤ) (before : List Name) (answer : ℕ × List Name) : Type 0 where
  pub grows : length before ≤ length answer.1
  pub all : All (λ name. P name.class name.value) (with_value answer.0 value answer.1)

abbrev HasDefined : (Class → ℤ → Type 0) → ℤ → List Name → Result (ℕ × List Name) NameErr → Type 0
HasDefined P value before answer = IfOk answer (IsDefined P value before)

-- the last name gets a value
changed_at-last : (change : Name → Name) (names : List Name) (name : Name)
    → changed_at (length names) change (names ++ name ∷ []) ≡ names ++ change name ∷ []
changed_at-last change [] name = refl
changed_at-last change (other ∷ names) name = ap (λ rest. other ∷ rest) (changed_at-last change names name)

-- a name of which only the class matters gets a class and a value
changed_at-all :
    (P : Class → ℤ → Type 0) (kind : Class) (value : ℤ) (id : ℕ) (names : List Name)
    → All (λ name. P name.class name.value) names → P kind value
    → All (λ name. P name.class name.value)
    (changed_at id (λ name. record name { value = value }) (changed_at id (with_class kind) names))
changed_at-all P kind value id [] all here = all
changed_at-all P kind value zero (name ∷ names) all here =
    All-cons (λ name. P name.class name.value) (record name { class = kind; value = value }) names here
    (All-tail (λ name. P name.class name.value) name names all)
changed_at-all P kind value (suc id) (name ∷ names) all here =
    All-cons (λ name. P name.class name.value) name
    (changed_at id (λ name. record name { value = value }) (changed_at id (with_class kind) names))
    (All-head (λ name. P name.class name.value) name names all)
    (changed_at-all P kind value id names (All-tail (λ name. P name.class name.value) name names all) here)

with_name-defined :
    (P : Class → ℤ → Type 0) (kind : Class) (value : ℤ) (word : List ℕ) (names : List Name)
    → All (λ name. P name.class name.value) names → P kind value
    → HasDefined P value names (with_name (new_name word kind) names)
unfolding with_value
with_name-defined P kind value word names all here =
    let name = new_name word kind in
    let valued : Name = record name { value = value } in
    choice (HasDefined P value names) (nat_lt (length names) name_limit) (Ok (length names, names ++ name ∷ []))
    (Err refusal.Full)
    (λ room. record {
      grows = omega (arith, length-append names (name ∷ []));
      all = rw (changed_at-last (λ name. record name { value = value }) names name)
          (All-push (λ name. P name.class name.value) names valued all here);
    }) (λ full. tt)

again-defined :
    (P : Class → ℤ → Type 0) (kind : Class) (value : ℤ) (id : ℕ) (names : List Name)
    → All (λ name. P name.class name.value) names → P kind value
    → HasDefined P value names (defined_again id kind names)
unfolding with_value
again-defined P kind value id names all here =
    let changed = changed_at id (with_class kind) names in
    choice (HasDefined P value names) (not (is_ordinary (class_of id names))) (Err refusal.Before)
    (if is_numeric kind then Err refusal.Appeared else Ok (id, changed)) (λ macro. tt)
    (λ ordinary. choice (HasDefined P value names) (is_numeric kind) (Err refusal.Appeared) (Ok (id, changed))
    (λ numeric. tt)
    (λ text. record {
      grows = omega (arith, length-changed_at id (with_class kind) names);
      all = changed_at-all P kind value id names all here;
    }))

defined_at-defined :
    (P : Class → ℤ → Type 0) (kind : Class) (value : ℤ) (held : Option ℕ) (word : List ℕ) (names : List Name)
    → All (λ name. P name.class name.value) names → P kind value
    → HasDefined P value names (defined_at held word kind names)
defined_at-defined P kind value (Some id) word names all here = again-defined P kind value id names all here
defined_at-defined P kind value None word names all here = with_name-defined P kind value word names all here

pub defined-defined :
    (P : Class → ℤ → Type 0) (kind : Class) (value : ℤ) (word : List ℕ) (names : List Name)
    → All (λ name. P name.class name.value) names → P kind value → HasDefined P value names (defined word kind names)
unfolding defined
defined-defined P kind value word names all here =
    defined_at-defined P kind value (id_of word names) word names all here

-- the place of a whole name of a section is that of a name
pub record IsWhole (before : List (List ℕ)) (answer : ℕ × List (List ℕ)) : Type 0 where
  pub grows : length before ≤ length answer.1
  pub within : answer.0 < length answer.1

abbrev HasWhole : List (List ℕ) → Result (ℕ × List (List ℕ)) NameErr → Type 0
HasWhole before answer = IfOk answer (IsWhole before)

whole_at-within :
    (held : Option ℕ) (name : List ℕ) (names : List (List ℕ)) → position (bytes_eq name) names ≡ held
    → HasWhole names (whole_at held name names)
whole_at-within (Some place) name names is =
    let within = (position-Some (bytes_eq name) names place [] is).0 in
    record { grows = omega arith; within = within }
whole_at-within None name names is =
    let room = nat_lt (length names) section_limit in
    choice (HasWhole names) (list_any (is_incompatible name) names) (Err refusal.Incompatible)
    (if room then Ok (length names, names ++ name ∷ []) else Err refusal.Full) (λ incompatible. tt)
    (λ compatible. choice (HasWhole names) room (Ok (length names, names ++ name ∷ [])) (Err refusal.Full)
    (λ there_is. let long = length-append names (name ∷ []) in record { grows = omega arith; within = omega arith })
    (λ full. tt))

pub whole_name-within : (name : List ℕ) (names : List (List ℕ)) → HasWhole names (whole_name name names)
unfolding whole_name
whole_name-within name names = whole_at-within (position (bytes_eq name) names) name names refl

-- and so is that which a prefix stands for
enumerate_from-within : (names : List (List ℕ)) (from limit : ℕ) → from + length names ≤ limit
    → All (λ entry. entry.0 < limit) (enumerate_from from names)
enumerate_from-within [] from limit within = All-nil (λ entry. entry.0 < limit)
enumerate_from-within (name ∷ names) from limit within =
    All-cons (λ entry. entry.0 < limit) (from, name) (enumerate_from (from + 1) names) (omega arith)
    (enumerate_from-within names (from + 1) limit (omega arith))

the_only-within : (places : List ℕ) (limit : ℕ) → All (λ place. place < limit) places
    → IfOk (the_only places) (λ place. place < limit)
the_only-within [] limit all = tt
the_only-within (place ∷ []) limit all = All-head (λ place. place < limit) place [] all
the_only-within (place ∷ (other ∷ others)) limit all = tt

pub prefix_name-within : (prefix : List ℕ) (names : List (List ℕ))
    → IfOk (prefix_name prefix names) (λ place. place < length names)
unfolding prefix_name
prefix_name-within prefix names =
    let entries = enumerate_from 0 names in
    let within : All (λ entry. entry.0 < length names) entries = enumerate_from-within names 0 (length names)
    (omega arith) in
    let kept = filter (λ entry. is_prefix_of prefix entry.1) entries in
    the_only-within (map (λ entry. entry.0) kept) (length names)
    (All-map (λ place. place < length names) (λ entry. entry.0) kept
    (All-filter (λ entry. is_prefix_of prefix entry.1) (λ entry. entry.0 < length names) entries within))
