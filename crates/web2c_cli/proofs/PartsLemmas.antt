-- What the words of a command line give, from a place on.
use Rattle.std.proofs.Common.{◌≡◌, ◌∙◌, ◌⊎◌, inl, inr, ℕ, suc, ◌+◌, ◌≤◌, List, [], ◌∷◌, length, drop, drop-cons, map}
use Rattle.std.proofs.Common.{Bool, true, false, cond, Some, option_map, slice_get, refl, sym, ap}
use Rattle.std.proofs.Common.{arith}
use Rattle.std.specs.List.{find}
use Rattle.std.proofs.lemmas.Grind.{common_steps}
use Rattle.std.proofs.lemmas.Option.{slice_get_within, get_or_from_slice_get}
use Rattle.web2c_cli.specs.declared.parts.Cursor.{Cursor}
use Rattle.web2c_cli.specs.CommandLine.{OptionForm, Part, name, ends_options, takes_next, option_part, word_part}
use Rattle.web2c_cli.specs.CommandLine.{parts_of}
use Rattle.web2c_cli.specs.inner.Reading.{parts_from}

pub cond_true : {A : Type 0} (b : Bool) (x y : A) → b ≡ true → cond b x y ≡ x
cond_true true x y is = refl
cond_true false x y is = cc

pub cond_false : {A : Type 0} (b : Bool) (x y : A) → b ≡ false → cond b x y ≡ y
cond_false true x y is = cc
cond_false false x y is = refl

-- a list whose first is the same
pub with_first : (first second : Part) (rest : List Part) → first ≡ second → first ∷ rest ≡ second ∷ rest
with_first first second rest same = ap (λ (part : Part). part ∷ rest) same

-- the first of what is mapped
pub find-map : {A B : Type 0} (f : A → B) (p : B → Bool) (xs : List A)
    → option_map f (find (λ x. p (f x)) xs) ≡ find p (map f xs)
find-map f p [] = refl
find-map f p (x ∷ xs) =
    elim (p (f x)) as (λ b. option_map f (cond b (Some x) (find (λ x. p (f x)) xs)) ≡ cond b (Some (f x))
    (find p (map f xs)))
    [ true ↦ refl | false ↦ find-map f p xs ]

-- a list from a place on
pub drop_at : {A : Type 0} (xs : List A) (i : ℕ) (x : A) → slice_get xs i ≡ Some x → drop i xs ≡ x ∷ drop (i + 1) xs
drop_at xs i x is =
    let next : suc i ≡ i + 1 = omega arith in
    drop-cons xs i x (slice_get_within xs i x is)
    ∙ ap (λ y. y ∷ drop (suc i) xs) (get_or_from_slice_get xs i x x is)
    ∙ ap (λ n. x ∷ drop n xs) next

pub drop_all : (words : List (List ℕ)) (at : ℕ) → length words ≤ at → drop at words ≡ []
drop_all words at past = grind (arith, common_steps)

parts_end : (options : List OptionForm) (word : List ℕ) (rest : List (List ℕ)) → ends_options word ≡ true
    → parts_of options (word ∷ rest) ≡ map name rest
unfolding parts_of
parts_end options word [] ends = cond_true _ _ _ ends
parts_end options word (next ∷ rest) ends = cond_true _ _ _ ends

parts_word : (options : List OptionForm) (word : List ℕ) (rest : List (List ℕ)) → ends_options word ≡ false
    → (takes_next options word ≡ false) ⊎ (rest ≡ [])
    → parts_of options (word ∷ rest) ≡ word_part options word ∷ parts_of options rest
unfolding parts_of
parts_word options word [] ends alone = cond_false _ _ _ ends
parts_word options word (next ∷ rest) ends (inl alone) = cond_false _ _ _ ends ∙ cond_false _ _ _ alone
parts_word options word (next ∷ rest) ends (inr none) = cc

parts_pair : (options : List OptionForm) (word next : List ℕ) (rest : List (List ℕ)) → ends_options word ≡ false
    → takes_next options word ≡ true
    → parts_of options (word ∷ next ∷ rest) ≡ option_part options word (Some next) ∷ parts_of options rest
unfolding parts_of
parts_pair options word next rest ends takes = cond_false _ _ _ ends ∙ cond_true _ _ _ takes

-- the same from a cursor on
pub none_from : (options : List OptionForm) (cursor : Cursor) (words : List (List ℕ)) → length words ≤ cursor.at
    → parts_from options cursor words ≡ []
unfolding parts_of
none_from options cursor words past =
    ap (λ (rest : List (List ℕ)). cond cursor.names_only (map name rest) (parts_of options rest))
    (drop_all words cursor.at past)
    ∙ none_by cursor.names_only
  where
    none_by : (b : Bool) → cond {A = List Part} b [] [] ≡ []
    none_by true = refl
    none_by false = refl

pub end_mark_from : (options : List OptionForm) (cursor : Cursor) (words : List (List ℕ)) (word : List ℕ)
    → cursor.names_only ≡ false → slice_get words cursor.at ≡ Some word → ends_options word ≡ true
    → parts_from options (record { at = cursor.at + 1; names_only = true }) words ≡ parts_from options cursor words
end_mark_from options cursor words word more is ends = sym (
    cond_false _ _ _ more ∙ ap (parts_of options) (drop_at words cursor.at word is)
    ∙ parts_end options word (drop (cursor.at + 1) words) ends)

pub name_from : (options : List OptionForm) (cursor : Cursor) (words : List (List ℕ)) (word : List ℕ)
    → cursor.names_only ≡ true → slice_get words cursor.at ≡ Some word
    → parts_from options cursor words
    ≡ name word ∷ parts_from options (record { at = cursor.at + 1; names_only = cursor.names_only }) words
name_from options cursor words word only is =
    cond_true _ _ _ only ∙ ap (map name) (drop_at words cursor.at word is)
    ∙ ap (λ (rest : List Part). name word ∷ rest) (sym (cond_true _ _ _ only))

pub word_from : (options : List OptionForm) (cursor : Cursor) (words : List (List ℕ)) (word : List ℕ)
    → cursor.names_only ≡ false → slice_get words cursor.at ≡ Some word → ends_options word ≡ false
    → (takes_next options word ≡ false) ⊎ (length words ≤ cursor.at + 1)
    → parts_from options cursor words
    ≡ word_part options word ∷ parts_from options
    (record { at = cursor.at + 1; names_only = cursor.names_only }) words
word_from options cursor words word more is ends alone =
    cond_false _ _ _ more ∙ ap (parts_of options) (drop_at words cursor.at word is)
    ∙ parts_word options word (drop (cursor.at + 1) words) ends (last alone)
    ∙ ap (λ (rest : List Part). word_part options word ∷ rest) (sym (cond_false _ _ _ more))
  where
    last : (takes_next options word ≡ false) ⊎ (length words ≤ cursor.at + 1)
        → (takes_next options word ≡ false) ⊎ (drop (cursor.at + 1) words ≡ [])
    last (inl ends_here) = inl ends_here
    last (inr past) = inr (drop_all words (cursor.at + 1) past)

pub pair_from : (options : List OptionForm) (cursor : Cursor) (words : List (List ℕ)) (word next : List ℕ)
    → cursor.names_only ≡ false → slice_get words cursor.at ≡ Some word → slice_get words (cursor.at + 1) ≡ Some next
    → ends_options word ≡ false → takes_next options word ≡ true
    → parts_from options cursor words ≡ option_part options word (Some next)
    ∷ parts_from options (record { at = cursor.at + 1 + 1; names_only = cursor.names_only }) words
pair_from options cursor words word next more is after ends takes =
    cond_false _ _ _ more ∙ ap (parts_of options) (drop_at words cursor.at word is)
    ∙ ap (λ (rest : List (List ℕ)). parts_of options (word ∷ rest)) (drop_at words (cursor.at + 1) next after)
    ∙ parts_pair options word next (drop (cursor.at + 1 + 1) words) ends takes
    ∙ ap (λ (rest : List Part). option_part options word (Some next) ∷ rest) (sym (cond_false _ _ _ more))
