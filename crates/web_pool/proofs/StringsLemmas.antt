-- The strings of a pool, and the numbers of strings.
use Rattle.std.proofs.Common.{◌≡◌, ◌≢◌, ℕ, suc, ◌+◌, ◌<◌, ◌≤◌, ◌==◌, ◌||◌, Bool, true, false, not, cond, nat_lt, List}
use Rattle.std.proofs.Common.{[], ◌∷◌, ◌++◌, length, get_or, map, filter, position, Vec, Some, None, Result}
use Rattle.std.proofs.Common.{Ok, Err, IfOk, OnOk, refl, sym, ap, ◌∙◌, subst, arith, append-nil}
use Rattle.std.specs.List.{list_any, position_or_len}
use Rattle.std.specs.Str.{bytes_eq}
use Rattle.std.specs.declared.alloc.Global.{Global}
use Rattle.std.proofs.lemmas.Bool.{false_from_ne_true}
use Rattle.std.proofs.lemmas.Bool.Decides.{nat_tests}
use Rattle.std.proofs.lemmas.List.{length-map, map-append}
use Rattle.std.proofs.lemmas.List.Elements.{filter-append}
use Rattle.std.proofs.lemmas.Slice.Eq.{bytes_eq-Decides}
use Rattle.web_pool.specs.Strings.{IfRefused, strings_of, numbered, numbered_at, numbered_last}
use Rattle.web_pool.specs.inner.PoolParts.{strings_in, with_string}
use Rattle.web_pool.specs.declared.pool.TheConstants.{LONGEST_STRING, FIRST_NUMBER, LAST_NUMBER}
use Rattle.web_pool.specs.declared.refusals.PoolErr.{PoolErr}
use Rattle.web_pool.specs.declared.refusals.PoolErr.TheVariants.{TooLong, Full, OutOfMemory}

module _ {X Y : Type 0} (test : Y → Bool) (f : X → Y) where
  position_or_len-map : (xs : List X) → position_or_len test (map f xs) ≡ position_or_len (λ x. test (f x)) xs
  position_or_len-map [] = refl
  position_or_len-map (x ∷ xs) = ap (λ n. cond (not (test (f x))) (1 + n) 0) (position_or_len-map xs)

  -- the place among the values of a function
  pub position-map : (xs : List X) → position test (map f xs) ≡ position (λ x. test (f x)) xs
  position-map xs = λ i.
      cond (nat_lt (position_or_len-map xs i) (length-map xs f i)) (Some (position_or_len-map xs i)) None

  -- whether one of the values of a function passes
  pub list_any-map : (xs : List X) → list_any test (map f xs) ≡ list_any (λ x. test (f x)) xs
  list_any-map [] = refl
  list_any-map (x ∷ xs) = ap (λ b. test (f x) || b) (list_any-map xs)

module _ {X : Type 0} (test : X → Bool) where
  any_step : (b rest : Bool) (m n : ℕ) → rest ≡ nat_lt m n → (b || rest) ≡ nat_lt (cond (not b) (1 + m) 0) (suc n)
  any_step true rest m n is = grind (arith, nat_tests)
  any_step false rest m n is = grind (arith, nat_tests)

  -- an element passes exactly where the first that does stands before the end
  any_is : (xs : List X) → list_any test xs ≡ nat_lt (position_or_len test xs) (length xs)
  any_is [] = refl
  any_is (x ∷ xs) = any_step (test x) (list_any test xs) (position_or_len test xs) (length xs) (any_is xs)

  found_is : (b : Bool) (place found : ℕ) → cond b (Some found) None ≡ Some place → b ≡ true
  found_is true place found is = refl
  found_is false place found is = cc

  missing_is : (b : Bool) (found : ℕ) → cond b (Some found) None ≡ None → b ≡ false
  missing_is true found is = cc
  missing_is false found is = refl

  -- whether an element passes, by the place of the first that does
  pub list_any-Some : (xs : List X) (place : ℕ) → position test xs ≡ Some place → list_any test xs ≡ true
  list_any-Some xs place some = any_is xs ∙ found_is _ place _ some

  pub list_any-None : (xs : List X) → position test xs ≡ None → list_any test xs ≡ false
  list_any-None xs none = any_is xs ∙ missing_is _ _ none

-- two equal texts, and two that are not
text_is : (text other : List ℕ) → bytes_eq text other ≡ true → text ≡ other
text_is text other same = (bytes_eq-Decides text other).0 same

bytes_eq-same : (text : List ℕ) → bytes_eq text text ≡ true
bytes_eq-same text = (bytes_eq-Decides text text).1 refl

bytes_eq-swap : (text other : List ℕ) (b : Bool) → bytes_eq text other ≡ b → bytes_eq other text ≡ b
bytes_eq-swap text other true same =
    subst (λ (t : List ℕ). bytes_eq t text ≡ true) (text_is text other same) (bytes_eq-same text)
bytes_eq-swap text other false differs = false_from_ne_true (bytes_eq other text) (λ same.
    let both : bytes_eq text other ≡ true =
    subst (λ (t : List ℕ). bytes_eq t other ≡ true) (text_is other text same) (bytes_eq-same other) in
    cc)

-- the strings but those equal to this one
abbrev others : List ℕ → List (List ℕ) → List (List ℕ)
others text strings = filter (λ other. not (bytes_eq text other)) strings

-- without a string all others are still there
any_other : (text gone : List ℕ) (strings : List (List ℕ)) → bytes_eq text gone ≡ false
    → list_any (bytes_eq text) (others gone strings) ≡ list_any (bytes_eq text) strings
any_other text gone [] apart = refl
any_other text gone (string ∷ strings) apart =
    other_step text gone string strings (bytes_eq gone string) refl apart (any_other text gone strings apart)
  where
    other_step : (text gone string : List ℕ) (strings : List (List ℕ)) (b : Bool) → bytes_eq gone string ≡ b
        → bytes_eq text gone ≡ false
        → list_any (bytes_eq text) (others gone strings) ≡ list_any (bytes_eq text) strings
        → list_any (bytes_eq text) (cond (not b) (string ∷ others gone strings) (others gone strings))
        ≡ (bytes_eq text string || list_any (bytes_eq text) strings)
    other_step text gone string strings true same apart rest =
        let differs : bytes_eq text string ≡ false =
        subst (λ (t : List ℕ). bytes_eq text t ≡ false) (text_is gone string same) apart in
        rest ∙ ap (λ b. b || list_any (bytes_eq text) strings) (sym differs)
    other_step text gone string strings false differs apart rest = ap (λ b. bytes_eq text string || b) rest

-- whether a string has one byte, is among the others, equals the first, and is among the others but those like the
-- first
add_step : (one among same left : Bool) (first text : List ℕ) (strings : List (List ℕ)) → bytes_eq first text ≡ same
    → (same ≡ false → left ≡ among)
    → first ∷ others first (cond one strings (cond among strings (strings ++ text ∷ [])))
    ≡ cond one (first ∷ others first strings)
    (cond (same || left) (first ∷ others first strings) (first ∷ (others first strings ++ text ∷ [])))
add_step true among same left first text strings is alike = refl
add_step false true true left first text strings is alike = refl
add_step false true false left first text strings is alike =
    ap (λ b. cond b (first ∷ others first strings) (first ∷ (others first strings ++ text ∷ []))) (sym (alike refl))
add_step false false true left first text strings is alike =
    ap (λ l. first ∷ l) (filter-append (λ other. not (bytes_eq first other)) strings (text ∷ [])
    ∙ ap (λ b. others first strings ++ cond (not b) (text ∷ []) []) is ∙ append-nil (others first strings))
add_step false false false left first text strings is alike =
    ap (λ l. first ∷ l) (filter-append (λ other. not (bytes_eq first other)) strings (text ∷ [])
    ∙ ap (λ b. others first strings ++ cond (not b) (text ∷ []) []) is)
    ∙ ap (λ b. cond b (first ∷ others first strings) (first ∷ (others first strings ++ text ∷ []))) (sym (alike refl))

-- a string that is added after the first
add_after : (first text : List ℕ) (strings : List (List ℕ))
    → first ∷ others first (with_string text strings) ≡ with_string text (first ∷ others first strings)
add_after first text strings =
    add_step (length text == 1) (list_any (bytes_eq text) strings) (bytes_eq text first)
    (list_any (bytes_eq text) (others first strings)) first text strings
    (bytes_eq-swap text first (bytes_eq text first) refl) (any_other text first strings)

-- one string more after a first that has one byte, or another length
snoc_step : (one : Bool) (first text : List ℕ) (rest rest' : List (List ℕ)) → rest' ≡ with_string text rest
    → cond one rest' (first ∷ others first rest') ≡ with_string text (cond one rest (first ∷ others first rest))
snoc_step true first text rest rest' is = is
snoc_step false first text rest rest' is = ap (λ l. first ∷ others first l) is ∙ add_after first text rest

-- the strings of a list that goes on with one more
pub strings_of-snoc : (seen : List (List ℕ)) (text : List ℕ)
    → strings_of (seen ++ text ∷ []) ≡ with_string text (strings_of seen)
unfolding strings_of
strings_of-snoc [] text = refl
strings_of-snoc (first ∷ seen) text =
    snoc_step (length first == 1) first text (strings_of seen) (strings_of (seen ++ text ∷ []))
    (strings_of-snoc seen text)

-- the number of a string of one byte
pub numbered-one : (text : List ℕ) (strings : List (List ℕ)) → length text ≡ 1
    → numbered text strings ≡ Ok (get_or text 0 0, strings)
unfolding numbered
numbered-one [] strings one = absurd (omega arith)
numbered-one (byte ∷ []) strings one = refl
numbered-one (byte ∷ (next ∷ rest)) strings one = absurd (omega arith)

-- the refusal of one that is too long
pub numbered-long : (text : List ℕ) (strings : List (List ℕ)) → LONGEST_STRING < length text
    → numbered text strings ≡ Err TooLong
unfolding numbered
numbered-long [] strings long = absurd (omega arith)
numbered-long (byte ∷ []) strings long = absurd (omega arith)
numbered-long (byte ∷ (next ∷ rest)) strings long =
    let too_long : nat_lt LONGEST_STRING (length (byte ∷ (next ∷ rest))) ≡ true =
    grind (arith, nat_tests) in rw too_long

-- the number of any other string, by its place
pub numbered-other : (text : List ℕ) (strings : List (List ℕ)) → length text ≢ 1 → length text ≤ LONGEST_STRING
    → numbered text strings ≡ numbered_at (position (bytes_eq text) strings) text strings
unfolding numbered
numbered-other [] strings other short = refl
numbered-other (byte ∷ []) strings other short = absurd (other refl)
numbered-other (byte ∷ (next ∷ rest)) strings other short =
    let fits : nat_lt LONGEST_STRING (length (byte ∷ (next ∷ rest))) ≡ false = grind (arith, nat_tests) in rw fits

-- a string with a number that is past no limit leaves the pool with it
pub with_string-one :
    (text : List ℕ) (strings : List (List ℕ)) → length text
    ≡ 1 → with_string text strings ≡ strings
with_string-one text strings one =
    ap (λ n. cond (n == 1) strings (cond (list_any (bytes_eq text) strings) strings (strings ++ text ∷ []))) one

with_other : (one : Bool) (among : Bool) (text : List ℕ) (strings : List (List ℕ)) → one ≡ false
    → cond one strings (cond among strings (strings ++ text ∷ [])) ≡ cond among strings (strings ++ text ∷ [])
with_other one among text strings other = ap (λ b. cond b strings (cond among strings (strings ++ text ∷ []))) other

pub with_string-found : (text : List ℕ) (strings : List (List ℕ)) (place : ℕ) → length text ≢ 1
    → position (bytes_eq text) strings ≡ Some place → with_string text strings ≡ strings
with_string-found text strings place other some =
    with_other (length text == 1) (list_any (bytes_eq text) strings) text strings (grind (arith, nat_tests))
    ∙ ap (λ b. cond b strings (strings ++ text ∷ [])) (list_any-Some (bytes_eq text) strings place some)

pub with_string-new : (text : List ℕ) (strings : List (List ℕ)) → length text ≢ 1
    → position (bytes_eq text) strings ≡ None → with_string text strings ≡ strings ++ text ∷ []
with_string-new text strings other none =
    with_other (length text == 1) (list_any (bytes_eq text) strings) text strings (grind (arith, nat_tests))
    ∙ ap (λ b. cond b strings (strings ++ text ∷ [])) (list_any-None (bytes_eq text) strings none)

-- so the pool is that of all strings so far with this one
pub seen_too :
    (text : List ℕ) (strings after : List (List ℕ)) → after
    ≡ with_string text strings → (seen : List (List ℕ))
    → strings ≡ strings_of seen → after ≡ strings_of (seen ++ text ∷ [])
seen_too text strings after is seen held = is ∙ ap (with_string text) held ∙ sym (strings_of-snoc seen text)

-- a new string has the next number
pub numbered_last-room : (text : List ℕ) (strings : List (List ℕ)) → FIRST_NUMBER + length strings ≤ LAST_NUMBER
    → numbered_last text strings ≡ Ok (FIRST_NUMBER + length strings, strings ++ text ∷ [])
numbered_last-room text strings fits =
    let room : nat_lt LAST_NUMBER (FIRST_NUMBER + length strings) ≡ false = grind (arith, nat_tests) in rw room

pub numbered-new : (text : List ℕ) (strings : List (List ℕ)) → length text ≢ 1 → length text ≤ LONGEST_STRING
    → position (bytes_eq text) strings ≡ None → numbered text strings ≡ numbered_last text strings
numbered-new text strings other short none =
    numbered-other text strings other short ∙ ap (λ place. numbered_at place text strings) none

-- what is kept of the strings after a new one
pub strings_in-added :
    (keys after : List (Vec ℕ Global)) (text : Vec ℕ Global) (bytes : List ℕ) → text.items
    ≡ bytes
    → position (bytes_eq bytes) (strings_in keys) ≡ None
    → after ≡ cond (list_any (λ key. bytes_eq text.items key.items) keys) keys (keys ++ text ∷ [])
    → strings_in after ≡ strings_in keys ++ bytes ∷ []
strings_in-added keys after text bytes is none inserted =
    let apart : list_any (λ key. bytes_eq text.items key.items) keys ≡ false =
    sym (list_any-map (bytes_eq text.items) (λ (key : Vec ℕ Global). key.items) keys)
    ∙ ap (λ b. list_any (bytes_eq b) (strings_in keys)) is ∙ list_any-None (bytes_eq bytes) (strings_in keys) none in
    ap strings_in (inserted ∙ ap (λ b. cond b keys (keys ++ text ∷ [])) apart)
    ∙ map-append (λ (key : Vec ℕ Global). key.items) keys (text ∷ []) ∙ ap (λ b. strings_in keys ++ b ∷ []) is

-- what is said of the number of a new string, and of its refusal, by how it is numbered
pub ok_new : (result : Result ℕ PoolErr) (text : List ℕ) (strings after : List (List ℕ))
    → numbered text strings ≡ numbered_last text strings
    → IfOk result (λ number. numbered_last text strings ≡ Ok (number, after))
    → IfOk result (λ number. numbered text strings ≡ Ok (number, after))
ok_new (Ok number) text strings after new is = new ∙ is
ok_new (Err refusal) text strings after new is = tt

pub refused_new : (result : Result ℕ PoolErr) (text : List ℕ) (strings : List (List ℕ))
    → numbered text strings ≡ numbered_last text strings
    → IfRefused result (λ refusal. numbered_last text strings ≡ Err refusal)
    → IfRefused result (λ refusal. numbered text strings ≡ Err refusal)
refused_new (Ok number) text strings new is = tt
refused_new (Err TooLong) text strings new is = new ∙ is
refused_new (Err Full) text strings new is = new ∙ is
refused_new (Err OutOfMemory) text strings new is = tt

pub seen_new : (result : Result ℕ PoolErr) (text : List ℕ) (strings after : List (List ℕ))
    → with_string text strings ≡ strings ++ text ∷ [] → OnOk result (after ≡ strings ++ text ∷ [])
    → OnOk result ((seen : List (List ℕ)) → strings ≡ strings_of seen → after ≡ strings_of (seen ++ text ∷ []))
seen_new (Ok number) text strings after new grown = seen_too text strings after (grown ∙ sym new)
seen_new (Err refusal) text strings after new grown = tt
