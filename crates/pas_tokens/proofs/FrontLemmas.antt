-- What stands at the front of a text takes a byte or more of it.
use Rattle.std.proofs.Common.{◌≡◌, ◌∙◌, ℕ, suc, ◌+◌, ◌≤◌, ◌&&◌, ◌==◌, Bool, true, false, cond, List, [], ◌∷◌, length}
use Rattle.std.proofs.Common.{take, drop, map, Option, Some, None, Result, Ok, Err, refl, sym, ap, subst, arith}
use Rattle.std.specs.List.{take_while}
use Rattle.std.specs.Option.{option_map_or}
use Rattle.std.specs.Prelude.{codes, nat_lt}
use Rattle.std.specs.Str.{bytes_eq}
use Rattle.std.specs.Char.{is_ascii_alphabetic, is_ascii_digit, to_ascii_lowercase}
use Rattle.std.proofs.lemmas.List.{length-drop}
use Rattle.std.proofs.lemmas.List.Sums.{take_while-cons}
use Rattle.pas_tokens.specs.declared.kinds.Kind.{Kind}
use Rattle.pas_tokens.specs.declared.kinds.Kind.TheVariants.{Name, Number}
use Rattle.pas_tokens.specs.declared.limits.TheConstants.{GREATEST_NUMBER}
use Rattle.wb_base.specs.declared.faults.TheConstants.{BAD_PASCAL_TOKEN, PASCAL_LEFT_OUT, REAL_NUMBERS}
use Rattle.pas_tokens.specs.Spellings.{kind_in, signs_of_one, signs_of_two, reserved_words}
use Rattle.pas_tokens.specs.Cutting.{Cut, Wrong, wrong, nothing, value, spelling, value_of, is_real_behind, named}
use Rattle.pas_tokens.specs.Cutting.{name_cut, number_cut, is_name_byte, string_by, string_size}
use Rattle.pas_tokens.specs.Cutting.{sign_cut, token_cut, is_pascal_blank, behind_comment}
use Rattle.pas_tokens.specs.Tokens.{Front, passes, holds, shows, comment_front, token_front, front_of, begins_comment}
use Rattle.pas_tokens.specs.Tokens.{within_comment}

-- what is behind the front has at most so many bytes
pub data IsShorter (n : ℕ) : Front → Type 0 where
  passed : (rest : List ℕ) → length rest ≤ n → IsShorter n (passes rest)
  held : (cut : Cut) → length cut.rest ≤ n → IsShorter n (holds cut)
  shown : (refusal : Wrong) → IsShorter n (shows refusal)

pub data IsCutShorter (n : ℕ) : Result Cut Wrong → Type 0 where
  cut_off : (cut : Cut) → length cut.rest ≤ n → IsCutShorter n (Ok cut)
  refused : (refusal : Wrong) → IsCutShorter n (Err refusal)

by_cond : {A : Type 0} (P : A → Type 0) (b : Bool) (x y : A) → (b ≡ true → P x) → (b ≡ false → P y) → P (cond b x y)
by_cond P true x y first second = first refl
by_cond P false x y first second = second refl

by_option : {A B : Type 0} (P : B → Type 0) (o : Option A) (f : A → B) (y : B) → ((a : A) → P (f a)) → P y
    → P (option_map_or f o y)
by_option P (Some a) f y some none = some a
by_option P None f y some none = none

drop-shorter : (n : ℕ) (byte : ℕ) (bytes : List ℕ) → 1 ≤ n → length (drop n (byte ∷ bytes)) ≤ length bytes
drop-shorter n byte bytes some = omega (arith, length-drop n (byte ∷ bytes))

drop-no-longer : (n : ℕ) (bytes : List ℕ) → length (drop n bytes) ≤ length bytes
drop-no-longer n bytes = omega (arith, length-drop n bytes)

-- a run that the first byte belongs to has a byte
run-some : (test : ℕ → Bool) (byte : ℕ) (bytes : List ℕ) → test byte ≡ true
    → 1 ≤ length (take_while test (byte ∷ bytes))
run-some test byte bytes is =
    let one : take_while test (byte ∷ bytes) ≡ byte ∷ take_while test bytes =
    take_while-cons test byte bytes ∙ ap (λ b. cond b (byte ∷ take_while test bytes) []) is in
    omega (arith, ap length one)

named-rest : (word rest : List ℕ) → (named word rest).rest ≡ rest
named-rest word rest = by_kind (kind_in reserved_words word)
  where
    by_kind : (o : Option Kind)
        → (option_map_or {U = Cut} (λ kind. record { kind = kind; payload = nothing; rest = rest }) o
        (record { kind = Name; payload = spelling word; rest = rest })).rest ≡ rest
    by_kind (Some kind) = refl
    by_kind None = refl

name_shorter : (byte : ℕ) (bytes : List ℕ) → is_name_byte byte ≡ true
    → IsCutShorter (length bytes) (name_cut (byte ∷ bytes))
name_shorter byte bytes is =
    let word = take_while is_name_byte (byte ∷ bytes) in
    let rest = drop (length word) (byte ∷ bytes) in
    by_cond (IsCutShorter (length bytes)) _ _ _ (λ _. refused _)
    (λ _. cut_off _ (subst (λ r. length r ≤ length bytes) (sym (named-rest (map to_ascii_lowercase word) rest))
    (drop-shorter (length word) byte bytes (run-some is_name_byte byte bytes is))))

number_shorter : (byte : ℕ) (bytes : List ℕ) → is_ascii_digit byte ≡ true
    → IsCutShorter (length bytes) (number_cut (byte ∷ bytes))
number_shorter byte bytes is =
    let digits = take_while is_ascii_digit (byte ∷ bytes) in
    let rest = drop (length digits) (byte ∷ bytes) in
    let found : Cut = record { kind = Number; payload = value (value_of digits); rest = rest } in
    let real : Result Cut Wrong = Err (record { code = PASCAL_LEFT_OUT; which = REAL_NUMBERS }) in
    by_cond (IsCutShorter (length bytes)) (nat_lt GREATEST_NUMBER (value_of digits)) (Err (wrong BAD_PASCAL_TOKEN))
    (cond (is_real_behind rest) real (Ok found)) (λ _. refused _)
    (λ _. by_cond (IsCutShorter (length bytes)) (is_real_behind rest) real (Ok found) (λ _. refused _)
    (λ _. cut_off found (drop-shorter (length digits) byte bytes (run-some is_ascii_digit byte bytes is))))

string_shorter : (bytes : List ℕ) (size : Option ℕ) → IsCutShorter (length bytes) (string_by bytes size)
string_shorter bytes None = refused _
string_shorter bytes (Some size) =
    by_cond (IsCutShorter (length bytes)) _ _ _ (λ _. refused _) (λ _. cut_off _ (drop-no-longer (size + 1) bytes))

sign_shorter : (byte : ℕ) (bytes : List ℕ) → IsCutShorter (length bytes) (sign_cut (byte ∷ bytes))
sign_shorter byte bytes =
    by_option (IsCutShorter (length bytes)) (kind_in signs_of_two (take 2 (byte ∷ bytes))) _ _
    (λ kind. cut_off _ (drop-shorter 2 byte bytes (omega arith)))
    (by_option (IsCutShorter (length bytes)) (kind_in signs_of_one (take 1 (byte ∷ bytes))) _ _
    (λ kind. cut_off _ (drop-shorter 1 byte bytes (omega arith))) (refused _))

-- a letter is a byte of a name
letter_in_name : (byte : ℕ) → is_ascii_alphabetic byte ≡ true → is_name_byte byte ≡ true
letter_in_name byte is = grind arith

cut_shorter : (byte : ℕ) (bytes : List ℕ) → IsCutShorter (length bytes) (token_cut byte bytes)
cut_shorter byte bytes =
    by_cond (IsCutShorter (length bytes)) _ _ _ (λ letter. name_shorter byte bytes (letter_in_name byte letter))
    (λ _. by_cond (IsCutShorter (length bytes)) _ _ _ (λ digit. number_shorter byte bytes digit)
    (λ _. by_cond (IsCutShorter (length bytes)) _ _ _ (λ _. string_shorter bytes (string_size bytes))
    (λ _. sign_shorter byte bytes)))

token_shorter : (n : ℕ) (cut : Result Cut Wrong) → IsCutShorter n cut → IsShorter n (token_front cut)
token_shorter n (Ok cut) (cut_off _ shorter) = held cut shorter
token_shorter n (Err refusal) shorter = shown refusal

-- what is behind a comment
data IsRestShorter (n : ℕ) : Option (List ℕ) → Type 0 where
  no_rest : IsRestShorter n None
  some_rest : (rest : List ℕ) → length rest ≤ n → IsRestShorter n (Some rest)

grown : (n : ℕ) (rest : Option (List ℕ)) → IsRestShorter n rest → IsRestShorter (suc n) rest
grown n None shorter = no_rest
grown n (Some rest) (some_rest _ shorter) = some_rest rest (omega arith)

behind_shorter : (inside : List ℕ) → IsRestShorter (length inside) (behind_comment inside)
behind_shorter [] = no_rest
behind_shorter (byte ∷ []) = by_cond (IsRestShorter 1) _ _ _ (λ _. some_rest [] (omega arith)) (λ _. no_rest)
behind_shorter (byte ∷ (next ∷ rest)) =
    let whole = length (byte ∷ (next ∷ rest)) in
    let further = behind_comment (next ∷ rest) in
    by_cond (IsRestShorter whole) (byte == 125) (Some (next ∷ rest))
    (cond (byte == 42 && next == 41) (Some rest) further)
    (λ _. some_rest (next ∷ rest) (omega arith))
    (λ _. by_cond (IsRestShorter whole) (byte == 42 && next == 41) (Some rest) further
    (λ _. some_rest rest (omega arith)) (λ _. grown _ _ (behind_shorter (next ∷ rest))))

within_shorter : (byte : ℕ) (bytes : List ℕ) → length (within_comment (byte ∷ bytes)) ≤ length bytes
within_shorter byte bytes =
    by_cond (λ (r : List ℕ). length r ≤ length bytes) (bytes_eq (take 1 (byte ∷ bytes)) (codes "{"))
    (drop 1 (byte ∷ bytes)) (drop 2 (byte ∷ bytes)) (λ _. drop-shorter 1 byte bytes (omega arith))
    (λ _. drop-shorter 2 byte bytes (omega arith))

comment_shorter : (n : ℕ) (inside : List ℕ) (rest : Option (List ℕ)) → length inside ≤ n
    → IsRestShorter (length inside) rest → IsShorter n (comment_front rest)
comment_shorter n inside None within shorter = shown _
comment_shorter n inside (Some rest) within (some_rest _ shorter) = passed rest (omega arith)

-- what is behind the front of a text is shorter than the text
pub front_shorter : (byte : ℕ) (bytes : List ℕ) → IsShorter (length bytes) (front_of byte bytes)
front_shorter byte bytes =
    let whole = byte ∷ bytes in
    let a_comment = comment_front (behind_comment (within_comment whole)) in
    let a_token = token_front (token_cut byte bytes) in
    by_cond (IsShorter (length bytes)) (is_pascal_blank byte) (passes bytes)
    (cond (begins_comment whole) a_comment a_token) (λ _. passed bytes (omega arith))
    (λ _. by_cond (IsShorter (length bytes)) (begins_comment whole) a_comment a_token
    (λ _. comment_shorter (length bytes) (within_comment whole) _ (within_shorter byte bytes)
    (behind_shorter (within_comment whole)))
    (λ _. token_shorter (length bytes) (token_cut byte bytes) (cut_shorter byte bytes)))
