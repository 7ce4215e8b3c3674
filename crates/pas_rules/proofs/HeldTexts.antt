-- The words of a program that a text means are those of tokens.
use Rattle.std.proofs.Common.{◌≡◌, refl, sym, subst, ℕ, zero, suc, ◌+◌, ◌≤◌, ◌==◌, arith, Bool}
use Rattle.std.proofs.Common.{true}
use Rattle.std.proofs.Common.{false, List, [], ◌∷◌, length, map, take, drop, Option, Some, None, Result, Ok, Err}
use Rattle.std.proofs.Common.{IfOk, eqb-true}
use Rattle.std.specs.Prelude.{⊤, nat_lt, if◌then◌else◌}
use Rattle.std.specs.List.{take_while}
use Rattle.std.specs.Option.{option_map_or}
use Rattle.std.specs.Char.{is_ascii_alphabetic, is_ascii_digit, to_ascii_lowercase}
use Rattle.std.proofs.lemmas.Option.{none-some, same_Some}
use Rattle.std.proofs.lemmas.List.{length-map}
use Rattle.std.proofs.lemmas.List.Elements.{recursion_from_All}
use Rattle.std.proofs.lemmas.Bool.Decides.{nat_tests}
use Rattle.wb_base.specs.declared.faults.Fault.{Fault}
use Rattle.wb_base.specs.declared.faults.TheConstants.{FILE_LIMIT, BAD_PASCAL_TOKEN}
use Rattle.wb_base.specs.declared.faults.TheConstants.{PASCAL_LEFT_OUT, REAL_NUMBERS}
use Rattle.wb_base.specs.Steps.{followed_by}
use Rattle.pas_tokens.specs.declared.kinds.Kind.TheVariants as k
use Rattle.pas_tokens.specs.declared.limits.TheConstants.{NAME_LIMIT, GREATEST_NUMBER}
use Rattle.pas_tokens.specs.Spellings.{kind_in, reserved_words, signs_of_one, signs_of_two}
use Rattle.pas_tokens.specs.Cutting as cutting
use Rattle.pas_tokens.specs.Cutting.{Cut, Wrong, wrong, nothing, value, spelling, string_size, longer, is_string_byte}
use Rattle.pas_tokens.specs.Tokens.{Token, Front, passes, holds, shows, tokens_of, tokens_from, tokens_by, front_of}
use Rattle.pas_tokens.specs.Tokens.{comment_front, token_front, begins_comment, within_comment, line_of}
use Rattle.pas_syntax.specs.Tree.{Program}
use Rattle.pas_syntax.specs.Words.{Word, program_words}
use Rattle.pas_syntax.specs.Parse as parse
use Rattle.pas_syntax.specs.Parse.{IsSound, fault_by, left_out, tokens_in}
use Rattle.pas_typed.specs.Typed.{TypedProgram}
use Rattle.pas_typed.specs.Lawful.{IsLawful}
use Rattle.pas_rules.specs.FileNames.{HasShortNames}
use Rattle.pas_rules.specs.Check.{Means}
use Rattle.pas_rules.proofs.CleanLemmas.{Each}
use Rattle.pas_rules.proofs.HeldWords.{AreBytes, IsHeldBy, IsHeld, AreHeld}
use Rattle.pas_rules.proofs.LawfulPrograms.{means_lawful, means_short}

either : {A : Type 0} (P : A → Type 0) (b : Bool) (one other : A) → (b ≡ true → P one) → (b ≡ false → P other)
    → P (if b then one else other)
either P true one other h k = h refl
either P false one other h k = k refl

by_option : {A B : Type 0} (P : B → Type 0) (found : Option A) (f : A → B) (other : B) → ((a : A) → P (f a)) → P other
    → P (option_map_or f found other)
by_option P (Some a) f other h k = h a
by_option P None f other h k = k

abbrev IsHeldCut : Cut → Type 0
IsHeldCut cut = IsHeldBy cut.kind cut.payload

abbrev Holds : Result Cut Wrong → Type 0
Holds result = IfOk result IsHeldCut

-- names, numbers and signs
name_held : (text : List ℕ) → Holds (cutting.name_cut text)
name_held text =
    let word : List ℕ = take_while cutting.is_name_byte text in
    either Holds (nat_lt NAME_LIMIT (length word)) (Err (wrong BAD_PASCAL_TOKEN)) _ (λ long. tt)
    (λ short. by_option IsHeldCut (kind_in reserved_words (map to_ascii_lowercase word))
    (λ kind. record { kind = kind; payload = nothing; rest = drop (length word) text })
    (record { kind = k.Name; payload = spelling (map to_ascii_lowercase word); rest = drop (length word) text })
    (λ kind. tt) (not_longer word short))
  where
    not_longer : (word : List ℕ) → nat_lt NAME_LIMIT (length word) ≡ false
        → length (map to_ascii_lowercase word) ≤ NAME_LIMIT
    not_longer word is =
        let same = length-map word to_ascii_lowercase in
        let within : length word ≤ NAME_LIMIT = grind (arith, nat_tests) in
        omega (arith, same, within)

number_held : (text : List ℕ) → Holds (cutting.number_cut text)
number_held text =
    let digits : List ℕ = take_while is_ascii_digit text in
    let rest : List ℕ = drop (length digits) text in
    either Holds (nat_lt GREATEST_NUMBER (cutting.value_of digits)) (Err (wrong BAD_PASCAL_TOKEN)) _ (λ great. tt)
    (λ small. either Holds (cutting.is_real_behind rest)
    (Err (record { code = PASCAL_LEFT_OUT; which = REAL_NUMBERS }))
    (Ok (record { kind = k.Number; payload = value (cutting.value_of digits); rest = rest })) (λ real. tt)
    (λ whole. not_greater (cutting.value_of digits) small))
  where
    not_greater : (number : ℕ) → nat_lt GREATEST_NUMBER number ≡ false → number ≤ GREATEST_NUMBER
    not_greater number is = grind (arith, nat_tests)

sign_held : (text : List ℕ) → Holds (cutting.sign_cut text)
sign_held text =
    by_option Holds (kind_in signs_of_two (take 2 text)) _ _ (λ kind. tt)
    (by_option Holds (kind_in signs_of_one (take 1 text)) _ _ (λ kind. tt) tt)

-- strings
pub graphic_byte : (byte : ℕ) → is_string_byte byte ≡ true → byte ≤ 255
graphic_byte byte is = grind (arith, nat_tests)

longer_size : (more : ℕ) (size : Option ℕ) (all : ℕ) → longer more size ≡ Some all
    → (found : ℕ) × (size ≡ Some found) × (more + found ≡ all)
longer_size more None all is = absurd (none-some all is)
longer_size more (Some found) all is = (found, refl, same_Some (more + found) all is)

abbrev Sized : List ℕ → Type 0
Sized inside = (size : ℕ) → string_size inside ≡ Some size → AreBytes (take size inside)

by_one : (byte : ℕ) (size : ℕ) (test : Bool) → (byte == 39) ≡ test → (if test then Some 0 else None) ≡ Some size
    → AreBytes (take size (byte ∷ []))
by_one byte size true is same = subst (λ n. AreBytes (take n (byte ∷ []))) (same_Some 0 size same) tt
by_one byte size false is same = absurd (none-some size same)

quote_byte : (byte : ℕ) → (byte == 39) ≡ true → byte ≤ 255
quote_byte byte is = omega (arith, eqb-true byte 39 is)

by_quote : (byte next : ℕ) (rest : List ℕ) (size : ℕ) → Sized rest → (test : Bool) → (next == 39) ≡ test
    → (byte == 39) ≡ true → (if test then longer 2 (string_size rest) else Some 0) ≡ Some size
    → AreBytes (take size (byte ∷ (next ∷ rest)))
by_quote byte next rest size further false is quote same =
    subst (λ n. AreBytes (take n (byte ∷ (next ∷ rest)))) (same_Some 0 size same) tt
by_quote byte next rest size further true is quote same =
    let found = longer_size 2 (string_size rest) size same in
    subst (λ n. AreBytes (take n (byte ∷ (next ∷ rest)))) (two found.0 size found.2)
    (quote_byte byte quote, (quote_byte next is, further found.0 found.1))
  where
    two : (n all : ℕ) → 2 + n ≡ all → suc (suc n) ≡ all
    two n all is = omega (arith, is)

by_other : (byte next : ℕ) (rest : List ℕ) (size : ℕ) → Sized (next ∷ rest) → (test : Bool)
    → is_string_byte byte ≡ test → (if test then longer 1 (string_size (next ∷ rest)) else None) ≡ Some size
    → AreBytes (take size (byte ∷ (next ∷ rest)))
by_other byte next rest size further false is same = absurd (none-some size same)
by_other byte next rest size further true is same =
    let found = longer_size 1 (string_size (next ∷ rest)) size same in
    subst (λ n. AreBytes (take n (byte ∷ (next ∷ rest)))) (one found.0 size found.2)
    (graphic_byte byte is, further found.0 found.1)
  where
    one : (n all : ℕ) → 1 + n ≡ all → suc n ≡ all
    one n all is = omega (arith, is)

by_two : (byte next : ℕ) (rest : List ℕ) (size : ℕ) → Sized rest → Sized (next ∷ rest) → (test : Bool)
    → (byte == 39) ≡ test
    → (if test then (if next == 39 then longer 2 (string_size rest) else Some 0)
    else (if is_string_byte byte then longer 1 (string_size (next ∷ rest)) else None)) ≡ Some size
    → AreBytes (take size (byte ∷ (next ∷ rest)))
by_two byte next rest size further on true is same = by_quote byte next rest size further (next == 39) refl is same
by_two byte next rest size further on false is same =
    by_other byte next rest size on (is_string_byte byte) refl same

string_bytes : (inside : List ℕ) → Sized inside
string_bytes [] size is = absurd (none-some size is)
string_bytes (byte ∷ []) size is = by_one byte size (byte == 39) refl is
string_bytes (byte ∷ (next ∷ rest)) size is =
    by_two byte next rest size (λ n same. string_bytes rest n same) (λ n same. string_bytes (next ∷ rest) n same)
    (byte == 39) refl is

string_held : (inside : List ℕ) (size : Option ℕ) → string_size inside ≡ size → Holds (cutting.string_by inside size)
string_held inside None is = tt
string_held inside (Some size) is =
    either Holds (size == 0) (Err (wrong BAD_PASCAL_TOKEN)) _ (λ none. tt) (λ some. string_bytes inside size is)

pub token_held : (byte : ℕ) (bytes : List ℕ) → Holds (cutting.token_cut byte bytes)
token_held byte bytes =
    either Holds (is_ascii_alphabetic byte) (cutting.name_cut (byte ∷ bytes)) _ (λ letter. name_held (byte ∷ bytes))
    (λ other. either Holds (is_ascii_digit byte) (cutting.number_cut (byte ∷ bytes)) _
    (λ digit. number_held (byte ∷ bytes))
    (λ none. either Holds (byte == 39) (cutting.string_by bytes (string_size bytes)) (cutting.sign_cut (byte ∷ bytes))
    (λ quote. string_held bytes (string_size bytes) refl) (λ sign. sign_held (byte ∷ bytes))))

-- the tokens of a text
abbrev AreTokens : Result (List Token) Fault → Type 0
AreTokens result = IfOk result (Each IsHeld)

abbrev IsFront : Front → Type 0
IsFront (passes rest) = ⊤
IsFront (holds cut) = IsHeldCut cut
IsFront (shows refusal) = ⊤

comment_held : (rest : Option (List ℕ)) → IsFront (comment_front rest)
comment_held None = tt
comment_held (Some rest) = tt

cut_held : (cut : Result Cut Wrong) → Holds cut → IsFront (token_front cut)
cut_held (Ok cut) h = h
cut_held (Err refusal) h = tt

front_held : (byte : ℕ) (bytes : List ℕ) → IsFront (front_of byte bytes)
front_held byte bytes =
    either IsFront (cutting.is_pascal_blank byte) (passes bytes) _ (λ blank. tt)
    (λ none. either IsFront (begins_comment (byte ∷ bytes)) _ _
    (λ comment. comment_held (cutting.behind_comment (within_comment (byte ∷ bytes))))
    (λ token. cut_held (cutting.token_cut byte bytes) (token_held byte bytes)))

followed_held : (token : Token) (rest : Result (List Token) Fault) → IsHeld token → AreTokens rest
    → AreTokens (followed_by (token ∷ []) rest)
followed_held token (Ok tokens) h k = (h, k)
followed_held token (Err fault) h k = tt

by_front : (line : ℕ) (front : Front) (further : List ℕ → Result (List Token) Fault) → IsFront front
    → ((rest : List ℕ) → AreTokens (further rest)) → AreTokens (tokens_by line front further)
by_front line (passes rest) further h k = k rest
by_front line (holds cut) further h k =
    followed_held (record { kind = cut.kind; payload = cut.payload; line = line }) (further cut.rest) h (k cut.rest)
by_front line (shows refusal) further h k = tt

from_held : (most : ℕ) (text rest : List ℕ) → AreTokens (tokens_from most text rest)
unfolding tokens_from
from_held most text [] = (tt, tt)
from_held zero text (byte ∷ bytes) = (tt, tt)
from_held (suc most) text (byte ∷ bytes) =
    by_front (line_of text (byte ∷ bytes)) (front_of byte bytes) (tokens_from most text) (front_held byte bytes)
    (λ rest. from_held most text rest)

pub tokens_held : (text : List ℕ) → AreTokens (tokens_of text)
unfolding tokens_of
tokens_held text =
    either AreTokens (nat_lt FILE_LIMIT (length text)) _ (tokens_from (length text) text text) (λ long. tt)
    (λ short. from_held (length text) text text)

-- the words of a tree that spells them
sound_part : (part : Option ℕ) (word : Word) → fault_by part word ≡ None → part ≡ None
sound_part None word is = refl
sound_part (Some part) word is = absurd (none-some (left_out part) (sym is))

all_held : (words : List Word) → Each IsHeld (tokens_in words) → Each IsSound words → AreHeld words
all_held [] h sound = tt
all_held (word ∷ words) h sound =
    ((h.0, sound_part word.left_out word sound.0), all_held words h.1 sound.1)

pub text_held : (text : List ℕ) (program : Program) → parse.Means text program → AreHeld (program_words program)
text_held text program means =
    all_held (program_words program)
    (subst (Each IsHeld) (sym means.2.words)
    (subst AreTokens means.1 (tokens_held text)))
    (recursion_from_All IsSound (program_words program) means.2.sound)

-- the typed program of a program that some text means
pub text_lawful : (program : Program) (meaning : TypedProgram) → parse.IsOfText program → Means program meaning
    → IsLawful meaning
text_lawful program meaning text means =
    means_lawful program (text_held text.0 program text.1) meaning means

-- and its files have short names
pub text_short : (program : Program) (meaning : TypedProgram) → parse.IsOfText program → Means program meaning
    → HasShortNames meaning
text_short program meaning text means =
    means_short program (text_held text.0 program text.1) meaning means
