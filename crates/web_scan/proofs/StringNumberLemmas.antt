-- The numbers of strings are small.
use Rattle.std.proofs.Common.{◌≡◌, ℕ, ◌+◌, ◌≤◌, ◌==◌, ◌&&◌, nat_lt, if◌then◌else◌, List, [], ◌∷◌, ◌++◌, length, All}
use Rattle.std.proofs.Common.{Option, Some, None, Result, Ok, Err, IfOk, position, refl, arith, length-append}
use Rattle.std.specs.Str.{bytes_eq}
use Rattle.std.proofs.lemmas.Bool.Decides.{nat_tests}
use Rattle.std.proofs.lemmas.List.Elements.{All-cons, All-head, All-tail}
use Rattle.std.proofs.lemmas.List.Quantifiers.{position-Some}
use Rattle.web_lex.specs.Codes.{is_one_of}
use Rattle.web_pool.specs.declared.refusals.PoolErr.{PoolErr}
use Rattle.web_pool.specs.declared.refusals.PoolErr.TheVariants.{TooLong, Full}
use Rattle.web_pool.specs.Strings.{numbered, numbered_at}
use Rattle.web_scan.specs.Texts.{undoubled}
use Rattle.web_scan.proofs.AnswerLemmas.{choice}
use Rattle.web_scan.proofs.ReadTokenLemmas.{IsVisible}

-- the most bytes of a string of the pool, its first number, and the last
abbrev longest_string : ℕ
longest_string = 99

abbrev pub first_number : ℕ
first_number = 256

abbrev pub last_number : ℕ
last_number = 32767

-- the numbers of these strings are not past the last
abbrev pub AreFew : List (List ℕ) → Type 0
AreFew strings = first_number + length strings ≤ last_number + 1

-- a number, and the strings after it
abbrev pub IsNumber : ℕ × List (List ℕ) → Type 0
IsNumber answer = (answer.0 ≤ last_number) × AreFew answer.1

abbrev HasNumber : Result (ℕ × List (List ℕ)) PoolErr → Type 0
HasNumber answer = IfOk answer IsNumber

numbered_at-small :
    (held : Option ℕ) (text : List ℕ) (strings : List (List ℕ)) → position (bytes_eq text) strings ≡ held
    → AreFew strings → HasNumber (numbered_at held text strings)
numbered_at-small (Some place) text strings is few =
    let within = (position-Some (bytes_eq text) strings place [] is).0 in
    (omega arith, few)
numbered_at-small None text strings is few =
    let full = nat_lt last_number (first_number + length strings) in
    choice HasNumber full (Err Full) (Ok (first_number + length strings, strings ++ text ∷ [])) (λ past. tt)
    (λ room. let small : first_number + length strings ≤ last_number = grind (arith, nat_tests) in
    (small, omega (arith, length-append strings (text ∷ []))))

unless_long :
    (text : List ℕ) (strings : List (List ℕ)) → AreFew strings
    → HasNumber (if nat_lt longest_string (length text) then Err TooLong
    else numbered_at (position (bytes_eq text) strings) text strings)
unless_long text strings few =
    choice HasNumber (nat_lt longest_string (length text)) (Err TooLong)
    (numbered_at (position (bytes_eq text) strings) text strings) (λ long. tt)
    (λ short. numbered_at-small (position (bytes_eq text) strings) text strings refl few)

pub numbered-small : (text : List ℕ) (strings : List (List ℕ)) → All IsVisible text → AreFew strings
    → HasNumber (numbered text strings)
unfolding numbered
numbered-small [] strings visible few = unless_long [] strings few
numbered-small (byte ∷ []) strings visible few =
    let small : IsVisible byte = All-head IsVisible byte [] visible in (omega arith, few)
numbered-small (byte ∷ (next ∷ text)) strings visible few = unless_long (byte ∷ (next ∷ text)) strings few

-- bytes of a string's value are bytes of the string
pub undoubled-visible : (doubled bytes : List ℕ) → All IsVisible bytes → All IsVisible (undoubled doubled bytes)
undoubled-visible doubled [] visible = visible
undoubled-visible doubled (byte ∷ []) visible = visible
undoubled-visible doubled (byte ∷ (next ∷ bytes)) visible =
    let here = All-head IsVisible byte (next ∷ bytes) visible in
    let rest = All-tail IsVisible byte (next ∷ bytes) visible in
    let after = All-tail IsVisible next bytes rest in
    choice (All IsVisible) (byte == next && is_one_of doubled byte) (byte ∷ undoubled doubled bytes)
    (byte ∷ undoubled doubled (next ∷ bytes))
    (λ twice. All-cons IsVisible byte (undoubled doubled bytes) here (undoubled-visible doubled bytes after))
    (λ once. All-cons IsVisible byte (undoubled doubled (next ∷ bytes)) here
    (undoubled-visible doubled (next ∷ bytes) rest))
