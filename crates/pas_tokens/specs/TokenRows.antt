-- The cutting of Pascal texts at work.
use Rattle.std.specs.Prelude.{◌≡◌, ℕ, List, [], ◌∷◌, ◌++◌, codes, replicate, Ok, Err, refl}
use Rattle.wb_base.specs.declared.faults.TheConstants.{BAD_PASCAL_BYTE, BAD_PASCAL_TOKEN, PASCAL_LEFT_OUT, REAL_NUMBERS}
use Rattle.pas_tokens.specs.declared.kinds.Kind.{Kind}
use Rattle.pas_tokens.specs.declared.kinds.Kind.TheVariants as k
use Rattle.pas_tokens.specs.Cutting.{Payload, nothing, value, spelling, wrong}
use Rattle.pas_tokens.specs.Tokens.{Token, fault_in, tokens_of, tokens_from}

-- a token with this payload in a line, and one without
abbrev says : Kind → Payload → ℕ → Token
says kind payload line = record { kind = kind; payload = payload; line = line }

abbrev at : Kind → ℕ → Token
at kind line = says kind nothing line

-- the tokens of these lines, each followed by byte 10
abbrev lines : List (List ℕ) → List ℕ
lines [] = []
lines (line ∷ others) = line ++ 10 ∷ lines others

-- these tokens, or this fault in a line
abbrev gives : List ℕ → List Token → Type 0
gives text tokens = tokens_of text ≡ Ok tokens

abbrev shows : List ℕ → ℕ → ℕ → Type 0
shows text code line = tokens_of text ≡ Err (fault_in line (wrong code))

pub nothing_at_all : gives [] (at k.EndOfText 1 ∷ [])
unfolding tokens_of tokens_from
nothing_at_all = refl

pub end_behind_a_line_end : gives (10 ∷ []) (at k.EndOfText 1 ∷ [])
unfolding tokens_of tokens_from
end_behind_a_line_end = refl

pub assignment : gives (lines (codes "Begin X1:=" ∷ codes " 007;END." ∷ []))
    (at k.Begin 1 ∷ says k.Name (spelling (codes "x1")) 1 ∷ at k.Becomes 1 ∷ says k.Number (value 7) 2
    ∷ at k.Semicolon 2 ∷ at k.End 2 ∷ at k.Dot 2 ∷ at k.EndOfText 2 ∷ [])
unfolding tokens_of tokens_from
assignment = refl

pub comments : gives (lines (codes "a{ *)b(*c}d" ∷ codes "(*{" ∷ codes "*) e" ∷ []))
    (says k.Name (spelling (codes "a")) 1 ∷ says k.Name (spelling (codes "b")) 1
    ∷ says k.Name (spelling (codes "d")) 1 ∷ says k.Name (spelling (codes "e")) 3 ∷ at k.EndOfText 3 ∷ [])
unfolding tokens_of tokens_from
comments = refl

pub strings : gives (codes "'a''b'''''  ''''") (says k.Text (spelling (codes "a''b''''")) 1
    ∷ says k.Text (spelling (codes "''")) 1 ∷ at k.EndOfText 1 ∷ [])
unfolding tokens_of tokens_from
strings = refl

pub longest_signs : gives (codes "(.a.)<=>..)2..5^(.)")
    (at k.LeftBracket 1 ∷ says k.Name (spelling (codes "a")) 1 ∷ at k.RightBracket 1 ∷ at k.LessOrEqual 1
    ∷ at k.Greater 1 ∷ at k.Dots 1 ∷ at k.RightParenthesis 1 ∷ says k.Number (value 2) 1 ∷ at k.Dots 1
    ∷ says k.Number (value 5) 1 ∷ at k.Caret 1 ∷ at k.LeftBracket 1 ∷ at k.RightParenthesis 1
    ∷ at k.EndOfText 1 ∷ [])
unfolding tokens_of tokens_from
longest_signs = refl

pub number_and_name : gives (codes "1e;") (says k.Number (value 1) 1 ∷ says k.Name (spelling (codes "e")) 1
    ∷ at k.Semicolon 1 ∷ at k.EndOfText 1 ∷ [])
unfolding tokens_of tokens_from
number_and_name = refl

pub bad_byte : shows (lines (codes "a" ∷ codes "b?" ∷ [])) BAD_PASCAL_BYTE 2
unfolding tokens_of tokens_from
bad_byte = refl

pub number_too_big : shows (codes "2147483648.5") BAD_PASCAL_TOKEN 1
unfolding tokens_of tokens_from
number_too_big = refl

pub comment_not_ended : shows (lines (codes "a" ∷ codes "{ b" ∷ codes "c" ∷ [])) BAD_PASCAL_TOKEN 2
unfolding tokens_of tokens_from
comment_not_ended = refl

pub empty_string : shows (codes "''") BAD_PASCAL_TOKEN 1
unfolding tokens_of tokens_from
empty_string = refl

pub string_not_ended : shows (lines (codes "'a" ∷ codes "'" ∷ [])) BAD_PASCAL_TOKEN 1
unfolding tokens_of tokens_from
string_not_ended = refl

pub name_too_long : shows (replicate 256 97) BAD_PASCAL_TOKEN 1
unfolding tokens_of tokens_from
name_too_long = refl

pub real_number : tokens_of (codes "1.5") ≡ Err (fault_in 1 (record { code = PASCAL_LEFT_OUT; which = REAL_NUMBERS }))
unfolding tokens_of tokens_from
real_number = refl

pub real_number_with_exponent : tokens_of (codes "1E-")
    ≡ Err (fault_in 1 (record { code = PASCAL_LEFT_OUT; which = REAL_NUMBERS }))
unfolding tokens_of tokens_from
real_number_with_exponent = refl
