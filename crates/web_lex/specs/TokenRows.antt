-- The definition of tokens, at work on short webs.
use Rattle.std.specs.Prelude.{◌≡◌, ℕ, zero, suc, ◌+◌, List, [], ◌∷◌, codes, Result, Ok, Err, refl}
use Rattle.wb_base.specs.declared.places.FileTag.TheVariants.{Web}
use Rattle.wb_base.specs.declared.tokens.Joined.TheVariants as two
use Rattle.wb_base.specs.declared.faults.Fault.{Fault}
use Rattle.change_merge.specs.Lines.{Line}
use Rattle.web_lex.specs.declared.codes.Code.TheVariants as code
use Rattle.web_lex.specs.Token.{Token, end_of_input, control, letter, digit, word, based, sign, joined, quoted, pool}
use Rattle.web_lex.specs.Token.{verbatim}
use Rattle.web_lex.specs.Reading.{Reading, reading_of, next_token}

-- these lines of the web, numbered from this number on
abbrev pub web_lines : ℕ → List (List ℕ) → List Line
web_lines number [] = []
web_lines number (bytes ∷ lines) =
    record { place = record { file = Web; line = number }; bytes = bytes } ∷ web_lines (number + 1) lines

-- a token with its line, or a fault with its line
pub data Shown : Type 0 where
  read : ℕ → Token → Shown
  failed : ℕ → ℕ → Shown

abbrev shown_then : (Reading → List Shown) → Result (Token × Reading) Fault → List Shown
shown_then further (Ok answer) = read answer.1.place.line answer.0 ∷ further answer.1
shown_then further (Err fault) = failed fault.line fault.code ∷ []

-- so many tokens of a reader, or those before a fault and the fault
abbrev shown : ℕ → Reading → List Shown
shown zero reading = []
shown (suc count) reading = shown_then (shown count) (next_token reading)

-- the same, of a web of these lines
abbrev tokens : ℕ → List (List ℕ) → List Shown
tokens count lines = shown count (reading_of (web_lines 1 lines))

pub words_and_signs :
    tokens 6 (codes "begin x:=1;" ∷ [])
    ≡ read 1 (word (codes "begin")) ∷ read 1 (letter 120) ∷ read 1 (joined two.Becomes) ∷ read 1 (digit 49)
    ∷ read 1 (sign 59) ∷ read 1 end_of_input ∷ []
words_and_signs = refl

-- the end of a web without lines is line 0
pub no_lines : tokens 2 [] ≡ read 0 end_of_input ∷ read 0 end_of_input ∷ []
no_lines = refl

-- the line's end is a space, and tabs and ignored codes vanish too
pub over_lines :
    tokens 4 (codes "a_b" ∷ [] ∷ codes "\t9@!@" ∷ codes "c" ∷ [])
    ≡ read 1 (word (codes "a_b")) ∷ read 3 (digit 57) ∷ read 3 (control code.Section) ∷ read 4 (letter 99)
    ∷ []
over_lines = refl

-- a code that is no section start hides its byte in a comment, and control texts follow one another
pub one_after_another : tokens 1 (codes "{@}@{}@^@@x@>@tx@>y" ∷ []) ≡ read 1 (letter 121) ∷ []
one_after_another = refl

-- braces nest; `\` hides a brace, and `@` the byte after it, but `\` does not hide `@`
pub comments :
    tokens 3 (codes "{a{@}b}\\}\\@}" ∷ codes "c}.. *)" ∷ [])
    ≡ read 2 (joined two.Dots) ∷ read 2 (control code.MetaClose) ∷ read 2 end_of_input ∷ []
comments = refl

pub control_texts :
    tokens 2 (codes "@^a@@b@!" ∷ codes "c@>@\\@&" ∷ [])
    ≡ read 2 (control code.Line) ∷ read 2 (control code.Join) ∷ []
control_texts = refl

pub signs :
    tokens 7 (codes "(..)(.)@@a_*" ∷ [])
    ≡ read 1 (sign 91) ∷ read 1 (sign 93) ∷ read 1 (sign 91) ∷ read 1 (sign 41) ∷ read 1 (sign 64)
    ∷ read 1 (word (codes "a_")) ∷ read 1 (sign 42) ∷ []
signs = refl

pub octal : tokens 2 (codes "@'1778" ∷ []) ≡ read 1 (based 127) ∷ read 1 (digit 56) ∷ []
octal = refl

pub hexadecimal : tokens 2 (codes "@\"7FFFFFFFg" ∷ []) ≡ read 1 (based 2147483647) ∷ read 1 (letter 103) ∷ []
hexadecimal = refl

-- a number that ends in a letter may have an `e` after it
pub letter_digit : tokens 2 (codes "@\"1Ee" ∷ []) ≡ read 1 (based 30) ∷ read 1 (letter 101) ∷ []
letter_digit = refl

-- doubled quotes and at signs stay doubled
pub strings :
    tokens 3 (codes "'it''s @@' \"\"\"\" @=x@@@>" ∷ [])
    ≡ read 1 (quoted (codes "it''s @@")) ∷ read 1 (pool (codes "\"\"")) ∷ read 1 (verbatim (codes "x@@"))
    ∷ []
strings = refl

pub empty_texts :
    tokens 3 (codes "''\"\"@=@>" ∷ [])
    ≡ read 1 (quoted []) ∷ read 1 (pool []) ∷ read 1 (verbatim []) ∷ []
empty_texts = refl

-- fault 8: a byte 127, a tab in a string, a byte before a single at sign
pub bad_byte : tokens 2 (codes "a" ∷ (32 ∷ 127 ∷ []) ∷ []) ≡ read 1 (letter 97) ∷ failed 2 8 ∷ []
bad_byte = refl

pub tab_in_string : tokens 1 (codes "'a\tb'" ∷ []) ≡ failed 1 8 ∷ []
tab_in_string = refl

pub bad_byte_before_at_sign : tokens 1 ((39 ∷ 127 ∷ 64 ∷ 39 ∷ []) ∷ []) ≡ failed 1 8 ∷ []
bad_byte_before_at_sign = refl

-- an at sign and a bad byte are an ignored code
pub bad_byte_ignored : tokens 1 ((64 ∷ 127 ∷ 97 ∷ []) ∷ []) ≡ read 1 (letter 97) ∷ []
bad_byte_ignored = refl

-- fault 9: a section start in a comment, also after a backslash, at its line, and the end of the input, at the last
-- line
pub section_in_comment : tokens 1 (codes "{a" ∷ codes "b @ }" ∷ codes "c}" ∷ []) ≡ failed 2 9 ∷ []
section_in_comment = refl

pub section_after_backslash : tokens 1 (codes "{\\@ }" ∷ []) ≡ failed 1 9 ∷ []
section_after_backslash = refl

pub comment_not_ended :
    tokens 2 (codes "{a}b {" ∷ codes "c" ∷ codes "@}" ∷ [])
    ≡ read 1 (letter 98) ∷ failed 3 9 ∷ []
comment_not_ended = refl

-- fault 10
pub string_not_ended : tokens 1 (codes "'a''" ∷ codes "b'" ∷ []) ≡ failed 1 10 ∷ []
string_not_ended = refl

-- fault 11: whatever follows the at sign
pub single_at_sign : tokens 1 (codes "'a@'" ∷ []) ≡ failed 1 11 ∷ []
single_at_sign = refl

pub at_sign_at_line_end : tokens 1 (codes "@=a@" ∷ []) ≡ failed 1 11 ∷ []
at_sign_at_line_end = refl

pub bad_byte_after_at_sign : tokens 1 ((34 ∷ 64 ∷ 127 ∷ []) ∷ []) ≡ failed 1 11 ∷ []
bad_byte_after_at_sign = refl

-- fault 13
pub stray_brace : tokens 1 (codes "{}" ∷ codes "}" ∷ []) ≡ failed 2 13 ∷ []
stray_brace = refl

pub stray_end : tokens 1 (codes "@>" ∷ []) ≡ failed 1 13 ∷ []
stray_end = refl

-- fault 14: a number without digits, a verbatim text or a control text that does not end, another code in one
pub no_digit : tokens 1 (codes "@'8" ∷ []) ≡ failed 1 14 ∷ []
no_digit = refl

pub verbatim_not_ended : tokens 1 (codes "@=a" ∷ codes "@>" ∷ []) ≡ failed 1 14 ∷ []
verbatim_not_ended = refl

pub control_text_not_ended : tokens 1 (codes "@ta@@" ∷ codes "b" ∷ []) ≡ failed 2 14 ∷ []
control_text_not_ended = refl

pub code_in_control_text : tokens 1 (codes "@:a" ∷ codes "@&@>" ∷ codes "b" ∷ []) ≡ failed 2 14 ∷ []
code_in_control_text = refl

-- fault 18
pub too_big : tokens 1 ([] ∷ codes "@\"80000000" ∷ []) ≡ failed 2 18 ∷ []
too_big = refl

-- fault 35: directly after a digit, before a word too, but not after a space or a comment
pub real : tokens 2 (codes "1e5" ∷ []) ≡ read 1 (digit 49) ∷ failed 1 35 ∷ []
real = refl

pub real_after_number : tokens 2 (codes "@'17End" ∷ []) ≡ read 1 (based 15) ∷ failed 1 35 ∷ []
real_after_number = refl

pub no_real :
    tokens 4 (codes "1 e2{}end" ∷ [])
    ≡ read 1 (digit 49) ∷ read 1 (word (codes "e2")) ∷ read 1 (word (codes "end")) ∷ read 1 end_of_input
    ∷ []
no_real = refl

-- fault 43
pub check_sum : tokens 2 (codes "a@$" ∷ []) ≡ read 1 (letter 97) ∷ failed 1 43 ∷ []
check_sum = refl
