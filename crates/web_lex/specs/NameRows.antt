-- The definitions of section names and of skipping ahead, at work on short webs.
use Rattle.std.specs.Prelude.{◌≡◌, ℕ, Bool, true, false, List, [], ◌∷◌, ◌++◌, codes, Result, Ok, Err, refl}
use Rattle.wb_base.specs.declared.places.FileTag.TheVariants.{Web, Change}
use Rattle.wb_base.specs.declared.faults.Fault.{Fault}
use Rattle.change_merge.specs.Lines.{Line}
use Rattle.web_lex.specs.declared.codes.Code.{Code}
use Rattle.web_lex.specs.declared.codes.Code.TheVariants as code
use Rattle.web_lex.specs.declared.section_names.SectionName.{SectionName}
use Rattle.web_lex.specs.Reading.{Reading, reading_of, next_token, next_name, skipped, after_fault}
use Rattle.web_lex.specs.Token.{Token, letter}
use Rattle.web_lex.specs.TokenRows.{web_lines}

-- a line of the change file
abbrev change_line : ℕ → List ℕ → List Line
change_line number bytes = record { place = record { file = Change; line = number }; bytes = bytes } ∷ []

abbrev text_and_kind : Result (SectionName × Reading) Fault → Result (List ℕ × Bool) Fault
text_and_kind (Ok answer) = Ok (answer.0.text, answer.0.prefix)
text_and_kind (Err fault) = Err fault

-- the text of the name that these lines begin with, and whether it is a prefix
abbrev name : List Line → Result (List ℕ × Bool) Fault
name lines = text_and_kind (next_name (reading_of lines))

abbrev fails_in_web : ℕ → ℕ → Result (List ℕ × Bool) Fault
fails_in_web line code = Err (record { code = code; file = Web; line = line; which = 0 })

-- white space is one space, over lines too, and none at the ends
pub over_lines :
    name (web_lines 1 (codes "  a\t \tb" ∷ [] ∷ codes "c @@d @>x" ∷ []))
    ≡ Ok (codes "a b c @@d", false)
over_lines = refl

pub a_prefix : name (web_lines 1 (codes "Ini ... @>" ∷ [])) ≡ Ok (codes "Ini ", true)
a_prefix = refl

pub only_dots : name (web_lines 1 (codes "...@>" ∷ [])) ≡ Ok (codes "...", false)
only_dots = refl

-- an at sign and its next byte belong to the name
pub codes_in_name : name (web_lines 1 (codes "a@<b@@@>" ∷ [])) ≡ Ok (codes "a@<b@@", false)
codes_in_name = refl

-- fault 12: a section start, the end of the input, an empty name at the line of its end
pub section_in_name : name (web_lines 1 (codes "a" ∷ codes "@*b@>" ∷ [])) ≡ fails_in_web 2 12
section_in_name = refl

pub name_not_ended : name (web_lines 1 (codes "a" ∷ codes "b@@>" ∷ [])) ≡ fails_in_web 2 12
name_not_ended = refl

pub empty_name : name (web_lines 1 ([] ∷ codes "\t @>" ∷ [])) ≡ fails_in_web 2 12
empty_name = refl

-- the last line may be one of the change file
pub change_file_line :
    name (web_lines 1 (codes "a" ∷ []) ++ change_line 7 (codes "b"))
    ≡ Err (record { code = 12; file = Change; line = 7; which = 0 })
change_file_line = refl

-- fault 8: also directly after an at sign
pub bad_byte_in_name : name (web_lines 1 (codes "a" ∷ (64 ∷ 127 ∷ []) ∷ [])) ≡ fails_in_web 2 8
bad_byte_in_name = refl

abbrev code_and_line : Code × Reading → Code × ℕ
code_and_line answer = (answer.0, answer.1.place.line)

-- the code that a reader of these lines skips ahead to, and its line
abbrev skipped_in : List (List ℕ) → Code × ℕ
skipped_in lines = code_and_line (skipped (reading_of (web_lines 1 lines)))

pub at_signs_passed : skipped_in (codes "a @@d @!" ∷ codes "@D" ∷ []) ≡ (code.Definition, 2)
at_signs_passed = refl

pub section_at_line_end : skipped_in (codes "a @" ∷ codes "@p" ∷ []) ≡ (code.Section, 1)
section_at_line_end = refl

pub no_code : skipped_in (codes "a" ∷ (127 ∷ []) ∷ []) ≡ (code.End, 2)
no_code = refl

-- the fault that a reader met on its third line
abbrev a_fault : Fault
a_fault = record { code = 13; file = Web; line = 3; which = 0 }

-- a reader that met it, before a line with a name and a code
abbrev failed_reader : Reading
failed_reader = after_fault (reading_of (web_lines 1 (codes "a@>@p" ∷ []))) a_fault

-- after a fault it comes again, and there is no further code; the place is the fault's
pub token_after_a_fault : next_token failed_reader ≡ Err a_fault
token_after_a_fault = refl

pub name_after_a_fault : text_and_kind (next_name failed_reader) ≡ Err a_fault
name_after_a_fault = refl

pub code_after_a_fault : code_and_line (skipped failed_reader) ≡ (code.End, 3)
code_after_a_fault = refl

-- a name between a digit and an `e`: no real constant
abbrev token_then : Result (SectionName × Reading) Fault → Result (Token × ℕ) Fault
token_then (Ok answer) = token_and_line (next_token answer.1)
  where
    token_and_line : Result (Token × Reading) Fault → Result (Token × ℕ) Fault
    token_and_line (Ok next) = Ok (next.0, next.1.place.line)
    token_and_line (Err fault) = Err fault
token_then (Err fault) = Err fault

pub letter_after_name : token_then
    (next_name (record (reading_of (web_lines 1 (codes "a@>e" ∷ []))) { after_digit = true })) ≡ Ok (letter 101, 1)
letter_after_name = refl
