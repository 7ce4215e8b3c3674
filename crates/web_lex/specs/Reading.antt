-- What a reader of a web's text answers at each call (STAN-CS-83-980). The faults are this project's own.
use Rattle.std.specs.Prelude.{ℕ, ◌-◌, ◌&&◌, Bool, false, if◌then◌else◌, List, [], ◌∷◌, length, drop, slice_get, codes}
use Rattle.std.specs.Prelude.{Option, Some, None, Result, Ok, Err}
use Rattle.wb_base.specs.declared.places.Place.{Place}
use Rattle.wb_base.specs.declared.faults.Fault.{Fault}
use Rattle.wb_base.specs.declared.faults.TheConstants.{REAL_CONSTANT}
use Rattle.wb_base.specs.FaultAt.{fault_at}
use Rattle.wb_base.specs.Steps.{◌>>=◌}
use Rattle.change_merge.specs.Lines.{Line}
use Rattle.web_lex.specs.declared.codes.Code.{Code}
use Rattle.web_lex.specs.declared.codes.Code.TheVariants as code
use Rattle.web_lex.specs.declared.section_names.SectionName.{SectionName}
use Rattle.web_lex.specs.Codes.{is_one_of}
use Rattle.web_lex.specs.Raw.{PlacedByte, raw_text, bytes_of_line, place_of, end_of, whole_web}
use Rattle.web_lex.specs.Token.{Token, end_of_input, LineToken, token_on, ends_in_digit}
use Rattle.web_lex.specs.Gaps.{after_gaps}
use Rattle.web_lex.specs.SkipAhead.{Found, next_code}
use Rattle.web_lex.specs.SectionName.{name_at}

-- a token, its place, what stands after it, and whether the byte directly before that is a decimal digit that ends a
-- digit or a number
pub record Read : Type 0 where
  pub token : Token
  pub place : Place
  pub rest : List PlacedByte
  pub after_digit : Bool

-- the token that a text begins with, by the answer for its line, which has this place and these bytes left
abbrev pub read_first : Place → List ℕ → List PlacedByte → Result LineToken ℕ → Result Read Fault
read_first place bytes text (Ok found) = Ok (record {
  token = found.token;
  place = place;
  rest = drop found.size text;
  after_digit = ends_in_digit found.token (slice_get bytes (found.size - 1));
})
read_first place bytes text (Err code) = Err (fault_at code place)

-- the token that a text begins with, where nothing vanishes before it. The input ends at this place
abbrev pub first_token : Place → List PlacedByte → Result Read Fault
first_token end [] = Ok (record { token = end_of_input; place = end; rest = []; after_digit = false })
first_token end (byte ∷ rest) =
    let after = bytes_of_line rest in
    read_first byte.place (byte.byte ∷ after) (byte ∷ rest) (token_on byte.byte after)

-- whether a text begins with `e` or `E`
abbrev pub begins_exponent : List PlacedByte → Bool
begins_exponent [] = false
begins_exponent (byte ∷ rest) = is_one_of (codes "eE") byte.byte

-- the next token of a text, or its fault. The mark tells whether the byte directly before the text is a decimal digit
-- that ends a digit or a number; `e` or `E` is then the fault of a real constant. The input ends at this place
abbrev pub token_at : Place → Bool → List PlacedByte → Result Read Fault
token_at end after_digit text =
    if after_digit && begins_exponent text then Err (fault_at REAL_CONSTANT (place_of end text))
    else after_gaps (length text) end text >>= first_token end

-- a reader: what is left of its text with the mark, the place of its last token, that of the end of the input, and the
-- fault that it met, if any
pub record Reading : Type 0 where
  pub rest : List PlacedByte
  pub after_digit : Bool
  pub place : Place
  pub end : Place
  pub fault : Option Fault

-- a reader of these lines before its first token
abbrev pub reading_of : List Line → Reading
reading_of lines =
    record { rest = raw_text lines; after_digit = false; place = whole_web; end = end_of lines; fault = None }

-- what a reader answers: the fault that it met, or else this
abbrev pub unless_met : {A : Type 0} → Option Fault → Result A Fault → Result A Fault
unless_met None result = result
unless_met (Some fault) result = Err fault

-- the place that shows a fault
abbrev pub place_of_fault : Fault → Place
place_of_fault fault = record { file = fault.file; line = fault.line }

-- the reader after a token
abbrev pub after_token : Reading → Read → Reading
after_token reading read =
    record reading { rest = read.rest; after_digit = read.after_digit; place = read.place }

-- the reader after a fault
abbrev pub after_fault : Reading → Fault → Reading
after_fault reading fault = record reading { place = place_of_fault fault; fault = Some fault }

-- the next token and the reader after it, or the fault
abbrev pub next_token : Reading → Result (Token × Reading) Fault
next_token reading =
    unless_met reading.fault (token_at reading.end reading.after_digit reading.rest)
    >>= (λ read. Ok (read.token, after_token reading read))

-- the name after `@<` and the reader after it, or the fault; the place stays that of the last token
abbrev pub next_name : Reading → Result (SectionName × Reading) Fault
next_name reading =
    unless_met reading.fault (name_at reading.end reading.rest)
    >>= (λ named. Ok (named.0, record reading { rest = named.1; after_digit = false }))

-- the code that a reader skips ahead to, and the reader after it
abbrev pub skipped_to : Reading → Option Fault → Option Found → Code × Reading
skipped_to reading (Some fault) found = (code.End, reading)
skipped_to reading None None =
    (code.End, record reading { rest = []; after_digit = false; place = reading.end })
skipped_to reading None (Some found) =
    (found.code, record reading { rest = found.rest; after_digit = false; place = found.place })

-- the next code that is not passed, and the reader after it
abbrev pub skipped : Reading → Code × Reading
skipped reading = skipped_to reading reading.fault (next_code reading.rest)
