-- What is still to come after a step of the reader. No public contract cites this.
use Rattle.std.specs.Prelude.{ℕ, Bool, true, false, List, [], ◌∷◌, Option, Some, None, Result, Ok, Err}
use Rattle.wb_base.specs.declared.places.Place.{Place}
use Rattle.wb_base.specs.declared.faults.Fault.{Fault}
use Rattle.web_lex.specs.declared.codes.Code.{Code}
use Rattle.web_lex.specs.declared.codes.Code.TheVariants as code
use Rattle.web_lex.specs.Codes.{code_of}
use Rattle.web_lex.specs.Raw.{PlacedByte}
use Rattle.web_lex.specs.Gaps.{RestOrFault, Gap, after_comment}
use Rattle.web_lex.specs.SkipAhead.{Found, next_code}

-- a code and the place of its at sign, where this text stands after it
abbrev pub found_with : Option (Code × Place) → List PlacedByte → Option Found
found_with None rest = None
found_with (Some found) rest = Some (record { code = found.0; place = found.1; rest = rest })

-- this code, or what is found in the text that follows
abbrev pub found_after : Option (Code × Place) → List PlacedByte → Option Found
found_after None rest = next_code rest
found_after (Some found) rest = found_with (Some found) rest

-- this text, unless there is a fault
abbrev pub rest_of : {A : Type 0} → Result A Fault → List PlacedByte → RestOrFault
rest_of (Ok done) rest = Ok rest
rest_of (Err fault) rest = Err fault

-- this text after what vanishes, where something does
abbrev pub gap_before : Result Bool Fault → List PlacedByte → Gap
gap_before (Ok true) rest = Ok (Some rest)
gap_before (Ok false) rest = Ok None
gap_before (Err fault) rest = Err fault

-- what stands after a comment with so many open around this text; none is the end of the comment
abbrev pub comment_after : Result (Option ℕ) Fault → Place → List PlacedByte → RestOrFault
comment_after (Ok (Some depth)) end rest = after_comment end depth rest
comment_after (Ok None) end rest = Ok rest
comment_after (Err fault) end rest = Err fault

-- whether a code is a section start
abbrev pub is_section : Code → Bool
is_section code.Section = true
is_section other = false

-- whether the first byte of a text begins a section with an at sign before it
abbrev pub begins_section : List PlacedByte → Bool
begins_section [] = false
begins_section (byte ∷ rest) = is_section (code_of byte.byte)
