-- What vanishes between the tokens of Pascal text: white space, comments, ignored codes, and control texts
-- (STAN-CS-83-980). The faults are this project's own.
use Rattle.std.specs.Prelude.{ℕ, zero, suc, ◌+◌, ◌-◌, ◌==◌, if◌then◌else◌, List, [], ◌∷◌, Option, Some, None, Result}
use Rattle.std.specs.Prelude.{Ok, Err}
use Rattle.wb_base.specs.declared.places.Place.{Place}
use Rattle.wb_base.specs.declared.faults.Fault.{Fault}
use Rattle.wb_base.specs.declared.faults.TheConstants.{COMMENT_NOT_ENDED, BAD_CONTROL_TEXT}
use Rattle.wb_base.specs.Bytes.{is_blank}
use Rattle.wb_base.specs.FaultAt.{fault_at}
use Rattle.wb_base.specs.Steps.{◌>>=◌}
use Rattle.web_lex.specs.declared.codes.Code.{Code}
use Rattle.web_lex.specs.declared.codes.Code.TheVariants as code
use Rattle.web_lex.specs.Codes.{code_of}
use Rattle.web_lex.specs.Raw.{PlacedByte}
use Rattle.web_lex.specs.SkipAhead.{Found, next_code}

-- what stands after a comment, after a control text, or after all that vanishes before a token; or the fault in it
abbrev pub RestOrFault : Type 0
RestOrFault = Result (List PlacedByte) Fault

-- in a comment an at sign hides this byte, unless the two begin a section
abbrev pub unless_section : Code → Place → RestOrFault → RestOrFault
unless_section code.Section place after = Err (fault_at COMMENT_NOT_ENDED place)
unless_section other place after = after

-- what stands after a comment from within it, where so many comments are open around it. Braces nest. A backslash
-- hides the next byte, but not an at sign, which hides the next byte itself. The input ends at this place
abbrev pub after_comment : Place → ℕ → List PlacedByte → RestOrFault
after_comment end depth [] = Err (fault_at COMMENT_NOT_ENDED end)
after_comment end depth (byte ∷ []) =
    if byte.byte == 125 then (if depth == 0 then Ok [] else Err (fault_at COMMENT_NOT_ENDED end))
    else Err (fault_at COMMENT_NOT_ENDED end)
after_comment end depth (byte ∷ (next ∷ rest)) =
    if byte.byte == 64 then unless_section (code_of next.byte) byte.place (after_comment end depth rest)
    else (if byte.byte == 92
    then (if next.byte == 64 then after_comment end depth (next ∷ rest) else after_comment end depth rest)
    else (if byte.byte == 123 then after_comment end (depth + 1) (next ∷ rest)
    else (if byte.byte == 125
    then (if depth == 0 then Ok (next ∷ rest) else after_comment end (depth - 1) (next ∷ rest))
    else after_comment end depth (next ∷ rest))))

-- what stands after a control text in which this code is the first that is not passed: `@>` ends it, and any other is a
-- fault
abbrev pub after_code : Code → Place → List PlacedByte → RestOrFault
after_code code.Stray place rest = Ok rest
after_code other place rest = Err (fault_at BAD_CONTROL_TEXT place)

-- the same, where there may be no such code
abbrev pub after_next_code : Place → Option Found → RestOrFault
after_next_code end None = Err (fault_at BAD_CONTROL_TEXT end)
after_next_code end (Some found) = after_code found.code found.place found.rest

-- what stands after a control text from within it
abbrev pub after_control_text : Place → List PlacedByte → RestOrFault
after_control_text end text = after_next_code end (next_code text)

-- what stands after the thing that vanishes where a text begins, or none where nothing does; or the fault in it
abbrev pub Gap : Type 0
Gap = Result (Option (List PlacedByte)) Fault

-- a thing vanishes, and this stands after it
abbrev pub vanished : RestOrFault → Gap
vanished after = after >>= (λ rest. Ok (Some rest))

-- where an at sign and a byte of this code stand before a text, an ignored code vanishes, and a control text; any other
-- code begins a token
abbrev pub gap_of_code : Place → Code → List PlacedByte → Gap
gap_of_code end code.Ignore rest = Ok (Some rest)
gap_of_code end code.Control rest = vanished (after_control_text end rest)
gap_of_code end other rest = Ok None

-- the same, where an at sign stands before a text
abbrev pub gap_at_sign : Place → List PlacedByte → Gap
gap_at_sign end [] = Ok None
gap_at_sign end (next ∷ rest) = gap_of_code end (code_of next.byte) rest

-- what stands after the first thing that vanishes where a text begins: white space, a comment, an ignored code, or a
-- control text
abbrev pub gap_at : Place → List PlacedByte → Gap
gap_at end [] = Ok None
gap_at end (byte ∷ rest) =
    if is_blank byte.byte then Ok (Some rest)
    else (if byte.byte == 123 then vanished (after_comment end 0 rest)
    else (if byte.byte == 64 then gap_at_sign end rest else Ok None))

-- a text that begins with nothing that vanishes, or what this makes of the text after that thing
abbrev pub after_gap : List PlacedByte → (List PlacedByte → RestOrFault) → Option (List PlacedByte) → RestOrFault
after_gap text further None = Ok text
after_gap text further (Some rest) = further rest

-- a text without all that vanishes where it begins, which is no more than this number of things. Each takes a byte at
-- least, so the length of the text is enough
abbrev pub after_gaps : ℕ → Place → List PlacedByte → RestOrFault
after_gaps zero end text = Ok text
after_gaps (suc most) end text = gap_at end text >>= after_gap text (after_gaps most end)
