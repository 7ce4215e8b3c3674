-- The names of sections, as TANGLE reads them after `@<` (STAN-CS-83-980). The faults are this project's own.
use Rattle.std.specs.Prelude.{ℕ, ◌-◌, ◌==◌, ◌&&◌, ◌||◌, nat_lt, Bool, true, false, if◌then◌else◌, List, [], ◌∷◌, ◌++◌}
use Rattle.std.specs.Prelude.{length, take, drop, codes, Result, Ok, Err}
use Rattle.std.specs.Str.{bytes_eq}
use Rattle.wb_base.specs.declared.places.Place.{Place}
use Rattle.wb_base.specs.declared.faults.Fault.{Fault}
use Rattle.wb_base.specs.declared.faults.TheConstants.{BAD_BYTE, SECTION_NAME_NOT_ENDED}
use Rattle.wb_base.specs.Bytes.{is_blank}
use Rattle.wb_base.specs.FaultAt.{fault_at}
use Rattle.wb_base.specs.Steps.{◌>>=◌}
use Rattle.web_lex.specs.declared.codes.Code.{Code}
use Rattle.web_lex.specs.declared.codes.Code.TheVariants as code
use Rattle.web_lex.specs.declared.section_names.SectionName.{SectionName}
use Rattle.web_lex.specs.Codes.{code_of}
use Rattle.web_lex.specs.Raw.{PlacedByte}
use Rattle.web_lex.specs.Token.{is_text_byte}

-- a name as it stands in the web, over lines too, the place of the `@>` that ends it, and what stands after
pub record Spelled : Type 0 where
  pub bytes : List ℕ
  pub end : Place
  pub rest : List PlacedByte

-- the same, with these bytes before it
abbrev pub with_prefix : List ℕ → Result Spelled Fault → Result Spelled Fault
with_prefix bytes (Ok spelled) = Ok (record spelled { bytes = bytes ++ spelled.bytes })
with_prefix bytes (Err fault) = Err fault

-- a byte that may stand in a name: 32 to 126, or a tab
abbrev pub is_name_byte : ℕ → Bool
is_name_byte byte = is_text_byte byte || byte == 9

-- a name goes on with these bytes, of which this is the last, unless it may not stand there
abbrev pub with_byte : PlacedByte → List ℕ → Result Spelled Fault → Result Spelled Fault
with_byte last bytes further =
    if is_name_byte last.byte then with_prefix bytes further else Err (fault_at BAD_BYTE last.place)

-- a name goes on with an at sign at this place and the next byte, which is of this code: `@>` ends it, a section start
-- may not come, and any other two bytes belong to it
abbrev pub with_code : Code → Place → PlacedByte → List PlacedByte → Result Spelled Fault → Result Spelled Fault
with_code code.Stray place next rest further = Ok (record { bytes = []; end = place; rest = rest })
with_code code.Section place next rest further = Err (fault_at SECTION_NAME_NOT_ENDED place)
with_code other place next rest further = with_byte next (64 ∷ next.byte ∷ []) further

-- the name that a text begins with; the input ends at this place
abbrev pub spelled_at : Place → List PlacedByte → Result Spelled Fault
spelled_at end [] = Err (fault_at SECTION_NAME_NOT_ENDED end)
spelled_at end (byte ∷ []) =
    if byte.byte == 64 then Err (fault_at SECTION_NAME_NOT_ENDED end)
    else with_byte byte (byte.byte ∷ []) (Err (fault_at SECTION_NAME_NOT_ENDED end))
spelled_at end (byte ∷ (next ∷ rest)) =
    if byte.byte == 64 then with_code (code_of next.byte) byte.place next rest (spelled_at end rest)
    else with_byte byte (byte.byte ∷ []) (spelled_at end (next ∷ rest))

-- whether bytes begin with white space
abbrev pub begins_blank : List ℕ → Bool
begins_blank [] = false
begins_blank (byte ∷ bytes) = is_blank byte

-- the bytes with a space before them, where there are any and white space stands there
abbrev pub spaced : Bool → List ℕ → List ℕ
spaced blank [] = []
spaced blank (byte ∷ bytes) = if blank then 32 ∷ byte ∷ bytes else byte ∷ bytes

-- bytes without the white space at both ends, and with one space for each run of it elsewhere
abbrev pub compressed : List ℕ → List ℕ
compressed [] = []
compressed (byte ∷ bytes) =
    if is_blank byte then compressed bytes else byte ∷ spaced (begins_blank bytes) (compressed bytes)

-- whether a name of more than three bytes ends in three dots
abbrev pub ends_in_dots : List ℕ → Bool
ends_in_dots name = nat_lt 3 (length name) && bytes_eq (drop (length name - 3) name) (codes "...")

-- a name that ends in three dots is the prefix before them
abbrev pub name_or_prefix : List ℕ → SectionName
name_or_prefix name =
    if ends_in_dots name then record { text = take (length name - 3) name; prefix = true }
    else record { text = name; prefix = false }

-- a name, and what stands after it; it may not be empty
abbrev pub named_by : List ℕ → Place → List PlacedByte → Result (SectionName × List PlacedByte) Fault
named_by [] end rest = Err (fault_at SECTION_NAME_NOT_ENDED end)
named_by (byte ∷ bytes) end rest = Ok (name_or_prefix (byte ∷ bytes), rest)

-- the name that a text begins with and what stands after it, or the first fault
abbrev pub name_at : Place → List PlacedByte → Result (SectionName × List PlacedByte) Fault
name_at end text =
    spelled_at end text >>= (λ spelled. named_by (compressed spelled.bytes) spelled.end spelled.rest)
