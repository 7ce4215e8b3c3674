-- How a pool keeps its strings. No public contract cites this.
use Rattle.std.specs.Prelude.{ℕ, ◌≡◌, ◌+◌, ◌≤◌, ◌==◌, if◌then◌else◌, List, [], ◌∷◌, ◌++◌, map, length, All, Vec}
use Rattle.std.specs.Prelude.{Option, Some, None, Result, Ok, Err}
use Rattle.std.specs.List.{list_any}
use Rattle.std.specs.Str.{bytes_eq}
use Rattle.wb_base.specs.declared.faults.Fault.{Fault}
use Rattle.web_pool.specs.Listing.{byte_strings, characters_in, closing_line}
use Rattle.web_pool.specs.PoolLines.{PoolRead, read_from, string_then, fails_at}
use Rattle.std.specs.declared.alloc.Global.{Global}
use Rattle.web_pool.specs.declared.pool.TheConstants.{LONGEST_STRING, FIRST_NUMBER, LAST_NUMBER}

-- the strings, as contracts see them
abbrev pub strings_in : List (Vec ℕ Global) → List (List ℕ)
strings_in texts = map (λ text. text.items) texts

-- no string is too long, and the number of the last is not past the last number
pub record IsLawful (strings : List (List ℕ)) : Type 0 where
  pub short : All (λ text. length text ≤ LONGEST_STRING) strings
  pub few : FIRST_NUMBER + length strings ≤ LAST_NUMBER + 1

-- the strings of a pool to which this string in double quotes is added
abbrev pub with_string : List ℕ → List (List ℕ) → List (List ℕ)
with_string text strings =
    if length text == 1 then strings
    else (if list_any (bytes_eq text) strings then strings else strings ++ text ∷ [])

-- the line of this number says so of what is read from it on: its string comes first, or the last line or a fault ends
-- it
abbrev pub ReadsLine : ℕ → List ℕ → Result (Option (List ℕ)) Fault → Type 0
ReadsLine line text (Ok None) =
    (lines : List (List ℕ)) → read_from line (text ∷ lines) ≡ record { strings = []; fault = None }
ReadsLine line text (Ok (Some string)) =
    (lines : List (List ℕ)) → read_from line (text ∷ lines) ≡ string_then string (read_from (line + 1) lines)
ReadsLine line text (Err fault) = (lines : List (List ℕ)) → read_from line (text ∷ lines) ≡ fails_at fault

-- how the listing of what was read ends: with the number of all characters that were shown, or with the fault
abbrev pub EndsAs : PoolRead → Result ℕ Fault → Type 0
EndsAs read (Ok characters) =
    (read.fault ≡ None) × (characters ≡ characters_in (byte_strings 256 ++ read.strings))
EndsAs read (Err fault) = read.fault ≡ Some fault

-- some strings, and then what is read after them
abbrev pub strings_then : List (List ℕ) → PoolRead → PoolRead
strings_then texts read = record { strings = texts ++ read.strings; fault = read.fault }

-- the last line of a listing, by how the pool ended
abbrev pub closing_by : Result ℕ Fault → List ℕ
closing_by (Ok characters) = closing_line characters
closing_by (Err fault) = []

-- the fault by which a pool ends, if it has one
abbrev pub EndsBy : {T : Type 0} → Option Fault → Result T Fault → Type 0
EndsBy wanted (Ok value) = wanted ≡ None
EndsBy wanted (Err fault) = wanted ≡ Some fault
