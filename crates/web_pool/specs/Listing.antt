-- What the listing of a pool prints, after pooltype.web; its layout is this project's own.
use Rattle.std.specs.Prelude.{◌≡◌, ◌≢◌, ℕ, zero, suc, Bool, true, false, ◌+◌, ◌-◌, ◌/◌, ◌%◌, ◌==◌, nat_lt}
use Rattle.std.specs.Prelude.{if◌then◌else◌, List, [], ◌∷◌, ◌++◌, codes, decimal, replicate, length, sum_by, Option}
use Rattle.std.specs.Prelude.{Some, None, Result, Ok, Err}
use Rattle.std.specs.List.{flat_map}
use Rattle.wb_base.specs.FaultAt.{limit_passed}
use Rattle.wb_base.specs.declared.faults.Fault.{Fault}
use Rattle.wb_base.specs.declared.faults.TheConstants.{FILE_LIMIT, LIMIT_FILE_BYTES}
use Rattle.wb_ports.specs.Held.{Gains, GainsPrefix}
use Rattle.web_pool.specs.PoolLines.{PoolRead, pool_place, read_pool}
use Rattle.web_pool.specs.declared.refusals.PoolTypeErr.{PoolTypeErr}
use Rattle.web_pool.specs.declared.refusals.PoolTypeErr.TheVariants.{Fault as of_pool, Failed}

-- a digit of base 16, in lower case
abbrev pub hex_digit : ℕ → ℕ
hex_digit digit = if nat_lt digit 10 then 48 + digit else 87 + digit

-- a byte as it is shown: itself where it is visible or a space, else two carets with what stands for it
abbrev pub shown_byte : ℕ → List ℕ
shown_byte byte =
    if nat_lt byte 32 then codes "^^" ++ (64 + byte) ∷ []
    else (if nat_lt byte 127 then byte ∷ []
    else (if byte == 127 then codes "^^?"
    else codes "^^" ++ hex_digit (byte / 16) ∷ hex_digit (byte % 16) ∷ []))

-- a byte as it is printed within double quotes, which are doubled there
abbrev pub quoted_byte : ℕ → List ℕ
quoted_byte byte = if byte == 34 then 34 ∷ 34 ∷ [] else shown_byte byte

-- a number in three places at least
abbrev pub in_three_places : ℕ → List ℕ
in_three_places number = replicate (3 - length (decimal number)) 32 ++ decimal number

-- the line of a string: its number, and the string within double quotes
unfoldable pub entry : ℕ → List ℕ → List ℕ
entry number text = in_three_places number ++ codes ": \"" ++ flat_map quoted_byte text ++ codes "\"\n"

-- the lines of strings, the first of which has this number
unfoldable pub entries_from : ℕ → List (List ℕ) → List ℕ
entries_from number [] = []
entries_from number (text ∷ texts) = entry number text ++ entries_from (number + 1) texts

-- how many characters are shown of these strings
abbrev pub characters_in : List (List ℕ) → ℕ
characters_in texts = sum_by (λ text. length (flat_map shown_byte text)) texts

-- the strings of one byte, each the code below this one
unfoldable pub byte_strings : ℕ → List (List ℕ)
byte_strings zero = []
byte_strings (suc code) = byte_strings code ++ (code ∷ []) ∷ []

-- the line that tells how many characters were shown
unfoldable pub closing_line : ℕ → List ℕ
closing_line characters = codes "(" ++ decimal characters ++ codes " characters in all.)\n"

-- what is printed after the lines of the strings, unless a fault ended the pool
abbrev pub closing : Option Fault → List (List ℕ) → List ℕ
closing (Some fault) texts = []
closing None texts = closing_line (characters_in texts)

-- what is printed, and the fault of the pool, if it has one
pub record Listing : Type 0 where
  pub text : List ℕ
  pub fault : Option Fault

-- the listing of strings: the first 256, which are the bytes, and those that were read
abbrev pub listing_of : PoolRead → Listing
listing_of read =
    let texts = byte_strings 256 ++ read.strings in
    record { text = entries_from 0 texts ++ closing read.fault texts; fault = read.fault }

-- the listing of a pool; of one with too many bytes nothing is printed
unfoldable pub listing : List ℕ → Listing
listing pool =
    if nat_lt FILE_LIMIT (length pool)
    then record { text = []; fault = Some (limit_passed LIMIT_FILE_BYTES (pool_place 0)) }
    else listing_of (read_pool pool)

-- how the call that lists a pool ended, by what a sink held before and now: at the end or at a fault the sink got the
-- whole text, and at a failed call a prefix of it; no call fails where nothing is to be printed
abbrev pub Lists : {T : Type 0} → Listing → Result T PoolTypeErr → Option (List ℕ) → Option (List ℕ) → Type 0
Lists wanted (Ok value) before now = (wanted.fault ≡ None) × Gains wanted.text before now
Lists wanted (Err (of_pool fault)) before now = (wanted.fault ≡ Some fault) × Gains wanted.text before now
Lists wanted (Err Failed) before now = (wanted.text ≢ []) × GainsPrefix wanted.text before now

-- whether the call was ended by a failed call on its sink
abbrev pub is_failed_listing : {T : Type 0} → Result T PoolTypeErr → Bool
is_failed_listing (Ok value) = false
is_failed_listing (Err (of_pool fault)) = false
is_failed_listing (Err Failed) = true
