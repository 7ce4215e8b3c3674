-- The lines of a pool, and the strings that they hold. The form of a pool is TANGLE's (WEB report); the faults, and
-- that any nine digits may stand in the last line, are this project's own.
use Rattle.std.specs.Prelude.{ℕ, ◌+◌, ◌-◌, ◌*◌, ◌==◌, ◌&&◌, nat_lt, nat_le, Bool, if◌then◌else◌, List, [], ◌∷◌}
use Rattle.std.specs.Prelude.{length, take, Option, Some, None, Result, Ok, Err}
use Rattle.std.specs.Char.{is_ascii_digit}
use Rattle.std.specs.List.{list_all}
use Rattle.wb_base.specs.FaultAt.{fault_at, limit_passed}
use Rattle.wb_base.specs.Pieces.{pieces_of}
use Rattle.wb_base.specs.declared.faults.Fault.{Fault}
use Rattle.wb_base.specs.declared.faults.TheConstants.{BAD_POOL_LENGTH, POOL_LINE_TOO_SHORT, BAD_LAST_LINE}
use Rattle.wb_base.specs.declared.faults.TheConstants.{LIMIT_STRINGS}
use Rattle.wb_base.specs.declared.places.FileTag.TheVariants.{Pool}
use Rattle.wb_base.specs.declared.places.Place.{Place}
use Rattle.web_pool.specs.declared.pool.TheConstants.{FIRST_NUMBER, LAST_NUMBER}

-- the line of this number, from 1, of a pool
abbrev pub pool_place : ℕ → Place
pool_place line = record { file = Pool; line = line }

-- the first bytes, so many, or the fault of too few
abbrev pub first_bytes : ℕ → List ℕ → Result (List ℕ) ℕ
first_bytes count bytes = if nat_lt (length bytes) count then Err POOL_LINE_TOO_SHORT else Ok (take count bytes)

-- the string of a line: so many bytes as the two digits tell that stand before it; what follows is passed. Or the
-- number of the fault of the line
abbrev pub string_in : List ℕ → Result (List ℕ) ℕ
string_in [] = Err BAD_POOL_LENGTH
string_in (tens ∷ []) = Err BAD_POOL_LENGTH
string_in (tens ∷ (units ∷ bytes)) =
    if is_ascii_digit tens && is_ascii_digit units then first_bytes (10 * (tens - 48) + (units - 48)) bytes
    else Err BAD_POOL_LENGTH

-- the strings of a pool, up to its last line or to the fault that comes before that
pub record PoolRead : Type 0 where
  pub strings : List (List ℕ)
  pub fault : Option Fault

-- a fault before any string
abbrev pub fails_at : Fault → PoolRead
fails_at fault = record { strings = []; fault = Some fault }

-- a string, and then what is read after it
abbrev pub string_then : List ℕ → PoolRead → PoolRead
string_then text read = record { strings = text ∷ read.strings; fault = read.fault }

-- whether these bytes begin with nine digits
abbrev pub has_nine_digits : List ℕ → Bool
has_nine_digits bytes = nat_le 9 (length bytes) && list_all is_ascii_digit (take 9 bytes)

-- the last line, which has nine digits directly after its asterisk; what follows them is passed
abbrev pub last_line : ℕ → List ℕ → PoolRead
last_line line bytes =
    if has_nine_digits bytes then record { strings = []; fault = None }
    else fails_at (fault_at BAD_LAST_LINE (pool_place line))

-- the string of the line of this number and what is read after it; or its fault, or that of a number past the last
abbrev pub string_at : ℕ → Result (List ℕ) ℕ → PoolRead → PoolRead
string_at line (Err code) read = fails_at (fault_at code (pool_place line))
string_at line (Ok text) read =
    if nat_lt LAST_NUMBER (FIRST_NUMBER + (line - 1)) then fails_at (limit_passed LIMIT_STRINGS (pool_place line))
    else string_then text read

-- what stands after the asterisk with which a last line begins; none in another line
abbrev pub after_asterisk : List ℕ → Option (List ℕ)
after_asterisk [] = None
after_asterisk (byte ∷ bytes) = if byte == 42 then Some bytes else None

-- what is read from a line on, which is the last line or has a string, and what is read after it
abbrev pub read_line : ℕ → List ℕ → Option (List ℕ) → PoolRead → PoolRead
read_line line text (Some bytes) read = last_line line bytes
read_line line text None read = string_at line (string_in text) read

-- what is read of the lines of a pool from the one of this number on
unfoldable pub read_from : ℕ → List (List ℕ) → PoolRead
read_from line [] = fails_at (fault_at BAD_LAST_LINE (pool_place line))
read_from line (text ∷ texts) = read_line line text (after_asterisk text) (read_from (line + 1) texts)

-- what is read of a pool
abbrev pub read_pool : List ℕ → PoolRead
read_pool pool = read_from 1 (pieces_of pool)
