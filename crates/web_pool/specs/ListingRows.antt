-- The definitions of what is read of a pool and of the lines of its listing, at work on short texts.
use Rattle.std.specs.Prelude.{◌≡◌, [], ◌∷◌, codes, Some, None, refl}
use Rattle.std.specs.Fmt.{digits}
use Rattle.wb_base.specs.FaultAt.{fault_at}
use Rattle.wb_base.specs.declared.faults.TheConstants.{BAD_POOL_LENGTH, POOL_LINE_TOO_SHORT, BAD_LAST_LINE}
use Rattle.web_pool.specs.PoolLines.{PoolRead, fails_at, read_from, read_pool, pool_place}
use Rattle.web_pool.specs.Listing.{entry, characters_in, closing_line}

-- one string, and then the end of the pool
abbrev reads_ab : PoolRead
reads_ab = record { strings = codes "ab" ∷ []; fault = None }

-- one string, and then a fault of the last line
abbrev ends_badly : PoolRead
ends_badly = record { strings = codes "ab" ∷ []; fault = Some (fault_at BAD_LAST_LINE (pool_place 2)) }

pub whole_pool : read_pool (codes "02ab\n*000000000\n") ≡ reads_ab
unfolding read_from
whole_pool = refl

-- any nine digits will do, and what follows them or the string is passed
pub other_digits : read_pool (codes "02abc\n*1234567890") ≡ reads_ab
unfolding read_from
other_digits = refl

pub eight_digits : read_pool (codes "02ab\n*12345678\n") ≡ ends_badly
unfolding read_from
eight_digits = refl

pub no_last_line : read_pool (codes "02ab") ≡ ends_badly
unfolding read_from
no_last_line = refl

pub no_lines : read_pool [] ≡ fails_at (fault_at BAD_LAST_LINE (pool_place 1))
unfolding read_from
no_lines = refl

pub one_digit : read_pool (codes "0") ≡ fails_at (fault_at BAD_POOL_LENGTH (pool_place 1))
unfolding read_from
one_digit = refl

-- nothing is trimmed
pub blank_before : read_pool (codes " 2ab\n") ≡ fails_at (fault_at BAD_POOL_LENGTH (pool_place 1))
unfolding read_from
blank_before = refl

pub too_few_bytes : read_pool (codes "02a\n") ≡ fails_at (fault_at POOL_LINE_TOO_SHORT (pool_place 1))
unfolding read_from
too_few_bytes = refl

-- lines of a listing
pub line_of_0 : entry 0 (0 ∷ []) ≡ codes "  0: \"^^@\"\n"
unfolding entry digits
line_of_0 = refl

pub line_of_34 : entry 34 (34 ∷ []) ≡ codes " 34: \"\"\"\"\n"
unfolding entry digits
line_of_34 = refl

pub line_of_127 : entry 127 (127 ∷ []) ≡ codes "127: \"^^?\"\n"
unfolding entry digits
line_of_127 = refl

pub line_of_255 : entry 255 (255 ∷ []) ≡ codes "255: \"^^ff\"\n"
unfolding entry digits
line_of_255 = refl

pub line_of_ab : entry 256 (codes "ab") ≡ codes "256: \"ab\"\n"
unfolding entry digits
line_of_ab = refl

-- a quote counts as one character, though it is doubled
pub characters_of_quotes : characters_in ((34 ∷ []) ∷ codes "a\"b" ∷ (200 ∷ []) ∷ []) ≡ 8
characters_of_quotes = refl

pub last_line_of_listing : closing_line 708 ≡ codes "(708 characters in all.)\n"
unfolding closing_line digits
last_line_of_listing = refl
