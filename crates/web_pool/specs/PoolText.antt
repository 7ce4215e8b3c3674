-- The text of a pool. Its form is TANGLE's (WEB report, pool files), but that its last line ends in nine zeros is this
-- project's own.
use Rattle.std.specs.Prelude.{ℕ, ◌+◌, ◌/◌, ◌%◌, List, [], ◌∷◌, ◌++◌, codes, length}
use Rattle.std.specs.List.{flat_map}

-- a number below 100 as two digits
abbrev pub two_digits : ℕ → List ℕ
two_digits n = (48 + n / 10) ∷ (48 + n % 10) ∷ []

-- the line of a string: its length as two digits, and its bytes
abbrev pub pool_line : List ℕ → List ℕ
pool_line text = two_digits (length text) ++ text ++ 10 ∷ []

-- the text of the pool with these strings, which is empty where there are none
unfoldable pub pool_text : List (List ℕ) → List ℕ
pool_text [] = []
pool_text (text ∷ texts) = flat_map pool_line (text ∷ texts) ++ codes "*000000000\n"
