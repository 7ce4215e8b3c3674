-- The strings of a web that stand in double quotes, and the pool that they make. That a string of one byte is its code,
-- and every other one a number from 256 on by its first appearance, is WEB's (tangle.web, "Tokenizing"); the limits are
-- this project's own.
use Rattle.std.specs.Prelude.{ℕ, ◌+◌, ◌==◌, nat_lt, not, if◌then◌else◌, List, [], ◌∷◌, ◌++◌, length, filter, position}
use Rattle.std.specs.Prelude.{Option, Some, None, Result, Ok, Err, ⊤}
use Rattle.std.specs.Str.{bytes_eq}
use Rattle.web_pool.specs.declared.pool.TheConstants.{LONGEST_STRING, FIRST_NUMBER, LAST_NUMBER}
use Rattle.web_pool.specs.declared.refusals.PoolErr.{PoolErr}
use Rattle.web_pool.specs.declared.refusals.PoolErr.TheVariants.{TooLong, Full, OutOfMemory}

-- the strings of a pool, from the list of all strings in double quotes: those whose length is not one, each where it
-- first appears
unfoldable pub strings_of : List (List ℕ) → List (List ℕ)
strings_of [] = []
strings_of (text ∷ texts) =
    if length text == 1 then strings_of texts
    else text ∷ filter (λ other. not (bytes_eq text other)) (strings_of texts)

-- the number of a new string, which is the next of the pool, and the strings after it
abbrev pub numbered_last : List ℕ → List (List ℕ) → Result (ℕ × List (List ℕ)) PoolErr
numbered_last text strings =
    if nat_lt LAST_NUMBER (FIRST_NUMBER + length strings) then Err Full
    else Ok (FIRST_NUMBER + length strings, strings ++ text ∷ [])

-- the number of a string that has this place in the pool, or is new, and the strings after it
abbrev pub numbered_at : Option ℕ → List ℕ → List (List ℕ) → Result (ℕ × List (List ℕ)) PoolErr
numbered_at (Some place) text strings = Ok (FIRST_NUMBER + place, strings)
numbered_at None text strings = numbered_last text strings

-- the number of a string in double quotes, and the strings of the pool after it, or its refusal
unfoldable pub numbered : List ℕ → List (List ℕ) → Result (ℕ × List (List ℕ)) PoolErr
numbered (byte ∷ []) strings = Ok (byte, strings)
numbered text strings =
    if nat_lt LONGEST_STRING (length text) then Err TooLong
    else numbered_at (position (bytes_eq text) strings) text strings

-- where the answer is a refusal of the string, this holds of it; want of memory is the one free answer
abbrev pub IfRefused : {T : Type 0} → Result T PoolErr → (PoolErr → Type 0) → Type 0
IfRefused (Ok value) P = ⊤
IfRefused (Err TooLong) P = P TooLong
IfRefused (Err Full) P = P Full
IfRefused (Err OutOfMemory) P = ⊤
