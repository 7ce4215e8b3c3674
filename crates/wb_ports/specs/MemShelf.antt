-- A shelf in memory, as its clauses see it. This project's own.
use Rattle.std.specs.Prelude.{◌≡◌, ℕ, ◌+◌, ◌-◌, List, [], ◌∷◌, ◌++◌, take, length, nat_lt, Bool}
use Rattle.std.specs.Prelude.{true, false, ◌||◌, if◌then◌else◌, Option, Some, None, is_none, Result, Ok}
use Rattle.std.specs.Prelude.{Err, ⊤}
use Rattle.std.specs.Str.{bytes_eq}
use Rattle.wb_ports.specs.Files.{Files, SameOthers}
use Rattle.wb_ports.specs.InMemory.{Calls, is_next_listed, after_call as after_counted}
use Rattle.wb_ports.specs.declared.answers.PortErr.{PortErr}
use Rattle.wb_ports.specs.declared.answers.PortErr.TheVariants.{Failed, OutOfMemory}
use Rattle.wb_ports.specs.declared.shelf.FailedCall.{FailedCall}
use Rattle.wb_ports.specs.declared.shelf.ShelfCall.{ShelfCall}

-- the files by name and bytes, whether the first of them is open, the call that failed last, how many bytes each
-- written file has room for, and its calls
pub record ShelfState : Type 0 where
  pub files : List (List ℕ × List ℕ)
  pub is_open : Bool
  pub last_failure : Option FailedCall
  pub room : ℕ
  pub calls : Calls

-- what the file of this name holds, if there is one; of two of one name the first counts
abbrev pub file_of : List (List ℕ × List ℕ) → Files
file_of [] name = None
file_of (file ∷ files) name = if bytes_eq file.0 name then Some file.1 else file_of files name

-- the file is there with these bytes, and every other is as it was
pub record PutsFile (name bytes : List ℕ) (before now : Files) : Type 0 where
  pub holds : now name ≡ Some bytes
  pub others : SameOthers name before now

-- whether a load of this name fails
abbrev pub fails_to_load : ShelfState → List ℕ → Bool
fails_to_load shelf name = is_next_listed shelf.calls || is_none (file_of shelf.files name)

-- the name of the first file
abbrev pub first_name : List (List ℕ × List ℕ) → List ℕ
first_name [] = []
first_name (file ∷ files) = file.0

-- how many bytes the first file has
abbrev pub first_length : List (List ℕ × List ℕ) → ℕ
first_length [] = 0
first_length (file ∷ files) = length file.1

-- the files with more bytes at the end of the first
abbrev pub with_more : List ℕ → List (List ℕ × List ℕ) → List (List ℕ × List ℕ)
with_more more [] = []
with_more more (file ∷ files) = (file.0, file.1 ++ more) ∷ files

-- the name of the open file
abbrev pub open_name_of : ShelfState → List ℕ
open_name_of shelf = first_name shelf.files

-- whether a write of the piece fails: its call is listed, or the piece passes the room
abbrev pub fails_to_write : ShelfState → List ℕ → Bool
fails_to_write shelf piece = is_next_listed shelf.calls || nat_lt shelf.room (first_length shelf.files + length piece)

-- what a write appends of the piece: what fits, but nothing where the call is listed
abbrev pub appended : ShelfState → List ℕ → List ℕ
appended shelf piece = if is_next_listed shelf.calls then [] else take (shelf.room - first_length shelf.files) piece

-- a call that takes memory too fails exactly where this is true, unless it finds no memory
abbrev pub FailsExactly : {T : Type 0} → Result T PortErr → Bool → Type 0
FailsExactly (Ok value) fails = fails ≡ false
FailsExactly (Err Failed) fails = fails ≡ true
FailsExactly (Err OutOfMemory) fails = ⊤

-- the shelf after a call that failed or did not, but for its files and the open one
abbrev pub after_call : Bool → ShelfCall → List ℕ → ShelfState → ShelfState
after_call false call name shelf = record shelf { calls = after_counted false shelf.calls }
after_call true call name shelf = record shelf {
  calls = after_counted true shelf.calls;
  last_failure = Some (record { call = call; name = name });
}
