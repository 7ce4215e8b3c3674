-- The files of a shelf by their names, and what the calls of a shelf make of them. This project's own.
use Rattle.std.specs.Prelude.{◌≡◌, ◌≢◌, ◌⊎◌, ℕ, List, [], ◌++◌, take, Bool, true, false, Option, Some, None}
use Rattle.std.specs.Prelude.{MatchOption, ⊤}
use Rattle.wb_ports.specs.declared.shelf.FailedCall.{FailedCall}
use Rattle.wb_ports.specs.declared.shelf.ShelfCall.{ShelfCall}
use Rattle.wb_ports.specs.declared.shelf.TheConstants.{LOAD_LIMIT}

-- what the file of each name holds, if there is one
abbrev pub Files : Type 0
Files = List ℕ → Option (List ℕ)

-- the text is what is loaded of the file: its bytes, but at most the first LOAD_LIMIT of them
abbrev pub Loads : Files → List ℕ → List ℕ → Type 0
Loads files name text = MatchOption (files name) ⊥ (λ bytes. text ≡ take LOAD_LIMIT bytes)

-- every file is as it was
abbrev pub SameFiles : Files → Files → Type 0
SameFiles before now = (name : List ℕ) → now name ≡ before name

-- every file but this one is as it was
abbrev pub SameOthers : List ℕ → Files → Files → Type 0
SameOthers name before now = (other : List ℕ) → other ≢ name → now other ≡ before other

-- the file is there and empty, and every other is as it was
pub record Empties (name : List ℕ) (before now : Files) : Type 0 where
  pub empty : now name ≡ Some []
  pub others : SameOthers name before now

-- what a failed creation leaves: the file as it was or empty, and every other as it was
pub record EmptiesOrKeeps (name : List ℕ) (before now : Files) : Type 0 where
  pub empty_or_kept : (now name ≡ Some []) ⊎ (now name ≡ before name)
  pub others : SameOthers name before now

-- the file is there and has the piece at its end now, and every other is as it was
pub record AppendsTo (name piece : List ℕ) (before now : Files) : Type 0 where
  pub bytes : List ℕ
  pub held : before name ≡ Some bytes
  pub holds : now name ≡ Some (bytes ++ piece)
  pub others : SameOthers name before now

-- what a failed write leaves: a prefix of the piece was appended
abbrev pub AppendsPrefixTo : List ℕ → List ℕ → Files → Files → Type 0
AppendsPrefixTo name piece before now = (n : ℕ) × AppendsTo name (take n piece) before now

-- what a call on this file makes of the last failed call, where the shelf tells its files: one that failed is it now
abbrev pub KeepsLastFailure :
    Option Files → ShelfCall → List ℕ → Bool → Option FailedCall → Option FailedCall → Type 0
KeepsLastFailure None call name failed before now = ⊤
KeepsLastFailure (Some files) call name true before now = now ≡ Some (record { call = call; name = name })
KeepsLastFailure (Some files) call name false before now = now ≡ before
