-- What a sink over the open file of a shelf keeps in mind of the shelf and of the copy as they were when the sink was
-- made. No public contract cites this.
use Rattle.std.specs.Prelude.{◌≡◌, ℕ, ◌<◌, List, [], take, Bool, false, true, Option, Some, None, is_some, IfSome}
use Rattle.std.specs.Option.{option_and_then}
use Rattle.wb_ports.specs.Held.{WhereTold}
use Rattle.wb_ports.specs.Files.{Files, SameOthers, AppendsTo, Loads}
use Rattle.wb_ports.specs.declared.shelf.FailedCall.{FailedCall}
use Rattle.wb_ports.specs.declared.shelf.ShelfCall.TheVariants.{Write}
use Rattle.wb_ports.specs.Counts.{Rose, CountsFailure}
use Rattle.tangle_core.specs.declared.job.TextCopy.{TextCopy}
use Rattle.tangle_core.specs.inner.Writing.{FillsUnfinished}

-- a shelf: its files, the name of its open file, its count of failed calls, and the call that failed last
pub record ShelfSeen : Type 0 where
  pub files : Option Files
  pub open_name : List ℕ
  pub faults : ℕ
  pub last_failure : Option FailedCall

-- both
pub record Seen : Type 0 where
  pub shelf : ShelfSeen
  pub copy : TextCopy

-- a shelf as it is
abbrev pub shelf_now : Option Files → List ℕ → ℕ → Option FailedCall → ShelfSeen
shelf_now files open_name faults last_failure =
    record { files = files; open_name = open_name; faults = faults; last_failure = last_failure }

-- both as they are
abbrev pub seen_now : Option Files → List ℕ → ℕ → Option FailedCall → TextCopy → Seen
seen_now files open_name faults last_failure copy =
    record { shelf = shelf_now files open_name faults last_failure; copy = copy }

-- what the open file holds, where the shelf tells its files
abbrev pub held_by : Option Files → List ℕ → Option (List ℕ)
held_by files name = option_and_then (λ (all : Files). all name) files

-- the shelf and the copy, of so many bytes at most, after this many failed writes of the open file
pub record KeepsInMind (limit : ℕ) (seen : Seen) (shelf : ShelfSeen) (copy : TextCopy) (failures : ℕ) : Type 0 where
  pub told : is_some shelf.files ≡ is_some seen.shelf.files
  pub same_name : (files : Files) → shelf.files ≡ Some files → shelf.open_name ≡ seen.shelf.open_name
  pub others : (before files : Files) → seen.shelf.files ≡ Some before → shelf.files ≡ Some files
      → SameOthers seen.shelf.open_name before files
  pub there : (files : Files) → shelf.files ≡ Some files → is_some (files shelf.open_name) ≡ true
  pub none_failed : failures ≡ 0 → shelf.faults ≡ seen.shelf.faults
  pub some_failed : 0 < failures → Rose seen.shelf.faults shelf.faults
  pub last : 0 < failures → (files : Files) → shelf.files ≡ Some files
      → shelf.last_failure ≡ Some (record { call = Write; name = seen.shelf.open_name })
  pub unwanted : seen.copy.wanted ≡ false → copy ≡ seen.copy
  pub wanted : copy.wanted ≡ seen.copy.wanted
  pub kept : copy.wanted ≡ true → copy.refused ≡ false → failures ≡ 0 → (files : Files) → shelf.files ≡ Some files
      → (bytes : List ℕ) → files shelf.open_name ≡ Some bytes → copy.kept ≡ take limit bytes

-- a copy that is wanted and was not refused has nothing yet
abbrev pub IsReady : TextCopy → Type 0
IsReady copy = copy.wanted ≡ true → copy.refused ≡ false → copy.kept ≡ []

-- the open file is there and empty, where the shelf tells its files
abbrev pub StandsEmpty : Option Files → List ℕ → Type 0
StandsEmpty files name = (all : Files) → files ≡ Some all → all name ≡ Some []

-- this text was written to the open file, which stays open; or a write failed, after which a prefix of it stands
pub record Fills (text : List ℕ) (is_failed : Bool) (before now : ShelfSeen) : Type 0 where
  pub written : is_failed ≡ false → WhereTold (AppendsTo before.open_name text) before.files now.files
  pub unfinished : is_failed ≡ true
      → WhereTold (FillsUnfinished before.open_name text now.last_failure) before.files now.files
  pub same_name : IfSome now.files (λ files. now.open_name ≡ before.open_name)
  pub cause : CountsFailure is_failed before.faults now.faults

-- the copy was filled too, if it is wanted
pub record Copies (is_failed : Bool) (before now : TextCopy) (name : List ℕ) (files : Option Files) : Type 0 where
  pub unwanted : before.wanted ≡ false → now ≡ before
  pub wanted : now.wanted ≡ before.wanted
  pub kept : is_failed ≡ false → before.wanted ≡ true → now.refused ≡ false
      → IfSome files (λ all. Loads all name now.kept)
