-- What a file is left as that was written, and one whose writing failed.
use Rattle.std.specs.Prelude.{◌≡◌, ◌⊎◌, ℕ, List, take, Option, Some, IsSomeAnd}
use Rattle.wb_ports.specs.declared.shelf.FailedCall.{FailedCall}
use Rattle.wb_ports.specs.declared.shelf.ShelfCall.{ShelfCall}
use Rattle.wb_ports.specs.declared.shelf.ShelfCall.TheVariants.{Load, Create, Write, Close}
use Rattle.wb_ports.specs.Files.{Files, SameOthers, EmptiesOrKeeps, AppendsPrefixTo}

-- the file is there with just its bytes, and every other is as it was
pub record LeavesFile (name bytes : List ℕ) (before now : Files) : Type 0 where
  pub holds : now name ≡ Some bytes
  pub others : SameOthers name before now

-- the file holds a prefix of its bytes, and every other is as it was
abbrev pub HoldsPrefix : List ℕ → List ℕ → Files → Files → Type 0
HoldsPrefix name bytes before now = (n : ℕ) × LeavesFile name (take n bytes) before now

-- what a failed call leaves of the file: it is as it was or empty where its creation failed, else it holds a prefix of
-- its bytes
abbrev pub LeftBy : ShelfCall → List ℕ → List ℕ → Files → Files → Type 0
LeftBy Load name bytes before now = ⊥
LeftBy Create name bytes before now = EmptiesOrKeeps name before now
LeftBy Write name bytes before now = HoldsPrefix name bytes before now
LeftBy Close name bytes before now = HoldsPrefix name bytes before now

-- the call that failed last is one on this file, and left the files so
pub record WriteFails (name bytes : List ℕ) (failed : FailedCall) (before now : Files) : Type 0 where
  pub same_name : failed.name ≡ name
  pub left : LeftBy failed.call name bytes before now

abbrev pub WritesUnfinished : List ℕ → List ℕ → Option FailedCall → Files → Files → Type 0
WritesUnfinished name bytes last before now = IsSomeAnd last (λ failed. WriteFails name bytes failed before now)

-- the call that failed last wrote the open file of this name or closed it, and a prefix of the bytes was appended
pub record FillFails (name bytes : List ℕ) (failed : FailedCall) (before now : Files) : Type 0 where
  pub same_name : failed.name ≡ name
  pub call : (failed.call ≡ Write) ⊎ (failed.call ≡ Close)
  pub prefix : AppendsPrefixTo name bytes before now

abbrev pub FillsUnfinished : List ℕ → List ℕ → Option FailedCall → Files → Files → Type 0
FillsUnfinished name bytes last before now = IsSomeAnd last (λ failed. FillFails name bytes failed before now)
