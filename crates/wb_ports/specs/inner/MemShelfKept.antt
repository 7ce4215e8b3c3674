-- How a shelf in memory keeps its files. No public contract cites this.
use Rattle.std.specs.Prelude.{◌≡◌, ℕ, ◌≤◌, List, map, length, slice_get, Option, Some, option_map, vec_len}
use Rattle.std.specs.Prelude.{vec_capacity}
use Rattle.wb_ports.specs.declared.shelf.FailedCall.{FailedCall}
use Rattle.wb_ports.specs.declared.mem_shelf.MemFile.{MemFile}
use Rattle.wb_ports.specs.declared.mem_shelf.LastFailure.{LastFailure}

-- the files of a shelf as its clauses see them
abbrev pub files_in : List MemFile → List (List ℕ × List ℕ)
files_in files = map (λ file. (file.name, file.bytes.items)) files

-- the call that failed last, as the clauses of a shelf see it
abbrev pub last_failure_in : LastFailure → Option FailedCall
last_failure_in kept = option_map (λ call. record { call = call; name = kept.name.items }) kept.call

-- the first file has this much room, all of it reserved, and its name fits in this capacity
pub record IsWritable (room name_capacity : ℕ) (files : List MemFile) : Type 0 where
  pub file : MemFile
  pub first : slice_get files 0 ≡ Some file
  pub reserved : room ≤ vec_capacity file.bytes
  pub within : vec_len file.bytes ≤ room
  pub name_fits : length file.name ≤ name_capacity
