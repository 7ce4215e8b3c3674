-- What the program does, in its order: a tree of work over the files of the shelf, the console and the ports. How a run
-- of it ends by itself, and how a run stops on the way. This project's own.
use Rattle.std.specs.Prelude.{◌≡◌, ◌≢◌, ◌⊎◌, ℕ, List, [], ◌++◌, length, map, take, Contains, Option, Some, None}
use Rattle.std.specs.Prelude.{if◌then◌else◌, option_map, MatchOption, OnSome}
use Rattle.std.specs.Str.{bytes_eq}
use Rattle.wb_ports.specs.Held.{WhereTold, Gains}
use Rattle.wb_ports.specs.Files.{Files, SameFiles}
use Rattle.wb_ports.specs.PortState.{PortState}
use Rattle.wb_ports.specs.declared.shelf.FailedCall.{FailedCall}
use Rattle.wb_ports.specs.declared.shelf.ShelfCall.{ShelfCall}
use Rattle.wb_ports.specs.declared.shelf.ShelfCall.TheVariants.{Load, Create, Write, Close}
use Rattle.wb_ports.specs.declared.shelf.TheConstants.{LOAD_LIMIT}

-- what is left: a file with its name and bytes, or a text on the console
pub data Act : Type 0 where
  leaves : List ℕ → List ℕ → Act
  prints : List ℕ → Act

-- how the run of a program ends: it halts with a status, it goes on at its bound of steps, it commits the error of a
-- kind, or its calls nest too deep
pub data RunEnd : Type 0 where
  halted : ℕ → RunEnd
  going : RunEnd
  error : ℕ → RunEnd
  too_deep : RunEnd

-- what a run leaves of a port: its name, its bytes, how often it was finished and how often started
pub record Played : Type 0 where
  pub name : List ℕ
  pub bytes : List ℕ
  pub finishes : ℕ
  pub starts : ℕ

-- a run over ports: how it ends, what it leaves of each, and the bytes of all at each moment on its way
pub record Play : Type 0 where
  pub ending : RunEnd
  pub ports : List Played
  pub moments : List (List (List ℕ))

-- what is done: a file is loaded by its name, and the work goes on with what is loaded of it; the ports are counted; a
-- program is run over the first ports, so many, and the others are dropped; something is left; or the work ends with a
-- status. Of work that is not known nothing is said.
pub data Work : Type 0 where
  loads : List ℕ → (List ℕ → Work) → Work
  asks : (ℕ → Work) → Work
  plays : ℕ → (List PortState → Play) → (RunEnd → Work) → Work
  does : Act → Work → Work
  ends : ℕ → Work
  unknown : Work

-- what the files, the console and each of the ports hold, where that is told
pub record World : Type 0 where
  pub files : Option Files
  pub console : Option (List ℕ)
  pub ports : List (Option PortState)

-- the files with these bytes as the file of this name
abbrev pub with_file : List ℕ → List ℕ → Files → Files
with_file name bytes files other = if bytes_eq other name then Some bytes else files other

-- the world after an act
abbrev pub after : Act → World → World
after (leaves name bytes) world = record world { files = option_map (with_file name bytes) world.files }
after (prints text) world = record world { console = option_map (λ held. held ++ text) world.console }

-- the world with these ports
abbrev pub with_ports : List (Option PortState) → World → World
with_ports ports world = record world { ports = ports }

-- an act that was cut after n bytes
abbrev pub prefix : ℕ → Act → Act
prefix n (leaves name bytes) = leaves name (take n bytes)
prefix n (prints text) = prints (take n text)

-- the outside holds now what this world does
pub record IsNow (world now : World) : Type 0 where
  pub files : WhereTold SameFiles world.files now.files
  pub console : Gains [] world.console now.console
  pub ports : now.ports ≡ world.ports

-- this holds of what is loaded of the file, which is there; where the files are not told, it holds of some bytes
abbrev pub OfLoaded : Option Files → List ℕ → (List ℕ → Type 0) → Type 0
OfLoaded None name P = (bytes : List ℕ) × P bytes
OfLoaded (Some files) name P = MatchOption (files name) ⊥ (λ bytes. P (take LOAD_LIMIT bytes))

-- what is left of a port that tells this
abbrev pub played : PortState → Played
played port = record { name = port.name; bytes = port.bytes; finishes = port.finishes; starts = port.starts }

-- the first ports told this before
abbrev pub Told : ℕ → List (Option PortState) → List PortState → Type 0
Told count before told = take count before ≡ map Some told

-- a run over the first ports, so many, ended so; these are the ports now
pub record PlaysTo (count : ℕ) (play : List PortState → Play) (before : List (Option PortState)) (found : RunEnd)
    (now : List (Option PortState)) : Type 0 where
  pub number : length now ≡ count
  pub ending : (told : List PortState) → Told count before told → found ≡ (play told).ending
  pub ports : (told : List PortState) → Told count before told
      → map (option_map played) now ≡ map Some (play told).ports

-- work from the world before ended by itself with this status, and left the world as it is now
unfoldable pub Ends : Work → ℕ → World → World → Type 0
Ends (loads name next) status before now = OfLoaded before.files name (λ bytes. Ends (next bytes) status before now)
Ends (asks next) status before now = Ends (next (length before.ports)) status before now
Ends (plays count play next) status before now =
    (ending : RunEnd) × (ports : List (Option PortState)) × PlaysTo count play before.ports ending ports
    × Ends (next ending) status (with_ports ports before) now
Ends (does act next) status before now = Ends next status (after act before) now
Ends (ends done) status before now = (status ≡ done) × IsNow before now
Ends unknown status before now = ⊥

-- what stopped a run: a call of the shelf that failed, the last of those where the shelf tells; a call of the console
-- that failed; a call of a port that failed; or memory that was not found
pub data Cause : Type 0 where
  by_shelf : Option FailedCall → Cause
  by_console : Cause
  by_port : Cause
  by_memory : Cause

-- the last failed call is this one on the file of this name, where the files are told
abbrev pub IsLastFailure : World → List ℕ → Option FailedCall → ShelfCall → Type 0
IsLastFailure before name last call = OnSome before.files (last ≡ Some (record { call = call; name = name }))

-- what stops a load: the load itself, or memory; nothing has changed
abbrev pub StopsLoad : List ℕ → Cause → World → World → Type 0
StopsLoad name (by_shelf last) before now = IsLastFailure before name last Load × IsNow before now
StopsLoad name by_console before now = ⊥
StopsLoad name by_port before now = ⊥
StopsLoad name by_memory before now = IsNow before now

-- a prefix of the act stands
abbrev pub LeavesPrefix : Act → World → World → Type 0
LeavesPrefix act before now = (n : ℕ) × IsNow (after (prefix n act) before) now

-- what a failed call leaves of a file that is to be left: it is as it was or empty where its creation failed, else it
-- has a prefix of its bytes
abbrev pub LeavesUnfinished : ShelfCall → Act → World → World → Type 0
LeavesUnfinished Load act before now = ⊥
LeavesUnfinished Create act before now = IsNow before now ⊎ IsNow (after (prefix 0 act) before) now
LeavesUnfinished Write act before now = LeavesPrefix act before now
LeavesUnfinished Close act before now = LeavesPrefix act before now

-- what stops an act: a call on its file, the console at a text that is not empty, or memory, which is only wanted
-- before an act begins
abbrev pub StopsAct : Act → Cause → World → World → Type 0
StopsAct (leaves name bytes) (by_shelf last) before now =
    (call : ShelfCall) × IsLastFailure before name last call × LeavesUnfinished call (leaves name bytes) before now
StopsAct (leaves name bytes) by_console before now = ⊥
StopsAct (prints text) (by_shelf last) before now = ⊥
StopsAct (prints text) by_console before now = (text ≢ []) × LeavesPrefix (prints text) before now
StopsAct act by_port before now = ⊥
StopsAct act by_memory before now = IsNow before now

-- a run was cut off: its ports hold what they held at a moment on its way
pub record IsCutOff (count : ℕ) (play : List PortState → Play) (before now : List (Option PortState)) : Type 0 where
  pub number : length now ≡ count
  pub moment : (told : List PortState) → Told count before told
      → (bytes : List (List ℕ)) × Contains (play told).moments bytes
      × (map (option_map (λ port. port.bytes)) now ≡ map Some bytes)

-- what stops a run over the first ports, so many: a call of one of them, or memory; of what the ports hold then nothing
-- is said. All else is as it was.
abbrev pub StopsPlay : ℕ → (List PortState → Play) → Cause → World → World → Type 0
StopsPlay count play (by_shelf last) before now = ⊥
StopsPlay count play by_console before now = ⊥
StopsPlay count play by_port before now =
    IsNow (with_ports now.ports before) now × IsCutOff count play before.ports now.ports
StopsPlay count play by_memory before now =
    IsNow (with_ports now.ports before) now × ((now.ports ≡ before.ports) ⊎ (length now.ports ≡ count))

-- work from the world before was stopped by this cause, and left the world as it is now: all that comes earlier was
-- done whole, and nothing later was begun
unfoldable pub Stops : Work → Cause → World → World → Type 0
Stops (loads name next) cause before now =
    StopsLoad name cause before now ⊎ OfLoaded before.files name (λ bytes. Stops (next bytes) cause before now)
Stops (asks next) cause before now = Stops (next (length before.ports)) cause before now
Stops (plays count play next) cause before now =
    StopsPlay count play cause before now
    ⊎ ((ending : RunEnd) × (ports : List (Option PortState)) × PlaysTo count play before.ports ending ports
    × Stops (next ending) cause (with_ports ports before) now)
Stops (does act next) cause before now = StopsAct act cause before now ⊎ Stops next cause (after act before) now
Stops (ends done) cause before now = ⊥
Stops unknown cause before now = ⊥
