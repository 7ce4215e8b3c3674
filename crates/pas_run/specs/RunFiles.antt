-- How the files of a run are kept: each is read through a port, byte by byte, with one byte looked at before it is
-- passed. This project's own.
use Rattle.std.specs.Prelude.{◌≡◌, ◌⊎◌, ◌≤◌, ℕ, suc, ℤ, nat_abs, List, [], ◌∷◌, ◌++◌, length, take, slice_get, Option}
use Rattle.std.specs.Prelude.{Some, None}
use Rattle.std.specs.Prelude.{⊤, Bool, true, false, ◌==◌, if◌then◌else◌, Result, Ok, Err}
use Rattle.std.specs.List.{last_or}
use Rattle.wb_ports.specs.PortState.{PortState}
use Rattle.wb_ports.specs.Counts.{grown}
use Rattle.pas_meaning.specs.Answers.{Answer, fine, wrong}
use Rattle.pas_meaning.specs.Files as files
use Rattle.pas_meaning.specs.Files.{File, view, line_end, byte_at_place, written}
use Rattle.pas_run.specs.declared.files.FileState.{FileState}
use Rattle.pas_run.specs.declared.files.Ahead.{Ahead}
use Rattle.pas_run.specs.declared.files.Ahead.TheVariants.{Unknown, Byte, LineEnd, End}
use Rattle.pas_run.specs.declared.files.Usage.{Usage}
use Rattle.pas_run.specs.declared.files.Usage.TheVariants.{Unused, Reading, Writing}
use Rattle.pas_run.specs.declared.refusals.Refused.{Refused}
use Rattle.pas_run.specs.declared.refusals.Refused.TheVariants.{Wrong, Failed}

-- the mode of a file
abbrev pub mode_of : Usage → files.Mode
mode_of Unused = files.unused
mode_of Reading = files.reading
mode_of Writing = files.writing

-- where the file is that is read: no byte is looked at, and it is where the port is; this byte is, which the port has
-- given; the end of the last line is, which the bytes lack; or nothing is left
abbrev pub IsAhead : Ahead → PortState → File → Type 0
IsAhead Unknown port file = file.place ≡ port.place
IsAhead (Byte byte) port file = (suc file.place ≡ port.place) × (slice_get port.bytes file.place ≡ Some byte)
IsAhead LineEnd port file = (file.place ≡ length port.bytes) × (view file ≡ port.bytes ++ line_end ∷ [])
IsAhead End port file = file.place ≡ length (view file)

-- the port has given all bytes before its place, of which the last is kept
pub record IsRead (state : FileState) (port : PortState) (file : File) : Type 0 where
  pub within : port.place ≤ length port.bytes
  pub last : state.last ≡ last_or None (take port.place port.bytes)
  pub ahead : IsAhead state.ahead port file

abbrev pub WhileRead : Usage → Type 0 → Type 0
WhileRead Reading claim = claim
WhileRead usage claim = ⊤

-- the file that a port is, and what is kept of it: the port is the one that was bound, with more starts
pub record Stands (bound : PortState) (state : FileState) (port : PortState) (file : File) : Type 0 where
  pub kind : file.is_text ≡ state.is_text
  pub bytes : file.bytes ≡ port.bytes
  pub mode : file.mode ≡ mode_of state.usage
  pub buffer : file.buffer ≡ state.buffer
  pub name : port.name ≡ bound.name
  pub finishes : port.finishes ≡ bound.finishes
  pub starts : port.starts ≡ grown file.starts bound.starts
  pub read : WhileRead state.usage (IsRead state port file)

-- the same where the port tells; and the bytes that a port tells
abbrev pub IsFile : PortState → FileState → Option PortState → File → Type 0
IsFile bound state None file = ⊥
IsFile bound state (Some port) file = Stands bound state port file

abbrev pub Shows : List ℕ → Option PortState → Type 0
Shows bytes None = ⊥
Shows bytes (Some port) = port.bytes ≡ bytes

-- what a question answers, which leaves the file as it is
abbrev pub Asked : {A T : Type 0} → Answer A → (T → A) → Type 0 → Type 0 → Result T Refused → Type 0
Asked answer seen same failed (Ok value) = (answer ≡ fine (seen value)) × same
Asked answer seen same failed (Err (Wrong kind)) = (answer ≡ wrong kind) × same
Asked answer seen same failed (Err Failed) = failed

pub record Asks {A T : Type 0} (question : File → Answer A) (seen : T → A) (before : FileState)
    (told : Option PortState) (now : FileState) (tells : Option PortState) (result : Result T Refused) : Type 0 where
  pub each : (bound : PortState) (file : File) → IsFile bound before told file
      → Asked (question file) seen (IsFile bound now tells file) (Shows file.bytes tells) result

-- what bytes are appended to a file, which stays as it is else; after a failed call a first part of them is there
abbrev pub with_more : List ℕ → File → File
with_more more file = record file { bytes = file.bytes ++ more }

abbrev pub Appended :
    Answer (List ℕ) → (File → Type 0) → (List ℕ → Type 0) → File → Result (Unit {0}) Refused → Type 0
Appended answer is_now shows file (Ok value) =
    (more : List ℕ) × (answer ≡ fine more) × is_now (with_more more file)
Appended answer is_now shows file (Err (Wrong kind)) = (answer ≡ wrong kind) × is_now file
Appended answer is_now shows file (Err Failed) =
    (more : List ℕ) × (count : ℕ) × (answer ≡ fine more) × shows (file.bytes ++ take count more)

pub record Appends (bytes : File → Answer (List ℕ)) (before : FileState) (told : Option PortState) (now : FileState)
    (tells : Option PortState) (result : Result (Unit {0}) Refused) : Type 0 where
  pub each : (bound : PortState) (file : File) → IsFile bound before told file
      → Appended (bytes file) (IsFile bound now tells) (λ shown. Shows shown tells) file result

-- what a step makes of a file
abbrev pub Made : Answer File → (File → Type 0) → File → Type 0 → Result (Unit {0}) Refused → Type 0
Made answer is_now file failed (Ok value) = (made : File) × (answer ≡ fine made) × is_now made
Made answer is_now file failed (Err (Wrong kind)) = (answer ≡ wrong kind) × is_now file
Made answer is_now file failed (Err Failed) = failed

pub record Makes (step : File → Answer File) (before : FileState) (told : Option PortState) (now : FileState)
    (tells : Option PortState) (result : Result (Unit {0}) Refused) : Type 0 where
  pub each : (bound : PortState) (file : File) → IsFile bound before told file
      → Made (step file) (IsFile bound now tells) file (Shows file.bytes tells) result

-- whether a step is not made since a call of the port failed
abbrev pub is_port_failed : {T : Type 0} → Result T Refused → Bool
is_port_failed (Ok value) = false
is_port_failed (Err (Wrong kind)) = false
is_port_failed (Err Failed) = true

-- the byte that is looked at, and what is known behind it; and what is known behind the last byte of a port
abbrev pub byte_seen : Ahead → Option ℕ
byte_seen Unknown = None
byte_seen (Byte byte) = Some byte
byte_seen LineEnd = Some line_end
byte_seen End = None

abbrev pub ahead_passed : Ahead → Ahead
ahead_passed Unknown = Unknown
ahead_passed (Byte byte) = Unknown
ahead_passed LineEnd = End
ahead_passed End = End

abbrev pub ahead_behind : Bool → Option ℕ → Ahead
ahead_behind is_text None = End
ahead_behind false (Some last) = End
ahead_behind true (Some last) = if last == line_end then End else LineEnd

-- the byte at the place of a file
abbrev pub Looked : {T : Type 0} → Option ℕ → Type 0 → Type 0 → Result (Option ℕ) T → Type 0
Looked byte same failed (Ok value) = (value ≡ byte) × same
Looked byte same failed (Err failure) = failed

pub record Looks {T : Type 0} (before : FileState) (told : Option PortState) (now : FileState)
    (tells : Option PortState) (result : Result (Option ℕ) T) : Type 0 where
  pub each : (bound : PortState) (file : File) → IsFile bound before told file
      → Looked (byte_at_place file) (IsFile bound now tells file) (Shows file.bytes tells) result

-- rewrite: after a failed call the bytes are there, or gone
abbrev pub Rewritten : (List ℕ → Type 0) → (File → Type 0) → File → Result (Unit {0}) Refused → Type 0
Rewritten shows is_now file (Ok value) = is_now (files.rewrite file)
Rewritten shows is_now file (Err (Wrong kind)) = ⊥
Rewritten shows is_now file (Err Failed) = shows file.bytes ⊎ shows []

pub record Rewrites (before : FileState) (told : Option PortState) (now : FileState) (tells : Option PortState)
    (result : Result (Unit {0}) Refused) : Type 0 where
  pub each : (bound : PortState) (file : File) → IsFile bound before told file
      → Rewritten (λ shown. Shows shown tells) (IsFile bound now tells) file result

-- pieces that are appended to a file which is written; after a failed call a first part of them is there
abbrev pub Pieced :
    {T : Type 0} → List ℕ → (File → Type 0) → (List ℕ → Type 0) → File → Result (Unit {0}) T → Type 0
Pieced more is_now shows file (Ok value) = is_now (with_more more file)
Pieced more is_now shows file (Err failure) = (count : ℕ) × shows (file.bytes ++ take count more)

pub record Pieces {T : Type 0} (more : List ℕ) (before : FileState) (told : Option PortState) (now : FileState)
    (tells : Option PortState) (result : Result (Unit {0}) T) : Type 0 where
  pub each : (bound : PortState) (file : File) → IsFile bound before told file
      → Pieced more (IsFile bound now tells) (λ shown. Shows shown tells) file result

-- put: the buffer is appended, and then undefined
abbrev pub put_of : ℕ → File → File
put_of byte file = record file { bytes = file.bytes ++ byte ∷ []; buffer = None }

abbrev pub Put : Answer ℕ → (File → Type 0) → (List ℕ → Type 0) → File → Result (Unit {0}) Refused → Type 0
Put answer is_now shows file (Ok value) = (byte : ℕ) × (answer ≡ fine byte) × is_now (put_of byte file)
Put answer is_now shows file (Err (Wrong kind)) = (answer ≡ wrong kind) × is_now file
Put answer is_now shows file (Err Failed) =
    (byte : ℕ) × (answer ≡ fine byte) × (shows file.bytes ⊎ shows (file.bytes ++ byte ∷ []))

pub record Puts (before : FileState) (told : Option PortState) (now : FileState) (tells : Option PortState)
    (result : Result (Unit {0}) Refused) : Type 0 where
  pub each : (bound : PortState) (file : File) → IsFile bound before told file
      → Put (files.byte_to_put file) (IsFile bound now tells) (λ shown. Shows shown tells) file result

-- what is demanded before something is written on a text in a field of a width
abbrev pub Demanded : ℤ → File → Result (Unit {0}) Refused → Type 0
Demanded width file (Ok value) =
    (bytes_for : ℕ → List ℕ) → written bytes_for width file ≡ fine (bytes_for (nat_abs width))
Demanded width file (Err (Wrong kind)) = (bytes_for : ℕ → List ℕ) → written bytes_for width file ≡ wrong kind
Demanded width file (Err Failed) = ⊥

pub record Demands (width : ℤ) (state : FileState) (told : Option PortState)
    (result : Result (Unit {0}) Refused) : Type 0 where
  pub each : (bound : PortState) (file : File) → IsFile bound state told file → Demanded width file result
