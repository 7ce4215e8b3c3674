-- How a port over a real file keeps it. No public contract cites this.
use Rattle.std.specs.Prelude.{ℕ, List, Option, None}
use Rattle.std.specs.Io.KnownBytes.{append_known, prepend_known}
use Rattle.wb_ports.specs.declared.file_port.Stream.{Stream}
use Rattle.wb_ports.specs.declared.port.Mode.{Mode}

-- what the port is in use for
abbrev pub mode_of : {F : Type 0} → Stream F → Mode
mode_of Stream.Closed = Mode.Idle
mode_of (Stream.Reading file) = Mode.Reading
mode_of (Stream.Writing file) = Mode.Writing

-- what the file that is written holds, and then what is kept back of it
abbrev pub written_of : {F : Type 0} → (F → Option (List ℕ)) → List ℕ → Stream F → Option (List ℕ)
written_of contents kept Stream.Closed = None
written_of contents kept (Stream.Reading file) = None
written_of contents kept (Stream.Writing file) = append_known (contents file) kept

-- what is read ahead, and then what the file that is read has left
abbrev pub unread_of : {F : Type 0} → (F → Option (List ℕ)) → List ℕ → Stream F → Option (List ℕ)
unread_of remaining ahead Stream.Closed = None
unread_of remaining ahead (Stream.Reading file) = prepend_known ahead (remaining file)
unread_of remaining ahead (Stream.Writing file) = None
