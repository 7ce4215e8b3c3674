-- A port in memory, as its clauses see it. This project's own.
use Rattle.std.specs.Prelude.{ℕ, length, nat_le, Bool, true, false, ◌||◌}
use Rattle.wb_ports.specs.InMemory.{Calls, is_next_listed, after_call}
use Rattle.wb_ports.specs.PortState.{PortState}
use Rattle.wb_ports.specs.declared.port.Mode.{Mode}

-- what it is in use for, how many bytes it may still give, what it tells, how many bytes each written file has room
-- for, and its calls
pub record MemPortState : Type 0 where
  pub mode : Mode
  pub left : ℕ
  pub told : PortState
  pub room : ℕ
  pub calls : Calls

-- whether a put fails: its call is listed, or the room is full
abbrev pub fails_to_put : MemPortState → Bool
fails_to_put port = is_next_listed port.calls || nat_le port.room (length port.told.bytes)

-- the port after a call that failed, which changes nothing but the counts
abbrev pub after_failure : MemPortState → MemPortState
after_failure port = record port { calls = after_call true port.calls }

-- the port after a call that did not fail, and made this of what it tells
abbrev pub after_success : (PortState → PortState) → MemPortState → MemPortState
after_success change port = record port { told = change port.told; calls = after_call false port.calls }
