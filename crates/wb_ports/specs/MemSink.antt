-- A sink in memory, as its clauses see it. This project's own.
use Rattle.std.specs.Prelude.{ℕ, ◌+◌, ◌-◌, List, [], ◌++◌, take, length, nat_lt, Bool, ◌||◌, if◌then◌else◌}
use Rattle.wb_ports.specs.InMemory.{Calls, is_next_listed, after_call}

-- the bytes that it has got, how many it has room for, and its calls
pub record SinkState : Type 0 where
  pub bytes : List ℕ
  pub room : ℕ
  pub calls : Calls

-- whether the piece is too long for the room that is left
abbrev pub passes_room : SinkState → List ℕ → Bool
passes_room sink piece = nat_lt sink.room (length sink.bytes + length piece)

-- whether a write of the piece fails
abbrev pub fails_to_write : SinkState → List ℕ → Bool
fails_to_write sink piece = is_next_listed sink.calls || passes_room sink piece

-- what a write appends of the piece: what fits, but nothing where the call is listed
abbrev pub appended : SinkState → List ℕ → List ℕ
appended sink piece = if is_next_listed sink.calls then [] else take (sink.room - length sink.bytes) piece

-- the sink after a write of the piece
abbrev pub after_write : SinkState → List ℕ → SinkState
after_write sink piece = record sink {
  bytes = sink.bytes ++ appended sink piece;
  calls = after_call (fails_to_write sink piece) sink.calls;
}
