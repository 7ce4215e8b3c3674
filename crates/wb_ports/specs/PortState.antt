-- What a port tells that tells its bytes, and what the calls of a port make of it. This project's own.
use Rattle.std.specs.Prelude.{◌≡◌, ℕ, ◌+◌, List, [], ◌∷◌, ◌++◌, slice_get, Option, Some, None}
use Rattle.wb_ports.specs.Counts.{next_count}

-- the port's Pascal name, its bytes, the place of the byte from 0 that `take` gives next, how often it was finished,
-- and how often a `rewind` or a `begin` answered Ok
pub record PortState : Type 0 where
  pub name : List ℕ
  pub bytes : List ℕ
  pub place : ℕ
  pub finishes : ℕ
  pub starts : ℕ

-- the port with this name
abbrev pub named_port : List ℕ → PortState → PortState
named_port name port = record port { name = name }

-- the port once more at its first byte
abbrev pub rewound_port : PortState → PortState
rewound_port port = record port { place = 0; starts = next_count port.starts }

-- the port without bytes
abbrev pub empty_port : PortState → PortState
empty_port port = record port { bytes = [] }

-- the port without bytes, ready for the first
abbrev pub begun_port : PortState → PortState
begun_port port = record port { bytes = []; place = 0; starts = next_count port.starts }

-- the port with a byte more at its end
abbrev pub longer_port : ℕ → PortState → PortState
longer_port byte port = record port { bytes = port.bytes ++ byte ∷ [] }

-- the port finished once more
abbrev pub finished_port : PortState → PortState
finished_port port = record port { finishes = next_count port.finishes }

-- the port at its byte after the next
abbrev pub advanced_port : PortState → PortState
advanced_port port = record port { place = port.place + 1 }

-- the next byte, and none at the end
abbrev pub next_byte : PortState → Option ℕ
next_byte port = slice_get port.bytes port.place

-- what `take` answers: the next byte, which it passes; or none at the end, where it stays
abbrev pub Takes : Option ℕ → PortState → PortState → Type 0
Takes None before now = (next_byte before ≡ None) × (now ≡ before)
Takes (Some byte) before now = (next_byte before ≡ Some byte) × (now ≡ advanced_port before)

-- what `take` makes of the number of bytes that may still be given: a byte that is given is one less
abbrev pub Gives : Option ℕ → ℕ → ℕ → Type 0
Gives None before now = now ≡ before
Gives (Some byte) before now = now + 1 ≡ before
