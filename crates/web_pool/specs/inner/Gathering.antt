-- What is handed on to a sink of a text that is gathered. No public contract cites this.
use Rattle.std.specs.Prelude.{◌≡◌, ℕ, List, ◌++◌, Option}
use Rattle.wb_ports.specs.Held.{Gains}

-- of the whole text, the sink got all but what is kept back at its end
pub record HandsOn (whole kept : List ℕ) (before now : Option (List ℕ)) : Type 0 where
  pub handed : List ℕ
  pub parts : whole ≡ handed ++ kept
  pub gains : Gains handed before now
