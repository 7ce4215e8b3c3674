-- How an object of the outside counts its failed calls. This project's own.
use Rattle.std.specs.Prelude.{◌≡◌, ℕ, zero, suc, ◌+◌, ◌-◌, ◌^◌, ◌≤◌, min, Bool, true, false, Result, Ok, Err}
use Rattle.wb_ports.specs.declared.answers.PortErr.{PortErr}
use Rattle.wb_ports.specs.declared.answers.PortErr.TheVariants.{Failed, OutOfMemory}

-- the number after this one; a counter stands still at its last value
abbrev pub next_count : ℕ → ℕ
next_count count = min (count + 1) (2 ^ 64 - 1)

-- the count after so many calls more
abbrev pub grown : ℕ → ℕ → ℕ
grown zero count = count
grown (suc calls) count = next_count (grown calls count)

-- a count that never falls rose in between, or stands at its counter's last value
pub record Rose (before now : ℕ) : Type 0 where
  pub later : before ≤ now
  pub more : next_count before ≤ now

-- what a call makes of the count: one that failed raises it, any other leaves it as it was
abbrev pub CountsFailure : Bool → ℕ → ℕ → Type 0
CountsFailure true before now = Rose before now
CountsFailure false before now = now ≡ before

-- whether a call failed, which want of memory is not
abbrev pub is_failed : {T : Type 0} → Result T PortErr → Bool
is_failed (Ok value) = false
is_failed (Err Failed) = true
is_failed (Err OutOfMemory) = false
