-- The calls of an object in memory, and which of them are to fail. This project's own.
use Rattle.std.specs.Prelude.{ℕ, ◌==◌, List, Bool, true, false}
use Rattle.std.specs.List.{list_any}
use Rattle.wb_ports.specs.Counts.{next_count}

-- the numbers of the calls that are to fail, from 1, how many calls there were, and how many of them failed
pub record Calls : Type 0 where
  pub fails : List ℕ
  pub count : ℕ
  pub faults : ℕ

-- whether the next call is one of those that are to fail
abbrev pub is_next_listed : Calls → Bool
is_next_listed calls = list_any (λ n. n == next_count calls.count) calls.fails

-- one call more
abbrev pub with_call : Calls → Calls
with_call calls = record calls { count = next_count calls.count }

-- one failure more
abbrev pub with_failure : Calls → Calls
with_failure calls = record calls { faults = next_count calls.faults }

-- the calls with one more, which failed or did not
abbrev pub after_call : Bool → Calls → Calls
after_call false calls = with_call calls
after_call true calls = with_failure (with_call calls)
