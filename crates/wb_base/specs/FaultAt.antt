-- A fault that a line shows.
use Rattle.std.specs.Prelude.{ℕ}
use Rattle.wb_base.specs.declared.places.Place.{Place}
use Rattle.wb_base.specs.declared.faults.Fault.{Fault}
use Rattle.wb_base.specs.declared.faults.TheConstants.{LIMIT_PASSED}

-- the fault of this number that this place shows, with no `which`
abbrev pub fault_at : ℕ → Place → Fault
fault_at code place = record { code = code; file = place.file; line = place.line; which = 0 }

-- this place shows that a limit was passed: the one of this number
abbrev pub limit_passed : ℕ → Place → Fault
limit_passed which place =
    record { code = LIMIT_PASSED; file = place.file; line = place.line; which = which }
