-- Why checking stops, and what becomes of that before the token behind.
use Rattle.std.specs.Prelude.{ℕ, Bool, true, false, Option, Some, None, Result, Ok, Err}
use Rattle.wb_base.specs.declared.faults.WorkErr.{WorkErr}
use Rattle.wb_base.specs.declared.faults.WorkErr.TheVariants as work
use Rattle.wb_base.specs.declared.faults.TheConstants.{WRONG_TYPE}
use Rattle.pas_tokens.specs.Cutting.{Wrong, wrong}
use Rattle.pas_tokens.specs.Tokens.{fault_in}
use Rattle.pas_scopes.specs.declared.stop.Stop.{Stop}
use Rattle.pas_scopes.specs.declared.stop.Stop.TheVariants as stop
use Rattle.pas_scopes.specs.declared.stop.Wrong.{Wrong as CodeWrong}

-- what is wrong with a token, as the definition has it
abbrev pub wrong_in : CodeWrong → Wrong
wrong_in found = record { code = found.code; which = found.which }

-- a token in this line shows this
abbrev pub shown_in : ℕ → Wrong → Stop
shown_in line refusal = stop.Fault (fault_in line refusal)

-- what is missing before a token is shown by that as a wrong type
abbrev pub stop_before : ℕ → Stop → Stop
stop_before line stop.Missing = shown_in line (wrong WRONG_TYPE)
stop_before line why = why

abbrev pub found_before : {A : Type 0} → ℕ → Result A Stop → Result A Stop
found_before line (Ok value) = Ok value
found_before line (Err why) = Err (stop_before line why)

abbrev pub maybe_found_before : {A : Type 0} → Option ℕ → Result A Stop → Result A Stop
maybe_found_before None found = found
maybe_found_before (Some line) found = found_before line found

-- nothing where it holds, else a fault of a token in this line
abbrev pub demanded : Bool → ℕ → ℕ → Result (Unit {0}) Stop
demanded true code line = Ok tt
demanded false code line = Err (shown_in line (wrong code))

-- the error of a stop: what is missing before the end of a text shows no line
abbrev pub work_err : Stop → WorkErr
work_err stop.OutOfMemory = work.OutOfMemory
work_err (stop.Fault fault) = work.Fault fault
work_err stop.Missing = work.Fault (fault_in 0 (wrong WRONG_TYPE))
