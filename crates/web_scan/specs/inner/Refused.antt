-- What refused names and strings make of the scan. Want of memory stays what it is.
use Rattle.std.specs.Prelude.{ℕ}
use Rattle.wb_base.specs.declared.faults.TheConstants.{POOL_STRING_TOO_LONG, LIMIT_STRINGS}
use Rattle.wb_base.specs.declared.faults.WorkErr.{WorkErr}
use Rattle.wb_base.specs.declared.faults.WorkErr.TheVariants.{Fault as of_input, OutOfMemory}
use Rattle.wb_base.specs.declared.places.Place.{Place}
use Rattle.wb_base.specs.FaultAt.{fault_at, limit_passed}
use Rattle.web_names.specs.declared.name_errors.NameErr.{NameErr}
use Rattle.web_names.specs.declared.name_errors.NameErr.TheVariants as name
use Rattle.web_pool.specs.declared.refusals.PoolErr.{PoolErr}
use Rattle.web_pool.specs.declared.refusals.PoolErr.TheVariants as string
use Rattle.web_scan.specs.Refusals.{name_fault}

-- a refused name
abbrev pub work_error_of_name : ℕ → Place → NameErr → WorkErr
work_error_of_name which place name.OutOfMemory = OutOfMemory
work_error_of_name which place refusal = of_input (name_fault which place refusal)

-- a refused string
abbrev pub work_error_of_string : Place → PoolErr → WorkErr
work_error_of_string place string.TooLong = of_input (fault_at POOL_STRING_TOO_LONG place)
work_error_of_string place string.Full = of_input (limit_passed LIMIT_STRINGS place)
work_error_of_string place string.OutOfMemory = OutOfMemory
