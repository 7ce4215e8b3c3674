-- Work in steps, each of which answers a value or a fault.
use Rattle.std.specs.Prelude.{List, ◌++◌, Result, Ok, Err}
use Rattle.wb_base.specs.declared.faults.Fault.{Fault}

-- the next step on the value of the one before, whose fault ends the work
infixl 10 ◌>>=◌
abbrev pub ◌>>=◌ : {A B : Type 0} → Result A Fault → (A → Result B Fault) → Result B Fault
Ok value >>= step = step value
Err fault >>= step = Err fault

-- the prefix, and then the list that a step answers
abbrev pub followed_by : {A : Type 0} → List A → Result (List A) Fault → Result (List A) Fault
followed_by prefix (Ok rest) = Ok (prefix ++ rest)
followed_by prefix (Err fault) = Err fault
