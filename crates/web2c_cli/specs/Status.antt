-- The numbers of the statuses that the program ends with. This project's own.
use Rattle.std.specs.Prelude.{ℕ}
use Rattle.web2c_cli.specs.declared.status.Status.{Status}
use Rattle.web2c_cli.specs.declared.status.Status.TheVariants.{Done, Refused, Usage, Failed, OutOfMemory}
use Rattle.web2c_cli.specs.declared.status.Status.TheVariants.{Unfinished, Erroneous, TooDeep}

abbrev pub number_of : Status → ℕ
number_of Done = 0
number_of Refused = 1
number_of Usage = 2
number_of Failed = 3
number_of OutOfMemory = 4
number_of Unfinished = 5
number_of Erroneous = 6
number_of TooDeep = 7
