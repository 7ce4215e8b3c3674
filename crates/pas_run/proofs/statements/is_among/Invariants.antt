use Rattle.std.proofs.Common.{◌≡◌, drop}
use Rattle.std.specs.List.{list_any}
use Rattle.pas_meaning.specs.Arithmetic.{is_same}
use Rattle.pas_run.proofs.statements.is_among.Given as goal

abbrev pub invariant-loop-constant : goal.invariant-loop-constant
invariant-loop-constant l =
    list_any (is_same l.number) l.constants
    ≡ list_any (is_same l.number) (drop l.constant-index l.constants)
