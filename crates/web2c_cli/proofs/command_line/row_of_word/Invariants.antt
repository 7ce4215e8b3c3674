use Rattle.std.proofs.Common.{◌≡◌, drop, map}
use Rattle.std.specs.List.{find}
use Rattle.std.specs.Str.{bytes_eq}
use Rattle.web2c_cli.specs.CommandLine.{CommandForm}
use Rattle.web2c_cli.specs.inner.Table.{command_by}
use Rattle.web2c_cli.proofs.command_line.row_of_word.Given as goal

abbrev pub invariant-loop-row : goal.invariant-loop-row
invariant-loop-row l =
    find (λ (form : CommandForm). bytes_eq form.word l.word) (map command_by (drop l.row-index l.rows))
    ≡ find (λ (form : CommandForm). bytes_eq form.word l.word) (map command_by l.rows)
