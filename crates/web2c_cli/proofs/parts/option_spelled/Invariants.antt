use Rattle.std.proofs.Common.{◌≡◌, drop}
use Rattle.std.specs.List.{find}
use Rattle.std.specs.Str.{bytes_eq}
use Rattle.web2c_cli.specs.declared.command_table.OptionRow.{OptionRow}
use Rattle.web2c_cli.proofs.parts.option_spelled.Given as goal

abbrev pub invariant-loop-row : goal.invariant-loop-row
invariant-loop-row l =
    find (λ (row : OptionRow). bytes_eq row.spelling.now l.spelling) (drop l.row-index l.options)
    ≡ find (λ (row : OptionRow). bytes_eq row.spelling.now l.spelling) l.options
