use Rattle.std.proofs.Common.{◌≡◌, drop, fold}
use Rattle.std.specs.List.{list_all}
use Rattle.std.specs.Char.{is_ascii_digit}
use Rattle.web2c_cli.specs.CommandLine.{number_written}
use Rattle.web2c_cli.proofs.NumberLemmas.{with_digit}
use Rattle.web2c_cli.proofs.parts.number_within.Given as goal

abbrev pub invariant-loop-byte : goal.invariant-loop-byte
invariant-loop-byte l =
    (list_all is_ascii_digit (drop l.byte-index l.text) ≡ list_all is_ascii_digit l.text)
    × (fold with_digit l.number (drop l.byte-index l.text) ≡ number_written l.text)
