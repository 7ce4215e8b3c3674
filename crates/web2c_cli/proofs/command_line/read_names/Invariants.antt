use Rattle.std.proofs.Common.{◌≡◌, ◌<◌, length}
use Rattle.std.specs.Option.{option_map}
use Rattle.web2c_cli.specs.CommandLine.{names_for}
use Rattle.web2c_cli.specs.inner.Table.{options_by, command_by}
use Rattle.web2c_cli.specs.inner.Reading.{parts_from, names_by, names_still}
use Rattle.web2c_cli.proofs.command_line.read_names.Given as goal

abbrev pub invariant-loop-part : goal.invariant-loop-part
invariant-loop-part l =
    record {
      names : names_still (command_by l.row) (option_map names_by l.names) l.count
          (parts_from (options_by l.row.options.now) l.cursor l.words)
          ≡ names_for (command_by l.row) (parts_from (options_by l.row.options.now) l.initial.cursor l.words);
      counted : l.count < l.cursor.at;
    }

abbrev pub decreases-loop-part : goal.decreases-loop-part
decreases-loop-part l = length (parts_from (options_by l.row.options.now) l.cursor l.words)
