-- The rows of the tables in code, as the definitions have them.
use Rattle.std.specs.Prelude.{List, map}
use Rattle.web2c_cli.specs.declared.command_table.OptionRow.{OptionRow}
use Rattle.web2c_cli.specs.declared.command_table.CommandRow.{CommandRow}
use Rattle.web2c_cli.specs.CommandLine.{OptionForm, CommandForm}

abbrev pub option_by : OptionRow → OptionForm
option_by row = record { spelling = row.spelling.now; value = row.value }

abbrev pub options_by : List OptionRow → List OptionForm
options_by rows = map option_by rows

abbrev pub command_by : CommandRow → CommandForm
command_by row = record {
  word = row.word.now;
  command = row.command;
  needed = row.needed;
  names = row.names.now;
  more = row.more;
  options = options_by row.options.now;
}
