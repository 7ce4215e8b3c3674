use Rattle.std.proofs.Common.{◌≡◌, ◌+◌, length, filter_map, if◌then◌else◌}
use Rattle.web2c_cli.specs.CommandLine.{setting_in, times_set}
use Rattle.web2c_cli.specs.inner.Table.{options_by}
use Rattle.web2c_cli.specs.inner.Reading.{parts_from}
use Rattle.web2c_cli.proofs.command_line.Settings.is_set_at_most_once.Given as goal

abbrev pub invariant-loop-part : goal.invariant-loop-part
invariant-loop-part l =
    (if l.is_set then 1 else 0)
    + times_set l.value
    (filter_map setting_in (parts_from (options_by l.self-inside.options.now) l.cursor l.self-inside.words.now))
    ≡ times_set l.value
    (filter_map setting_in
    (parts_from (options_by l.self-inside.options.now) l.initial.cursor l.self-inside.words.now))

abbrev pub decreases-loop-part : goal.decreases-loop-part
decreases-loop-part l = length (parts_from (options_by l.self-inside.options.now) l.cursor l.self-inside.words.now)
