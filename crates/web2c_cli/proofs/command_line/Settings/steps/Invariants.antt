use Rattle.std.proofs.Common.{◌≡◌, length, filter_map, fold}
use Rattle.web2c_cli.specs.CommandLine.{setting_in, with_steps}
use Rattle.web2c_cli.specs.inner.Table.{options_by}
use Rattle.web2c_cli.specs.inner.Reading.{parts_from}
use Rattle.web2c_cli.proofs.command_line.Settings.steps.Given as goal

abbrev pub invariant-loop-part : goal.invariant-loop-part
invariant-loop-part l =
    fold with_steps l.steps
    (filter_map setting_in (parts_from (options_by l.self-inside.options.now) l.cursor l.self-inside.words.now))
    ≡ fold with_steps l.initial.steps
    (filter_map setting_in
    (parts_from (options_by l.self-inside.options.now) l.initial.cursor l.self-inside.words.now))

abbrev pub decreases-loop-part : goal.decreases-loop-part
decreases-loop-part l = length (parts_from (options_by l.self-inside.options.now) l.cursor l.self-inside.words.now)
