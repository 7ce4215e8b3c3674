use Rattle.std.proofs.Common.{◌≡◌, ◌++◌, length, drop, filter_map, if◌then◌else◌}
use Rattle.web2c_cli.specs.CommandLine.{name_in}
use Rattle.web2c_cli.specs.inner.Table.{options_by}
use Rattle.web2c_cli.specs.inner.Reading.{parts_from}
use Rattle.web2c_cli.proofs.file_words.names_after_first.Given as goal

abbrev pub invariant-loop-part : goal.invariant-loop-part
invariant-loop-part l =
    l.names
    ++ drop (if l.is_first then 1 else 0)
    (filter_map name_in (parts_from (options_by l.options) l.cursor l.words))
    ≡ drop 1 (filter_map name_in (parts_from (options_by l.options) l.initial.cursor l.words))

abbrev pub decreases-loop-part : goal.decreases-loop-part
decreases-loop-part l = length (parts_from (options_by l.options) l.cursor l.words)
