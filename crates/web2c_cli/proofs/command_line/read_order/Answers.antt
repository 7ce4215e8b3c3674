use Rattle.std.proofs.Common.{◌∙◌, sym, drop, filter_map}
use Rattle.web2c_cli.specs.CommandLine.{parts_of, setting_in}
use Rattle.web2c_cli.specs.inner.Table.{options_by, command_by}
use Rattle.web2c_cli.proofs.RequestLemmas.{set_once_by, request_twice, request_named}
use Rattle.web2c_cli.proofs.command_line.read_order.Goals as goal

pub returns-then-not-are_set_at_most_once : goal.returns-then-not-are_set_at_most_once
returns-then-not-are_set_at_most_once c =
    let parts = parts_of (options_by c.args.row.now.options.now) (drop 1 c.args.words.now) in
    sym (request_twice (command_by c.args.row.now) parts
    (set_once_by c.args.row.now.options.now (filter_map setting_in parts)
    ∙ sym c.if-not-are_set_at_most_once.ensures))

pub returns-in-Some : goal.returns-in-Some
returns-in-Some c =
    let parts = parts_of (options_by c.args.row.now.options.now) (drop 1 c.args.words.now) in
    sym (request_named (command_by c.args.row.now) parts _
    (set_once_by c.args.row.now.options.now (filter_map setting_in parts)
    ∙ sym c.if-not-are_set_at_most_once.ensures)
    (sym c.in-Some.ensures))
