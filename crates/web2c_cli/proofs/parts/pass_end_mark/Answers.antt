use Rattle.std.proofs.Common.{sym}
use Rattle.web2c_cli.proofs.PartsLemmas.{end_mark_from}
use Rattle.web2c_cli.proofs.parts.pass_end_mark.Goals as goal

pub returns-then-ends_options-clause-same : goal.returns-then-ends_options-clause-same
returns-then-ends_options-clause-same c options =
    end_mark_from options c.args.cursor.now c.args.words.now _ c.if-cursor.false c.word.ensures
    (sym c.if-ends_options.ensures)
