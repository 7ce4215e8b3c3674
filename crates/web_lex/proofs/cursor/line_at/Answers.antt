use Rattle.web_lex.proofs.TextLemmas.{raw_text-from}
use Rattle.web_lex.proofs.cursor.line_at.Goals as goal

pub returns-then-index-count : goal.returns-then-index-count
returns-then-index-count c = raw_text-from c.args.lines.now c.args.index c.line.result.now c.line.ensures
