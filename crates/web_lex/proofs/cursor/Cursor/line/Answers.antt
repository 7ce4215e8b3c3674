use Rattle.std.proofs.Common.{ap, sym, ◌∙◌}
use Rattle.web_lex.proofs.TextLemmas.{bytes_of_line-from, length-within, visible_line}
use Rattle.web_lex.specs.Raw.{bytes_of_line}
use Rattle.web_lex.proofs.cursor.Cursor.line.Goals as goal

pub returns-clause-line : goal.returns-clause-line
returns-clause-line c =
    let inside = c.self.inside in
    let rest = ap (λ ahead. ahead.rest) c.self.view_is in
    let within = length-within inside.lines.now inside.index inside.line.now (rw rest c.requires) in
    sym (ap bytes_of_line (sym rest) ∙ bytes_of_line-from inside.lines.now inside.index inside.line.now within)

pub returns-clause-visible : goal.returns-clause-visible
returns-clause-visible c byte after begins visible =
    let inside = c.self.inside in
    let rest = ap (λ ahead. ahead.rest) c.self.view_is in
    let within = length-within inside.lines.now inside.index inside.line.now (rw rest c.requires) in
    visible_line inside.lines.now inside.index inside.line.now c.args.self.now.rest byte after within rest begins
    visible
