use Rattle.std.proofs.Common.{arith, ap, ◌∙◌, ◌<◌, drop, length}
use Rattle.std.proofs.lemmas.List.{take_rest, length-drop}
use Rattle.web_lex.proofs.TextLemmas.{text_from-drop, next_line}
use Rattle.web_lex.specs.inner.Ahead.{text_from}
use Rattle.web_lex.proofs.cursor.Cursor.pass.Goals as goal

pub returns-then-size-self-clause-rest : goal.returns-then-size-self-clause-rest
returns-then-size-self-clause-rest c =
    let inside = c.self.inside in
    let rest = ap (λ ahead. ahead.rest) c.self.view_is in
    ap (text_from (drop inside.index inside.lines.now)) (take_rest inside.line.now c.args.size)
    ∙ text_from-drop (drop inside.index inside.lines.now) c.args.size inside.line.now c.if-size-self.true
    ∙ ap (drop c.args.size) rest

pub returns-then-self-count-clause-rest : goal.returns-then-self-count-clause-rest
returns-then-self-count-clause-rest c =
    let inside = c.self.inside in
    let within : inside.index < length inside.lines.now = omega arith in
    next_line inside.lines.now inside.index c.args.size inside.line.now c.line_at-self-inside.result.now
    c.args.self.now.rest
    (ap (λ ahead. ahead.rest) c.self.view_is) within c.if-size-self.false c.requires c.line_at-self-inside.ensures

pub returns-then-self-count-clause-shorter : goal.returns-then-self-count-clause-shorter
returns-then-self-count-clause-shorter c some left =
    let inside = c.self.inside in
    let within : inside.index < length inside.lines.now = omega arith in
    let after = next_line inside.lines.now inside.index c.args.size inside.line.now c.line_at-self-inside.result.now
    c.args.self.now.rest
    (ap (λ ahead. ahead.rest) c.self.view_is) within c.if-size-self.false c.requires c.line_at-self-inside.ensures in
    omega (arith, ap length after, length-drop c.args.size c.args.self.now.rest)
