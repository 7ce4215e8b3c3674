use Rattle.std.proofs.Common.{◌+◌, arith, rules}
use Rattle.std.proofs.lemmas.List.{length-drop}
use Rattle.change_merge.proofs.LinesLemmas.{line_here, SoFar_none, SoFar_too_long, SoFar_more, SoFar_all}
use Rattle.change_merge.proofs.spans.spans_of.Goals as goal

pub loop-start-init : goal.loop-start-init
loop-start-init c = SoFar_none _ _ _ _ c.in_ok-spans.ensures.items c.requires.within
    (omega (arith, c.in_ok-check_length.ensures.ok, length-drop c.args.from c.args.text.now))

pub returns-then-size-gt-LINE_LIMIT-clause-fault :
    goal.returns-then-size-gt-LINE_LIMIT-clause-fault
returns-then-size-gt-LINE_LIMIT-clause-fault c =
    let here = line_here c.args.text.now c.loop-start.spans.items c.loop-start.start c.length_to_line_end-width.result
    c.length_without_white-size.result (c.len.result + 1)
    c.loop-start-test.true c.length_to_line_end-width.ensures.value c.length_without_white-size.ensures
    (search rules) in
    rw (c.into.ensures, c.at.ensures)
    (SoFar_too_long c.args.tag _ _ _ _ _ _ _ c.loop-start.invariant here c.if-size-gt-LINE_LIMIT.true)

pub loop-start-preserved : goal.loop-start-preserved
loop-start-preserved c =
    let here = line_here c.args.text.now c.loop-start.spans.items c.loop-start.start c.length_to_line_end-width.result
    c.length_without_white-size.result (c.len.result + 1)
    c.loop-start-test.true c.length_to_line_end-width.ensures.value c.length_without_white-size.ensures
    (search rules) in
    SoFar_more _ _ _ _ _ _ _ _ _ c.loop-start.invariant here c.if-size-gt-LINE_LIMIT.false c.in_ok-push.ensures.items

pub returns-clause-ok : goal.returns-clause-ok
returns-clause-ok c = SoFar_all _ _ _ _ _ c.loop-start.invariant c.loop-start-test.false
