use Rattle.web_lex.proofs.CommentLemmas.{after_comment-plain}
use Rattle.web_lex.proofs.gaps.pass_plain.Goals as goal

pub returns-in-Some-clause-comment : goal.returns-in-Some-clause-comment
returns-in-Some-clause-comment c = λ depth.
    let cursor = c.args.cursor.now in
    rw (c.pass.ensures.end, c.pass.ensures.rest, c.length_to_mark.ensures.value, c.line.ensures.line)
    (after_comment-plain cursor.end depth cursor.rest)
