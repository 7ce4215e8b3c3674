use Rattle.std.proofs.Common.{◌≡◌, ap, sym, ◌∙◌, Some, false, drop, arith}
use Rattle.std.proofs.lemmas.Bool.{ne_eqb, false≢true}
use Rattle.web_lex.proofs.CommentLemmas.{after_comment-at_sign, after_comment-hidden, after_comment-not_hidden}
use Rattle.web_lex.proofs.CommentLemmas.{after_comment-open, after_comment-close, after_comment-byte}
use Rattle.web_lex.specs.inner.Steps.{begins_section}
use Rattle.web_lex.specs.inner.Ahead.{first_byte}
use Rattle.web_lex.proofs.gaps.pass_in_comment.Goals as goal

pub returns-in-64-2-clause-comment : goal.returns-in-64-2-clause-comment
returns-in-64-2-clause-comment c =
    let cursor = c.args.cursor.now in
    let none : begins_section (drop 1 cursor.rest) ≡ false =
    ap begins_section (sym c.pass.ensures.rest) ∙ sym c.begins_section.ensures ∙ c.if-begins_section.false in
    rw (c.pass-in-64-2.ensures.rest, c.pass-in-64-2.ensures.end, c.pass.ensures.rest, c.pass.ensures.end)
    (after_comment-at_sign cursor.end c.args.depth cursor.rest (c.requires.first ∙ ap Some c.in-64.is) none)

pub returns-in-92-clause-comment : goal.returns-in-92-clause-comment
returns-in-92-clause-comment c =
    let cursor = c.args.cursor.now in
    rw (c.pass.ensures.rest, c.pass.ensures.end)
    (after_comment-not_hidden cursor.end c.args.depth cursor.rest (c.requires.first ∙ ap Some c.in-92.is)
    (ap first_byte (sym c.pass.ensures.rest) ∙ c.begins_code.ensures.0 c.if-begins_code.true))

pub returns-in-92-2-clause-comment : goal.returns-in-92-2-clause-comment
returns-in-92-2-clause-comment c =
    let cursor = c.args.cursor.now in
    rw (c.pass-in-92-2.ensures.rest, c.pass-in-92-2.ensures.end, c.pass.ensures.rest, c.pass.ensures.end)
    (after_comment-hidden cursor.end c.args.depth cursor.rest (c.requires.first ∙ ap Some c.in-92.is)
    (λ sign. false≢true (sym c.if-begins_code.false
    ∙ c.begins_code.ensures.1 (ap first_byte c.pass.ensures.rest ∙ sign))))

pub returns-in-123-clause-comment : goal.returns-in-123-clause-comment
returns-in-123-clause-comment c =
    let cursor = c.args.cursor.now in
    rw (c.pass.ensures.rest, c.pass.ensures.end)
    (after_comment-open cursor.end c.args.depth cursor.rest (c.requires.first ∙ ap Some c.in-123.is))

pub returns-in-125-2-clause-comment : goal.returns-in-125-2-clause-comment
returns-in-125-2-clause-comment c =
    let cursor = c.args.cursor.now in
    rw (c.pass.ensures.rest, c.pass.ensures.end)
    (after_comment-close cursor.end c.args.depth cursor.rest (c.requires.first ∙ ap Some c.in-125.is)
    (ne_eqb c.args.depth 0 c.if-depth-eq0.false))

pub returns-in_default-clause-comment : goal.returns-in_default-clause-comment
returns-in_default-clause-comment c =
    let cursor = c.args.cursor.now in
    let byte = c.args.byte in
    rw (c.pass_plain.ensures.comment c.args.depth, c.pass.ensures.rest, c.pass.ensures.end)
    (after_comment-byte cursor.end c.args.depth byte cursor.rest c.requires.first
    (ne_eqb byte 64 (λ e. omega (arith, e))) (ne_eqb byte 92 (λ e. omega (arith, e)))
    (ne_eqb byte 123 (λ e. omega (arith, e))) (ne_eqb byte 125 (λ e. omega (arith, e))))
