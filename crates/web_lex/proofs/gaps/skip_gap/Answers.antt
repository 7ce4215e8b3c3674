use Rattle.std.proofs.Common.{◌≡◌, arith, ap, sym, ◌∙◌, Some}
use Rattle.std.proofs.lemmas.Result.{err_from_is_err_and}
use Rattle.web_lex.specs.Gaps.{after_comment, vanished}
use Rattle.web_lex.specs.inner.Ahead.{first_byte}
use Rattle.web_lex.proofs.GapLemmas.{gap_at-comment}
use Rattle.web_lex.proofs.gaps.skip_gap.Goals as goal

pub returns-in_err-skip_comment-in-Some-eq123-clause-gap :
    goal.returns-in_err-skip_comment-in-Some-eq123-clause-gap
returns-in_err-skip_comment-in-Some-eq123-clause-gap c =
    let exit = err_from_is_err_and c.from_residual.result c.from_residual.ensures.1 in
    let cursor = c.args.cursor.now in
    let brace : c.in-Some-eq123.field-0 ≡ 123 = omega arith in
    let first : first_byte cursor.rest ≡ Some 123 = sym c.in-Some-eq123.ensures.byte ∙ ap Some brace in
    rw (exit.1, exit.2)
    (gap_at-comment cursor.end cursor.rest first
    ∙ ap (λ rest. vanished (after_comment cursor.end 0 rest)) (sym c.pass-in-Some-eq123.ensures.rest)
    ∙ ap (λ end. vanished (after_comment end 0 c.pass-in-Some-eq123.new.self.rest))
    (sym c.pass-in-Some-eq123.ensures.end)
    ∙ ap vanished c.in_err-skip_comment-in-Some-eq123.ensures.comment)

pub returns-in_ok-skip_comment-in-Some-eq123-clause-gap :
    goal.returns-in_ok-skip_comment-in-Some-eq123-clause-gap
returns-in_ok-skip_comment-in-Some-eq123-clause-gap c =
    let cursor = c.args.cursor.now in
    let brace : c.in-Some-eq123.field-0 ≡ 123 = omega arith in
    let first : first_byte cursor.rest ≡ Some 123 = sym c.in-Some-eq123.ensures.byte ∙ ap Some brace in
    gap_at-comment cursor.end cursor.rest first
    ∙ ap (λ rest. vanished (after_comment cursor.end 0 rest)) (sym c.pass-in-Some-eq123.ensures.rest)
    ∙ ap (λ end. vanished (after_comment end 0 c.pass-in-Some-eq123.new.self.rest))
    (sym c.pass-in-Some-eq123.ensures.end)
    ∙ ap vanished c.in_ok-skip_comment-in-Some-eq123.ensures.comment
