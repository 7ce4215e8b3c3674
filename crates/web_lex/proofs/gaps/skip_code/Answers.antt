use Rattle.std.proofs.Common.{◌<◌, ap, sym, ◌∙◌, drop, arith, length}
use Rattle.std.proofs.lemmas.List.{length-drop}
use Rattle.web_lex.specs.Gaps.{after_control_text, vanished}
use Rattle.web_lex.specs.inner.Ahead.{first_byte}
use Rattle.web_lex.proofs.GapLemmas.{gap_at-control_text, first_byte-some}
use Rattle.web_lex.proofs.gaps.skip_code.Goals as goal

pub returns-in_ok-skip_control_text-in-Control-clause-gap :
    goal.returns-in_ok-skip_control_text-in-Control-clause-gap
returns-in_ok-skip_control_text-in-Control-clause-gap c =
    let cursor = c.args.cursor.now in
    let same = c.copied-after.ensures in
    let after = c.pass.ensures.rest ∙ ap (λ ahead. drop 1 ahead.rest) same in
    let end = c.pass-2.ensures.end ∙ c.pass.ensures.end ∙ ap (λ ahead. ahead.end) same in
    let second = ap first_byte (sym after) ∙ sym c.in-Some.ensures.byte in
    gap_at-control_text cursor.end cursor.rest c.in-Some.next c.requires second
    (sym c.control_code.ensures ∙ c.in-Control.is)
    ∙ ap (λ rest. vanished (after_control_text cursor.end rest)) (sym (c.pass-2.ensures.rest ∙ ap (drop 1) after))
    ∙ ap (λ e. vanished (after_control_text e c.pass-2.new.self.rest)) (sym end)
    ∙ ap vanished c.in_ok-skip_control_text-in-Control.ensures.text

pub returns-in_ok-skip_control_text-in-Control-clause-shorter :
    goal.returns-in_ok-skip_control_text-in-Control-clause-shorter
returns-in_ok-skip_control_text-in-Control-clause-shorter c _ =
    let cursor = c.args.cursor.now in
    let same = c.copied-after.ensures in
    let after = c.pass.ensures.rest ∙ ap (λ ahead. drop 1 ahead.rest) same in
    let some : 0 < length cursor.rest = first_byte-some cursor.rest 64 c.requires in
    omega (
      arith,
      ap length after,
      length-drop 1 cursor.rest,
      ap length c.pass-2.ensures.rest,
      length-drop 1
          c.pass.new.self.rest,
    )
