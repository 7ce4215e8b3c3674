use Rattle.std.proofs.Common.{◌≡◌, ◌⊎◌, ◌≤◌, ◌+◌, length, false, ◌∙◌, sym, inl, inr, arith}
use Rattle.web2c_cli.specs.CommandLine.{takes_next}
use Rattle.web2c_cli.specs.inner.Table.{options_by}
use Rattle.web2c_cli.proofs.PartsLemmas.{none_from, name_from, word_from, pair_from, with_first}
use Rattle.web2c_cli.proofs.parts.next_part.Goals as goal
use Rattle.web2c_cli.proofs.parts.next_part.Goals.{else-cursor-count-2-via-then-cursor-count-2+else-takes_next}
use Rattle.web2c_cli.proofs.parts.next_part.Goals.{else-cursor-count-2-via-else-cursor-count-2}

pub returns-then-cursor-count-clause-part : goal.returns-then-cursor-count-clause-part
returns-then-cursor-count-clause-part c =
    sym (c.pass_end_mark.ensures.same (options_by c.args.options.now))
    ∙ none_from (options_by c.args.options.now) c.pass_end_mark.new.cursor c.args.words.now (omega arith)

pub returns-then-cursor-clause-part : goal.returns-then-cursor-clause-part
returns-then-cursor-clause-part c =
    sym (c.pass_end_mark.ensures.same (options_by c.args.options.now))
    ∙ name_from _ c.pass_end_mark.new.cursor _ _ c.if-cursor.true c.word-word.ensures

pub returns-then-takes_next-clause-part : goal.returns-then-takes_next-clause-part
returns-then-takes_next-clause-part c =
    sym (c.pass_end_mark.ensures.same (options_by c.args.options.now))
    ∙ pair_from _ c.pass_end_mark.new.cursor _ _ _ c.if-cursor.false c.word-word.ensures c.word-value.ensures
    (c.pass_end_mark.ensures.passed _ c.if-cursor.false c.word-word.ensures) (sym c.if-takes_next.ensures)
    ∙ with_first _ _ _ (sym c.option_part.ensures)

pub returns-clause-part : goal.returns-clause-part
returns-clause-part c =
    let alone : (takes_next (options_by c.args.options.now) c.word-word.result.now ≡ false)
    ⊎ (length c.args.words.now ≤ c.pass_end_mark.new.cursor.at + 1) =
    elim c.else-cursor-count-2.branch [
      | else-cursor-count-2-via-then-cursor-count-2+else-takes_next w ↦ inl
          (sym w.takes_next.ensures ∙ w.if-takes_next.false)
      | else-cursor-count-2-via-else-cursor-count-2 w ↦ inr (omega arith)
    ] in
    sym (c.pass_end_mark.ensures.same (options_by c.args.options.now))
    ∙ word_from _ c.pass_end_mark.new.cursor _ _ c.if-cursor.false c.word-word.ensures
    (c.pass_end_mark.ensures.passed _ c.if-cursor.false c.word-word.ensures) alone
    ∙ with_first _ _ _ (sym c.word_part.ensures)
