use Rattle.std.proofs.Common.{subst, List, map, Ok, Err}
use Rattle.std.proofs.lemmas.Result.{err_from_is_err_and}
use Rattle.pas_syntax.specs.declared.tree.Numeral.{Numeral as CodeNumeral}
use Rattle.pas_syntax.specs.declared.tree.Behind.{Behind as CodeBehind}
use Rattle.pas_syntax.specs.Views.{numeral_in, separated_in}
use Rattle.pas_types.specs.inner.LabelViews.{Known}
use Rattle.pas_types.specs.inner.LabelAnswers.{IsNew, Numbers}
use Rattle.pas_types.proofs.NumberLemmas.{numbers_stop, unbegun, number_stopped, number_more, numbers_ended}
use Rattle.pas_types.proofs.NumberLemmas.{all_numbers}
use Rattle.pas_types.proofs.NumberLemmas.{seen_behind}
use Rattle.pas_types.proofs.labels.Labels.numbered.Goals as goal

abbrev no_number : CodeBehind CodeNumeral
no_number = record { line = 0; item = record { value = 0; line = 0 } }

pub returns-in_err-declare : goal.returns-in_err-declare
returns-in_err-declare c =
    numbers_stop (separated_in numeral_in c.args.numbers.now) c.in_err-declare.field-0.0 c.from_residual.result
    (err_from_is_err_and _ c.from_residual.ensures.1)
    (unbegun (numeral_in c.args.numbers.now.first) (map seen_behind c.args.numbers.now.more)
    c.in_err-declare.field-0.0
    (subst (λ (labels : Known). IsNew labels (numeral_in c.args.numbers.now.first) (Err c.in_err-declare.field-0.0))
    c.new-labels.ensures c.in_err-declare.ensures.answer))

pub returns-in_err-declare-2 : goal.returns-in_err-declare-2
returns-in_err-declare-2 c =
    numbers_stop (separated_in numeral_in c.args.numbers.now) c.in_err-declare-2.field-0.0
    c.from_residual-in_err-declare-2.result
    (err_from_is_err_and _ c.from_residual-in_err-declare-2.ensures.1)
    (subst (λ (more : List (CodeBehind CodeNumeral)).
    Numbers (all_numbers (numeral_in c.args.numbers.now.first) (map seen_behind more))
    (Err c.in_err-declare-2.field-0.0)) c.as_slice-behind-items.ensures
    (number_stopped (numeral_in c.args.numbers.now.first) c.as_slice-behind-items.result.now
    c.loop-behind.behind-index no_number c.loop-behind.labels c.in_err-declare-2.field-0.0 c.loop-behind-test.true
    c.loop-behind.invariant c.in_err-declare-2.ensures.answer))

pub loop-behind-preserved : goal.loop-behind-preserved
loop-behind-preserved c =
    number_more (numeral_in c.args.numbers.now.first) c.as_slice-behind-items.result.now c.loop-behind.behind-index
    no_number c.loop-behind.labels c.declare-in-loop-behind.new.self c.loop-behind-test.true c.loop-behind.invariant
    c.in_ok-declare-2.ensures.answer c.in_ok-declare-2.ensures.ok

pub returns : goal.returns
returns c =
    subst (λ (more : List (CodeBehind CodeNumeral)).
    Numbers (all_numbers (numeral_in c.args.numbers.now.first) (map seen_behind more)) (Ok c.loop-behind.labels))
    c.as_slice-behind-items.ensures
    (numbers_ended (numeral_in c.args.numbers.now.first) c.as_slice-behind-items.result.now
    c.loop-behind.behind-index c.loop-behind.labels c.loop-behind-test.false c.loop-behind.invariant)
