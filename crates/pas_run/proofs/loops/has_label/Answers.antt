use Rattle.std.proofs.Common.{sym, ap, ◌∙◌}
use Rattle.pas_typed.specs.Typed.{Statements}
use Rattle.pas_meaning.specs.Run.{has_label}
use Rattle.pas_run.proofs.ListLemmas.{item_seen, list_seen, label_here, label_later}
use Rattle.pas_run.proofs.loops.has_label.Goals as goal

pub returns-then-has : goal.returns-then-has
returns-then-has c spellings =
    sym (c.loop-item.invariant spellings
    ∙ label_here _ _ _ _ c.args.label
    (item_seen spellings c.args.list.now c.loop-item.item-index c.item-item.result c.loop-item-test.true
    c.item-item.is) (sym c.has.ensures ∙ c.if-has.true))

pub loop-item-preserved : goal.loop-item-preserved
loop-item-preserved c spellings =
    c.loop-item.invariant spellings
    ∙ label_later _ _ _ _ c.args.label
    (item_seen spellings c.args.list.now c.loop-item.item-index c.item-item.result c.loop-item-test.true
    c.item-item.is) (sym c.has.ensures ∙ c.if-has.false)

pub returns : goal.returns
returns c spellings =
    sym (c.loop-item.invariant spellings
    ∙ ap (λ (list : Statements). has_label list c.args.label)
    (list_seen spellings c.args.list.now c.loop-item.item-index c.loop-item-test.false))
