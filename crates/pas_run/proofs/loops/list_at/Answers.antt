use Rattle.std.proofs.Common.{List, Some, sym, subst, ap, ◌∙◌}
use Rattle.std.proofs.lemmas.List.{take_rest}
use Rattle.pas_typed.specs.declared.typed.Labelled as code_labelled
use Rattle.pas_typed.specs.declared.typed.Statement.TheViews.{out-Labelled}
use Rattle.pas_meaning.specs.Run.{has}
use Rattle.pas_typed.specs.TypedViews.{statements_view}
use Rattle.pas_run.specs.inner.Running.{IsFrom}
use Rattle.pas_run.proofs.ListLemmas.{item_seen, list_seen, other_item, this_item, no_item}
use Rattle.pas_run.proofs.loops.list_at.Goals as goal

pub returns-then-has : goal.returns-then-has
returns-then-has c spellings =
    subst (λ (rest : List code_labelled.Labelled). IsFrom (Some c.args.label)
    (statements_view spellings c.args.list.now) (statements_view spellings rest))
    (sym (take_rest c.args.list.now c.loop-place.place))
    (this_item c.args.label (statements_view spellings c.args.list.now) _ _ _ _ (c.loop-place.invariant spellings)
    (item_seen spellings c.args.list.now c.loop-place.place c.index-list-place.result c.loop-place-test.true
    c.index-list-place.is) (ap (λ (item : code_labelled.Labelled). has (out-Labelled item).label c.args.label)
    c.index-list-place.is ∙ sym c.has.ensures ∙ c.if-has.true))

pub loop-place-preserved : goal.loop-place-preserved
loop-place-preserved c spellings =
    other_item c.args.label (statements_view spellings c.args.list.now) _ _ _ _ (c.loop-place.invariant spellings)
    (item_seen spellings c.args.list.now c.loop-place.place c.index-list-place.result c.loop-place-test.true
    c.index-list-place.is) (ap (λ (item : code_labelled.Labelled). has (out-Labelled item).label c.args.label)
    c.index-list-place.is ∙ sym c.has.ensures ∙ c.if-has.false)

pub returns : goal.returns
returns c spellings =
    no_item c.args.label (statements_view spellings c.args.list.now) _ (c.loop-place.invariant spellings)
    (list_seen spellings c.args.list.now c.loop-place.place c.loop-place-test.false)
