use Rattle.std.proofs.Common.{◌≡◌, ℕ, List, [], ◌∷◌, Option, Some, None, Err, refl, subst, ◌∙◌}
use Rattle.std.proofs.lemmas.Result.{err_from_is_err_and}
use Rattle.std.specs.Prelude.{IfNone, IfSome}
use Rattle.wb_ports.specs.Held.{GainsPrefix}
use Rattle.macro_expand.specs.declared.items.Item.{Item}
use Rattle.macro_expand.specs.declared.refusals.ExpandErr.{ExpandErr}
use Rattle.macro_expand.specs.Items.{Expanded, item_of}
use Rattle.macro_expand.specs.Expansion.{Expansion, expansion_of}
use Rattle.tangle_out.specs.declared.pieces.OutErr.TheVariants.{Failed}
use Rattle.tangle_out.specs.Packing.{text_of_lines}
use Rattle.tangle_out.proofs.ClausesLemmas.{on_ok-map}
use Rattle.tangle_core.specs.Tangled.{Lined}
use Rattle.tangle_core.specs.inner.Emitting.{At, Going, Whole, Breaks}
use Rattle.tangle_core.proofs.EmittingLemmas.{Going-new, Going-room, Going-counts, Going-item, Going-breaks}
use Rattle.tangle_core.proofs.EmittingLemmas.{Going-failed, Going-fault, Going-end, if_fault-map, counts-few}
use Rattle.tangle_core.proofs.emitting.emit.Goals as goal

pub loop-item-init : goal.loop-item-init
loop-item-init g c =
    let output = c.args.output.now in
    let start = g.K.Sink.held c.args.sink.now in
    let few = c.new-stream.ensures.few in (
      subst (λ (e : Expansion). Going e output.folder output.packer c.new-stream.result start start)
          c.new-stream.ensures.whole
          (Going-new c.new-stream.result output.folder output.packer start few (c.requires.new start)),
      refl,
      refl,
    )

-- at the end no item is left
none_left : (T : Type 0) (given : Option T) (left : Expansion)
    → IfNone given (left ≡ record { items = []; fault = None }) → given ≡ None
    → left ≡ record { items = []; fault = None }
none_left T given left none is =
    subst (λ (o : Option T). IfNone o (left ≡ record { items = []; fault = None })) is none

pub returns-clause-ok : goal.returns-clause-ok
returns-clause-ok g c =
    let is = none_left _ _ _ c.in_ok-item.ensures.none c.in_default.is in
    on_ok-map c.finish.result
    (λ ends. Going-end _ _ _ _ _ _
    (λ made start. Whole made c.finish.new.self.packer.finished start (g.K.Sink.held c.finish.new.sink))
    c.loop-item.invariant.0 is ends)
    c.finish.ensures.ok

pub returns-clause-fault : goal.returns-clause-fault
returns-clause-fault g c =
    let is = none_left _ _ _ c.in_ok-item.ensures.none c.in_default.is in
    if_fault-map _ c.finish.result _ _
    (λ code ends. Going-end _ _ _ _ _ _
    (λ made start. Breaks made code c.finish.new.self.packer.finished start (g.K.Sink.held c.finish.new.sink))
    c.loop-item.invariant.0 is ends)
    c.finish.ensures.fault

pub returns-clause-failed : goal.returns-clause-failed
returns-clause-failed g c = λ failed.
    let is = none_left _ _ _ c.in_ok-item.ensures.none c.in_default.is in
    Going-end _ _ _ _ _ _
    (λ made start. GainsPrefix (text_of_lines made.lines) start (g.K.Sink.held c.finish.new.sink))
    c.loop-item.invariant.0 is (c.finish.ensures.failed failed)

-- the next item is there
item_left : (given : Option Item) (item : Item) (left : Expansion) (items : List Expanded) (fault : Option ExpandErr)
    → IfSome given (λ there. left ≡ record { items = item_of there ∷ items; fault = fault })
    → given ≡ Some item → left ≡ record { items = item_of item ∷ items; fault = fault }
item_left given item left items fault there is =
    subst (λ (o : Option Item). IfSome o (λ i. left ≡ record { items = item_of i ∷ items; fault = fault })) is there

pub returns-in_err-item-clause-fault : goal.returns-in_err-item-clause-fault
returns-in_err-item-clause-fault g c =
    let p = err_from_is_err_and c.from_residual.result c.from_residual.ensures.1 in
    let shown = c.in_err-item.ensures.fault in
    rw (p.1, p.2, shown.2) (Going-fault _ _ shown.0 _ _ _ _ c.loop-item.invariant.0 shown.1)

pub returns-in_err-item-clause-counted : goal.returns-in_err-item-clause-counted
returns-in_err-item-clause-counted g c =
    let p = err_from_is_err_and c.from_residual.result c.from_residual.ensures.1 in
    rw p.1 (counts-few _ _ (Going-counts _ _ _ _ _ _ c.loop-item.invariant.0))

pub push-requires-clause-room : goal.push-requires-clause-room
push-requires-clause-room g c =
    let is = item_left _ _ _ _ _ c.in_ok-item.ensures.item c.in-Some.is in
    Going-room _ _ _ _ _ _ _ _ _ c.loop-item.invariant.0 is

pub push-requires-clause-countable : goal.push-requires-clause-countable
push-requires-clause-countable g c = Going-counts _ _ _ _ _ _ c.loop-item.invariant.0

pub finish-requires : goal.finish-requires
finish-requires g c = record { countable = Going-counts _ _ _ _ _ _ c.loop-item.invariant.0 }

pub loop-item-preserved : goal.loop-item-preserved
loop-item-preserved g c =
    let is = item_left _ _ _ _ _ c.in_ok-item.ensures.item c.in-Some.is in (
      Going-item _ _ _ _ _ _ _ _ _ _ _ c.loop-item.invariant.0 is c.in_ok-push.ensures.ok,
      c.push.ensures.frame ∙ c.loop-item.invariant.1,
      c.in_ok-push.ensures.cause ∙ c.loop-item.invariant.2,
    )

pub returns-in_err-push-clause-fault : goal.returns-in_err-push-clause-fault
returns-in_err-push-clause-fault g c =
    let p = err_from_is_err_and c.from_residual-in_err-push.result c.from_residual-in_err-push.ensures.1 in
    let is = item_left _ _ _ _ _ c.in_ok-item.ensures.item c.in-Some.is in
    rw (p.1, p.2) (if_fault-map (Unit {0}) (Err c.in_err-push.field-0.0) _ _
    (λ code takes. Going-breaks _ _ _ _ _ _ code _ _ _ _ _ c.loop-item.invariant.0 is takes)
    c.in_err-push.ensures.fault)

pub returns-in_err-push-clause-failed : goal.returns-in_err-push-clause-failed
returns-in_err-push-clause-failed g c = λ failed.
    let p = err_from_is_err_and c.from_residual-in_err-push.result c.from_residual-in_err-push.ensures.1 in
    let is = item_left _ _ _ _ _ c.in_ok-item.ensures.item c.in-Some.is in
    let was = c.in_err-push.was in
    let there = p.1 in
    let same = p.2 in
    let failed_there : c.push.result ≡ Err Failed = cc in
    Going-failed _ _ _ _ _ _ _ _ _ _ c.loop-item.invariant.0 is (c.push.ensures.failed failed_there)
