use Rattle.std.proofs.Common.{Vec, Global, ◌≡◌, [], Ok, ap, sym, ◌∙◌, arith}
use Rattle.std.proofs.lemmas.Bool.Decides.{nat_tests}
use Rattle.std.proofs.lemmas.List.{nil_from_length}
use Rattle.std.proofs.lemmas.Result.{err_from_is_err_and}
use Rattle.wb_base.specs.declared.places.FileTag.TheVariants.{Change as change_file}
use Rattle.change_merge.specs.declared.spans.Span.{Span}
use Rattle.change_merge.specs.declared.blocks.Block.{Block}
use Rattle.change_merge.specs.declared.change_list.Changes.{Changes}
use Rattle.change_merge.specs.inner.Spans.{lines_at, changes_at}
use Rattle.wb_base.proofs.WorkResultLemmas.{IfFault-weaker}
use Rattle.change_merge.proofs.LinesLemmas.{lines_of-within}
use Rattle.change_merge.proofs.ChangesLemmas.{changes_of-line_fault, changes_of-lines}
use Rattle.change_merge.proofs.change_list.parse_changes.Goals as goal

pub returns-in_err-spans-clause-fault : goal.returns-in_err-spans-clause-fault
returns-in_err-spans-clause-fault c =
    let p = err_from_is_err_and c.from_residual.result c.from_residual.ensures.1 in
    rw (p.1, p.2) (IfFault-weaker (Vec Span Global) Changes c.in_err-spans.field-0.0 _ _
    (λ fault fails. changes_of-line_fault c.args.bytes.now fault fails) c.in_err-spans.ensures.fault)

pub returns-in_err-blocks-clause-fault : goal.returns-in_err-blocks-clause-fault
returns-in_err-blocks-clause-fault c =
    let p = err_from_is_err_and c.from_residual-in_err-blocks.result c.from_residual-in_err-blocks.ensures.1 in
    rw (p.1, p.2) (IfFault-weaker (Vec Block Global) Changes c.in_err-blocks.field-0.0 _ _
    (λ fault fails. changes_of-lines c.args.bytes.now _ _ c.in_ok-spans.ensures.ok
    (rw c.deref.ensures.value at fails)) c.in_err-blocks.ensures.fault)

pub invariant_of-result : goal.invariant_of-result
invariant_of-result c = record {
  small = rw c.in_ok-text.ensures.items
      (lines_of-within change_file c.args.bytes.now
      (lines_at c.args.bytes.now c.in_ok-spans.spans.items) c.in_ok-spans.ensures.ok);
  inside = rw c.in_ok-text.ensures.items c.in_ok-spans.ensures.inside;
  in_order = rw c.deref.ensures.value at c.in_ok-blocks.ensures.in_order;
}

pub returns-clause-ok : goal.returns-clause-ok
returns-clause-ok c =
    changes_of-lines c.args.bytes.now _ _ c.in_ok-spans.ensures.ok
    (rw c.deref.ensures.value at c.in_ok-blocks.ensures.ok)
    ∙ ap (λ text. Ok (changes_at (lines_at text c.in_ok-spans.spans.items) c.in_ok-blocks.blocks.items))
    (sym c.in_ok-text.ensures.items)

pub returns-then-is_empty-clause-ok : goal.returns-then-is_empty-clause-ok
returns-then-is_empty-clause-ok c =
    let no_blocks : c.in_ok-blocks.blocks.items ≡ [] =
    nil_from_length c.in_ok-blocks.blocks.items (grind (arith, nat_tests)) in
    changes_of-lines c.args.bytes.now _ _ c.in_ok-spans.ensures.ok
    (rw c.deref.ensures.value at c.in_ok-blocks.ensures.ok)
    ∙ ap (λ blocks. Ok (changes_at (lines_at c.args.bytes.now c.in_ok-spans.spans.items) blocks)) no_blocks
    ∙ ap Ok (sym c.none.ensures)
