use Rattle.std.proofs.Common.{Vec, Global, ◌≡◌, [], Ok, ap, sym, ◌∙◌, arith, rules}
use Rattle.std.proofs.lemmas.Bool.Decides.{nat_tests}
use Rattle.std.proofs.lemmas.List.{nil_from_length}
use Rattle.std.proofs.lemmas.Result.{err_from_is_err_and}
use Rattle.change_merge.specs.declared.spans.Span.{Span}
use Rattle.change_merge.specs.declared.line_list.Lines.{Lines}
use Rattle.change_merge.specs.inner.Spans.{lines_at, changes_at}
use Rattle.wb_base.proofs.WorkResultLemmas.{IfFault-weaker}
use Rattle.change_merge.proofs.MergeLemmas.{Joined, joined_of, merge_of-lines, merge_of-lines_fault}
use Rattle.change_merge.proofs.MergeLemmas.{merge_of-no_changes}
use Rattle.change_merge.proofs.MergeLemmas.{merge_of-web_fault}
use Rattle.change_merge.proofs.merging.merge.Goals as goal

pub returns-then-is_empty-clause-ok : goal.returns-then-is_empty-clause-ok
returns-then-is_empty-clause-ok c =
    let no_blocks : c.changes.inside.blocks.items ≡ [] =
    nil_from_length c.changes.inside.blocks.items (grind (arith, nat_tests)) in
    let no_changes : c.args.changes.now ≡ [] =
    sym c.changes.view_is
    ∙ ap (changes_at (lines_at c.changes.inside.text.items c.changes.inside.spans.items)) no_blocks in
    rw (no_changes, merge_of-no_changes c.args.web.now) c.lines.ensures.ok

pub returns-then-is_empty-clause-fault : goal.returns-then-is_empty-clause-fault
returns-then-is_empty-clause-fault c =
    let no_blocks : c.changes.inside.blocks.items ≡ [] =
    nil_from_length c.changes.inside.blocks.items (grind (arith, nat_tests)) in
    let no_changes : c.args.changes.now ≡ [] =
    sym c.changes.view_is
    ∙ ap (changes_at (lines_at c.changes.inside.text.items c.changes.inside.spans.items)) no_blocks in
    rw (no_changes, merge_of-no_changes c.args.web.now) c.lines.ensures.fault

pub returns-in_err-check_length-clause-fault : goal.returns-in_err-check_length-clause-fault
returns-in_err-check_length-clause-fault c =
    let p = err_from_is_err_and c.from_residual.result c.from_residual.ensures.1 in
    rw (p.1, p.2) (merge_of-lines_fault _ _ _ c.in_err-check_length.ensures.fault)

pub returns-in_err-web_spans-clause-fault : goal.returns-in_err-web_spans-clause-fault
returns-in_err-web_spans-clause-fault c =
    let joined : Joined c.args.web.now _ _ _ _ c.in_ok-text.text.items c.len.result =
    joined_of _ _ _ _ _ _ _ _ c.changes.invariant c.changes.view_is c.in_ok-text.ensures c.deref.ensures.value
    (search rules) in
    let p = err_from_is_err_and c.from_residual-in_err-web_spans.result c.from_residual-in_err-web_spans.ensures.1 in
    rw (p.1, p.2)
    (IfFault-weaker (Vec Span Global) Lines c.in_err-web_spans.field-0.0 _ _
    (λ fault fails. merge_of-web_fault _ _ _ _ _ _ _ joined fault (rw (← c.deref-2.ensures.value) fails))
    c.in_err-web_spans.ensures.fault)

pub returns-in_err-spans-clause-fault : goal.returns-in_err-spans-clause-fault
returns-in_err-spans-clause-fault c =
    let joined : Joined c.args.web.now _ _ _ _ c.in_ok-text.text.items c.len.result =
    joined_of _ _ _ _ _ _ _ _ c.changes.invariant c.changes.view_is c.in_ok-text.ensures c.deref.ensures.value
    (search rules) in
    let p = err_from_is_err_and c.from_residual-in_err-spans.result c.from_residual-in_err-spans.ensures.1 in
    let are = rw c.deref-2.ensures.value at c.in_ok-web_spans.ensures.ok in
    rw (p.1, p.2)
    (IfFault-weaker (Vec Span Global) Lines c.in_err-spans.field-0.0 _ _
    (λ fault fails. merge_of-lines _ _ _ _ _ _ _ joined _ are
    ∙ rw (c.deref-3.ensures.value, c.deref-4.ensures.value, c.deref-5.ensures.value, c.deref-6.ensures.value) at
    fails)
    c.in_err-spans.ensures.fault)

pub returns-clause-ok : goal.returns-clause-ok
returns-clause-ok c =
    let joined : Joined c.args.web.now _ _ _ _ c.in_ok-text.text.items c.len.result =
    joined_of _ _ _ _ _ _ _ _ c.changes.invariant c.changes.view_is c.in_ok-text.ensures c.deref.ensures.value
    (search rules) in
    let are = rw c.deref-2.ensures.value at c.in_ok-web_spans.ensures.ok in
    merge_of-lines _ _ _ _ _ _ _ joined _ are
    ∙ rw (c.deref-3.ensures.value, c.deref-4.ensures.value, c.deref-5.ensures.value, c.deref-6.ensures.value)
    at c.in_ok-spans.ensures.ok
    ∙ ap Ok (sym c.new.ensures)
