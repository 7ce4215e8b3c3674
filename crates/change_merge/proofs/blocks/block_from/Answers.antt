use Rattle.std.proofs.Common.{◌+◌, ◌-◌, ◌<◌, ◌≤◌, [], length, drop, ap, ◌∙◌, arith}
use Rattle.std.proofs.lemmas.List.{length-map, length-take}
use Rattle.std.specs.List.{prefix_len}
use Rattle.change_merge.specs.Changes.{is_empty}
use Rattle.change_merge.specs.inner.Spans.{line_at, lines_at}
use Rattle.change_merge.specs.declared.marks.Mark.TheVariants.{New, End}
use Rattle.change_merge.proofs.WithChangeLemmas.{lines_at-range}
use Rattle.change_merge.proofs.PartsLemmas.{mark_within, old_part-no_new, old_part-no_old, old_part-no_end}
use Rattle.change_merge.proofs.PartsLemmas.{old_part-block, no_old_lines, some_old_lines}
use Rattle.change_merge.proofs.blocks.block_from.Goals as goal

pub returns-then-not-is_mark_at-clause-fault : goal.returns-then-not-is_mark_at-clause-fault
returns-then-not-is_mark_at-clause-fault c =
    rw (c.into.ensures, c.at.ensures)
    (old_part-no_new _ c.args.place c.args.from c.next_mark-new_mark.result
    (record { place = c.args.place; bytes = [] }) c.next_mark-new_mark.ensures.value
    (λ new. let is = c.is_mark_at.ensures.1 new in let not = c.if-not-is_mark_at.true in cc))

pub next_mark-end_mark-requires-clause-from : goal.next_mark-end_mark-requires-clause-from
next_mark-end_mark-requires-clause-from c =
    let within = mark_within (lines_at c.args.text.now c.args.spans.now) c.next_mark-new_mark.result New
    (c.is_mark_at.ensures.0 c.if-not-is_mark_at.false) in
    omega (arith, rw (length-map c.args.spans.now (line_at c.args.text.now)) at within)

pub returns-then-first_old-new_mark-clause-fault : goal.returns-then-first_old-new_mark-clause-fault
returns-then-first_old-new_mark-clause-fault c =
    let empty = c.empty_lines.ensures.value
    ∙ ap (prefix_len is_empty)
    (lines_at-range c.args.text.now c.args.spans.now c.args.from c.next_mark-new_mark.result) in
    let within : c.empty_lines.result ≤ c.next_mark-new_mark.result - c.args.from =
    omega (
      arith,
      c.empty_lines.ensures.within,
      length-take (c.next_mark-new_mark.result - c.args.from)
          (drop c.args.from c.args.spans.now),
    ) in
    rw (c.into-then-first_old-new_mark.ensures, c.at-then-first_old-new_mark.ensures)
    (old_part-no_old _ c.args.place c.args.from c.next_mark-new_mark.result
    (record { place = c.args.place; bytes = [] }) c.next_mark-new_mark.ensures.value
    (c.is_mark_at.ensures.0 c.if-not-is_mark_at.false)
    (no_old_lines _ _ _ _ empty within c.if-first_old-new_mark.true))

pub returns-then-not-is_mark_at-2-clause-fault : goal.returns-then-not-is_mark_at-2-clause-fault
returns-then-not-is_mark_at-2-clause-fault c =
    let empty = c.empty_lines.ensures.value
    ∙ ap (prefix_len is_empty)
    (lines_at-range c.args.text.now c.args.spans.now c.args.from c.next_mark-new_mark.result) in
    let within : c.empty_lines.result ≤ c.next_mark-new_mark.result - c.args.from =
    omega (
      arith,
      c.empty_lines.ensures.within,
      length-take (c.next_mark-new_mark.result - c.args.from)
          (drop c.args.from c.args.spans.now),
    ) in
    let some : c.args.from + c.empty_lines.result < c.next_mark-new_mark.result =
    omega (arith, c.next_mark-new_mark.ensures.value) in
    let in_lines : c.next_mark-new_mark.result ≤ length (lines_at c.args.text.now c.args.spans.now) =
    rw (length-map c.args.spans.now (line_at c.args.text.now)) c.next_mark-new_mark.ensures.within in
    rw (c.into-then-not-is_mark_at-2.ensures, c.at-then-not-is_mark_at-2.ensures)
    (old_part-no_end _ c.args.place c.args.from c.next_mark-new_mark.result c.next_mark-end_mark.result
    (record { place = c.args.place; bytes = [] }) _ _ c.next_mark-new_mark.ensures.value
    (c.is_mark_at.ensures.0 c.if-not-is_mark_at.false)
    (some_old_lines _ _ _ _ (record { place = c.args.place; bytes = [] }) empty within some in_lines)
    c.next_mark-end_mark.ensures.value
    (λ end. let is = c.is_mark_at-2.ensures.1 end in let not = c.if-not-is_mark_at-2.true in cc))

pub returns-clause-ok : goal.returns-clause-ok
returns-clause-ok c =
    let empty = c.empty_lines.ensures.value
    ∙ ap (prefix_len is_empty)
    (lines_at-range c.args.text.now c.args.spans.now c.args.from c.next_mark-new_mark.result) in
    let within : c.empty_lines.result ≤ c.next_mark-new_mark.result - c.args.from =
    omega (
      arith,
      c.empty_lines.ensures.within,
      length-take (c.next_mark-new_mark.result - c.args.from)
          (drop c.args.from c.args.spans.now),
    ) in
    let some : c.args.from + c.empty_lines.result < c.next_mark-new_mark.result =
    omega (arith, c.next_mark-new_mark.ensures.value) in
    let in_lines : c.next_mark-new_mark.result ≤ length (lines_at c.args.text.now c.args.spans.now) =
    rw (length-map c.args.spans.now (line_at c.args.text.now)) c.next_mark-new_mark.ensures.within in
    old_part-block _ c.args.place c.args.from c.next_mark-new_mark.result c.next_mark-end_mark.result
    (record { place = c.args.place; bytes = [] }) _ _ c.next_mark-new_mark.ensures.value
    (c.is_mark_at.ensures.0 c.if-not-is_mark_at.false)
    (some_old_lines _ _ _ _ (record { place = c.args.place; bytes = [] }) empty within some in_lines)
    c.next_mark-end_mark.ensures.value (c.is_mark_at-2.ensures.0 c.if-not-is_mark_at-2.false)

pub returns-clause-in_order : goal.returns-clause-in_order
returns-clause-in_order c =
    let within : c.empty_lines.result ≤ c.next_mark-new_mark.result - c.args.from =
    omega (
      arith,
      c.empty_lines.ensures.within,
      length-take (c.next_mark-new_mark.result - c.args.from)
          (drop c.args.from c.args.spans.now),
    ) in
    let ends = mark_within (lines_at c.args.text.now c.args.spans.now) c.next_mark-end_mark.result End
    (c.is_mark_at-2.ensures.0 c.if-not-is_mark_at-2.false) in
    let in_spans = rw (length-map c.args.spans.now (line_at c.args.text.now)) at ends in
    record {
      some_old = omega (arith, c.next_mark-new_mark.ensures.value);
      marks = omega
          (arith, c.next_mark-end_mark.ensures.value);
      within = in_spans;
    }
