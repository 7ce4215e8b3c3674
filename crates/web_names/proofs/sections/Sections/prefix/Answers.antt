use Rattle.std.proofs.Common.{◌≡◌, ℕ, ◌+◌, true, false, List, sym, ◌∙◌, arith, rules}
use Rattle.std.proofs.lemmas.List.{get_or_default}
use Rattle.std.specs.Prelude.{slice_index}
use Rattle.web_names.specs.inner.SectionOrder.{texts_of, is_begun_at, IsLowerBound}
use Rattle.web_names.proofs.PrefixPlaces.{prefix_of_none, prefix_of_one, prefix_of_several}
use Rattle.web_names.proofs.OrderLemmas.{begun, none_begins, no_other_begins, places_differ}
use Rattle.web_names.proofs.sections.Sections.prefix.Goals as goal

pub returns-then-not-begins_at-clause-refused : goal.returns-then-not-begins_at-clause-refused
returns-then-not-begins_at-clause-refused c =
    let names : List (List ℕ) = texts_of c.self.inside.names.keys in
    let order : List ℕ = c.self.inside.order.items in
    let lower : IsLowerBound names order c.args.name.now c.lower_bound-at.result =
    rw (← c.as_slice-names.ensures.keys, ← c.deref.ensures.value) c.lower_bound-at.ensures in
    let fails : is_begun_at names order c.lower_bound-at.result c.args.name.now ≡ false =
    rw (← c.as_slice-names.ensures.keys, ← c.deref-2.ensures.value) (sym c.begins_at.ensures ∙ search rules) in
    rw (← c.self.view_is)
    (prefix_of_none c.args.name.now names
    (none_begins names order c.args.name.now _ c.self.invariant lower fails))

pub returns-then-begins_at-clause-refused : goal.returns-then-begins_at-clause-refused
returns-then-begins_at-clause-refused c =
    let names : List (List ℕ) = texts_of c.self.inside.names.keys in
    let order : List ℕ = c.self.inside.order.items in
    let bound : ℕ = c.lower_bound-at.result in
    let first : is_begun_at names order bound c.args.name.now ≡ true =
    rw (← c.as_slice-names.ensures.keys, ← c.deref-2.ensures.value) (sym c.begins_at.ensures ∙ search rules) in
    let second : is_begun_at names order (bound + 1) c.args.name.now ≡ true =
    rw (← c.as_slice-names.ensures.keys, ← c.deref-3.ensures.value) (sym c.begins_at-2.ensures ∙ search rules) in
    let here = begun names order bound c.args.name.now first in
    let there = begun names order (bound + 1) c.args.name.now second in
    rw (← c.self.view_is)
    (prefix_of_several c.args.name.now names (slice_index order bound) (slice_index order (bound + 1))
    (places_differ names order c.self.invariant.rises bound (bound + 1) (omega arith) there.0)
    (c.self.invariant.rises.within bound here.0)
    (c.self.invariant.rises.within (bound + 1) there.0) here.1 there.1)

pub returns-clause-ok : goal.returns-clause-ok
returns-clause-ok c =
    let names : List (List ℕ) = texts_of c.self.inside.names.keys in
    let order : List ℕ = c.self.inside.order.items in
    let bound : ℕ = c.lower_bound-at.result in
    let lower : IsLowerBound names order c.args.name.now bound =
    rw (← c.as_slice-names.ensures.keys, ← c.deref.ensures.value) c.lower_bound-at.ensures in
    let first : is_begun_at names order bound c.args.name.now ≡ true =
    rw (← c.as_slice-names.ensures.keys, ← c.deref-2.ensures.value) (sym c.begins_at.ensures ∙ search rules) in
    let second : is_begun_at names order (bound + 1) c.args.name.now ≡ false =
    rw (← c.as_slice-names.ensures.keys, ← c.deref-3.ensures.value) (sym c.begins_at-2.ensures ∙ search rules) in
    let here = begun names order bound c.args.name.now first in
    let place : slice_index order bound ≡ c.from.result =
    get_or_default order bound 0 c.index.result.now here.0 ∙ sym c.index.ensures ∙ sym c.from.ensures in
    rw (← c.self.view_is, ← place)
    (prefix_of_one c.args.name.now names (slice_index order bound)
    (c.self.invariant.rises.within bound here.0) here.1
    (no_other_begins names order c.args.name.now bound c.self.invariant lower second))
