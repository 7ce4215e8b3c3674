use Rattle.std.proofs.Common.{length, ◌≡◌, ℕ, ℤ, List, refl, ap, ◌∙◌, subst, to_z, of_z, w32}
use Rattle.std.specs.Global.{Vec}
use Rattle.indexmap.specs.IndexMap.{set_value_at, with_value_at}
use Rattle.std.proofs.Math.Facts.{to_z-of_z}
use Rattle.web_names.specs.Identifiers.{Name, Identifiers, changed_at, with_value}
use Rattle.web_names.specs.declared.names.Entry.{Entry}
use Rattle.web_names.specs.inner.NameIndex.{names_in, identifiers_in}
use Rattle.web_names.proofs.EntryLemmas.{AreIndexed, names_in-set_value_at, length-names_in-set_value_at}
use Rattle.web_names.proofs.EntryLemmas.{indexed-set_value_at}
use Rattle.web_names.proofs.names.Names.set.Goals as goal

pub invariant_of-self : goal.invariant_of-self
invariant_of-self c =
    let old : Entry = c.index_mut.result.now in
    let new : Entry = record old { value = to_z w32 (of_z w32 c.args.value) } in
    let change : Name → Name = λ name. record name { value = to_z w32 (of_z w32 c.args.value) } in
    let entries : List (Vec ℕ × Entry) = c.self.inside.entries.entries in
    let indexed : AreIndexed c.self.inside.options (set_value_at entries c.args.id new) c.self.inside.places =
    indexed-set_value_at c.self.inside.options entries c.self.inside.places c.args.id old new change
    c.index_mut.ensures.value (λ _. refl) refl (λ _. refl) (λ _ compared. compared)
    (record {
      limit = c.self.invariant.limit;
      printed = c.self.invariant.printed;
      finds =
          c.self.invariant.finds;
    }) in
    record { limit = indexed.limit; printed = indexed.printed; finds = indexed.finds }

pub returns-clause-value : goal.returns-clause-value
unfolding with_value
returns-clause-value c =
    let old : Entry = c.index_mut.result.now in
    let new : Entry = record old { value = to_z w32 (of_z w32 c.args.value) } in
    let change : Name → Name = λ name. record name { value = to_z w32 (of_z w32 c.args.value) } in
    let entries : List (Vec ℕ × Entry) = c.self.inside.entries.entries in
    let names : names_in (set_value_at entries c.args.id new) ≡ changed_at c.args.id change (names_in entries) =
    names_in-set_value_at change entries c.args.id old new c.index_mut.ensures.value (λ _. refl) in
    let value : to_z w32 (of_z w32 c.args.value) ≡ c.args.value = to_z-of_z c.ranges.value in
    subst (λ (held : Identifiers). identifiers_in
    (record {
      options = c.self.inside.options;
      entries = with_value_at c.self.inside.entries c.args.id new;
      places
          = c.self.inside.places;
    })
    ≡ record { options = held.options; names = with_value c.args.id c.args.value held.names }) c.self.view_is
    (λ i. record {
      options = c.self.inside.options;
      names =
          (names ∙ ap
          (λ (z : ℤ). changed_at c.args.id (λ name. record name { value = z }) (names_in entries)) value) i;
    })

pub returns-clause-count : goal.returns-clause-count
returns-clause-count c =
    let old : Entry = c.index_mut.result.now in
    let new : Entry = record old { value = to_z w32 (of_z w32 c.args.value) } in
    let entries : List (Vec ℕ × Entry) = c.self.inside.entries.entries in
    subst (λ (held : Identifiers). length (names_in (set_value_at entries c.args.id new)) ≡ length held.names)
    c.self.view_is (length-names_in-set_value_at entries c.args.id new)
