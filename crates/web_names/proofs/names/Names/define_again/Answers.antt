use Rattle.std.proofs.Common.{length, ◌<◌, ◌≡◌, ℕ, List, true, false, Ok, Err, refl, ap, ◌∙◌, subst, sym}
use Rattle.std.specs.Global.{Vec}
use Rattle.indexmap.specs.IndexMap.{set_value_at}
use Rattle.web_names.specs.Identifiers.{Identifiers, is_ordinary, is_numeric, changed_at, with_class}
use Rattle.web_names.specs.Identifiers.{defined_again}
use Rattle.web_names.specs.declared.names.Entry.{Entry}
use Rattle.web_names.specs.declared.name_errors.NameErr.TheVariants.{Before, Appeared}
use Rattle.web_names.specs.inner.NameIndex.{names_in}
use Rattle.web_names.proofs.ClassTests.{same_as_numeric, ordinary, not_ordinary, defined_again-before}
use Rattle.web_names.proofs.ClassTests.{defined_again-appeared, defined_again-done}
use Rattle.web_names.proofs.EntryLemmas.{AreIndexed, class_of-names_in, names_in-set_value_at}
use Rattle.web_names.proofs.EntryLemmas.{length-names_in-set_value_at, indexed-set_value_at}
use Rattle.web_names.proofs.FormIndex.{macro_not_compared}
use Rattle.web_names.proofs.names.Names.define_again.Goals as goal

pub returns-then-ne-clause-refused : goal.returns-then-ne-clause-refused
returns-then-ne-clause-refused c =
    let macro : is_ordinary c.index.result.now.class ≡ false =
    not_ordinary c.index.result.now.class (sym c.ne.ensures ∙ c.if-ne.true) in
    subst (λ (held : Identifiers). defined_again c.args.index c.args.class held.names ≡ Err Before) c.self.view_is
    (defined_again-before c.args.index c.args.class (names_in c.self.inside.entries.entries)
    (ap is_ordinary (class_of-names_in c.self.inside.entries.entries c.args.index c.index.result.now
    c.index.ensures) ∙ macro))

pub returns-then-eq-clause-refused : goal.returns-then-eq-clause-refused
returns-then-eq-clause-refused c =
    let is_one : is_ordinary c.index.result.now.class ≡ true =
    ordinary c.index.result.now.class (sym c.ne.ensures ∙ c.if-ne.false) in
    let numeric : is_numeric c.args.class ≡ true =
    sym (same_as_numeric c.args.class) ∙ sym c.eq.ensures ∙ c.if-eq.true in
    subst (λ (held : Identifiers). defined_again c.args.index c.args.class held.names ≡ Err Appeared) c.self.view_is
    (defined_again-appeared c.args.index c.args.class (names_in c.self.inside.entries.entries)
    (ap is_ordinary (class_of-names_in c.self.inside.entries.entries c.args.index c.index.result.now
    c.index.ensures) ∙ is_one) numeric)

pub invariant_of-self : goal.invariant_of-self
invariant_of-self c =
    let old : Entry = c.index_mut.result.now in
    let new : Entry = record old { class = c.args.class } in
    let entries : List (Vec ℕ × Entry) = c.self.inside.entries.entries in
    let indexed : AreIndexed c.self.inside.options (set_value_at entries c.args.index new) c.self.inside.places =
    indexed-set_value_at c.self.inside.options entries c.self.inside.places c.args.index old new
    (with_class c.args.class) c.index_mut.ensures.value (λ _. refl) refl (λ _. refl)
    (λ name. macro_not_compared c.args.class name c.requires.class)
    (record {
      limit = c.self.invariant.limit;
      printed = c.self.invariant.printed;
      finds =
          c.self.invariant.finds;
    }) in
    record { limit = indexed.limit; printed = indexed.printed; finds = indexed.finds }

pub returns-clause-ok : goal.returns-clause-ok
returns-clause-ok c =
    let old : Entry = c.index_mut.result.now in
    let new : Entry = record old { class = c.args.class } in
    let entries : List (Vec ℕ × Entry) = c.self.inside.entries.entries in
    let is_one : is_ordinary c.index.result.now.class ≡ true =
    ordinary c.index.result.now.class (sym c.ne.ensures ∙ c.if-ne.false) in
    let numeric : is_numeric c.args.class ≡ false =
    sym (same_as_numeric c.args.class) ∙ sym c.eq.ensures ∙ c.if-eq.false in
    let names : names_in (set_value_at entries c.args.index new) ≡ changed_at c.args.index (with_class c.args.class)
    (names_in entries) =
    names_in-set_value_at (with_class c.args.class) entries c.args.index old new c.index_mut.ensures.value
    (λ _. refl) in
    subst (λ (held : Identifiers). defined_again c.args.index c.args.class held.names ≡ Ok
    (c.args.index, names_in (set_value_at entries c.args.index new))) c.self.view_is
    (defined_again-done c.args.index c.args.class (names_in entries)
    (ap is_ordinary (class_of-names_in entries c.args.index c.index.result.now c.index.ensures) ∙ is_one)
    numeric
    ∙ (λ i. Ok (c.args.index, sym names i)))

pub returns-clause-count : goal.returns-clause-count
returns-clause-count c =
    let old : Entry = c.index_mut.result.now in
    let new : Entry = record old { class = c.args.class } in
    let entries : List (Vec ℕ × Entry) = c.self.inside.entries.entries in
    subst (λ (held : Identifiers). length (names_in (set_value_at entries c.args.index new)) ≡ length held.names)
    c.self.view_is (length-names_in-set_value_at entries c.args.index new)

pub returns-clause-within : goal.returns-clause-within
returns-clause-within c =
    let old : Entry = c.index_mut.result.now in
    let new : Entry = record old { class = c.args.class } in
    let entries : List (Vec ℕ × Entry) = c.self.inside.entries.entries in
    let size : length (names_in (set_value_at entries c.args.index new)) ≡ length c.args.self.now.names =
    subst (λ (held : Identifiers). length (names_in (set_value_at entries c.args.index new)) ≡ length held.names)
    c.self.view_is (length-names_in-set_value_at entries c.args.index new) in
    subst (λ n. c.args.index < n) (sym size) c.requires.within
