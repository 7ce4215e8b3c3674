use Rattle.std.proofs.Common.{◌≡◌, ℕ, ◌++◌, [], ◌∷◌, true, List, length, Ok}
use Rattle.std.proofs.Common.{subst, sym, ap, ◌∙◌, arith, insert, is_ok, if◌then◌else◌}
use Rattle.web_names.specs.SectionNames.{with_section}
use Rattle.web_names.specs.inner.SectionOrder.{texts_of, IsOrderOf, TakesNewAt}
use Rattle.web_names.proofs.NewSection.{with_section-kept, texts_of-insert_key}
use Rattle.web_names.proofs.sections.Sections.add.Goals as goal

pub returns-clause-ok : goal.returns-clause-ok
returns-clause-ok c =
    let names : List (List ℕ) = texts_of c.self.inside.names.keys in
    let name : List ℕ = c.args.name.now in
    let takes : TakesNewAt names c.self.inside.order.items name c.in-Some.index =
    rw (← c.as_slice.ensures.keys, ← c.deref.ensures.value) c.in-Some.ensures.some in
    let kept : with_section name names ≡ Ok (length names, names ++ name ∷ []) =
    with_section-kept name names takes.compatible (omega (arith, c.self.invariant.size, c.self.invariant.limit)) in
    let texts : texts_of c.insert.new.self.keys ≡ names ++ name ∷ [] =
    ap texts_of c.in_ok-insert.ensures.keys
    ∙ texts_of-insert_key name c.self.inside.names.keys c.in_ok-copy.copy (rw c.self.view_is c.requires)
    c.in_ok-copy.ensures.items in
    let place : length names ≡ c.len-place.result = omega (arith, c.self.invariant.size) in
    rw (← c.self.view_is) (kept ∙ (λ i. Ok (place i, sym texts i)))

pub invariant_of-self-2 : goal.invariant_of-self-2
invariant_of-self-2 c =
    let names : List (List ℕ) = texts_of c.self.inside.names.keys in
    let name : List ℕ = c.args.name.now in
    let index : ℕ = c.in-Some.index in
    let takes : TakesNewAt names c.self.inside.order.items name index =
    rw (← c.as_slice.ensures.keys, ← c.deref.ensures.value) c.in-Some.ensures.some in
    let texts : texts_of c.insert.new.self.keys ≡ names ++ name ∷ [] =
    ap texts_of c.in_ok-insert.ensures.keys
    ∙ texts_of-insert_key name c.self.inside.names.keys c.in_ok-copy.copy (rw c.self.view_is c.requires)
    c.in_ok-copy.ensures.items in
    let place : c.len-place.result ≡ length names = omega (arith, c.self.invariant.size) in
    let added : is_ok c.insert-2.result ≡ true = ap is_ok c.unwrap.ensures in
    let places : c.insert-2.new.self.items ≡ insert c.self.inside.order.items index (length names) =
    c.insert-2.ensures.items
    ∙ ap (λ b. if b then insert c.reserve.new.self.items index c.len-place.result else c.reserve.new.self.items) added
    ∙ (λ i. insert (c.reserve.ensures.items i) index (place i)) in
    let whole : IsOrderOf (names ++ name ∷ []) (insert c.self.inside.order.items index (length names)) =
    takes.ordered (omega (arith, c.self.invariant.size, c.self.invariant.limit)) in
    subst (λ texts. IsOrderOf texts c.insert-2.new.self.items) (sym texts)
    (subst (IsOrderOf (names ++ name ∷ [])) (sym places) whole)
