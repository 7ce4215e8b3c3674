use Rattle.std.proofs.Common.{◌≡◌, ◌∷◌, [], ◌++◌, List, length, map, refl, sym, ap, ◌∙◌, append_assoc, append-nil, arith}
use Rattle.std.proofs.lemmas.List.{map-append}
use Rattle.std.specs.Vec.Iter.{into_iter_items}
use Rattle.pas_types.proofs.programs.headings_of.Goals as goal

nothing_left : {X : Type 0} (l : List X) → length l ≡ 0 → l ≡ []
nothing_left [] h = refl
nothing_left (x ∷ xs) h = absurd (omega arith)

pub loop-known-preserved : goal.loop-known-preserved
loop-known-preserved c =
    let at = c.loop-known in
    let known = c.in-Some.known in
    let steps : into_iter_items at.known-iterator ≡ known ∷ into_iter_items c.next.new.self = c.in-Some.ensures.steps.0
    in (
      append_assoc at.yielded (known ∷ []) _ ∙ rw (← steps) at.invariant.0,
      c.in_ok-push.ensures.ok ∙ (ap (λ found. found ++ known.heading ∷ []) at.invariant.1
          ∙ sym (map-append (λ one. one.heading) at.yielded (known ∷ []))),
      let was = at.invariant.2 in
          let gone = c.in-Some.ensures.steps.1 in
          let short = ap length steps in
          omega arith,
    )

pub returns : goal.returns
returns c =
    let at = c.loop-known in
    let none = c.in-None.ensures.steps in
    let empty : into_iter_items at.known-iterator ≡ [] = nothing_left _ (sym at.invariant.2 ∙ none.0) in
    let all = sym (append-nil at.yielded) ∙ rw empty at at.invariant.0 ∙ c.into_iter-known-iterator.ensures.into_iter_gives.0
    in at.invariant.1 ∙ ap (map (λ known. known.heading)) all
