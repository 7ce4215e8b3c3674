use Rattle.std.proofs.Common.{◌≡◌, sym, ap, ◌∙◌, suc, ◌-◌, arith, List, [], ◌∷◌, length, map, Some}
use Rattle.std.specs.List.{slice_get}
use Rattle.pas_syntax.specs.declared.tree.Behind.{Behind as CodeBehind}
use Rattle.pas_syntax.specs.Nearest.{last_behind}
use Rattle.pas_syntax.specs.Views.{behind_in, constant_in}
use Rattle.pas_syntax.proofs.cases.last_of.Goals as goal

-- the last of items is the one at the end of their list
last_seen : {A X : Type 0} (view : X → A) (first : A) (xs : List (CodeBehind X)) (x : CodeBehind X)
    → slice_get xs (length xs - 1) ≡ Some x → view x.item ≡ last_behind first (map (behind_in view) xs)
last_seen view first [] x e = absurd cc
last_seen view first (y ∷ []) x e = let is : y ≡ x = cc in ap (λ b. view b.item) (sym is)
last_seen view first (y ∷ (z ∷ zs)) x e =
    let at : suc (suc (length zs)) - 1 ≡ suc (length zs) = omega arith in
    let behind : suc (length zs) - 1 ≡ length zs = omega arith in
    last_seen view (view y.item) (z ∷ zs) x (ap (slice_get (z ∷ zs)) behind
    ∙ sym (ap (slice_get (y ∷ (z ∷ zs))) at) ∙ e)

pub returns-in-Some : goal.returns-in-Some
returns-in-Some c = λ spellings.
    last_seen (constant_in spellings) (constant_in spellings c.args.constants.now.first) c.args.constants.now.more
    c.in-Some.behind.now (ap (λ xs. slice_get xs (length xs - 1)) (sym c.as_slice.ensures)
    ∙ sym c.in-Some.ensures.value)
