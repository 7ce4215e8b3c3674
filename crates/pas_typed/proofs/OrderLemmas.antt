-- Items one after another, where one more is pushed behind them.
use Rattle.std.proofs.Common.{◌≡◌, refl, ap, ◌∙◌, List, [], ◌∷◌, ◌++◌, map}
use Rattle.std.proofs.lemmas.List.{map-append}
use Rattle.pas_syntax.specs.Views.{in_turn}
use Rattle.pas_typed.specs.TypedViews.{in_order}

-- each is applied to what those before it make
one_more_in_turn : {A : Type 0} (first : A) (more : List (A → A)) (last : A → A)
    → in_turn first (more ++ last ∷ []) ≡ last (in_turn first more)
one_more_in_turn first [] last = refl
one_more_in_turn first (next ∷ more) last = one_more_in_turn (next first) more last

pub pushed_in_turn : {A X : Type 0} (first : A) (view : X → A → A) (old all : List X) (last : X)
    → all ≡ old ++ last ∷ []
    → in_turn first (map view all) ≡ view last (in_turn first (map view old))
pushed_in_turn first view old all last is =
    ap (λ xs. in_turn first (map view xs)) is ∙ ap (in_turn first) (map-append view old (last ∷ []))
    ∙ one_more_in_turn first (map view old) (view last)

-- each is applied to what those behind it make
pub in_order-append : {A : Type 0} (before more : List (A → A)) (last : A)
    → in_order (before ++ more) last ≡ in_order before (in_order more last)
in_order-append [] more last = refl
in_order-append (first ∷ before) more last = ap first (in_order-append before more last)

pub pushed_in_order : {A X : Type 0} (view : X → A → A) (old all : List X) (next : X) (last : A)
    → all ≡ old ++ next ∷ []
    → in_order (map view all) last ≡ in_order (map view old) (view next last)
pushed_in_order view old all next last is =
    ap (λ xs. in_order (map view xs) last) is ∙ ap (λ fs. in_order fs last) (map-append view old (next ∷ []))
    ∙ in_order-append (map view old) (view next ∷ []) last
