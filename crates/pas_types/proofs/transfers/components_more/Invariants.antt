use Rattle.std.proofs.Common.{◌≡◌, ℕ, take, map}
use Rattle.std.specs.Prelude.{Some}
use Rattle.pas_syntax.specs.Words.{Word}
use Rattle.pas_typed.specs.Types.{PasType, component_of}
use Rattle.pas_typed.specs.Typed.{Value}
use Rattle.pas_typed.specs.TypeViews.{type_view}
use Rattle.pas_typed.specs.TypedViews.{value_view}
use Rattle.pas_types.specs.inner.Transfers.{component_of_item}
use Rattle.pas_scopes.specs.ScopeViews.{scopes_view, IsClear}
use Rattle.pas_scopes.specs.Answers.{IsQuiet}
use Rattle.pas_scopes.specs.inner.Listed.{Item, item_words, items_marks, items_behind, Gathered}
use Rattle.std.proofs.Common.{[], ◌∷◌, false}
use Rattle.pas_types.proofs.transfers.components_more.Given as goal

abbrev pub invariant-loop-index : goal.invariant-loop-index
invariant-loop-index l =
    let scopes = scopes_view l.scopes in
    let table = scopes.outer.types in
    IsClear scopes → (n : ℕ) (component : PasType) → component_of table (type_view l.file) ≡ Some component
    → (name : Word) (first : Item Value)
    → IsQuiet (name ∷ item_words (first ∷ [])) (items_marks (first ∷ [])) false
    → Gathered value_view (map value_view l.initial.values) name first
    (items_behind scopes l.scopes.spellings.now n (component_of_item table (Some component)) (take l.index
    l.more-items)) l.values
