use Rattle.std.proofs.Common.{◌≡◌, ℕ, take, true, map}
use Rattle.std.specs.Prelude.{is_some, Some}
use Rattle.pas_syntax.specs.Words.{Word}
use Rattle.pas_typed.specs.Types.{component_of}
use Rattle.pas_typed.specs.Typed.{Place}
use Rattle.pas_typed.specs.TypeOf.{type_of_place}
use Rattle.pas_typed.specs.TypeViews.{type_view}
use Rattle.pas_typed.specs.TypedViews.{place_view}
use Rattle.pas_rules.specs.Calls.{read_item}
use Rattle.pas_scopes.specs.ScopeViews.{scopes_view, IsClear}
use Rattle.pas_scopes.specs.Answers.{IsQuiet}
use Rattle.pas_scopes.specs.inner.Listed.{Item, item_words, items_marks, items_behind, Gathered}
use Rattle.std.proofs.Common.{[], ◌∷◌, false}
use Rattle.pas_types.proofs.transfers.read_more.Given as goal

abbrev pub invariant-loop-index : goal.invariant-loop-index
invariant-loop-index l =
    let scopes = scopes_view l.scopes in
    let table = scopes.outer.types in
    IsClear scopes → (n : ℕ) (place : Place) → type_of_place place ≡ type_view l.file
    → is_some (component_of table (type_view l.file)) ≡ true
    → (name : Word) (first : Item Place)
    → IsQuiet (name ∷ item_words (first ∷ [])) (items_marks (first ∷ [])) false
    → Gathered place_view (map place_view l.initial.places) name first
    (items_behind scopes l.scopes.spellings.now n (read_item table (Some place)) (take l.index l.more-items)) l.places
