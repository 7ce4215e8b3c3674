use Rattle.std.proofs.Common.{ℕ, take, map}
use Rattle.pas_syntax.specs.Words.{Word}
use Rattle.pas_typed.specs.Typed.{Item as SpecItem}
use Rattle.pas_typed.specs.TypedViews.{item_view}
use Rattle.pas_types.specs.inner.Transfers.{item_written}
use Rattle.pas_scopes.specs.ScopeViews.{scopes_view, IsClear}
use Rattle.pas_scopes.specs.Answers.{IsQuiet}
use Rattle.pas_scopes.specs.inner.Listed.{Item, item_words, items_marks, items_behind, Gathered}
use Rattle.std.proofs.Common.{[], ◌∷◌, false}
use Rattle.pas_types.proofs.transfers.items_more.Given as goal

abbrev pub invariant-loop-index : goal.invariant-loop-index
invariant-loop-index l =
    let scopes = scopes_view l.scopes in
    let table = scopes.outer.types in
    IsClear scopes → (n : ℕ) (name : Word) (first : Item SpecItem)
    → IsQuiet (name ∷ item_words (first ∷ [])) (items_marks (first ∷ [])) false
    → Gathered (item_view l.scopes.spellings.now) (map (item_view l.scopes.spellings.now) l.initial.items) name first
    (items_behind scopes l.scopes.spellings.now n (item_written table) (take l.index
    l.more-items)) l.items
