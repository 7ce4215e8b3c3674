use Rattle.std.proofs.Common.{ℕ, ◌+◌, take}
use Rattle.pas_tokens.specs.declared.kinds.Kind.TheVariants as k
use Rattle.pas_syntax.specs.Tree.{Ident}
use Rattle.pas_syntax.specs.Words.{at, name_at}
use Rattle.pas_scopes.specs.ScopeViews.{scopes_view, IsClear}
use Rattle.pas_types.proofs.ActualLemmas.{argued_behind, behind_argued, first_actual}
use Rattle.pas_scopes.proofs.PassedLemmas.{SoFar}
use Rattle.pas_types.proofs.calls.passed_to.Given as goal

abbrev pub invariant-loop-index : goal.invariant-loop-index
invariant-loop-index l =
    let scopes = scopes_view l.scopes in
    let spellings = l.scopes.spellings.now in
    IsClear scopes → (n : ℕ) → (name : Ident)
    → SoFar (argued_behind scopes spellings (n + 1)) (behind_argued scopes spellings (n + 1))
    (first_actual scopes spellings n name l.arguments) l.arguments.items.more (name_at n name)
    (at (n + 1) k.RightParenthesis l.arguments.closed) spellings scopes.outer.types l.parameters
    (take l.index l.more-items) l.passed l.last
