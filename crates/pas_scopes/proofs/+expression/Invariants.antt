use Rattle.std.proofs.Common.{ℕ, List, ◌∷◌, ◌++◌, map, take}
use Rattle.pas_syntax.specs.Tree as tree
use Rattle.pas_syntax.specs.Tree.{Ident, Exprs, Variable}
use Rattle.pas_syntax.specs.Views.{in_turn, ident_in, selector_in, more_expr_in}
use Rattle.pas_syntax.specs.Words.{Word, exprs_words, variable_words}
use Rattle.pas_typed.specs.Typed.{Place}
use Rattle.pas_typed.specs.TypedViews.{place_view}
use Rattle.pas_rules.specs.Marks.{Judged}
use Rattle.pas_rules.specs.Expressions.{place_of, elements_at}
use Rattle.pas_scopes.specs.ScopeViews.{scopes_view, IsClear}
use Rattle.pas_scopes.specs.Answers.{end_in, EndsAs, StandsAs}
use Rattle.std.proofs.Common.{◌+◌}
use Rattle.pas_tokens.specs.declared.kinds.Kind.TheVariants as k
use Rattle.pas_syntax.specs.declared.tree.Expr.TheViews.{out-Exprs}
use Rattle.pas_syntax.specs.Words.{at, name_at}
use Rattle.pas_syntax.specs.Views.{expr_in}
use Rattle.pas_scopes.proofs.ExprArguments.{argued_expr, argued_more, more_argued}
use Rattle.pas_scopes.proofs.PassedLemmas.{SoFar}
use Rattle.pas_scopes.proofs.+expression.Given as goal

abbrev pub invariant-variables::more_elements-loop-more :
    goal.invariant-variables::more_elements-loop-more
invariant-variables::more_elements-loop-more l =
    let s = l.scopes.spellings.now in
    IsClear (scopes_view l.scopes) → (lead deep : ℕ) (words : List Word) (word : Word) (part : Judged Place)
    (before : Exprs)
    → StandsAs (words ++ word ∷ exprs_words lead deep before) (elements_at (scopes_view l.scopes) part before)
    (place_view l.fn.found.value) (end_in l.fn.found.end)
    → StandsAs (words ++ word ∷ exprs_words lead deep
    (in_turn before (map (more_expr_in s) (take l.more-index l.indexes))))
    (elements_at (scopes_view l.scopes) part (in_turn before (map (more_expr_in s) (take l.more-index l.indexes))))
    (place_view l.found.value) (end_in l.found.end)

abbrev pub invariant-variables::place_of-loop-selector :
    goal.invariant-variables::place_of-loop-selector
invariant-variables::place_of-loop-selector l =
    let s = l.scopes.spellings.now in
    let so_far : Variable = in_turn (tree.whole (ident_in s l.variable.name)) (map (selector_in s)
    (take l.selector-index l.selector-items)) in
    IsClear (scopes_view l.scopes) → (lead deep : ℕ)
    → EndsAs (variable_words lead deep so_far) (place_of (scopes_view l.scopes) so_far) (place_view l.found.value)
    (end_in l.found.end)

abbrev pub invariant-functions::passed_to-loop-index :
    goal.invariant-functions::passed_to-loop-index
invariant-functions::passed_to-loop-index l =
    IsClear (scopes_view l.scopes) → (lead deep opened : ℕ) → (name : Ident)
    → SoFar (argued_more (scopes_view l.scopes) l.scopes.spellings.now (lead + 1) deep)
    (more_argued (scopes_view l.scopes) l.scopes.spellings.now (lead + 1) deep)
    (argued_expr (scopes_view l.scopes) l.scopes.spellings.now (lead + 1) deep
    (at (lead + 1) k.LeftParenthesis opened) (expr_in l.scopes.spellings.now (out-Exprs l.arguments).first))
    (out-Exprs l.arguments).more (name_at lead name) (at (lead + 1) k.RightParenthesis l.closed)
    l.scopes.spellings.now (scopes_view l.scopes).outer.types l.parameters (take l.index l.more-items) l.passed l.last
