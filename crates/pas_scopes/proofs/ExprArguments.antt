-- The arguments of the code's calls of functions.
use Rattle.std.proofs.Common.{◌≡◌, refl, sym, ap, subst, ◌∙◌, ℕ, ◌+◌, List, [], ◌∷◌, ◌++◌, map}
use Rattle.std.proofs.lemmas.List.{append-nil, append_assoc}
use Rattle.pas_tokens.specs.declared.kinds.Kind.TheVariants as k
use Rattle.pas_syntax.specs.declared.tree.Exprs as code_exprs
use Rattle.pas_syntax.specs.declared.tree.MoreExpr as code_more
use Rattle.pas_syntax.specs.declared.tree.Expr.TheViews.{out-Exprs, out-MoreExpr}
use Rattle.pas_syntax.specs.Tree as tree
use Rattle.pas_syntax.specs.Tree.{Ident, Expr, Exprs}
use Rattle.pas_syntax.specs.Words.{Word, at, name_at, expr_words, exprs_words, factor_words}
use Rattle.pas_syntax.specs.Views.{in_turn, expr_in, exprs_in, more_expr_in}
use Rattle.pas_rules.specs.Marks.{Judged}
use Rattle.pas_typed.specs.Typed.{Value}
use Rattle.pas_rules.specs.Scopes.{Scopes}
use Rattle.pas_rules.specs.Expressions.{Given, bare_argument, value_of, values_of}
use Rattle.pas_rules.proofs.AsMany.{all}
use Rattle.pas_rules.proofs.ExpressionsAsMany.{value_many}
use Rattle.pas_scopes.proofs.ArgumentLemmas.{Argued, argued_words, AreArgued, givens_of}
use Rattle.pas_scopes.proofs.ExprSeen.{exprs_seen, more_seen}

module _ (scopes : Scopes) (spellings : List ℕ) (n a : ℕ) where
  -- an expression as an argument, behind a word
  abbrev pub argued_expr : Word → Expr → Argued
  argued_expr before expr = record {
    before = before;
    words = expr_words n a expr;
    argument = bare_argument (value_of scopes expr);
  }

  abbrev pub argued_more : code_more.MoreExpr → Argued
  argued_more more =
      argued_expr (at n k.Comma (out-MoreExpr more).line) (expr_in spellings (out-MoreExpr more).value)

  abbrev pub argued_exprs : Word → code_exprs.Exprs → List Argued
  argued_exprs before exprs =
      argued_expr before (expr_in spellings (out-Exprs exprs).first) ∷ map argued_more (out-Exprs exprs).more

  more_words : (more : code_more.MoreExpr) (whole : Exprs)
      → exprs_words n a (more_expr_in spellings more whole)
      ≡ exprs_words n a whole ++ (argued_more more).before ∷ (argued_more more).words
  more_words more whole = ap (λ (step : Exprs → Exprs). exprs_words n a (step whole)) (more_seen spellings more)

  turned_words : (more : List code_more.MoreExpr) (whole : Exprs)
      → exprs_words n a (in_turn whole (map (more_expr_in spellings) more))
      ≡ exprs_words n a whole ++ argued_words (map argued_more more)
  turned_words [] whole = sym (append-nil (exprs_words n a whole))
  turned_words (next ∷ more) whole =
      turned_words more (more_expr_in spellings next whole)
      ∙ ap (λ (words : List Word). words ++ argued_words (map argued_more more)) (more_words next whole)
      ∙ append_assoc (exprs_words n a whole) ((argued_more next).before ∷ (argued_more next).words)
      (argued_words (map argued_more more))

  turned_values : (more : List code_more.MoreExpr) (whole : Exprs)
      → map bare_argument (values_of scopes (in_turn whole (map (more_expr_in spellings) more)))
      ≡ map bare_argument (values_of scopes whole) ++ givens_of (map argued_more more)
  turned_values [] whole = sym (append-nil (map bare_argument (values_of scopes whole)))
  turned_values (next ∷ more) whole =
      turned_values more (more_expr_in spellings next whole)
      ∙ ap (λ (step : Exprs → Exprs). map bare_argument (values_of scopes (step whole))
      ++ givens_of (map argued_more more)) (more_seen spellings next)
      ∙ ap (λ (given : List Given). given ++ givens_of (map argued_more more)) (pushed (values_of scopes whole))
      ∙ append_assoc (map bare_argument (values_of scopes whole)) ((argued_more next).argument ∷ [])
      (givens_of (map argued_more more))
    where
      pushed : (values : List (Judged Value))
          → map bare_argument (values ++ value_of scopes (expr_in spellings (out-MoreExpr next).value) ∷ [])
          ≡ map bare_argument values ++ (argued_more next).argument ∷ []
      pushed [] = refl
      pushed (value ∷ values) = ap (λ (given : List Given). bare_argument value ∷ given) (pushed values)

  module _ (before : Word) (exprs : code_exprs.Exprs) where
    abbrev first : Expr
    first = expr_in spellings (out-Exprs exprs).first

    pub seen_words : before ∷ exprs_words n a (exprs_in spellings exprs) ≡ argued_words (argued_exprs before exprs)
    seen_words =
        ap (λ (words : List Word). before ∷ words)
        (ap (exprs_words n a) (exprs_seen spellings exprs)
        ∙ turned_words (out-Exprs exprs).more (tree.first_expr first))

    pub seen_givens : map bare_argument (values_of scopes (exprs_in spellings exprs))
        ≡ givens_of (argued_exprs before exprs)
    seen_givens =
        ap (λ (found : Exprs). map bare_argument (values_of scopes found)) (exprs_seen spellings exprs)
        ∙ turned_values (out-Exprs exprs).more (tree.first_expr first)

  pub expr_argued : (expr : Expr)
      → AreArgued (argued_expr (at n k.Comma 0) expr ∷ [])
  expr_argued expr = (all (value_of scopes expr).marks (value_many scopes n a expr), tt)

  pub more_argued : (more : List code_more.MoreExpr) → AreArgued (map argued_more more)
  more_argued [] = tt
  more_argued (next ∷ more) = (
    all (value_of scopes (expr_in spellings (out-MoreExpr next).value)).marks
        (value_many scopes n a (expr_in spellings (out-MoreExpr next).value)),
    more_argued more,
  )

-- the whole call, as the definition has it
module _ (scopes : Scopes) (spellings : List ℕ) (lead deep : ℕ) (name : Ident) (opened closed : ℕ)
    (exprs : code_exprs.Exprs) where
  abbrev pub all_argued : List Argued
  all_argued = argued_exprs scopes spellings (lead + 1) deep (at (lead + 1) k.LeftParenthesis opened) exprs

  pub as_argued : (P : List Word → List Given → Type 0)
      → P (name_at lead name ∷ (argued_words all_argued ++ at (lead + 1) k.RightParenthesis closed ∷ []))
      (givens_of all_argued)
      → P (factor_words lead deep (tree.function_call name opened (exprs_in spellings exprs) closed))
      (map bare_argument (values_of scopes (exprs_in spellings exprs)))
  as_argued P h =
      subst (P (factor_words lead deep (tree.function_call name opened (exprs_in spellings exprs) closed)))
      (sym (seen_givens scopes spellings (lead + 1) deep (at (lead + 1) k.LeftParenthesis opened) exprs))
      (subst (λ (words : List Word). P (name_at lead name ∷ (words ++ at (lead + 1) k.RightParenthesis closed ∷ []))
      (givens_of all_argued))
      (sym (seen_words scopes spellings (lead + 1) deep (at (lead + 1) k.LeftParenthesis opened) exprs)) h)
