-- What functions that check the code's calls of functions answer, by what they answer of the arguments.
use Rattle.std.proofs.Common.{◌≡◌, refl, sym, ap, subst, ◌∙◌, ℕ, zero, suc, ◌+◌, ◌<◌, ◌≤◌, arith, List, []}
use Rattle.std.proofs.Common.{◌∷◌, ◌++◌, length, map, take, drop, get_or, Some, None, Result, Ok, Err}
use Rattle.std.specs.Prelude.{slice_get}
use Rattle.std.proofs.lemmas.Option.{none-some}
use Rattle.wb_base.specs.declared.faults.TheConstants.{WRONG_TYPE}
use Rattle.pas_tokens.specs.declared.kinds.Kind.TheVariants as k
use Rattle.pas_tokens.specs.Cutting.{wrong}
use Rattle.pas_syntax.specs.declared.tree.Exprs as code_exprs
use Rattle.pas_syntax.specs.declared.tree.MoreExpr as code_more
use Rattle.pas_syntax.specs.declared.tree.Expr.TheViews.{out-Exprs, out-MoreExpr}
use Rattle.pas_syntax.specs.Tree as tree
use Rattle.pas_syntax.specs.Tree.{Ident, Expr, Exprs}
use Rattle.pas_syntax.specs.Words.{Word, at, name_at, expr_words, factor_words}
use Rattle.pas_syntax.specs.Views.{expr_in, exprs_in}
use Rattle.pas_typed.specs.declared.typed.Variable.{Variable as CodeVariable}
use Rattle.pas_typed.specs.declared.typed.Passed as code_passed
use Rattle.pas_typed.specs.TypedViews.{passed_views}
use Rattle.pas_typed.specs.Types.{Table}
use Rattle.pas_typed.specs.Typed.{Value, Passed}
use Rattle.pas_scopes.specs.declared.stop.Stop.{Stop}
use Rattle.pas_scopes.specs.declared.judged.Judged.{Judged as CodeJudged}
use Rattle.pas_rules.specs.Marks.{Marks, Judged, at_first}
use Rattle.pas_rules.specs.Scopes.{Scopes}
use Rattle.pas_rules.specs.Expressions.{Demand, Given, bare_argument, value_of, values_of}
use Rattle.pas_scopes.specs.Stopping.{found_before}
use Rattle.pas_scopes.specs.Answers.{Ending, end_in, settled_by, EndsAs, StopsBy, StandsAs, FailsBy, Answers}
use Rattle.pas_scopes.specs.Answers.{Closes}
use Rattle.pas_scopes.specs.Arguments.{taken_by, taken_as, plainly, passing_part, sole_part}
use Rattle.pas_scopes.proofs.ArgumentLemmas.{Argued, AreArgued}
use Rattle.pas_scopes.proofs.FitLemmas.{bare_taken, bare_many}
use Rattle.pas_scopes.proofs.ExprArguments.{argued_expr, argued_more, as_argued, more_argued}
use Rattle.pas_scopes.proofs.CallAnswers.{settled_is, unsettled_is, closes_answers, sole_words, sole}
use Rattle.pas_scopes.proofs.CallAnswers.{sole_fails, sole_ends, sole_short, sole_many, variables_of}
use Rattle.pas_scopes.proofs.CallAnswers.{whole_words, whole}

pub got_none : {A : Type 0} (xs : List A) → None ≡ slice_get xs 0 → xs ≡ []
got_none [] h = refl
got_none (x ∷ xs) h = absurd (none-some x h)

pub got_first : {A : Type 0} (xs : List A) (x : A) → Some x ≡ slice_get xs 0 → xs ≡ x ∷ drop 1 xs
got_first [] x h = absurd (none-some x (sym h))
got_first (first ∷ xs) x h = let same : x ≡ first = cc in ap (λ (head : _). head ∷ xs) (sym same)

pub taken_split : {A : Type 0} (xs all : List A) (i : ℕ) (x : A) → xs ≡ all → i < length xs → x ≡ get_or xs i x
    → all ≡ take i xs ++ x ∷ drop (suc i) xs
taken_split {A = A} xs all i x same within at =
    sym same ∙ split xs i within ∙ ap (λ (item : A). take i xs ++ item ∷ drop (suc i) xs) (sym at)
  where
    split : (xs : List A) (i : ℕ) → i < length xs → xs ≡ take i xs ++ get_or xs i x ∷ drop (suc i) xs
    split [] i h = absurd (omega (arith, h))
    split (first ∷ xs) zero h = refl
    split (first ∷ xs) (suc i) h = ap (λ rest. first ∷ rest) (split xs i (omega (arith, h)))

pub taken_count : {A : Type 0} (xs : List A) (i : ℕ) → i ≤ length xs → length (take i xs) ≡ i
taken_count xs zero h = refl
taken_count [] (suc i) h = absurd (omega (arith, h))
taken_count (x ∷ xs) (suc i) h = ap suc (taken_count xs i (omega (arith, h)))

module _ (scopes : Scopes) (spellings : List ℕ) (lead deep : ℕ) (name : Ident) (opened closed : ℕ)
    (exprs : code_exprs.Exprs) where
  abbrev n : ℕ
  n = lead + 1

  abbrev name_word : Word
  name_word = name_at lead name

  abbrev closing : Word
  closing = at n k.RightParenthesis closed

  abbrev first_expr : Expr
  first_expr = expr_in spellings (out-Exprs exprs).first

  abbrev first : Argued
  first = argued_expr scopes spellings n deep (at n k.LeftParenthesis opened) first_expr

  abbrev behind : List code_more.MoreExpr → List Argued
  behind more = map (argued_more scopes spellings n deep) more

  abbrev pub call_words : List Word
  call_words = factor_words lead deep (tree.function_call name opened (exprs_in spellings exprs) closed)

  abbrev pub givens : List Given
  givens = map bare_argument (values_of scopes (exprs_in spellings exprs))

  many : (more : List code_more.MoreExpr) → AreArgued (behind more)
  many more = more_argued scopes spellings n deep more

  -- the only argument
  module _ (demand : Demand) where
    sole_by : (P : List Word → Judged Value → Type 0) (more : List code_more.MoreExpr)
        → (out-Exprs exprs).more ≡ more
        → P (sole_words demand first name_word closing (behind more)) (sole demand first name_word closing (behind
        more))
        → P call_words (sole_part demand givens)
    sole_by P more is h =
        as_argued scopes spellings lead deep name opened closed exprs (λ words found. P words (sole_part demand found))
        (subst (λ (more : List code_more.MoreExpr). P (sole_words demand first name_word closing (behind more))
        (sole demand first name_word closing (behind more))) (sym is) h)

    pub sole_first : (why : Stop)
        → FailsBy (expr_words n deep first_expr) (taken_as (plainly demand) (value_of scopes first_expr)).marks why
        → StopsBy call_words (sole_part demand givens) why
    sole_first why h =
        sole_by (λ words part. StopsBy words part why) (out-Exprs exprs).more refl
        (sole_fails demand first name_word closing (behind (out-Exprs exprs).more) why (many (out-Exprs exprs).more)
        (subst (λ (part : Judged Value). FailsBy (expr_words n deep first_expr) part.marks why)
        (sym (bare_taken (plainly demand) (value_of scopes first_expr))) h))

    module _ {X : Type 0} (view : X → Value) (found : CodeJudged X)
        (h : StandsAs (expr_words n deep first_expr) (taken_as (plainly demand) (value_of scopes first_expr))
        (view found.value) (end_in found.end)) where
      stands : StandsAs first.words (taken_by (Some (plainly demand)) first.argument) (view found.value)
          (end_in found.end)
      stands =
          subst (λ (part : Judged Value). StandsAs (expr_words n deep first_expr) part (view found.value)
          (end_in found.end)) (sym (bare_taken (plainly demand) (value_of scopes first_expr))) h

      pub sole_none : (result : Result (CodeJudged X) Stop) → None ≡ slice_get (out-Exprs exprs).more 0
          → Closes found closed result → Answers call_words (sole_part demand givens) view result
      sole_none result none closes =
          sole_by (λ words part. Answers words part view result) [] (got_none (out-Exprs exprs).more none)
          (closes_answers (sole_words demand first name_word closing []) (sole demand first name_word closing []) view
          found closed result closes h.lawful
          (sole_ends demand first name_word closing (view found.value) (end_in found.end) stands))

      module _ (more : code_more.MoreExpr) (some : Some more ≡ slice_get (out-Exprs exprs).more 0) where
        abbrev others : List code_more.MoreExpr
        others = drop 1 (out-Exprs exprs).more

        abbrev second : Expr
        second = expr_in spellings (out-MoreExpr more).value

        pub sole_unsettled : (why : Stop)
            → Err why ≡ found_before (out-MoreExpr more).line (settled_by (end_in found.end) found.value)
            → StopsBy call_words (sole_part demand givens) why
        sole_unsettled why is =
            let end : Ending = end_in found.end in
            let short = unsettled_is end.line (out-MoreExpr more).line end.refusal end.is_short found.value why
            h.lawful is
            in
            sole_by (λ words part. StopsBy words part why) (more ∷ others) (got_first (out-Exprs exprs).more more some)
            (subst (StopsBy (sole_words demand first name_word closing (behind (more ∷ others)))
            (sole demand first name_word closing (behind (more ∷ others)))) (sym short.1)
            (sole_short demand first name_word closing (view found.value) end stands
            (argued_more scopes spellings n deep more) (behind others) (many (more ∷ others)) short.0))

        pub sole_second : (value : X) (why : Stop)
            → Ok value ≡ found_before (out-MoreExpr more).line (settled_by (end_in found.end) found.value)
            → FailsBy (expr_words n deep second) (at_first (wrong WRONG_TYPE ∷ []) (value_of scopes second).marks) why
            → StopsBy call_words (sole_part demand givens) why
        sole_second value why is fails =
            let end : Ending = end_in found.end in
            let whole = settled_is end.line (out-MoreExpr more).line end.refusal end.is_short found.value value h.lawful
            is in
            sole_by (λ words part. StopsBy words part why) (more ∷ others) (got_first (out-Exprs exprs).more more some)
            (sole_many demand first name_word closing (view found.value) end stands
            (argued_more scopes spellings n deep more) (behind others) why (many others) whole.1
            (subst (λ (marks : Marks). FailsBy (expr_words n deep second) marks why)
            (sym (bare_many Value (value_of scopes second))) fails))

  -- arguments as they are passed
  module _ (table : Table) (parameters : List CodeVariable) where
    abbrev pub passing : Judged Passed
    passing = passing_part table (variables_of spellings table parameters) givens

    passing_by : (P : List Word → Judged Passed → Type 0)
        → P (whole_words spellings table parameters first (behind (out-Exprs exprs).more) name_word closing)
        (whole spellings table parameters first (behind (out-Exprs exprs).more) name_word closing)
        → P call_words passing
    passing_by P h =
        as_argued scopes spellings lead deep name opened closed exprs
        (λ words found. P words (passing_part table (variables_of spellings table parameters) found)) h

    abbrev passed_words : List Word
    passed_words = whole_words spellings table parameters first (behind (out-Exprs exprs).more) name_word closing

    abbrev passed_part : Judged Passed
    passed_part = whole spellings table parameters first (behind (out-Exprs exprs).more) name_word closing

    pub stops_passing : (why : Stop) → StopsBy passed_words passed_part why → StopsBy call_words passing why
    stops_passing why h = passing_by (λ words part. StopsBy words part why) h

    pub ends_passing : (passed : List code_passed.Passed) (end : Ending)
        → EndsAs passed_words passed_part (passed_views passed) end
        → EndsAs call_words passing (passed_views passed) end
    ends_passing passed end h = passing_by (λ words part. EndsAs words part (passed_views passed) end) h
