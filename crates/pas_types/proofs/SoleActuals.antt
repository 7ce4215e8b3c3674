-- The only argument of a procedure.
use Rattle.std.proofs.Common.{◌≡◌, refl, sym, ap, subst, ◌∙◌, ℕ, ◌+◌, Bool, true, false, List, [], ◌∷◌, drop}
use Rattle.std.proofs.Common.{Option, Some, None, Result, Ok, Err}
use Rattle.std.specs.Prelude.{slice_get, option_and_then}
use Rattle.wb_base.specs.declared.faults.TheConstants.{WRONG_TYPE}
use Rattle.pas_tokens.specs.declared.kinds.Kind.TheVariants as k
use Rattle.pas_tokens.specs.Cutting.{wrong}
use Rattle.pas_syntax.specs.declared.tree.Argument.{Argument as CodeArgument}
use Rattle.pas_syntax.specs.declared.tree.Arguments.{Arguments as CodeArguments}
use Rattle.pas_syntax.specs.declared.tree.Behind.{Behind as CodeBehind}
use Rattle.pas_syntax.specs.declared.tree.Expr as code_expr
use Rattle.pas_syntax.specs.Tree.{Ident, Behind, Expr}
use Rattle.pas_syntax.specs.Words.{Word, at, name_at, expr_words}
use Rattle.pas_syntax.specs.Views.{expr_in, behind_in, if_there}
use Rattle.pas_syntax.specs.ProgramViews.{argument_in}
use Rattle.pas_typed.specs.Types.{Table}
use Rattle.pas_typed.specs.Typed as typed
use Rattle.pas_typed.specs.Typed.{Value, Place, FileStep, Statement}
use Rattle.pas_scopes.specs.declared.stop.Stop.{Stop}
use Rattle.pas_scopes.specs.declared.judged.Judged.{Judged as CodeJudged}
use Rattle.pas_rules.specs.Marks.{Marks, Judged, judged, known, at_first}
use Rattle.pas_rules.specs.Scopes.{Scopes}
use Rattle.pas_rules.specs.Expressions.{Demand, Given, value_of, bare_argument, file_only, file_in}
use Rattle.pas_scopes.specs.Ends.{Ends, refusal_behind}
use Rattle.pas_scopes.specs.Stopping.{shown_in, found_before}
use Rattle.pas_scopes.specs.Answers.{Ending, end_in, settled_by, EndsAs, StopsBy, StandsAs, FailsBy, Settles}
use Rattle.pas_scopes.specs.Answers.{Means, closed_end}
use Rattle.pas_scopes.specs.Arguments.{taken_by, taken_as, plainly, sole_part}
use Rattle.pas_scopes.proofs.SettleLemmas.{settles_at}
use Rattle.pas_scopes.proofs.ArgumentLemmas.{Argued}
use Rattle.pas_scopes.proofs.FitLemmas.{bare_many, bare_taken}
use Rattle.pas_scopes.proofs.CallAnswers.{settled_is, unsettled_is, sole_words, sole, sole_fails, sole_ends, sole_short}
use Rattle.pas_scopes.proofs.CallAnswers.{sole_many}
use Rattle.pas_scopes.proofs.EntityCalls.{asked_file, sole_met}
use Rattle.pas_scopes.proofs.ExprCalls.{got_none, got_first}
use Rattle.pas_types.proofs.ActualLemmas.{argued_behind, behind_argued, first_actual, more_actuals, as_actuals}
use Rattle.pas_types.proofs.ActualLemmas.{statement_words, actual_givens, width_fails, width_refused_by}
use Rattle.pas_types.proofs.ActualLemmas.{no_width_stands, all_words, with_width}

module _ (scopes : Scopes) (spellings : List ℕ) (n : ℕ) (name : Ident) (arguments : CodeArguments) (demand : Demand)
  where
    abbrev first : Argued
    first = first_actual scopes spellings n name arguments

    abbrev closing : Word
    closing = at (n + 1) k.RightParenthesis arguments.closed

    abbrev behind : List (CodeBehind CodeArgument) → List Argued
    behind more = more_actuals scopes spellings n name arguments more

    abbrev words : List Word
    words = statement_words scopes spellings n name arguments

    abbrev part : Judged Value
    part = sole_part demand (actual_givens scopes spellings n name arguments)

    sole_by : (P : List Word → Judged Value → Type 0) (more : List (CodeBehind CodeArgument))
        → arguments.items.more ≡ more
        → P (sole_words demand first (name_at n name) closing (behind more))
        (sole demand first (name_at n name) closing (behind more)) → P words part
    sole_by P more is h =
        as_actuals scopes spellings n name arguments (λ words found. P words (sole_part demand found))
        (subst (λ (more : List (CodeBehind CodeArgument)). P (sole_words demand first (name_at n name) closing (behind
        more))
        (sole demand first (name_at n name) closing (behind more))) (sym is) h)

    -- the argument itself fails
    pub first_fails : (why : Stop) → FailsBy first.words (taken_by (Some (plainly demand)) first.argument).marks why
        → StopsBy words part why
    first_fails why h =
        sole_by (λ words part. StopsBy words part why) arguments.items.more refl
        (sole_fails demand first (name_at n name) closing (behind arguments.items.more) why
        (behind_argued scopes spellings (n + 1) arguments.items.more) h)

    -- the argument by its value
    abbrev expr : Expr
    expr = expr_in spellings arguments.items.first.value

    abbrev width_in : Option (CodeBehind code_expr.Expr) → Option (Behind Expr)
    width_in width = if_there (behind_in (expr_in spellings)) width

    pub value_fails : (why : Stop)
        → FailsBy (expr_words (n + 1) 0 expr) (taken_as (plainly demand) (value_of scopes expr)).marks why
        → StopsBy words part why
    value_fails why h =
        first_fails why
        (width_fails scopes (n + 1) expr (Some (plainly demand)) (width_in arguments.items.first.width) why
        (subst (λ (part : Judged Value). FailsBy (expr_words (n + 1) 0 expr) part.marks why)
        (sym (bare_taken (plainly demand) (value_of scopes expr))) h))

    module _ (value : Value) (end : Ending)
        (h : StandsAs (expr_words (n + 1) 0 expr) (taken_as (plainly demand) (value_of scopes expr)) value end) where
      bare : StandsAs (expr_words (n + 1) 0 expr) (taken_by (Some (plainly demand)) (bare_argument (value_of scopes
          expr)))
          value end
      bare =
          subst (λ (part : Judged Value). StandsAs (expr_words (n + 1) 0 expr) part value end)
          (sym (bare_taken (plainly demand) (value_of scopes expr))) h

      pub widened : (width : CodeBehind code_expr.Expr) → arguments.items.first.width ≡ Some width
          → StopsBy words part (shown_in width.line (wrong WRONG_TYPE))
      widened width is =
          first_fails (shown_in width.line (wrong WRONG_TYPE))
          (subst (λ (found : Option (CodeBehind code_expr.Expr)).
          FailsBy (all_words scopes (n + 1) expr (width_in found))
          (taken_by (Some (plainly demand)) (with_width scopes (n + 1) expr (width_in found))).marks
          (shown_in width.line (wrong WRONG_TYPE))) (sym is)
          (width_refused_by scopes (n + 1) expr (Some (plainly demand)) (behind_in (expr_in spellings) width) value end
          bare))

      pub unwidened : arguments.items.first.width ≡ None
          → StandsAs first.words (taken_by (Some (plainly demand)) first.argument) value end
      unwidened is =
          subst (λ (found : Option (CodeBehind code_expr.Expr)).
          StandsAs (all_words scopes (n + 1) expr (width_in found))
          (taken_by (Some (plainly demand)) (with_width scopes (n + 1) expr (width_in found))) value end) (sym is)
          (no_width_stands scopes (n + 1) expr (Some (plainly demand)) value end bare)

    module _ {X : Type 0} (view : X → Value) (found : CodeJudged X)
        (h : StandsAs first.words (taken_by (Some (plainly demand)) first.argument) (view found.value)
        (end_in found.end)) where
      closed_by : (is_short : Bool) (result : Result X Stop) → (end_in found.end).is_short ≡ is_short
          → result ≡ found_before arguments.closed (settled_by (end_in found.end) found.value)
          → EndsAs words part (view found.value) (closed_end arguments.closed (end_in found.end))
          → Settles words part view result
      closed_by false (Ok value) whole is ends =
          let end : Ending = end_in found.end in
          let same = settled_is end.line arguments.closed end.refusal end.is_short found.value value h.lawful is in
          subst (λ (v : X). Settles words part view (Ok v)) (sym same.0)
          (settles_at words part view found.value arguments.closed None false
          (subst (λ (is_short : Bool). Ends words part (view found.value) arguments.closed (refusal_behind is_short)
          false)
          whole ends))
      closed_by false (Err why) whole is ends =
          let end : Ending = end_in found.end in
          let short = unsettled_is end.line arguments.closed end.refusal end.is_short found.value why h.lawful is in
          let no : end.is_short ≡ true = short.0 in cc
      closed_by true (Ok value) short is ends =
          let end : Ending = end_in found.end in
          let same = settled_is end.line arguments.closed end.refusal end.is_short found.value value h.lawful is in
          let no : end.is_short ≡ false = same.1 in cc
      closed_by true (Err why) short is ends =
          let end : Ending = end_in found.end in
          let shown = unsettled_is end.line arguments.closed end.refusal end.is_short found.value why h.lawful is in
          subst (λ (w : Stop). Settles words part view (Err w)) (sym shown.1)
          (settles_at words part view found.value arguments.closed (Some (wrong WRONG_TYPE)) false
          (subst (λ (is_short : Bool). Ends words part (view found.value) arguments.closed (refusal_behind is_short)
          false)
          short ends))

      pub alone_none : (result : Result X Stop) → None ≡ slice_get arguments.items.more 0
          → result ≡ found_before arguments.closed (settled_by (end_in found.end) found.value)
          → Settles words part view result
      alone_none result none is =
          closed_by (end_in found.end).is_short result refl is
          (sole_by (λ words part. EndsAs words part (view found.value) (closed_end arguments.closed (end_in
          found.end))) []
          (got_none arguments.items.more none)
          (sole_ends demand first (name_at n name) closing (view found.value) (end_in found.end) h))

      module _ (more : CodeBehind CodeArgument) (some : Some more ≡ slice_get arguments.items.more 0) where
        abbrev others : List (CodeBehind CodeArgument)
        others = drop 1 arguments.items.more

        pub alone_unsettled : (why : Stop)
            → Err why ≡ found_before more.line (settled_by (end_in found.end) found.value) → StopsBy words part why
        alone_unsettled why is =
            let end : Ending = end_in found.end in
            let short = unsettled_is end.line more.line end.refusal end.is_short found.value why h.lawful is in
            sole_by (λ words part. StopsBy words part why) (more ∷ others) (got_first arguments.items.more more some)
            (subst (StopsBy (sole_words demand first (name_at n name) closing (behind (more ∷ others)))
            (sole demand first (name_at n name) closing (behind (more ∷ others)))) (sym short.1)
            (sole_short demand first (name_at n name) closing (view found.value) end h
            (argued_behind scopes spellings (n + 1) more) (behind others)
            (behind_argued scopes spellings (n + 1) (more ∷ others)) short.0))

        pub alone_second : (value : X) (why : Stop)
            → Ok value ≡ found_before more.line (settled_by (end_in found.end) found.value)
            → FailsBy (expr_words (n + 1) 0 (expr_in spellings more.item.value))
            (at_first (wrong WRONG_TYPE ∷ []) (value_of scopes (expr_in spellings more.item.value)).marks) why
            → StopsBy words part why
        alone_second value why is fails =
            let end : Ending = end_in found.end in
            let second = argument_in spellings more.item in
            let whole = settled_is end.line more.line end.refusal end.is_short found.value value h.lawful is in
            sole_by (λ words part. StopsBy words part why) (more ∷ others) (got_first arguments.items.more more some)
            (sole_many demand first (name_at n name) closing (view found.value) end h
            (argued_behind scopes spellings (n + 1) more) (behind others) why
            (behind_argued scopes spellings (n + 1) others) whole.1
            (width_fails scopes (n + 1) second.value {B = Value} None second.width why
            (subst (λ (marks : Marks). FailsBy (expr_words (n + 1) 0 second.value) marks why)
            (sym (bare_many Value (value_of scopes second.value))) fails)))

-- a step of a file
abbrev pub step_part : Table → FileStep → List Given → Judged Statement
step_part table step arguments =
    let part = sole_part (file_only table) arguments in
    judged part.marks (known (typed.file_step step) (option_and_then (file_in table) part.value))

pub step_means : (all : List Word) (table : Table) (step : FileStep) (arguments : List Given) (place : Place)
    → Means all (sole_part (file_only table) arguments) (typed.read place)
    → Means all (step_part table step arguments) (typed.file_step step place)
step_means all table step arguments place h = record {
  known = ap (λ (found : Option Value). known (typed.file_step step) (option_and_then (file_in table) found)) h.known
      ∙ ap (known (typed.file_step step)) (asked_file table typed.eof place
      (sole_met (file_only table) arguments (typed.read place) h.known));
  quiet = h.quiet;
}
