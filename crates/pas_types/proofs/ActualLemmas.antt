-- The arguments of the code's calls of procedures, each with a width or not.
use Rattle.std.proofs.Common.{◌≡◌, refl, sym, ap, subst, ◌∙◌, ℕ, ◌+◌, ◌<◌, arith, Bool, true, false, List, [], ◌∷◌}
use Rattle.std.proofs.Common.{◌++◌}
use Rattle.std.proofs.Common.{length, map, Option, Some, None}
use Rattle.std.specs.Prelude.{flat_map}
use Rattle.std.proofs.lemmas.List.{append-nil}
use Rattle.std.proofs.lemmas.Option.{none-some}
use Rattle.wb_base.specs.declared.faults.TheConstants.{WRONG_TYPE}
use Rattle.pas_tokens.specs.declared.kinds.Kind.TheVariants as k
use Rattle.pas_tokens.specs.Cutting.{Wrong, wrong}
use Rattle.pas_tokens.specs.Tokens.{fault_in}
use Rattle.pas_syntax.specs.declared.tree.Argument.{Argument as CodeArgument}
use Rattle.pas_syntax.specs.declared.tree.Arguments.{Arguments as CodeArguments}
use Rattle.pas_syntax.specs.declared.tree.Behind.{Behind as CodeBehind}
use Rattle.pas_syntax.specs.Tree as tree
use Rattle.pas_syntax.specs.Tree.{Ident, Behind, Expr}
use Rattle.pas_syntax.specs.Words.{Word, at, name_at, expr_words, words_if, width_words, argument_words, plain_words}
use Rattle.pas_syntax.specs.Views.{behind_in}
use Rattle.pas_syntax.specs.ProgramViews.{argument_in, arguments_in}
use Rattle.pas_scopes.specs.declared.stop.Stop.{Stop}
use Rattle.pas_scopes.specs.declared.stop.Stop.TheVariants as stop
use Rattle.pas_rules.specs.Marks.{Marks, shows, first_of, at_first, followed, joined, Judged, checked}
use Rattle.pas_rules.specs.Marks.{first_fault}
use Rattle.pas_typed.specs.Typed.{Value}
use Rattle.pas_rules.specs.Scopes.{Scopes}
use Rattle.pas_rules.specs.Expressions.{Given, bare_argument, value_of, asked_nothing}
use Rattle.pas_rules.specs.Calls.{actual_of, actuals_of, without_width, no_width, width_of}
use Rattle.pas_scopes.specs.Ends.{shown_behind}
use Rattle.pas_scopes.specs.Stopping.{shown_in}
use Rattle.pas_scopes.specs.Answers.{Ending, StandsAs, FailsBy, Shows, IsQuiet}
use Rattle.pas_scopes.specs.Arguments.{Taker, taken_by}
use Rattle.pas_rules.proofs.AsMany.{AsMany, all, and_then, next_word, checked_many}
use Rattle.pas_scopes.proofs.EndLemmas.{behind_quiet, quiet_many}
use Rattle.pas_scopes.proofs.PartLemmas.{alone}
use Rattle.pas_scopes.proofs.SettleLemmas.{shows_front}
use Rattle.pas_rules.proofs.ExpressionWords.{expr_some}
use Rattle.pas_rules.proofs.ExpressionsAsMany.{value_many}
use Rattle.pas_rules.proofs.CallsAsMany.{width_many, argument_many}
use Rattle.pas_scopes.proofs.ArgumentLemmas.{Argued, AreArgued, argued_words, givens_of, stands_quiet}

-- a part and what stands behind it
front_fails : (words more : List Word) (part next : Marks) (why : Stop) → AsMany more next → FailsBy words part why
    → FailsBy (words ++ more) (followed part next) why
front_fails words more part next stop.OutOfMemory many h = tt
front_fails words more part next (stop.Fault fault) many h = shows_front words more part next fault many h
front_fails words more part next stop.Missing many h = absurd h

first_front : (faults : List Wrong) (part next : Marks) → 0 < length part.tokens
    → at_first faults (followed part next) ≡ followed (at_first faults part) next
first_front faults part next some = by part.tokens part.behind some
  where
    by : (tokens : List (List Wrong)) (behind : List Wrong) → 0 < length tokens
        → at_first faults (followed (record { tokens = tokens; behind = behind }) next)
        ≡ followed (at_first faults (record { tokens = tokens; behind = behind })) next
    by [] behind some = absurd (omega (arith, some))
    by (first ∷ tokens) behind some = refl

-- what a width shows that stands where none may
width_first : (word : Word) (words : List Word) (is_short : Bool) (behind : List Wrong) (tokens : List (List Wrong))
    → behind ≡ shown_behind is_short
    → first_fault (word ∷ words) ((behind ++ wrong WRONG_TYPE ∷ []) ∷ tokens)
    ≡ Some (fault_in word.token.line (wrong WRONG_TYPE))
width_first word words true behind tokens is =
    ap (λ (shown : List Wrong). first_fault (word ∷ words) ((shown ++ wrong WRONG_TYPE ∷ []) ∷ tokens)) is
width_first word words false behind tokens is =
    ap (λ (shown : List Wrong). first_fault (word ∷ words) ((shown ++ wrong WRONG_TYPE ∷ []) ∷ tokens)) is

width_shows : (words : List Word) (word : Word) (more : List Word) (part next : Marks) (is_short : Bool)
    → AsMany more next → IsQuiet words part is_short
    → Shows (words ++ word ∷ more) (followed part (followed (shows (wrong WRONG_TYPE ∷ [])) next))
    (fault_in word.token.line (wrong WRONG_TYPE))
width_shows words word more part next is_short many h = record {
  many = (and_then part (followed (shows (wrong WRONG_TYPE ∷ [])) next)
      (record { same = quiet_many words part.tokens h.still }) (next_word word (wrong WRONG_TYPE ∷ []) next many)).same;
  first = behind_quiet words (word ∷ more) part.tokens
      ((part.behind ++ wrong WRONG_TYPE ∷ []) ∷ (first_of [] next.behind next.tokens).tokens) h.still
      ∙ width_first word more is_short part.behind (first_of [] next.behind next.tokens).tokens h.behind;
}

module _ (scopes : Scopes) (n : ℕ) (expr : Expr) where
  abbrev value : Judged Value
  value = value_of scopes expr

  abbrev pub with_width : Option (Behind Expr) → Given
  with_width width = record { value = value; behind = no_width (width_of scopes width) }

  abbrev pub all_words : Option (Behind Expr) → List Word
  all_words width = expr_words n 0 expr ++ words_if (width_words n) width

  behind_many : (width : Option (Behind Expr))
      → AsMany (words_if (width_words n) width) (joined ((no_width (width_of scopes width)).marks ∷ []))
  behind_many width = all (no_width (width_of scopes width)).marks (width_many scopes n width)

  some_token : 0 < length (checked asked_nothing value).marks.tokens
  some_token =
      omega (arith, expr_some n 0 expr, (checked_many asked_nothing value (value_many scopes n 0 expr)).same)

  -- what stands behind a value changes nothing of why it fails
  pub width_fails : {B : Type 0} (taker : Option (Taker B)) (width : Option (Behind Expr)) (why : Stop)
      → FailsBy (expr_words n 0 expr) (taken_by taker (bare_argument value)).marks why
      → FailsBy (all_words width) (taken_by taker (with_width width)).marks why
  width_fails None width why h =
      let plain : Marks = (checked asked_nothing value).marks in
      let next : Marks = joined ((no_width (width_of scopes width)).marks ∷ []) in
      subst (λ (marks : Marks). FailsBy (all_words width) marks why)
      (sym (first_front (wrong WRONG_TYPE ∷ []) plain next some_token))
      (front_fails (expr_words n 0 expr) (words_if (width_words n) width) (at_first (wrong WRONG_TYPE ∷ []) plain) next
      why (behind_many width)
      (subst (λ (marks : Marks). FailsBy (expr_words n 0 expr) (at_first (wrong WRONG_TYPE ∷ []) marks) why)
      (alone plain) h))
  width_fails (Some taker) width why h =
      let found : Marks = (checked taker.demand value).marks in
      front_fails (expr_words n 0 expr) (words_if (width_words n) width) found
      (joined ((no_width (width_of scopes width)).marks ∷ [])) why (behind_many width)
      (subst (λ (marks : Marks). FailsBy (expr_words n 0 expr) marks why) (alone found) h)

  pub no_width_stands : {B : Type 0} (taker : Option (Taker B)) (found : B) (end : Ending)
      → StandsAs (expr_words n 0 expr) (taken_by taker (bare_argument value)) found end
      → StandsAs (all_words None) (taken_by taker (with_width None)) found end
  no_width_stands taker found end h =
      subst (λ (words : List Word). StandsAs words (taken_by taker (bare_argument value)) found end)
      (sym (append-nil (expr_words n 0 expr))) h

  width_refused : {B : Type 0} (taker : Taker B) (width : Behind Expr) (found : B) (end : Ending)
      → StandsAs (expr_words n 0 expr) (taken_by (Some taker) (bare_argument value)) found end
      → FailsBy (all_words (Some width)) (taken_by (Some taker) (with_width (Some width))).marks
      (shown_in width.line (wrong WRONG_TYPE))
  width_refused taker width found end h =
      let part : Marks = (checked taker.demand value).marks in
      let behind : Marks = joined ((value_of scopes width.item).marks ∷ []) in
      let quiet : IsQuiet (expr_words n 0 expr) part end.is_short =
      subst (λ (marks : Marks). IsQuiet (expr_words n 0 expr) marks end.is_short) (alone part)
      (stands_quiet (expr_words n 0 expr) (taken_by (Some taker) (bare_argument value)) found end h) in
      subst (λ (marks : Marks). Shows (all_words (Some width)) (followed part marks)
      (fault_in width.line (wrong WRONG_TYPE)))
      (sym (alone (followed (shows (wrong WRONG_TYPE ∷ [])) behind)))
      (width_shows (expr_words n 0 expr) (at n k.Colon width.line) (expr_words n 0 width.item) part behind end.is_short
      (all (value_of scopes width.item).marks (value_many scopes n 0 width.item)) quiet)

  pub width_refused_by : {B : Type 0} (taker : Option (Taker B)) (width : Behind Expr) (found : B) (end : Ending)
      → StandsAs (expr_words n 0 expr) (taken_by taker (bare_argument value)) found end
      → FailsBy (all_words (Some width)) (taken_by taker (with_width (Some width))).marks
      (shown_in width.line (wrong WRONG_TYPE))
  width_refused_by None width found end h = absurd (none-some found h.ends.known)
  width_refused_by (Some taker) width found end h = width_refused taker width found end h

-- the code's arguments
module _ (scopes : Scopes) (spellings : List ℕ) (n : ℕ) where
  abbrev pub argued_actual : Word → CodeArgument → Argued
  argued_actual before argument = record {
    before = before;
    words = argument_words n (argument_in spellings argument);
    argument = without_width (actual_of scopes (argument_in spellings argument));
  }

  abbrev pub argued_behind : CodeBehind CodeArgument → Argued
  argued_behind behind = argued_actual (at n k.Comma behind.line) behind.item

  pub behind_argued : (more : List (CodeBehind CodeArgument)) → AreArgued (map argued_behind more)
  behind_argued [] = tt
  behind_argued (behind ∷ more) =
      (argument_many scopes n (argument_in spellings behind.item), behind_argued more)

  behind_words : (more : List (CodeBehind CodeArgument))
      → flat_map (λ behind. at n k.Comma behind.line ∷ argument_words n behind.item)
      (map (behind_in (argument_in spellings)) more)
      ≡ argued_words (map argued_behind more)
  behind_words [] = refl
  behind_words (behind ∷ more) =
      ap (λ (words : List Word). at n k.Comma behind.line ∷ (argument_words n (argument_in spellings behind.item)
      ++ words)) (behind_words more)

  behind_givens : (more : List (CodeBehind CodeArgument))
      → map without_width (map (λ behind. actual_of scopes behind.item) (map (behind_in (argument_in spellings)) more))
      ≡ givens_of (map argued_behind more)
  behind_givens [] = refl
  behind_givens (behind ∷ more) =
      ap (λ (givens : List Given). without_width (actual_of scopes (argument_in spellings behind.item)) ∷ givens)
      (behind_givens more)

module _ (scopes : Scopes) (spellings : List ℕ) (n : ℕ) (name : Ident) (arguments : CodeArguments) where
  abbrev pub statement_words : List Word
  statement_words = plain_words n (tree.procedure_call name (Some (arguments_in spellings arguments)))

  abbrev pub actual_givens : List Given
  actual_givens = map without_width (actuals_of scopes (arguments_in spellings arguments).items)

  abbrev pub first_actual : Argued
  first_actual =
      argued_actual scopes spellings (n + 1) (at (n + 1) k.LeftParenthesis arguments.opened) arguments.items.first

  abbrev pub more_actuals : List (CodeBehind CodeArgument) → List Argued
  more_actuals more = map (argued_behind scopes spellings (n + 1)) more

  pub as_actuals : (P : List Word → List Given → Type 0)
      → P (name_at n name ∷ (argued_words (first_actual ∷ more_actuals arguments.items.more)
      ++ at (n + 1) k.RightParenthesis arguments.closed ∷ []))
      (givens_of (first_actual ∷ more_actuals arguments.items.more))
      → P statement_words actual_givens
  as_actuals P h =
      subst (P statement_words)
      (sym (ap (λ (givens : List Given). first_actual.argument ∷ givens)
      (behind_givens scopes spellings (n + 1) arguments.items.more)))
      (subst (λ (words : List Word). P (name_at n name ∷ (first_actual.before ∷ ((first_actual.words ++ words)
      ++ at (n + 1) k.RightParenthesis arguments.closed ∷ [])))
      (givens_of (first_actual ∷ more_actuals arguments.items.more)))
      (sym (behind_words scopes spellings (n + 1) arguments.items.more)) h)
