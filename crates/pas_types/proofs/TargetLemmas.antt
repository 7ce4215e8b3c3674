-- What functions on targets and on the variable of a `for` answer.
use Rattle.std.proofs.Common.{◌≡◌, refl, sym, ap, subst, ◌∙◌, ℕ, Bool, true, false, List, [], ◌∷◌, map}
use Rattle.std.proofs.Common.{Option, Some, Result, Err}
use Rattle.std.specs.Prelude.{◌≢◌}
use Rattle.wb_base.specs.declared.faults.TheConstants.{WRONG_TYPE}
use Rattle.pas_tokens.specs.Cutting.{wrong}
use Rattle.pas_tokens.specs.declared.kinds.Kind.TheVariants as kind
use Rattle.pas_syntax.specs.declared.tree.Selector as code_selector
use Rattle.pas_syntax.specs.declared.tree.Variable as code_variable
use Rattle.pas_syntax.specs.declared.tree.Expr.TheOpen.{Selector-F}
use Rattle.pas_syntax.specs.declared.tree.Expr.TheViews.{out-Variable}
use Rattle.pas_syntax.specs.declared.tree.Expr.TheFolds.{fold_out-Selector, fold_out-Variable}
use Rattle.pas_syntax.specs.Tree as tree
use Rattle.pas_syntax.specs.Tree.{Expr, Factor, Sum, Term, Exprs, Variable}
use Rattle.pas_syntax.specs.Views.{in_turn, ident_in, variable_in, selector_in, expr_step, factor_step, selector_step}
use Rattle.pas_syntax.specs.Views.{sum_step, term_step, exprs_step, call_step, more_expr_step, variable_step, OfExprs}
use Rattle.pas_syntax.specs.Words.{Word, at, variable_words, expr_words, plain_words}
use Rattle.pas_typed.specs.Types.{Table}
use Rattle.pas_typed.specs.Typed as typed
use Rattle.pas_typed.specs.Typed.{Slot, Value}
use Rattle.pas_scopes.specs.declared.stop.Stop.{Stop}
use Rattle.pas_scopes.specs.declared.stop.Stop.TheVariants as stop
use Rattle.pas_rules.specs.Marks.{joined, Judged, checked, means, refuses}
use Rattle.pas_rules.specs.Scopes.{Scopes, variable}
use Rattle.pas_rules.specs.Expressions.{place_of, value_of}
use Rattle.pas_rules.specs.Statements.{Target, target_of, target_place, assigned_only, fits_target, assigned}
use Rattle.pas_rules.specs.Statements.{assignment_of, counts, for_variable}
use Rattle.pas_scopes.specs.Stopping.{shown_in, demanded}
use Rattle.pas_scopes.specs.Answers.{Means, StopsBy, ShowsBy}
use Rattle.pas_types.specs.inner.FlowViews.{ShowsBefore, Precedes}
use Rattle.pas_rules.proofs.AsMany.{AsMany, all, checked_many}
use Rattle.pas_rules.proofs.ExpressionsAsMany.{value_many}
use Rattle.pas_scopes.proofs.AnswerLemmas.{stops_shows}
use Rattle.pas_scopes.proofs.SettleLemmas.{quiet_alone, shows_alone}
use Rattle.pas_types.proofs.LabelLemmas.{by_false}
use Rattle.pas_types.proofs.ChainLemmas.{made_of_both, before_shows, behind_shows, behind_quiet}

-- what stops in a part, before any word
pub stops_before : {A : Type 0} (line : ℕ) (words : List Word) (part : Judged A) (why : Stop) → StopsBy words part why
    → ShowsBefore line words part.marks why
stops_before line words part stop.OutOfMemory h = (stop.OutOfMemory, refl, tt)
stops_before line words part (stop.Fault fault) h = (stop.Fault fault, refl, stops_shows words part fault h)
stops_before line words part stop.Missing h = absurd h

pub precedes_stop : {X A : Type 0} (line : ℕ) (words : List Word) (part : Judged A) (view : X → A) (why : Stop)
    (result : Result X Stop) → ((found : Stop) × (result ≡ Err found) × (found ≡ why))
    → ShowsBefore line words part.marks why → Precedes line words part view result
precedes_stop line words part view why result is h =
    subst (Precedes line words part view) (sym (is.1 ∙ ap Err is.2)) h

-- a variable that does not count
pub counter_refused : (table : Table) (slot : Slot) (word : Word) (line : ℕ) (holds : Bool) (why : Stop)
    → holds ≡ counts table slot → Err why ≡ demanded holds WRONG_TYPE word.token.line
    → ShowsBefore line (word ∷ []) (for_variable table (Some (variable slot))).marks why
counter_refused table slot word line true why is refused = cc
counter_refused table slot word line false why is refused =
    let same : shown_in word.token.line (wrong WRONG_TYPE) ≡ why = cc in
    subst (λ (found : Judged Slot). ShowsBefore line (word ∷ []) found.marks why)
    (sym (by_false (counts table slot) (means slot) (refuses (wrong WRONG_TYPE)) (sym is)))
    (shown_in word.token.line (wrong WRONG_TYPE), sym same, record { many = refl; first = refl })

-- a variable of which a part is selected is no name by itself
module _ (scopes : Scopes) (spellings : List ℕ) where
  record IsPart (v : Variable) : Type 0 where
    same : target_of scopes v ≡ target_place (place_of scopes v)

  selected_step : (step : OfExprs Selector-F) (v : Variable) → IsPart (selector_step spellings step v)
  selected_step (Selector-F.Indexes opened indexes closed) v = record { same = refl }
  selected_step (Selector-F.Field line ident) v = record { same = refl }
  selected_step (Selector-F.Buffer line) v = record { same = refl }

  selector_seen : (s : code_selector.Selector)
      → (step : OfExprs Selector-F) × (selector_in spellings s ≡ selector_step spellings step)
  selector_seen s = (
    _,
    fold_out-Selector Expr Factor (Variable → Variable) Sum Term Exprs Factor (Exprs → Exprs) Variable expr_step
        (factor_step spellings) (selector_step spellings) sum_step term_step exprs_step (call_step spellings)
        more_expr_step (variable_step spellings) s,
  )

  selected : (s : code_selector.Selector) (v : Variable) → IsPart (selector_in spellings s v)
  selected s v =
      subst (λ (step : Variable → Variable). IsPart (step v)) (sym (selector_seen s).1)
      (selected_step (selector_seen s).0 v)

  part_stays : (v : Variable) (more : List code_selector.Selector) → IsPart v
      → IsPart (in_turn v (map (selector_in spellings) more))
  part_stays v [] h = h
  part_stays v (s ∷ more) h = part_stays (selector_in spellings s v) more (selected s v)

  is_part : (v : Variable) (more : List code_selector.Selector) → more ≢ []
      → IsPart (in_turn v (map (selector_in spellings) more))
  is_part v [] some = absurd (some refl)
  is_part v (s ∷ more) some = part_stays (selector_in spellings s v) more (selected s v)

  pub variable_seen : (v : code_variable.Variable)
      → variable_in spellings v
      ≡ in_turn (tree.whole (ident_in spellings (out-Variable v).name))
      (map (selector_in spellings) (out-Variable v).selectors)
  variable_seen =
      fold_out-Variable Expr Factor (Variable → Variable) Sum Term Exprs Factor (Exprs → Exprs) Variable expr_step
      (factor_step spellings) (selector_step spellings) sum_step term_step exprs_step (call_step spellings)
      more_expr_step (variable_step spellings)

  pub part_target : (v : code_variable.Variable) → (out-Variable v).selectors ≢ []
      → target_of scopes (variable_in spellings v) ≡ target_place (place_of scopes (variable_in spellings v))
  part_target v some =
      (subst IsPart (sym (variable_seen v))
      (is_part (tree.whole (ident_in spellings (out-Variable v).name)) (out-Variable v).selectors some)).same

  pub name_alone : (v : code_variable.Variable) → (out-Variable v).selectors ≡ []
      → variable_in spellings v ≡ tree.whole (ident_in spellings (out-Variable v).name)
  name_alone v none =
      variable_seen v
      ∙ ap (λ (selectors : List code_selector.Selector).
      in_turn (tree.whole (ident_in spellings (out-Variable v).name)) (map (selector_in spellings) selectors)) none

-- an assignment
module _ (scopes : Scopes) (n : ℕ) (v : Variable) (becomes : ℕ) (e : Expr) where
  abbrev left : Judged Target
  left = checked (assigned_only scopes.outer.types) (target_of scopes v)

  abbrev right : Option Target → Judged Value
  right target = checked (fits_target scopes.outer.types target) (value_of scopes e)

  abbrev whole : Judged typed.Statement
  whole = assignment_of scopes.outer.types (target_of scopes v) (value_of scopes e)

  abbrev whole_words : List Word
  whole_words = plain_words n (tree.assignment v becomes e)

  right_many : AsMany (expr_words n 0 e) (joined ((right left.value).marks ∷ []))
  right_many =
      all (right left.value).marks
      (checked_many (fits_target scopes.outer.types left.value) (value_of scopes e) (value_many scopes n 0 e))

  pub target_stops : (why : Stop) → ShowsBefore becomes (variable_words n 0 v) left.marks why
      → ShowsBy whole_words whole.marks why
  target_stops why h =
      before_shows (variable_words n 0 v) (expr_words n 0 e) (at n kind.Becomes becomes) left.marks
      (joined ((right left.value).marks ∷ [])) right_many why h

  pub value_stops : (target : Target) (why : Stop) → Means (variable_words n 0 v) left target
      → ShowsBy (expr_words n 0 e) (right (Some target)).marks why → ShowsBy whole_words whole.marks why
  value_stops target why h k =
      behind_shows (variable_words n 0 v) (expr_words n 0 e) (at n kind.Becomes becomes) left.marks
      (joined ((right left.value).marks ∷ [])) h.quiet why
      (shows_alone (expr_words n 0 e) (right left.value).marks why
      (subst (λ (found : Option Target). ShowsBy (expr_words n 0 e) (right found).marks why) (sym h.known) k))

  pub assignment_means : (target : Target) (value : Value) → Means (variable_words n 0 v) left target
      → Means (expr_words n 0 e) (right (Some target)) value
      → Means whole_words whole (assigned target value)
  assignment_means target value h k =
      let found : Means (expr_words n 0 e) (right left.value) value =
      subst (λ (found : Option Target). Means (expr_words n 0 e) (right found) value) (sym h.known) k in
      record {
        known = made_of_both assigned left.value (right left.value).value target value h.known found.known;
        quiet = behind_quiet (variable_words n 0 v) (expr_words n 0 e) (at n kind.Becomes becomes) left.marks
            (joined ((right left.value).marks ∷ [])) h.quiet false
            (quiet_alone (expr_words n 0 e) (right left.value).marks false found.quiet);
      }
