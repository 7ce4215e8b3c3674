-- What is answered of variables with selectors, by what was answered of the indexes and of the variable before.
use Rattle.std.proofs.Common.{◌≡◌, refl, sym, ap, subst, ◌∙◌, ℕ, ◌+◌, ◌<◌, ◌≤◌, arith, List, [], ◌∷◌, ◌++◌}
use Rattle.std.proofs.Common.{length, map, take, drop, get_or, suc, Option, Result, Ok, Err}
use Rattle.std.proofs.Common.{drop-cons}
use Rattle.std.proofs.lemmas.List.{append_assoc, map-append, take-append-drop}
use Rattle.std.proofs.lemmas.List.Sums.{fold-append}
use Rattle.pas_tokens.specs.declared.kinds.Kind.TheVariants as k
use Rattle.pas_syntax.specs.declared.tree.Variable as code_variable
use Rattle.pas_syntax.specs.declared.tree.Selector as code_selector
use Rattle.pas_syntax.specs.declared.tree.Exprs as code_exprs
use Rattle.pas_syntax.specs.declared.tree.MoreExpr as code_more
use Rattle.pas_syntax.specs.declared.tree.Expr.TheOpen.{Selector-F}
use Rattle.pas_syntax.specs.declared.tree.Expr.TheViews.{out-Exprs, out-MoreExpr, out-Variable}
use Rattle.pas_syntax.specs.declared.tree.Expr.TheFolds.{fold_out-Exprs, fold_out-MoreExpr, fold_out-Variable}
use Rattle.pas_syntax.specs.declared.tree.Expr.TheFolds.{fold_out-Selector}
use Rattle.pas_syntax.specs.Tree as tree
use Rattle.pas_syntax.specs.Tree.{Expr, Sum, Term, Factor, Variable, Exprs}
use Rattle.pas_syntax.specs.Words.{Word, at, name_at, expr_words, exprs_words, variable_words}
use Rattle.pas_syntax.specs.Views.{OfExprs, in_turn, ident_in, expr_step, sum_step, term_step}
use Rattle.pas_syntax.specs.Views.{factor_step, call_step, selector_step, variable_step, exprs_step, more_expr_step}
use Rattle.pas_syntax.specs.Views.{expr_in, variable_in, selector_in, exprs_in, more_expr_in}
use Rattle.pas_typed.specs.Typed.{Place}
use Rattle.pas_scopes.specs.declared.stop.Stop.{Stop}
use Rattle.pas_scopes.specs.declared.stop.Stop.TheVariants as stop
use Rattle.pas_scopes.specs.declared.judged.Judged.{Judged as CodeJudged}
use Rattle.pas_rules.specs.Marks.{Marks, quiet, joined, Judged, judged, checked}
use Rattle.pas_rules.specs.Scopes.{Scopes}
use Rattle.pas_rules.specs.Expressions.{value_of, place_of, elements_at, element_of, element_by, as_array, array_only}
use Rattle.std.specs.Prelude.{◌≢◌}
use Rattle.pas_rules.specs.Expressions.{variable_value, read_of}
use Rattle.pas_rules.specs.Expressions.{closed_by, record_only, files_only}
use Rattle.pas_scopes.specs.Answers.{end_in, closed_end, Closes, EndsAs, StopsBy, FailsBy, Answers}
use Rattle.pas_syntax.proofs.ExprViews.{pushed_in_turn}
use Rattle.pas_scopes.proofs.LabelSeen.{taken_more, taken_all}
use Rattle.pas_rules.proofs.ExpressionsAsMany.{value_many, element_many}
use Rattle.pas_scopes.proofs.EndLemmas.{stops_within}
use Rattle.pas_scopes.proofs.PartLemmas.{pair}
use Rattle.pas_scopes.proofs.AnswerLemmas.{ends_moved, stops_fails, checked_stops_by, pair_fails, pair_stops}
use Rattle.pas_scopes.proofs.PlaceLemmas.{other_of, unclosed, closed, a_record, a_field, field_pair, many_fields}

-- all that is selected, at an item on the way
pub turned_at : {A X : Type 0} (first : A) (view : X → A → A) (xs : List X) (i : ℕ) (x : X) → i < length xs
    → x ≡ get_or xs i x
    → in_turn (view x (in_turn first (map view (take i xs)))) (map view (drop (suc i) xs))
    ≡ in_turn first (map view xs)
turned_at {A = A} first view xs i x within is =
    let behind : drop i xs ≡ x ∷ drop (suc i) xs =
    drop-cons xs i x within ∙ ap (λ (item : _). item ∷ drop (suc i) xs) (sym is) in
    sym (ap (λ (all : List _). in_turn first (map view all)) (sym (take-append-drop i xs))
    ∙ ap (in_turn first) (map-append view (take i xs) (drop i xs))
    ∙ fold-append (λ (found : A) (further : A → A). further found) first (map view (take i xs)) (map view (drop i xs))
    ∙ ap (λ (rest : List _). in_turn (in_turn first (map view (take i xs))) (map view rest)) behind)

-- and with one item more, or all of them
pub turned_more : {A X : Type 0} (first : A) (view : X → A → A) (xs : List X) (i : ℕ) (x : X) → i < length xs
    → x ≡ get_or xs i x
    → view x (in_turn first (map view (take i xs))) ≡ in_turn first (map view (take (i + 1) xs))
turned_more first view xs i x within is =
    sym (pushed_in_turn first view (take i xs) (take (i + 1) xs) x (taken_more xs i x within is))

pub turned_all : {A X : Type 0} (first : A) (view : X → A → A) (xs : List X) (i : ℕ) → length xs ≤ i
    → in_turn first (map view (take i xs)) ≡ in_turn first (map view xs)
turned_all first view xs i h = ap (λ (all : List _). in_turn first (map view all)) (taken_all xs i h)

-- a part before the word that closes a larger one
pub closes_answers : {A X : Type 0} (words : List Word) (word : Word) (part : Judged A) (view : X → A)
    (found : CodeJudged X) (line : ℕ) (result : Result (CodeJudged X) Stop) → word.token.line ≡ line
    → Closes found line result → EndsAs words part (view found.value) (end_in found.end)
    → Answers (words ++ word ∷ []) (judged (joined (part.marks ∷ quiet ∷ [])) part.value) view result
closes_answers words word part view found line (Ok last) at is h =
    let whole : Judged _ = judged (joined (part.marks ∷ quiet ∷ [])) part.value in
    ends_moved (words ++ word ∷ []) whole (view found.value) (view last.value) (closed_end word.token.line
    (end_in found.end)) (end_in last.end) (ap view is.1)
    (is.2 ∙ ap (λ line. closed_end line (end_in found.end)) (sym at))
    (closed words word part part.value (view found.value) (end_in found.end) h (view found.value) is.0 h.known)
closes_answers words word part view found line (Err why) at is h =
    unclosed words word part part.value (view found.value) (end_in found.end) h why is

-- words that do not stand, before the word that closes a larger part
pub closing_stops : {A : Type 0} (words : List Word) (word : Word) (marks : Marks) (whole : Option A) (why : Stop)
    → FailsBy words marks why
    → StopsBy (words ++ word ∷ []) (judged (joined (marks ∷ quiet ∷ [])) whole) why
closing_stops words word marks whole stop.OutOfMemory h = tt
closing_stops words word marks whole (stop.Fault fault) h =
    stops_within words (word ∷ []) marks (joined (quiet ∷ [])) whole fault h.many h.first refl (omega arith)
closing_stops words word marks whole stop.Missing h = absurd h

-- the first of some indexes
abbrev pub first_index : Exprs → Expr
first_index (tree.first_expr e) = e
first_index (tree.more_exprs before line e) = first_index before

module _ (spellings : List ℕ) where
  pub exprs_out : (es : code_exprs.Exprs)
      → in_turn (tree.first_expr (expr_in spellings (out-Exprs es).first))
      (map (more_expr_in spellings) (out-Exprs es).more) ≡ exprs_in spellings es
  exprs_out es =
      sym (fold_out-Exprs Expr Factor (Variable → Variable) Sum Term Exprs Factor (Exprs → Exprs) Variable
      expr_step (factor_step spellings) (selector_step spellings) sum_step term_step exprs_step (call_step spellings)
      more_expr_step (variable_step spellings) es)

  pub more_out : (more : code_more.MoreExpr) → (before : Exprs)
      → tree.more_exprs before (out-MoreExpr more).line (expr_in spellings (out-MoreExpr more).value)
      ≡ more_expr_in spellings more before
  more_out more before =
      sym (ap (λ (make : Exprs → Exprs). make before)
      (fold_out-MoreExpr Expr Factor (Variable → Variable) Sum Term Exprs Factor (Exprs → Exprs) Variable
      expr_step (factor_step spellings) (selector_step spellings) sum_step term_step exprs_step (call_step spellings)
      more_expr_step (variable_step spellings) more))

  pub variable_out : (v : code_variable.Variable)
      → in_turn (tree.whole (ident_in spellings (out-Variable v).name))
      (map (selector_in spellings) (out-Variable v).selectors) ≡ variable_in spellings v
  variable_out v =
      sym (fold_out-Variable Expr Factor (Variable → Variable) Sum Term Exprs Factor (Exprs → Exprs) Variable
      expr_step (factor_step spellings) (selector_step spellings) sum_step term_step exprs_step (call_step spellings)
      more_expr_step (variable_step spellings) v)

module _ (scopes : Scopes) (n a : ℕ) where
  -- what is said of indexes behind a place
  abbrev pub IndexesFail : List Word → Word → Judged Place → Stop → Exprs → Type 0
  IndexesFail words opened part why es =
      FailsBy (words ++ opened ∷ exprs_words n a es) (elements_at scopes part es).marks why

  -- what an index behind others is, by what it is alone behind the comma
  pub grouped_fail : (words : List Word) (opened : Word) (part : Judged Place) (before : Exprs) (line : ℕ) (index :
      Expr)
      (why : Stop)
      → FailsBy ((words ++ opened ∷ exprs_words n a before) ++ at n k.Comma line ∷ expr_words n a index)
      (element_of scopes.outer.types (elements_at scopes part before) (value_of scopes index)).marks why
      → IndexesFail words opened part why (tree.more_exprs before line index)
  grouped_fail words opened part before line index why h =
      subst (λ (all : List Word). FailsBy all
      (element_of scopes.outer.types (elements_at scopes part before) (value_of scopes index)).marks why)
      (append_assoc words (opened ∷ exprs_words n a before) (at n k.Comma line ∷ expr_words n a index)) h

  pub more_fails : (words : List Word) (opened : Word) (part : Judged Place) (before : Exprs) (line : ℕ) (index : Expr)
      (why : Stop) → IndexesFail words opened part why before
      → IndexesFail words opened part why (tree.more_exprs before line index)
  more_fails words opened part before line index why h =
      let front : List Word = words ++ opened ∷ exprs_words n a before in
      let rest : List Word = expr_words n a index in
      let left : Judged Place = elements_at scopes part before in
      let right : Judged Place = element_by scopes.outer.types (value_of scopes index) left.value in
      grouped_fail words opened part before line index why
      (stops_fails (front ++ at n k.Comma line ∷ rest) (pair other_of left right) why
      (pair_fails front rest (at n k.Comma line) other_of left right
      (element_many scopes.outer.types (value_of scopes index) left.value (value_many scopes n a index)) why h))

  pub begins_fail : (words : List Word) (opened : Word) (part : Judged Place) (why : Stop) (es : Exprs)
      → FailsBy (words ++ opened ∷ expr_words n a (first_index es))
      (element_of scopes.outer.types part (value_of scopes (first_index es))).marks why
      → IndexesFail words opened part why es
  begins_fail words opened part why (tree.first_expr e) h = h
  begins_fail words opened part why (tree.more_exprs before line e) h =
      more_fails words opened part before line e why (begins_fail words opened part why before h)

  module _ (spellings : List ℕ) (words : List Word) (opened : Word) (part : Judged Place) (why : Stop) where
    pub one_more_fails : (more : code_more.MoreExpr) (before : Exprs) → IndexesFail words opened part why before
        → IndexesFail words opened part why (more_expr_in spellings more before)
    one_more_fails more before h =
        subst (IndexesFail words opened part why) (more_out spellings more before)
        (more_fails words opened part before (out-MoreExpr more).line (expr_in spellings (out-MoreExpr more).value) why
        h)

    pub rest_fails : (more : List code_more.MoreExpr) (before : Exprs) → IndexesFail words opened part why before
        → IndexesFail words opened part why (in_turn before (map (more_expr_in spellings) more))
    rest_fails [] before h = h
    rest_fails (next ∷ more) before h =
        rest_fails more (more_expr_in spellings next before) (one_more_fails next before h)

module _ (scopes : Scopes) (n a : ℕ) where
  -- what is said of a variable
  abbrev pub PlaceStops : Stop → Variable → Type 0
  PlaceStops why v = StopsBy (variable_words n a v) (place_of scopes v) why

  pub indexed_stops : (v : Variable) (opened : ℕ) (es : Exprs) (closed : ℕ) (why : Stop)
      → IndexesFail scopes (n + 1) a (variable_words n a v) (at (n + 1) k.LeftBracket opened)
      (as_array scopes.outer.types (place_of scopes v)) why es
      → PlaceStops why (tree.indexed v opened es closed)
  indexed_stops v opened es closed why h =
      let front : Word = at (n + 1) k.LeftBracket opened in
      let last : Word = at (n + 1) k.RightBracket closed in
      let elements : Judged Place = elements_at scopes (as_array scopes.outer.types (place_of scopes v)) es in
      subst (λ (all : List Word). StopsBy all (closed_by elements) why)
      (append_assoc (variable_words n a v) (front ∷ exprs_words (n + 1) a es) (last ∷ []))
      (closing_stops (variable_words n a v ++ front ∷ exprs_words (n + 1) a es) last elements.marks elements.value why
      h)

  -- checking stops in the variable before the selector
  step_stops : (spellings : List ℕ) (layer : OfExprs Selector-F) (v : Variable) (why : Stop) → PlaceStops why v
      → PlaceStops why (selector_step spellings layer v)
  step_stops spellings (Selector-F.Indexes opened es closed) v why h =
      let words : List Word = variable_words n a v in
      let front : Word = at (n + 1) k.LeftBracket opened in
      let array : Judged Place = as_array scopes.outer.types (place_of scopes v) in
      let index : Expr = first_index es in
      let element : Judged Place = element_by scopes.outer.types (value_of scopes index) array.value in
      indexed_stops v opened es closed why
      (begins_fail scopes (n + 1) a words front array why es
      (stops_fails (words ++ front ∷ expr_words (n + 1) a index) (pair other_of array element) why
      (pair_stops words (expr_words (n + 1) a index) front other_of array element
      (element_many scopes.outer.types (value_of scopes index) array.value (value_many scopes (n + 1) a index)) why
      (checked_stops_by words (array_only scopes.outer.types) (place_of scopes v) why h))))
  step_stops spellings (Selector-F.Field line ident) v why h =
      let words : List Word = variable_words n a v in
      let name : Word = name_at n (ident_in spellings ident) in
      let table = scopes.outer.types in
      let part : Judged Place = place_of scopes v in
      subst (λ (whole : Judged Place). StopsBy (words ++ at n k.Dot line ∷ (name ∷ [])) whole why)
      (field_pair words (at n k.Dot line) name table part (ident_in spellings ident))
      (pair_stops words (name ∷ []) (at n k.Dot line) other_of
      (a_record words (at n k.Dot line) name table part (ident_in spellings ident))
      (a_field words (at n k.Dot line) name table part (ident_in spellings ident))
      (many_fields words (at n k.Dot line) name table part (ident_in spellings ident)) why
      (checked_stops_by words (record_only table) part why h))
  step_stops spellings (Selector-F.Buffer line) v why h =
      let words : List Word = variable_words n a v in
      let file : Judged Place = checked (files_only scopes.outer.types) (place_of scopes v) in
      closing_stops words (at n k.Caret line) file.marks _ why
      (stops_fails words file why (checked_stops_by words (files_only scopes.outer.types) (place_of scopes v) why h))

  module _ (spellings : List ℕ) (why : Stop) where
    pub one_more_stops : (selector : code_selector.Selector) (v : Variable) → PlaceStops why v
        → PlaceStops why (selector_in spellings selector v)
    one_more_stops selector v h =
        subst (λ (make : Variable → Variable). PlaceStops why (make v))
        (sym (fold_out-Selector Expr Factor (Variable → Variable) Sum Term Exprs Factor (Exprs → Exprs) Variable
        expr_step (factor_step spellings) (selector_step spellings) sum_step term_step exprs_step (call_step spellings)
        more_expr_step (variable_step spellings) selector))
        (step_stops spellings _ v why h)

    pub rest_stops : (more : List code_selector.Selector) (v : Variable) → PlaceStops why v
        → PlaceStops why (in_turn v (map (selector_in spellings) more))
    rest_stops [] v h = h
    rest_stops (next ∷ more) v h = rest_stops more (selector_in spellings next v) (one_more_stops next v h)

-- a variable with a selector is a place that is read
module _ (scopes : Scopes) (spellings : List ℕ) where
  record IsRead (v : Variable) : Type 0 where
    same : read_of (place_of scopes v) ≡ variable_value scopes v

  step_read : (layer : OfExprs Selector-F) (v : Variable) → IsRead (selector_step spellings layer v)
  step_read (Selector-F.Indexes opened es closed) v = record { same = refl }
  step_read (Selector-F.Field line ident) v = record { same = refl }
  step_read (Selector-F.Buffer line) v = record { same = refl }

  selected_read : (more : List code_selector.Selector) (next : code_selector.Selector) (v : Variable)
      → IsRead (in_turn v (map (selector_in spellings) (next ∷ more)))
  selected_read [] next v =
      subst (λ (make : Variable → Variable). IsRead (make v))
      (sym (fold_out-Selector Expr Factor (Variable → Variable) Sum Term Exprs Factor (Exprs → Exprs) Variable
      expr_step (factor_step spellings) (selector_step spellings) sum_step term_step exprs_step (call_step spellings)
      more_expr_step (variable_step spellings) next))
      (step_read _ v)
  selected_read (other ∷ more) next v = selected_read more other (selector_in spellings next v)

  pub some_read : (selectors : List code_selector.Selector) (v : Variable) → selectors ≢ []
      → read_of (place_of scopes (in_turn v (map (selector_in spellings) selectors)))
      ≡ variable_value scopes (in_turn v (map (selector_in spellings) selectors))
  some_read [] v h = absurd (h refl)
  some_read (next ∷ more) v h = (selected_read more next v).same
