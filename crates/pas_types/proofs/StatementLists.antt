-- Statements one after another, as far as they were looked at.
use Rattle.std.proofs.Common.{◌≡◌, refl, sym, ap, subst, ◌∙◌, ℕ, ◌+◌, ◌<◌, suc, List, [], ◌∷◌, ◌++◌, false}
use Rattle.std.proofs.Common.{map, length, take, drop, drop-cons, get_or, Option, Some, None, Result, Ok, Err}
use Rattle.std.specs.Prelude.{OnOk}
use Rattle.std.proofs.lemmas.List.{take-append-drop}
use Rattle.pas_tokens.specs.declared.kinds.Kind.TheVariants as kind
use Rattle.pas_syntax.specs.declared.tree.MoreStatement as code_more
use Rattle.pas_syntax.specs.declared.tree.Others.TheViews.{out-MoreStatement}
use Rattle.pas_syntax.specs.Tree as tree
use Rattle.pas_syntax.specs.Tree.{Statement, Statements}
use Rattle.pas_syntax.specs.Views.{in_turn}
use Rattle.pas_syntax.specs.Words.{at, statement_words, statements_words}
use Rattle.pas_syntax.specs.ProgramViews.{statement_in, more_statement_in}
use Rattle.pas_typed.specs.declared.typed.Labelled as code_labelled
use Rattle.pas_typed.specs.declared.typed.Statement.TheViews.{out-Labelled}
use Rattle.pas_typed.specs.declared.typed.Statement.TheFolds.{fold_out-Labelled}
use Rattle.pas_typed.specs.Typed as typed
use Rattle.pas_typed.specs.Typed.{Arms}
use Rattle.pas_typed.specs.TypedViews.{statement_step, arm_step, labelled_step, statement_view, labelled_view}
use Rattle.pas_typed.specs.TypedViews.{statements_view}
use Rattle.pas_types.specs.declared.flow.Flow.{Flow}
use Rattle.pas_scopes.specs.declared.scopes.Scopes.{Scopes as CodeScopes}
use Rattle.pas_scopes.specs.declared.stop.Stop.{Stop}
use Rattle.pas_scopes.specs.declared.stop.Stop.TheVariants as stop
use Rattle.pas_rules.specs.Marks.{quiet, joined, Judged, known}
use Rattle.pas_rules.specs.Scopes.{Scopes}
use Rattle.pas_rules.specs.Labels.{in_list, labels_at, labels_in_list}
use Rattle.pas_rules.specs.Statements.{statement_of, statements_of, label_of, with_statement}
use Rattle.pas_scopes.specs.ScopeViews.{scopes_view, IsClear}
use Rattle.pas_scopes.specs.Stopping.{stop_before}
use Rattle.pas_scopes.specs.Answers.{Means, ShowsBy, Settles}
use Rattle.pas_types.specs.inner.FlowViews.{IsFlow, ShowsBefore, listed_statement, IsListed, Goes}
use Rattle.pas_rules.proofs.AsMany.{AsMany, all, next_word}
use Rattle.pas_rules.proofs.StatementsAsMany.{statement_many}
use Rattle.pas_scopes.proofs.SettleLemmas.{quiet_alone, shows_alone}
use Rattle.pas_types.proofs.ChainLemmas.{made_of, made_of_both, before_shows, behind_shows, behind_quiet, fault_front}
use Rattle.pas_scopes.proofs.LabelSeen.{more_seen, taken_more, turned_push, map_push}
use Rattle.pas_types.proofs.FlowLemmas.{regroup}

-- what was found of the last statement of a list: with it the list means this, and this is known behind it
pub record IsSoFar (scopes : CodeScopes) (old new : Flow) (list : Statements)
    (statements : List code_labelled.Labelled) (found : Result code_labelled.Labelled Stop) : Type 0 where
  pub means : (around before : List ℕ) → IsFlow (scopes_view scopes) around before old → IsClear (scopes_view scopes)
      → (n : ℕ)
      → Settles (statements_words n list) (statements_of (scopes_view scopes) around before list)
      (λ last. statements_view scopes.spellings.now (statements ++ last ∷ [])) found
  pub goes : Goes scopes old (labels_in_list list) found new

-- a list with one statement more
module _ (spellings : List ℕ) where
  pub labelled_seen : (x : code_labelled.Labelled)
      → labelled_view spellings x
      ≡ (λ others. typed.item (out-Labelled x).label (statement_view spellings (out-Labelled x).statement) others)
  labelled_seen =
      fold_out-Labelled typed.Statement (Arms → Arms) (typed.Statements → typed.Statements)
      (statement_step spellings) arm_step labelled_step

  pub one_more : (statements : List code_labelled.Labelled) (last : code_labelled.Labelled) (label : Option ℕ)
      (found : typed.Statement) → labelled_view spellings last ≡ (λ others. typed.item label found others)
      → with_statement label (statements_view spellings statements) found
      ≡ statements_view spellings (statements ++ last ∷ [])
  one_more [] last label found is =
      ap (λ (step : typed.Statements → typed.Statements). step typed.no_statements) (sym is)
  one_more (first ∷ statements) last label found is =
      ap (λ (step : typed.Statements → typed.Statements).
      with_statement label (step (statements_view spellings statements)) found) (labelled_seen first)
      ∙ (ap (λ (rest : typed.Statements). typed.item (out-Labelled first).label
      (statement_view spellings (out-Labelled first).statement) rest) (one_more statements last label found is)
      ∙ sym (ap (λ (step : typed.Statements → typed.Statements).
      step (statements_view spellings (statements ++ last ∷ []))) (labelled_seen first)))

-- a statement by itself, as it was found
known_steps : (label : Option ℕ) (value : Option typed.Statement) (step : typed.Statements → typed.Statements)
    → known (λ statement list. typed.item label statement list) value ≡ Some step
    → (found : typed.Statement) × (value ≡ Some found) × (step ≡ (λ list. typed.item label found list))
known_steps label None step is = cc
known_steps label (Some found) step is =
    let same : (λ list. typed.item label found list) ≡ step = cc in (found, refl, sym same)

module _ (scopes : Scopes) (spellings : List ℕ) (around before : List ℕ) (n : ℕ) where
  -- the first statement
  first_settles : (s : Statement) (found : Result code_labelled.Labelled Stop)
      → Settles (statement_words n s) (listed_statement scopes around before s) (labelled_view spellings) found
      → Settles (statements_words n (tree.first_statement s))
      (statements_of scopes around before (tree.first_statement s))
      (λ last. statements_view spellings ([] ++ last ∷ [])) found
  first_settles s (Err why) h = first_shows why h
    where
      first_shows : (why : Stop) → ShowsBy (statement_words n s) (listed_statement scopes around before s).marks why
          → ShowsBy (statements_words n (tree.first_statement s))
          (statements_of scopes around before (tree.first_statement s)).marks why
      first_shows stop.OutOfMemory h = tt
      first_shows (stop.Fault fault) h = h
      first_shows stop.Missing h = h
  first_settles s (Ok last) h =
      let part : Judged typed.Statement = statement_of scopes in_list around before s in
      let steps : (found : typed.Statement) × (part.value ≡ Some found)
      × (labelled_view spellings last ≡ (λ list. typed.item (label_of s) found list)) =
      known_steps (label_of s) part.value (labelled_view spellings last) h.known in
      record {
        known = made_of (with_statement (label_of s) typed.no_statements) part.value steps.0 steps.1
            ∙ ap Some (one_more spellings [] last (label_of s) steps.0 steps.2);
        quiet = h.quiet;
      }

  -- a statement behind others
  module _ (list : Statements) (line : ℕ) (s : Statement) where
    abbrev one : Judged typed.Statements
    one = statements_of scopes around before list

    abbrev next : Judged typed.Statement
    next = statement_of scopes in_list around (before ++ labels_in_list list) s

    abbrev listed : Judged (typed.Statements → typed.Statements)
    listed = listed_statement scopes around (before ++ labels_in_list list) s

    next_many : AsMany (statement_words n s) (joined (next.marks ∷ []))
    next_many = all next.marks (statement_many scopes n in_list around (before ++ labels_in_list list) s)

    next_settles : (statements : List code_labelled.Labelled) (found : Result code_labelled.Labelled Stop)
        → Means (statements_words n list) one (statements_view spellings statements)
        → Settles (statement_words n s) listed (labelled_view spellings) found
        → Settles (statements_words n (tree.more_statements list line s))
        (statements_of scopes around before (tree.more_statements list line s))
        (λ last. statements_view spellings (statements ++ last ∷ [])) found
    next_settles statements (Err why) h l =
        behind_shows (statements_words n list) (statement_words n s) (at n kind.Semicolon line) one.marks
        (joined (next.marks ∷ [])) h.quiet why (shows_alone (statement_words n s) next.marks why l)
    next_settles statements (Ok last) h l =
        let steps : (found : typed.Statement) × (next.value ≡ Some found)
        × (labelled_view spellings last ≡ (λ list. typed.item (label_of s) found list)) =
        known_steps (label_of s) next.value (labelled_view spellings last) l.known in
        record {
          known = made_of_both (with_statement (label_of s)) one.value next.value (statements_view spellings statements)
              steps.0 h.known steps.1
              ∙ ap Some (one_more spellings statements last (label_of s) steps.0 steps.2);
          quiet = behind_quiet (statements_words n list) (statement_words n s) (at n kind.Semicolon line) one.marks
              (joined (next.marks ∷ [])) h.quiet false (quiet_alone (statement_words n s) next.marks false l.quiet);
        }

    -- what stops in the others
    line_stops : (why : Stop) → ShowsBefore line (statements_words n list) one.marks why
        → ShowsBy (statements_words n (tree.more_statements list line s))
        (statements_of scopes around before (tree.more_statements list line s)).marks why
    line_stops why h =
        before_shows (statements_words n list) (statement_words n s) (at n kind.Semicolon line) one.marks
        (joined (next.marks ∷ [])) next_many why h

    others_stop : (why : Stop) → (why ≡ stop.Missing → ⊥) → ShowsBy (statements_words n list) one.marks why
        → ShowsBy (statements_words n (tree.more_statements list line s))
        (statements_of scopes around before (tree.more_statements list line s)).marks why
    others_stop why there h =
        fault_front (statements_words n list) (at n kind.Semicolon line ∷ statement_words n s) one.marks
        (joined (quiet ∷ next.marks ∷ [])) why
        (next_word (at n kind.Semicolon line) [] (joined (next.marks ∷ [])) next_many) there h

  -- a fault in a list, whatever statements stand behind
  abbrev shown_in_list : Stop → Statements → Type 0
  shown_in_list why list =
      ShowsBy (statements_words n list) (statements_of scopes around before list).marks why

  faults_stay : (why : Stop) → (why ≡ stop.Missing → ⊥) → (list : Statements) (more : List code_more.MoreStatement)
      → shown_in_list why list → shown_in_list why (in_turn list (map (more_statement_in spellings) more))
  faults_stay why there list [] h = h
  faults_stay why there list (first ∷ more) h =
      faults_stay why there (more_statement_in spellings first list) more
      (subst (λ (step : Statements → Statements). shown_in_list why (step list)) (sym (more_seen spellings first))
      (others_stop list (out-MoreStatement first).line (statement_in spellings (out-MoreStatement first).statement) why
      there h))

  never_missing : (line : ℕ) (why other : Stop) → why ≡ stop_before line other → why ≡ stop.Missing → ⊥
  never_missing line why stop.OutOfMemory is are = cc
  never_missing line why (stop.Fault fault) is are = cc
  never_missing line why stop.Missing is are = cc

  pub list_stops : (list : Statements) (next : code_more.MoreStatement) (more : List code_more.MoreStatement)
      (why : Stop)
      → ShowsBefore (out-MoreStatement next).line (statements_words n list)
      (statements_of scopes around before list).marks why
      → shown_in_list why (in_turn list (map (more_statement_in spellings) (next ∷ more)))
  list_stops list next more why h =
      faults_stay why (never_missing (out-MoreStatement next).line why h.0 h.1) (more_statement_in spellings next list)
      more
      (subst (λ (step : Statements → Statements). shown_in_list why (step list)) (sym (more_seen spellings next))
      (line_stops list (out-MoreStatement next).line (statement_in spellings (out-MoreStatement next).statement) why h))

-- the first statement, and one more
module _ (scopes : CodeScopes) where
  abbrev sp : List ℕ
  sp = scopes.spellings.now

  pub first_so_far : (old new : Flow) (s : Statement) (found : Result code_labelled.Labelled Stop)
      → IsListed scopes old s found → Goes scopes old (labels_at s) found new
      → IsSoFar scopes old new (tree.first_statement s) [] found
  first_so_far old new s found means goes = record {
    means = λ around before flow clear n.
        first_settles (scopes_view scopes) sp around before n s found (means around before flow clear n);
    goes = goes;
  }

  behind_ok : {X : Type 0} (scopes : Scopes) (around before here behind : List ℕ) (new : Flow) (found : Result X Stop)
      → OnOk found (IsFlow scopes around ((before ++ here) ++ behind) new)
      → OnOk found (IsFlow scopes around (before ++ (here ++ behind)) new)
  behind_ok scopes around before here behind new (Ok x) h = regroup scopes around before new here behind h
  behind_ok scopes around before here behind new (Err why) h = tt

  pub next_so_far : (old here new : Flow) (list : Statements) (line : ℕ) (s : Statement)
      (statements : List code_labelled.Labelled) (last : code_labelled.Labelled)
      (found : Result code_labelled.Labelled Stop) → IsSoFar scopes old here list statements (Ok last)
      → IsListed scopes here s found → Goes scopes here (labels_at s) found new
      → IsSoFar scopes old new (tree.more_statements list line s) (statements ++ last ∷ []) found
  next_so_far old here new list line s statements last found so_far means goes = record {
    means = λ around before flow clear n.
        next_settles (scopes_view scopes) sp around before n list line s (statements ++ last ∷ []) found
        (so_far.means around before flow clear n)
        (means around (before ++ labels_in_list list) (so_far.goes around before flow) clear n);
    goes = λ around before flow.
        behind_ok (scopes_view scopes) around before (labels_in_list list) (labels_at s) new found
        (goes around (before ++ labels_in_list list) (so_far.goes around before flow));
  }

-- how far the loop over the statements of a list has come
module _ (spellings : List ℕ) (first : Statement) where
  abbrev pub so_far : List code_more.MoreStatement → Statements
  so_far more = in_turn (tree.first_statement first) (map (more_statement_in spellings) more)

  pub one_more_taken : (more : List code_more.MoreStatement) (i : ℕ) (next : code_more.MoreStatement)
      → i < length more → next ≡ get_or more i next
      → so_far (take (i + 1) more)
      ≡ tree.more_statements (so_far (take i more)) (out-MoreStatement next).line
      (statement_in spellings (out-MoreStatement next).statement)
  one_more_taken more i next within is =
      ap so_far (taken_more more i next within is)
      ∙ (ap (in_turn (tree.first_statement first)) (map_push spellings (more_statement_in spellings) (take i more) next)
      ∙ (turned_push spellings (tree.first_statement first) (map (more_statement_in spellings) (take i more))
      (more_statement_in spellings next)
      ∙ ap (λ (step : Statements → Statements). step (so_far (take i more))) (more_seen spellings next)))

  turned_both : (start : Statements) (one other : List code_more.MoreStatement)
      → in_turn start (map (more_statement_in spellings) (one ++ other))
      ≡ in_turn (in_turn start (map (more_statement_in spellings) one)) (map (more_statement_in spellings) other)
  turned_both start [] other = refl
  turned_both start (x ∷ one) other = turned_both (more_statement_in spellings x start) one other

  pub all_taken : (more : List code_more.MoreStatement) (i : ℕ) (next : code_more.MoreStatement) → i < length more
      → next ≡ get_or more i next
      → so_far more
      ≡ in_turn (so_far (take i more)) (map (more_statement_in spellings) (next ∷ drop (suc i) more))
  all_taken more i next within is =
      ap so_far (sym (take-append-drop i more))
      ∙ (turned_both (tree.first_statement first) (take i more) (drop i more)
      ∙ ap (λ (rest : List code_more.MoreStatement).
      in_turn (so_far (take i more)) (map (more_statement_in spellings) rest))
      (drop-cons more i next within ∙ ap (λ (x : code_more.MoreStatement). x ∷ drop (suc i) more) (sym is)))
