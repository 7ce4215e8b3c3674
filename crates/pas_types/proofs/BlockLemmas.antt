-- Statements of a routine, and what its `end` shows.
use Rattle.std.proofs.Common.{◌≡◌, refl, sym, ap, subst, ◌∙◌, ℕ, Bool, true, false, List, [], ◌∷◌, ◌++◌}
use Rattle.std.proofs.Common.{Option, Some, None, Result, Ok, Err}
use Rattle.std.specs.Option.{option_copied}
use Rattle.wb_base.specs.declared.faults.TheConstants.{WRONG_TYPE, WRONG_LABEL, RESULT_NEVER_ASSIGNED}
use Rattle.pas_tokens.specs.Cutting.{Wrong, wrong}
use Rattle.pas_tokens.specs.Tokens.{fault_in}
use Rattle.pas_tokens.specs.declared.kinds.Kind.TheVariants as k
use Rattle.pas_syntax.specs.Tree.{Compound}
use Rattle.pas_syntax.specs.Words.{Word, at, statements_words}
use Rattle.pas_typed.specs.declared.typed.Labelled as code_labelled
use Rattle.pas_types.specs.declared.flow.Flow.{Flow}
use Rattle.pas_scopes.specs.declared.scopes.Inner.{Inner as CodeInner}
use Rattle.pas_scopes.specs.declared.scopes.Scopes.{Scopes as CodeScopes}
use Rattle.pas_scopes.specs.declared.stop.Stop.{Stop}
use Rattle.pas_scopes.specs.declared.stop.Stop.TheVariants as stop
use Rattle.pas_typed.specs.Typed as typed
use Rattle.pas_rules.specs.Marks.{Marks, quiet, shows, first_of, followed, joined, unless, lowest, first_fault, Judged}
use Rattle.pas_rules.specs.Scopes.{Scopes}
use Rattle.pas_rules.specs.Labels.{labels_in_list, labels_of_list}
use Rattle.pas_rules.specs.Routines.{Sort, procedure, function, list_gives_result, result_missing, all_stand}
use Rattle.pas_scopes.specs.ScopeViews.{outer_view, inner_view, scopes_view}
use Rattle.pas_scopes.specs.Stopping.{stop_before, demanded, found_before, shown_in}
use Rattle.pas_scopes.specs.Answers.{Shows, FailsBy, IsQuiet, ShowsBy, Settles, Means}
use Rattle.pas_types.specs.inner.FlowViews.{IsFlow, IsBeside}
use Rattle.pas_types.specs.inner.LabelViews.{known_labels, all_stand_in}
use Rattle.pas_scopes.specs.Locals.{IsWithin}
use Rattle.pas_types.specs.inner.BlockAnswers.{list_in, end_faults, body_marks, closed_words, IsBody}
use Rattle.pas_rules.proofs.AsMany.{AsMany, and_then, next_word}
use Rattle.pas_rules.proofs.StatementsAsMany.{statements_many}
use Rattle.pas_types.proofs.LabelRules.{all_stand_known}
use Rattle.pas_scopes.proofs.WithinLemmas.{seen_is, seen_scopes}
use Rattle.pas_scopes.proofs.EndLemmas.{behind_quiet, quiet_many}
use Rattle.pas_scopes.proofs.SettleLemmas.{quiet_word, quiet_alone, quiet_behind, found_stops}
use Rattle.pas_scopes.proofs.LocalRowLemmas.{fails_front, fails_behind}

-- the faults of an `end`: what is missing before it is told first, then a label, then the result
lowest_two : (a b : Bool)
    → lowest (wrong WRONG_TYPE) (unless a (wrong WRONG_LABEL) ++ unless b (wrong RESULT_NEVER_ASSIGNED)) ≡ wrong WRONG_TYPE
lowest_two true true = refl
lowest_two true false = refl
lowest_two false true = refl
lowest_two false false = refl

pub lowest_end : (a : Bool) (sort : Sort) (value : Option typed.Statements)
    → lowest (wrong WRONG_TYPE) (unless a (wrong WRONG_LABEL) ++ result_missing sort value) ≡ wrong WRONG_TYPE
lowest_end a procedure value = lowest_two a true
lowest_end a function None = lowest_two a true
lowest_end a function (Some list) = lowest_two a (list_gives_result list)

pub given_is : (sort : Sort) (list : typed.Statements)
    → (b : Bool) × (result_missing sort (Some list) ≡ unless b (wrong RESULT_NEVER_ASSIGNED))
given_is procedure list = (true, refl)
given_is function list = (list_gives_result list, refl)

-- statements between two words
module _ (begin : Word) (words : List Word) (list : Marks) (end_line line : ℕ) (faults : List Wrong)
    (many : AsMany words list) where
  abbrev end : Word
  end = at 1 k.End end_line

  abbrev semicolon : Word
  semicolon = at 0 k.Semicolon line

  abbrev last : Marks
  last = joined (quiet ∷ [])

  abbrev tail : Marks
  tail = joined (shows faults ∷ quiet ∷ [])

  abbrev pub whole_words : List Word
  whole_words = begin ∷ (words ++ end ∷ (semicolon ∷ []))

  abbrev pub whole_marks : Marks
  whole_marks = joined (quiet ∷ list ∷ shows faults ∷ quiet ∷ [])

  last_many : AsMany (semicolon ∷ []) last
  last_many = next_word semicolon [] (joined []) (record { same = refl })

  tail_many : AsMany (end ∷ (semicolon ∷ [])) tail
  tail_many = next_word end faults last last_many

  behind_begin : (why : Stop) → FailsBy (words ++ end ∷ (semicolon ∷ [])) (followed list tail) why
      → FailsBy whole_words whole_marks why
  behind_begin why h =
      fails_behind (begin ∷ []) (words ++ end ∷ (semicolon ∷ [])) quiet (followed list tail) (quiet_word begin) why h

  short_first : (behind : List Wrong) → behind ≡ wrong WRONG_TYPE ∷ [] → lowest (wrong WRONG_TYPE) faults ≡ wrong WRONG_TYPE
      → first_fault (end ∷ (semicolon ∷ [])) ((behind ++ faults) ∷ (first_of [] last.behind last.tokens).tokens)
      ≡ Some (fault_in end_line (wrong WRONG_TYPE))
  short_first behind is low =
      subst (λ (shown : List Wrong). first_fault (end ∷ (semicolon ∷ []))
      ((shown ++ faults) ∷ (first_of [] last.behind last.tokens).tokens) ≡ Some (fault_in end_line (wrong WRONG_TYPE)))
      (sym is) (ap (λ (found : Wrong). Some (fault_in end_line found)) low)

  -- checking stops in the statements
  pub list_stops : (why : Stop) → lowest (wrong WRONG_TYPE) faults ≡ wrong WRONG_TYPE → ShowsBy words list why
      → FailsBy whole_words whole_marks (stop_before end_line why)
  list_stops stop.OutOfMemory low h = tt
  list_stops (stop.Fault fault) low h =
      behind_begin (stop.Fault fault) (fails_front words (end ∷ (semicolon ∷ [])) list tail tail_many (stop.Fault fault) h)
  list_stops stop.Missing low h =
      behind_begin (stop_before end_line stop.Missing) (record {
        many = (and_then list tail (record { same = quiet_many words list.tokens h.still }) tail_many).same;
        first = behind_quiet words (end ∷ (semicolon ∷ [])) list.tokens
            ((list.behind ++ faults) ∷ (first_of [] last.behind last.tokens).tokens) h.still
            ∙ short_first list.behind h.behind low;
      })

  module _ (still : IsQuiet words list false) where
    pub end_stops : (why : Stop) → FailsBy (end ∷ []) (shows faults) why → FailsBy whole_words whole_marks why
    end_stops why h =
        behind_begin why (fails_behind words (end ∷ (semicolon ∷ [])) list tail still why
        (fails_front (end ∷ []) (semicolon ∷ []) (shows faults) last last_many why h))

    pub body_quiet : faults ≡ [] → IsQuiet whole_words whole_marks false
    body_quiet none =
        quiet_behind (begin ∷ []) (words ++ end ∷ (semicolon ∷ [])) quiet (followed list tail) false (quiet_word begin)
        (quiet_behind words (end ∷ (semicolon ∷ [])) list tail false still
        (quiet_behind (end ∷ []) (semicolon ∷ []) (shows faults) last false
        (record { still = (none, tt); behind = refl })
        (quiet_alone (semicolon ∷ []) quiet false (quiet_word semicolon))))

-- the faults of the `end` by what is demanded
pub label_stops : (line : ℕ) (a b : Bool) (why : Stop) → Err why ≡ demanded a WRONG_LABEL line
    → FailsBy (at 1 k.End line ∷ []) (shows (unless a (wrong WRONG_LABEL) ++ unless b (wrong RESULT_NEVER_ASSIGNED))) why
label_stops line true b why is = absurd (cc)
label_stops line false b why is =
    subst (FailsBy (at 1 k.End line ∷ [])
    (shows (wrong WRONG_LABEL ∷ unless b (wrong RESULT_NEVER_ASSIGNED))))
    (sym (same_stop why (shown_in line (wrong WRONG_LABEL)) (demanded false WRONG_LABEL line) is refl)) (both b)
  where
    same_stop : (first other : Stop) (result : Result (Unit {0}) Stop) → Err first ≡ result → result ≡ Err other
        → first ≡ other
    same_stop first other result is also = cc

    both : (b : Bool) → Shows (at 1 k.End line ∷ [])
        (shows (wrong WRONG_LABEL ∷ unless b (wrong RESULT_NEVER_ASSIGNED))) (fault_in line (wrong WRONG_LABEL))
    both true = record { many = refl; first = refl }
    both false = record { many = refl; first = refl }

pub label_stands : (line : ℕ) (a : Bool) → Ok tt ≡ demanded a WRONG_LABEL line → a ≡ true
label_stands line true is = refl
label_stands line false is = absurd (cc)

pub result_stops : (line : ℕ) (a b : Bool) (why : Stop) → a ≡ true → Err why ≡ demanded b RESULT_NEVER_ASSIGNED line
    → FailsBy (at 1 k.End line ∷ []) (shows (unless a (wrong WRONG_LABEL) ++ unless b (wrong RESULT_NEVER_ASSIGNED))) why
result_stops line false b why stands is = absurd (cc)
result_stops line true true why stands is = absurd (cc)
result_stops line true false why stands is =
    subst (FailsBy (at 1 k.End line ∷ []) (shows (wrong RESULT_NEVER_ASSIGNED ∷ [])))
    (sym (same_stop why (shown_in line (wrong RESULT_NEVER_ASSIGNED)) (demanded false RESULT_NEVER_ASSIGNED line) is
    refl)) (record { many = refl; first = refl })
  where
    same_stop : (first other : Stop) (result : Result (Unit {0}) Stop) → Err first ≡ result → result ≡ Err other
        → first ≡ other
    same_stop first other result is also = cc

pub none_shown : (line : ℕ) (a b : Bool) → a ≡ true → Ok tt ≡ demanded b RESULT_NEVER_ASSIGNED line
    → unless a (wrong WRONG_LABEL) ++ unless b (wrong RESULT_NEVER_ASSIGNED) ≡ []
none_shown line false b stands is = absurd (cc)
none_shown line true true stands is = refl
none_shown line true false stands is = absurd (cc)

-- what is known of labels at the first statement of a routine, and behind the last one
pub flow_within : (old : CodeScopes) (inner : CodeInner) → IsWithin inner old → (flow : Flow)
    → flow.block ≡ known_labels inner.labels [] []
    → IsBeside (outer_view old) (Some (inner_view old.spellings.now inner)) (option_copied flow.program)
    → IsFlow (scopes_view old) [] [] flow
flow_within old inner h flow is beside =
    subst (λ (s : Scopes). IsFlow s [] [] flow) (sym (seen_is old inner h)) (record { block = is; beside = beside })

pub stands_within : (old : CodeScopes) (inner : CodeInner) → IsWithin inner old → (flow : Flow) (labels : List ℕ)
    → IsFlow (scopes_view old) [] labels flow → all_stand_in flow.block ≡ all_stand labels inner.labels
stands_within old inner h flow labels f =
    let seen : IsFlow (seen_scopes old inner) [] labels flow =
    subst (λ (s : Scopes). IsFlow s [] labels flow) (seen_is old inner h) f in
    ap all_stand_in seen.block ∙ all_stand_known inner.labels labels []

-- what is answered of the statements of a routine, by what was found of them and is demanded
module _ (scopes : Scopes) (sort : Sort) (labels : List ℕ) (body : Compound) (line : ℕ)
    (view : List code_labelled.Labelled → typed.Statements) where
  abbrev listed : List Word
  listed = statements_words 1 body.list

  abbrev part : Judged typed.Statements
  part = list_in scopes sort labels body line

  abbrev shown : List Wrong
  shown = end_faults scopes sort labels body line

  abbrev stands : Bool
  stands = all_stand (labels_in_list body.list) labels

  abbrev Fails : Stop → Type 0
  Fails why = FailsBy (closed_words scopes sort labels body line) (body_marks scopes sort labels body line) why

  many : AsMany listed part.marks
  many = statements_many scopes 1 (labels_of_list body.list) [] body.list

  pub list_fails : (why : Stop) (found : Result (List code_labelled.Labelled) Stop)
      → Err why ≡ found_before body.end found → Settles listed part view found → Fails why
  list_fails why found is h =
      let stop = found_stops listed part view body.end why found is h in
      subst Fails (sym stop.1)
      (list_stops (at 1 k.Begin body.begin) listed part.marks body.end line shown many stop.0
      (lowest_end stands sort part.value) stop.2)

  shown_is : (found : List code_labelled.Labelled) (given : Bool) → part.value ≡ Some (view found)
      → result_missing sort (Some (view found)) ≡ unless given (wrong RESULT_NEVER_ASSIGNED)
      → shown ≡ unless stands (wrong WRONG_LABEL) ++ unless given (wrong RESULT_NEVER_ASSIGNED)
  shown_is found given is given_is =
      ap (λ (value : Option typed.Statements). unless stands (wrong WRONG_LABEL) ++ result_missing sort value) is
      ∙ ap (λ (more : List Wrong). unless stands (wrong WRONG_LABEL) ++ more) given_is

  -- a label stands nowhere
  pub label_fails : (found : List code_labelled.Labelled) (all_are : Bool) (why : Stop) → Means listed part (view found)
      → all_are ≡ stands → Err why ≡ demanded all_are WRONG_LABEL body.end → Fails why
  label_fails found all_are why h same is =
      let given = given_is sort (view found) in
      end_stops (at 1 k.Begin body.begin) listed part.marks body.end line shown many h.quiet why
      (subst (λ (faults : List Wrong). FailsBy (at 1 k.End body.end ∷ []) (shows faults) why)
      (sym (shown_is found given.0 h.known given.1))
      (label_stops body.end stands given.0 why (is ∙ ap (λ (b : Bool). demanded b WRONG_LABEL body.end) same)))

  -- the result is never given
  pub result_fails : (found : List code_labelled.Labelled) (all_are given : Bool) (why : Stop)
      → Means listed part (view found) → all_are ≡ stands → Ok tt ≡ demanded all_are WRONG_LABEL body.end
      → result_missing sort (Some (view found)) ≡ unless given (wrong RESULT_NEVER_ASSIGNED)
      → Err why ≡ demanded given RESULT_NEVER_ASSIGNED body.end → Fails why
  result_fails found all_are given why h same stand given_is is =
      end_stops (at 1 k.Begin body.begin) listed part.marks body.end line shown many h.quiet why
      (subst (λ (faults : List Wrong). FailsBy (at 1 k.End body.end ∷ []) (shows faults) why)
      (sym (shown_is found given h.known given_is))
      (result_stops body.end stands given why (sym same ∙ label_stands body.end all_are stand) is))

  -- neither
  pub body_means : (found : List code_labelled.Labelled) (all_are given : Bool) → Means listed part (view found)
      → all_are ≡ stands → Ok tt ≡ demanded all_are WRONG_LABEL body.end
      → result_missing sort (Some (view found)) ≡ unless given (wrong RESULT_NEVER_ASSIGNED)
      → Ok tt ≡ demanded given RESULT_NEVER_ASSIGNED body.end
      → IsBody scopes sort labels body line view (Ok found)
  body_means found all_are given h same stand given_is is = (
    body_quiet (at 1 k.Begin body.begin) listed part.marks body.end line shown many h.quiet
        (shown_is found given h.known given_is
        ∙ none_shown body.end stands given (sym same ∙ label_stands body.end all_are stand) is),
    h.known,
  )
