-- What is answered of a case, by what was answered of its parts.
use Rattle.std.proofs.Common.{◌≡◌, refl, sym, ap, subst, ◌∙◌, ℕ, suc, ◌+◌, ◌<◌, List, [], ◌∷◌, ◌++◌, map, length}
use Rattle.std.proofs.Common.{take, drop, get_or, Option, Some, None, Result, Ok, Err, false, arith}
use Rattle.std.specs.Prelude.{ℤ, OnOk, IfOk, unwrap_or}
use Rattle.std.proofs.lemmas.List.{append-nil}
use Rattle.pas_tokens.specs.declared.kinds.Kind.TheVariants as kind
use Rattle.pas_syntax.specs.declared.tree.MoreElement as code_more
use Rattle.pas_syntax.specs.declared.tree.Element as code_element
use Rattle.pas_syntax.specs.declared.tree.Elements as code_elements
use Rattle.pas_syntax.specs.declared.tree.Others.TheViews.{out-Element, out-Elements, out-MoreElement}
use Rattle.pas_syntax.specs.declared.tree.Others.TheFolds.{fold_out-Element, fold_out-Elements, fold_out-MoreElement}
use Rattle.pas_syntax.specs.Tree as tree
use Rattle.pas_syntax.specs.Tree.{Separated, Constant, Expr, Plain, Statement, Statements, Compound, Elements, Others}
use Rattle.pas_syntax.specs.Views.{in_turn, constant_in, separated_in}
use Rattle.pas_syntax.specs.Words.{Word, at, maybe, separated, constant_words, expr_words, plain_words}
use Rattle.pas_syntax.specs.Words.{statement_words, elements_words, others_words, others_word}
use Rattle.pas_syntax.specs.ProgramViews.{Arm, plain_step, others_step, statement_step, compound_step, element_step}
use Rattle.pas_syntax.specs.ProgramViews.{elements_step, more_element_step, more_statement_step, statements_step}
use Rattle.pas_syntax.specs.ProgramViews.{statement_in, element_in, elements_in, more_element_in}
use Rattle.pas_typed.specs.declared.typed.Arm as code_arm
use Rattle.pas_typed.specs.declared.typed.Statement.TheViews.{out-Arm}
use Rattle.pas_typed.specs.declared.types.Base.{Base as CodeBase}
use Rattle.pas_typed.specs.Types.{Base}
use Rattle.pas_typed.specs.Typed as typed
use Rattle.pas_typed.specs.Typed.{Value, Arms}
use Rattle.pas_typed.specs.TypeViews.{base_view}
use Rattle.pas_typed.specs.TypedViews.{statement_view, arm_view, arms_view}
use Rattle.pas_types.specs.declared.flow.Flow.{Flow}
use Rattle.pas_scopes.specs.declared.scopes.Scopes.{Scopes as CodeScopes}
use Rattle.pas_scopes.specs.declared.stop.Stop.{Stop}
use Rattle.pas_scopes.specs.declared.stop.Stop.TheVariants as stop
use Rattle.pas_rules.specs.Marks.{Marks, no_token, quiet, first_of, followed, joined, Judged, known}
use Rattle.pas_rules.specs.Marks.{known_of, checked}
use Rattle.pas_rules.specs.Scopes.{Scopes}
use Rattle.pas_rules.specs.TypeForms.{maybe_quiet}
use Rattle.pas_rules.specs.Labels.{elsewhere, labels_at, labels_in_elements}
use Rattle.pas_rules.specs.Expressions.{ordinal_only, value_of}
use Rattle.pas_rules.specs.Statements.{constants_of, constants_in, statement_of, arms_of, others_of, with_arm, plain_of}
use Rattle.pas_rules.specs.Statements.{values_known, base_of_value}
use Rattle.pas_scopes.specs.ScopeViews.{scopes_view, IsClear}
use Rattle.pas_scopes.specs.Stopping.{stop_before}
use Rattle.pas_scopes.specs.Answers.{IsQuiet, Means, FailsBy, ShowsBy, Settles}
use Rattle.pas_types.specs.inner.FlowViews.{IsFlow, Goes, ShowsBefore}
use Rattle.pas_types.specs.inner.CaseViews.{arm_part, arm_words, IsArm, behind_elements}
use Rattle.pas_rules.proofs.AsMany.{AsMany, all, and_then, next_word, before_word, first_count}
use Rattle.pas_rules.proofs.AsMany.{around as between_words}
use Rattle.pas_scopes.proofs.EndLemmas.{first_nothing}
use Rattle.pas_rules.proofs.StatementsAsMany.{statement_many, constants_many, elements_many, others_many}
use Rattle.pas_scopes.proofs.SettleLemmas.{quiet_alone, shows_alone, quiet_behind, shows_by_behind}
use Rattle.pas_scopes.proofs.SettleLemmas.{nothing_shown}
use Rattle.pas_types.proofs.ChainLemmas.{made_of_both, made_of_three, before_shows, behind_shows, behind_quiet}
use Rattle.pas_types.proofs.ChainLemmas.{fault_front, word_shows, word_quiet, guard_shows, guarded_shows, guarded_quiet}
use Rattle.pas_scopes.proofs.LabelSeen.{taken_more, turned_push, map_push}
use Rattle.pas_types.proofs.FlowLemmas.{regroup}
use Rattle.pas_types.proofs.ResultLemmas.{arm_seen, around_item}
use Rattle.pas_types.proofs.CaseLemmas.{split_both}

-- what is refused before any word
pub fails_before : (line : ℕ) (words : List Word) (marks : Marks) (why : Stop) → FailsBy words marks why
    → ShowsBefore line words marks why
fails_before line words marks stop.OutOfMemory h = (stop.OutOfMemory, refl, tt)
fails_before line words marks (stop.Fault fault) h = (stop.Fault fault, refl, h)
fails_before line words marks stop.Missing h = absurd h

-- what was shown before a word stays so before another
shown_stays : (line end : ℕ) (why other : Stop) → why ≡ stop_before line other → why ≡ stop_before end why
shown_stays line end why stop.OutOfMemory is = is ∙ sym (ap (stop_before end) is)
shown_stays line end why (stop.Fault fault) is = is ∙ sym (ap (stop_before end) is)
shown_stays line end why stop.Missing is = is ∙ sym (ap (stop_before end) is)

-- an element
module _ (scopes : Scopes) (around before : List ℕ) (base : Base) (taken : List ℤ) (n : ℕ) (arm : Arm) where
  abbrev choices : Judged (List ℤ)
  choices = constants_of scopes (Some base) taken arm.constants

  abbrev choices_words : List Word
  choices_words = separated n kind.Comma (constant_words n) arm.constants

  abbrev chosen : Judged typed.Statement
  chosen = statement_of scopes elsewhere around before arm.statement

  abbrev chosen_words : List Word
  chosen_words = statement_words n arm.statement

  abbrev whole_arm : Judged (Arms → Arms)
  whole_arm = arm_part scopes around before base taken arm

  chosen_many : AsMany chosen_words (joined (chosen.marks ∷ []))
  chosen_many = all chosen.marks (statement_many scopes n elsewhere around before arm.statement)

  pub arm_many : AsMany (arm_words n arm) whole_arm.marks
  arm_many =
      between_words (at n kind.Colon arm.colon) choices.marks chosen.marks
      (constants_many scopes (Some base) taken n arm.constants)
      (statement_many scopes n elsewhere around before arm.statement)

  pub choices_fail : (why : Stop) → FailsBy choices_words choices.marks why
      → ShowsBy (arm_words n arm) whole_arm.marks why
  choices_fail why h =
      before_shows choices_words chosen_words (at n kind.Colon arm.colon) choices.marks (joined (chosen.marks ∷ []))
      chosen_many why (fails_before arm.colon choices_words choices.marks why h)

  pub chosen_stops : (values : List ℤ) (why : Stop) → Means choices_words choices values
      → ShowsBy chosen_words chosen.marks why → ShowsBy (arm_words n arm) whole_arm.marks why
  chosen_stops values why h k =
      behind_shows choices_words chosen_words (at n kind.Colon arm.colon) choices.marks (joined (chosen.marks ∷ []))
      h.quiet why (shows_alone chosen_words chosen.marks why k)

  pub arm_means : (values : List ℤ) (found : typed.Statement) → Means choices_words choices values
      → Means chosen_words chosen found
      → Means (arm_words n arm) whole_arm (λ others. typed.arm values found others)
  arm_means values found h k = record {
    known = made_of_both (λ values statement others. typed.arm values statement others)
        choices.value chosen.value values
        found h.known k.known;
    quiet = behind_quiet choices_words chosen_words (at n kind.Colon arm.colon) choices.marks
        (joined (chosen.marks ∷ [])) h.quiet false (quiet_alone chosen_words chosen.marks false k.quiet);
  }

-- an element of the code
abbrev pub arm_seen_in : List ℕ → code_element.Element → Arm
arm_seen_in spellings element = record {
  constants = separated_in (constant_in spellings) (out-Element element).constants;
  colon = (out-Element element).colon;
  statement = statement_in spellings (out-Element element).statement;
}

pub element_is : (spellings : List ℕ) (element : code_element.Element)
    → element_in spellings element ≡ arm_seen_in spellings element
element_is spellings =
    fold_out-Element Others Plain Statement Compound Arm Elements (Elements → Elements) (Statements → Statements)
    Statements (others_step spellings) (plain_step spellings) (statement_step spellings) (compound_step spellings)
    (element_step spellings) (elements_step spellings) (more_element_step spellings) (more_statement_step spellings)
    (statements_step spellings)

-- elements with one more
one_arm_more : (spellings : List ℕ) (arms : List code_arm.Arm) (last : code_arm.Arm) (values : List ℤ)
    (found : typed.Statement) → arm_view spellings last ≡ (λ others. typed.arm values found others)
    → with_arm (arms_view spellings arms) values found ≡ arms_view spellings (arms ++ last ∷ [])
one_arm_more spellings [] last values found is = ap (λ (step : Arms → Arms). step typed.no_arms) (sym is)
one_arm_more spellings (first ∷ arms) last values found is =
    ap (λ (step : Arms → Arms). with_arm (step (arms_view spellings arms)) values found) (arm_seen spellings first)
    ∙ (ap (λ (rest : Arms). typed.arm (out-Arm first).constants
    (statement_view spellings (out-Arm first).statement) rest) (one_arm_more spellings arms last values found is)
    ∙ sym (ap (λ (step : Arms → Arms). step (arms_view spellings (arms ++ last ∷ []))) (arm_seen spellings first)))

module _ (scopes : Scopes) (spellings : List ℕ) (around before : List ℕ) (base : Base) (n : ℕ) where
  abbrev all_arms : Elements → Judged Arms
  all_arms elements = arms_of scopes around before (Some base) elements

  first_arm_settles : (arm : Arm) (found : Result code_arm.Arm Stop)
      → Settles (arm_words n arm) (arm_part scopes around before base [] arm) (arm_view spellings) found
      → Settles (elements_words n (tree.first_element arm.constants arm.colon arm.statement))
      (all_arms (tree.first_element arm.constants arm.colon arm.statement))
      (λ last. arms_view spellings ([] ++ last ∷ [])) found
  first_arm_settles arm (Err why) h = first_shows why h
    where
      first_shows : (why : Stop) → ShowsBy (arm_words n arm) (arm_part scopes around before base [] arm).marks why
          → ShowsBy (elements_words n (tree.first_element arm.constants arm.colon arm.statement))
          (all_arms (tree.first_element arm.constants arm.colon arm.statement)).marks why
      first_shows stop.OutOfMemory h = tt
      first_shows (stop.Fault fault) h = h
      first_shows stop.Missing h = h
  first_arm_settles arm (Ok last) h =
      let values : Judged (List ℤ) = choices scopes around before base [] n arm in
      let found : Judged typed.Statement = chosen scopes around before base [] n arm in
      let split = split_both (λ values statement others. typed.arm values statement others) values.value found.value
      (arm_view spellings last) h.known in
      record {
        known = made_of_both (with_arm typed.no_arms) values.value found.value split.0 split.1 split.2
            split.3
            ∙ ap Some (one_arm_more spellings [] last split.0 split.1 (sym split.4));
        quiet = h.quiet;
      }

  module _ (elements : Elements) (line : ℕ) (arm : Arm) where
    abbrev longer : Elements
    longer = tree.more_elements elements line arm.constants arm.colon arm.statement

    abbrev behind : List ℕ
    behind = before ++ labels_in_elements elements

    abbrev next_arm : Judged (Arms → Arms)
    next_arm = arm_part scopes around behind base (constants_in scopes elements) arm

    next_arm_settles : (arms : List code_arm.Arm) (found : Result code_arm.Arm Stop)
        → Means (elements_words n elements) (all_arms elements) (arms_view spellings arms)
        → Settles (arm_words n arm) next_arm (arm_view spellings) found
        → Settles (elements_words n longer) (all_arms longer) (λ last. arms_view spellings (arms ++ last ∷ [])) found
    next_arm_settles arms (Err why) h l =
        behind_shows (elements_words n elements) (arm_words n arm) (at n kind.Semicolon line) (all_arms elements).marks
        next_arm.marks h.quiet why l
    next_arm_settles arms (Ok last) h l =
        let values : Judged (List ℤ) = choices scopes around behind base (constants_in scopes elements) n arm in
        let found : Judged typed.Statement = chosen scopes around behind base (constants_in scopes elements) n arm in
        let split = split_both (λ values statement others. typed.arm values statement others) values.value found.value
        (arm_view spellings last) l.known in
        record {
          known = made_of_three with_arm (all_arms elements).value values.value found.value (arms_view spellings arms)
              split.0 split.1 h.known split.2 split.3
              ∙ ap Some (one_arm_more spellings arms last split.0 split.1 (sym split.4));
          quiet = behind_quiet (elements_words n elements) (arm_words n arm) (at n kind.Semicolon line)
              (all_arms elements).marks next_arm.marks h.quiet false l.quiet;
        }

    line_shows : (why : Stop) → ShowsBefore line (elements_words n elements) (all_arms elements).marks why
        → ShowsBy (elements_words n longer) (all_arms longer).marks why
    line_shows why h =
        before_shows (elements_words n elements) (arm_words n arm) (at n kind.Semicolon line) (all_arms elements).marks
        next_arm.marks (arm_many scopes around behind base (constants_in scopes elements) n arm) why h

    fault_shows : (why : Stop) → (why ≡ stop.Missing → ⊥)
        → ShowsBy (elements_words n elements) (all_arms elements).marks why
        → ShowsBy (elements_words n longer) (all_arms longer).marks why
    fault_shows why there h =
        fault_front (elements_words n elements) (at n kind.Semicolon line ∷ arm_words n arm) (all_arms elements).marks
        (followed quiet next_arm.marks) why
        (next_word (at n kind.Semicolon line) [] next_arm.marks
        (arm_many scopes around behind base (constants_in scopes elements) n arm)) there h

-- the code's elements
module _ (spellings : List ℕ) where
  abbrev pub arm_at : code_more.MoreElement → Arm
  arm_at more = element_in spellings (out-MoreElement more).element

  pub more_arm_seen : (more : code_more.MoreElement)
      → more_element_in spellings more
      ≡ (λ elements. tree.more_elements elements (out-MoreElement more).line (arm_at more).constants
      (arm_at more).colon (arm_at more).statement)
  more_arm_seen =
      fold_out-MoreElement Others Plain Statement Compound Arm Elements (Elements → Elements)
      (Statements → Statements)
      Statements (others_step spellings) (plain_step spellings) (statement_step spellings) (compound_step spellings)
      (element_step spellings) (elements_step spellings) (more_element_step spellings) (more_statement_step spellings)
      (statements_step spellings)

  abbrev pub first_arm : Arm → Elements
  first_arm arm = tree.first_element arm.constants arm.colon arm.statement

  pub arms_seen : (elements : code_elements.Elements)
      → elements_in spellings elements
      ≡ in_turn (first_arm (element_in spellings (out-Elements elements).first))
      (map (more_element_in spellings) (out-Elements elements).more)
  arms_seen =
      fold_out-Elements Others Plain Statement Compound Arm Elements (Elements → Elements) (Statements → Statements)
      Statements (others_step spellings) (plain_step spellings) (statement_step spellings) (compound_step spellings)
      (element_step spellings) (elements_step spellings) (more_element_step spellings) (more_statement_step spellings)
      (statements_step spellings)

  -- the elements so far
  module _ (first : Arm) where
    abbrev pub arms_so_far : List code_more.MoreElement → Elements
    arms_so_far more = in_turn (first_arm first) (map (more_element_in spellings) more)

    pub one_arm_taken : (more : List code_more.MoreElement) (i : ℕ) (next : code_more.MoreElement) → i < length more
        → next ≡ get_or more i next
        → arms_so_far (take (i + 1) more)
        ≡ tree.more_elements (arms_so_far (take i more)) (out-MoreElement next).line (arm_at next).constants
        (arm_at next).colon (arm_at next).statement
    one_arm_taken more i next within is =
        ap arms_so_far (taken_more more i next within is)
        ∙ (ap (in_turn (first_arm first)) (map_push spellings (more_element_in spellings) (take i more) next)
        ∙ (turned_push spellings (first_arm first) (map (more_element_in spellings) (take i more))
        (more_element_in spellings next)
        ∙ ap (λ (step : Elements → Elements). step (arms_so_far (take i more))) (more_arm_seen next)))

    turned_arms : (start : Elements) (some other : List code_more.MoreElement)
        → in_turn start (map (more_element_in spellings) (some ++ other))
        ≡ in_turn (in_turn start (map (more_element_in spellings) some)) (map (more_element_in spellings) other)
    turned_arms start [] other = refl
    turned_arms start (x ∷ some) other = turned_arms (more_element_in spellings x start) some other

    pub all_arms_taken : (more : List code_more.MoreElement) (i : ℕ) (next : code_more.MoreElement) → i < length more
        → next ≡ get_or more i next
        → arms_so_far more
        ≡ in_turn (arms_so_far (take i more)) (map (more_element_in spellings) (next ∷ drop (suc i) more))
    all_arms_taken more i next within is =
        ap arms_so_far (around_item more i next within is)
        ∙ turned_arms (first_arm first) (take i more) (next ∷ drop (suc i) more)

  -- a fault in them, whatever stands behind
  module _ (scopes : Scopes) (around before : List ℕ) (base : Base) (n : ℕ) where
    abbrev shown_in_arms : Stop → Elements → Type 0
    shown_in_arms why elements =
        ShowsBy (elements_words n elements) (arms_of scopes around before (Some base) elements).marks why

    arms_stay : (why : Stop) → (why ≡ stop.Missing → ⊥) → (elements : Elements) (more : List code_more.MoreElement)
        → shown_in_arms why elements → shown_in_arms why (in_turn elements (map (more_element_in spellings) more))
    arms_stay why there elements [] h = h
    arms_stay why there elements (first ∷ more) h =
        arms_stay why there (more_element_in spellings first elements) more
        (subst (λ (step : Elements → Elements). shown_in_arms why (step elements)) (sym (more_arm_seen first))
        (fault_shows scopes spellings around before base n elements (out-MoreElement first).line (arm_at first)
        why there
        h))

    never_missing : (line : ℕ) (why other : Stop) → why ≡ stop_before line other → why ≡ stop.Missing → ⊥
    never_missing line why stop.OutOfMemory is are = cc
    never_missing line why (stop.Fault fault) is are = cc
    never_missing line why stop.Missing is are = cc

    pub arms_stop : (elements : Elements) (next : code_more.MoreElement) (more : List code_more.MoreElement)
        (why : Stop)
        → ShowsBefore (out-MoreElement next).line (elements_words n elements)
        (arms_of scopes around before (Some base) elements).marks why
        → shown_in_arms why (in_turn elements (map (more_element_in spellings) (next ∷ more)))
    arms_stop elements next more why h =
        arms_stay why (never_missing (out-MoreElement next).line why h.0 h.1) (more_element_in spellings next elements)
        more
        (subst (λ (step : Elements → Elements). shown_in_arms why (step elements)) (sym (more_arm_seen next))
        (line_shows scopes spellings around before base n elements (out-MoreElement next).line (arm_at next) why h))

-- what was found of the last element so far: with it the elements mean this, these constants are taken, and this is
-- known behind it
pub record AreArmsSoFar (scopes : CodeScopes) (old new : Flow) (base : CodeBase) (elements : Elements)
    (arms : List code_arm.Arm) (taken : List ℤ) (found : Result code_arm.Arm Stop) : Type 0 where
  pub means : (around before : List ℕ) → IsFlow (scopes_view scopes) around before old → IsClear (scopes_view scopes)
      → (n : ℕ)
      → Settles (elements_words n elements)
      (arms_of (scopes_view scopes) around before (Some (base_view base)) elements)
      (λ last. arms_view scopes.spellings.now (arms ++ last ∷ [])) found
  pub goes : Goes scopes old (labels_in_elements elements) found new
  pub taken_are : IsClear (scopes_view scopes)
      → OnOk found (taken ≡ constants_in (scopes_view scopes) elements)

abbrev pub Takes : CodeScopes → List ℤ → List ℤ → Arm → Result code_arm.Arm Stop → Type 0
Takes scopes old new arm found =
    IsClear (scopes_view scopes)
    → IfOk found (λ last. new ≡ old ++ values_known (constants_of (scopes_view scopes) None [] arm.constants))

module _ (scopes : CodeScopes) (base : CodeBase) where
  taken_first : (old new : List ℤ) (arm : Arm) (found : Result code_arm.Arm Stop) → old ≡ []
      → IfOk found (λ last. new ≡ old ++ values_known (constants_of (scopes_view scopes) None [] arm.constants))
      → OnOk found (new ≡ constants_in (scopes_view scopes) (first_arm scopes.spellings.now arm))
  taken_first old new arm (Ok last) none h =
      h ∙ ap (λ (taken : List ℤ). taken ++ values_known (constants_of (scopes_view scopes) None [] arm.constants)) none
  taken_first old new arm (Err why) none h = tt

  pub first_arm_so_far : (old new : Flow) (arm : Arm) (taken then_taken : List ℤ) (found : Result code_arm.Arm Stop)
      → taken ≡ [] → IsArm scopes old base taken arm found → Goes scopes old (labels_at arm.statement) found new
      → Takes scopes taken then_taken arm found
      → AreArmsSoFar scopes old new base (first_arm scopes.spellings.now arm) [] then_taken found
  first_arm_so_far old new arm taken then_taken found none means goes takes = record {
    means = λ around before flow clear n.
        first_arm_settles (scopes_view scopes) scopes.spellings.now around before (base_view base) n arm found
        (subst (λ (taken : List ℤ). Settles (arm_words n arm)
        (arm_part (scopes_view scopes) around before (base_view base) taken arm) (arm_view scopes.spellings.now) found)
        none (means around before flow clear n));
    goes = goes;
    taken_are = λ clear. taken_first taken then_taken arm found none (takes clear);
  }

  arms_behind : {X : Type 0} (scopes : Scopes) (around before some other : List ℕ) (new : Flow) (found : Result X Stop)
      → OnOk found (IsFlow scopes around ((before ++ some) ++ other) new)
      → OnOk found (IsFlow scopes around (before ++ (some ++ other)) new)
  arms_behind scopes around before some other new (Ok x) h = regroup scopes around before new some other h
  arms_behind scopes around before some other new (Err why) h = tt

  taken_next : (elements : Elements) (line : ℕ) (old new : List ℤ) (arm : Arm) (found : Result code_arm.Arm Stop)
      → old ≡ constants_in (scopes_view scopes) elements
      → IfOk found (λ last. new ≡ old ++ values_known (constants_of (scopes_view scopes) None [] arm.constants))
      → OnOk found (new ≡ constants_in (scopes_view scopes)
      (tree.more_elements elements line arm.constants arm.colon arm.statement))
  taken_next elements line old new arm (Ok last) is h =
      h ∙ ap (λ (taken : List ℤ). taken ++ values_known (constants_of (scopes_view scopes) None [] arm.constants)) is
  taken_next elements line old new arm (Err why) is h = tt

  pub next_arm_so_far : (old here new : Flow) (elements : Elements) (line : ℕ) (arm : Arm) (arms : List code_arm.Arm)
      (taken then_taken : List ℤ) (last : code_arm.Arm) (found : Result code_arm.Arm Stop)
      → AreArmsSoFar scopes old here base elements arms taken (Ok last) → IsArm scopes here base taken arm found
      → Goes scopes here (labels_at arm.statement) found new → Takes scopes taken then_taken arm found
      → AreArmsSoFar scopes old new base (tree.more_elements elements line arm.constants arm.colon arm.statement)
      (arms ++ last ∷ []) then_taken found
  next_arm_so_far old here new elements line arm arms taken then_taken last found so_far means goes takes = record {
    means = λ around before flow clear n.
        next_arm_settles (scopes_view scopes) scopes.spellings.now around before (base_view base) n elements line arm
        (arms ++ last ∷ []) found (so_far.means around before flow clear n)
        (subst (λ (taken : List ℤ). Settles (arm_words n arm)
        (arm_part (scopes_view scopes) around (before ++ labels_in_elements elements) (base_view base) taken arm)
        (arm_view scopes.spellings.now) found) (so_far.taken_are clear)
        (means around (before ++ labels_in_elements elements) (so_far.goes around before flow) clear n));
    goes = λ around before flow.
        arms_behind (scopes_view scopes) around before (labels_in_elements elements) (labels_at arm.statement) new found
        (goes around (before ++ labels_in_elements elements) (so_far.goes around before flow));
    taken_are = λ clear. taken_next elements line taken then_taken arm found (so_far.taken_are clear) (takes clear);
  }

-- what stands behind the elements
module _ (scopes : Scopes) (around before : List ℕ) (n : ℕ) (line others_line colon : ℕ) (s : Statement) (end : ℕ)
  where
    abbrev found_part : Judged typed.Statement
    found_part = statement_of scopes elsewhere around before s

    abbrev found_words : List Word
    found_words = statement_words n s

    abbrev others_at : Option ℕ → Others
    others_at semicolon = tree.others line others_line colon s semicolon

    in_front : (words : List Word) (marks : Marks) (why : Stop) → ShowsBy words marks why
        → ShowsBy (at n kind.Semicolon line ∷ (others_word n others_line ∷ (at n kind.Colon colon ∷ words)))
        (followed quiet (followed quiet (followed quiet marks))) why
    in_front words marks why h =
        word_shows (at n kind.Semicolon line) (others_word n others_line ∷ (at n kind.Colon colon ∷ words))
        (followed quiet (followed quiet marks)) why
        (word_shows (others_word n others_line) (at n kind.Colon colon ∷ words) (followed quiet marks) why
        (word_shows (at n kind.Colon colon) words marks why h))

    quiet_front : (words : List Word) (marks : Marks) → IsQuiet words marks false
        → IsQuiet (at n kind.Semicolon line ∷ (others_word n others_line ∷ (at n kind.Colon colon ∷ words)))
        (followed quiet (followed quiet (followed quiet marks))) false
    quiet_front words marks h =
        word_quiet (at n kind.Semicolon line) (others_word n others_line ∷ (at n kind.Colon colon ∷ words))
        (followed quiet (followed quiet marks)) false
        (word_quiet (others_word n others_line) (at n kind.Colon colon ∷ words) (followed quiet marks) false
        (word_quiet (at n kind.Colon colon) words marks false h))

    pub others_stop : (semicolon : Option ℕ) (why : Stop)
        → ShowsBefore (unwrap_or semicolon end) found_words found_part.marks why
        → ShowsBefore end (others_words n (others_at semicolon))
        (others_of scopes around before (others_at semicolon)).marks why
    others_stop None why h = (
      h.0,
      h.1,
      in_front (found_words ++ []) (joined (found_part.marks ∷ no_token ∷ [])) h.0
          (subst (λ (words : List Word). ShowsBy words (joined (found_part.marks ∷ no_token ∷ [])) h.0)
          (sym (append-nil found_words)) (shows_alone found_words found_part.marks h.0 h.2)),
    )
    others_stop (Some last) why h = (
      why,
      shown_stays last end why h.0 h.1,
      in_front (found_words ++ at n kind.Semicolon last ∷ []) (joined (found_part.marks ∷ quiet ∷ [])) why
          (before_shows found_words [] (at n kind.Semicolon last) found_part.marks no_token (record { same = refl }) why
          h),
    )

    pub others_mean : (semicolon : Option ℕ) (found : typed.Statement) → Means found_words found_part found
        → Means (others_words n (others_at semicolon)) (others_of scopes around before (others_at semicolon))
        (λ selector arms. typed.case_others selector arms found)
    others_mean None found h = record {
      known = ap (known (λ statement selector arms. typed.case_others selector arms statement)) h.known;
      quiet = quiet_front (found_words ++ []) (joined (found_part.marks ∷ no_token ∷ []))
          (subst (λ (words : List Word). IsQuiet words (joined (found_part.marks ∷ no_token ∷ [])) false)
          (sym (append-nil found_words)) (quiet_alone found_words found_part.marks false h.quiet));
    }
    others_mean (Some last) found h = record {
      known = ap (known (λ statement selector arms. typed.case_others selector arms statement)) h.known;
      quiet = quiet_front (found_words ++ at n kind.Semicolon last ∷ []) (joined (found_part.marks ∷ quiet ∷ []))
          (behind_quiet found_words [] (at n kind.Semicolon last)
          found_part.marks no_token h.quiet false nothing_shown);
    }

-- a case
module _ (scopes : Scopes) (around before : List ℕ) (n : ℕ) (line : ℕ) (e : Expr) (of_line : ℕ) (elements : Elements)
    (tail : Others) (end : ℕ) where
  abbrev whole_case : Plain
  whole_case = tree.case line e of_line elements tail end

  abbrev selector : Judged Value
  selector = checked (ordinal_only scopes.outer.types) (value_of scopes e)

  abbrev selector_words : List Word
  selector_words = expr_words (n + 1) 0 e

  abbrev case_arms : Option Base → Judged Arms
  case_arms base = arms_of scopes around before base elements

  abbrev this_base : Option Base
  this_base = base_of_value scopes.outer.types selector.value

  abbrev case_words : List Word
  case_words = elements_words (n + 1) elements

  abbrev rest : Judged (Value → Arms → typed.Statement)
  rest = others_of scopes around (before ++ labels_in_elements elements) tail

  abbrev rest_words : List Word
  rest_words = others_words (n + 1) tail

  abbrev end_word : Word
  end_word = at (n + 1) kind.End end

  rest_many : AsMany (rest_words ++ end_word ∷ []) (joined (rest.marks ∷ quiet ∷ []))
  rest_many =
      before_word end_word rest.marks
      (others_many scopes (n + 1) around (before ++ labels_in_elements elements) tail)

  arms_many : AsMany (case_words ++ (rest_words ++ end_word ∷ []))
      (joined ((case_arms this_base).marks ∷ rest.marks ∷ quiet ∷ []))
  arms_many =
      and_then (case_arms this_base).marks (joined (rest.marks ∷ quiet ∷ []))
      (elements_many scopes (n + 1) around before this_base elements) rest_many

  pub selector_stops : (why : Stop) → ShowsBefore of_line selector_words selector.marks why
      → ShowsBy (plain_words n whole_case) (plain_of scopes around before whole_case).marks why
  selector_stops why h =
      guard_shows (at (n + 1) kind.Case line) (at (n + 1) kind.Of of_line) selector_words
      (case_words ++ (rest_words ++ end_word ∷ [])) selector.marks
      (joined ((case_arms this_base).marks ∷ rest.marks ∷ quiet ∷ [])) arms_many why h

-- a quiet word in front of parts
abbrev led : Marks → Marks → Marks
led part next =
    record {
      tokens = [] ∷ (part.tokens ++ (first_of part.behind next.behind next.tokens).tokens);
      behind = (first_of part.behind next.behind next.tokens).behind;
    }

abbrev behind_quiet_word : Marks → Marks
behind_quiet_word part = record { tokens = [] ∷ part.tokens; behind = part.behind }

quiet_led : (part next : Marks) → followed (followed quiet part) next ≡ followed quiet (followed part next)
quiet_led part next =
    ap (λ (first : Marks). led first next) (first_nothing part.behind part.tokens)
    ∙ sym (ap behind_quiet_word (first_nothing (followed part next).behind (followed part next).tokens))

led_many : (word : Word) (words more : List Word) (part next : Marks)
    → AsMany ((word ∷ words) ++ more) (followed (followed quiet part) next)
    → AsMany (words ++ more) (followed part next)
led_many word words more part next many = record {
  same = omega (
    arith,
    many.same,
    ap (λ (marks : Marks). length marks.tokens) (quiet_led part next),
    first_count [] (followed part next).behind (followed part next).tokens,
  );
}

-- the elements of a case before what stands behind them
pub arms_before : (n : ℕ) (words : List Word) (marks : Marks) (scopes : Scopes) (around before : List ℕ) (tail : Others)
    (end : ℕ) (why : Stop) → ShowsBefore (behind_elements end tail) words marks why
    → ShowsBy (words ++ (others_words n tail ++ at n kind.End end ∷ []))
    (joined (marks ∷ (others_of scopes around before tail).marks ∷ quiet ∷ [])) why
arms_before n words marks scopes around before tree.no_others end why h =
    before_shows words [] (at n kind.End end) marks no_token (record { same = refl }) why h
arms_before n words marks scopes around before (tree.semicolon line) end why h =
    before_shows words (at n kind.End end ∷ []) (at n kind.Semicolon line) marks (joined (quiet ∷ []))
    (record { same = refl }) why h
arms_before n words marks scopes around before (tree.others line others_line colon s semicolon) end why h =
    let tail : Others = tree.others line others_line colon s semicolon in
    let found : Judged typed.Statement = statement_of scopes elsewhere around before s in
    let inside : Marks = joined (quiet ∷ quiet ∷ found.marks ∷ maybe_quiet semicolon ∷ []) in
    let last : Marks = joined (quiet ∷ []) in
    let inside_words : List Word =
    others_word n others_line ∷ (at n kind.Colon colon ∷ (statement_words n s ++ maybe n kind.Semicolon semicolon)) in
    let many : AsMany (others_words n tail ++ at n kind.End end ∷ []) (followed (followed quiet inside) last) =
    before_word (at n kind.End end) (others_of scopes around before tail).marks
    (others_many scopes n around before tail) in
    subst (λ (all : Marks). ShowsBy (words ++ (others_words n tail ++ at n kind.End end ∷ [])) (followed marks all) why)
    (sym (quiet_led inside last))
    (before_shows words (inside_words ++ at n kind.End end ∷ []) (at n kind.Semicolon line) marks (followed inside last)
    (led_many (at n kind.Semicolon line) inside_words (at n kind.End end ∷ []) inside last many) why h)

-- what is made of three known parts, of which the first one tells it
made_by : {A B C : Type 0} (one : Option (A → B → C)) (other : Option A) (third : Option B) (make : A → B → C)
    (value : A)
    (item : B) → one ≡ Some make → other ≡ Some value → third ≡ Some item
    → known_of (known_of one other) third ≡ Some (make value item)
made_by one other third make value item is are was =
    ap (λ found. known_of (known_of found other) third) is
    ∙ (ap (λ found. known_of (known_of (Some make) found) third) are ∙ ap (known_of (Some (make value))) was)

module _ (scopes : Scopes) (around before : List ℕ) (n : ℕ) (line : ℕ) (e : Expr) (of_line : ℕ) (elements : Elements)
    (tail : Others) (end : ℕ) where
  abbrev the_case : Plain
  the_case = tree.case line e of_line elements tail end

  abbrev chooser : Judged Value
  chooser = checked (ordinal_only scopes.outer.types) (value_of scopes e)

  abbrev chooser_words : List Word
  chooser_words = expr_words (n + 1) 0 e

  abbrev arms_by : Option Base → Judged Arms
  arms_by base = arms_of scopes around before base elements

  abbrev its_base : Option Base
  its_base = base_of_value scopes.outer.types chooser.value

  abbrev its_words : List Word
  its_words = elements_words (n + 1) elements

  abbrev tail_part : Judged (Value → Arms → typed.Statement)
  tail_part = others_of scopes around (before ++ labels_in_elements elements) tail

  abbrev tail_words : List Word
  tail_words = others_words (n + 1) tail

  abbrev last_word : Word
  last_word = at (n + 1) kind.End end

  its_base_is : (value : Value) (base : Base) → Means chooser_words chooser value
      → base_of_value scopes.outer.types (Some value) ≡ Some base → Some base ≡ its_base
  its_base_is value base h is = sym (ap (base_of_value scopes.outer.types) h.known ∙ is)

  pub case_arms_stop : (value : Value) (base : Base) (why : Stop) → Means chooser_words chooser value
      → base_of_value scopes.outer.types (Some value) ≡ Some base
      → ShowsBefore (behind_elements end tail) its_words (arms_by (Some base)).marks why
      → ShowsBy (plain_words n the_case) (plain_of scopes around before the_case).marks why
  case_arms_stop value base why h is k =
      guarded_shows (at (n + 1) kind.Case line) (at (n + 1) kind.Of of_line) chooser_words
      (its_words ++ (tail_words ++ last_word ∷ [])) chooser.marks
      (joined ((arms_by its_base).marks ∷ tail_part.marks ∷ quiet ∷ [])) h.quiet why
      (arms_before (n + 1) its_words (arms_by its_base).marks scopes around (before ++ labels_in_elements elements) tail
      end why
      (subst (λ (found : Option Base). ShowsBefore (behind_elements end tail) its_words (arms_by found).marks why)
      (its_base_is value base h is) k))

  its_arms : (value : Value) (base : Base) (arms : Arms) → Means chooser_words chooser value
      → base_of_value scopes.outer.types (Some value) ≡ Some base → Means its_words (arms_by (Some base)) arms
      → Means its_words (arms_by its_base) arms
  its_arms value base arms h is k =
      subst (λ (found : Option Base). Means its_words (arms_by found) arms) (its_base_is value base h is) k

  pub case_others_stop : (value : Value) (base : Base) (arms : Arms) (why : Stop) → Means chooser_words chooser value
      → base_of_value scopes.outer.types (Some value) ≡ Some base → Means its_words (arms_by (Some base)) arms
      → ShowsBefore end tail_words tail_part.marks why
      → ShowsBy (plain_words n the_case) (plain_of scopes around before the_case).marks why
  case_others_stop value base arms why h is k l =
      guarded_shows (at (n + 1) kind.Case line) (at (n + 1) kind.Of of_line) chooser_words
      (its_words ++ (tail_words ++ last_word ∷ [])) chooser.marks
      (joined ((arms_by its_base).marks ∷ tail_part.marks ∷ quiet ∷ [])) h.quiet why
      (shows_by_behind its_words (tail_words ++ last_word ∷ []) (arms_by its_base).marks
      (joined (tail_part.marks ∷ quiet ∷ [])) why (its_arms value base arms h is k).quiet
      (before_shows tail_words [] last_word tail_part.marks no_token (record { same = refl }) why l))

  pub case_means : (value : Value) (base : Base) (arms : Arms) (make : Value → Arms → typed.Statement)
      → Means chooser_words chooser value → base_of_value scopes.outer.types (Some value) ≡ Some base
      → Means its_words (arms_by (Some base)) arms → Means tail_words tail_part make
      → Means (plain_words n the_case) (plain_of scopes around before the_case) (make value arms)
  case_means value base arms make h is k l =
      let found : Means its_words (arms_by its_base) arms = its_arms value base arms h is k in
      record {
        known = made_by tail_part.value chooser.value
            (arms_by its_base).value make value arms l.known h.known found.known;
        quiet = guarded_quiet (at (n + 1) kind.Case line) (at (n + 1) kind.Of of_line) chooser_words
            (its_words ++ (tail_words ++ last_word ∷ [])) chooser.marks
            (joined ((arms_by its_base).marks ∷ tail_part.marks ∷ quiet ∷ [])) h.quiet false
            (quiet_behind its_words (tail_words ++ last_word ∷ []) (arms_by its_base).marks
            (joined (tail_part.marks ∷ quiet ∷ [])) false found.quiet
            (behind_quiet tail_words [] last_word tail_part.marks no_token l.quiet false nothing_shown));
      }
