-- What the words from the statements of a program on show.
use Rattle.std.proofs.Common.{◌≡◌, refl, sym, ap, subst, ◌∙◌, ℕ, Bool, true, false, List, [], ◌∷◌, ◌++◌, map}
use Rattle.std.proofs.Common.{Option, Some, None, Result, Ok, Err}
use Rattle.std.specs.Prelude.{not, ◌&&◌, if◌then◌else◌, is_none, is_some, option_map, OnOk}
use Rattle.std.specs.Option.{option_copied}
use Rattle.std.specs.List.{list_all}
use Rattle.std.proofs.lemmas.List.{append_assoc}
use Rattle.wb_base.specs.declared.faults.TheConstants.{UNKNOWN_NAME, WRONG_TYPE, WRONG_LABEL}
use Rattle.pas_tokens.specs.Cutting.{Wrong, wrong}
use Rattle.pas_tokens.specs.Tokens.{fault_in}
use Rattle.pas_tokens.specs.declared.kinds.Kind.TheVariants as k
use Rattle.pas_syntax.specs.Tree.{Compound}
use Rattle.pas_syntax.specs.Words.{Word, at, statements_words}
use Rattle.pas_scopes.specs.declared.stop.Stop.{Stop}
use Rattle.pas_scopes.specs.declared.stop.Stop.TheVariants as stop
use Rattle.pas_rules.specs.Marks.{Marks, quiet, shows, followed, joined, unless, lowest, first_fault, Judged}
use Rattle.pas_scopes.specs.Ends.{shown_behind}
use Rattle.pas_scopes.specs.Answers.{FailsBy, Shows, ShowsBy, IsQuiet, Means}
use Rattle.pas_scopes.specs.Stopping.{shown_in}
use Rattle.pas_scopes.specs.declared.scopes.Inner.{Inner as CodeInner}
use Rattle.pas_scopes.specs.declared.scopes.KnownRoutine.{KnownRoutine as CodeRoutine}
use Rattle.pas_rules.specs.Check.{have_bodies}
use Rattle.pas_types.specs.declared.flow.Flow.{Flow}
use Rattle.pas_scopes.specs.declared.scopes.Scopes.{Scopes as CodeScopes}
use Rattle.pas_rules.specs.Labels.{labels_of_block, block_labels}
use Rattle.pas_rules.specs.Routines as routine_rule
use Rattle.pas_scopes.specs.ScopeViews.{routine_view, inner_view, outer_view, scopes_view}
use Rattle.pas_types.specs.inner.FlowViews.{IsFlow, IsBeside}
use Rattle.pas_types.specs.inner.LabelViews.{Known, known_labels, all_stand_in}
use Rattle.pas_types.proofs.LabelRules.{all_stand_known}
use Rattle.pas_types.specs.inner.Checking.{main_words, main_part, lacking, stop_at, IsWhole}
use Rattle.pas_rules.proofs.AsMany.{AsMany, and_then}
use Rattle.pas_scopes.proofs.EndLemmas.{behind_quiet, quiet_many}
use Rattle.pas_scopes.proofs.SettleLemmas.{quiet_behind, quiet_word, shows_front, shows_behind}

abbrev pub end_faults : Bool → Bool → List Wrong
end_faults has_bodies all_stand = unless has_bodies (wrong UNKNOWN_NAME) ++ unless all_stand (wrong WRONG_LABEL)

module _ {A : Type 0} (body : Compound) (dot last : ℕ) (part : Judged A) where
  abbrev begin : Word
  begin = at 1 k.Begin body.begin

  abbrev words : List Word
  words = statements_words 1 body.list

  abbrev behind : List Word
  behind = at 1 k.End body.end ∷ (at 0 k.Dot dot ∷ (at 0 k.EndOfText last ∷ []))

  abbrev ended : Bool → Bool → Marks
  ended has_bodies all_stand = joined (shows (end_faults has_bodies all_stand) ∷ quiet ∷ quiet ∷ [])

  abbrev all : List Word
  all = main_words body dot last

  abbrev marks : Bool → Bool → Marks
  marks has_bodies all_stand = (main_part has_bodies all_stand part).marks

  flat : begin ∷ (words ++ behind) ≡ all
  flat =
      ap (λ (rest : List Word). begin ∷ rest) (sym (append_assoc words (at 1 k.End body.end ∷ [])
      (at 0 k.Dot dot ∷ (at 0 k.EndOfText last ∷ []))))

  behind_many : (has_bodies all_stand : Bool) → AsMany behind (ended has_bodies all_stand)
  behind_many has_bodies all_stand = record { same = refl }

  end_shows : (has_bodies all_stand is_short : Bool) (found : Wrong) (rest : List Wrong)
      → IsQuiet words part.marks is_short
      → shown_behind is_short ++ end_faults has_bodies all_stand ≡ found ∷ rest
      → Shows all (marks has_bodies all_stand) (fault_in body.end (lowest found rest))
  end_shows has_bodies all_stand is_short found rest h is =
      let faults : List Wrong = end_faults has_bodies all_stand in
      subst (λ (ws : List Word). Shows ws (marks has_bodies all_stand) (fault_in body.end (lowest found rest))) flat
      (shows_behind (begin ∷ []) (words ++ behind) quiet (followed part.marks (ended has_bodies all_stand))
      (fault_in body.end (lowest found rest)) (quiet_word begin)
      record {
        many = (and_then part.marks (ended has_bodies all_stand)
            (record { same = quiet_many words part.marks.tokens h.still })
            (behind_many has_bodies all_stand)).same;
        first = behind_quiet words behind part.marks.tokens
            ((part.marks.behind ++ faults) ∷ ([] ∷ ([] ∷ []))) h.still
            ∙ ap (λ (shown : List Wrong). first_fault behind ((shown ++ faults) ∷ ([] ∷ ([] ∷ [])))) h.behind
            ∙ ap (λ (shown : List Wrong). first_fault behind (shown ∷ ([] ∷ ([] ∷ [])))) is;
      })

  -- the list means something, and nothing is missing
  pub main_means : (value : A) (has_bodies all_stand : Bool) (line : ℕ)
      → Ok tt ≡ lacking has_bodies all_stand line → Means words part value
      → Means all (main_part has_bodies all_stand part) value
  main_means value true true line is h = record {
    known = h.known;
    quiet = subst (λ (ws : List Word). IsQuiet ws (marks true true) false) flat
        (quiet_behind (begin ∷ []) (words ++ behind) quiet (followed part.marks (ended true true)) false
        (quiet_word begin)
        (quiet_behind words behind part.marks (ended true true) false h.quiet
        (record { still = (refl, (refl, (refl, tt))); behind = refl })));
  }
  main_means value true false line is h = cc
  main_means value false all_stand line is h = cc

  -- a body is missing, or a label
  pub main_lacks : (has_bodies all_stand : Bool) (why : Stop) → Err why ≡ lacking has_bodies all_stand body.end
      → IsQuiet words part.marks false → FailsBy all (marks has_bodies all_stand) why
  main_lacks true true why is h = cc
  main_lacks true false why is h =
      let same : shown_in body.end (wrong WRONG_LABEL) ≡ why = cc in
      subst (FailsBy all (marks true false)) same (end_shows true false false (wrong WRONG_LABEL) [] h refl)
  main_lacks false true why is h =
      let same : shown_in body.end (wrong UNKNOWN_NAME) ≡ why = cc in
      subst (FailsBy all (marks false true)) same (end_shows false true false (wrong UNKNOWN_NAME) [] h refl)
  main_lacks false false why is h =
      let same : shown_in body.end (wrong UNKNOWN_NAME) ≡ why = cc in
      subst (FailsBy all (marks false false)) same
      (end_shows false false false (wrong UNKNOWN_NAME) (wrong WRONG_LABEL ∷ []) h refl)

  -- something is missing before the last word
  main_short : (has_bodies all_stand : Bool) → IsQuiet words part.marks true
      → FailsBy all (marks has_bodies all_stand)
      (shown_in body.end (wrong (if has_bodies then WRONG_TYPE else UNKNOWN_NAME)))
  main_short true true h = end_shows true true true (wrong WRONG_TYPE) [] h refl
  main_short true false h = end_shows true false true (wrong WRONG_TYPE) (wrong WRONG_LABEL ∷ []) h refl
  main_short false true h = end_shows false true true (wrong WRONG_TYPE) (wrong UNKNOWN_NAME ∷ []) h refl
  main_short false false h =
      end_shows false false true (wrong WRONG_TYPE) (wrong UNKNOWN_NAME ∷ (wrong WRONG_LABEL ∷ [])) h refl

  -- the list shows a fault
  main_fails : (has_bodies all_stand : Bool) (why : Stop) → FailsBy words part.marks why
      → FailsBy all (marks has_bodies all_stand) why
  main_fails has_bodies all_stand stop.OutOfMemory h = tt
  main_fails has_bodies all_stand (stop.Fault fault) h =
      subst (λ (ws : List Word). Shows ws (marks has_bodies all_stand) fault) flat
      (shows_behind (begin ∷ []) (words ++ behind) quiet (followed part.marks (ended has_bodies all_stand)) fault
      (quiet_word begin)
      (shows_front words behind part.marks (ended has_bodies all_stand) fault (behind_many has_bodies all_stand) h))
  main_fails has_bodies all_stand stop.Missing h = absurd h

  pub main_stops : (has_bodies all_stand : Bool) (why : Stop) → ShowsBy words part.marks why
      → FailsBy all (marks has_bodies all_stand)
      (stop_at (if has_bodies then WRONG_TYPE else UNKNOWN_NAME) body.end why)
  main_stops has_bodies all_stand stop.OutOfMemory h = tt
  main_stops has_bodies all_stand (stop.Fault fault) h = main_fails has_bodies all_stand (stop.Fault fault) h
  main_stops has_bodies all_stand stop.Missing h = main_short has_bodies all_stand h

  pub main_many : (has_bodies all_stand : Bool) → AsMany words part.marks → AsMany all (marks has_bodies all_stand)
  main_many has_bodies all_stand many =
      subst (λ (ws : List Word). AsMany ws (marks has_bodies all_stand)) flat
      (and_then {words = begin ∷ []} quiet (followed part.marks (ended has_bodies all_stand)) (record { same = refl })
      (and_then part.marks (ended has_bodies all_stand) many (behind_many has_bodies all_stand)))

-- where a `?` returns early
pub whole_stop : {X A : Type 0} (words : List Word) (part : Judged A) (view : X → A) (why : Stop)
    (result : Result X Stop) → ((found : Stop) × (result ≡ Err found) × (found ≡ why)) → FailsBy words part.marks why
    → IsWhole words part view result
whole_stop words part view why result is h = subst (IsWhole words part view) (sym (is.1 ∙ ap Err is.2)) h

-- whether each forward heading has its body
none_some : (inner : Option CodeInner) → is_none inner ≡ not (is_some inner)
none_some None = refl
none_some (Some found) = refl

pub bodies_seen : (spellings : List ℕ) (routines : List CodeRoutine)
    → list_all (λ known. is_none known.awaited) routines ≡ have_bodies (map (routine_view spellings) routines)
bodies_seen spellings [] = refl
bodies_seen spellings (first ∷ routines) =
    ap (λ (b : Bool). b && list_all (λ (known : CodeRoutine). is_none known.awaited) routines)
    (none_some first.awaited)
    ∙ ap (λ (b : Bool). not (is_some first.awaited) && b) (bodies_seen spellings routines)

-- what is known of labels at the first statement of a program, and behind the last one
module _ (scopes : CodeScopes) (alone : scopes.inner ≡ None) where
  pub flow_begins : (flow : Flow) → option_copied flow.program ≡ None
      → flow.block ≡ known_labels scopes.labels [] [] → IsFlow (scopes_view scopes) [] [] flow
  flow_begins flow none is = record {
    block = is ∙ ap (λ (inner : Option CodeInner). known_labels (labels_of_block scopes.labels
        (option_map (inner_view scopes.spellings.now) inner)) [] []) (sym alone);
    beside = subst (λ (program : Option Known). IsBeside (outer_view scopes)
        (option_map (inner_view scopes.spellings.now) scopes.inner) program) (sym none)
        (subst (λ (inner : Option CodeInner). IsBeside (outer_view scopes)
        (option_map (inner_view scopes.spellings.now) inner) None) (sym alone) tt);
  }

  pub flow_stands : (flow : Flow) (labels : List ℕ) → IsFlow (scopes_view scopes) [] labels flow
      → all_stand_in flow.block ≡ routine_rule.all_stand labels scopes.labels
  flow_stands flow labels h =
      ap all_stand_in h.block
      ∙ (all_stand_known (block_labels (scopes_view scopes)) labels []
      ∙ ap (λ (inner : Option CodeInner). routine_rule.all_stand labels (labels_of_block scopes.labels
      (option_map (inner_view scopes.spellings.now) inner))) alone)

pub ok_mapped : {X : Type 0} (A B : Type 0) (result : Result X Stop) → OnOk result A → (A → B) → OnOk result B
ok_mapped A B (Ok found) h f = f h
ok_mapped A B (Err why) h f = tt
