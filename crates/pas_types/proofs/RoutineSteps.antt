-- What stands behind the heading of a routine, and what is answered of the routine by that.
use Rattle.std.proofs.Common.{◌≡◌, refl, sym, ap, subst, ◌∙◌, ℕ, Bool, true, false, List, [], ◌∷◌, ◌++◌}
use Rattle.std.proofs.Common.{Option, Some, None, IsSome, Result, Ok, Err}
use Rattle.std.specs.Prelude.{not, is_some, is_none, IfOk, OnErr}
use Rattle.wb_base.specs.declared.faults.TheConstants.{WRONG_TYPE}
use Rattle.pas_tokens.specs.Cutting.{Wrong, wrong, spelling}
use Rattle.pas_tokens.specs.declared.kinds.Kind.TheVariants as k
use Rattle.pas_syntax.specs.Tree as tree
use Rattle.pas_syntax.specs.Tree.{Labels, Rows, VariableRow, Compound}
use Rattle.pas_syntax.specs.Words.{Word, at, says, body_words, routine_words}
use Rattle.pas_typed.specs.declared.typed.Body.{Body as CodeBody}
use Rattle.pas_typed.specs.Typed as typed
use Rattle.pas_scopes.specs.declared.scopes.Scopes.{Scopes as CodeScopes}
use Rattle.pas_scopes.specs.declared.stop.Stop.{Stop}
use Rattle.pas_rules.specs.Marks.{Marks, quiet, shows, joined, followed, unless}
use Rattle.pas_rules.specs.Scopes.{Outer, Named, routine}
use Rattle.pas_rules.specs.Routines.{Sort, HeadingParts, HeadingStage, RoutineStage, head_of, second_heading, awaited}
use Rattle.pas_rules.specs.Routines.{headed_by, headed, routine_by, routine_of}
use Rattle.pas_rules.specs.Scopes.{with_new}
use Rattle.pas_scopes.specs.ScopeViews.{outer_view}
use Rattle.pas_scopes.specs.Stopping.{demanded, shown_in}
use Rattle.pas_scopes.specs.Answers.{FailsBy, IsQuiet}
use Rattle.pas_types.specs.inner.RoutineAnswers.{Heads, IsReady, awaited_at}
use Rattle.pas_rules.specs.HeadingWords.{parts_words}
use Rattle.pas_types.specs.inner.RoutineStands.{IsNamed}
use Rattle.pas_types.specs.inner.BlockAnswers.{block_marks, block_words, IsBlock, IsRoutine}
use Rattle.pas_rules.proofs.AsMany.{AsMany, all, one, next_word}
use Rattle.pas_scopes.proofs.SettleLemmas.{quiet_word, quiet_behind, quiet_alone}
use Rattle.pas_scopes.proofs.LocalRowLemmas.{fails_front, fails_behind}
use Rattle.pas_types.proofs.RoutineWords.{first_word, heading_split, block_split}
use Rattle.pas_types.proofs.BlockSteps.{block_many}

pub some_of : {A : Type 0} (found : Option A) → IsSome found → (x : A) × (found ≡ Some x)
some_of None h = absurd (cc)
some_of (Some x) h = (x, refl)

pub none_is : (found : Option ℕ) (b : Bool) → is_some found ≡ b → is_none found ≡ not b
none_is None false is = refl
none_is None true is = absurd (cc)
none_is (Some number) false is = absurd (cc)
none_is (Some number) true is = refl

-- a word that shows what is demanded of it
pub demand_shows : (word : Word) (holds : Bool) (code : ℕ) (why : Stop)
    → Err why ≡ demanded holds code word.token.line → FailsBy (word ∷ []) (shows (unless holds (wrong code))) why
demand_shows word true code why is = cc
demand_shows word false code why is =
    let same : shown_in word.token.line (wrong code) ≡ why = cc in
    subst (FailsBy (word ∷ []) (shows (wrong code ∷ []))) same (record { many = refl; first = refl })

pub demand_quiet : (word : Word) (holds : Bool) (code line : ℕ) → Ok tt ≡ demanded holds code line
    → IsQuiet (word ∷ []) (shows (unless holds (wrong code))) false
demand_quiet word true code line is = quiet_word word
demand_quiet word false code line is = cc

module _ (words : List Word) (stage : HeadingStage) (scopes : CodeScopes) (number : ℕ)
    (h : Heads words stage scopes number) (sort : Sort) (view : CodeBody → typed.Body) (end : ℕ) where
  abbrev semicolon : Word
  semicolon = at 0 k.Semicolon end

  -- what is answered of all
  abbrev pub Whole : tree.Body → CodeScopes → Result (Option CodeBody) Stop → Type 0
  Whole body new result =
      IsRoutine (words ++ (body_words body ++ semicolon ∷ [])) (routine_by stage sort body) view new result

  -- `forward`
  module _ (line : ℕ) where
    abbrev word : Word
    word = says 0 k.Name (spelling tree.forward_name) line

    abbrev last : Marks
    last = joined (quiet ∷ [])

    abbrev shown : Marks
    shown = shows (unless (not stage.is_second) (wrong WRONG_TYPE))

    last_many : AsMany (semicolon ∷ []) last
    last_many = all quiet (one semicolon [])

    pub forward_fails : (why : Stop) → Err why ≡ demanded (not stage.is_second) WRONG_TYPE line
        → Whole (tree.forward line) scopes (Err why)
    forward_fails why is =
        fails_behind words (word ∷ (semicolon ∷ [])) stage.marks (followed shown last) h.still why
        (fails_front (word ∷ []) (semicolon ∷ []) shown last last_many why
        (demand_shows word (not stage.is_second) WRONG_TYPE why is))

    pub forward_goes : Ok tt ≡ demanded (not stage.is_second) WRONG_TYPE line
        → Whole (tree.forward line) scopes (Ok None)
    forward_goes is = record {
      still = quiet_behind words (word ∷ (semicolon ∷ [])) stage.marks (followed shown last) false h.still
          (quiet_behind (word ∷ []) (semicolon ∷ []) shown last false
          (demand_quiet word (not stage.is_second) WRONG_TYPE line is)
          (quiet_alone (semicolon ∷ []) quiet false (quiet_word semicolon)));
      ready = h.ready;
      outer_is = h.outer_is;
      bodies_are = refl;
    }

  -- a block
  module _ (labels : Option Labels) (variables : Option (Rows VariableRow)) (body : Compound) (new : CodeScopes) where
    abbrev block : tree.Body
    block = tree.block labels variables body

    abbrev Block : Outer → ℕ → Result CodeBody Stop → Type 0
    Block outer n result = IsBlock outer n sort labels variables body end view new result

    abbrev block_behind : List Word
    block_behind = block_words stage.outer stage.number sort labels variables body end

    abbrev marks_behind : Marks
    marks_behind = block_marks stage.outer stage.number sort labels variables body end

    block_there : (result : Result CodeBody Stop) → Block (outer_view scopes) number result
        → Block stage.outer stage.number result
    block_there result b =
        subst (λ (n : ℕ). Block stage.outer n result) (sym h.number_is)
        (subst (λ (outer : Outer). Block outer number result) h.outer_is b)

    split : words ++ (body_words block ++ semicolon ∷ []) ≡ words ++ block_behind
    split = ap (λ (more : List Word). words ++ more) (block_split labels variables body end)

    pub block_fails : (why : Stop) → Block (outer_view scopes) number (Err why) → Whole block new (Err why)
    block_fails why b =
        subst (λ (all_words : List Word). FailsBy all_words (routine_by stage sort block).marks why) (sym split)
        (fails_behind words block_behind stage.marks marks_behind h.still why (block_there (Err why) b))

    pub block_goes : (found : CodeBody) → Block (outer_view scopes) number (Ok found)
        → Whole block new (Ok (Some found))
    block_goes found b =
        let behind = block_there (Ok found) b in
        record {
          still = subst (λ (all_words : List Word). IsQuiet all_words (routine_by stage sort block).marks false)
              (sym split)
              (quiet_behind words block_behind stage.marks marks_behind false h.still behind.still);
          ready = behind.ready;
          outer_is = behind.outer_is;
          bodies_are = behind.body_is;
        }

-- checking stops in the heading
module _ (words : List Word) (stage : HeadingStage) (sort : Sort) (end : ℕ) (why : Stop)
    (h : FailsBy words stage.marks why) where
  pub head_fails : (body : tree.Body)
      → FailsBy (words ++ (body_words body ++ at 0 k.Semicolon end ∷ [])) (routine_by stage sort body).marks why
  head_fails (tree.forward line) =
      let faults : List Wrong = unless (not stage.is_second) (wrong WRONG_TYPE) in
      fails_front words (says 0 k.Name (spelling tree.forward_name) line ∷ (at 0 k.Semicolon end ∷ [])) stage.marks
      (joined (shows faults ∷ quiet ∷ []))
      (next_word (says 0 k.Name (spelling tree.forward_name) line) faults (joined (quiet ∷ []))
      (all quiet (one (at 0 k.Semicolon end) []))) why h
  head_fails (tree.block labels variables body) =
      subst (λ (more : List Word). FailsBy (words ++ more)
      (routine_by stage sort (tree.block labels variables body)).marks why)
      (sym (block_split labels variables body end))
      (fails_front words (block_words stage.outer stage.number sort labels variables body end) stage.marks
      (block_marks stage.outer stage.number sort labels variables body end)
      (block_many stage.outer stage.number sort labels variables body end) why h)

-- a heading behind its forward heading
pub second_heads : (old : CodeScopes) (parts : HeadingParts) (line : ℕ) (word : Word) (number : ℕ) → IsReady old
    → IsSome (awaited_at old.routines.items number)
    → IsQuiet (parts_words word parts line) (second_heading (outer_view old) parts number).marks false
    → Heads (parts_words word parts line) (headed_by (outer_view old) parts (Some number)) old number
second_heads old parts line word number ready waits still = record {
  still = still;
  number_is = refl;
  ready = ready;
  outer_is = refl;
  waits = waits;
}

pub first_named : (old new : List Named) (name : List ℕ) (result : Result ℕ Stop)
    → IfOk result (λ number. new ≡ with_new old name (routine number)) → OnErr result (new ≡ old)
    → IsNamed old name new
first_named old new name (Ok number) is none = record { number = Some number; is = is }
first_named old new name (Err why) is none = record { number = None; is = none }

-- whether a routine waited
pub second_is : (outer : Outer) (parts : HeadingParts) (found : Option ℕ)
    → is_some found ≡ (headed_by outer parts found).is_second
second_is outer parts None = refl
second_is outer parts (Some number) = refl

-- a routine, by its heading and what stands behind it
module _ (outer : Outer) (found : tree.Routine) (parts : HeadingParts) (line : ℕ) (waits : Option ℕ)
    (parts_are : parts ≡ head_of found.heading) (line_is : line ≡ found.behind_heading)
    (waits_are : waits ≡ awaited outer parts) where
  abbrev pub first : Word
  first = first_word found.heading

  abbrev pub head_words : List Word
  head_words = parts_words first parts line

  abbrev pub head_stage : HeadingStage
  head_stage = headed_by outer parts waits

  abbrev pub rest_behind : List Word
  rest_behind = body_words found.body ++ at 0 k.Semicolon found.end ∷ []

  words_are : head_words ++ rest_behind ≡ routine_words found
  words_are =
      ap (λ (head : HeadingParts). parts_words first head line ++ rest_behind) parts_are
      ∙ (ap (λ (n : ℕ). parts_words first (head_of found.heading) n ++ rest_behind) line_is
      ∙ sym (heading_split found.heading found.behind_heading rest_behind))

  stage_is : routine_by head_stage parts.sort found.body ≡ routine_of outer found
  stage_is =
      ap (λ (n : Option ℕ). routine_by (headed_by outer parts n) parts.sort found.body) waits_are
      ∙ ap (λ (head : HeadingParts). routine_by (headed outer head) head.sort found.body) parts_are

  pub routine_answer : (view : CodeBody → typed.Body) (new : CodeScopes) (result : Result (Option CodeBody) Stop)
      → IsRoutine (head_words ++ rest_behind) (routine_by head_stage parts.sort found.body) view new result
      → IsRoutine (routine_words found) (routine_of outer found) view new result
  routine_answer view new result h =
      subst (λ (stage : RoutineStage). IsRoutine (routine_words found) stage view new result) stage_is
      (subst (λ (words : List Word). IsRoutine words (routine_by head_stage parts.sort found.body) view new result)
      words_are h)
