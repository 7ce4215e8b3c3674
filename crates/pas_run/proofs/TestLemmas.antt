-- Questions to the files that variables are, as steps of a run.
use Rattle.std.proofs.Common.{◌≡◌, ℕ, ℤ, List, [], ◌∷◌, map, length, arith, refl, sym, ap, ◌∙◌, subst, Bool, Result}
use Rattle.std.proofs.Common.{Ok, Err}
use Rattle.pas_syntax.specs.Views.{in_turn}
use Rattle.pas_typed.specs.declared.typed.Place as code_place
use Rattle.pas_typed.specs.declared.typed.Part as code_part
use Rattle.pas_typed.specs.declared.typed.Slot.{Slot as CodeSlot}
use Rattle.pas_typed.specs.declared.typed.Part.TheOpen.{Part-F}
use Rattle.pas_typed.specs.declared.typed.Part.TheViews.{out-Place}
use Rattle.pas_typed.specs.declared.typed.Part.TheFolds.{fold_out-Part, fold_out-Place}
use Rattle.pas_typed.specs.Types.{PasType}
use Rattle.pas_typed.specs.Typed as typed
use Rattle.pas_typed.specs.Typed.{Variable, Slot, Value, Place, Passed, TypedProgram}
use Rattle.pas_typed.specs.TypedViews.{OfValues, slot_view, part_step, passed_step, value_step, call_step, place_step}
use Rattle.pas_typed.specs.TypedViews.{part_view, place_view}
use Rattle.pas_typed.specs.Lawful.{IsLawfulFile}
use Rattle.pas_meaning.specs.declared.errors.TheConstants.{WRONG_MODE}
use Rattle.pas_meaning.specs.Answers.{Answer, fine, wrong}
use Rattle.pas_meaning.specs.Files.{File}
use Rattle.pas_meaning.specs.FileSteps.{file_at}
use Rattle.pas_meaning.specs.Outcome.{Doing, pure, ◌>>=◌, answered, ask}
use Rattle.pas_meaning.specs.Store.{Datum, holds, Store}
use Rattle.pas_meaning.specs.Arithmetic.{truth}
use Rattle.pas_meaning.specs.Run as meaning
use Rattle.pas_meaning.specs.Run.{file_variable, file_of, of_file}
use Rattle.pas_meaning.specs.Standing.{Kinds}
use Rattle.pas_meaning.specs.Laws.{Goes}
use Rattle.pas_meaning.proofs.OnwardLemmas.{goes_bind, goes_pure, goes_ask}
use Rattle.pas_run.specs.declared.ends.Stop.{Stop}
use Rattle.pas_run.specs.inner.MachineState.{MachineState}
use Rattle.pas_run.specs.inner.Doings.{Same, IsNumber, Does, Answers, asks}
use Rattle.pas_run.specs.inner.Scenes.{IsFileSlot}
use Rattle.pas_run.specs.inner.Evaluating.{IsSlot}
use Rattle.pas_run.proofs.DoesLemmas.{does_stop, does_next, does_answered, does_pure, does_asked_then}

-- a place is its variable with its parts in turn
pub place_out : (place : code_place.Place)
    → in_turn (typed.slot (slot_view (out-Place place).slot)) (map part_view (out-Place place).parts)
    ≡ place_view place
place_out place =
    sym (fold_out-Place (Place → Place) (Passed → Passed) Value Value Place
    part_step passed_step value_step call_step place_step place)

-- a part is no variable
step_file : (layer : OfValues Part-F) (place : Place) → file_variable (part_step layer place) ≡ wrong WRONG_MODE
step_file (Part-F.Element indexes type index) place = refl
step_file (Part-F.Field number type) place = refl
step_file (Part-F.Buffer type) place = refl

part_file : (part : code_part.Part) (place : Place) → file_variable (part_view part place) ≡ wrong WRONG_MODE
part_file part place =
    ap (λ (step : Place → Place). file_variable (step place))
    (fold_out-Part (Place → Place) (Passed → Passed) Value Value Place
    part_step passed_step value_step call_step place_step part)
    ∙ step_file _ place

parts_file : (parts : List code_part.Part) (place : Place) → file_variable place ≡ wrong WRONG_MODE
    → file_variable (in_turn place (map part_view parts)) ≡ wrong WRONG_MODE
parts_file [] place is = is
parts_file (part ∷ parts) place is = parts_file parts (part_view part place) (part_file part place)

no_variable : (place : code_place.Place) (first : code_part.Part) (more : List code_part.Part)
    → (out-Place place).parts ≡ first ∷ more → file_variable (place_view place) ≡ wrong WRONG_MODE
no_variable place first more is =
    ap file_variable (sym (place_out place))
    ∙ ap (λ (parts : List code_part.Part). file_variable (in_turn (typed.slot (slot_view (out-Place place).slot))
    (map part_view parts))) is
    ∙ parts_file more _ (part_file first _)

pub some_parts : (place : code_place.Place) → ((out-Place place).parts ≡ [] → ⊥)
    → file_variable (place_view place) ≡ wrong WRONG_MODE
some_parts place some = by_parts (out-Place place).parts refl
  where
    by_parts : (parts : List code_part.Part) → (out-Place place).parts ≡ parts
        → file_variable (place_view place) ≡ wrong WRONG_MODE
    by_parts [] is = absurd (some is)
    by_parts (first ∷ more) is = no_variable place first more is

pub whole_variable : (place : code_place.Place) → (out-Place place).parts ≡ []
    → file_variable (place_view place) ≡ fine (slot_view (out-Place place).slot)
whole_variable place is =
    ap file_variable (sym (place_out place))
    ∙ ap (λ (parts : List code_part.Part). file_variable (in_turn (typed.slot (slot_view (out-Place place).slot))
    (map part_view parts))) is

-- the variable below a buffer
step_buffer : (layer : OfValues Part-F) (place file : Place) (type : PasType)
    → part_step layer place ≡ typed.buffer file type → file ≡ place
step_buffer (Part-F.Element indexes of_element index) place file type is = absurd (cc)
step_buffer (Part-F.Field number of_field) place file type is = absurd (cc)
step_buffer (Part-F.Buffer component) place file type is = cc

part_buffer : (part : code_part.Part) (place file : Place) (type : PasType)
    → part_view part place ≡ typed.buffer file type → file ≡ place
part_buffer part place file type is =
    step_buffer _ place file type
    (sym (ap (λ (step : Place → Place). step place)
    (fold_out-Part (Place → Place) (Passed → Passed) Value Value Place
    part_step passed_step value_step call_step place_step part)) ∙ is)

below_more : (file : Place) (type : PasType) (part : code_part.Part) (parts : List code_part.Part) (place : Place)
    → file_variable place ≡ wrong WRONG_MODE → in_turn place (map part_view (part ∷ parts)) ≡ typed.buffer file type
    → file_variable file ≡ wrong WRONG_MODE
below_more file type part [] place is h = ap file_variable (part_buffer part place file type h) ∙ is
below_more file type part (next ∷ parts) place is h =
    below_more file type next parts (part_view part place) (part_file part place) h

module _ (place : code_place.Place) (file : Place) (type : PasType)
    (same : place_view place ≡ typed.buffer file type) where
  pub below_one : length (out-Place place).parts ≡ 1 → file_variable file ≡ fine (slot_view (out-Place place).slot)
  below_one one = by_parts (out-Place place).parts one (place_out place ∙ same)
    where
      by_parts : (parts : List code_part.Part) → length parts ≡ 1
          → in_turn (typed.slot (slot_view (out-Place place).slot)) (map part_view parts) ≡ typed.buffer file type
          → file_variable file ≡ fine (slot_view (out-Place place).slot)
      by_parts [] one h = absurd (omega (arith, one))
      by_parts (part ∷ []) one h = ap file_variable (part_buffer part _ file type h)
      by_parts (part ∷ (next ∷ parts)) one h = absurd (omega (arith, one))

  pub below_others : (length (out-Place place).parts ≡ 1 → ⊥) → file_variable file ≡ wrong WRONG_MODE
  below_others others = by_parts (out-Place place).parts others (place_out place ∙ same)
    where
      by_parts : (parts : List code_part.Part) → (length parts ≡ 1 → ⊥)
          → in_turn (typed.slot (slot_view (out-Place place).slot)) (map part_view parts) ≡ typed.buffer file type
          → file_variable file ≡ wrong WRONG_MODE
      by_parts [] others h = absurd (cc)
      by_parts (part ∷ []) others h = absurd (others refl)
      by_parts (part ∷ (next ∷ parts)) others h =
          below_more file type next parts (part_view part (typed.slot (slot_view (out-Place place).slot)))
          (part_file part _) h

same_fine : {A : Type 0} (one other : A) → fine one ≡ fine other → one ≡ other
same_fine one other is = cc

-- the variable that a lawful file is
pub file_slot : (program : TypedProgram) (variables : List Variable) (place : Place) (slot : Slot)
    → file_variable place ≡ fine slot → IsLawfulFile program variables place → IsFileSlot program variables slot
file_slot program variables (typed.slot found) slot is lawful =
    subst (IsFileSlot program variables) (same_fine found slot is)
    (record { slot_is = lawful.0; file = lawful.1 })
file_slot program variables (typed.element place range type index) slot is lawful = absurd (cc)
file_slot program variables (typed.field place number type) slot is lawful = absurd (cc)
file_slot program variables (typed.buffer place type) slot is lawful = absurd (cc)

-- a question to the file that a variable is
module _ {A : Type 0} (most : ℕ) (kinds : Kinds) (slot : Slot) (question : File → Answer A)
    (before : MachineState) where
  pub asked_no_file : (why : Stop) → Does {T = ℕ} most kinds kinds Same (ask (file_of slot)) before before (Err why)
      → Does {T = A} most kinds kinds Same (ask (of_file slot question)) before before (Err why)
  asked_no_file why does =
      does_asked_then most kinds kinds Same (file_of slot) (λ number store world. question (file_at number world))
      before before (Err why)
      (does_stop most kinds kinds kinds Same Same (ask (file_of slot)) (λ number. asks number question) before before
      why (λ number. goes_ask _) does)

  pub asked_file : (now : MachineState) (file : ℕ) (result : Result A Stop)
      → Does most kinds kinds Same (ask (file_of slot)) before before (Ok file)
      → Does most kinds kinds Same (asks file question) before now result
      → Does most kinds kinds Same (ask (of_file slot question)) before now result
  asked_file now file result found does =
      does_asked_then most kinds kinds Same (file_of slot) (λ number store world. question (file_at number world))
      before now result
      (does_next most kinds kinds kinds Same Same (ask (file_of slot)) (λ number. asks number question) before before
      now file result (goes_ask _) found
      (λ number same. subst (λ number. Does most kinds kinds Same (asks number question) before now result) same does))

-- a test of a file
module _ (most : ℕ) (kinds : Kinds) (place : Place) (question : File → Answer Bool) (before : MachineState) where
  by : Slot → Doing Store Datum
  by file = ask (of_file file question) >>= (λ found. pure (meaning.boolean found))

  goes_by : (file : Slot) → Goes (by file)
  unfolding by
  goes_by file = goes_bind (goes_ask (of_file file question)) (λ found. goes_pure (meaning.boolean found))

  pub test_no_variable : (why : Stop) → Answers {T = CodeSlot} IsSlot (file_variable place) (Err why)
      → Does {T = ℤ} most kinds kinds IsNumber (answered (file_variable place) >>= (λ file.
      ask (of_file file question) >>= (λ found. pure (meaning.boolean found)))) before before (Err why)
  unfolding by
  test_no_variable why is =
      does_stop most kinds kinds kinds IsSlot IsNumber (answered (file_variable place)) by before before why goes_by
      (does_answered {T = CodeSlot} most kinds IsSlot (file_variable place) before (Err why) is)

  module _ (slot : Slot) (is : file_variable place ≡ fine slot) where
    behind : (now : MachineState) (result : Result ℤ Stop) → Does most kinds kinds IsNumber (by slot) before now result
        → Does most kinds kinds IsNumber (answered (file_variable place) >>= by) before now result
    unfolding by
    behind now result does =
        subst (λ (variable : Answer Slot). Does most kinds kinds IsNumber (answered variable >>= by) before now result)
        (sym is) does

    pub test_stop : (now : MachineState) (why : Stop)
        → Does {T = Bool} most kinds kinds Same (ask (of_file slot question)) before now (Err why)
        → Does {T = ℤ} most kinds kinds IsNumber (answered (file_variable place) >>= (λ file.
        ask (of_file file question) >>= (λ found. pure (meaning.boolean found)))) before now (Err why)
    unfolding by
    test_stop now why does =
        behind now (Err why)
        (does_stop most kinds kinds kinds Same IsNumber (ask (of_file slot question))
        (λ found. pure (meaning.boolean found)) before now why (λ found. goes_pure (meaning.boolean found)) does)

    pub test_next : (now : MachineState) (found : Bool) (number : ℤ)
        → Does most kinds kinds Same (ask (of_file slot question)) before now (Ok found)
        → number ≡ truth found
        → Does most kinds kinds IsNumber (answered (file_variable place) >>= (λ file.
        ask (of_file file question) >>= (λ found. pure (meaning.boolean found)))) before now (Ok number)
    unfolding by
    test_next now found number does is_number =
        behind now (Ok number)
        (does_next most kinds kinds kinds Same IsNumber (ask (of_file slot question))
        (λ found. pure (meaning.boolean found)) before now now found (Ok number) (goes_ask _) does
        (λ value same. does_pure most kinds IsNumber number (meaning.boolean value) now
        (ap holds (ap truth (sym same) ∙ sym is_number))))
