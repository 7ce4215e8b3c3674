-- Each statement of a lawful program keeps the variables in their shapes, over the whole language.
use Rattle.std.proofs.Common.{◌≡◌, ℕ, zero, suc, ◌-◌, List, [], ◌∷◌, length, Option, Some, None, ℤ, pos}
use Rattle.std.proofs.Common.{refl, sym, ap, ◌∙◌, All, IfSome, arith, inl}
use Rattle.std.specs.Prelude.{⊤}
use Rattle.std.specs.List.{list_any}
use Rattle.pas_syntax.specs.declared.operators.Way.{Way}
use Rattle.pas_typed.specs.Types.{PasType}
use Rattle.pas_typed.specs.Typed as typed
use Rattle.pas_typed.specs.Typed.{FileStep, Variable, Slot, Value, Place, Passed, Item, Statement, Statements, Arms}
use Rattle.pas_typed.specs.Typed.{TypedProgram}
use Rattle.pas_typed.specs.TypeOf.{type_of_place, type_of}
use Rattle.pas_typed.specs.Lawful.{IsOrdinal, IsLawful, IsLawfulSlot, IsLawfulValue, IsLawfulPlace, IsLawfulTarget}
use Rattle.pas_typed.specs.Lawful.{IsLawfulNumber, IsLawfulItem, IsLawfulStatement, AreLawful, AreLawfulArms}
use Rattle.pas_typed.specs.Shapes.{shape_of}
use Rattle.pas_typed.proofs.ShapeLemmas.{shape_of-ordinal}
use Rattle.pas_meaning.specs.declared.errors.TheConstants.{OUT_OF_RANGE, NO_CASE_MATCHES, STATUS_OUT_OF_RANGE}
use Rattle.pas_meaning.specs.Answers.{wrong}
use Rattle.pas_meaning.specs.Files as files
use Rattle.pas_meaning.specs.Outcome.{halted, Doing, pure, ◌>>=◌, ◌>>◌, answered, change}
use Rattle.pas_meaning.specs.Store as store
use Rattle.pas_meaning.specs.Store.{Datum, undefined, holds, own, Store, number_of, fits}
use Rattle.pas_meaning.specs.Arithmetic.{is_same, within_maxint}
use Rattle.pas_meaning.specs.Operands.{byte_of, truth_of}
use Rattle.pas_meaning.specs.Run as run
use Rattle.pas_meaning.specs.Run.{Flow, Entry, Doings, Spot}
use Rattle.pas_meaning.specs.Standing.{plain, Kinds, kind_at, Keeps, Knows, KeepsAll, IsOfType}
use Rattle.pas_meaning.proofs.StandingLemmas.{stands_set, stands_stored}
use Rattle.pas_meaning.proofs.KeepsLemmas.{keeps_bind, keeps_then, keeps_pure, keeps_answered, keeps_any, keeps_asked}
use Rattle.pas_meaning.proofs.KeepsLemmas.{keeps_change, keeps_stop, keeps_if, keeps_worldly, keeps_step, keeps_checked}
use Rattle.pas_meaning.proofs.KeepsLemmas.{keeps_operand, keeps_operand_alone, keeps_reset, keeps_rewrite, keeps_on}
use Rattle.pas_meaning.proofs.KeepsLemmas.{keeps_on_file}
use Rattle.pas_meaning.proofs.PlaceKeeps.{ordinal_undefined, MayTake, may_take, fits_sound, slot_aims, keeps_store}
use Rattle.pas_meaning.proofs.PlaceKeeps.{keeps_window}
use Rattle.pas_meaning.proofs.CallKeeps.{keeps_call}
use Rattle.pas_meaning.proofs.ValueKeeps.{keeps_value, keeps_place, keeps_arguments}

-- whatever is done, if only the variables are kept
abbrev pub Kept : {A : Type 0} → Kinds → Doing Store A → Type 0
Kept kinds doing = Keeps kinds kinds (λ value. ⊤) doing

kept_file : {A : Type 0} {kinds : Kinds} (place : Place) {next : Slot → Doing Store A}
    → ((file : Slot) → Kept kinds (next file))
    → Kept kinds (answered (run.file_variable place) >>= next)
kept_file place next = keeps_bind (keeps_any (run.file_variable place)) (λ file is. next file)

module _ (program : TypedProgram) (lawful : IsLawful program) (limit : Option ℕ) (below : Doings)
    (keeps_below : KeepsAll program below) (variables : List Variable) (result : Option PasType) (kinds : Kinds)
    (knows : Knows program variables result kinds) where
  abbrev at_value : (found : Value) → IsLawfulValue program variables found
      → Keeps kinds kinds (IsOfType program.types (type_of found)) (run.value limit program below found)
  at_value = keeps_value program lawful limit below keeps_below variables result kinds knows

  abbrev at_number : (found : Value) → IsLawfulNumber program variables found
      → Keeps kinds kinds (IsOfType program.types (type_of found)) (run.value limit program below found)
  at_number found is = at_value found is.0

  kept_assigned : (place : Place) (datum : Datum) → IsLawfulPlace program variables place
      → MayTake program lawful (type_of_place place) datum → Kept kinds (run.assigned limit program below place datum)
  kept_assigned place datum is may =
      keeps_bind (keeps_place program lawful limit below keeps_below variables result kinds knows place is)
      (λ spot spot_is.
      keeps_store program lawful variables result kinds knows (type_of_place place) spot datum spot_is.0 may)

  kept_file_step : (step : FileStep) (file : ℕ) → Kept kinds (run.file_step limit program below step file)
  kept_file_step typed.reset file = keeps_reset file
  kept_file_step typed.rewrite file = keeps_rewrite file
  kept_file_step typed.get file = keeps_worldly _
  kept_file_step typed.put file = keeps_worldly _

  kept_step_on : (step : FileStep) (file : Slot)
      → Kept kinds (run.on_file file (run.file_step limit program below step))
  kept_step_on step file = keeps_on_file file (run.file_step limit program below step) (kept_file_step step)

  kept_buffer : (type : PasType) (file : Slot)
      → Kept kinds (run.value limit program below (typed.read (run.buffer_of file type)))
  kept_buffer type file =
      keeps_bind (keeps_pure {P = λ spot. ⊤} (run.window file type) tt)
      (λ spot is_spot. keeps_asked (run.read_at program.types type spot))

  kept_set_buffer : (type : PasType) (file : Slot) (datum : Datum)
      → Kept kinds (run.assigned limit program below (run.buffer_of file type) datum)
  kept_set_buffer type file datum = keeps_window program lawful variables result kinds knows type type file datum

  kept_read_item : (type : PasType) (file : Slot) (place : Place) → IsLawfulTarget program variables place
      → Kept kinds (run.read_item limit program below type file place)
  kept_read_item type file place is =
      keeps_bind (kept_buffer type file) (λ datum is_datum. keeps_then (kept_assigned place datum is.0 (inl is.1))
      (kept_step_on typed.get file))

  kept_read_items : (type : PasType) (file : Slot) (places : List Place) → All (IsLawfulTarget program variables) places
      → Kept kinds (run.read_items limit program below type file places)
  kept_read_items type file [] are = keeps_pure tt tt
  kept_read_items type file (place ∷ places) are =
      keeps_then (kept_read_item type file place (are 0 place (omega arith)))
      (kept_read_items type file places (λ k d less. are (suc k) d (omega (arith, less))))

  kept_width : (width : ℕ) (given : Option Value) → IfSome given (IsLawfulNumber program variables)
      → Kept kinds (run.width_or limit program below width given)
  kept_width width None is = keeps_pure (pos width) tt
  kept_width width (Some given) is = keeps_operand_alone number_of (at_number given is)

  kept_field : (file : Slot) (bytes_for : ℕ → List ℕ) (width : ℤ)
      → Kept kinds (run.write_field limit program below file bytes_for width)
  kept_field file bytes_for width = keeps_on_file file _ (λ number. keeps_worldly _)

  kept_item : (file : Slot) (item : Item) → IsLawfulItem program variables item
      → Kept kinds (run.write_item limit program below file item)
  kept_item file (typed.number_item item given) is =
      keeps_operand number_of (at_number item is.0) (λ found. keeps_bind (kept_width 1 given is.1)
      (λ width is_width. kept_field file (λ field. files.number_in_field field found) width))
  kept_item file (typed.char_item item given) is =
      keeps_operand (byte_of OUT_OF_RANGE) (at_number item is.0) (λ found. keeps_bind (kept_width 1 given is.1)
      (λ width is_width. kept_field file (λ field. files.char_in_field field found) width))
  kept_item file (typed.string_item bytes given) is =
      keeps_bind (kept_width (length bytes) given is)
      (λ width is_width. kept_field file (λ field. files.string_in_field field bytes) width)

  kept_items : (file : Slot) (items : List Item) → All (IsLawfulItem program variables) items
      → Kept kinds (run.write_items limit program below file items)
  kept_items file [] are = keeps_pure tt tt
  kept_items file (item ∷ items) are =
      keeps_then (kept_item file item (are 0 item (omega arith)))
      (kept_items file items (λ k d less. are (suc k) d (omega (arith, less))))

  kept_byte : (type : PasType) (file : Slot) (item : Value) → IsLawfulNumber program variables item
      → Kept kinds (run.write_byte limit program below type file item)
  kept_byte type file item is =
      keeps_bind (at_number item is) (λ datum sound. keeps_then (kept_set_buffer type file datum)
      (kept_step_on typed.put file))

  kept_bytes : (type : PasType) (file : Slot) (items : List Value) → All (IsLawfulNumber program variables) items
      → Kept kinds (run.write_bytes limit program below type file items)
  kept_bytes type file [] are = keeps_pure tt tt
  kept_bytes type file (item ∷ items) are =
      keeps_then (kept_byte type file item (are 0 item (omega arith)))
      (kept_bytes type file items (λ k d less. are (suc k) d (omega (arith, less))))

  kept_entered : (list : Statements) (entry : ℕ → Entry) (around : Statement) (label : ℕ)
      → IsLawfulStatement program variables result around
      → Kept kinds (run.entered limit program below list entry around label)
  kept_entered list entry around label is =
      keeps_if (run.has_label list label)
      (keeps_then keeps_step (keeps_below variables result kinds knows (entry label) around is)) (keeps_pure _ tt)

  kept_behind_list : (list : Statements) (around : Statement) (flow : Flow)
      → IsLawfulStatement program variables result around
      → Kept kinds (run.behind_list limit program below list around flow)
  kept_behind_list list around run.next is = keeps_pure run.next tt
  kept_behind_list list around run.leaves is = keeps_pure run.leaves tt
  kept_behind_list list around (run.jump label) is = kept_entered list run.at around label is

  kept_looped : (list : Statements) (entry : ℕ → Entry) (turning : Entry) (loop : Statement) (flow : Flow)
      → IsLawfulStatement program variables result loop
      → Kept kinds (run.looped limit program below list entry turning loop flow)
  kept_looped list entry turning loop run.next is =
      keeps_then keeps_step (keeps_below variables result kinds knows turning loop is)
  kept_looped list entry turning loop run.leaves is = keeps_pure run.next tt
  kept_looped list entry turning loop (run.jump label) is = kept_entered list entry loop label is

  kept_while_turn : (test : Value) {list : Doing Store Flow} → IsLawfulNumber program variables test → Kept kinds list
      → Kept kinds (run.while_turn limit program below test list)
  kept_while_turn test is list =
      keeps_operand truth_of (at_number test is) (λ found. keeps_if found list (keeps_pure run.leaves tt))

  kept_until : (test : Value) → IsLawfulNumber program variables test
      → Kept kinds (run.until limit program below test)
  kept_until test is =
      keeps_operand truth_of (at_number test is)
      (λ found. keeps_if found (keeps_pure run.leaves tt) (keeps_pure run.next tt))

  kept_repeat_turn : (test : Value) {list : Doing Store Flow} → IsLawfulNumber program variables test → Kept kinds list
      → Kept kinds (run.repeat_turn limit program below test list)
  kept_repeat_turn test is list = keeps_bind list (λ flow is_flow. keeps_on flow (kept_until test is))

  -- the variable of a `for`
  module _ (slot : Slot) (way : Way) (declared : IsLawfulSlot program variables slot)
      (ordinal : IsOrdinal program.types slot.type) where
    kept_next_stored : (found : ℤ) → Kept kinds (run.next_value_stored limit program below slot way found)
    kept_next_stored found =
        keeps_bind (keeps_any (within_maxint (run.next_value way found))) (λ following is_following.
        keeps_then (keeps_store program lawful variables result kinds knows slot.type (run.part slot [])
        (holds following) (declared, refl) (inl ordinal)) (keeps_pure run.next tt))

    kept_counted : (last : ℤ) → Kept kinds (run.counted limit program below slot way last)
    kept_counted last =
        keeps_bind (keeps_asked (λ found world. store.number_at (store.home_of slot found) found)) (λ found is_found.
        keeps_if (is_same found last) (keeps_pure run.leaves tt) (kept_next_stored found))

    kept_for_turn : (last : ℤ) {list : Doing Store Flow} → Kept kinds list
        → Kept kinds (run.for_turn limit program below slot way last list)
    kept_for_turn last list = keeps_bind list (λ flow is_flow. keeps_on flow (kept_counted last))

    kept_stored : (datum : Datum) → IsOfType program.types slot.type datum
        → Kept kinds (change (λ found. store.stored (store.home_of slot found) datum found))
    kept_stored datum sound = keeps_change _ (λ found stands.
        stands_stored kinds found (store.home_of slot found) (shape_of program.types slot.type) datum stands
        (slot_aims program lawful variables result kinds knows slot found stands declared) sound)

    kept_forget : Kept kinds (change (run.forget slot) >> pure run.next)
    kept_forget =
        keeps_then (kept_stored undefined (ordinal_undefined program lawful slot.type ordinal)) (keeps_pure run.next tt)

    kept_for : (first last : ℤ) (turns : Doing Store Flow) → Kept kinds turns
        → Kept kinds (run.for_from limit program below slot way first last turns)
    kept_for first last turns kept =
        keeps_if (run.is_past way first last) kept_forget
        (keeps_bind (keeps_answered (fits program.types slot.type (holds first))
        (fits_sound program lawful slot.type (holds first) (inl ordinal))) (λ low sound.
        keeps_bind (keeps_any (fits program.types slot.type (holds last))) (λ high is_high.
        keeps_then (kept_stored low sound) (keeps_bind kept (λ flow is_flow. keeps_on flow kept_forget)))))

    -- a `for` from its begin, by what its list does
    kept_for_start : (first last : Value) (list : Statements) → IsLawfulNumber program variables first
        → IsLawfulNumber program variables last → AreLawful program variables result list
        → Kept kinds (run.items limit program below None list)
        → Kept kinds (run.statement limit program below run.start (typed.for slot way first last list))
    kept_for_start first last list first_is last_is are kept =
        keeps_operand number_of (at_number first first_is) (λ low. keeps_operand number_of (at_number last last_is)
        (λ high. kept_for low high _ (keeps_then keeps_step (keeps_bind (kept_for_turn high kept) (λ flow is_flow.
        kept_looped list (run.turn_at high) (run.turn high) (typed.for slot way first last list) flow
        (declared, ordinal, first_is, last_is, are))))))

  kept_result : (cell : ℕ) (type : PasType) (datum : Datum) → cell ≡ length variables → result ≡ Some type
      → IsOfType program.types type datum → Kept kinds (change (run.with_result cell datum))
  kept_result cell type datum there typed_so sound = keeps_change _ (λ found stands.
      stands_set kinds found (store.top_of found) cell (plain (shape_of program.types type)) (own datum) stands
      (ap (λ rows. kind_at kinds (rows - 1) cell) stands.rows ∙ ap (kind_at kinds (length kinds - 1)) there
      ∙ knows.result_cell type typed_so ∙ ap (λ part. Some (plain part))
      (sym (shape_of-ordinal program.types type lawful.types (knows.ordinal type typed_so)))) sound)

  mutual
    pub kept_statement : (from : Entry) (s : Statement) → IsLawfulStatement program variables result s
        → Kept kinds (run.statement limit program below from s)
    kept_statement from typed.empty is = keeps_pure run.next tt
    kept_statement from (typed.assigns place right) is =
        keeps_bind (at_value right is.1) (λ datum sound. keeps_then (kept_assigned place datum is.0
        (may_take program lawful (type_of_place place) (type_of right) datum is.2 sound)) (keeps_pure run.next tt))
    kept_statement from (typed.sets_result cell type right) is =
        keeps_bind (keeps_checked (fits program.types type) (at_number right is.2)
        (λ datum sound. fits_sound program lawful type datum (inl (knows.ordinal type is.1)))) (λ datum sound.
        keeps_then (kept_result cell type datum is.0 is.1 sound) (keeps_pure run.next tt))
    kept_statement from (typed.calls routine passed) is =
        keeps_bind (keeps_arguments program lawful limit below keeps_below variables result kinds knows passed
        is.0.parameters is.2) (λ arguments are.
        keeps_then (keeps_call program lawful variables result kinds knows limit below keeps_below routine is.0
        arguments is.1 are) (keeps_pure run.next tt))
    kept_statement from (typed.compound list) is =
        keeps_bind (kept_list (run.label_in from) list is)
        (λ flow is_flow. kept_behind_list list (typed.compound list) flow is)
    kept_statement from (typed.if_then test s) is =
        keeps_operand truth_of (at_number test is.0)
        (λ found. keeps_if found (kept_statement run.start s is.1) (keeps_pure run.next tt))
    kept_statement from (typed.if_else test s t) is =
        keeps_operand truth_of (at_number test is.0)
        (λ found. keeps_if found (kept_statement run.start s is.1) (kept_statement run.start t is.2))
    kept_statement from (typed.case selector arms) is =
        keeps_operand number_of (at_number selector is.0)
        (λ found. kept_arm found arms is.1 (keeps_any (wrong NO_CASE_MATCHES)))
    kept_statement from (typed.case_others selector arms s) is =
        keeps_operand number_of (at_number selector is.0)
        (λ found. kept_arm found arms is.1 (kept_statement run.start s is.2))
    kept_statement run.again (typed.while test list) is =
        keeps_bind (kept_while_turn test is.0 (kept_list None list is.1))
        (λ flow is_flow. kept_looped list run.at run.again (typed.while test list) flow is)
    kept_statement (run.at label) (typed.while test list) is =
        keeps_bind (kept_list (Some label) list is.1)
        (λ flow is_flow. kept_looped list run.at run.again (typed.while test list) flow is)
    kept_statement run.start (typed.while test list) is =
        keeps_then keeps_step (keeps_bind (kept_while_turn test is.0 (kept_list None list is.1))
        (λ flow is_flow. kept_looped list run.at run.again (typed.while test list) flow is))
    kept_statement (run.turn last) (typed.while test list) is =
        keeps_then keeps_step (keeps_bind (kept_while_turn test is.0 (kept_list None list is.1))
        (λ flow is_flow. kept_looped list run.at run.again (typed.while test list) flow is))
    kept_statement (run.turn_at last label) (typed.while test list) is =
        keeps_then keeps_step (keeps_bind (kept_while_turn test is.0 (kept_list None list is.1))
        (λ flow is_flow. kept_looped list run.at run.again (typed.while test list) flow is))
    kept_statement run.again (typed.repeat list test) is =
        keeps_bind (kept_repeat_turn test is.1 (kept_list None list is.0))
        (λ flow is_flow. kept_looped list run.at run.again (typed.repeat list test) flow is)
    kept_statement (run.at label) (typed.repeat list test) is =
        keeps_bind (kept_repeat_turn test is.1 (kept_list (Some label) list is.0))
        (λ flow is_flow. kept_looped list run.at run.again (typed.repeat list test) flow is)
    kept_statement run.start (typed.repeat list test) is =
        keeps_then keeps_step (keeps_bind (kept_repeat_turn test is.1 (kept_list None list is.0))
        (λ flow is_flow. kept_looped list run.at run.again (typed.repeat list test) flow is))
    kept_statement (run.turn last) (typed.repeat list test) is =
        keeps_then keeps_step (keeps_bind (kept_repeat_turn test is.1 (kept_list None list is.0))
        (λ flow is_flow. kept_looped list run.at run.again (typed.repeat list test) flow is))
    kept_statement (run.turn_at last label) (typed.repeat list test) is =
        keeps_then keeps_step (keeps_bind (kept_repeat_turn test is.1 (kept_list None list is.0))
        (λ flow is_flow. kept_looped list run.at run.again (typed.repeat list test) flow is))
    kept_statement (run.turn high) (typed.for slot way first last list) is =
        keeps_bind (kept_for_turn slot way is.0 is.1 high (kept_list None list is.4)) (λ flow is_flow.
        kept_looped list (run.turn_at high) (run.turn high) (typed.for slot way first last list) flow is)
    kept_statement (run.turn_at high label) (typed.for slot way first last list) is =
        keeps_bind (kept_for_turn slot way is.0 is.1 high (kept_list (Some label) list is.4)) (λ flow is_flow.
        kept_looped list (run.turn_at high) (run.turn high) (typed.for slot way first last list) flow is)
    kept_statement run.start (typed.for slot way first last list) is =
        kept_for_start slot way is.0 is.1 first last list is.2 is.3 is.4 (kept_list None list is.4)
    kept_statement run.again (typed.for slot way first last list) is =
        kept_for_start slot way is.0 is.1 first last list is.2 is.3 is.4 (kept_list None list is.4)
    kept_statement (run.at label) (typed.for slot way first last list) is =
        kept_for_start slot way is.0 is.1 first last list is.2 is.3 is.4 (kept_list None list is.4)
    kept_statement from (typed.goto label) is = keeps_pure _ tt
    kept_statement from (typed.goto_last status) is = keeps_stop (halted status)
    kept_statement from (typed.file_step step place) is =
        kept_file place (λ file. keeps_then (kept_step_on step file) (keeps_pure run.next tt))
    kept_statement from (typed.reads place places) is =
        kept_file place (λ file. keeps_then (kept_read_items (run.components_of program.types place) file places is.1)
        (keeps_pure run.next tt))
    kept_statement from (typed.reads_line place places) is =
        kept_file place (λ file. keeps_then (kept_read_items (run.components_of program.types place) file places is.1)
        (keeps_then (keeps_on_file file _ (λ number. keeps_worldly _)) (keeps_pure run.next tt)))
    kept_statement from (typed.writes place written) is =
        kept_file place (λ file. keeps_then (kept_items file written is.1) (keeps_pure run.next tt))
    kept_statement from (typed.writes_line place written) is =
        kept_file place (λ file. keeps_then (kept_items file written is.1)
        (keeps_then (keeps_on_file file _ (λ number. keeps_worldly _)) (keeps_pure run.next tt)))
    kept_statement from (typed.writes_bytes place written) is =
        kept_file place (λ file. keeps_then (kept_bytes (run.components_of program.types place) file written is.1)
        (keeps_pure run.next tt))
    kept_statement from (typed.halts status) is =
        keeps_operand (byte_of STATUS_OUT_OF_RANGE) (at_number status is) (λ found. keeps_stop (halted found))

    pub kept_list : (from : Option ℕ) (list : Statements) → AreLawful program variables result list
        → Kept kinds (run.items limit program below from list)
    kept_list None typed.no_statements is = keeps_pure run.next tt
    kept_list (Some wanted) typed.no_statements is = keeps_pure run.next tt
    kept_list None (typed.item label s list) is =
        keeps_bind (kept_statement run.start s is.0) (λ flow is_flow. keeps_on flow (kept_list None list is.1))
    kept_list (Some wanted) (typed.item label s list) is =
        keeps_if (run.has label wanted)
        (keeps_bind (kept_statement run.start s is.0) (λ flow is_flow. keeps_on flow (kept_list None list is.1)))
        (kept_list (Some wanted) list is.1)

    pub kept_arm : (found : ℤ) (arms : Arms) {otherwise : Doing Store Flow}
        → AreLawfulArms program variables result arms
        → Kept kinds otherwise → Kept kinds (run.arm limit program below found arms otherwise)
    kept_arm found typed.no_arms is otherwise = otherwise
    kept_arm found (typed.arm values s arms) is otherwise =
        keeps_if (list_any (is_same found) values) (kept_statement run.start s is.0)
        (kept_arm found arms is.1 otherwise)

-- within each bound
pub keeps_within : (limit : Option ℕ) (program : TypedProgram) → IsLawful program → (bound : ℕ)
    → KeepsAll program (run.within limit program bound)
keeps_within limit program lawful zero variables result kinds knows from s is =
    record { each = λ now stands. tt }
keeps_within limit program lawful (suc bound) variables result kinds knows from s is = record {
  each = (kept_statement program lawful limit (run.within limit program bound) (keeps_within limit program lawful bound)
      variables result kinds knows from s is).each;
}
