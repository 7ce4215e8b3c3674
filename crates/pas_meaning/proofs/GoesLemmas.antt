-- Every statement goes on: the laws of a run, over the whole language.
use Rattle.std.proofs.Common.{ℕ, zero, suc, List, [], ◌∷◌, Option, Some, None, true, false}
use Rattle.std.specs.Prelude.{ℤ, pos, length, not}
use Rattle.std.specs.List.{list_any}
use Rattle.pas_syntax.specs.declared.operators.Multiplying.TheVariants as multiplying
use Rattle.pas_syntax.specs.declared.operators.Adding.TheVariants as adding
use Rattle.pas_syntax.specs.declared.operators.Way.{Way}
use Rattle.pas_typed.specs.Types.{PasType, whole, boolean, Table}
use Rattle.pas_typed.specs.Typed as typed
use Rattle.pas_typed.specs.Typed.{FileStep, Slot, Value, Place, Passed, Item, Statement, Statements, Arms, Body}
use Rattle.pas_typed.specs.Typed.{TypedProgram}
use Rattle.pas_typed.specs.TypeOf.{type_of_place}
use Rattle.pas_meaning.specs.declared.errors.TheConstants.{OUT_OF_RANGE, NO_CASE_MATCHES, STATUS_OUT_OF_RANGE}
use Rattle.pas_meaning.specs.Answers.{Answer, wrong, then_answer}
use Rattle.pas_meaning.specs.Files as files
use Rattle.pas_meaning.specs.Outcome.{halted, Doing, pure, ◌>>=◌, ◌>>◌, answered, change}
use Rattle.pas_meaning.specs.Store as store
use Rattle.pas_meaning.specs.Store.{Datum, Store, holds, number_of}
use Rattle.pas_meaning.specs.Arithmetic.{is_same, function_at, signed, multiplied, added, compared}
use Rattle.pas_meaning.specs.Arithmetic.{within_maxint}
use Rattle.pas_meaning.specs.Operands.{operand, element, byte_of, truth_of}
use Rattle.pas_meaning.specs.Run as run
use Rattle.pas_meaning.specs.Run.{Flow, Entry, Doings, Spot, Argument}
use Rattle.pas_meaning.specs.Laws.{Goes}
use Rattle.pas_meaning.proofs.OnwardLemmas.{goes_bind, goes_then, goes_pure, goes_answered, goes_ask, goes_change}
use Rattle.pas_meaning.proofs.OnwardLemmas.{goes_changed, goes_stop}
use Rattle.pas_meaning.proofs.OnwardLemmas.{goes_if, goes_step, goes_begin, goes_end_call}
use Rattle.pas_meaning.proofs.OnwardLemmas.{goes_change_file, goes_reset, get_keeps, readln_keeps, buffer_set_keeps}
use Rattle.pas_meaning.proofs.OnwardLemmas.{goes_rewrite, goes_append, goes_put, onward_same}
use Rattle.pas_meaning.specs.FileSteps.{change_file}

pub goes_on : (flow : Flow) {rest : Doing Store Flow} → Goes rest → Goes (run.go_on flow rest)
goes_on run.next rest = rest
goes_on run.leaves rest = goes_pure _
goes_on (run.jump label) rest = goes_pure _

-- what is done with an operand behind its check
pub goes_operand : {A B : Type 0} (check : Datum → Answer A) {evaluated : Doing Store Datum} {next : A → Doing Store B}
    → Goes evaluated → ((found : A) → Goes (next found)) → Goes (operand check evaluated >>= next)
goes_operand check goes next = goes_bind (goes_bind goes (λ datum. goes_answered (check datum))) next

pub goes_operand_alone : {A : Type 0} (check : Datum → Answer A) {evaluated : Doing Store Datum} → Goes evaluated
    → Goes (operand check evaluated)
goes_operand_alone check goes = goes_bind goes (λ datum. goes_answered (check datum))

-- what is done with the variable that a file is
pub goes_file : {A : Type 0} (place : Place) {next : Slot → Doing Store A} → ((file : Slot) → Goes (next file))
    → Goes (answered (run.file_variable place) >>= next)
goes_file place next = goes_bind (goes_answered (run.file_variable place)) next

-- a step of the file that a variable means
pub goes_on_file : (file : Slot) (step : ℕ → Doing Store (Unit {0})) → ((number : ℕ) → Goes (step number))
    → Goes (run.on_file file step)
goes_on_file file step goes = goes_bind (goes_ask (run.file_of file)) goes

module _ (table : Table) where
  pub goes_set : (file byte : ℕ) → Goes {S = Store} (change_file file (files.buffer_set byte))
  goes_set file byte = goes_change_file file (files.buffer_set byte) (buffer_set_keeps byte)

  pub goes_store : (type : PasType) (spot : Spot) (datum : Datum) → Goes (run.store_at table type spot datum)
  goes_store type (run.part slot path) datum =
      goes_changed (λ before. store.put_at table type (store.along (store.home_of slot before) path) datum before)
  goes_store type (run.window file of_component) datum =
      goes_bind (goes_answered (then_answer (store.fits table of_component datum) (byte_of OUT_OF_RANGE))) (λ byte.
      goes_on_file file _ (λ number. goes_set number byte))

module _ (limit : Option ℕ) (program : TypedProgram) (below : Doings)
    (goes_below : (from : Entry) (s : Statement) → Goes (below from s)) where
  pub goes_body : (body : Option Body) (arguments : List Argument)
      → Goes (run.body_run limit program below body arguments)
  goes_body None arguments = goes_pure _
  goes_body (Some body) arguments =
      search (goes_bind, goes_then, goes_change, goes_below, goes_ask, goes_end_call, goes_pure) depth 12

  pub goes_call : (routine : ℕ) (arguments : List Argument) → Goes (run.call limit program below routine arguments)
  goes_call routine arguments = search (goes_then, goes_step, goes_begin, goes_body)

  mutual
    pub goes_value : (found : Value) → Goes (run.value limit program below found)
    goes_value (typed.constant base number) = goes_pure _
    goes_value (typed.read place) =
        goes_bind (goes_place place) (λ spot. goes_ask (run.read_at program.types (type_of_place place) spot))
    goes_value (typed.call routine type passed) =
        goes_bind (goes_arguments passed) (λ arguments. goes_bind (goes_call routine arguments)
        (λ result. goes_answered (run.defined_result result)))
    goes_value (typed.applied function argument) =
        goes_operand number_of (goes_value argument) (λ found. goes_bind (goes_answered (function_at function found))
        (λ result. goes_pure (holds result)))
    goes_value (typed.tested test place) =
        goes_file place (λ file. goes_bind (goes_ask (run.of_file file (run.test_of test)))
        (λ found. goes_pure (run.boolean found)))
    goes_value (typed.parenthesized inner) = goes_value inner
    goes_value (typed.signed sign argument) =
        goes_operand number_of (goes_value argument) (λ found. goes_bind (goes_answered (signed sign found))
        (λ result. goes_pure (holds result)))
    goes_value (typed.negated argument) =
        goes_operand truth_of (goes_value argument) (λ found. goes_pure (run.boolean (not found)))
    goes_value (typed.product left multiplying.And right) =
        goes_operand truth_of (goes_value left) (λ first. goes_if first
        (goes_operand_alone (store.fits program.types (whole boolean)) (goes_value right))
        (goes_pure (run.boolean false)))
    goes_value (typed.product left multiplying.Times right) =
        goes_operand number_of (goes_value left) (λ first. goes_operand number_of (goes_value right) (λ second.
        goes_bind (goes_answered (multiplied multiplying.Times first second)) (λ result. goes_pure (holds result))))
    goes_value (typed.product left multiplying.Div right) =
        goes_operand number_of (goes_value left) (λ first. goes_operand number_of (goes_value right) (λ second.
        goes_bind (goes_answered (multiplied multiplying.Div first second)) (λ result. goes_pure (holds result))))
    goes_value (typed.product left multiplying.Mod right) =
        goes_operand number_of (goes_value left) (λ first. goes_operand number_of (goes_value right) (λ second.
        goes_bind (goes_answered (multiplied multiplying.Mod first second)) (λ result. goes_pure (holds result))))
    goes_value (typed.addition left adding.Or right) =
        goes_operand truth_of (goes_value left) (λ first. goes_if first (goes_pure (run.boolean true))
        (goes_operand_alone (store.fits program.types (whole boolean)) (goes_value right)))
    goes_value (typed.addition left adding.Plus right) =
        goes_operand number_of (goes_value left) (λ first. goes_operand number_of (goes_value right) (λ second.
        goes_bind (goes_answered (added adding.Plus first second)) (λ result. goes_pure (holds result))))
    goes_value (typed.addition left adding.Minus right) =
        goes_operand number_of (goes_value left) (λ first. goes_operand number_of (goes_value right) (λ second.
        goes_bind (goes_answered (added adding.Minus first second)) (λ result. goes_pure (holds result))))
    goes_value (typed.comparison left relation right) =
        goes_operand number_of (goes_value left) (λ first. goes_operand number_of (goes_value right)
        (λ second. goes_pure (run.boolean (compared relation first second))))

    pub goes_place : (place : Place) → Goes (run.spot_at limit program below place)
    goes_place (typed.slot slot) = goes_pure _
    goes_place (typed.element place range type index) =
        goes_bind (goes_place place) (λ spot. goes_operand (element range) (goes_value index)
        (λ number. goes_pure (run.along_part spot number)))
    goes_place (typed.field place field type) =
        goes_bind (goes_place place) (λ spot. goes_pure (run.along_part spot field))
    goes_place (typed.buffer place type) = goes_file place (λ file. goes_pure (run.window file type))

    pub goes_arguments : (passed : Passed) → Goes (run.arguments_of limit program below passed)
    goes_arguments typed.nothing = goes_pure _
    goes_arguments (typed.value type argument others) =
        goes_operand (store.fits program.types type) (goes_value argument) (λ datum.
        goes_bind (goes_arguments others) (λ arguments. goes_pure (run.copied datum ∷ arguments)))
    goes_arguments (typed.reference place others) =
        goes_bind (goes_place place) (λ spot. goes_bind (goes_arguments others)
        (λ arguments. goes_pure (run.meant spot ∷ arguments)))

  pub goes_assigned : (place : Place) (datum : Datum) → Goes (run.assigned limit program below place datum)
  goes_assigned place datum =
      goes_bind (goes_place place) (λ spot. goes_store program.types (type_of_place place) spot datum)

  pub goes_file_step : (step : FileStep) (file : ℕ) → Goes (run.file_step limit program below step file)
  goes_file_step typed.reset file = goes_reset file
  goes_file_step typed.rewrite file = goes_rewrite file
  goes_file_step typed.get file = goes_change_file file files.get get_keeps
  goes_file_step typed.put file = goes_put file

  pub goes_step_on : (step : FileStep) (file : Slot)
      → Goes (run.on_file file (run.file_step limit program below step))
  goes_step_on step file = goes_on_file file (run.file_step limit program below step) (goes_file_step step)

  pub goes_read_item : (type : PasType) (file : Slot) (place : Place)
      → Goes (run.read_item limit program below type file place)
  goes_read_item type file place =
      goes_bind (goes_value (typed.read (run.buffer_of file type))) (λ datum.
      goes_then (goes_assigned place datum) (goes_step_on typed.get file))

  pub goes_read_items : (type : PasType) (file : Slot) (places : List Place)
      → Goes (run.read_items limit program below type file places)
  goes_read_items type file [] = goes_pure tt
  goes_read_items type file (place ∷ places) =
      goes_then (goes_read_item type file place) (goes_read_items type file places)

  pub goes_width : (width : ℕ) (given : Option Value) → Goes (run.width_or limit program below width given)
  goes_width width None = goes_pure (pos width)
  goes_width width (Some given) = goes_operand_alone number_of (goes_value given)

  pub goes_field : (file : Slot) (bytes_for : ℕ → List ℕ) (width : ℤ)
      → Goes (run.write_field limit program below file bytes_for width)
  goes_field file bytes_for width =
      goes_on_file file _ (λ number. goes_append number (files.written bytes_for width))

  pub goes_item : (file : Slot) (item : Item) → Goes (run.write_item limit program below file item)
  goes_item file (typed.number_item item given) =
      goes_operand number_of (goes_value item) (λ found. goes_bind (goes_width 1 given)
      (λ width. goes_field file (λ field. files.number_in_field field found) width))
  goes_item file (typed.char_item item given) =
      goes_operand (byte_of OUT_OF_RANGE) (goes_value item) (λ found. goes_bind (goes_width 1 given)
      (λ width. goes_field file (λ field. files.char_in_field field found) width))
  goes_item file (typed.string_item bytes given) =
      goes_bind (goes_width (length bytes) given)
      (λ width. goes_field file (λ field. files.string_in_field field bytes) width)

  pub goes_items : (file : Slot) (items : List Item) → Goes (run.write_items limit program below file items)
  goes_items file [] = goes_pure tt
  goes_items file (item ∷ items) = goes_then (goes_item file item) (goes_items file items)

  pub goes_byte : (type : PasType) (file : Slot) (item : Value)
      → Goes (run.write_byte limit program below type file item)
  goes_byte type file item =
      goes_bind (goes_value item) (λ datum.
      goes_then (goes_assigned (run.buffer_of file type) datum) (goes_step_on typed.put file))

  pub goes_bytes : (type : PasType) (file : Slot) (items : List Value)
      → Goes (run.write_bytes limit program below type file items)
  goes_bytes type file [] = goes_pure tt
  goes_bytes type file (item ∷ items) = goes_then (goes_byte type file item) (goes_bytes type file items)

  pub goes_entered : (list : Statements) (entry : ℕ → Entry) (around : Statement) (label : ℕ)
      → Goes (run.entered limit program below list entry around label)
  goes_entered list entry around label =
      goes_if (run.has_label list label) (goes_then goes_step (goes_below (entry label) around)) (goes_pure _)

  pub goes_behind_list : (list : Statements) (around : Statement) (flow : Flow)
      → Goes (run.behind_list limit program below list around flow)
  goes_behind_list list around run.next = goes_pure run.next
  goes_behind_list list around run.leaves = goes_pure run.leaves
  goes_behind_list list around (run.jump label) = goes_entered list run.at around label

  pub goes_looped : (list : Statements) (entry : ℕ → Entry) (turning : Entry) (loop : Statement) (flow : Flow)
      → Goes (run.looped limit program below list entry turning loop flow)
  goes_looped list entry turning loop run.next = goes_then goes_step (goes_below turning loop)
  goes_looped list entry turning loop run.leaves = goes_pure run.next
  goes_looped list entry turning loop (run.jump label) = goes_entered list entry loop label

  pub goes_while_turn : (test : Value) {list : Doing Store Flow} → Goes list
      → Goes (run.while_turn limit program below test list)
  goes_while_turn test list =
      goes_operand truth_of (goes_value test) (λ found. goes_if found list (goes_pure run.leaves))

  pub goes_until : (test : Value) → Goes (run.until limit program below test)
  goes_until test =
      goes_operand truth_of (goes_value test)
      (λ found. goes_if found (goes_pure run.leaves) (goes_pure run.next))

  pub goes_repeat_turn : (test : Value) {list : Doing Store Flow} → Goes list
      → Goes (run.repeat_turn limit program below test list)
  goes_repeat_turn test list = goes_bind list (λ flow. goes_on flow (goes_until test))

  pub goes_next_stored : (slot : Slot) (way : Way) (found : ℤ)
      → Goes (run.next_value_stored limit program below slot way found)
  goes_next_stored slot way found =
      goes_bind (goes_answered (within_maxint (run.next_value way found))) (λ following.
      goes_then (goes_store program.types slot.type (run.part slot []) (holds following)) (goes_pure run.next))

  pub goes_counted : (slot : Slot) (way : Way) (last : ℤ) → Goes (run.counted limit program below slot way last)
  goes_counted slot way last =
      goes_bind (goes_ask (λ found world. store.number_at (store.home_of slot found) found)) (λ found.
      goes_if (is_same found last) (goes_pure run.leaves) (goes_next_stored slot way found))

  pub goes_for_turn : (slot : Slot) (way : Way) (last : ℤ) {list : Doing Store Flow} → Goes list
      → Goes (run.for_turn limit program below slot way last list)
  goes_for_turn slot way last list = goes_bind list (λ flow. goes_on flow (goes_counted slot way last))

  pub goes_forget : (slot : Slot) → Goes (change (run.forget slot) >> pure run.next)
  goes_forget slot = goes_then (goes_change (run.forget slot)) (goes_pure run.next)

  pub goes_for : (slot : Slot) (way : Way) (first last : ℤ) (turns : Doing Store Flow) → Goes turns
      → Goes (run.for_from limit program below slot way first last turns)
  goes_for slot way first last turns goes =
      goes_if (run.is_past way first last) (goes_forget slot)
      (goes_bind (goes_answered (store.fits program.types slot.type (holds first))) (λ low.
      goes_bind (goes_answered (store.fits program.types slot.type (holds last))) (λ high.
      goes_then (goes_change (λ found. store.stored (store.home_of slot found) low found))
      (goes_bind goes (λ flow. goes_on flow (goes_forget slot))))))

  pub goes_reads : (type : PasType) (file : Slot) (places : List Place)
      → Goes (run.read_items limit program below type file places >> pure run.next)
  goes_reads type file places = goes_then (goes_read_items type file places) (goes_pure run.next)

  -- a `for` from its begin, by what its list does
  goes_for_start : (slot : Slot) (way : Way) (first last : Value) (list : Statements)
      → Goes (run.items limit program below None list)
      → Goes (run.statement limit program below run.start (typed.for slot way first last list))
  goes_for_start slot way first last list goes =
      goes_operand number_of (goes_value first) (λ low. goes_operand number_of (goes_value last) (λ high.
      goes_for slot way low high _ (goes_then goes_step (goes_bind (goes_for_turn slot way high goes)
      (goes_looped list (run.turn_at high) (run.turn high) (typed.for slot way first last list))))))

  mutual
    pub goes_statement : (from : Entry) (s : Statement) → Goes (run.statement limit program below from s)
    goes_statement from typed.empty = goes_pure run.next
    goes_statement from (typed.assigns place right) =
        goes_bind (goes_value right) (λ datum. goes_then (goes_assigned place datum) (goes_pure run.next))
    goes_statement from (typed.sets_result cell type right) =
        goes_operand (store.fits program.types type) (goes_value right)
        (λ datum. goes_then (goes_change (run.with_result cell datum)) (goes_pure run.next))
    goes_statement from (typed.calls routine passed) =
        goes_bind (goes_arguments passed) (λ arguments. goes_then (goes_call routine arguments) (goes_pure run.next))
    goes_statement from (typed.compound list) =
        goes_bind (goes_list (run.label_in from) list) (goes_behind_list list (typed.compound list))
    goes_statement from (typed.if_then test s) =
        goes_operand truth_of (goes_value test) (λ found. goes_if found (goes_statement run.start s) (goes_pure _))
    goes_statement from (typed.if_else test s t) =
        goes_operand truth_of (goes_value test)
        (λ found. goes_if found (goes_statement run.start s) (goes_statement run.start t))
    goes_statement from (typed.case selector arms) =
        goes_operand number_of (goes_value selector)
        (λ found. goes_arm found arms (goes_answered (wrong NO_CASE_MATCHES)))
    goes_statement from (typed.case_others selector arms s) =
        goes_operand number_of (goes_value selector) (λ found. goes_arm found arms (goes_statement run.start s))
    goes_statement run.again (typed.while test list) =
        goes_bind (goes_while_turn test (goes_list None list))
        (goes_looped list run.at run.again (typed.while test list))
    goes_statement (run.at label) (typed.while test list) =
        goes_bind (goes_list (Some label) list) (goes_looped list run.at run.again (typed.while test list))
    goes_statement run.start (typed.while test list) =
        goes_then goes_step (goes_bind (goes_while_turn test (goes_list None list))
        (goes_looped list run.at run.again (typed.while test list)))
    goes_statement (run.turn last) (typed.while test list) =
        goes_then goes_step (goes_bind (goes_while_turn test (goes_list None list))
        (goes_looped list run.at run.again (typed.while test list)))
    goes_statement (run.turn_at last label) (typed.while test list) =
        goes_then goes_step (goes_bind (goes_while_turn test (goes_list None list))
        (goes_looped list run.at run.again (typed.while test list)))
    goes_statement run.again (typed.repeat list test) =
        goes_bind (goes_repeat_turn test (goes_list None list))
        (goes_looped list run.at run.again (typed.repeat list test))
    goes_statement (run.at label) (typed.repeat list test) =
        goes_bind (goes_repeat_turn test (goes_list (Some label) list))
        (goes_looped list run.at run.again (typed.repeat list test))
    goes_statement run.start (typed.repeat list test) =
        goes_then goes_step (goes_bind (goes_repeat_turn test (goes_list None list))
        (goes_looped list run.at run.again (typed.repeat list test)))
    goes_statement (run.turn last) (typed.repeat list test) =
        goes_then goes_step (goes_bind (goes_repeat_turn test (goes_list None list))
        (goes_looped list run.at run.again (typed.repeat list test)))
    goes_statement (run.turn_at last label) (typed.repeat list test) =
        goes_then goes_step (goes_bind (goes_repeat_turn test (goes_list None list))
        (goes_looped list run.at run.again (typed.repeat list test)))
    goes_statement (run.turn high) (typed.for slot way first last list) =
        goes_bind (goes_for_turn slot way high (goes_list None list))
        (goes_looped list (run.turn_at high) (run.turn high) (typed.for slot way first last list))
    goes_statement (run.turn_at high label) (typed.for slot way first last list) =
        goes_bind (goes_for_turn slot way high (goes_list (Some label) list))
        (goes_looped list (run.turn_at high) (run.turn high) (typed.for slot way first last list))
    goes_statement run.start (typed.for slot way first last list) =
        goes_for_start slot way first last list (goes_list None list)
    goes_statement run.again (typed.for slot way first last list) =
        goes_for_start slot way first last list (goes_list None list)
    goes_statement (run.at label) (typed.for slot way first last list) =
        goes_for_start slot way first last list (goes_list None list)
    goes_statement from (typed.goto label) = goes_pure _
    goes_statement from (typed.goto_last status) = goes_stop (halted status)
    goes_statement from (typed.file_step step place) =
        goes_file place (λ file. goes_then (goes_step_on step file) (goes_pure run.next))
    goes_statement from (typed.reads place places) =
        goes_file place (λ file. goes_reads (run.components_of program.types place) file places)
    goes_statement from (typed.reads_line place places) =
        goes_file place (λ file. goes_then (goes_read_items (run.components_of program.types place) file places)
        (goes_then (goes_on_file file _ (λ number. goes_change_file number files.readln readln_keeps))
        (goes_pure run.next)))
    goes_statement from (typed.writes place written) =
        goes_file place (λ file. goes_then (goes_items file written) (goes_pure run.next))
    goes_statement from (typed.writes_line place written) =
        goes_file place (λ file. goes_then (goes_items file written)
        (goes_then (goes_on_file file _ (λ number. goes_append number files.writeln)) (goes_pure run.next)))
    goes_statement from (typed.writes_bytes place written) =
        goes_file place (λ file. goes_then (goes_bytes (run.components_of program.types place) file written)
        (goes_pure run.next))
    goes_statement from (typed.halts status) =
        goes_operand (byte_of STATUS_OUT_OF_RANGE) (goes_value status) (λ found. goes_stop (halted found))

    pub goes_list : (from : Option ℕ) (list : Statements) → Goes (run.items limit program below from list)
    goes_list None typed.no_statements = goes_pure run.next
    goes_list (Some wanted) typed.no_statements = goes_pure run.next
    goes_list None (typed.item label s list) =
        goes_bind (goes_statement run.start s) (λ flow. goes_on flow (goes_list None list))
    goes_list (Some wanted) (typed.item label s list) =
        goes_if (run.has label wanted)
        (goes_bind (goes_statement run.start s) (λ flow. goes_on flow (goes_list None list)))
        (goes_list (Some wanted) list)

    pub goes_arm : (found : ℤ) (arms : Arms) {otherwise : Doing Store Flow} → Goes otherwise
        → Goes (run.arm limit program below found arms otherwise)
    goes_arm found typed.no_arms otherwise = otherwise
    goes_arm found (typed.arm values s arms) otherwise =
        goes_if (list_any (is_same found) values) (goes_statement run.start s) (goes_arm found arms otherwise)

-- within each bound
pub goes_within : (limit : Option ℕ) (program : TypedProgram) (bound : ℕ) (from : Entry) (s : Statement)
    → Goes (run.within limit program bound from s)
goes_within limit program zero from s = record { each = λ now. onward_same now.world }
goes_within limit program (suc bound) from s = record {
  each = (goes_statement limit program (run.within limit program bound) (goes_within limit program bound) from s).each;
}
