-- A trial is the run where it is not too deep: the limit on active calls changes nothing else.
use Rattle.std.proofs.Common.{ℕ, zero, suc, List, [], ◌∷◌, Option, Some, None, Bool, true, false}
use Rattle.std.specs.Prelude.{ℤ, if◌then◌else◌, length}
use Rattle.std.specs.List.{list_any}
use Rattle.pas_syntax.specs.declared.operators.Multiplying.TheVariants as multiplying
use Rattle.pas_syntax.specs.declared.operators.Adding.TheVariants as adding
use Rattle.pas_syntax.specs.declared.operators.Way.{Way}
use Rattle.pas_typed.specs.Types.{PasType, whole, boolean}
use Rattle.pas_typed.specs.Typed as typed
use Rattle.pas_typed.specs.Typed.{FileStep, Slot, Value, Place, Passed, Item, Statement, Statements, Arms, Body}
use Rattle.pas_typed.specs.Typed.{TypedProgram}
use Rattle.pas_meaning.specs.declared.errors.TheConstants.{OUT_OF_RANGE, STATUS_OUT_OF_RANGE}
use Rattle.pas_meaning.specs.Answers.{Answer}
use Rattle.pas_meaning.specs.Outcome.{World, Outcome, gives, ends, errs, too_deep, Doing, pure, and_then, ◌>>=◌}
use Rattle.pas_meaning.specs.Outcome.{◌>>◌, answered, change, led, passes, stops, take_step, is_full, begin_call}
use Rattle.pas_meaning.specs.Store as store
use Rattle.pas_meaning.specs.Store.{Datum, Store, holds, number_of}
use Rattle.pas_meaning.specs.Arithmetic.{is_same}
use Rattle.pas_meaning.specs.Operands.{operand, element, byte_of, truth_of}
use Rattle.pas_meaning.specs.Run as run
use Rattle.pas_meaning.specs.Run.{Flow, Entry, Doings, Argument}
use Rattle.pas_meaning.specs.Laws.{DeepOr, deep, same, AsRun}

pub as_self : {S A : Type 0} (doing : Doing S A) → AsRun doing doing
as_self doing = record { each = λ now. same }

after_as : {S A B : Type 0} (outcome other : Outcome S A) (next next' : A → Doing S B) → DeepOr other outcome
    → ((value : A) → AsRun (next value) (next' value)) → DeepOr (and_then other next') (and_then outcome next)
after_as _ other next next' (deep world) later = deep world
after_as (gives value now) _ next next' same later = (later value).each now
after_as (ends end world) _ next next' same later = same
after_as (errs kind world) _ next next' same later = same

pub as_bind : {S A B : Type 0} {first first' : Doing S A} {next next' : A → Doing S B} → AsRun first first'
    → ((value : A) → AsRun (next value) (next' value)) → AsRun (first >>= next) (first' >>= next')
as_bind {first = first} {first' = first'} {next = next} {next' = next'} early later = record {
  each = λ now. after_as (first now) (first' now) next next' (early.each now) later;
}

pub as_then : {S A B : Type 0} {first first' : Doing S A} {next next' : Doing S B} → AsRun first first'
    → AsRun next next'
    → AsRun (first >> next) (first' >> next')
as_then {first = first} {first' = first'} {next = next} {next' = next'} early later = record {
  each = λ now. after_as (first now) (first' now) (λ _. next) (λ _. next') (early.each now) (λ _. later);
}

as_behind : {S A B : Type 0} (first : Doing S A) {next next' : A → Doing S B}
    → ((value : A) → AsRun (next value) (next' value)) → AsRun (first >>= next) (first >>= next')
as_behind first later = as_bind (as_self first) later

as_if : {S A : Type 0} {one one' other other' : Doing S A} (test : Bool) → AsRun one one' → AsRun other other'
    → AsRun (if test then one else other) (if test then one' else other')
as_if true one other = one
as_if false one other = other

as_on : (flow : Flow) {rest rest' : Doing Store Flow} → AsRun rest rest'
    → AsRun (run.go_on flow rest) (run.go_on flow rest')
as_on run.next rest = rest
as_on run.leaves rest = as_self _
as_on (run.jump label) rest = as_self _

-- the limit on active calls is met, or not
begins : {S : Type 0} (full : Bool) (found : S) (before world : World)
    → DeepOr {S = S} {A = Unit {0}} (gives tt (record { store = found; world = world }))
    (led {S = S} {A = Unit {0}} found before (if full then stops too_deep else passes tt world))
begins true found before world = deep before
begins false found before world = same

as_begin : {S : Type 0} (count : ℕ) → AsRun {S = S} (begin_call (Some count)) (begin_call None)
as_begin count = record { each = λ now. begins (is_full (Some count) now.world.calls) now.store now.world _ }

as_operand_alone : {A : Type 0} (check : Datum → Answer A) {doing doing' : Doing Store Datum} → AsRun doing doing'
    → AsRun (operand check doing) (operand check doing')
as_operand_alone check doing = as_bind doing (λ datum. as_self _)

-- what is done with an operand behind its check
as_operand : {A B : Type 0} (check : Datum → Answer A) {doing doing' : Doing Store Datum}
    {next next' : A → Doing Store B} → AsRun doing doing' → ((found : A) → AsRun (next found) (next' found))
    → AsRun (operand check doing >>= next) (operand check doing' >>= next')
as_operand check doing later = as_bind (as_operand_alone check doing) later

module _ (count : ℕ) (program : TypedProgram) (b b' : Doings)
    (as_below : (from : Entry) (s : Statement) → AsRun (b from s) (b' from s)) where
  as_body : (body : Option Body) (arguments : List Argument)
      → AsRun (run.body_run (Some count) program b body arguments) (run.body_run None program b' body arguments)
  as_body None arguments = as_self _
  as_body (Some body) arguments =
      as_then (as_self (change (λ before. store.opened (run.cells_for program body arguments before) before)))
      (as_bind (as_below run.start (typed.compound body.statements)) (λ flow. as_self _))

  as_call : (routine : ℕ) (arguments : List Argument)
      → AsRun (run.call (Some count) program b routine arguments) (run.call None program b' routine arguments)
  as_call routine arguments =
      as_then (as_self take_step) (as_then (as_begin count) (as_body (run.body_of program routine) arguments))

  mutual
    pub as_value : (found : Value) → AsRun (run.value (Some count) program b found) (run.value None program b' found)
    as_value (typed.constant base number) = as_self _
    as_value (typed.read place) =
        as_bind (as_place place) (λ spot. as_self _)
    as_value (typed.call routine type passed) =
        as_bind (as_arguments passed) (λ arguments.
        as_bind (as_call routine arguments)
        (λ result. as_self _))
    as_value (typed.applied function argument) =
        as_operand number_of (as_value argument) (λ found. as_self _)
    as_value (typed.tested test place) = as_self _
    as_value (typed.parenthesized inner) = as_value inner
    as_value (typed.signed sign argument) =
        as_operand number_of (as_value argument) (λ found. as_self _)
    as_value (typed.negated argument) =
        as_operand truth_of (as_value argument) (λ found. as_self _)
    as_value (typed.product left multiplying.And right) =
        as_operand truth_of (as_value left) (λ first.
        as_if first (as_operand_alone (store.fits program.types (whole boolean)) (as_value right)) (as_self _))
    as_value (typed.product left multiplying.Times right) =
        as_operand number_of (as_value left) (λ first.
        as_operand number_of (as_value right) (λ second. as_self _))
    as_value (typed.product left multiplying.Div right) =
        as_operand number_of (as_value left) (λ first.
        as_operand number_of (as_value right) (λ second. as_self _))
    as_value (typed.product left multiplying.Mod right) =
        as_operand number_of (as_value left) (λ first.
        as_operand number_of (as_value right) (λ second. as_self _))
    as_value (typed.addition left adding.Or right) =
        as_operand truth_of (as_value left) (λ first.
        as_if first (as_self _) (as_operand_alone (store.fits program.types (whole boolean)) (as_value right)))
    as_value (typed.addition left adding.Plus right) =
        as_operand number_of (as_value left) (λ first.
        as_operand number_of (as_value right) (λ second. as_self _))
    as_value (typed.addition left adding.Minus right) =
        as_operand number_of (as_value left) (λ first.
        as_operand number_of (as_value right) (λ second. as_self _))
    as_value (typed.comparison left relation right) =
        as_operand number_of (as_value left) (λ first.
        as_operand number_of (as_value right) (λ second. as_self _))

    pub as_place : (place : Place)
        → AsRun (run.spot_at (Some count) program b place) (run.spot_at None program b' place)
    as_place (typed.slot slot) = as_self _
    as_place (typed.element place range type index) =
        as_bind (as_place place) (λ spot.
        as_operand (element range) (as_value index) (λ number. as_self _))
    as_place (typed.field place field type) =
        as_bind (as_place place) (λ spot. as_self _)
    as_place (typed.buffer place type) = as_self _

    pub as_arguments : (passed : Passed)
        → AsRun (run.arguments_of (Some count) program b passed) (run.arguments_of None program b' passed)
    as_arguments typed.nothing = as_self _
    as_arguments (typed.value type argument others) =
        as_operand (store.fits program.types type) (as_value argument) (λ datum.
        as_bind (as_arguments others) (λ arguments. as_self _))
    as_arguments (typed.reference place others) =
        as_bind (as_place place) (λ spot.
        as_bind (as_arguments others) (λ arguments. as_self _))

  -- what is done with the variable that a file is
  as_file : {A : Type 0} (place : Place) {next next' : Slot → Doing Store A}
      → ((file : Slot) → AsRun (next file) (next' file))
      → AsRun (answered (run.file_variable place) >>= next) (answered (run.file_variable place) >>= next')
  as_file place later = as_behind (answered (run.file_variable place)) later

  as_assigned : (place : Place) (datum : Datum)
      → AsRun (run.assigned (Some count) program b place datum) (run.assigned None program b' place datum)
  as_assigned place datum = as_bind (as_place place) (λ spot. as_self _)

  as_step_on : (step : FileStep) (file : Slot)
      → AsRun (run.on_file file (run.file_step (Some count) program b step))
      (run.on_file file (run.file_step None program b' step))
  as_step_on typed.reset file = as_self _
  as_step_on typed.rewrite file = as_self _
  as_step_on typed.get file = as_self _
  as_step_on typed.put file = as_self _

  as_read_item : (type : PasType) (file : Slot) (place : Place)
      → AsRun (run.read_item (Some count) program b type file place) (run.read_item None program b' type file place)
  as_read_item type file place =
      as_bind (as_value (typed.read (run.buffer_of file type))) (λ datum.
      as_then (as_assigned place datum) (as_step_on typed.get file))

  as_read_items : (type : PasType) (file : Slot) (places : List Place)
      → AsRun (run.read_items (Some count) program b type file places) (run.read_items None program b' type file places)
  as_read_items type file [] = as_self _
  as_read_items type file (place ∷ places) =
      as_then (as_read_item type file place)
      (as_read_items type file places)

  as_width : (width : ℕ) (given : Option Value)
      → AsRun (run.width_or (Some count) program b width given) (run.width_or None program b' width given)
  as_width width None = as_self _
  as_width width (Some given) = as_operand_alone number_of (as_value given)

  as_item : (file : Slot) (item : Item)
      → AsRun (run.write_item (Some count) program b file item) (run.write_item None program b' file item)
  as_item file (typed.number_item item given) =
      as_operand number_of (as_value item) (λ found. as_bind (as_width 1 given) (λ width. as_self _))
  as_item file (typed.char_item item given) =
      as_operand (byte_of OUT_OF_RANGE) (as_value item) (λ found. as_bind (as_width 1 given) (λ width. as_self _))
  as_item file (typed.string_item bytes given) = as_bind (as_width (length bytes) given) (λ width. as_self _)

  as_items : (file : Slot) (items : List Item)
      → AsRun (run.write_items (Some count) program b file items) (run.write_items None program b' file items)
  as_items file [] = as_self _
  as_items file (item ∷ items) =
      as_then (as_item file item) (as_items file items)

  as_byte : (type : PasType) (file : Slot) (item : Value)
      → AsRun (run.write_byte (Some count) program b type file item) (run.write_byte None program b' type file item)
  as_byte type file item =
      as_bind (as_value item) (λ datum.
      as_then (as_assigned (run.buffer_of file type) datum) (as_step_on typed.put file))

  as_bytes : (type : PasType) (file : Slot) (items : List Value)
      → AsRun (run.write_bytes (Some count) program b type file items) (run.write_bytes None program b' type file items)
  as_bytes type file [] = as_self _
  as_bytes type file (item ∷ items) =
      as_then (as_byte type file item)
      (as_bytes type file items)

  as_again : (entry : Entry) (s : Statement) → AsRun (take_step >> b entry s) (take_step >> b' entry s)
  as_again entry s = as_then (as_self take_step) (as_below entry s)

  as_entered : (list : Statements) (entry : ℕ → Entry) (around : Statement) (label : ℕ)
      → AsRun (run.entered (Some count) program b list entry around label)
      (run.entered None program b' list entry around label)
  as_entered list entry around label =
      as_if (run.has_label list label) (as_again (entry label) around) (as_self _)

  as_behind_list : (list : Statements) (around : Statement) (flow : Flow)
      → AsRun (run.behind_list (Some count) program b list around flow)
      (run.behind_list None program b' list around flow)
  as_behind_list list around run.next = as_self _
  as_behind_list list around run.leaves = as_self _
  as_behind_list list around (run.jump label) = as_entered list run.at around label

  as_looped : (list : Statements) (entry : ℕ → Entry) (turning : Entry) (loop : Statement) (flow : Flow)
      → AsRun (run.looped (Some count) program b list entry turning loop flow)
      (run.looped None program b' list entry turning loop flow)
  as_looped list entry turning loop run.next = as_again turning loop
  as_looped list entry turning loop run.leaves = as_self _
  as_looped list entry turning loop (run.jump label) = as_entered list entry loop label

  as_while_turn : (test : Value) {list list' : Doing Store Flow} → AsRun list list'
      → AsRun (run.while_turn (Some count) program b test list) (run.while_turn None program b' test list')
  as_while_turn test list =
      as_operand truth_of (as_value test) (λ found. as_if found list (as_self _))

  as_until : (test : Value) → AsRun (run.until (Some count) program b test) (run.until None program b' test)
  as_until test =
      as_operand truth_of (as_value test) (λ found. as_self _)

  as_repeat_turn : (test : Value) {list list' : Doing Store Flow} → AsRun list list'
      → AsRun (run.repeat_turn (Some count) program b test list) (run.repeat_turn None program b' test list')
  as_repeat_turn test list = as_bind list (λ flow. as_on flow (as_until test))

  as_counted : (slot : Slot) (way : Way) (last : ℤ)
      → AsRun (run.counted (Some count) program b slot way last) (run.counted None program b' slot way last)
  as_counted slot way last = as_self _

  as_for_turn : (slot : Slot) (way : Way) (last : ℤ) {list list' : Doing Store Flow} → AsRun list list'
      → AsRun (run.for_turn (Some count) program b slot way last list)
      (run.for_turn None program b' slot way last list')
  as_for_turn slot way last list = as_bind list (λ flow. as_on flow (as_counted slot way last))

  as_for : (slot : Slot) (way : Way) (first last : ℤ) (turns turns' : Doing Store Flow) → AsRun turns turns'
      → AsRun (run.for_from (Some count) program b slot way first last turns)
      (run.for_from None program b' slot way first last turns')
  as_for slot way first last turns turns' both =
      as_if (run.is_past way first last) (as_self _)
      (as_behind (answered (store.fits program.types slot.type (holds first))) (λ low.
      as_behind (answered (store.fits program.types slot.type (holds last))) (λ high.
      as_then (as_self (change (λ found. store.stored (store.home_of slot found) low found)))
      (as_bind both (λ flow. as_self _)))))

  as_first : {A : Type 0} {next next' : Doing Store A} → AsRun next next'
      → AsRun (take_step >> next) (take_step >> next')
  as_first later = as_then (as_self take_step) later

  as_for_start : (slot : Slot) (way : Way) (first last : Value) (list : Statements)
      → AsRun (run.items (Some count) program b None list) (run.items None program b' None list)
      → AsRun (run.statement (Some count) program b run.start (typed.for slot way first last list))
      (run.statement None program b' run.start (typed.for slot way first last list))
  as_for_start slot way first last list body =
      as_operand number_of (as_value first) (λ low.
      as_operand number_of (as_value last) (λ high.
      as_for slot way low high _ _
      (as_first (as_bind
      (as_for_turn slot way high body)
      (as_looped list (run.turn_at high) (run.turn high) (typed.for slot way first last list))))))

  mutual
    pub as_statement : (from : Entry) (s : Statement)
        → AsRun (run.statement (Some count) program b from s) (run.statement None program b' from s)
    as_statement from typed.empty = as_self _
    as_statement from (typed.assigns place right) =
        as_bind (as_value right) (λ datum. as_then (as_assigned place datum) (as_self _))
    as_statement from (typed.sets_result cell type right) =
        as_operand (store.fits program.types type) (as_value right) (λ datum. as_self _)
    as_statement from (typed.calls routine passed) =
        as_bind (as_arguments passed) (λ arguments.
        as_then (as_call routine arguments) (as_self _))
    as_statement from (typed.compound list) =
        as_bind (as_list (run.label_in from) list)
        (as_behind_list list (typed.compound list))
    as_statement from (typed.if_then test s) =
        as_operand truth_of (as_value test)
        (λ found. as_if found (as_statement run.start s) (as_self _))
    as_statement from (typed.if_else test s t) =
        as_operand truth_of (as_value test)
        (λ found. as_if found (as_statement run.start s) (as_statement run.start t))
    as_statement from (typed.case selector arms) =
        as_operand number_of (as_value selector)
        (λ found. as_arm found arms (as_self _))
    as_statement from (typed.case_others selector arms s) =
        as_operand number_of (as_value selector)
        (λ found. as_arm found arms (as_statement run.start s))
    as_statement run.again (typed.while test list) =
        as_bind
        (as_while_turn test (as_list None list)) (as_looped list run.at run.again (typed.while test list))
    as_statement (run.at label) (typed.while test list) =
        as_bind (as_list (Some label) list) (as_looped list run.at run.again (typed.while test list))
    as_statement run.start (typed.while test list) = as_first
        (as_bind
        (as_while_turn test (as_list None list)) (as_looped list run.at run.again (typed.while test list)))
    as_statement (run.turn last) (typed.while test list) = as_first
        (as_bind
        (as_while_turn test (as_list None list)) (as_looped list run.at run.again (typed.while test list)))
    as_statement (run.turn_at last label) (typed.while test list) = as_first
        (as_bind
        (as_while_turn test (as_list None list)) (as_looped list run.at run.again (typed.while test list)))
    as_statement run.again (typed.repeat list test) =
        as_bind
        (as_repeat_turn test (as_list None list)) (as_looped list run.at run.again (typed.repeat list test))
    as_statement (run.at label) (typed.repeat list test) =
        as_bind
        (as_repeat_turn test (as_list (Some label) list)) (as_looped list run.at run.again (typed.repeat list test))
    as_statement run.start (typed.repeat list test) = as_first
        (as_bind
        (as_repeat_turn test (as_list None list)) (as_looped list run.at run.again (typed.repeat list test)))
    as_statement (run.turn last) (typed.repeat list test) = as_first
        (as_bind
        (as_repeat_turn test (as_list None list)) (as_looped list run.at run.again (typed.repeat list test)))
    as_statement (run.turn_at last label) (typed.repeat list test) = as_first
        (as_bind
        (as_repeat_turn test (as_list None list)) (as_looped list run.at run.again (typed.repeat list test)))
    as_statement (run.turn high) (typed.for slot way first last list) =
        as_bind
        (as_for_turn slot way high (as_list None list))
        (as_looped list (run.turn_at high) (run.turn high) (typed.for slot way first last list))
    as_statement (run.turn_at high label) (typed.for slot way first last list) =
        as_bind
        (as_for_turn slot way high (as_list (Some label) list))
        (as_looped list (run.turn_at high) (run.turn high) (typed.for slot way first last list))
    as_statement run.start (typed.for slot way first last list) =
        as_for_start slot way first last list (as_list None list)
    as_statement run.again (typed.for slot way first last list) =
        as_for_start slot way first last list (as_list None list)
    as_statement (run.at label) (typed.for slot way first last list) =
        as_for_start slot way first last list (as_list None list)
    as_statement from (typed.goto label) = as_self _
    as_statement from (typed.goto_last status) = as_self _
    as_statement from (typed.file_step step place) =
        as_file place (λ file. as_then (as_step_on step file) (as_self (pure run.next)))
    as_statement from (typed.reads place places) =
        as_file place (λ file. as_then
        (as_read_items (run.components_of program.types place) file places) (as_self (pure run.next)))
    as_statement from (typed.reads_line place places) =
        as_file place (λ file. as_then
        (as_read_items (run.components_of program.types place) file places) (as_self _))
    as_statement from (typed.writes place written) =
        as_file place (λ file. as_then (as_items file written) (as_self (pure run.next)))
    as_statement from (typed.writes_line place written) =
        as_file place (λ file. as_then (as_items file written) (as_self _))
    as_statement from (typed.writes_bytes place written) =
        as_file place (λ file. as_then
        (as_bytes (run.components_of program.types place) file written) (as_self (pure run.next)))
    as_statement from (typed.halts status) =
        as_operand (byte_of STATUS_OUT_OF_RANGE) (as_value status) (λ found. as_self _)

    pub as_list : (from : Option ℕ) (list : Statements)
        → AsRun (run.items (Some count) program b from list) (run.items None program b' from list)
    as_list None typed.no_statements = as_self _
    as_list (Some wanted) typed.no_statements = as_self _
    as_list None (typed.item label s list) =
        as_bind (as_statement run.start s)
        (λ flow. as_on flow (as_list None list))
    as_list (Some wanted) (typed.item label s list) =
        as_if (run.has label wanted)
        (as_bind (as_statement run.start s)
        (λ flow. as_on flow (as_list None list)))
        (as_list (Some wanted) list)

    pub as_arm : (found : ℤ) (arms : Arms) {otherwise otherwise' : Doing Store Flow} → AsRun otherwise otherwise'
        → AsRun (run.arm (Some count) program b found arms otherwise) (run.arm None program b' found arms otherwise')
    as_arm found typed.no_arms otherwise = otherwise
    as_arm found (typed.arm values s arms) otherwise =
        as_if (list_any (is_same found) values) (as_statement run.start s) (as_arm found arms otherwise)

-- within each bound
pub as_within : (count : ℕ) (program : TypedProgram) (bound : ℕ) (from : Entry) (s : Statement)
    → AsRun (run.within (Some count) program bound from s) (run.within None program bound from s)
as_within count program zero from s = record { each = λ now. same }
as_within count program (suc bound) from s = record {
  each = (as_statement count program (run.within (Some count) program bound) (run.within None program bound)
      (as_within count program bound) from s).each;
}
