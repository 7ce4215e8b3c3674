-- A bound that is large enough changes nothing: bounds that agree for runs of fewer steps make statements that agree.
use Rattle.std.proofs.Common.{◌≡◌, ℕ, zero, suc, ◌≤◌, ◌<◌, List, [], ◌∷◌, Option, Some, None, Bool, true, false}
use Rattle.std.proofs.Common.{arith}
use Rattle.std.proofs.Common.{refl, ap, ◌∙◌}
use Rattle.std.specs.Prelude.{ℤ, if◌then◌else◌, length}
use Rattle.std.specs.List.{list_any}
use Rattle.pas_syntax.specs.declared.operators.Multiplying.TheVariants as multiplying
use Rattle.pas_syntax.specs.declared.operators.Adding.TheVariants as adding
use Rattle.pas_syntax.specs.declared.operators.Way.{Way}
use Rattle.pas_typed.specs.Types.{PasType, whole, boolean}
use Rattle.pas_typed.specs.Typed as typed
use Rattle.pas_typed.specs.Typed.{FileStep, Slot, Value, Place, Passed, Item, Statement, Statements, Arms, Body}
use Rattle.pas_typed.specs.Typed.{TypedProgram}
use Rattle.pas_meaning.specs.declared.errors.TheConstants.{OUT_OF_RANGE, STATUS_OUT_OF_RANGE}
use Rattle.pas_meaning.specs.Answers.{Answer}
use Rattle.pas_meaning.specs.Outcome.{Run, Outcome, gives, ends, errs, Doing, pure, and_then, ◌>>=◌, ◌>>◌, answered}
use Rattle.pas_meaning.specs.Outcome.{led, stepped, take_step}
use Rattle.pas_meaning.specs.Store as store
use Rattle.pas_meaning.specs.Store.{Datum, Store, holds, number_of}
use Rattle.pas_meaning.specs.Arithmetic.{is_same}
use Rattle.pas_meaning.specs.Operands.{operand, element, byte_of, truth_of}
use Rattle.pas_meaning.specs.Run as run
use Rattle.pas_meaning.specs.Run.{Flow, Entry, Doings, Argument}
use Rattle.pas_meaning.specs.Laws.{world_of, Goes, Same}
use Rattle.pas_meaning.proofs.OnwardLemmas.{goes_change, goes_begin, goes_answered}
use Rattle.pas_meaning.proofs.OnwardLemmas.{goes_then, goes_step, goes_bind}
use Rattle.pas_meaning.proofs.GoesLemmas as goes

same_self : {S A : Type 0} (n : ℕ) (doing : Doing S A) → Same n doing doing
same_self n doing = record { each = λ now few. refl }

after_same : {S A B : Type 0} (n : ℕ) (outcome : Outcome S A) (next other : A → Doing S B)
    → (world_of outcome).steps ≤ n → ((value : A) → Same n (next value) (other value))
    → and_then outcome next ≡ and_then outcome other
after_same n (gives value now) next other few same = (same value).each now few
after_same n (ends end world) next other few same = refl
after_same n (errs kind world) next other few same = refl

same_bind : {S A B : Type 0} {n : ℕ} {first first' : Doing S A} {next next' : A → Doing S B} → Goes first
    → Same n first first' → ((value : A) → Same n (next value) (next' value))
    → Same n (first >>= next) (first' >>= next')
same_bind {n = n} {first = first} {next = next} {next' = next'} on same later = record {
  each = λ now few.
      after_same n (first now) next next' (omega (arith, (on.each now).steps, few)) later
      ∙ ap (λ outcome. and_then outcome next') (same.each now few);
}

same_then : {S A B : Type 0} {n : ℕ} {first first' : Doing S A} {next next' : Doing S B} → Goes first
    → Same n first first' → Same n next next' → Same n (first >> next) (first' >> next')
same_then {n = n} {first = first} {next = next} {next' = next'} on same later = record {
  each = λ now few.
      after_same n (first now) (λ _. next) (λ _. next') (omega (arith, (on.each now).steps, few)) (λ _. later)
      ∙ ap (λ outcome. and_then outcome (λ _. next')) (same.each now few);
}

-- what comes first is the same
same_behind : {S A B : Type 0} {n : ℕ} {first : Doing S A} {next next' : A → Doing S B} → Goes first
    → ((value : A) → Same n (next value) (next' value)) → Same n (first >>= next) (first >>= next')
same_behind {n = n} {first = first} on later = same_bind on (same_self n first) later

same_if : {S A : Type 0} {n : ℕ} {one one' other other' : Doing S A} (test : Bool) → Same n one one'
    → Same n other other' → Same n (if test then one else other) (if test then one' else other')
same_if true one other = one
same_if false one other = other

same_on : {n : ℕ} (flow : Flow) {rest rest' : Doing Store Flow} → Same n rest rest'
    → Same n (run.go_on flow rest) (run.go_on flow rest')
same_on run.next rest = rest
same_on {n = n} run.leaves rest = same_self n _
same_on {n = n} (run.jump label) rest = same_self n _

same_less : {S A : Type 0} {n : ℕ} {doing doing' : Doing S A} (fewer : ℕ) → fewer ≤ n → Same n doing doing'
    → Same fewer doing doing'
same_less fewer less same = record { each = λ now few. same.each now (omega (arith, less, few)) }

-- a step is taken: fewer are left behind it
step_same : {S B : Type 0} (n left : ℕ) (now : Run S) (next next' : Doing S B) → left ≡ now.world.steps
    → now.world.steps ≤ n → ((fewer : ℕ) → fewer < n → Same fewer next next')
    → and_then (led now.store now.world (stepped left now.world)) (λ _. next)
    ≡ and_then (led now.store now.world (stepped left now.world)) (λ _. next')
step_same n zero now next next' is few same = refl
step_same n (suc left) now next next' is few same = (same left (omega (arith, is, few))).each _ (omega arith)

same_step : {S B : Type 0} {n : ℕ} {next next' : Doing S B} → ((fewer : ℕ) → fewer < n → Same fewer next next')
    → Same n (take_step >> next) (take_step >> next')
same_step {n = n} {next = next} {next' = next'} same = record {
  each = λ now few. step_same n now.world.steps now next next' refl few same;
}

same_operand_alone : {A : Type 0} {n : ℕ} (check : Datum → Answer A) {doing doing' : Doing Store Datum} → Goes doing
    → Same n doing doing' → Same n (operand check doing) (operand check doing')
same_operand_alone {n = n} check on same = same_bind on same (λ datum. same_self n _)

-- what is done with an operand behind its check
same_operand : {A B : Type 0} {n : ℕ} (check : Datum → Answer A) {doing doing' : Doing Store Datum}
    {next next' : A → Doing Store B} → Goes doing → Same n doing doing'
    → ((found : A) → Same n (next found) (next' found))
    → Same n (operand check doing >>= next) (operand check doing' >>= next')
same_operand check on same later =
    same_bind (goes.goes_operand_alone check on) (same_operand_alone check on same) later

module _ (limit : Option ℕ) (program : TypedProgram) (b b' : Doings)
    (on : (from : Entry) (s : Statement) → Goes (b from s))
    (n : ℕ) (same : (fewer : ℕ) (from : Entry) (s : Statement) → fewer < n → Same fewer (b from s) (b' from s)) where
  same_body : (fewer : ℕ) → fewer < n → (body : Option Body) (arguments : List Argument)
      → Same fewer (run.body_run limit program b body arguments) (run.body_run limit program b' body arguments)
  same_body fewer less None arguments = same_self fewer _
  same_body fewer less (Some body) arguments =
      same_then (goes_change (λ before. store.opened (run.cells_for program body arguments before) before))
      (same_self fewer _) (same_bind (on run.start (typed.compound body.statements))
      (same fewer run.start (typed.compound body.statements) less) (λ flow. same_self fewer _))

  same_call : (routine : ℕ) (arguments : List Argument)
      → Same n (run.call limit program b routine arguments) (run.call limit program b' routine arguments)
  same_call routine arguments = same_step (λ fewer less.
      same_then (goes_begin limit) (same_self fewer _) (same_body fewer less (run.body_of program routine) arguments))

  mutual
    pub same_value : (found : Value) → Same n (run.value limit program b found) (run.value limit program b' found)
    same_value (typed.constant base number) = same_self n _
    same_value (typed.read place) =
        same_bind (goes.goes_place limit program b on place) (same_place place) (λ spot. same_self n _)
    same_value (typed.call routine type passed) =
        same_bind (goes.goes_arguments limit program b on passed) (same_arguments passed) (λ arguments.
        same_bind (goes.goes_call limit program b on routine arguments) (same_call routine arguments)
        (λ result. same_self n _))
    same_value (typed.applied function argument) =
        same_operand number_of (goes.goes_value limit program b on argument) (same_value argument)
        (λ found. same_self n _)
    same_value (typed.tested test place) = same_self n _
    same_value (typed.parenthesized inner) = same_value inner
    same_value (typed.signed sign argument) =
        same_operand number_of (goes.goes_value limit program b on argument) (same_value argument)
        (λ found. same_self n _)
    same_value (typed.negated argument) =
        same_operand truth_of (goes.goes_value limit program b on argument) (same_value argument)
        (λ found. same_self n _)
    same_value (typed.product left multiplying.And right) =
        same_operand truth_of (goes.goes_value limit program b on left) (same_value left)
        (λ first. same_if first (same_operand_alone (store.fits program.types (whole boolean))
        (goes.goes_value limit program b on right) (same_value right)) (same_self n _))
    same_value (typed.product left multiplying.Times right) =
        same_operand number_of (goes.goes_value limit program b on left) (same_value left) (λ first.
        same_operand number_of (goes.goes_value limit program b on right) (same_value right)
        (λ second. same_self n _))
    same_value (typed.product left multiplying.Div right) =
        same_operand number_of (goes.goes_value limit program b on left) (same_value left) (λ first.
        same_operand number_of (goes.goes_value limit program b on right) (same_value right)
        (λ second. same_self n _))
    same_value (typed.product left multiplying.Mod right) =
        same_operand number_of (goes.goes_value limit program b on left) (same_value left) (λ first.
        same_operand number_of (goes.goes_value limit program b on right) (same_value right)
        (λ second. same_self n _))
    same_value (typed.addition left adding.Or right) =
        same_operand truth_of (goes.goes_value limit program b on left) (same_value left)
        (λ first. same_if first (same_self n _) (same_operand_alone (store.fits program.types (whole boolean))
        (goes.goes_value limit program b on right) (same_value right)))
    same_value (typed.addition left adding.Plus right) =
        same_operand number_of (goes.goes_value limit program b on left) (same_value left) (λ first.
        same_operand number_of (goes.goes_value limit program b on right) (same_value right)
        (λ second. same_self n _))
    same_value (typed.addition left adding.Minus right) =
        same_operand number_of (goes.goes_value limit program b on left) (same_value left) (λ first.
        same_operand number_of (goes.goes_value limit program b on right) (same_value right)
        (λ second. same_self n _))
    same_value (typed.comparison left relation right) =
        same_operand number_of (goes.goes_value limit program b on left) (same_value left) (λ first.
        same_operand number_of (goes.goes_value limit program b on right) (same_value right)
        (λ second. same_self n _))

    pub same_place : (place : Place)
        → Same n (run.spot_at limit program b place) (run.spot_at limit program b' place)
    same_place (typed.slot slot) = same_self n _
    same_place (typed.element place range type index) =
        same_bind (goes.goes_place limit program b on place) (same_place place) (λ spot.
        same_operand (element range) (goes.goes_value limit program b on index) (same_value index)
        (λ number. same_self n _))
    same_place (typed.field place field type) =
        same_bind (goes.goes_place limit program b on place) (same_place place) (λ spot. same_self n _)
    same_place (typed.buffer place type) = same_self n _

    pub same_arguments : (passed : Passed)
        → Same n (run.arguments_of limit program b passed) (run.arguments_of limit program b' passed)
    same_arguments typed.nothing = same_self n _
    same_arguments (typed.value type argument others) =
        same_operand (store.fits program.types type) (goes.goes_value limit program b on argument) (same_value argument)
        (λ datum. same_bind (goes.goes_arguments limit program b on others) (same_arguments others)
        (λ arguments. same_self n _))
    same_arguments (typed.reference place others) =
        same_bind (goes.goes_place limit program b on place) (same_place place) (λ spot.
        same_bind (goes.goes_arguments limit program b on others) (same_arguments others) (λ arguments. same_self n _))

  -- what is done with the variable that a file is
  same_file : {A : Type 0} (place : Place) {next next' : Slot → Doing Store A}
      → ((file : Slot) → Same n (next file) (next' file))
      → Same n (answered (run.file_variable place) >>= next) (answered (run.file_variable place) >>= next')
  same_file place later = same_behind (goes_answered (run.file_variable place)) later

  same_assigned : (place : Place) (datum : Datum)
      → Same n (run.assigned limit program b place datum) (run.assigned limit program b' place datum)
  same_assigned place datum =
      same_bind (goes.goes_place limit program b on place) (same_place place) (λ spot. same_self n _)

  same_step_on : (step : FileStep) (file : Slot)
      → Same n (run.on_file file (run.file_step limit program b step))
      (run.on_file file (run.file_step limit program b' step))
  same_step_on typed.reset file = same_self n _
  same_step_on typed.rewrite file = same_self n _
  same_step_on typed.get file = same_self n _
  same_step_on typed.put file = same_self n _

  same_read_item : (type : PasType) (file : Slot) (place : Place)
      → Same n (run.read_item limit program b type file place) (run.read_item limit program b' type file place)
  same_read_item type file place =
      same_bind (goes.goes_value limit program b on (typed.read (run.buffer_of file type)))
      (same_value (typed.read (run.buffer_of file type))) (λ datum.
      same_then (goes.goes_assigned limit program b on place datum) (same_assigned place datum)
      (same_step_on typed.get file))

  same_read_items : (type : PasType) (file : Slot) (places : List Place)
      → Same n (run.read_items limit program b type file places) (run.read_items limit program b' type file places)
  same_read_items type file [] = same_self n _
  same_read_items type file (place ∷ places) =
      same_then (goes.goes_read_item limit program b on type file place) (same_read_item type file place)
      (same_read_items type file places)

  same_width : (width : ℕ) (given : Option Value)
      → Same n (run.width_or limit program b width given) (run.width_or limit program b' width given)
  same_width width None = same_self n _
  same_width width (Some given) =
      same_operand_alone number_of (goes.goes_value limit program b on given) (same_value given)

  same_item : (file : Slot) (item : Item)
      → Same n (run.write_item limit program b file item) (run.write_item limit program b' file item)
  same_item file (typed.number_item item given) =
      same_operand number_of (goes.goes_value limit program b on item) (same_value item) (λ found.
      same_bind (goes.goes_width limit program b on 1 given) (same_width 1 given) (λ width. same_self n _))
  same_item file (typed.char_item item given) =
      same_operand (byte_of OUT_OF_RANGE) (goes.goes_value limit program b on item) (same_value item) (λ found.
      same_bind (goes.goes_width limit program b on 1 given) (same_width 1 given) (λ width. same_self n _))
  same_item file (typed.string_item bytes given) =
      same_bind (goes.goes_width limit program b on (length bytes) given) (same_width (length bytes) given)
      (λ width. same_self n _)

  same_items : (file : Slot) (items : List Item)
      → Same n (run.write_items limit program b file items) (run.write_items limit program b' file items)
  same_items file [] = same_self n _
  same_items file (item ∷ items) =
      same_then (goes.goes_item limit program b on file item) (same_item file item) (same_items file items)

  same_byte : (type : PasType) (file : Slot) (item : Value)
      → Same n (run.write_byte limit program b type file item) (run.write_byte limit program b' type file item)
  same_byte type file item =
      same_bind (goes.goes_value limit program b on item) (same_value item) (λ datum.
      same_then (goes.goes_assigned limit program b on (run.buffer_of file type) datum)
      (same_assigned (run.buffer_of file type) datum) (same_step_on typed.put file))

  same_bytes : (type : PasType) (file : Slot) (items : List Value)
      → Same n (run.write_bytes limit program b type file items) (run.write_bytes limit program b' type file items)
  same_bytes type file [] = same_self n _
  same_bytes type file (item ∷ items) =
      same_then (goes.goes_byte limit program b on type file item) (same_byte type file item)
      (same_bytes type file items)

  same_again : (entry : Entry) (s : Statement) → Same n (take_step >> b entry s) (take_step >> b' entry s)
  same_again entry s = same_step (λ fewer less. same fewer entry s less)

  same_entered : (list : Statements) (entry : ℕ → Entry) (around : Statement) (label : ℕ)
      → Same n (run.entered limit program b list entry around label)
      (run.entered limit program b' list entry around label)
  same_entered list entry around label =
      same_if (run.has_label list label) (same_again (entry label) around) (same_self n _)

  same_behind_list : (list : Statements) (around : Statement) (flow : Flow)
      → Same n (run.behind_list limit program b list around flow) (run.behind_list limit program b' list around flow)
  same_behind_list list around run.next = same_self n _
  same_behind_list list around run.leaves = same_self n _
  same_behind_list list around (run.jump label) = same_entered list run.at around label

  same_looped : (list : Statements) (entry : ℕ → Entry) (turning : Entry) (loop : Statement) (flow : Flow)
      → Same n (run.looped limit program b list entry turning loop flow)
      (run.looped limit program b' list entry turning loop flow)
  same_looped list entry turning loop run.next = same_again turning loop
  same_looped list entry turning loop run.leaves = same_self n _
  same_looped list entry turning loop (run.jump label) = same_entered list entry loop label

  same_while_turn : (test : Value) {list list' : Doing Store Flow} → Same n list list'
      → Same n (run.while_turn limit program b test list) (run.while_turn limit program b' test list')
  same_while_turn test list =
      same_operand truth_of (goes.goes_value limit program b on test) (same_value test)
      (λ found. same_if found list (same_self n _))

  same_until : (test : Value) → Same n (run.until limit program b test) (run.until limit program b' test)
  same_until test =
      same_operand truth_of (goes.goes_value limit program b on test) (same_value test) (λ found. same_self n _)

  same_repeat_turn : (test : Value) {list list' : Doing Store Flow} → Goes list → Same n list list'
      → Same n (run.repeat_turn limit program b test list) (run.repeat_turn limit program b' test list')
  same_repeat_turn test on_list list = same_bind on_list list (λ flow. same_on flow (same_until test))

  same_counted : (slot : Slot) (way : Way) (last : ℤ)
      → Same n (run.counted limit program b slot way last) (run.counted limit program b' slot way last)
  same_counted slot way last = same_self n _

  same_for_turn : (slot : Slot) (way : Way) (last : ℤ) {list list' : Doing Store Flow} → Goes list → Same n list list'
      → Same n (run.for_turn limit program b slot way last list) (run.for_turn limit program b' slot way last list')
  same_for_turn slot way last on_list list = same_bind on_list list (λ flow. same_on flow (same_counted slot way last))

  same_for : (slot : Slot) (way : Way) (first last : ℤ) (turns turns' : Doing Store Flow) → Goes turns
      → Same n turns turns'
      → Same n (run.for_from limit program b slot way first last turns)
      (run.for_from limit program b' slot way first last turns')
  same_for slot way first last turns turns' on_turns both =
      same_if (run.is_past way first last) (same_self n _)
      (same_behind (goes_answered (store.fits program.types slot.type (holds first))) (λ low.
      same_behind (goes_answered (store.fits program.types slot.type (holds last))) (λ high.
      same_then (goes_change (λ found. store.stored (store.home_of slot found) low found)) (same_self n _)
      (same_bind on_turns both (λ flow. same_self n _)))))

  same_first : {A : Type 0} {next next' : Doing Store A} → Same n next next'
      → Same n (take_step >> next) (take_step >> next')
  same_first later = same_step (λ fewer less. same_less fewer (omega (arith, less)) later)

  same_for_start : (slot : Slot) (way : Way) (first last : Value) (list : Statements)
      → Same n (run.items limit program b None list) (run.items limit program b' None list)
      → Same n (run.statement limit program b run.start (typed.for slot way first last list))
      (run.statement limit program b' run.start (typed.for slot way first last list))
  same_for_start slot way first last list body =
      same_operand number_of (goes.goes_value limit program b on first) (same_value first) (λ low.
      same_operand number_of (goes.goes_value limit program b on last) (same_value last) (λ high.
      same_for slot way low high _ _
      (goes_then goes_step (goes_bind (goes.goes_for_turn limit program b on slot way high
      (goes.goes_list limit program b on None list))
      (goes.goes_looped limit program b on list (run.turn_at high) (run.turn high)
      (typed.for slot way first last list))))
      (same_first (same_bind (goes.goes_for_turn limit program b on slot way high
      (goes.goes_list limit program b on None list))
      (same_for_turn slot way high (goes.goes_list limit program b on None list) body)
      (same_looped list (run.turn_at high) (run.turn high) (typed.for slot way first last list))))))

  mutual
    pub same_statement : (from : Entry) (s : Statement)
        → Same n (run.statement limit program b from s) (run.statement limit program b' from s)
    same_statement from typed.empty = same_self n _
    same_statement from (typed.assigns place right) =
        same_bind (goes.goes_value limit program b on right) (same_value right) (λ datum.
        same_then (goes.goes_assigned limit program b on place datum) (same_assigned place datum) (same_self n _))
    same_statement from (typed.sets_result cell type right) =
        same_operand (store.fits program.types type) (goes.goes_value limit program b on right) (same_value right)
        (λ datum. same_self n _)
    same_statement from (typed.calls routine passed) =
        same_bind (goes.goes_arguments limit program b on passed) (same_arguments passed) (λ arguments.
        same_then (goes.goes_call limit program b on routine arguments) (same_call routine arguments) (same_self n _))
    same_statement from (typed.compound list) =
        same_bind (goes.goes_list limit program b on (run.label_in from) list) (same_list (run.label_in from) list)
        (same_behind_list list (typed.compound list))
    same_statement from (typed.if_then test s) =
        same_operand truth_of (goes.goes_value limit program b on test) (same_value test)
        (λ found. same_if found (same_statement run.start s) (same_self n _))
    same_statement from (typed.if_else test s t) =
        same_operand truth_of (goes.goes_value limit program b on test) (same_value test)
        (λ found. same_if found (same_statement run.start s) (same_statement run.start t))
    same_statement from (typed.case selector arms) =
        same_operand number_of (goes.goes_value limit program b on selector) (same_value selector)
        (λ found. same_arm found arms (same_self n _))
    same_statement from (typed.case_others selector arms s) =
        same_operand number_of (goes.goes_value limit program b on selector) (same_value selector)
        (λ found. same_arm found arms (same_statement run.start s))
    same_statement run.again (typed.while test list) =
        same_bind (goes.goes_while_turn limit program b on test (goes.goes_list limit program b on None list))
        (same_while_turn test (same_list None list)) (same_looped list run.at run.again (typed.while test list))
    same_statement (run.at label) (typed.while test list) =
        same_bind (goes.goes_list limit program b on (Some label) list) (same_list (Some label) list)
        (same_looped list run.at run.again (typed.while test list))
    same_statement run.start (typed.while test list) = same_first
        (same_bind (goes.goes_while_turn limit program b on test (goes.goes_list limit program b on None list))
        (same_while_turn test (same_list None list)) (same_looped list run.at run.again (typed.while test list)))
    same_statement (run.turn last) (typed.while test list) = same_first
        (same_bind (goes.goes_while_turn limit program b on test (goes.goes_list limit program b on None list))
        (same_while_turn test (same_list None list)) (same_looped list run.at run.again (typed.while test list)))
    same_statement (run.turn_at last label) (typed.while test list) = same_first
        (same_bind (goes.goes_while_turn limit program b on test (goes.goes_list limit program b on None list))
        (same_while_turn test (same_list None list)) (same_looped list run.at run.again (typed.while test list)))
    same_statement run.again (typed.repeat list test) =
        same_bind (goes.goes_repeat_turn limit program b on test (goes.goes_list limit program b on None list))
        (same_repeat_turn test (goes.goes_list limit program b on None list) (same_list None list))
        (same_looped list run.at run.again (typed.repeat list test))
    same_statement (run.at label) (typed.repeat list test) =
        same_bind (goes.goes_repeat_turn limit program b on test (goes.goes_list limit program b on (Some label) list))
        (same_repeat_turn test (goes.goes_list limit program b on (Some label) list) (same_list (Some label) list))
        (same_looped list run.at run.again (typed.repeat list test))
    same_statement run.start (typed.repeat list test) = same_first
        (same_bind (goes.goes_repeat_turn limit program b on test (goes.goes_list limit program b on None list))
        (same_repeat_turn test (goes.goes_list limit program b on None list) (same_list None list))
        (same_looped list run.at run.again (typed.repeat list test)))
    same_statement (run.turn last) (typed.repeat list test) = same_first
        (same_bind (goes.goes_repeat_turn limit program b on test (goes.goes_list limit program b on None list))
        (same_repeat_turn test (goes.goes_list limit program b on None list) (same_list None list))
        (same_looped list run.at run.again (typed.repeat list test)))
    same_statement (run.turn_at last label) (typed.repeat list test) = same_first
        (same_bind (goes.goes_repeat_turn limit program b on test (goes.goes_list limit program b on None list))
        (same_repeat_turn test (goes.goes_list limit program b on None list) (same_list None list))
        (same_looped list run.at run.again (typed.repeat list test)))
    same_statement (run.turn high) (typed.for slot way first last list) =
        same_bind (goes.goes_for_turn limit program b on slot way high (goes.goes_list limit program b on None list))
        (same_for_turn slot way high (goes.goes_list limit program b on None list) (same_list None list))
        (same_looped list (run.turn_at high) (run.turn high) (typed.for slot way first last list))
    same_statement (run.turn_at high label) (typed.for slot way first last list) =
        same_bind (goes.goes_for_turn limit program b on slot way high
        (goes.goes_list limit program b on (Some label) list))
        (same_for_turn slot way high (goes.goes_list limit program b on (Some label) list)
        (same_list (Some label) list))
        (same_looped list (run.turn_at high) (run.turn high) (typed.for slot way first last list))
    same_statement run.start (typed.for slot way first last list) =
        same_for_start slot way first last list (same_list None list)
    same_statement run.again (typed.for slot way first last list) =
        same_for_start slot way first last list (same_list None list)
    same_statement (run.at label) (typed.for slot way first last list) =
        same_for_start slot way first last list (same_list None list)
    same_statement from (typed.goto label) = same_self n _
    same_statement from (typed.goto_last status) = same_self n _
    same_statement from (typed.file_step step place) =
        same_file place (λ file. same_then (goes.goes_step_on limit program b on step file) (same_step_on step file)
        (same_self n (pure run.next)))
    same_statement from (typed.reads place places) =
        same_file place (λ file. same_then
        (goes.goes_read_items limit program b on (run.components_of program.types place) file places)
        (same_read_items (run.components_of program.types place) file places) (same_self n (pure run.next)))
    same_statement from (typed.reads_line place places) =
        same_file place (λ file. same_then
        (goes.goes_read_items limit program b on (run.components_of program.types place) file places)
        (same_read_items (run.components_of program.types place) file places) (same_self n _))
    same_statement from (typed.writes place written) =
        same_file place (λ file. same_then (goes.goes_items limit program b on file written) (same_items file written)
        (same_self n (pure run.next)))
    same_statement from (typed.writes_line place written) =
        same_file place (λ file. same_then (goes.goes_items limit program b on file written) (same_items file written)
        (same_self n _))
    same_statement from (typed.writes_bytes place written) =
        same_file place (λ file. same_then
        (goes.goes_bytes limit program b on (run.components_of program.types place) file written)
        (same_bytes (run.components_of program.types place) file written) (same_self n (pure run.next)))
    same_statement from (typed.halts status) =
        same_operand (byte_of STATUS_OUT_OF_RANGE) (goes.goes_value limit program b on status) (same_value status)
        (λ found. same_self n _)

    pub same_list : (from : Option ℕ) (list : Statements)
        → Same n (run.items limit program b from list) (run.items limit program b' from list)
    same_list None typed.no_statements = same_self n _
    same_list (Some wanted) typed.no_statements = same_self n _
    same_list None (typed.item label s list) =
        same_bind (goes.goes_statement limit program b on run.start s) (same_statement run.start s)
        (λ flow. same_on flow (same_list None list))
    same_list (Some wanted) (typed.item label s list) =
        same_if (run.has label wanted)
        (same_bind (goes.goes_statement limit program b on run.start s) (same_statement run.start s)
        (λ flow. same_on flow (same_list None list)))
        (same_list (Some wanted) list)

    pub same_arm : (found : ℤ) (arms : Arms) {otherwise otherwise' : Doing Store Flow} → Same n otherwise otherwise'
        → Same n (run.arm limit program b found arms otherwise) (run.arm limit program b' found arms otherwise')
    same_arm found typed.no_arms otherwise = otherwise
    same_arm found (typed.arm values s arms) otherwise =
        same_if (list_any (is_same found) values) (same_statement run.start s) (same_arm found arms otherwise)

-- two bounds that are not below the steps left agree
pub same_within : (limit : Option ℕ) (program : TypedProgram) (bound other most : ℕ) (from : Entry) (s : Statement)
    → most ≤ bound → most ≤ other
    → Same most (run.statement limit program (run.within limit program bound) from s)
    (run.statement limit program (run.within limit program other) from s)
same_within limit program zero other most from s few many =
    same_statement limit program (run.within limit program zero) (run.within limit program other)
    (goes.goes_within limit program zero) most (λ fewer entry t less. absurd (omega (arith, few, less))) from s
same_within limit program (suc bound) zero most from s few many =
    same_statement limit program (run.within limit program (suc bound)) (run.within limit program zero)
    (goes.goes_within limit program (suc bound)) most (λ fewer entry t less. absurd (omega (arith, many, less))) from s
same_within limit program (suc bound) (suc other) most from s few many =
    same_statement limit program (run.within limit program (suc bound)) (run.within limit program (suc other))
    (goes.goes_within limit program (suc bound)) most (λ fewer entry t less. record {
      each = (same_within limit program bound other fewer entry t
          (omega (arith, few, less)) (omega (arith, many, less))).each;
    }) from s
