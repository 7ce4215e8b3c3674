-- Loops: their turns, and what tells whether a turn is the last one.
use Rattle.std.proofs.Common.{◌≡◌, ℕ, ℤ, List, [], refl, sym, ap, ◌∙◌, subst, Option, Some, None, Bool, true}
use Rattle.std.proofs.Common.{false}
use Rattle.std.proofs.Common.{Result, Ok, Err}
use Rattle.std.specs.Prelude.{if◌then◌else◌}
use Rattle.wb_ports.specs.PortState.{PortState}
use Rattle.pas_syntax.specs.declared.operators.Way.{Way}
use Rattle.pas_typed.specs.TypedViews.{slot_view, value_view}
use Rattle.pas_typed.specs.Typed.{Slot, Value, Statements, TypedProgram}
use Rattle.pas_typed.specs.Lawful.{IsOrdinal, IsLawful}
use Rattle.pas_typed.proofs.ShapeLemmas.{shape_of-ordinal}
use Rattle.pas_meaning.specs.declared.errors.TheConstants.{CALL_LIMIT}
use Rattle.pas_meaning.specs.Outcome.{Run, Doing, pure, ◌>>=◌, ◌>>◌, answered, ask, change}
use Rattle.pas_meaning.specs.Store.{Datum, holds, Store, home_of, number_at, stored, along, fits}
use Rattle.pas_meaning.specs.Arithmetic.{is_same, within_maxint}
use Rattle.pas_meaning.specs.Run as meaning
use Rattle.pas_meaning.specs.Run.{Flow, within, part, store_at}
use Rattle.pas_meaning.specs.Laws.{Goes}
use Rattle.pas_meaning.specs.Standing.{Kinds}
use Rattle.pas_meaning.proofs.OnwardLemmas.{goes_bind, goes_pure, goes_answered, goes_ask, goes_change, goes_then}
use Rattle.pas_meaning.proofs.OnwardLemmas.{goes_if}
use Rattle.pas_meaning.proofs.GoesLemmas.{goes_on, goes_while_turn, goes_until, goes_repeat_turn, goes_for_turn}
use Rattle.pas_meaning.proofs.GoesLemmas.{goes_counted}
use Rattle.pas_meaning.proofs.GoesLemmas.{goes_next_stored, goes_store, goes_for}
use Rattle.pas_run.specs.declared.loops.Loop.{Loop as CodeLoop}
use Rattle.pas_run.specs.declared.loops.Loop.TheVariants as loops
use Rattle.pas_run.specs.declared.ends.Flow.{Flow as CodeFlow}
use Rattle.pas_run.specs.declared.ends.Flow.TheVariants as flow
use Rattle.pas_run.specs.declared.ends.Stop.{Stop}
use Rattle.pas_run.specs.inner.MachineState.{MachineState, IsRun}
use Rattle.pas_run.specs.inner.Doings.{Any, Same, IsNumber, Does, Answers, stored_at}
use Rattle.pas_run.specs.inner.Scenes.{IsCell}
use Rattle.pas_run.specs.inner.Running.{flow_view, IsFlow, statement_of, looped_of, entry_by, loop_view}
use Rattle.pas_run.specs.inner.Running.{turning, turn_at, turn_of}
use Rattle.pas_run.specs.inner.Running.{until_of, counted_of, next_stored_of, for_from_of, between_of, forgetting}
use Rattle.pas_run.specs.inner.Running.{next_behind}
use Rattle.pas_run.proofs.DoesLemmas.{does_stop, does_next, does_pure, does_answered, does_question}
use Rattle.pas_run.proofs.RunningLemmas.{does_as, goes_below, goes_list_of, go_over, done_next, found_stop, does_behind}
use Rattle.pas_run.proofs.RunningLemmas.{found_next}
use Rattle.pas_run.proofs.PartLemmas.{no_path}

-- a loop is its turn, and what comes behind that
pub loop_from : (program : TypedProgram) (kind : CodeLoop) (list : Statements) (from : Option ℕ) (most : ℕ)
    → statement_of program most (entry_by (turn_at kind) (turning kind) from) (loop_view kind list)
    ≡ turn_of program most kind from list
    >>= looped_of program most list (turn_at kind) (turning kind) (loop_view kind list)
loop_from program (loops.While test) list None most = refl
loop_from program (loops.While test) list (Some label) most = refl
loop_from program (loops.Repeat test) list None most = refl
loop_from program (loops.Repeat test) list (Some label) most = refl
loop_from program (loops.For head last) list None most = refl
loop_from program (loops.For head last) list (Some label) most = refl

module _ (program : TypedProgram) (most : ℕ) where
  pub goes_until_of : (test : Value) → Goes (until_of program most test)
  goes_until_of = goes_until (Some CALL_LIMIT) program (within (Some CALL_LIMIT) program most) (goes_below program most)

  pub goes_counted_of : (slot : Slot) (way : Way) (last : ℤ) → Goes (counted_of program most slot way last)
  goes_counted_of =
      goes_counted (Some CALL_LIMIT) program (within (Some CALL_LIMIT) program most) (goes_below program most)

  pub goes_turn_of : (kind : CodeLoop) (from : Option ℕ) (list : Statements) → Goes
      (turn_of program most kind from list)
  goes_turn_of (loops.While test) None list =
      goes_while_turn (Some CALL_LIMIT) program (within (Some CALL_LIMIT) program most) (goes_below program most)
      (value_view test.now) (goes_list_of program most None list)
  goes_turn_of (loops.While test) (Some label) list = goes_list_of program most (Some label) list
  goes_turn_of (loops.Repeat test) from list =
      goes_repeat_turn (Some CALL_LIMIT) program (within (Some CALL_LIMIT) program most) (goes_below program most)
      (value_view test.now) (goes_list_of program most from list)
  goes_turn_of (loops.For head last) from list =
      goes_for_turn (Some CALL_LIMIT) program (within (Some CALL_LIMIT) program most) (goes_below program most)
      (slot_view head.now.slot) head.now.way last (goes_list_of program most from list)

-- behind something that goes on
module _ (most : ℕ) (kinds : Kinds) (first rest : Doing Store Flow) (goes_rest : Goes rest) (before : MachineState)
  where
    abbrev on : Flow → Doing Store Flow
    on found = meaning.go_on found rest

    pub on_stop : (now : MachineState) (why : Stop)
        → Does {T = CodeFlow} most kinds kinds IsFlow first before now (Err why)
        → Does {T = CodeFlow} most kinds kinds IsFlow (first >>= on) before now (Err why)
    on_stop now why does =
        does_stop {T = CodeFlow} most kinds kinds kinds IsFlow IsFlow first on before now why
        (λ found. goes_on found goes_rest) does

    pub on_next : (between now : MachineState) (found : CodeFlow) (result : Result CodeFlow Stop) → Goes first
        → found ≡ flow.Next → Does most kinds kinds IsFlow first before between (Ok found)
        → Does most kinds kinds IsFlow rest between now result
        → Does most kinds kinds IsFlow (first >>= on) before now result
    on_next between now found result goes next does then_does =
        does_next most kinds kinds kinds IsFlow IsFlow first on before between now found result goes does
        (λ value is. subst (λ value. Does most kinds kinds IsFlow (on value) between now result)
        (sym (is ∙ ap flow_view next)) then_does)

    pub on_past : (now : MachineState) (found : CodeFlow) → Goes first → (found ≡ flow.Next → ⊥)
        → Does most kinds kinds IsFlow first before now (Ok found)
        → Does most kinds kinds IsFlow (first >>= on) before now (Ok found)
    on_past now found goes other does =
        does_next most kinds kinds kinds IsFlow IsFlow first on before now now found (Ok found) goes does
        (λ value is. subst (λ doing. Does most kinds kinds IsFlow doing now now (Ok found))
        (sym (ap on is ∙ go_over found rest other)) (does_pure most kinds IsFlow found (flow_view found) now refl))

-- the variable of a `for`
pub whole_slot : (slot : Slot) (store : Store) → along (home_of slot store) [] ≡ home_of slot store
whole_slot slot store = no_path (home_of slot store)

pub does_stored : (most : ℕ) (kinds : Kinds) (slot : Slot) (datum : Datum) (before now : MachineState)
    → Does most kinds kinds Any (change (stored_at slot [] datum)) before now (Ok (tt {0}))
    → Does most kinds kinds Any (change (λ store. stored (home_of slot store) datum store)) before now (Ok (tt {0}))
does_stored most kinds slot datum before now does =
    does_as most kinds kinds Any (change (stored_at slot [] datum))
    (change (λ store. stored (home_of slot store) datum store)) before now (Ok (tt {0}))
    (λ run. ap (λ reference. change (λ _. stored reference datum run.store) run) (whole_slot slot run.store)) does

pub ordinal_cell : (program : TypedProgram) (slot : Slot) → IsLawful program → IsOrdinal program.types slot.type
    → IsCell program slot [] 0
ordinal_cell program slot lawful ordinal =
    record { leads = shape_of-ordinal program.types slot.type lawful.types ordinal; begins = refl }

-- a `for` between its limits
module _ (program : TypedProgram) (most : ℕ) (slot : Slot) (turns : Doing Store Flow) (goes_turns : Goes turns) where
  pub goes_forget_of : Goes {S = Store} (change (meaning.forget slot) >> pure meaning.next)
  goes_forget_of = goes_then (goes_change (meaning.forget slot)) (goes_pure meaning.next)

  pub goes_forgetting : Goes (forgetting slot turns)
  goes_forgetting = goes_bind goes_turns (λ found. goes_on found goes_forget_of)

  pub goes_from_of : (way : Way) (first last : ℤ) → Goes (for_from_of program most slot way first last turns)
  goes_from_of way first last =
      goes_for (Some CALL_LIMIT) program (within (Some CALL_LIMIT) program most) (goes_below program most) slot way
      first
      last turns goes_turns

  module _ (kinds : Kinds) (first last : ℤ) (before : MachineState) where
    behind_high : Datum → Doing Store Flow
    behind_high low = change (λ store. stored (home_of slot store) low store) >> forgetting slot turns

    behind_low : Datum → Doing Store Flow
    behind_low low = answered (fits program.types slot.type (holds last)) >>= (λ high. behind_high low)

    goes_high : (low : Datum) → Goes (behind_high low)
    unfolding behind_high
    goes_high low = goes_then (goes_change (λ store. stored (home_of slot store) low store)) goes_forgetting

    goes_low : (low : Datum) → Goes (behind_low low)
    unfolding behind_low
    goes_low low = goes_bind (goes_answered (fits program.types slot.type (holds last))) (λ high. goes_high low)

    pub between_no_low : (why : Stop) → Answers {T = ℤ} IsNumber (fits program.types slot.type (holds first)) (Err why)
        → Does {T = CodeFlow} most kinds kinds IsFlow (between_of program slot first last turns) before before (Err why)
    unfolding behind_low behind_high
    between_no_low why is =
        does_stop {T = ℤ} most kinds kinds kinds IsNumber IsFlow
        (answered (fits program.types slot.type (holds first))) behind_low before before why goes_low
        (does_answered {T = ℤ} most kinds IsNumber (fits program.types slot.type (holds first)) before (Err why) is)

    module _ (low : ℤ) (low_is : Answers IsNumber (fits program.types slot.type (holds first)) (Ok low)) where
      pub between_no_high : (why : Stop)
          → Answers {T = ℤ} IsNumber (fits program.types slot.type (holds last)) (Err why)
          → Does {T = CodeFlow} most kinds kinds IsFlow (between_of program slot first last turns) before before
          (Err why)
      unfolding behind_low behind_high
      between_no_high why is =
          does_next most kinds kinds kinds IsNumber IsFlow (answered (fits program.types slot.type (holds first)))
          behind_low before before before low (Err why) (goes_answered _)
          (does_answered most kinds IsNumber (fits program.types slot.type (holds first)) before (Ok low) low_is)
          (λ datum same. does_stop {T = ℤ} most kinds kinds kinds IsNumber IsFlow
          (answered (fits program.types slot.type (holds last))) (λ high. behind_high datum) before before why
          (λ high. goes_high datum)
          (does_answered {T = ℤ} most kinds IsNumber (fits program.types slot.type (holds last)) before (Err why) is))

      pub between_next : (high : ℤ) (between now : MachineState) (result : Result CodeFlow Stop)
          → Answers IsNumber (fits program.types slot.type (holds last)) (Ok high)
          → Does most kinds kinds Any (change (λ store. stored (home_of slot store) (holds low) store)) before between
          (Ok (tt {0}))
          → Does most kinds kinds IsFlow (forgetting slot turns) between now result
          → Does most kinds kinds IsFlow (between_of program slot first last turns) before now result
      unfolding behind_low behind_high
      between_next high between now result high_is set does =
          does_next most kinds kinds kinds IsNumber IsFlow (answered (fits program.types slot.type (holds first)))
          behind_low before before now low result (goes_answered _)
          (does_answered most kinds IsNumber (fits program.types slot.type (holds first)) before (Ok low) low_is)
          (λ datum same. does_next most kinds kinds kinds IsNumber IsFlow
          (answered (fits program.types slot.type (holds last))) (λ high. behind_high datum) before before now high
          result (goes_answered _)
          (does_answered most kinds IsNumber (fits program.types slot.type (holds last)) before (Ok high) high_is)
          (λ other is. subst (λ datum. Does most kinds kinds IsFlow (behind_high datum) before now result) (sym same)
          (done_next most kinds IsFlow (change (λ store. stored (home_of slot store) (holds low) store))
          (forgetting slot turns) before between now result
          (goes_change (λ store. stored (home_of slot store) (holds low) store)) set does)))

  -- where one limit is past the other, and where it is not
  module _ (kinds : Kinds) (way : Way) (first last : ℤ) (before now : MachineState)
      (result : Result CodeFlow Stop) where
    by_past : Bool → Doing Store Flow
    by_past past =
        if past then change (meaning.forget slot) >> pure meaning.next else between_of program slot first last turns

    pub from_past : meaning.is_past way first last ≡ true
        → Does most kinds kinds IsFlow (change (meaning.forget slot) >> pure meaning.next) before now result
        → Does most kinds kinds IsFlow (for_from_of program most slot way first last turns) before now result
    unfolding by_past
    from_past past does =
        subst (λ (past : Bool). Does most kinds kinds IsFlow (by_past past) before now result) (sym past) does

    pub from_between : meaning.is_past way first last ≡ false
        → Does most kinds kinds IsFlow (between_of program slot first last turns) before now result
        → Does most kinds kinds IsFlow (for_from_of program most slot way first last turns) before now result
    unfolding by_past
    from_between past does =
        subst (λ (past : Bool). Does most kinds kinds IsFlow (by_past past) before now result) (sym past) does

-- the next value of the variable of a `for`
module _ (program : TypedProgram) (most : ℕ) (kinds : Kinds) (slot : Slot) (way : Way) (before : MachineState) where
  store_following : ℤ → Doing Store Flow
  store_following following =
      store_at program.types slot.type (part slot []) (holds following) >> pure meaning.next

  pub following_stop : (found : ℤ) (why : Stop)
      → Answers {T = ℤ} Same (within_maxint (meaning.next_value way found)) (Err why)
      → Does {T = CodeFlow} most kinds kinds IsFlow (next_stored_of program most slot way found) before before (Err why)
  unfolding store_following
  following_stop found why is =
      does_stop {T = ℤ} most kinds kinds kinds Same IsFlow (answered (within_maxint (meaning.next_value way found)))
      store_following before before why
      (λ following. goes_then (goes_store program.types slot.type (part slot []) (holds following))
      (goes_pure meaning.next))
      (does_answered {T = ℤ} most kinds Same (within_maxint (meaning.next_value way found)) before (Err why) is)

  pub following_next : (found following : ℤ) (now : MachineState) (done : Result (Unit {0}) Stop)
      → Answers Same (within_maxint (meaning.next_value way found)) (Ok following)
      → Does most kinds kinds Any (store_at program.types slot.type (part slot []) (holds following)) before now done
      → Does most kinds kinds IsFlow (next_stored_of program most slot way found) before now (next_behind done)
  unfolding store_following
  following_next found following now done is does =
      does_next most kinds kinds kinds Same IsFlow (answered (within_maxint (meaning.next_value way found)))
      store_following before before now following (next_behind done) (goes_answered _)
      (does_answered most kinds Same (within_maxint (meaning.next_value way found)) before (Ok following) is)
      (λ value same. subst (λ value. Does most kinds kinds IsFlow (store_following value) before now
      (next_behind done)) same
      (does_behind most kinds before now (store_at program.types slot.type (part slot []) (holds following)) done
      does))

  -- unless it has the last one
  module _ (last : ℤ) where
    abbrev counting : Doing Store ℤ
    counting = ask (λ store world. number_at (home_of slot store) store)

    by_last : ℤ → Doing Store Flow
    by_last found =
        if is_same found last then pure meaning.leaves else next_stored_of program most slot way found

    goes_last : (found : ℤ) → Goes (by_last found)
    unfolding by_last
    goes_last found =
        goes_if (is_same found last) (goes_pure meaning.leaves)
        (goes_next_stored (Some CALL_LIMIT) program (within (Some CALL_LIMIT) program most) (goes_below program most)
        slot way found)

    pub counted_stop : (why : Stop) → Does {T = ℤ} most kinds kinds Same counting before before (Err why)
        → Does {T = CodeFlow} most kinds kinds IsFlow (counted_of program most slot way last) before before (Err why)
    unfolding by_last
    counted_stop why does = found_stop most kinds IsFlow counting by_last before before why goes_last does

    pub counted_last : (found : ℤ) → Does most kinds kinds Same counting before before (Ok found)
        → is_same found last ≡ true
        → Does most kinds kinds IsFlow (counted_of program most slot way last) before before (Ok flow.Leaves)
    unfolding by_last
    counted_last found does is =
        found_next most kinds IsFlow counting by_last before before before found (Ok flow.Leaves) (goes_ask _) does
        (subst (λ (same : Bool). Does most kinds kinds IsFlow
        (if same then pure meaning.leaves else next_stored_of program most slot way found) before before
        (Ok flow.Leaves)) (sym is) (does_pure most kinds IsFlow flow.Leaves meaning.leaves before refl))

    pub counted_on : (found : ℤ) (now : MachineState) (result : Result CodeFlow Stop)
        → Does most kinds kinds Same counting before before (Ok found) → is_same found last ≡ false
        → Does most kinds kinds IsFlow (next_stored_of program most slot way found) before now result
        → Does most kinds kinds IsFlow (counted_of program most slot way last) before now result
    unfolding by_last
    counted_on found now result does is then_does =
        found_next most kinds IsFlow counting by_last before before now found result (goes_ask _) does
        (subst (λ (same : Bool). Does most kinds kinds IsFlow
        (if same then pure meaning.leaves else next_stored_of program most slot way found) before now result) (sym is)
        then_does)

    pub counts : (result : Result ℤ Stop) → ((ports : List PortState) (run : Run Store)
        → IsRun kinds ports before run
        → Answers Same (number_at (along (home_of slot run.store) []) run.store) result)
        → Does most kinds kinds Same counting before before result
    counts result answers =
        does_question most kinds Same (λ store world. number_at (home_of slot store) store) before result
        (λ ports run stands. subst (λ reference. Answers Same (number_at reference run.store) result)
        (whole_slot slot run.store) (answers ports run stands))
