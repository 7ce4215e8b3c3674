-- What is read from files and written on them, one item after another.
use Rattle.std.proofs.Common.{◌≡◌, ℕ, ◌+◌, ◌<◌, ◌≤◌, ℤ, List, [], ◌∷◌, length, map, drop, get_or, refl, sym, ap, ◌∙◌}
use Rattle.std.proofs.Common.{subst, suc, arith, Option, Some, Result, Ok, Err}
use Rattle.std.specs.List.{All}
use Rattle.std.proofs.lemmas.List.{drop_all}
use Rattle.pas_typed.specs.Types.{PasType}
use Rattle.pas_typed.specs.Typed as typed
use Rattle.pas_typed.specs.Typed.{Slot, Value, Place, Item, TypedProgram}
use Rattle.pas_meaning.specs.declared.errors.TheConstants.{CALL_LIMIT}
use Rattle.pas_meaning.specs.Outcome.{Doing, pure, ◌>>=◌, ◌>>◌, ask}
use Rattle.pas_meaning.specs.Store.{Datum, holds, Store, number_of}
use Rattle.pas_meaning.specs.Operands.{operand}
use Rattle.pas_meaning.specs.Run.{within, window, read_at, store_at, buffer_of}
use Rattle.pas_meaning.specs.Laws.{Goes}
use Rattle.pas_meaning.specs.Standing.{Kinds}
use Rattle.pas_meaning.proofs.OnwardLemmas.{goes_then}
use Rattle.pas_meaning.proofs.GoesLemmas.{goes_read_item, goes_read_items, goes_item, goes_items, goes_byte, goes_bytes}
use Rattle.pas_meaning.proofs.GoesLemmas.{goes_width, goes_field}
use Rattle.pas_run.specs.declared.ends.Stop.{Stop}
use Rattle.pas_run.specs.inner.MachineState.{MachineState}
use Rattle.pas_run.specs.inner.Doings.{Any, Same, IsNumber, Does}
use Rattle.pas_run.specs.inner.Evaluating.{value_of}
use Rattle.pas_run.specs.inner.Running.{LeadsTo, assigned_to, reads_of, writes_of, bytes_of, read_item_of}
use Rattle.pas_run.specs.inner.Running.{write_item_of}
use Rattle.pas_run.specs.inner.Running.{write_byte_of, width_of, field_of}
use Rattle.pas_run.proofs.DoesLemmas.{does_stop, does_next, does_pure}
use Rattle.pas_run.proofs.RunningLemmas.{does_as, done_stop, done_next, goes_below}
use Rattle.pas_run.proofs.OperandLemmas.{operand_stop, as_number}
use Rattle.pas_run.proofs.ListLemmas.{from_item}

-- the buffer of a file as a value, and as a place
module _ (program : TypedProgram) (most : ℕ) (kinds : Kinds) (type : PasType) (slot : Slot)
    (before now : MachineState) where
  pub window_read : (result : Result ℤ Stop)
      → Does most kinds kinds IsNumber (ask (read_at program.types type (window slot type))) before now result
      → Does most kinds kinds IsNumber (value_of program most (typed.read (buffer_of slot type))) before now result
  window_read result does =
      does_as most kinds kinds IsNumber (ask (read_at program.types type (window slot type)))
      (value_of program most (typed.read (buffer_of slot type))) before now result (λ run. refl) does

  pub window_stored : (datum : Datum) (result : Result (Unit {0}) Stop)
      → Does most kinds kinds Any (store_at program.types type (window slot type) datum) before now result
      → Does most kinds kinds Any (assigned_to program most (buffer_of slot type) datum) before now result
  window_stored datum result does =
      does_as most kinds kinds Any (store_at program.types type (window slot type) datum)
      (assigned_to program most (buffer_of slot type) datum) before now result (λ run. refl) does

-- a value, something that is set to it, and a step
module _ (most : ℕ) (kinds : Kinds) (first : Doing Store Datum) (set : Datum → Doing Store (Unit {0}))
    (rest : Doing Store (Unit {0})) (goes_first : Goes first) (goes_set : (datum : Datum) → Goes (set datum))
    (goes_rest : Goes rest) (before : MachineState) where
  behind : Datum → Doing Store (Unit {0})
  behind datum = set datum >> rest

  goes_behind : (datum : Datum) → Goes (behind datum)
  unfolding behind
  goes_behind datum = goes_then (goes_set datum) goes_rest

  pub first_stops : (now : MachineState) (why : Stop)
      → Does {T = ℤ} most kinds kinds IsNumber first before now (Err why)
      → Does {T = Unit {0}} most kinds kinds Any (first >>= (λ datum. set datum >> rest)) before now (Err why)
  unfolding behind
  first_stops now why does =
      does_stop {T = ℤ} most kinds kinds kinds IsNumber Any first behind before now why goes_behind does

  module _ (between : MachineState) (found : ℤ)
      (does : Does most kinds kinds IsNumber first before between (Ok found)) where
    then_behind : (now : MachineState) (result : Result (Unit {0}) Stop)
        → Does most kinds kinds Any (behind (holds found)) between now result
        → Does most kinds kinds Any (first >>= behind) before now result
    then_behind now result then_does =
        does_next most kinds kinds kinds IsNumber Any first behind before between now found result goes_first does
        (λ datum is. subst (λ datum. Does most kinds kinds Any (behind datum) between now result) (sym is) then_does)

    pub set_stops : (now : MachineState) (why : Stop)
        → Does {T = Unit {0}} most kinds kinds Any (set (holds found)) between now (Err why)
        → Does {T = Unit {0}} most kinds kinds Any (first >>= (λ datum. set datum >> rest)) before now (Err why)
    unfolding behind
    set_stops now why then_does =
        then_behind now (Err why) (done_stop most kinds Any (set (holds found)) rest between now why goes_rest
        then_does)

    pub set_next : (after now : MachineState) (result : Result (Unit {0}) Stop)
        → Does {T = Unit {0}} most kinds kinds Any (set (holds found)) between after (Ok (tt {0}))
        → Does most kinds kinds Any rest after now result
        → Does most kinds kinds Any (first >>= (λ datum. set datum >> rest)) before now result
    unfolding behind
    set_next after now result set_does then_does =
        then_behind now result
        (done_next most kinds Any (set (holds found)) rest between after now result (goes_set (holds found)) set_does
        then_does)

-- items one after another
module _ {X : Type 0} (kinds : Kinds) (all : ℕ → List X → Doing Store (Unit {0}))
    (one : ℕ → X → Doing Store (Unit {0}))
    (more : (most : ℕ) (x : X) (xs : List X) → all most (x ∷ xs) ≡ one most x >> all most xs)
    (none : (most : ℕ) → all most [] ≡ pure (tt {0}))
    (goes_one : (most : ℕ) (x : X) → Goes (one most x))
    (goes_all : (most : ℕ) (xs : List X) → Goes (all most xs)) where
  module _ (xs : List X) (i : ℕ) (x : X) (less : i < length xs) (is : x ≡ get_or xs i x) (before : MachineState) where
    from_here : (most : ℕ) → all most (drop i xs) ≡ one most x >> all most (drop (i + 1) xs)
    from_here most = ap (all most) (from_item xs i x less is) ∙ more most x (drop (i + 1) xs)

    pub each_next : (between : MachineState)
        → ((most : ℕ) → Does {T = Unit {0}} most kinds kinds Any (one most x) before between (Ok (tt {0})))
        → LeadsTo {T = Unit {0}} kinds Any (λ most. all most (drop i xs)) (λ most. all most (drop (i + 1) xs)) before
        between
    each_next between does = record {
      each = λ end result then_does most.
          subst (λ doing. Does most kinds kinds Any doing before end result) (sym (from_here most))
          (done_next most kinds Any (one most x) (all most (drop (i + 1) xs)) before between end result
          (goes_one most x) (does most) (then_does most));
    }

    pub each_stop : (now : MachineState) (why : Stop) (most : ℕ)
        → Does {T = Unit {0}} most kinds kinds Any (one most x) before now (Err why)
        → Does {T = Unit {0}} most kinds kinds Any (all most (drop i xs)) before now (Err why)
    each_stop now why most does =
        subst (λ doing. Does {T = Unit {0}} most kinds kinds Any doing before now (Err why)) (sym (from_here most))
        (done_stop most kinds Any (one most x) (all most (drop (i + 1) xs)) before now why
        (goes_all most (drop (i + 1) xs)) does)

  pub each_end : (xs : List X) (i : ℕ) (machine : MachineState) → length xs ≤ i → (most : ℕ)
      → Does {T = Unit {0}} most kinds kinds Any (all most (drop i xs)) machine machine (Ok (tt {0}))
  each_end xs i machine h most =
      subst (λ doing. Does {T = Unit {0}} most kinds kinds Any doing machine machine (Ok (tt {0})))
      (sym (ap (all most) (drop_all i xs h) ∙ none most))
      (does_pure {T = Unit {0}} most kinds Any (tt {0}) (tt {0}) machine tt)

-- items of a list as they are seen
pub seen_items : {X Y : Type 0} (view : X → Y) (xs : List X) (i : ℕ) (x : X) → i < length xs → x ≡ get_or xs i x
    → map view (drop i xs) ≡ view x ∷ map view (drop (i + 1) xs)
seen_items view xs i x less is = ap (map view) (from_item xs i x less is)

pub first_and_more : {X : Type 0} (P : X → Type 0) (x : X) (xs : List X) → All P (x ∷ xs) → P x × All P xs
first_and_more P x xs are = (are 0 x (omega arith), λ k d less. are (suc k) d (omega (arith, less)))

module _ (program : TypedProgram) (most : ℕ) where
  pub goes_read_item_of : (type : PasType) (slot : Slot) (place : Place) → Goes
      (read_item_of program most type slot place)
  goes_read_item_of =
      goes_read_item (Some CALL_LIMIT) program (within (Some CALL_LIMIT) program most) (goes_below program most)

  pub goes_reads_of : (type : PasType) (slot : Slot) (places : List Place) → Goes
      (reads_of program most type slot places)
  goes_reads_of =
      goes_read_items (Some CALL_LIMIT) program (within (Some CALL_LIMIT) program most) (goes_below program most)

  pub goes_write_item_of : (slot : Slot) (item : Item) → Goes (write_item_of program most slot item)
  goes_write_item_of =
      goes_item (Some CALL_LIMIT) program (within (Some CALL_LIMIT) program most) (goes_below program most)

  pub goes_writes_of : (slot : Slot) (items : List Item) → Goes (writes_of program most slot items)
  goes_writes_of =
      goes_items (Some CALL_LIMIT) program (within (Some CALL_LIMIT) program most) (goes_below program most)

  pub goes_write_byte_of : (type : PasType) (slot : Slot) (item : Value) → Goes
      (write_byte_of program most type slot item)
  goes_write_byte_of =
      goes_byte (Some CALL_LIMIT) program (within (Some CALL_LIMIT) program most) (goes_below program most)

  pub goes_bytes_of : (type : PasType) (slot : Slot) (items : List Value) → Goes (bytes_of program most type slot items)
  goes_bytes_of =
      goes_bytes (Some CALL_LIMIT) program (within (Some CALL_LIMIT) program most) (goes_below program most)

  pub goes_width_of : (own : ℕ) (given : Option Value) → Goes (width_of program most own given)
  goes_width_of =
      goes_width (Some CALL_LIMIT) program (within (Some CALL_LIMIT) program most) (goes_below program most)

  pub goes_field_of : (slot : Slot) (bytes_for : ℕ → List ℕ) (width : ℤ) → Goes
      (field_of program most slot bytes_for width)
  goes_field_of =
      goes_field (Some CALL_LIMIT) program (within (Some CALL_LIMIT) program most) (goes_below program most)

-- a number is an operand
pub as_operand : (most : ℕ) (kinds : Kinds) (evaluated : Doing Store Datum) (before now : MachineState)
    (result : Result ℤ Stop) → Goes evaluated → Does most kinds kinds IsNumber evaluated before now result
    → Does most kinds kinds Same (operand number_of evaluated) before now result
as_operand most kinds evaluated before now (Ok found) goes does = as_number most kinds evaluated before now found goes
    does
as_operand most kinds evaluated before now (Err why) goes does =
    operand_stop {T = ℤ} most kinds Same number_of evaluated before now why does
