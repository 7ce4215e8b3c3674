-- Numbers that are stored in places, as steps of a run.
use Rattle.std.proofs.Common.{◌≡◌, ℕ, List, Some, ℤ, refl, sym, subst, Result, Ok, Err}
use Rattle.pas_typed.specs.Types.{PasType, Table}
use Rattle.pas_typed.specs.Typed.{Slot}
use Rattle.pas_typed.specs.Shapes.{one_cell}
use Rattle.pas_meaning.specs.declared.errors.TheConstants.{OUT_OF_RANGE}
use Rattle.pas_meaning.specs.Answers.{Answer, fine, wrong, then_answer}
use Rattle.pas_meaning.specs.Files as files
use Rattle.pas_meaning.specs.Outcome.{Run, Doing, and_then, answered, ask, change, changed}
use Rattle.pas_meaning.specs.FileSteps.{change_file}
use Rattle.pas_meaning.specs.Operands.{byte_of}
use Rattle.pas_meaning.specs.Store.{Datum, holds, Store, home_of, along, number_in, stored, fits}
use Rattle.pas_meaning.specs.Run.{part, window, file_of, on_file, store_at}
use Rattle.pas_meaning.specs.Cells.{IsShaped}
use Rattle.pas_meaning.specs.Standing.{Kinds}
use Rattle.pas_meaning.proofs.OnwardLemmas.{goes_answered, goes_ask}
use Rattle.pas_meaning.proofs.GoesLemmas.{goes_set}
use Rattle.pas_run.specs.declared.ends.Stop.{Stop}
use Rattle.pas_run.specs.inner.MachineState.{MachineState}
use Rattle.pas_run.specs.inner.Doings.{Any, Same, IsNumber, Done, Does, Answers, stored_at}
use Rattle.pas_run.proofs.DoesLemmas.{does_stop, does_next, does_answered}

-- a datum that fits is stored
put_by : (answer : Answer Datum) (slot : Slot) (path : List ℕ) (run : Run Store)
    → and_then (answered answer run) (λ checked. change (stored_at slot path checked))
    ≡ changed (λ store. then_answer answer (λ checked. fine (stored (along (home_of slot store) path) checked
    store))) run
put_by (fine checked) slot path run = refl
put_by (wrong kind) slot path run = refl

pub does_put : (most : ℕ) (kinds : Kinds) (table : Table) (type : PasType) (slot : Slot) (path : List ℕ) (number : ℤ)
    (before now : MachineState) (found : ℤ) → Answers IsNumber (fits table type (holds number)) (Ok found)
    → ((datum : Datum) → IsShaped one_cell datum → number_in datum ≡ Some found
    → Does most kinds kinds Any (change (stored_at slot path datum)) before now (Ok (tt {0})))
    → Does most kinds kinds Any (store_at table type (part slot path) (holds number)) before now (Ok (tt {0}))
does_put most kinds table type slot path number before now found is does = record {
  each = λ ports run stands within.
      subst (λ outcome. Done kinds ports Any run.world outcome now (Ok (tt {0})))
      (put_by (fits table type (holds number)) slot path run)
      ((does_next most kinds kinds kinds IsNumber Any (answered (fits table type (holds number)))
      (λ checked. change (stored_at slot path checked)) before before now found (Ok (tt {0})) (goes_answered _)
      (does_answered most kinds IsNumber (fits table type (holds number)) before (Ok found) is)
      (λ checked same. subst (λ checked. Does most kinds kinds Any (change (stored_at slot path checked)) before now
      (Ok (tt {0}))) (sym same) (does (holds found) tt refl))).each ports run stands within);
}

-- a byte for the buffer of a file
module _ (table : Table) (type of_component : PasType) (slot : Slot) (most : ℕ) (kinds : Kinds) (datum : Datum)
    (before : MachineState) (byte : ℕ)
    (is : Answers Same (then_answer (fits table of_component datum) (byte_of OUT_OF_RANGE)) (Ok byte)) where
  set : ℕ → Doing Store (Unit {0})
  set byte = on_file slot (λ number. change_file number (files.buffer_set byte))

  behind_byte : (now : MachineState) (result : Result (Unit {0}) Stop)
      → Does most kinds kinds Any (set byte) before now result
      → Does most kinds kinds Any (store_at table type (window slot of_component) datum) before now result
  unfolding set
  behind_byte now result does =
      does_next most kinds kinds kinds Same Any
      (answered (then_answer (fits table of_component datum) (byte_of OUT_OF_RANGE))) set before before now byte
      result (goes_answered _) (does_answered most kinds Same _ before (Ok byte) is)
      (λ value same. subst (λ byte. Does most kinds kinds Any (set byte) before now result) same does)

  pub does_set_no_file : (why : Stop) → Does {T = ℕ} most kinds kinds Same (ask (file_of slot)) before before (Err why)
      → Does {T = Unit {0}} most kinds kinds Any (store_at table type (window slot of_component) datum) before before
      (Err why)
  unfolding set
  does_set_no_file why does =
      behind_byte before (Err why)
      (does_stop most kinds kinds kinds Same Any (ask (file_of slot))
      (λ number. change_file number (files.buffer_set byte)) before before why
      (λ number. goes_set table number byte) does)

  pub does_set : (now : MachineState) (file : ℕ) (result : Result (Unit {0}) Stop)
      → Does most kinds kinds Same (ask (file_of slot)) before before (Ok file)
      → Does most kinds kinds Any (change_file file (files.buffer_set byte)) before now result
      → Does most kinds kinds Any (store_at table type (window slot of_component) datum) before now result
  unfolding set
  does_set now file result found does =
      behind_byte now result
      (does_next most kinds kinds kinds Same Any (ask (file_of slot))
      (λ number. change_file number (files.buffer_set byte)) before before now file result (goes_ask _) found
      (λ number same. subst (λ number. Does most kinds kinds Any (change_file number (files.buffer_set byte)) before now
      result) same does))
