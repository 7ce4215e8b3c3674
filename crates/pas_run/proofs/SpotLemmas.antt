-- Places with their checked indexes: reading and storing as steps of a run.
use Rattle.std.proofs.Common.{◌≡◌, ℕ, List, Option, Some, None, ℤ, pos, refl, sym, ap, subst, Result, Ok, Err}
use Rattle.std.proofs.Common.{IsSome}
use Rattle.wb_ports.specs.PortState.{PortState}
use Rattle.pas_typed.specs.Types.{Range, PasType, Table, range_of}
use Rattle.pas_typed.specs.Typed.{Variable, Slot, TypedProgram}
use Rattle.pas_typed.specs.TypeViews.{type_view}
use Rattle.pas_typed.specs.TypedViews.{slot_view}
use Rattle.pas_typed.specs.declared.types.PasType.{PasType as CodeType}
use Rattle.pas_typed.specs.declared.typed.Slot.{Slot as CodeSlot}
use Rattle.pas_typed.specs.Lawful.{IsOrdinal, IsLawful, IsLawfulSlot}
use Rattle.pas_typed.specs.Shapes.{Leads, shape_of}
use Rattle.pas_typed.proofs.ShapeLemmas.{shape_of-ordinal}
use Rattle.pas_run.specs.declared.spots.Spot.TheVariants as code
use Rattle.pas_run.specs.inner.Scenes.{IsCell, IsFileSlot, IsSpot}
use Rattle.pas_meaning.specs.declared.errors.TheConstants.{OUT_OF_RANGE}
use Rattle.pas_meaning.specs.Answers.{Answer, fine, then_answer}
use Rattle.pas_meaning.specs.Files as files
use Rattle.pas_meaning.specs.Outcome.{Run, ask, ◌>>=◌}
use Rattle.pas_meaning.specs.FileSteps.{file_at}
use Rattle.pas_meaning.specs.Store.{Datum, holds, Store, home_of, along, fetched, number_of, number_at, in_range}
use Rattle.pas_meaning.specs.Store.{fits_by, fits, defined_by}
use Rattle.pas_meaning.specs.Run.{Spot, part, window, file_of, of_file, read_at, component}
use Rattle.pas_meaning.specs.Standing.{Kinds}
use Rattle.pas_meaning.proofs.OnwardLemmas.{goes_ask}
use Rattle.pas_run.specs.declared.ends.Stop.{Stop}
use Rattle.pas_run.specs.inner.MachineState.{MachineState, IsRun}
use Rattle.pas_run.specs.inner.Doings.{Same, IsNumber, Does, Answers, asks}
use Rattle.pas_run.proofs.DoesLemmas.{then_stops, then_answers, does_question, does_stop, does_next, does_asked_then}

-- a number that is answered as a datum
pub held : (answer : Answer ℤ) (result : Result ℤ Stop) → Answers Same answer result
    → Answers IsNumber (then_answer answer (λ value. fine (holds value))) result
held answer (Ok found) is =
    then_answers Same IsNumber answer (λ value. fine (holds value)) found (Ok found) is
    (λ value same. (holds value, refl, ap holds (sym same)))
held answer (Err why) is = then_stops Same IsNumber answer (λ value. fine (holds value)) why is

-- a number for a type
pub fits_some : (table : Table) (type : PasType) (range : Range) (number : ℤ) (result : Result ℤ Stop)
    → range_of table type ≡ Some range → Answers Same (in_range OUT_OF_RANGE range number) result
    → Answers IsNumber (fits table type (holds number)) result
fits_some table type range number result is answers =
    subst (λ range. Answers IsNumber (fits_by range (holds number)) result) (sym is)
    (held (in_range OUT_OF_RANGE range number) result answers)

pub fits_none : (table : Table) (type : PasType) (number : ℤ) → range_of table type ≡ None
    → fits table type (holds number) ≡ fine (holds number)
fits_none table type number is = ap (λ range. fits_by range (holds number)) is

-- the cell of a variable is read
module _ (table : Table) (type : PasType) (slot : Slot) (path : List ℕ) where
  defined : (store : Store) (range : Option Range) (result : Result ℤ Stop) → IsSome range
      → Answers Same (number_at (along (home_of slot store) path) store) result
      → Answers IsNumber (defined_by range (fetched (along (home_of slot store) path) store)) result
  defined store None result is answers = absurd (cc)
  defined store (Some range) result is answers =
      held (number_of (fetched (along (home_of slot store) path) store)) result answers

  pub does_read_part : (most : ℕ) (kinds : Kinds) (machine : MachineState) (result : Result ℤ Stop)
      → IsOrdinal table type
      → ((ports : List PortState) (run : Run Store) → IsRun kinds ports machine run
      → Answers Same (number_at (along (home_of slot run.store) path) run.store) result)
      → Does most kinds kinds IsNumber (ask (read_at table type (part slot path))) machine machine result
  does_read_part most kinds machine result ordinal answers =
      does_question most kinds IsNumber (read_at table type (part slot path)) machine result
      (λ ports run stands. defined run.store (range_of table type) result ordinal (answers ports run stands))

-- the buffer of a file is read
module _ (table : Table) (type of_component : PasType) (slot : Slot) (most : ℕ) (kinds : Kinds)
    (before : MachineState) where
  as_window : {T : Type 0} (Is : T → Datum → Type 0) (now : MachineState) (result : Result T Stop)
      → Does most kinds kinds Is
      (ask (of_file slot files.buffer_read) >>= (λ byte. ask (λ store world. component table of_component byte)))
      before now result
      → Does most kinds kinds Is (ask (read_at table type (window slot of_component))) before now result
  as_window Is now result does =
      does_asked_then most kinds kinds Is (of_file slot files.buffer_read)
      (λ byte store world. component table of_component byte) before now result does

  as_byte : {T : Type 0} (Is : T → ℕ → Type 0) (now : MachineState) (result : Result T Stop)
      → Does most kinds kinds Is (ask (file_of slot) >>= (λ number. asks number files.buffer_read)) before now result
      → Does most kinds kinds Is (ask (of_file slot files.buffer_read)) before now result
  as_byte Is now result does =
      does_asked_then most kinds kinds Is (file_of slot) (λ number store world. files.buffer_read (file_at number
      world))
      before now result does

  byte_stop : (now : MachineState) (why : Stop)
      → Does {T = ℕ} most kinds kinds Same (ask (of_file slot files.buffer_read)) before now (Err why)
      → Does most kinds kinds IsNumber (ask (read_at table type (window slot of_component))) before now (Err why)
  byte_stop now why does =
      as_window IsNumber now (Err why)
      (does_stop most kinds kinds kinds Same IsNumber (ask (of_file slot files.buffer_read))
      (λ byte. ask (λ store world. component table of_component byte)) before now why (λ byte. goes_ask _) does)

  pub does_window_no_file : (why : Stop)
      → Does {T = ℕ} most kinds kinds Same (ask (file_of slot)) before before (Err why)
      → Does most kinds kinds IsNumber (ask (read_at table type (window slot of_component))) before before (Err why)
  does_window_no_file why does =
      byte_stop before why
      (as_byte Same before (Err why)
      (does_stop most kinds kinds kinds Same Same (ask (file_of slot)) (λ number. asks number files.buffer_read) before
      before why (λ number. goes_ask _) does))

  one_byte : (now : MachineState) (file : ℕ) (result : Result ℕ Stop)
      → Does most kinds kinds Same (ask (file_of slot)) before before (Ok file)
      → Does most kinds kinds Same (asks file files.buffer_read) before now result
      → Does most kinds kinds Same (ask (of_file slot files.buffer_read)) before now result
  one_byte now file result found does =
      as_byte Same now result
      (does_next most kinds kinds kinds Same Same (ask (file_of slot)) (λ number. asks number files.buffer_read) before
      before now file result (goes_ask _) found
      (λ number same. subst (λ number. Does most kinds kinds Same (asks number files.buffer_read) before now result)
      same
      does))

  pub does_window_no_byte : (now : MachineState) (file : ℕ) (why : Stop)
      → Does most kinds kinds Same (ask (file_of slot)) before before (Ok file)
      → Does {T = ℕ} most kinds kinds Same (asks file files.buffer_read) before now (Err why)
      → Does most kinds kinds IsNumber (ask (read_at table type (window slot of_component))) before now (Err why)
  does_window_no_byte now file why found does = byte_stop now why (one_byte now file (Err why) found does)

  pub does_window : (now : MachineState) (file byte : ℕ) (result : Result ℤ Stop)
      → Does most kinds kinds Same (ask (file_of slot)) before before (Ok file)
      → Does most kinds kinds Same (asks file files.buffer_read) before now (Ok byte)
      → Answers IsNumber (fits table of_component (holds (pos byte))) result
      → Does most kinds kinds IsNumber (ask (read_at table type (window slot of_component))) before now result
  does_window now file byte result found read answers =
      as_window IsNumber now result
      (does_next most kinds kinds kinds Same IsNumber (ask (of_file slot files.buffer_read))
      (λ byte. ask (λ store world. component table of_component byte)) before now now byte result (goes_ask _)
      (one_byte now file (Ok byte) found read)
      (λ value same. does_question most kinds IsNumber (λ store world. component table of_component value) now result
      (λ ports run stands. subst (λ byte. Answers IsNumber (fits table of_component (holds (pos byte))) result) same
      answers)))

-- what holds of each cell of a variable, and of each buffer, holds of a place by its spot
module _ (program : TypedProgram) (lawful : IsLawful program) (variables : List Variable) (type : PasType)
    (P : Spot → Type 0) where
  pub by_part : (found : CodeSlot) (behind : ℕ) (place : Spot)
      → IsSpot program variables type (code.Part found behind) place
      → ((path : List ℕ) → IsLawfulSlot program variables (slot_view found)
      → IsCell program (slot_view found) path behind → IsOrdinal program.types type
      → P (part (slot_view found) path)) → P place
  by_part found behind (window slot of_component) is each = absurd is
  by_part found behind (part slot path) is each =
      subst (λ slot. P (part slot path)) is.0
      (each path (subst (IsLawfulSlot program variables) (sym is.0) is.1)
      (subst (λ slot. IsCell program slot path behind) (sym is.0) (record {
        leads = subst (Leads (shape_of program.types slot.type) path)
            (shape_of-ordinal program.types type lawful.types is.2) is.3;
        begins = is.4;
      })) is.2)

  pub by_window : (found : CodeSlot) (of_code : CodeType) (place : Spot)
      → IsSpot program variables type (code.Window found of_code) place
      → (IsFileSlot program variables (slot_view found) → P (window (slot_view found) (type_view of_code))) → P place
  by_window found of_code (part slot path) is each = absurd is
  by_window found of_code (window slot of_component) is each =
      subst (λ slot. P (window slot of_component)) is.0
      (subst (λ of_component. P (window (slot_view found) of_component)) is.3
      (each (subst (IsFileSlot program variables) (sym is.0) is.1)))
