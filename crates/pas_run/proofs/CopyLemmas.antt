-- Cells that are copied and stored as a whole.
use Rattle.std.proofs.Common.{◌≡◌, ℕ, suc, ◌+◌, ◌<◌, ◌≤◌, List, [], ◌∷◌, ◌++◌, length, take, drop, get_or, drop-cons}
use Rattle.std.proofs.Common.{slice_set, append_assoc, length-append, get_or-set_same, arith, refl, sym}
use Rattle.std.proofs.Common.{ap, ap₂, ◌∙◌, subst, Option, Some, None, Result, Ok, Err, inl, inr, IsSome, is_some}
use Rattle.std.proofs.Common.{option_map, true, false}
use Rattle.std.proofs.lemmas.List.{take-append-drop, take_more, length-take-le, set_at, set-set, set-get_or}
use Rattle.wb_ports.specs.PortState.{PortState}
use Rattle.pas_typed.specs.Types.{PasType, Range, Table, range_of, cells_of as type_cells}
use Rattle.pas_typed.specs.Typed as typed
use Rattle.pas_typed.specs.Typed.{Variable, Slot, Value, Place, TypedProgram}
use Rattle.pas_typed.specs.TypedViews.{slot_view}
use Rattle.pas_typed.specs.TypeOf.{type_of_place, type_of, is_buffer}
use Rattle.pas_typed.specs.Lawful.{Takes, IsLawful, IsLawfulSlot, IsLawfulPlace}
use Rattle.pas_typed.specs.Shapes.{size, shape_of}
use Rattle.pas_typed.specs.declared.typed.Slot.{Slot as CodeSlot}
use Rattle.pas_typed.proofs.ShapeLemmas.{size-shape_of, component-ordinal}
use Rattle.pas_meaning.specs.declared.errors.TheConstants.{CALL_LIMIT}
use Rattle.pas_meaning.specs.Answers.{Answer, fine, then_answer}
use Rattle.pas_meaning.specs.Outcome.{World, Run, Doing, ask, change, changed}
use Rattle.pas_meaning.specs.Store.{Datum, Store, home_of, along, stored, fits, fits_by, defined_by}
use Rattle.pas_meaning.specs.Run as meaning
use Rattle.pas_meaning.specs.Run.{Spot, part, window, slot_of, path_of, within}
use Rattle.pas_meaning.specs.Standing.{Kinds, Aims, IsOfType}
use Rattle.pas_meaning.specs.Laws.{Goes}
use Rattle.pas_meaning.proofs.StandingLemmas.{aims_along, fetched_shaped, stands_stored}
use Rattle.pas_meaning.proofs.PlaceKeeps.{slot_aims}
use Rattle.pas_meaning.proofs.OnwardLemmas.{goes_ask}
use Rattle.pas_meaning.proofs.GoesLemmas.{goes_store, goes_assigned, goes_within}
use Rattle.pas_run.specs.declared.cells.Address.{Address}
use Rattle.pas_run.specs.declared.cells.Cell.{Cell}
use Rattle.pas_run.specs.declared.layouts.Layout.{Layout}
use Rattle.pas_run.specs.declared.layouts.Layouts.{Layouts}
use Rattle.pas_run.specs.declared.ends.Stop.{Stop}
use Rattle.pas_run.specs.declared.ends.Stop.TheVariants as stop
use Rattle.pas_run.specs.inner.FlatStore.{address_of, datum_cells, flat_store, cells_of, with_cell, cells_at, over}
use Rattle.pas_run.specs.inner.FlatStore.{Activations, with_cells, behind_by}
use Rattle.pas_run.specs.inner.MachineState.{MachineState, IsRun}
use Rattle.pas_run.specs.inner.Scenes.{IsAt}
use Rattle.pas_run.specs.inner.Doings.{Any, Done, Does, stored_at}
use Rattle.pas_run.specs.inner.Evaluating.{value_of, place_at, IsBehind, IsCount}
use Rattle.pas_run.specs.inner.Copying.{IsWhole, IsFound, AreCells, reference_to, held_at, assignment_of}
use Rattle.pas_run.proofs.DoesLemmas.{does_stop, does_next, does_question}
use Rattle.pas_run.proofs.OperandLemmas.{does_no_memory}
use Rattle.pas_run.proofs.FlatLemmas.{length-datum_cells, address_there, address_within, flat-fetched, flat-stored}
use Rattle.pas_run.proofs.PartLemmas.{address_along}
use Rattle.pas_run.proofs.PlaceLemmas.{goes_place_at}
use Rattle.pas_run.proofs.ValueLemmas.{goes_value_of}

-- cells over others, one after another
over_none : (row : List Cell) (at : ℕ) → over [] at row ≡ row
over_none row at =
    let same : at + 0 ≡ at = omega arith in
    ap (λ (n : ℕ). take at row ++ drop n row) same ∙ take-append-drop at row

over_more : (cells row : List Cell) (at i : ℕ) (d : Cell) → i < length cells → at + length cells ≤ length row
    → slice_set (over (take i cells) at row) (at + i) (get_or cells i d) ≡ over (take (i + 1) cells) at row
over_more cells row at i d less within =
    let cell = get_or cells i d in
    let rest = drop (suc (at + i)) row in
    let one : length (take i cells) ≡ i = length-take-le i cells (omega (arith, less)) in
    let begin : length (take at row) ≡ at = length-take-le at row (omega (arith, within)) in
    let there : at + i < length row = omega (arith, less, within) in
    let behind : drop (at + i) row ≡ get_or row (at + i) cell ∷ rest = drop-cons row (at + i) cell there in
    let more : take (i + 1) cells ≡ take i cells ++ cell ∷ [] = take_more cells i d less in
    let next : suc (at + i) ≡ at + length (take (i + 1) cells) =
    omega (arith, length-take-le (i + 1) cells (omega (arith, less))) in
    ap (λ (row : List Cell). slice_set row (at + i) cell)
    (ap (λ (n : ℕ). take at row ++ (take i cells ++ drop (at + n) row)) one
    ∙ ap (λ (rest : List Cell). take at row ++ (take i cells ++ rest)) behind
    ∙ sym (append_assoc (take at row) (take i cells) (get_or row (at + i) cell ∷ rest)))
    ∙ set_at (take at row ++ take i cells) (get_or row (at + i) cell) rest cell (at + i)
    (omega (arith, length-append (take at row) (take i cells), one, begin))
    ∙ append_assoc (take at row) (take i cells) (cell ∷ rest)
    ∙ ap (λ (cells : List Cell). take at row ++ cells)
    (sym (append_assoc (take i cells) (cell ∷ []) rest) ∙ ap (λ (cells : List Cell). cells ++ rest) (sym more))
    ∙ ap (λ (n : ℕ). take at row ++ (take (i + 1) cells ++ drop n row)) next

pub with_none : (address : Address) (activations : Activations) → with_cells address [] activations ≡ activations
with_none address activations =
    ap (slice_set activations address.activation) (over_none (cells_of address activations) address.offset)
    ∙ set-get_or activations address.activation []

pub with_more : (address : Address) (cells : List Cell) (i : ℕ) (d : Cell) (activations : Activations)
    → address.activation < length activations → i < length cells
    → address.offset + length cells ≤ length (cells_of address activations)
    → with_cell (behind_by i address) (get_or cells i d) (with_cells address (take i cells) activations)
    ≡ with_cells address (take (i + 1) cells) activations
with_more address cells i d activations less more within =
    let cell = get_or cells i d in
    let so_far = over (take i cells) address.offset (cells_of address activations) in
    ap (λ (row : List Cell). slice_set (slice_set activations address.activation so_far) address.activation
    (slice_set row (address.offset + i) cell)) (get_or-set_same activations address.activation so_far [] less)
    ∙ set-set activations address.activation so_far (slice_set so_far (address.offset + i) cell)
    ∙ ap (slice_set activations address.activation)
    (over_more cells (cells_of address activations) address.offset i d more within)

pub set_more : (address : Address) (cells : List Cell) (i : ℕ) (d : Cell) (first so_far now : MachineState)
    → address.activation < length first.activations → i < length cells
    → address.offset + length cells ≤ length (cells_of address first.activations)
    → so_far ≡ record first { activations = with_cells address (take i cells) first.activations }
    → now ≡ record so_far { activations = with_cell (behind_by i address) (get_or cells i d) so_far.activations }
    → now ≡ record first { activations = with_cells address (take (i + 1) cells) first.activations }
set_more address cells i d first so_far now less more within so_far_is now_is =
    now_is
    ∙ ap (λ (machine : MachineState). record machine {
      activations = with_cell (behind_by i address) (get_or cells i d) machine.activations;
    }) so_far_is
    ∙ ap (λ (activations : Activations). record first { activations = activations })
    (with_more address cells i d first.activations less more within)

-- the variable that a part is of
pub place_slot : (program : TypedProgram) (variables : List Variable) (slot : CodeSlot) (type : PasType) (behind : ℕ)
    (place : Spot) → IsBehind program variables slot type behind place → IsLawfulSlot program variables (slot_view slot)
place_slot program variables slot type behind (window found of_component) is = absurd is
place_slot program variables slot type behind (part found path) is =
    subst (IsLawfulSlot program variables) (sym is.0) is.1

-- a part of a variable in the cells of a machine
module _ (program : TypedProgram) (layouts : Layouts) (locals : Layout) (variables : List Variable)
    (result : Option PasType) (kinds : Kinds) (at : IsAt program layouts locals variables result kinds)
    (slot : CodeSlot) (type : PasType) (behind : ℕ) where
  abbrev IsThere : Spot → Type 0
  IsThere place = IsBehind program variables slot type behind place

  pub place_aims : (place : Spot) (ports : List PortState) (machine : MachineState) (run : Run Store)
      → IsRun kinds ports machine run → IsThere place
      → Aims kinds (reference_to place run.store) (shape_of program.types type)
  place_aims (window found of_component) ports machine run stands is = absurd is
  place_aims (part found path) ports machine run stands is =
      aims_along kinds (home_of found run.store) (shape_of program.types found.type) (shape_of program.types type) path
      (slot_aims program at.lawful variables result kinds at.knows found run.store stands.stands is.1) is.2

  pub place_address : (place : Spot) (ports : List PortState) (machine : MachineState) (run : Run Store)
      → IsRun kinds ports machine run → IsThere place → (home : Address)
      → home ≡ address_of kinds (home_of (slot_view slot) run.store)
      → behind_by behind home ≡ address_of kinds (reference_to place run.store)
  place_address (window found of_component) ports machine run stands is home home_is = absurd is
  place_address (part found path) ports machine run stands is home home_is =
      ap₂ (λ (behind : ℕ) (home : Address). behind_by behind home) is.3
      (home_is ∙ ap (λ (slot : Slot). address_of kinds (home_of slot run.store)) is.0)
      ∙ sym (address_along kinds (home_of found run.store) (shape_of program.types found.type)
      (shape_of program.types type) path
      (slot_aims program at.lawful variables result kinds at.knows found run.store stands.stands is.1) is.2)

  module _ (place : Spot) (ports : List PortState) (machine : MachineState) (run : Run Store)
      (stands : IsRun kinds ports machine run) (is : IsThere place) (home : Address)
      (home_is : home ≡ address_of kinds (home_of (slot_view slot) run.store)) where
    abbrev aims : Aims kinds (reference_to place run.store) (shape_of program.types type)
    aims = place_aims place ports machine run stands is

    abbrev address_is : behind_by behind home ≡ address_of kinds (reference_to place run.store)
    address_is = place_address place ports machine run stands is home home_is

    pub copied : (count : ℕ) (found : List Cell) → count ≡ type_cells program.types type
        → found ≡ cells_at (behind_by behind home) count machine.activations
        → AreCells program.types type found (held_at place run.store)
    copied count found is_count items = (
      fetched_shaped kinds run.store (reference_to place run.store) (shape_of program.types type) stands.stands aims,
      items
          ∙ ap₂ (λ (address : Address) (activations : Activations). cells_at address count activations) address_is
          stands.activations
          ∙ ap (λ (count : ℕ). cells_at (address_of kinds (reference_to place run.store)) count
          (flat_store kinds run.store)) (is_count ∙ sym (size-shape_of program.types type at.lawful.types))
          ∙ flat-fetched kinds run.store (reference_to place run.store) (shape_of program.types type) stands.stands
          aims,
    )

    pub part_there : home.activation < length machine.activations
    part_there =
        subst (λ (activations : Activations). home.activation < length activations) (sym stands.activations)
        (subst (λ (address : Address). address.activation < length (flat_store kinds run.store)) (sym address_is)
        (address_there kinds run.store (reference_to place run.store) (shape_of program.types type) stands.stands aims))

    pub part_within : home.offset + behind + size (shape_of program.types type)
        ≤ length (cells_of home machine.activations)
    part_within =
        subst (λ (activations : Activations). home.offset + behind + size (shape_of program.types type)
        ≤ length (cells_of home activations)) (sym stands.activations)
        (subst (λ (address : Address). address.offset + size (shape_of program.types type)
        ≤ length (cells_of address (flat_store kinds run.store))) (sym address_is)
        (address_within kinds run.store (reference_to place run.store) (shape_of program.types type) stands.stands
        aims))

    pub stored_whole : (datum : Datum) → IsOfType program.types type datum
        → IsRun kinds ports (record machine {
          activations = with_cells (behind_by behind home) (datum_cells datum) machine.activations;
        }) (record run { store = stored (reference_to place run.store) datum run.store })
    stored_whole datum shaped = record {
      activations =
          ap₂ (λ (address : Address) (activations : Activations). with_cells address (datum_cells datum) activations)
          address_is stands.activations
          ∙ sym (flat-stored kinds run.store (reference_to place run.store) (shape_of program.types type) stands.stands
          aims datum shaped);
      stands = stands_stored kinds run.store (reference_to place run.store) (shape_of program.types type) datum
          stands.stands aims shaped;
      world = record { steps = stands.world.steps; calls = stands.world.calls; files = stands.world.files };
    }

  -- storing a whole as something that is done
  pub does_store_whole : (place : Spot) → IsThere place → (machine now : MachineState) (home : Address)
      → ((ports : List PortState) (run : Run Store) → IsRun kinds ports machine run
      → home ≡ address_of kinds (home_of (slot_view slot) run.store))
      → (datum : Datum) → IsOfType program.types type datum → (cells : List Cell) → cells ≡ datum_cells datum
      → (home.activation < length machine.activations
      → home.offset + behind + length cells ≤ length (cells_of home machine.activations)
      → now ≡ record machine { activations = with_cells (behind_by behind home) cells machine.activations })
      → (most : ℕ)
      → Does most kinds kinds Any (change (stored_at (slot_of place) (path_of place) datum)) machine now (Ok (tt {0}))
  does_store_whole place is machine now home found datum shaped cells same kept most = record {
    each = λ ports run stands within.
        let home_is = found ports run stands in
        let long : length cells ≡ size (shape_of program.types type) =
        ap length same ∙ length-datum_cells (shape_of program.types type) datum shaped in
        let after = kept (part_there place ports machine run stands is home home_is)
        (omega (arith, long, part_within place ports machine run stands is home home_is)) in
        record {
          value = tt {0};
          run = record run { store = stored (reference_to place run.store) datum run.store };
          same = refl;
          is = tt;
          stands = subst (λ (machine : MachineState). IsRun kinds ports machine (record run {
            store = stored (reference_to place run.store) datum run.store;
          }))
              (sym (after ∙ ap (λ (cells : List Cell). record machine {
                activations = with_cells (behind_by behind home) cells machine.activations;
              }) same))
              (stored_whole place ports machine run stands is home home_is datum shaped);
        };
  }

-- where a `?` returns early, there is no memory
pub found_early : {T : Type 0} (P : T → Type 0) (why : Stop) (result : Result T Stop)
    → ((found : Stop) × (result ≡ Err found) × (found ≡ why)) → IsFound P (Err why) → IsFound P result
found_early P why result is found = subst (IsFound P) (sym (is.1 ∙ ap Err is.2)) found

pub found_other : {T U : Type 0} (P : T → Type 0) (Q : U → Type 0) (why : Stop)
    → IsFound P (Err why) → IsFound Q (Err why)
found_other P Q stop.OutOfMemory is = tt
found_other P Q (stop.Halted status) is = absurd is
found_other P Q stop.Going is = absurd is
found_other P Q (stop.Wrong kind) is = absurd is
found_other P Q stop.TooDeep is = absurd is
found_other P Q stop.PortFailed is = absurd is

pub count_found : {T : Type 0} (P : T → Type 0) (cells : ℕ) (why : Stop)
    → IsCount cells (Err why) → IsFound P (Err why)
count_found P cells stop.OutOfMemory is = tt
count_found P cells (stop.Halted status) is = absurd is
count_found P cells stop.Going is = absurd is
count_found P cells (stop.Wrong kind) is = absurd is
count_found P cells stop.TooDeep is = absurd is
count_found P cells stop.PortFailed is = absurd is

-- a question that finds something, where there is memory
pub does_found : {A T : Type 0} (most : ℕ) (kinds : Kinds) (Is : T → A → Type 0) (question : Store → World → Answer A)
    (value : Store → A) (machine : MachineState) (result : Result T Stop)
    → ((store : Store) (world : World) → question store world ≡ fine (value store))
    → ((ports : List PortState) (run : Run Store) → IsRun kinds ports machine run
    → IsFound (λ found. Is found (value run.store)) result)
    → Does most kinds kinds Is (ask question) machine machine result
does_found most kinds Is question value machine (Ok found) is finds =
    does_question most kinds Is question machine (Ok found) (λ ports run stands. (
      value run.store,
      is run.store run.world,
      finds ports run stands,
    ))
does_found most kinds Is question value machine (Err stop.OutOfMemory) is finds =
    does_no_memory most kinds kinds Is (ask question) machine machine
does_found most kinds Is question value machine (Err (stop.Halted status)) is finds =
    record { each = λ ports run stands within. absurd (finds ports run stands) }
does_found most kinds Is question value machine (Err stop.Going) is finds =
    record { each = λ ports run stands within. absurd (finds ports run stands) }
does_found most kinds Is question value machine (Err (stop.Wrong kind)) is finds =
    record { each = λ ports run stands within. absurd (finds ports run stands) }
does_found most kinds Is question value machine (Err stop.TooDeep) is finds =
    record { each = λ ports run stands within. absurd (finds ports run stands) }
does_found most kinds Is question value machine (Err stop.PortFailed) is finds =
    record { each = λ ports run stands within. absurd (finds ports run stands) }

pub some_view : {A B : Type 0} (f : A → B) (found : Option A) → is_some found ≡ true → IsSome (option_map f found)
some_view f None some = absurd (cc)
some_view f (Some found) some = refl

pub none_view : {A B : Type 0} (f : A → B) (found : Option A) → is_some found ≡ false → option_map f found ≡ None
none_view f None none = refl
none_view f (Some found) none = absurd (cc)

-- a whole is read as it is, and takes what is given as it is
ordinal_whole : (range : Option Range) → IsSome range → range ≡ None → ⊥
ordinal_whole None some is = cc
ordinal_whole (Some range) some is = cc

pub whole_window : (table : Table) (type : PasType) → IsSome (range_of table type) → IsWhole table type → ⊥
whole_window table type some whole = ordinal_whole (range_of table type) some whole

module _ (table : Table) (type : PasType) (whole : IsWhole table type) where
  pub read_whole : (slot : Slot) (path : List ℕ) (store : Store) (world : World)
      → meaning.read_at table type (part slot path) store world ≡ fine (held_at (part slot path) store)
  read_whole slot path store world =
      ap (λ (range : Option Range). defined_by range (held_at (part slot path) store)) whole

  pub fits_whole : (datum : Datum) → fits table type datum ≡ fine datum
  fits_whole datum = ap (λ (range : Option Range). fits_by range datum) whole

  pub takes_whole : (source : PasType) → Takes table type source → type ≡ source
  takes_whole source (inl ordinal) = absurd (whole_window table type ordinal.0 whole)
  takes_whole source (inr same) = same

  pub whole_source : (source : PasType) → Takes table type source → IsWhole table source
  whole_source source takes = subst (IsWhole table) (takes_whole source takes) whole

-- a buffer is an ordinal
pub whole_no_buffer : (program : TypedProgram) (variables : List Variable) (place : Place) → IsLawful program
    → IsLawfulPlace program variables place → IsWhole program.types (type_of_place place) → is_buffer place ≡ false
whole_no_buffer program variables (typed.slot slot) lawful is whole = refl
whole_no_buffer program variables (typed.element place range type index) lawful is whole = refl
whole_no_buffer program variables (typed.field place number type) lawful is whole = refl
whole_no_buffer program variables (typed.buffer file type) lawful is whole =
    absurd (whole_window program.types type
    (component-ordinal program.types (type_of_place file) type lawful.types is.1) whole)

-- the cells of what is read
module _ (most : ℕ) (kinds : Kinds) (program : TypedProgram) (variables : List Variable) (place : Place)
    (slot : CodeSlot) (before : MachineState) where
  abbrev Cells : List Cell → Datum → Type 0
  Cells found datum = AreCells program.types (type_of_place place) found datum

  abbrev holding : Spot → Doing Store Datum
  holding spot = ask (meaning.read_at program.types (type_of_place place) spot)

  pub copy_stop : (now : MachineState) (why : Stop)
      → Does {T = ℕ} most kinds kinds (IsBehind program variables slot (type_of_place place))
      (place_at program most place) before now (Err why)
      → Does {T = List Cell} most kinds kinds Cells (value_of program most (typed.read place)) before now (Err why)
  copy_stop now why does =
      does_stop {T = ℕ} {U = List Cell} most kinds kinds kinds
      (IsBehind program variables slot (type_of_place place)) Cells
      (place_at program most place) holding before now why (λ spot. goes_ask _) does

  read_found : (between : MachineState) (behind : ℕ) (result : Result (List Cell) Stop)
      → IsWhole program.types (type_of_place place) → (spot : Spot)
      → IsBehind program variables slot (type_of_place place) behind spot
      → ((ports : List PortState) (run : Run Store) → IsRun kinds ports between run
      → IsFound (λ (cells : List Cell). Cells cells (held_at spot run.store)) result)
      → Does most kinds kinds Cells (holding spot) between between result
  read_found between behind result whole (window found of_component) is finds = absurd is
  read_found between behind result whole (part found path) is finds =
      does_found most kinds Cells (meaning.read_at program.types (type_of_place place) (part found path))
      (held_at (part found path)) between result (read_whole program.types (type_of_place place) whole found path)
      finds

  pub copy_next : (between : MachineState) (behind : ℕ) (result : Result (List Cell) Stop)
      → IsWhole program.types (type_of_place place)
      → Does most kinds kinds (IsBehind program variables slot (type_of_place place)) (place_at program most place)
      before between (Ok behind)
      → ((spot : Spot) → IsBehind program variables slot (type_of_place place) behind spot
      → (ports : List PortState) (run : Run Store) → IsRun kinds ports between run
      → IsFound (λ (cells : List Cell). Cells cells (held_at spot run.store)) result)
      → Does most kinds kinds Cells (value_of program most (typed.read place)) before between result
  copy_next between behind result whole does finds =
      does_next most kinds kinds kinds (IsBehind program variables slot (type_of_place place)) Cells
      (place_at program most place) holding before between between behind result (goes_place_at program most place) does
      (λ spot is. read_found between behind result whole spot is (finds spot is))

-- v := w as steps of a run
module _ (most : ℕ) (kinds : Kinds) (program : TypedProgram) (variables : List Variable) (place : Place)
    (slot : CodeSlot) (right : Value) (before : MachineState) where
  abbrev given : Datum → Doing Store (Unit {0})
  given datum =
      meaning.assigned (Some CALL_LIMIT) program (within (Some CALL_LIMIT) program most) place datum

  abbrev its_cells : List Cell → Datum → Type 0
  its_cells found datum = AreCells program.types (type_of right) found datum

  goes_given : (datum : Datum) → Goes (given datum)
  goes_given datum =
      goes_assigned (Some CALL_LIMIT) program (within (Some CALL_LIMIT) program most)
      (goes_within (Some CALL_LIMIT) program most) place datum

  pub assign_no_value : (now : MachineState) (why : Stop)
      → Does {T = List Cell} most kinds kinds its_cells (value_of program most right) before now (Err why)
      → Does {T = Unit {0}} most kinds kinds Any (assignment_of program most place right) before now (Err why)
  assign_no_value now why does =
      does_stop {T = List Cell} {U = Unit {0}} most kinds kinds kinds its_cells Any (value_of program most right)
      given before now why goes_given does

  module _ (between : MachineState) (copied_cells : List Cell)
      (does : Does most kinds kinds its_cells (value_of program most right) before between (Ok copied_cells)) where
    pub assign_no_place : (now : MachineState) (why : Stop)
        → Does {T = ℕ} most kinds kinds (IsBehind program variables slot (type_of_place place))
        (place_at program most place) between now (Err why)
        → Does {T = Unit {0}} most kinds kinds Any (assignment_of program most place right) before now (Err why)
    assign_no_place now why place_does =
        does_next most kinds kinds kinds its_cells Any (value_of program most right) given before between now
        copied_cells (Err why) (goes_value_of program most right) does
        (λ datum is. does_stop {T = ℕ} {U = Unit {0}} most kinds kinds kinds
        (IsBehind program variables slot (type_of_place place)) Any
        (place_at program most place) (λ spot. meaning.store_at program.types (type_of_place place) spot datum)
        between now why (λ spot. goes_store program.types (type_of_place place) spot datum) place_does)

    stored_there : (later now : MachineState) (behind : ℕ) (datum : Datum) (spot : Spot)
        → IsWhole program.types (type_of_place place)
        → IsBehind program variables slot (type_of_place place) behind spot
        → Does most kinds kinds Any (change (stored_at (slot_of spot) (path_of spot) datum)) later now (Ok (tt {0}))
        → Does most kinds kinds Any (meaning.store_at program.types (type_of_place place) spot datum) later now
        (Ok (tt {0}))
    stored_there later now behind datum (window found of_component) whole is stores = absurd is
    stored_there later now behind datum (part found path) whole is stores = record {
      each = λ ports run stands within.
          subst (λ (answer : Answer Datum). Done kinds ports Any run.world
          (changed (λ store. then_answer answer (λ checked. fine (stored (along (home_of found run.store) path) checked
          run.store))) run) now (Ok (tt {0})))
          (sym (fits_whole program.types (type_of_place place) whole datum)) (stores.each ports run stands within);
    }

    pub assign_copied : (later now : MachineState) (behind : ℕ)
        → IsWhole program.types (type_of_place place) → Takes program.types (type_of_place place) (type_of right)
        → Does most kinds kinds (IsBehind program variables slot (type_of_place place))
        (place_at program most place) between later (Ok behind)
        → ((datum : Datum) → IsOfType program.types (type_of_place place) datum
        → copied_cells ≡ datum_cells datum → (spot : Spot)
        → IsBehind program variables slot (type_of_place place) behind spot
        → Does most kinds kinds Any (change (stored_at (slot_of spot) (path_of spot) datum)) later now (Ok (tt {0})))
        → Does most kinds kinds Any (assignment_of program most place right) before now (Ok (tt {0}))
    assign_copied later now behind whole takes place_does stores =
        does_next most kinds kinds kinds its_cells Any (value_of program most right) given before between now
        copied_cells (Ok (tt {0})) (goes_value_of program most right) does
        (λ datum is. does_next most kinds kinds kinds
        (IsBehind program variables slot (type_of_place place)) Any
        (place_at program most place) (λ spot. meaning.store_at program.types (type_of_place place) spot datum)
        between later now behind (Ok (tt {0})) (goes_place_at program most place) place_does
        (λ spot spot_is. stored_there later now behind datum spot whole spot_is
        (stores datum (subst (λ type. IsOfType program.types type datum)
        (sym (takes_whole program.types (type_of_place place) whole (type_of right) takes)) is.0) is.1 spot spot_is)))
