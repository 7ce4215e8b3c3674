-- Parts of variables over a machine: what is read there and what is stored there.
use Rattle.std.proofs.Common.{◌≡◌, ℕ, ◌+◌, List, [], Option, ℤ, arith, refl, sym, ap, ap₂, ◌∙◌, subst}
use Rattle.std.proofs.Common.{slice_index_or, nat_abs, append-nil, Ok, Err, Result}
use Rattle.wb_ports.specs.PortState.{PortState}
use Rattle.pas_typed.specs.Types.{PasType}
use Rattle.pas_typed.specs.Typed.{Variable, Slot, TypedProgram}
use Rattle.pas_typed.specs.Lawful.{IsLawful, IsLawfulSlot, IsFile}
use Rattle.pas_typed.specs.Shapes.{Shape, one_cell, shape_of, Leads, offset}
use Rattle.pas_typed.proofs.ShapeLemmas.{offset_on, shape_of-file}
use Rattle.pas_meaning.specs.Answers.{Answer, then_answer}
use Rattle.pas_meaning.specs.Outcome.{World, Run, change}
use Rattle.pas_meaning.specs.FileSteps.{file_named}
use Rattle.pas_meaning.specs.Run.{file_of}
use Rattle.pas_meaning.specs.Store.{Datum, Reference, Store, home_of, along, fetched, stored}
use Rattle.pas_meaning.specs.Store.{number_in, number_at}
use Rattle.pas_meaning.specs.Cells.{IsShaped}
use Rattle.pas_meaning.specs.Standing.{Kinds, kind_at, Aims}
use Rattle.pas_meaning.proofs.StandingLemmas.{aims_along, stands_stored}
use Rattle.pas_meaning.proofs.PlaceKeeps.{slot_aims}
use Rattle.pas_run.specs.declared.cells.Address.{Address}
use Rattle.pas_run.specs.declared.layouts.Layout.{Layout}
use Rattle.pas_run.specs.declared.layouts.Layouts.{Layouts}
use Rattle.pas_run.specs.inner.FlatStore.{cells_before, root_of, address_of, number_cell, cell_in}
use Rattle.pas_run.specs.inner.FlatStore.{with_cell}
use Rattle.pas_run.specs.inner.FlatStore.{behind_by}
use Rattle.pas_run.specs.inner.MachineState.{MachineState, IsRun}
use Rattle.pas_run.specs.inner.Scenes.{IsAt, IsCell}
use Rattle.pas_run.specs.inner.Doings.{Any, Same, Does, Answers, stored_at}
use Rattle.pas_run.specs.declared.ends.Stop.{Stop}
use Rattle.pas_run.proofs.DoesLemmas.{then_stops, then_answers}
use Rattle.pas_run.proofs.FlatLemmas.{cell-fetched, cell-stored}

-- a part begins behind the begin of what it is a part of
pub address_along : (kinds : Kinds) (reference : Reference) (shape part : Shape) (path : List ℕ)
    → Aims kinds reference shape → Leads shape path part
    → address_of kinds (along reference path) ≡ behind_by (offset shape path) (address_of kinds reference)
address_along kinds reference shape part path aims leads =
    let root : root_of (kind_at kinds reference.activation reference.variable) ≡ aims.root =
    ap root_of aims.there in
    let begin = cells_before (slice_index_or kinds reference.activation []) reference.variable in
    ap (λ (cells : ℕ). record { activation = reference.activation; offset = begin + cells })
    (ap (λ root. offset root (along reference path).path) root
    ∙ offset_on reference.path path aims.root shape aims.leads
    ∙ ap (λ root. offset root reference.path + offset shape path) (sym root))
    ∙ ap (λ (cells : ℕ). record { activation = reference.activation; offset = cells }) (omega arith)

module _ (program : TypedProgram) (layouts : Layouts) (locals : Layout) (variables : List Variable)
    (result : Option PasType) (kinds : Kinds) (at : IsAt program layouts locals variables result kinds)
    (ports : List PortState) (machine : MachineState) (run : Run Store) (slot : Slot)
    (stands : IsRun kinds ports machine run) (is : IsLawfulSlot program variables slot) (path : List ℕ) where
  abbrev shape : Shape
  shape = shape_of program.types slot.type

  its_aims : Aims kinds (home_of slot run.store) shape
  its_aims = slot_aims program at.lawful variables result kinds at.knows slot run.store stands.stands is

  -- a number
  pub part_number : Leads shape path one_cell
      → cell_in (behind_by (offset shape path) (address_of kinds (home_of slot run.store))) machine.activations
      ≡ number_cell (number_in (fetched (along (home_of slot run.store) path) run.store))
  part_number leads =
      ap₂ cell_in (sym (address_along kinds (home_of slot run.store) shape one_cell path its_aims leads))
      stands.activations
      ∙ cell-fetched kinds run.store (along (home_of slot run.store) path) stands.stands
      (aims_along kinds (home_of slot run.store) shape one_cell path its_aims leads)

  -- and one that is stored, or becomes undefined
  pub part_stored : (new : Datum) → Leads shape path one_cell → IsShaped one_cell new
      → IsRun kinds ports (record machine {
        activations = with_cell (behind_by (offset shape path) (address_of kinds (home_of slot run.store)))
            (number_cell (number_in new)) machine.activations;
      }) (record run { store = stored (along (home_of slot run.store) path) new run.store })
  part_stored new leads one = record {
    activations = ap₂ (λ address rows. with_cell address (number_cell (number_in new)) rows)
        (sym (address_along kinds (home_of slot run.store) shape one_cell path its_aims leads)) stands.activations
        ∙ sym (cell-stored kinds run.store (along (home_of slot run.store) path) stands.stands
        (aims_along kinds (home_of slot run.store) shape one_cell path its_aims leads) new one);
    stands = stands_stored kinds run.store (along (home_of slot run.store) path) one_cell new stands.stands
        (aims_along kinds (home_of slot run.store) shape one_cell path its_aims leads) one;
    world = record {
      steps = stands.world.steps;
      calls = stands.world.calls;
      files = stands.world.files;
    };
  }

-- storing a number as something that is done
pub does_store : (program : TypedProgram) (layouts : Layouts) (locals : Layout) (variables : List Variable)
    (result : Option PasType) (kinds : Kinds) → IsAt program layouts locals variables result kinds
    → (machine now : MachineState) (slot : Slot) → IsLawfulSlot program variables slot → (path : List ℕ) (behind : ℕ)
    → IsCell program slot path behind → (most : ℕ) (datum : Datum) → IsShaped one_cell datum → (home : Address)
    → ((ports : List PortState) (run : Run Store) → IsRun kinds ports machine run
    → home ≡ address_of kinds (home_of slot run.store))
    → now ≡ record machine {
      activations = with_cell (behind_by behind home) (number_cell (number_in datum)) machine.activations;
    }
    → Does most kinds kinds Any (change (stored_at slot path datum)) machine now (Ok (tt {0}))
does_store program layouts locals variables result kinds at machine now slot is path behind leads most datum one home
    found same = record {
      each = λ ports run stands within. record {
        value = tt {0};
        run = record run { store = stored_at slot path datum run.store };
        same = refl;
        is = tt;
        stands = subst (λ machine. IsRun kinds ports machine (record run {
          store = stored_at slot path datum run.store;
        }))
            (sym (same ∙ ap₂ (λ behind home. record machine {
              activations = with_cell (behind_by behind home) (number_cell (number_in datum)) machine.activations;
            }) leads.begins (found ports run stands)))
            (part_stored program layouts locals variables result kinds at ports machine run slot stands is path datum
            leads.leads one);
      };
    }

-- the cell that a file variable is, and its file
pub file_cell : (program : TypedProgram) (slot : Slot) → IsLawful program → IsFile program.types slot.type
    → IsCell program slot [] 0
file_cell program slot lawful is =
    record { leads = shape_of-file program.types slot.type lawful.types is; begins = refl }

pub no_path : (reference : Reference) → along reference [] ≡ reference
no_path reference =
    ap (λ path. record { activation = reference.activation; variable = reference.variable; path = path })
    (append-nil reference.path)

module _ (slot : Slot) (store : Store) (world : World) where
  its_number : Answer ℤ
  its_number = number_at (along (home_of slot store) []) store

  file_by : file_of slot store world ≡ then_answer its_number (λ value. file_named (nat_abs value) world)
  unfolding its_number
  file_by =
      ap (λ reference. then_answer (number_at reference store) (λ value. file_named (nat_abs value) world))
      (sym (no_path (home_of slot store)))

  pub file_stop : (why : Stop) → Answers {T = ℤ} Same (number_at (along (home_of slot store) []) store) (Err why)
      → Answers {T = ℕ} Same (file_of slot store world) (Err why)
  unfolding its_number
  file_stop why is =
      subst (λ answer. Answers {T = ℕ} Same answer (Err why)) (sym file_by)
      (then_stops Same Same its_number (λ value. file_named (nat_abs value) world) why is)

  pub file_next : (found : ℤ) (result : Result ℕ Stop)
      → Answers Same (number_at (along (home_of slot store) []) store) (Ok found)
      → Answers Same (file_named (nat_abs found) world) result → Answers Same (file_of slot store world) result
  unfolding its_number
  file_next found result is answers =
      subst (λ answer. Answers Same answer result) (sym file_by)
      (then_answers Same Same its_number (λ value. file_named (nat_abs value) world) found result is
      (λ value same. subst (λ value. Answers Same (file_named (nat_abs value) world) result) same answers))
