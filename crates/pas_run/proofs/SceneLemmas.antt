-- Where the variables of a scene are.
use Rattle.std.proofs.Common.{◌≡◌, ℕ, zero, suc, ◌+◌, ◌-◌, ◌<◌, List, [], ◌∷◌, ◌++◌, length, map, Option, Some}
use Rattle.std.proofs.Common.{slice_index_or, arith, refl, sym, ap, ap₂, ◌∙◌}
use Rattle.std.proofs.lemmas.List.{length-map}
use Rattle.std.proofs.lemmas.Option.{slice_get_within}
use Rattle.pas_typed.specs.Types.{PasType}
use Rattle.pas_typed.specs.Typed as typed
use Rattle.pas_typed.specs.Typed.{Home, Mode, Variable, Slot, TypedProgram}
use Rattle.pas_typed.specs.Lawful.{variables_of, IsLawfulSlot, IsDeclared}
use Rattle.pas_typed.specs.Shapes.{Shape, shape_of}
use Rattle.wb_ports.specs.PortState.{PortState}
use Rattle.pas_meaning.specs.Outcome.{Run}
use Rattle.pas_meaning.specs.Store.{Store, cell_at, home_by, home_of, top_of, followed}
use Rattle.pas_meaning.specs.Standing.{Kind, kind_by, kind_of, Kinds, kind_at, Stands}
use Rattle.pas_meaning.proofs.PlaceKeeps.{all_get}
use Rattle.pas_run.specs.declared.cells.Address.{Address}
use Rattle.pas_run.specs.declared.layouts.Layout.{Layout}
use Rattle.pas_run.specs.declared.layouts.Layouts.{Layouts}
use Rattle.pas_run.specs.inner.FlatStore.{cells_for, cells_before, address_of, flat_row, flat_store}
use Rattle.pas_run.specs.inner.FlatStore.{cell_in, behind_by}
use Rattle.pas_run.specs.inner.MachineState.{MachineState, IsRun}
use Rattle.pas_run.specs.inner.Scenes.{IsAt, activation_by, own_address, home_in}
use Rattle.pas_run.proofs.FlatLemmas as flat

-- others behind a variable change nothing before it
pub before_append : (row others : List Kind) (variable : ℕ) → variable < length row
    → cells_before (row ++ others) variable ≡ cells_before row variable
before_append [] others variable less = absurd (omega (arith, less))
before_append (kind ∷ row) others zero less = refl
before_append (kind ∷ row) others (suc variable) less =
    ap (λ cells. cells_for kind + cells) (before_append row others variable (omega (arith, less)))

module _ (program : TypedProgram) (layouts : Layouts) (locals : Layout) (variables : List Variable)
    (result : Option PasType) (kinds : Kinds) (at : IsAt program layouts locals variables result kinds) where
  -- where the cells of a variable begin, in the code and as the kinds say
  local_begins : (number : ℕ) → number < length variables → slice_index_or locals.offsets number 0
      ≡ cells_before (slice_index_or kinds (length kinds - 1) []) number
  local_begins number less =
      at.laid.each number less
      ∙ sym (before_append (map (kind_of program.types) variables) at.others number
      (omega (arith, less, length-map variables (kind_of program.types))))
      ∙ sym (ap (λ row. cells_before row number) at.top_row)

  global_begins : (number : ℕ) → number < length program.globals → slice_index_or layouts.globals.offsets number 0
      ≡ cells_before (slice_index_or kinds 0 []) number
  global_begins number less =
      at.all_laid.globals.each number less ∙ sym (ap (λ row. cells_before row number) at.global_row)

  -- the address of a variable, by its kind
  own_by : (store : Store) (activation number : ℕ) (mode : Mode) (shape : Shape) (own : Address) → Stands kinds store
      → kind_at kinds activation number ≡ Some (kind_by mode shape)
      → own ≡ record {
        activation = activation;
        offset = cells_before (slice_index_or kinds activation []) number;
      }
      → address_of kinds (followed activation number (cell_at activation number store))
      ≡ home_in mode own (cell_in own (flat_store kinds store))
  own_by store activation number typed.declared shape own stands there same =
      flat.own_address kinds store activation number stands shape there ∙ sym same
  own_by store activation number typed.by_value shape own stands there same =
      flat.own_address kinds store activation number stands shape there ∙ sym same
  own_by store activation number typed.by_name shape own stands there same =
      sym (ap (home_in typed.by_name own)
      (ap (λ own. cell_in own (flat_store kinds store)) same
      ∙ flat.named_address kinds store activation number stands shape there))

  global_home : (store : Store) (slot : Slot) (top : ℕ) → IsDeclared program.globals slot
      → slot.home ≡ typed.global
      → address_of kinds (record { activation = 0; variable = slot.number; path = [] })
      ≡ home_in slot.mode (own_address layouts.globals locals top typed.global slot.number)
      (cell_in (own_address layouts.globals locals top typed.global slot.number) (flat_store kinds store))
  global_home store slot top is home =
      let begins : slice_index_or layouts.globals.offsets slot.number 0
      ≡ cells_before (slice_index_or kinds 0 []) slot.number =
      global_begins slot.number (slice_get_within program.globals slot.number is.variable is.there) in
      let mode : slot.mode ≡ typed.declared =
      sym is.mode ∙ all_get (λ (found : Variable). found.mode ≡ typed.declared) program.globals slot.number
      is.variable at.lawful.globals is.there in
      ap (λ (at : ℕ). record { activation = 0; offset = at }) (omega (arith, begins))
      ∙ sym (ap (λ mode. home_in mode (own_address layouts.globals locals top typed.global slot.number)
      (cell_in (own_address layouts.globals locals top typed.global slot.number) (flat_store kinds store))) mode)

  home_law_by : (home : Home) (store : Store) (slot : Slot) → Stands kinds store → slot.home ≡ home
      → IsDeclared (variables_of program variables home) slot
      → address_of kinds (home_by home slot.number store)
      ≡ home_in slot.mode (own_address layouts.globals locals (top_of store) home slot.number)
      (cell_in (own_address layouts.globals locals (top_of store) home slot.number) (flat_store kinds store))
  home_law_by typed.global store slot stands home is = global_home store slot (top_of store) is home
  home_law_by typed.local store slot stands home is =
      let top : top_of store ≡ length kinds - 1 = ap (λ rows. rows - 1) stands.rows in
      let there : kind_at kinds (top_of store) slot.number
      ≡ Some (kind_by slot.mode (shape_of program.types is.variable.type)) =
      ap (λ activation. kind_at kinds activation slot.number) top
      ∙ at.knows.locals slot.number is.variable is.there
      ∙ ap (λ mode. Some (kind_by mode (shape_of program.types is.variable.type))) is.mode in
      own_by store (top_of store) slot.number slot.mode (shape_of program.types is.variable.type) _ stands there
      (ap (λ (at : ℕ). record { activation = top_of store; offset = at })
      (local_begins slot.number (slice_get_within variables slot.number is.variable is.there)
      ∙ ap (λ activation. cells_before (slice_index_or kinds activation []) slot.number) (sym top)))

  pub home_law : (store : Store) (slot : Slot) → Stands kinds store → IsLawfulSlot program variables slot
      → address_of kinds (home_of slot store)
      ≡ home_in slot.mode (own_address layouts.globals locals (top_of store) slot.home slot.number)
      (cell_in (own_address layouts.globals locals (top_of store) slot.home slot.number) (flat_store kinds store))
  home_law store slot stands is = home_law_by slot.home store slot stands refl is

  -- the same over a machine
  pub home_found : (ports : List PortState) (machine : MachineState) (run : Run Store) (slot : Slot)
      → IsRun kinds ports machine run → IsLawfulSlot program variables slot
      → home_in slot.mode (own_address layouts.globals locals (length machine.activations - 1) slot.home slot.number)
      (cell_in (behind_by 0 (own_address layouts.globals locals (length machine.activations - 1) slot.home slot.number))
      machine.activations)
      ≡ address_of kinds (home_of slot run.store)
  home_found ports machine run slot stands is =
      let many : length machine.activations - 1 ≡ top_of run.store =
      omega (arith, ap length stands.activations, length-map run.store (flat_row kinds)) in
      ap₂ (λ top rows. home_in slot.mode (own_address layouts.globals locals top slot.home slot.number)
      (cell_in (behind_by 0 (own_address layouts.globals locals top slot.home slot.number)) rows))
      many stands.activations
      ∙ ap (λ (offset : ℕ). home_in slot.mode
      (own_address layouts.globals locals (top_of run.store) slot.home slot.number)
      (cell_in (record {
        activation = activation_by slot.home (top_of run.store);
        offset = offset;
      }) (flat_store kinds run.store))) (omega arith)
      ∙ sym (home_law run.store slot stands.stands is)
