-- The cell of the result of a function, behind its variables.
use Rattle.std.proofs.Common.{◌≡◌, ℕ, ◌+◌, ◌-◌, ℤ, List, [], ◌∷◌, ◌++◌, length, map, slice_index_or, arith}
use Rattle.std.proofs.Common.{refl, sym, ap, ap₂, ◌∙◌, subst, Option, Some, Ok}
use Rattle.std.proofs.lemmas.List.{length-map}
use Rattle.pas_typed.specs.Types.{PasType}
use Rattle.pas_typed.specs.Typed.{Variable, TypedProgram}
use Rattle.pas_typed.specs.Shapes.{one_cell, offset}
use Rattle.pas_meaning.specs.Outcome.{change}
use Rattle.pas_meaning.specs.Store.{Datum, own, Reference, Store, top_of, number_in}
use Rattle.pas_meaning.specs.Run.{with_result}
use Rattle.pas_meaning.specs.Cells.{IsShaped}
use Rattle.pas_meaning.specs.Standing.{Kind, plain, kind_of, Kinds, kind_at, Aims, Stands}
use Rattle.pas_meaning.proofs.StandingLemmas.{stands_set}
use Rattle.pas_run.specs.declared.cells.Address.{Address}
use Rattle.pas_run.specs.declared.cells.Cell.TheVariants.{Holds}
use Rattle.pas_run.specs.declared.layouts.Layout.{Layout}
use Rattle.pas_run.specs.declared.layouts.Layouts.{Layouts}
use Rattle.pas_run.specs.inner.FlatStore.{cells_for, cells_before, root_of, address_of, number_cell, flat_row}
use Rattle.pas_run.specs.inner.FlatStore.{flat_store, with_cell, behind_by}
use Rattle.pas_run.specs.inner.MachineState.{MachineState, IsRun}
use Rattle.pas_run.specs.inner.Doings.{Any, Does}
use Rattle.pas_run.specs.inner.Scenes.{IsAt}
use Rattle.pas_run.proofs.FlatLemmas.{cell-stored}

before_all : (row others : List Kind) → cells_before (row ++ others) (length row) ≡ cells_before row (length row)
before_all [] [] = refl
before_all [] (kind ∷ others) = refl
before_all (kind ∷ row) others = ap (λ cells. cells_for kind + cells) (before_all row others)

module _ (program : TypedProgram) (layouts : Layouts) (locals : Layout) (variables : List Variable)
    (result : Option PasType) (kinds : Kinds) (at : IsAt program layouts locals variables result kinds)
    (type : PasType) (function : result ≡ Some type) where
  result_there : (store : Store) → Stands kinds store
      → kind_at kinds (top_of store) (length variables) ≡ Some (plain one_cell)
  result_there store stands =
      ap (λ rows. kind_at kinds (rows - 1) (length variables)) stands.rows ∙ at.knows.result_cell type function

  result_cell : Store → Reference
  result_cell store = record { activation = top_of store; variable = length variables; path = [] }

  result_aims : (store : Store) → Stands kinds store → Aims kinds (result_cell store) one_cell
  unfolding result_cell
  result_aims store stands = record { root = one_cell; there = result_there store stands; leads = refl }

  begins : (store : Store) → Stands kinds store
      → cells_before (slice_index_or kinds (top_of store) []) (length variables) ≡ locals.cells
  begins store stands =
      ap (λ rows. cells_before (slice_index_or kinds (rows - 1) []) (length variables)) stands.rows
      ∙ ap (λ row. cells_before row (length variables)) at.top_row
      ∙ ap (cells_before (map (kind_of program.types) variables ++ at.others))
      (sym (length-map variables (kind_of program.types)))
      ∙ before_all (map (kind_of program.types) variables) at.others
      ∙ ap (cells_before (map (kind_of program.types) variables)) (length-map variables (kind_of program.types))
      ∙ sym at.laid.cells

  result_address : (store : Store) → Stands kinds store
      → address_of kinds (result_cell store) ≡ record { activation = top_of store; offset = locals.cells }
  unfolding result_cell
  result_address store stands =
      ap₂ (λ (first : ℕ) (kind : Option Kind). record {
        activation = top_of store;
        offset = first + offset (root_of kind) [];
      }) (begins store stands) (result_there store stands)
      ∙ ap (λ (at : ℕ). record { activation = top_of store; offset = at }) (omega arith)

  result_stored : (store : Store) → Stands kinds store → (datum : Datum) → IsShaped one_cell datum
      → flat_store kinds (with_result (length variables) datum store)
      ≡ with_cell (record { activation = top_of store; offset = locals.cells }) (number_cell (number_in datum))
      (flat_store kinds store)
  unfolding result_cell
  result_stored store stands datum one =
      cell-stored kinds store (result_cell store) stands (result_aims store stands) datum one
      ∙ ap (λ (address : Address). with_cell address (number_cell (number_in datum)) (flat_store kinds store))
      (result_address store stands)

  pub does_result : (machine now : MachineState) (number : ℤ) (datum : Datum) → IsShaped one_cell datum
      → number_in datum ≡ Some number
      → now ≡ record machine {
        activations = with_cell (behind_by 0 (record {
          activation = length machine.activations - 1;
          offset = locals.cells;
        })) (Holds number) machine.activations;
      } → (most : ℕ)
      → Does most kinds kinds Any (change (with_result (length variables) datum)) machine now (Ok (tt {0}))
  does_result machine now number datum one is same most = record {
    each = λ ports run stands within.
        let top : length machine.activations - 1 ≡ top_of run.store =
        omega (arith, ap length stands.activations, length-map run.store (flat_row kinds)) in
        record {
          value = tt {0};
          run = record run { store = with_result (length variables) datum run.store };
          same = refl;
          is = tt;
          stands = subst (λ machine. IsRun kinds ports machine (record run {
            store = with_result (length variables) datum run.store;
          })) (sym same) (record {
            activations = ap (λ (address : Address). with_cell address (Holds number) machine.activations)
                (ap₂ (λ (activation offset : ℕ). record { activation = activation; offset = offset }) top (omega arith))
                ∙ ap (λ rows. with_cell (record { activation = top_of run.store; offset = locals.cells }) (Holds number)
                rows) stands.activations
                ∙ ap (λ number. with_cell (record { activation = top_of run.store; offset = locals.cells })
                (number_cell number) (flat_store kinds run.store)) (sym is)
                ∙ sym (result_stored run.store stands.stands datum one);
            stands = stands_set kinds run.store (top_of run.store) (length variables) (plain one_cell) (own datum)
                stands.stands (result_there run.store stands.stands) one;
            world = record {
              steps = stands.world.steps;
              calls = stands.world.calls;
              files = stands.world.files;
            };
          });
        };
  }
