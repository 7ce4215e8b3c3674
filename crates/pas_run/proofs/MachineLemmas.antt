-- Steps of a run that a machine makes by itself.
use Rattle.std.proofs.Common.{◌≡◌, ℕ, suc, ◌+◌, ◌-◌, ◌<◌, arith, refl, sym, ap, ◌∙◌, subst, Ok, Some}
use Rattle.std.proofs.Common.{leb-true}
use Rattle.std.proofs.Common.{List, [], length, map, slice_index_or, slice_set, Vec}
use Rattle.std.specs.Vec.{with_item}
use Rattle.std.proofs.lemmas.List.{map-set, get_or-map}
use Rattle.std.specs.Prelude.{nat_le, Bool, true, false, if◌then◌else◌}
use Rattle.pas_meaning.specs.Outcome.{World, Run, gives, passes, stops, too_deep, led, stepped, take_step, begin_call}
use Rattle.pas_meaning.specs.Store.{Store}
use Rattle.pas_meaning.specs.Standing.{Kinds}
use Rattle.pas_run.specs.declared.cells.Address.{Address}
use Rattle.pas_run.specs.declared.cells.Cell.{Cell}
use Rattle.pas_run.specs.inner.FlatStore.{Activations, with_cell}
use Rattle.pas_run.specs.inner.MachineState.{MachineState, IsWorld, IsRun}
use Rattle.pas_run.specs.inner.Doings.{Does, Any}

-- a run with another world
with_world : (kinds : Kinds) (before now : MachineState) {ports : _} (run : Run Store) (world : World)
    → now.activations ≡ before.activations → IsRun kinds ports before run → IsWorld ports now world
    → IsRun kinds ports now (record run { world = world })
with_world kinds before now run world same stands is =
    record { activations = same ∙ stands.activations; stands = stands.stands; world = is }

-- a step is taken
step_from : (left steps : ℕ) (store : Store) (world : World) → left ≡ suc steps
    → led store world (stepped left world) ≡ gives (tt {0}) (record {
      store = store;
      world = record world { steps = steps };
    })
step_from left steps store world is = ap (λ left. led store world (stepped left world)) is

step_before : (most : ℕ) (kinds : Kinds) (before : MachineState) → 0 < before.steps
    → Does most kinds kinds Any (take_step {S = Store}) before (record before { steps = before.steps - 1 })
    (Ok (tt {0}))
step_before most kinds before some = record {
  each = λ ports run stands within. record {
    value = tt {0};
    run = record run { world = record run.world { steps = before.steps - 1 } };
    same = step_from run.world.steps (before.steps - 1) run.store run.world
        (omega (arith, some, stands.world.steps));
    is = tt;
    stands = with_world kinds before (record before { steps = before.steps - 1 }) run _ refl stands
        (record { steps = refl; calls = stands.world.calls; files = stands.world.files });
  };
}

pub step_taken : (most : ℕ) (kinds : Kinds) (view now : MachineState) → view ≡ now → 0 < view.steps
    → Does most kinds kinds Any (take_step {S = Store}) now (record view { steps = view.steps - 1 }) (Ok (tt {0}))
step_taken most kinds view now same some =
    subst (λ (before : MachineState). Does most kinds kinds Any (take_step {S = Store}) before
    (record view { steps = view.steps - 1 }) (Ok (tt {0}))) same (step_before most kinds view some)

-- a call begins
below_limit : (full : Bool) (world : World) (calls : ℕ) (store : Store) → full ≡ false → calls ≡ world.calls + 1
    → led store world (if full then stops too_deep else passes (tt {0}) (record world { calls = world.calls + 1 }))
    ≡ gives (tt {0}) (record { store = store; world = record world { calls = calls } })
below_limit true world calls store is same = cc
below_limit false world calls store is same =
    ap (λ calls. gives (tt {0}) (record { store = store; world = record world { calls = calls } })) (sym same)

not_full : (limit calls : ℕ) (full : Bool) → nat_le limit calls ≡ full → calls < limit → full ≡ false
not_full limit calls true is less = absurd (omega (arith, leb-true limit calls is, less))
not_full limit calls false is less = refl

call_before : (most : ℕ) (kinds : Kinds) (before : MachineState) (limit : ℕ) → before.calls < limit
    → Does most kinds kinds Any (begin_call {S = Store} (Some limit)) before
    (record before { calls = before.calls + 1 })
    (Ok (tt {0}))
call_before most kinds before limit some = record {
  each = λ ports run stands within. record {
    value = tt {0};
    run = record run { world = record run.world { calls = before.calls + 1 } };
    same = below_limit (nat_le limit run.world.calls) run.world (before.calls + 1) run.store
        (not_full limit run.world.calls (nat_le limit run.world.calls) refl (omega (arith, some, stands.world.calls)))
        (ap (λ calls. calls + 1) stands.world.calls);
    is = tt;
    stands = with_world kinds before (record before { calls = before.calls + 1 }) run _ refl stands
        (record { steps = stands.world.steps; calls = refl; files = stands.world.files });
  };
}

pub call_begun : (most : ℕ) (kinds : Kinds) (view now : MachineState) (limit : ℕ) → view ≡ now → view.calls < limit
    → Does most kinds kinds Any (begin_call {S = Store} (Some limit)) now (record view { calls = view.calls + 1 })
    (Ok (tt {0}))
call_begun most kinds view now limit same some =
    subst (λ (before : MachineState). Does most kinds kinds Any (begin_call {S = Store} (Some limit)) before
    (record view { calls = view.calls + 1 }) (Ok (tt {0}))) same (call_before most kinds view limit some)

-- a cell of one of several vectors is set
pub cell_set : {G : Type 0} (activations : List (Vec Cell G)) (row : Vec Cell G) (at : Address) (cell : Cell)
    → row ≡ slice_index_or activations at.activation row → at.activation < length activations
    → map (λ (cells : Vec Cell G). cells.items) (slice_set activations at.activation (with_item row at.offset cell))
    ≡ with_cell at cell (map (λ (cells : Vec Cell G). cells.items) activations)
cell_set {G} activations row at cell is less =
    map-set (λ (cells : Vec Cell G). cells.items) activations at.activation (with_item row at.offset cell)
    ∙ ap (λ (cells : List Cell). slice_set (map (λ (cells : Vec Cell G). cells.items) activations) at.activation
    (slice_set cells at.offset cell))
    (ap (λ (cells : Vec Cell G). cells.items) is
    ∙ sym (get_or-map (λ (cells : Vec Cell G). cells.items) activations at.activation row [] less))

-- a machine with other cells
pub cells_changed : (view now : MachineState) (change : Activations → Activations) (rows : Activations) → view ≡ now
    → rows ≡ change view.activations
    → record view { activations = rows } ≡ record now { activations = change now.activations }
cells_changed view now change rows same is =
    ap (λ (rows : Activations). record view { activations = rows }) is
    ∙ ap (λ (machine : MachineState). record machine { activations = change machine.activations }) same
