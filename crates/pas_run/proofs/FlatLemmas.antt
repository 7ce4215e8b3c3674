-- Activations in flat cells: what stands at a reference is a slice of them, and storing there changes that slice.
use Rattle.std.proofs.Common.{◌≡◌, ℕ, zero, suc, ◌+◌, ◌<◌, ◌≤◌, List, [], ◌∷◌, ◌++◌, length, map, take, drop}
use Rattle.std.proofs.Common.{ℤ, Option, Some, slice_get, slice_set, slice_index_or, arith, refl, sym, ap, ap₂}
use Rattle.std.proofs.Common.{◌∙◌, append_assoc, length-append}
use Rattle.std.proofs.lemmas.List.{take_at, drop_at, get_or_at, set_at, map-append, length-map, map-set, get_or-map}
use Rattle.std.proofs.lemmas.List.{take-map, get_or_append_left}
use Rattle.pas_typed.specs.Shapes.{Shape, one_cell, size, offset}
use Rattle.pas_meaning.specs.Store as pascal
use Rattle.pas_meaning.specs.Store.{Datum, undefined, own, refers, Reference, Store, cell_at, held_by, number_in}
use Rattle.pas_meaning.specs.Store.{part_at, with_part_at, fetched, stored, opened, closed, top_of, followed}
use Rattle.pas_meaning.specs.Cells.{IsShaped, flat}
use Rattle.pas_meaning.specs.Standing.{Kind, plain, named, Kinds, kind_at, Aims, Matches, Stands}
use Rattle.pas_meaning.proofs.CellLemmas.{length-flat, StandsAt, stands_at}
use Rattle.pas_meaning.proofs.StandingLemmas.{AllMatch, kind_row, kind_stays, fetched_shaped, stands_closed}
use Rattle.pas_run.specs.declared.cells.Address.{Address}
use Rattle.pas_run.specs.declared.cells.Cell.{Cell}
use Rattle.pas_run.specs.declared.cells.Cell.TheVariants.{Undefined, Refers}
use Rattle.pas_run.specs.inner.FlatStore.{cells_for, cells_before, root_of, address_of, number_cell, datum_cells}
use Rattle.pas_run.specs.inner.FlatStore.{flat_cell, flat_row, flat_store, cell_in, with_cell, cells_at, over}
use Rattle.pas_run.specs.inner.FlatStore.{with_cells}

-- what stands for a variable has as many cells as its kind
pub length-datum_cells : (shape : Shape) (datum : Datum) → IsShaped shape datum
    → length (datum_cells datum) ≡ size shape
length-datum_cells shape datum is = omega (arith, length-map (flat datum) number_cell, length-flat shape datum is)

pub length-flat_cell : (kinds : Kinds) (activation : ℕ) (kind : Kind) (cell : pascal.Cell)
    → Matches kinds activation kind cell → length (flat_cell kinds cell) ≡ cells_for kind
length-flat_cell kinds activation (plain shape) (own datum) is = length-datum_cells shape datum is
length-flat_cell kinds activation (plain shape) (refers reference) is = absurd is
length-flat_cell kinds activation (named shape) (own datum) is = absurd is
length-flat_cell kinds activation (named shape) (refers reference) is = refl

-- the cells of an activation match its kinds
all_match : (kinds : Kinds) (activation : ℕ) (row : List Kind) (cells : List pascal.Cell) → length cells ≡ length row
    → ((variable : ℕ) (kind : Kind) → slice_get row variable ≡ Some kind
    → Matches kinds activation kind (slice_index_or cells variable (own undefined)))
    → AllMatch kinds activation row cells
all_match kinds activation [] [] long each = tt
all_match kinds activation [] (cell ∷ cells) long each = absurd (omega (arith, long))
all_match kinds activation (kind ∷ row) [] long each = absurd (omega (arith, long))
all_match kinds activation (kind ∷ row) (cell ∷ cells) long each = (
  each 0 kind refl,
  all_match kinds activation row cells (omega (arith, long)) (λ variable its there. each (suc variable) its there),
)

pub row_matches : (kinds : Kinds) (store : Store) (activation : ℕ) → Stands kinds store
    → AllMatch kinds activation (slice_index_or kinds activation []) (slice_index_or store activation [])
row_matches kinds store activation stands =
    all_match kinds activation (slice_index_or kinds activation []) (slice_index_or store activation [])
    (stands.row activation) (λ variable kind there. stands.cells activation variable kind there)

-- where the cells of a variable stand: these before it and these behind it, also where it is another one
pub record VariableStands (kinds : Kinds) (cells : List pascal.Cell) (variable at : ℕ) : Type 0 where
  pub before : List Cell
  pub behind : List Cell
  pub begins : length before ≡ at
  pub now : flat_row kinds cells
      ≡ before ++ (flat_cell kinds (slice_index_or cells variable (own undefined)) ++ behind)
  pub after : (new : pascal.Cell) → flat_row kinds (slice_set cells variable new)
      ≡ before ++ (flat_cell kinds new ++ behind)

pub variable_stands : (kinds : Kinds) (activation : ℕ) (row : List Kind) (cells : List pascal.Cell) (variable : ℕ)
    (kind : Kind) → AllMatch kinds activation row cells → slice_get row variable ≡ Some kind
    → VariableStands kinds cells variable (cells_before row variable)
variable_stands kinds activation [] cells variable kind all there = absurd (cc)
variable_stands kinds activation (first ∷ row) [] variable kind all there = absurd all
variable_stands kinds activation (first ∷ row) (cell ∷ cells) zero kind all there =
    record { before = []; behind = flat_row kinds cells; begins = refl; now = refl; after = λ new. refl }
variable_stands kinds activation (first ∷ row) (cell ∷ cells) (suc variable) kind all there =
    let on = variable_stands kinds activation row cells variable kind all.1 there in
    let own_cells = flat_cell kinds cell in
    record {
      before = own_cells ++ on.before;
      behind = on.behind;
      begins = omega (
        arith,
        length-append own_cells on.before,
        length-flat_cell kinds activation first cell all.0,
        on.begins,
      );
      now = ap (λ others. own_cells ++ others) on.now ∙ sym (append_assoc own_cells on.before _);
      after = λ new. ap (λ others. own_cells ++ others) (on.after new) ∙ sym (append_assoc own_cells on.before _);
    }

-- the cells of a reference
regroup : {A : Type 0} (a b c d e : List A) → a ++ ((b ++ (c ++ d)) ++ e) ≡ (a ++ b) ++ (c ++ (d ++ e))
regroup a b c d e = simp append_assoc

map_three : (before datum behind : List (Option ℤ)) → map number_cell (before ++ (datum ++ behind))
    ≡ map number_cell before ++ (map number_cell datum ++ map number_cell behind)
map_three before datum behind =
    map-append number_cell before (datum ++ behind)
    ∙ ap (λ others. map number_cell before ++ others) (map-append number_cell datum behind)

own_held : (kinds : Kinds) (activation : ℕ) (root : Shape) (cell : pascal.Cell)
    → Matches kinds activation (plain root) cell → (cell ≡ own (held_by cell)) × IsShaped root (held_by cell)
own_held kinds activation root (own datum) is = (refl, is)
own_held kinds activation root (refers reference) is = absurd is

module _ (kinds : Kinds) (store : Store) (reference : Reference) (shape : Shape) (stands : Stands kinds store)
    (aims : Aims kinds reference shape) where
  abbrev its_row : List pascal.Cell
  its_row = slice_index_or store reference.activation []

  abbrev its_cell : pascal.Cell
  its_cell = cell_at reference.activation reference.variable store

  abbrev address : Address
  address = address_of kinds reference

  row_there : reference.activation < length store
  row_there =
      omega (
        arith,
        kind_row kinds reference.activation reference.variable (plain aims.root) aims.there,
        stands.rows,
      )

  held : (its_cell ≡ own (held_by its_cell)) × IsShaped aims.root (held_by its_cell)
  held =
      own_held kinds reference.activation aims.root its_cell
      (stands.cells reference.activation reference.variable (plain aims.root) aims.there)

  variable_there : VariableStands kinds its_row reference.variable
      (cells_before (slice_index_or kinds reference.activation []) reference.variable)
  variable_there =
      variable_stands kinds reference.activation (slice_index_or kinds reference.activation []) its_row
      reference.variable
      (plain aims.root) (row_matches kinds store reference.activation stands) aims.there

  part_there : StandsAt (held_by its_cell) reference.path (offset aims.root reference.path)
  part_there = stands_at reference.path aims.root shape (held_by its_cell) held.1 aims.leads

  abbrev cells_now : List Cell
  cells_now = variable_there.before ++ map number_cell part_there.before

  abbrev cells_behind : List Cell
  cells_behind = map number_cell part_there.behind ++ variable_there.behind

  begins : length cells_now ≡ address.offset
  begins =
      let root : root_of (kind_at kinds reference.activation reference.variable) ≡ aims.root =
      ap root_of aims.there in
      omega (
        arith,
        length-append variable_there.before (map number_cell part_there.before),
        length-map part_there.before number_cell,
        variable_there.begins,
        part_there.begins,
        ap (λ root. offset root reference.path) root,
      )

  row_now : flat_row kinds its_row ≡ cells_now ++ (datum_cells (fetched reference store) ++ cells_behind)
  row_now =
      variable_there.now
      ∙ ap (λ cell. variable_there.before ++ (flat_cell kinds cell ++ variable_there.behind)) held.0
      ∙ ap (λ cells. variable_there.before ++ (map number_cell cells ++ variable_there.behind)) part_there.now
      ∙ ap (λ cells. variable_there.before ++ (cells ++ variable_there.behind))
      (map_three part_there.before (flat (part_at reference.path (held_by its_cell))) part_there.behind)
      ∙ regroup variable_there.before (map number_cell part_there.before) _ (map number_cell part_there.behind)
      variable_there.behind

  row_after : (new : Datum)
      → flat_row kinds (slice_set its_row reference.variable (own (with_part_at reference.path new (held_by its_cell))))
      ≡ cells_now ++ (datum_cells new ++ cells_behind)
  row_after new =
      variable_there.after (own (with_part_at reference.path new (held_by its_cell)))
      ∙ ap (λ cells. variable_there.before ++ (map number_cell cells ++ variable_there.behind)) (part_there.after new)
      ∙ ap (λ cells. variable_there.before ++ (cells ++ variable_there.behind))
      (map_three part_there.before (flat new) part_there.behind)
      ∙ regroup variable_there.before (map number_cell part_there.before) _ (map number_cell part_there.behind)
      variable_there.behind

  row_flat : slice_index_or (flat_store kinds store) reference.activation [] ≡ flat_row kinds its_row
  row_flat = get_or-map (flat_row kinds) store reference.activation [] [] row_there

  -- its cells are there
  pub address_there : address.activation < length (flat_store kinds store)
  address_there = omega (arith, length-map store (flat_row kinds), row_there)

  pub address_within : address.offset + size shape
      ≤ length (slice_index_or (flat_store kinds store) address.activation [])
  address_within =
      omega (
        arith,
        ap length (row_flat ∙ row_now),
        length-append cells_now (datum_cells (fetched reference store) ++ cells_behind),
        length-append (datum_cells (fetched reference store)) cells_behind,
        begins,
        length-datum_cells shape (fetched reference store)
            (fetched_shaped kinds store reference shape stands aims),
      )

  -- what is there is a slice of its activation
  pub flat-fetched : cells_at address (size shape) (flat_store kinds store) ≡ datum_cells (fetched reference store)
  flat-fetched =
      ap (λ cells. take (size shape) (drop address.offset cells)) (row_flat ∙ row_now)
      ∙ ap (take (size shape)) (drop_at cells_now _ address.offset begins)
      ∙ take_at (datum_cells (fetched reference store)) cells_behind (size shape)
      (length-datum_cells shape (fetched reference store) (fetched_shaped kinds store reference shape stands aims))

  -- and what is stored there takes its place
  pub flat-stored : (new : Datum) → IsShaped shape new
      → flat_store kinds (stored reference new store) ≡ with_cells address (datum_cells new) (flat_store kinds store)
  flat-stored new is =
      let old = datum_cells (fetched reference store) in
      let as_long : length (datum_cells new) ≡ length old =
      length-datum_cells shape new is ∙ sym
      (length-datum_cells shape (fetched reference store) (fetched_shaped kinds store reference shape stands aims)) in
      map-set (flat_row kinds) store reference.activation _
      ∙ ap (slice_set (flat_store kinds store) reference.activation)
      (row_after new
      ∙ sym (ap (over (datum_cells new) address.offset) (row_flat ∙ row_now)
      ∙ ap₂ (λ front rest. front ++ (datum_cells new ++ rest))
      (take_at cells_now (old ++ cells_behind) address.offset begins)
      (ap (drop (address.offset + length (datum_cells new))) (sym (append_assoc cells_now old cells_behind))
      ∙ drop_at (cells_now ++ old) cells_behind (address.offset + length (datum_cells new))
      (omega (arith, length-append cells_now old, begins, as_long)))))

-- a place of one cell
number_cells : (datum : Datum) → IsShaped one_cell datum → datum_cells datum ≡ number_cell (number_in datum) ∷ []
number_cells pascal.undefined is = refl
number_cells (pascal.holds value) is = refl
number_cells (pascal.parts found) is = absurd is

module _ (kinds : Kinds) (store : Store) (reference : Reference) (stands : Stands kinds store)
    (aims : Aims kinds reference one_cell) where
  one_now : flat_row kinds (slice_index_or store reference.activation [])
      ≡ cells_now kinds store reference one_cell stands aims
      ++ (number_cell (number_in (fetched reference store))
      ∷ cells_behind kinds store reference one_cell stands aims)
  one_now =
      row_now kinds store reference one_cell stands aims
      ∙ ap (λ cells. cells_now kinds store reference one_cell stands aims
      ++ (cells ++ cells_behind kinds store reference one_cell stands aims))
      (number_cells (fetched reference store) (fetched_shaped kinds store reference one_cell stands aims))

  pub cell-fetched : cell_in (address_of kinds reference) (flat_store kinds store)
      ≡ number_cell (number_in (fetched reference store))
  cell-fetched =
      ap (λ cells. slice_index_or cells (address_of kinds reference).offset Undefined)
      (row_flat kinds store reference one_cell stands aims ∙ one_now)
      ∙ get_or_at (cells_now kinds store reference one_cell stands aims) _ _ Undefined
      (address_of kinds reference).offset (begins kinds store reference one_cell stands aims)

  pub cell-stored : (new : Datum) → IsShaped one_cell new → flat_store kinds (stored reference new store)
      ≡ with_cell (address_of kinds reference) (number_cell (number_in new)) (flat_store kinds store)
  cell-stored new is =
      let front = cells_now kinds store reference one_cell stands aims in
      let rest = cells_behind kinds store reference one_cell stands aims in
      let at = (address_of kinds reference).offset in
      map-set (flat_row kinds) store reference.activation _
      ∙ ap (slice_set (flat_store kinds store) reference.activation)
      (row_after kinds store reference one_cell stands aims new
      ∙ ap (λ cells. front ++ (cells ++ rest)) (number_cells new is)
      ∙ sym (ap (λ cells. slice_set cells at (number_cell (number_in new)))
      (row_flat kinds store reference one_cell stands aims ∙ one_now)
      ∙ set_at front _ rest (number_cell (number_in new)) at
      (begins kinds store reference one_cell stands aims)))

-- behind more kinds the cells are the same
module _ (kinds more : Kinds) where
  pub address_more : (reference : Reference) → reference.activation < length kinds
      → address_of (kinds ++ more) reference ≡ address_of kinds reference
  address_more reference less =
      ap₂ (λ row kind. record {
        activation = reference.activation;
        offset = cells_before row reference.variable + offset (root_of kind) reference.path;
      }) (get_or_append_left kinds more [] reference.activation less)
      (kind_stays kinds more reference.activation reference.variable less)

  pub flat_cell-more : (activation : ℕ) (kind : Kind) (cell : pascal.Cell) → Matches kinds activation kind cell
      → flat_cell (kinds ++ more) cell ≡ flat_cell kinds cell
  flat_cell-more activation (plain shape) (own datum) is = refl
  flat_cell-more activation (plain shape) (refers reference) is = absurd is
  flat_cell-more activation (named shape) (own datum) is = absurd is
  flat_cell-more activation (named shape) (refers reference) is =
      ap (λ (address : Address). Refers address ∷ [])
      (address_more reference
      (kind_row kinds reference.activation reference.variable (plain is.0.root) is.0.there))

  pub flat_row-more : (activation : ℕ) (row : List Kind) (cells : List pascal.Cell)
      → AllMatch kinds activation row cells → flat_row (kinds ++ more) cells ≡ flat_row kinds cells
  flat_row-more activation [] [] all = refl
  flat_row-more activation [] (cell ∷ cells) all = absurd all
  flat_row-more activation (kind ∷ row) [] all = absurd all
  flat_row-more activation (kind ∷ row) (cell ∷ cells) all =
      ap₂ (λ (first others : List Cell). first ++ others) (flat_cell-more activation kind cell all.0)
      (flat_row-more activation row cells all.1)

  pub flat_store-more : (store : Store) → Stands kinds store
      → flat_store (kinds ++ more) store ≡ flat_store kinds store
  flat_store-more store stands =
      map_each (flat_row (kinds ++ more)) (flat_row kinds) [] store
      (λ activation. flat_row-more activation (slice_index_or kinds activation [])
      (slice_index_or store activation []) (row_matches kinds store activation stands))
    where
      map_each : {A B : Type 0} (f g : A → B) (d : A) (xs : List A)
          → ((k : ℕ) → f (slice_index_or xs k d) ≡ g (slice_index_or xs k d)) → map f xs ≡ map g xs
      map_each f g d [] each = refl
      map_each f g d (x ∷ xs) each = ap₂ ◌∷◌ (each 0) (map_each f g d xs (λ k. each (suc k)))

-- an activation opens and closes
module _ (kinds : Kinds) (row : List Kind) (store : Store) where
  pub flat-opened : (cells : List pascal.Cell) → Stands kinds store
      → flat_store (kinds ++ row ∷ []) (opened cells store)
      ≡ flat_store kinds store ++ flat_row (kinds ++ row ∷ []) cells ∷ []
  flat-opened cells stands =
      map-append (flat_row (kinds ++ row ∷ [])) store (cells ∷ [])
      ∙ ap (λ (front : List (List Cell)). front ++ flat_row (kinds ++ row ∷ []) cells ∷ [])
      (flat_store-more kinds (row ∷ []) store stands)

  pub flat-closed : Stands (kinds ++ row ∷ []) store
      → flat_store kinds (closed store) ≡ take (length kinds) (flat_store (kinds ++ row ∷ []) store)
  flat-closed stands =
      let long : top_of store ≡ length kinds = omega (arith, stands.rows, length-append kinds (row ∷ [])) in
      sym (flat_store-more kinds (row ∷ []) (closed store) (stands_closed kinds row store stands))
      ∙ sym (take-map (flat_row (kinds ++ row ∷ [])) (top_of store) store)
      ∙ ap (λ n. take n (flat_store (kinds ++ row ∷ []) store)) long

-- where a variable is: its own cells, or those that its cell refers to
module _ (kinds : Kinds) (store : Store) (activation variable : ℕ) (stands : Stands kinds store) where
  pub own_address : (shape : Shape) → kind_at kinds activation variable ≡ Some (plain shape)
      → address_of kinds (followed activation variable (cell_at activation variable store))
      ≡ record {
        activation = activation;
        offset = cells_before (slice_index_or kinds activation []) variable;
      }
  own_address shape there =
      ap (λ (cell : pascal.Cell). address_of kinds (followed activation variable cell))
      (own_held kinds activation shape (cell_at activation variable store)
      (stands.cells activation variable (plain shape) there)).0
      ∙ ap (λ (at : ℕ). record { activation = activation; offset = at }) (omega arith)

  named_refers : (shape : Shape) (cell : pascal.Cell) → Matches kinds activation (named shape) cell
      → flat_cell kinds cell ≡ Refers (address_of kinds (followed activation variable cell)) ∷ []
  named_refers shape (own datum) is = absurd is
  named_refers shape (refers reference) is = refl

  pub named_address : (shape : Shape) → kind_at kinds activation variable ≡ Some (named shape)
      → cell_in (record {
        activation = activation;
        offset = cells_before (slice_index_or kinds activation []) variable;
      }) (flat_store kinds store)
      ≡ Refers (address_of kinds (followed activation variable (cell_at activation variable store)))
  named_address shape there =
      let row = slice_index_or kinds activation [] in
      let cells = slice_index_or store activation [] in
      let on = variable_stands kinds activation row cells variable (named shape)
      (row_matches kinds store activation stands) there in
      let less : activation < length store =
      omega (arith, kind_row kinds activation variable (named shape) there, stands.rows) in
      ap (λ (found : List Cell). slice_index_or found (cells_before row variable) Undefined)
      (get_or-map (flat_row kinds) store activation [] [] less ∙ on.now
      ∙ ap (λ (found : List Cell). on.before ++ (found ++ on.behind))
      (named_refers shape (cell_at activation variable store)
      (stands.cells activation variable (named shape) there)))
      ∙ get_or_at on.before _ on.behind Undefined (cells_before row variable) on.begins
