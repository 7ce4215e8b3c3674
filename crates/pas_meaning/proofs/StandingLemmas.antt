-- Stores that stand as they are declared: reading, storing, opening and closing.
use Rattle.std.proofs.Common.{◌≡◌, ℕ, zero, suc, ◌<◌, ◌≤◌, List, [], ◌∷◌, ◌++◌, length, take}
use Rattle.std.proofs.Common.{Some, slice_get, slice_set, slice_index_or, arith, refl, sym, ap, ap₂, ◌∙◌, subst}
use Rattle.std.proofs.Common.{subst₂, length-append, length-set, get_or-set_same, get_or-set_other, inl, inr, ◌⊎◌}
use Rattle.std.proofs.lemmas.Bool.{cases_eq, cases_lt, cases_order}
use Rattle.std.proofs.lemmas.List.{get_or_append_left, get_or_push, get_or_past, get_or-take, length-take-le}
use Rattle.std.specs.Prelude.{⊤}
use Rattle.std.proofs.lemmas.Option.{slice_get_within, same_Some}
use Rattle.pas_typed.specs.Shapes.{Shape, Leads}
use Rattle.pas_typed.proofs.ShapeLemmas.{leads_on}
use Rattle.pas_meaning.specs.Store.{Datum, undefined, Cell, own, refers, Reference, Store, cell_at, with_cell}
use Rattle.pas_meaning.specs.Store.{held_by, fetched, stored, along, opened, closed, top_of}
use Rattle.pas_meaning.specs.Cells.{IsShaped}
use Rattle.pas_meaning.specs.Standing.{Kind, plain, named, Kinds, kind_at, Aims, Matches, Stands}
use Rattle.pas_meaning.proofs.CellLemmas.{part_at-shaped, with_part_at-shaped}

-- lists of lists
row_within : {A : Type 0} (rows : List (List A)) (row place : ℕ) → place < length (slice_index_or rows row [])
    → row < length rows
row_within [] row place less = absurd (omega (arith, less))
row_within (first ∷ rows) zero place less = omega arith
row_within (first ∷ rows) (suc row) place less = omega (arith, row_within rows row place less)

length_row : {A : Type 0} (rows : List (List A)) (row place other : ℕ) (new : A)
    → length (slice_index_or (slice_set rows row (slice_set (slice_index_or rows row []) place new)) other [])
    ≡ length (slice_index_or rows other [])
length_row [] row place other new = refl
length_row (first ∷ rows) zero place zero new = length-set first place new
length_row (first ∷ rows) zero place (suc other) new = refl
length_row (first ∷ rows) (suc row) place zero new = refl
length_row (first ∷ rows) (suc row) place (suc other) new = length_row rows row place other new

-- kinds
pub kind_row : (kinds : Kinds) (activation variable : ℕ) (kind : Kind) → kind_at kinds activation variable ≡ Some kind
    → activation < length kinds
kind_row kinds activation variable kind there =
    row_within kinds activation variable (slice_get_within (slice_index_or kinds activation []) variable kind there)

pub kind_stays : (kinds more : Kinds) (activation variable : ℕ) → activation < length kinds
    → kind_at (kinds ++ more) activation variable ≡ kind_at kinds activation variable
kind_stays kinds more activation variable less =
    ap (λ row. slice_get row variable) (get_or_append_left kinds more [] activation less)

-- references
pub aims_along : (kinds : Kinds) (reference : Reference) (shape part : Shape) (path : List ℕ)
    → Aims kinds reference shape → Leads shape path part → Aims kinds (along reference path) part
aims_along kinds reference shape part path aims leads = record {
  root = aims.root;
  there = aims.there;
  leads = leads_on reference.path path aims.root shape part aims.leads leads;
}

pub aims_more : (kinds more : Kinds) (reference : Reference) (shape : Shape) → Aims kinds reference shape
    → Aims (kinds ++ more) reference shape
aims_more kinds more reference shape aims = record {
  root = aims.root;
  there = kind_stays kinds more reference.activation reference.variable
      (kind_row kinds reference.activation reference.variable (plain aims.root) aims.there) ∙ aims.there;
  leads = aims.leads;
}

pub aims_fewer : (kinds more : Kinds) (reference : Reference) (shape : Shape) → reference.activation < length kinds
    → Aims (kinds ++ more) reference shape → Aims kinds reference shape
aims_fewer kinds more reference shape less aims = record {
  root = aims.root;
  there = sym (kind_stays kinds more reference.activation reference.variable less) ∙ aims.there;
  leads = aims.leads;
}

pub matches_more : (kinds more : Kinds) (activation : ℕ) (kind : Kind) (cell : Cell)
    → Matches kinds activation kind cell → Matches (kinds ++ more) activation kind cell
matches_more kinds more activation (plain shape) (own datum) is = is
matches_more kinds more activation (plain shape) (refers reference) is = absurd is
matches_more kinds more activation (named shape) (own datum) is = absurd is
matches_more kinds more activation (named shape) (refers reference) is =
    (aims_more kinds more reference shape is.0, is.1)

pub matches_fewer : (kinds more : Kinds) (activation : ℕ) (kind : Kind) (cell : Cell) → activation < length kinds
    → Matches (kinds ++ more) activation kind cell → Matches kinds activation kind cell
matches_fewer kinds more activation (plain shape) (own datum) less is = is
matches_fewer kinds more activation (plain shape) (refers reference) less is = absurd is
matches_fewer kinds more activation (named shape) (own datum) less is = absurd is
matches_fewer kinds more activation (named shape) (refers reference) less is =
    (aims_fewer kinds more reference shape (omega (arith, less, is.1)) is.0, is.1)

-- what is fetched
held_shaped : (kinds : Kinds) (activation : ℕ) (root : Shape) (cell : Cell) → Matches kinds activation (plain root) cell
    → IsShaped root (held_by cell)
held_shaped kinds activation root (own datum) is = is
held_shaped kinds activation root (refers reference) is = absurd is

pub fetched_shaped : (kinds : Kinds) (store : Store) (reference : Reference) (shape : Shape) → Stands kinds store
    → Aims kinds reference shape → IsShaped shape (fetched reference store)
fetched_shaped kinds store reference shape stands aims =
    part_at-shaped reference.path aims.root shape (held_by (cell_at reference.activation reference.variable store))
    (held_shaped kinds reference.activation aims.root _
    (stands.cells reference.activation reference.variable (plain aims.root) aims.there)) aims.leads

-- a cell of its kind is set
module _ (kinds : Kinds) (store : Store) (activation variable : ℕ) (kind : Kind) (cell : Cell)
    (stands : Stands kinds store) (there : kind_at kinds activation variable ≡ Some kind)
    (is : Matches kinds activation kind cell) where
  row_there : activation < length store
  row_there = omega (arith, kind_row kinds activation variable kind there, stands.rows)

  place_there : variable < length (slice_index_or store activation [])
  place_there =
      omega (arith, slice_get_within (slice_index_or kinds activation []) variable kind there, stands.row activation)

  abbrev new_row : List Cell
  new_row = slice_set (slice_index_or store activation []) variable cell

  row_set : slice_index_or (with_cell activation variable cell store) activation [] ≡ new_row
  row_set = get_or-set_same store activation new_row [] row_there

  cell_after : (other place : ℕ) (its : Kind) → kind_at kinds other place ≡ Some its
      → ((other ≡ activation) ⊎ (other ≡ activation → ⊥)) → ((place ≡ variable) ⊎ (place ≡ variable → ⊥))
      → Matches kinds other its (cell_at other place (with_cell activation variable cell store))
  cell_after other place its known (inr apart) place_same =
      subst (λ row. Matches kinds other its (slice_index_or row place (own undefined)))
      (sym (get_or-set_other store activation other new_row [] apart)) (stands.cells other place its known)
  cell_after other place its known (inl same) (inr apart) =
      subst (Matches kinds other its)
      (sym (ap (λ row. slice_index_or row place (own undefined))
      (ap (λ other. slice_index_or (with_cell activation variable cell store) other []) same ∙ row_set)
      ∙ get_or-set_other (slice_index_or store activation []) variable place cell (own undefined) apart
      ∙ ap (λ other. cell_at other place store) (sym same))) (stands.cells other place its known)
  cell_after other place its known (inl same) (inl as_well) =
      let its_kind = same_Some kind its (sym there ∙ sym (ap₂ (kind_at kinds) same as_well) ∙ known) in
      subst (Matches kinds other its)
      (sym (ap₂ (λ other place. cell_at other place (with_cell activation variable cell store)) same as_well
      ∙ ap (λ row. slice_index_or row variable (own undefined)) row_set
      ∙ get_or-set_same (slice_index_or store activation []) variable cell (own undefined) place_there))
      (subst₂ (λ other its. Matches kinds other its cell) (sym same) its_kind is)

  pub stands_set : Stands kinds (with_cell activation variable cell store)
  stands_set = record {
    rows = length-set store activation new_row ∙ stands.rows;
    row = λ other. length_row store activation variable other cell ∙ stands.row other;
    cells = λ other place its known.
        cell_after other place its known (cases_eq other activation) (cases_eq place variable);
  }

-- a part of its shape is stored
pub stands_stored : (kinds : Kinds) (store : Store) (reference : Reference) (shape : Shape) (new : Datum)
    → Stands kinds store → Aims kinds reference shape → IsShaped shape new → Stands kinds (stored reference new store)
stands_stored kinds store reference shape new stands aims is =
    stands_set kinds store reference.activation reference.variable (plain aims.root) _ stands aims.there
    (with_part_at-shaped reference.path aims.root shape
    (held_by (cell_at reference.activation reference.variable store)) new
    (held_shaped kinds reference.activation aims.root _
    (stands.cells reference.activation reference.variable (plain aims.root) aims.there)) aims.leads is)

-- cells of an activation that comes match its kinds
abbrev pub AllMatch : Kinds → ℕ → List Kind → List Cell → Type 0
AllMatch kinds activation [] [] = ⊤
AllMatch kinds activation [] (cell ∷ cells) = ⊥
AllMatch kinds activation (kind ∷ row) [] = ⊥
AllMatch kinds activation (kind ∷ row) (cell ∷ cells) =
    Matches kinds activation kind cell × AllMatch kinds activation row cells

pub all_append : (kinds : Kinds) (activation : ℕ) (row others : List Kind) (cells more : List Cell)
    → AllMatch kinds activation row cells → AllMatch kinds activation others more
    → AllMatch kinds activation (row ++ others) (cells ++ more)
all_append kinds activation [] others [] more all also = also
all_append kinds activation [] others (cell ∷ cells) more all also = absurd all
all_append kinds activation (kind ∷ row) others [] more all also = absurd all
all_append kinds activation (kind ∷ row) others (cell ∷ cells) more all also =
    (all.0, all_append kinds activation row others cells more all.1 also)

all_long : (kinds : Kinds) (activation : ℕ) (row : List Kind) (cells : List Cell)
    → AllMatch kinds activation row cells → length cells ≡ length row
all_long kinds activation [] [] all = refl
all_long kinds activation [] (cell ∷ cells) all = absurd all
all_long kinds activation (kind ∷ row) [] all = absurd all
all_long kinds activation (kind ∷ row) (cell ∷ cells) all = ap suc (all_long kinds activation row cells all.1)

all_at : (kinds : Kinds) (activation : ℕ) (row : List Kind) (cells : List Cell) (variable : ℕ) (kind : Kind)
    → AllMatch kinds activation row cells → slice_get row variable ≡ Some kind
    → Matches kinds activation kind (slice_index_or cells variable (own undefined))
all_at kinds activation [] cells variable kind all there = absurd (cc)
all_at kinds activation (first ∷ row) [] variable kind all there = absurd all
all_at kinds activation (first ∷ row) (cell ∷ cells) zero kind all there =
    subst (λ kind. Matches kinds activation kind cell) (same_Some first kind there) all.0
all_at kinds activation (first ∷ row) (cell ∷ cells) (suc variable) kind all there =
    all_at kinds activation row cells variable kind all.1 there

-- the activation opens
module _ (kinds : Kinds) (row : List Kind) where
  pub kind_last : (variable : ℕ) → kind_at (kinds ++ row ∷ []) (length kinds) variable ≡ slice_get row variable
  kind_last variable = ap (λ row. slice_get row variable) (get_or_push kinds row [] (length kinds) refl)

  pub stands_opened : (store : Store) (cells : List Cell) → Stands kinds store
      → AllMatch (kinds ++ row ∷ []) (length kinds) row cells → Stands (kinds ++ row ∷ []) (opened cells store)
  stands_opened store cells stands all = record {
    rows = omega (arith, length-append store (cells ∷ []), length-append kinds (row ∷ []), stands.rows);
    row = λ activation. row_after activation (cases_order activation (length kinds));
    cells = λ activation variable kind there. cell_after activation variable kind there
        (cases_order activation (length kinds));
  }
    where
      row_after : (activation : ℕ)
          → ((activation ≡ length kinds) ⊎ ((activation < length kinds) ⊎ (length kinds < activation)))
          → length (slice_index_or (store ++ cells ∷ []) activation [])
          ≡ length (slice_index_or (kinds ++ row ∷ []) activation [])
      row_after activation (inl same) =
          ap length (get_or_push store cells [] activation (stands.rows ∙ sym same))
          ∙ all_long (kinds ++ row ∷ []) (length kinds) row cells all
          ∙ sym (ap length (get_or_push kinds row [] activation (sym same)))
      row_after activation (inr (inl less)) =
          ap length (get_or_append_left store (cells ∷ []) [] activation (omega (arith, less, stands.rows)))
          ∙ stands.row activation
          ∙ sym (ap length (get_or_append_left kinds (row ∷ []) [] activation less))
      row_after activation (inr (inr past)) =
          ap length (get_or_past (store ++ cells ∷ []) activation []
          (omega (arith, past, stands.rows, length-append store (cells ∷ []))))
          ∙ sym (ap length (get_or_past (kinds ++ row ∷ []) activation []
          (omega (arith, past, length-append kinds (row ∷ [])))))

      cell_after : (activation variable : ℕ) (kind : Kind) → kind_at (kinds ++ row ∷ []) activation variable ≡ Some kind
          → ((activation ≡ length kinds) ⊎ ((activation < length kinds) ⊎ (length kinds < activation)))
          → Matches (kinds ++ row ∷ []) activation kind (cell_at activation variable (store ++ cells ∷ []))
      cell_after activation variable kind there (inl same) =
          subst (Matches (kinds ++ row ∷ []) activation kind)
          (sym (ap (λ row. slice_index_or row variable (own undefined))
          (get_or_push store cells [] activation (stands.rows ∙ sym same))))
          (subst (λ activation. Matches (kinds ++ row ∷ []) activation kind
          (slice_index_or cells variable (own undefined)))
          (sym same) (all_at (kinds ++ row ∷ []) (length kinds) row cells variable kind all
          (sym (kind_last variable) ∙ ap (λ activation. kind_at (kinds ++ row ∷ []) activation variable) (sym same)
          ∙ there)))
      cell_after activation variable kind there (inr (inl less)) =
          subst (Matches (kinds ++ row ∷ []) activation kind)
          (sym (ap (λ row. slice_index_or row variable (own undefined))
          (get_or_append_left store (cells ∷ []) [] activation (omega (arith, less, stands.rows)))))
          (matches_more kinds (row ∷ []) activation kind (cell_at activation variable store)
          (stands.cells activation variable kind
          (sym (kind_stays kinds (row ∷ []) activation variable less) ∙ there)))
      cell_after activation variable kind there (inr (inr past)) =
          absurd (omega (
            arith,
            past,
            kind_row (kinds ++ row ∷ []) activation variable kind there,
            length-append kinds (row ∷ []),
          ))

  -- and closes
  pub stands_closed : (store : Store) → Stands (kinds ++ row ∷ []) store → Stands kinds (closed store)
  stands_closed store stands = record {
    rows = length-take-le (top_of store) store (omega arith) ∙ long;
    row = λ activation. row_after activation (cases_lt activation (length kinds));
    cells = λ activation variable kind there.
        let less = kind_row kinds activation variable kind there in
        subst (Matches kinds activation kind)
        (ap (λ row. slice_index_or row variable (own undefined)) (sym (taken activation less)))
        (matches_fewer kinds (row ∷ []) activation kind (cell_at activation variable store) less
        (stands.cells activation variable kind (kind_stays kinds (row ∷ []) activation variable less ∙ there)));
  }
    where
      long : top_of store ≡ length kinds
      long = omega (arith, stands.rows, length-append kinds (row ∷ []))

      taken : (activation : ℕ) → activation < length kinds
          → slice_index_or (take (top_of store) store) activation [] ≡ slice_index_or store activation []
      taken activation less = get_or-take (top_of store) store activation [] (omega (arith, less, long))

      row_after : (activation : ℕ) → ((activation < length kinds) ⊎ (length kinds ≤ activation))
          → length (slice_index_or (take (top_of store) store) activation [])
          ≡ length (slice_index_or kinds activation [])
      row_after activation (inl less) =
          ap length (taken activation less) ∙ stands.row activation
          ∙ ap length (get_or_append_left kinds (row ∷ []) [] activation less)
      row_after activation (inr past) =
          ap length (get_or_past (take (top_of store) store) activation []
          (omega (arith, past, long, length-take-le (top_of store) store (omega arith))))
          ∙ sym (ap length (get_or_past kinds activation [] past))
