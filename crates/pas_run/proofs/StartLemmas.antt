-- The globals at the start, in cells.
use Rattle.std.proofs.Common.{◌≡◌, ◌==◌, ℕ, zero, suc, ◌+◌, ◌≤◌, List, [], ◌∷◌, ◌++◌, length, map, take, replicate}
use Rattle.std.proofs.Common.{arith, sym, ap, ◌∙◌, Option, Some}
use Rattle.std.proofs.Common.{None, slice_get, option_map, unwrap_or, pos, append-nil}
use Rattle.std.specs.List.{position}
use Rattle.std.proofs.lemmas.List.{take_all}
use Rattle.std.proofs.lemmas.Option.{same_Some, slice_get-map}
use Rattle.pas_typed.specs.Typed.{Variable, TypedProgram}
use Rattle.std.proofs.Common.{Result, Ok, Err}
use Rattle.pas_typed.specs.Types.{cells_of}
use Rattle.pas_typed.specs.Shapes.{size, shape_of, IsLawfulTable}
use Rattle.pas_typed.specs.TypedViews.{variable_view}
use Rattle.pas_typed.specs.declared.typed.Variable.{Variable as CodeVariable}
use Rattle.pas_typed.proofs.ShapeLemmas.{size-shape_of}
use Rattle.pas_meaning.specs.Store as pascal
use Rattle.pas_meaning.specs.Store.{holds, blank_of}
use Rattle.pas_meaning.specs.Trial.{global_cell, cells_from}
use Rattle.pas_meaning.specs.Standing.{Kinds}
use Rattle.pas_run.specs.declared.cells.Cell.{Cell}
use Rattle.pas_run.specs.declared.cells.Cell.TheVariants.{Undefined, Holds}
use Rattle.pas_run.specs.declared.ends.Stop.{Stop}
use Rattle.pas_run.specs.inner.Copying.{IsFound}
use Rattle.pas_run.specs.inner.FlatStore.{datum_cells, flat_cell, flat_row}
use Rattle.pas_run.proofs.CopyLemmas.{found_other}
use Rattle.pas_run.proofs.OpenLemmas.{blank_cells, row_append}

module _ (program : TypedProgram) where
  abbrev cells_by : Variable → Option ℕ → List Cell
  cells_by found file =
      datum_cells (unwrap_or (option_map (λ (file : ℕ). holds (pos file)) file) (blank_of program.types found.type))

  -- a file holds its number, another global is blank
  pub file_global : (kinds : Kinds) (number file : ℕ) (found : Variable)
      → position (λ (other : ℕ). other == number) program.files ≡ Some file
      → flat_cell kinds (global_cell program number found) ≡ Holds (pos file) ∷ []
  file_global kinds number file found is = ap (cells_by found) is

  pub blank_global : (kinds : Kinds) (number : ℕ) (found : Variable)
      → position (λ (other : ℕ). other == number) program.files ≡ None
      → flat_cell kinds (global_cell program number found)
      ≡ replicate (size (shape_of program.types found.type)) Undefined
  blank_global kinds number found is = ap (cells_by found) is ∙ blank_cells program.types found.type

  -- one global more
  from_next : (n : ℕ) (xs : List Variable) (i : ℕ) (x : Variable) → slice_get xs i ≡ Some x
      → cells_from program n (take (suc i) xs)
      ≡ cells_from program n (take i xs) ++ global_cell program (n + i) x ∷ []
  from_next n [] i x is = absurd (cc)
  from_next n (y ∷ xs) zero x is =
      ap (λ (found : Variable). global_cell program n found ∷ []) (same_Some y x is)
      ∙ ap (λ (k : ℕ). global_cell program k x ∷ []) (omega arith)
  from_next n (y ∷ xs) (suc i) x is =
      ap (λ (rest : List pascal.Cell). global_cell program n y ∷ rest)
      (from_next (suc n) xs i x is
      ∙ ap (λ (k : ℕ). cells_from program (suc n) (take i xs) ++ global_cell program k x ∷ []) (omega arith))

  pub globals_next : (kinds : Kinds) (i : ℕ) (x : Variable) (cells more : List Cell)
      → slice_get program.globals i ≡ Some x
      → cells ≡ flat_row kinds (cells_from program 0 (take i program.globals))
      → more ≡ cells ++ flat_cell kinds (global_cell program i x)
      → more ≡ flat_row kinds (cells_from program 0 (take (i + 1) program.globals))
  globals_next kinds i x cells more there before is =
      let from_none : i ≡ 0 + i = omega arith in
      let next : suc i ≡ i + 1 = omega arith in
      is
      ∙ ap (λ (row : List Cell). row ++ flat_cell kinds (global_cell program i x)) before
      ∙ ap (λ (last : List Cell). flat_row kinds (cells_from program 0 (take i program.globals)) ++ last)
      (one (global_cell program i x))
      ∙ sym (row_append kinds (cells_from program 0 (take i program.globals)) (global_cell program i x ∷ []))
      ∙ ap (λ (k : ℕ). flat_row kinds (cells_from program 0 (take i program.globals) ++ global_cell program k x ∷ []))
      from_none
      ∙ ap (flat_row kinds) (sym (from_next 0 program.globals i x there))
      ∙ ap (λ (k : ℕ). flat_row kinds (cells_from program 0 (take k program.globals))) next
    where
      one : (cell : pascal.Cell) → flat_cell kinds cell ≡ flat_row kinds (cell ∷ [])
      one cell = sym (append-nil (flat_cell kinds cell))

  pub globals_all : (kinds : Kinds) (i : ℕ) (cells : List Cell) → length program.globals ≤ i
      → cells ≡ flat_row kinds (cells_from program 0 (take i program.globals))
      → cells ≡ flat_row kinds (cells_from program 0 program.globals)
  globals_all kinds i cells less before =
      before
      ∙ ap (λ (found : List Variable). flat_row kinds (cells_from program 0 found)) (take_all i program.globals less)

-- what is found is more
pub found_so : {T : Type 0} (P Q : T → Type 0) (result : Result T Stop) → ((found : T) → P found → Q found)
    → IsFound P result → IsFound Q result
found_so P Q (Ok found) so is = so found is
found_so P Q (Err why) so is = found_other P Q why is

-- so many cells of a blank global
pub blank_found : (program : TypedProgram) (kinds : Kinds) (number more : ℕ) (found : Variable) (cells now : List Cell)
    → IsLawfulTable program.types → more ≡ 0 + cells_of program.types found.type
    → None ≡ position (λ (other : ℕ). other == number) program.files
    → now ≡ cells ++ replicate more Undefined → now ≡ cells ++ flat_cell kinds (global_cell program number found)
blank_found program kinds number more found cells now lawful count is last =
    last
    ∙ ap (λ (k : ℕ). cells ++ replicate k Undefined)
    (omega (arith, count, size-shape_of program.types found.type lawful))
    ∙ ap (λ (blanks : List Cell). cells ++ blanks) (sym (blank_global program kinds number found (sym is)))

pub global_there : (spellings : List ℕ) (variables : List CodeVariable) (i : ℕ) (x : CodeVariable)
    → Some x ≡ slice_get variables i
    → slice_get (map (variable_view spellings) variables) i ≡ Some (variable_view spellings x)
global_there spellings variables i x is =
    slice_get-map (variable_view spellings) variables i ∙ ap (option_map (variable_view spellings)) (sym is)
