-- The first rows of a table are a table.
use Rattle.std.proofs.Common.{◌≡◌, sym, ap, ◌∙◌, ℕ, zero, suc, ◌+◌, arith, List, [], ◌∷◌, ◌++◌, length}
use Rattle.std.proofs.Common.{map, take, length-append}
use Rattle.std.specs.List.{fold}
use Rattle.std.proofs.lemmas.List.{take-map, take-take, take-append-le, take_all}
use Rattle.pas_typed.specs.declared.types.TypeRow.{TypeRow as CodeTypeRow}
use Rattle.pas_typed.specs.declared.types.Structure.{Structure as CodeStructure}
use Rattle.pas_typed.specs.Types.{Structure, TableRow, Table, cells_in, made}
use Rattle.pas_typed.specs.TypeViews.{structure_view, row_view, table_of, table_view, counted_row, AreCounted}

-- a table with more rows behind it
abbrev grown : Table → List Structure → Table
grown table structures = fold (λ table found. (made table found).table) table structures

abbrev row_for : Table → Structure → TableRow
row_for table structure = record { structure = structure; cells = cells_in table structure }

first_rows : (table : Table) (structures : List Structure) → take (length table) (grown table structures) ≡ table
first_rows table [] = take_all (length table) table (omega arith)
first_rows table (found ∷ structures) =
    let longer : Table = table ++ row_for table found ∷ [] in
    let more : length longer ≡ length table + 1 = length-append table (row_for table found ∷ []) in
    sym (take-take (length table) (length longer) (grown longer structures) (omega (arith, more)))
    ∙ (ap (take (length table)) (first_rows longer structures)
    ∙ (take-append-le (length table) table (row_for table found ∷ []) (omega arith)
    ∙ take_all (length table) table (omega arith)))

short_grown : (table : Table) (structures : List Structure) (n : ℕ)
    → take (length table + n) (grown table structures) ≡ grown table (take n structures)
short_grown table [] zero = take_all (length table + 0) table (omega arith)
short_grown table [] (suc n) = take_all (length table + suc n) table (omega arith)
short_grown table (found ∷ structures) zero =
    ap (λ (m : ℕ). take m (grown table (found ∷ structures))) (same (length table))
    ∙ first_rows table (found ∷ structures)
  where
    same : (m : ℕ) → m + 0 ≡ m
    same m = omega arith
short_grown table (found ∷ structures) (suc n) =
    let longer : Table = table ++ row_for table found ∷ [] in
    let more : length longer ≡ length table + 1 = length-append table (row_for table found ∷ []) in
    let same : length table + suc n ≡ length longer + n = omega (arith, more) in
    ap (λ (m : ℕ). take m (grown longer structures)) same ∙ short_grown longer structures n

table_of-take : (structures : List Structure) (n : ℕ) → table_of (take n structures) ≡ take n (table_of structures)
table_of-take structures n =
    sym (short_grown [] structures n) ∙ ap (λ (m : ℕ). take m (table_of structures)) (same n)
  where
    same : (m : ℕ) → 0 + m ≡ m
    same m = omega arith

-- a shorter table has the same rows
pub table_view-take : (spellings : List ℕ) (structures : List CodeStructure) (n : ℕ)
    → table_view spellings (take n structures) ≡ take n (table_view spellings structures)
table_view-take spellings structures n =
    ap table_of (sym (take-map (structure_view spellings) n structures))
    ∙ table_of-take (map (structure_view spellings) structures) n

pub counted-take : (rows : List CodeTypeRow) (n : ℕ) → AreCounted rows → AreCounted (take n rows)
counted-take rows n h spellings =
    ap (λ (structures : List CodeStructure). map counted_row (table_view spellings structures))
    (sym (take-map (λ (found : CodeTypeRow). found.structure) n rows))
    ∙ (ap (map counted_row) (table_view-take spellings (map (λ (found : CodeTypeRow). found.structure) rows) n)
    ∙ (sym (take-map counted_row n (table_view spellings (map (λ (found : CodeTypeRow). found.structure) rows)))
    ∙ (ap (take n) (h spellings) ∙ take-map (row_view spellings) n rows)))
