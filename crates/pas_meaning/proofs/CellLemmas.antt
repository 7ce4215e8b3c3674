-- The flat cells of data: parts of a datum are slices of its cells, and cells determine the datum of a shape.
use Rattle.std.proofs.Common.{◌≡◌, ℕ, zero, suc, ◌+◌, ◌<◌, ◌≤◌, List, [], ◌∷◌, ◌++◌, length, map, take, drop, replicate}
use Rattle.std.proofs.Common.{ℤ}
use Rattle.std.proofs.Common.{Option, None, arith, refl, sym, ap, ap₂, ◌∙◌, subst, append_assoc, append-nil}
use Rattle.std.proofs.Common.{length-append}
use Rattle.std.proofs.Common.{slice_index_or, slice_set}
use Rattle.std.proofs.Math.ListN.{get_or-map}
use Rattle.std.proofs.lemmas.List.{take_at, drop_at, get_or_at, set_at, map-append, replicate-append-replicate}
use Rattle.pas_typed.specs.Types as types
use Rattle.pas_typed.specs.Types.{Field, PasType, Structure, TableRow, Table, count_of}
use Rattle.pas_typed.specs.Shapes as shapes
use Rattle.pas_typed.specs.Shapes.{Shape, one_cell, several, Shapes, no_shape, with_shape, size, total, shapes_in}
use Rattle.pas_typed.specs.Shapes.{count}
use Rattle.pas_typed.specs.Shapes.{shape_at, cells_before, Leads, offset, shape_by, shape_in, shapes_behind, shape_of}
use Rattle.pas_typed.specs.Shapes.{all_shapes}
use Rattle.pas_meaning.specs.Store as store
use Rattle.pas_meaning.specs.Store.{Datum, undefined, holds, parts, Data, no_parts, with_part, first_part, parts_behind}
use Rattle.pas_meaning.specs.Store.{part_in, set_in, parts_of, part_at, with_part_at, all_parts, blank_by, blank_in}
use Rattle.pas_meaning.specs.Store.{blanks_behind, blank_of, number_in}
use Rattle.pas_meaning.specs.Cells.{IsShaped, AreShaped, flat, flat_parts}

-- a shaped datum has as many cells as its shape
mutual
  pub length-flat : (shape : Shape) (datum : Datum) → IsShaped shape datum → length (flat datum) ≡ size shape
  length-flat one_cell undefined is = refl
  length-flat one_cell (holds value) is = refl
  length-flat one_cell (parts found) is = absurd is
  length-flat (several shapes) undefined is = absurd is
  length-flat (several shapes) (holds value) is = absurd is
  length-flat (several shapes) (parts found) is = length-flat_parts shapes found is

  pub length-flat_parts : (shapes : Shapes) (found : Data) → AreShaped shapes found
      → length (flat_parts found) ≡ total shapes
  length-flat_parts no_shape no_parts is = refl
  length-flat_parts no_shape (with_part first others) is = absurd is
  length-flat_parts (with_shape shape shapes) no_parts is = absurd is
  length-flat_parts (with_shape shape shapes) (with_part first others) is =
      omega (
        arith,
        length-append (flat first) (flat_parts others),
        length-flat shape first is.0,
        length-flat_parts shapes others is.1,
      )

-- cells determine the datum of a shape
append_same : {A : Type 0} (first other rest behind : List A) → length first ≡ length other
    → first ++ rest ≡ other ++ behind → (first ≡ other) × (rest ≡ behind)
append_same [] [] rest behind long same = (refl, same)
append_same [] (y ∷ other) rest behind long same = absurd (omega (arith, long))
append_same (x ∷ first) [] rest behind long same = absurd (omega (arith, long))
append_same (x ∷ first) (y ∷ other) rest behind long same =
    let deeper = append_same first other rest behind (omega (arith, long)) (cc) in (cc, deeper.1)

mutual
  pub same_from_flat : (shape : Shape) (datum other : Datum) → IsShaped shape datum → IsShaped shape other
      → flat datum ≡ flat other → datum ≡ other
  same_from_flat one_cell undefined undefined is also same = refl
  same_from_flat one_cell undefined (holds value) is also same = absurd (cc)
  same_from_flat one_cell (holds value) undefined is also same = absurd (cc)
  same_from_flat one_cell (holds value) (holds another) is also same = cc
  same_from_flat one_cell (parts found) other is also same = absurd is
  same_from_flat one_cell undefined (parts found) is also same = absurd also
  same_from_flat one_cell (holds value) (parts found) is also same = absurd also
  same_from_flat (several shapes) undefined other is also same = absurd is
  same_from_flat (several shapes) (holds value) other is also same = absurd is
  same_from_flat (several shapes) (parts found) undefined is also same = absurd also
  same_from_flat (several shapes) (parts found) (holds value) is also same = absurd also
  same_from_flat (several shapes) (parts found) (parts others) is also same =
      ap parts (same_from_flat_parts shapes found others is also same)

  same_from_flat_parts : (shapes : Shapes) (found others : Data) → AreShaped shapes found → AreShaped shapes others
      → flat_parts found ≡ flat_parts others → found ≡ others
  same_from_flat_parts no_shape no_parts no_parts is also same = refl
  same_from_flat_parts no_shape (with_part first behind) others is also same = absurd is
  same_from_flat_parts no_shape no_parts (with_part first behind) is also same = absurd also
  same_from_flat_parts (with_shape shape shapes) no_parts others is also same = absurd is
  same_from_flat_parts (with_shape shape shapes) (with_part first behind) no_parts is also same = absurd also
  same_from_flat_parts (with_shape shape shapes) (with_part first behind) (with_part other others) is also same =
      let both = append_same (flat first) (flat other) (flat_parts behind) (flat_parts others)
      (length-flat shape first is.0 ∙ sym (length-flat shape other also.0)) same in
      ap₂ with_part (same_from_flat shape first other is.0 also.0 both.0)
      (same_from_flat_parts shapes behind others is.1 also.1 both.1)

-- a part by its number is shaped, and so is what it is set in
part_shaped : (shapes : Shapes) (found : Data) (number : ℕ) → AreShaped shapes found → number < count shapes
    → IsShaped (shape_at shapes number) (part_in found number)
part_shaped no_shape found number is less = absurd (omega (arith, less))
part_shaped (with_shape shape shapes) no_parts number is less = absurd is
part_shaped (with_shape shape shapes) (with_part first others) zero is less = is.0
part_shaped (with_shape shape shapes) (with_part first others) (suc number) is less =
    part_shaped shapes others number is.1 (omega (arith, less))

set_shaped : (shapes : Shapes) (found : Data) (number : ℕ) (new : Datum) → AreShaped shapes found
    → number < count shapes → IsShaped (shape_at shapes number) new → AreShaped shapes (set_in found number new)
set_shaped no_shape found number new is less shaped = absurd (omega (arith, less))
set_shaped (with_shape shape shapes) no_parts number new is less shaped = absurd is
set_shaped (with_shape shape shapes) (with_part first others) zero new is less shaped = (shaped, is.1)
set_shaped (with_shape shape shapes) (with_part first others) (suc number) new is less shaped =
    (is.0, set_shaped shapes others number new is.1 (omega (arith, less)) shaped)

-- a datum with parts is of several shapes, or has none with a number
parts_shaped : (shape : Shape) (datum : Datum) (number : ℕ) → IsShaped shape datum → number < count (shapes_in shape)
    → AreShaped (shapes_in shape) (parts_of datum)
parts_shaped one_cell datum number is less = absurd (omega (arith, less))
parts_shaped (several shapes) undefined number is less = absurd is
parts_shaped (several shapes) (holds value) number is less = absurd is
parts_shaped (several shapes) (parts found) number is less = is

made_shaped : (shape : Shape) (found : Data) (number : ℕ) → number < count (shapes_in shape)
    → AreShaped (shapes_in shape) found → IsShaped shape (parts found)
made_shaped one_cell found number less is = absurd (omega (arith, less))
made_shaped (several shapes) found number less is = is

-- the part at a path is shaped, and so is the datum with another one there
pub part_at-shaped : (path : List ℕ) (shape part : Shape) (datum : Datum) → IsShaped shape datum
    → Leads shape path part → IsShaped part (part_at path datum)
part_at-shaped [] shape part datum is leads = subst (λ shape. IsShaped shape datum) leads is
part_at-shaped (number ∷ path) shape part datum is leads =
    part_at-shaped path (shape_at (shapes_in shape) number) part (part_in (parts_of datum) number)
    (part_shaped (shapes_in shape) (parts_of datum) number (parts_shaped shape datum number is leads.0) leads.0) leads.1

pub with_part_at-shaped : (path : List ℕ) (shape part : Shape) (datum new : Datum) → IsShaped shape datum
    → Leads shape path part → IsShaped part new → IsShaped shape (with_part_at path new datum)
with_part_at-shaped [] shape part datum new is leads shaped = subst (λ shape. IsShaped shape new) (sym leads) shaped
with_part_at-shaped (number ∷ path) shape part datum new is leads shaped =
    let found = parts_shaped shape datum number is leads.0 in
    made_shaped shape _ number leads.0 (set_shaped (shapes_in shape) (parts_of datum) number _ found leads.0
    (with_part_at-shaped path (shape_at (shapes_in shape) number) part (part_in (parts_of datum) number) new
    (part_shaped (shapes_in shape) (parts_of datum) number found leads.0) leads.1 shaped))

-- where the cells of a part stand: these before it and these behind it, also where it is another
record PartStands (found : Data) (number at : ℕ) : Type 0 where
  before : List (Option ℤ)
  behind : List (Option ℤ)
  begins : length before ≡ at
  now : flat_parts found ≡ before ++ (flat (part_in found number) ++ behind)
  after : (new : Datum) → flat_parts (set_in found number new) ≡ before ++ (flat new ++ behind)

part_stands : (shapes : Shapes) (found : Data) (number : ℕ) → AreShaped shapes found → number < count shapes
    → PartStands found number (cells_before shapes number)
part_stands no_shape found number is less = absurd (omega (arith, less))
part_stands (with_shape shape shapes) no_parts number is less = absurd is
part_stands (with_shape shape shapes) (with_part first others) zero is less =
    record { before = []; behind = flat_parts others; begins = refl; now = refl; after = λ new. refl }
part_stands (with_shape shape shapes) (with_part first others) (suc number) is less =
    let on = part_stands shapes others number is.1 (omega (arith, less)) in
    record {
      before = flat first ++ on.before;
      behind = on.behind;
      begins = omega (arith, length-append (flat first) on.before, length-flat shape first is.0, on.begins);
      now = ap (λ cells. flat first ++ cells) on.now ∙ sym (append_assoc (flat first) on.before _);
      after = λ new. ap (λ cells. flat first ++ cells) (on.after new) ∙ sym (append_assoc (flat first) on.before _);
    }

pub record StandsAt (datum : Datum) (path : List ℕ) (at : ℕ) : Type 0 where
  pub before : List (Option ℤ)
  pub behind : List (Option ℤ)
  pub begins : length before ≡ at
  pub now : flat datum ≡ before ++ (flat (part_at path datum) ++ behind)
  pub after : (new : Datum) → flat (with_part_at path new datum) ≡ before ++ (flat new ++ behind)

flat_parts_of : (shape : Shape) (datum : Datum) (number : ℕ) → IsShaped shape datum → number < count (shapes_in shape)
    → flat datum ≡ flat_parts (parts_of datum)
flat_parts_of one_cell datum number is less = absurd (omega (arith, less))
flat_parts_of (several shapes) undefined number is less = absurd is
flat_parts_of (several shapes) (holds value) number is less = absurd is
flat_parts_of (several shapes) (parts found) number is less = refl

regroup : {A : Type 0} (a b c d e : List A) → a ++ ((b ++ (c ++ d)) ++ e) ≡ (a ++ b) ++ (c ++ (d ++ e))
regroup a b c d e = simp append_assoc

pub stands_at : (path : List ℕ) (shape part : Shape) (datum : Datum) → IsShaped shape datum → Leads shape path part
    → StandsAt datum path (offset shape path)
stands_at [] shape part datum is leads = record {
  before = [];
  behind = [];
  begins = refl;
  now = sym (append-nil (flat datum));
  after = λ new. sym (append-nil (flat new));
}
stands_at (number ∷ path) shape part datum is leads =
    let found = parts_shaped shape datum number is leads.0 in
    let inner = part_in (parts_of datum) number in
    let on = part_stands (shapes_in shape) (parts_of datum) number found leads.0 in
    let deeper = stands_at path (shape_at (shapes_in shape) number) part inner
    (part_shaped (shapes_in shape) (parts_of datum) number found leads.0) leads.1 in
    record {
      before = on.before ++ deeper.before;
      behind = deeper.behind ++ on.behind;
      begins = omega (arith, length-append on.before deeper.before, on.begins, deeper.begins);
      now = flat_parts_of shape datum number is leads.0 ∙ on.now
          ∙ ap (λ cells. on.before ++ (cells ++ on.behind)) deeper.now
          ∙ regroup on.before deeper.before (flat (part_at path inner)) deeper.behind on.behind;
      after = λ new. on.after (with_part_at path new inner)
          ∙ ap (λ cells. on.before ++ (cells ++ on.behind)) (deeper.after new)
          ∙ regroup on.before deeper.before (flat new) deeper.behind on.behind;
    }

-- the cells of a part are a slice, and those of a datum with another part are its cells with that slice replaced
module _ (path : List ℕ) (shape part : Shape) (datum : Datum) (is : IsShaped shape datum)
    (leads : Leads shape path part) where
  pub flat-part_at : flat (part_at path datum) ≡ take (size part) (drop (offset shape path) (flat datum))
  flat-part_at =
      let on = stands_at path shape part datum is leads in
      sym (ap (λ cells. take (size part) (drop (offset shape path) cells)) on.now
      ∙ ap (take (size part)) (drop_at on.before (flat (part_at path datum) ++ on.behind) (offset shape path) on.begins)
      ∙ take_at (flat (part_at path datum)) on.behind (size part)
      (length-flat part (part_at path datum) (part_at-shaped path shape part datum is leads)))

  pub flat-with_part_at : (new : Datum) → flat (with_part_at path new datum)
      ≡ take (offset shape path) (flat datum) ++ (flat new ++ drop (offset shape path + size part) (flat datum))
  flat-with_part_at new =
      let on = stands_at path shape part datum is leads in
      let old = flat (part_at path datum) in
      on.after new
      ∙ ap₂ (λ before behind. before ++ (flat new ++ behind))
      (sym (ap (take (offset shape path)) on.now ∙ take_at on.before (old ++ on.behind) (offset shape path) on.begins))
      (sym (ap (drop (offset shape path + size part)) (on.now ∙ sym (append_assoc on.before old on.behind))
      ∙ drop_at (on.before ++ old) on.behind (offset shape path + size part)
      (omega (
        arith,
        length-append on.before old,
        on.begins,
        length-flat part (part_at path datum) (part_at-shaped path shape part datum is leads),
      ))))

-- a part of one cell is the number at its offset, and one that is put there is set there
flat-one : (datum : Datum) → IsShaped one_cell datum → flat datum ≡ number_in datum ∷ []
flat-one undefined is = refl
flat-one (holds value) is = refl
flat-one (parts found) is = absurd is

module _ (path : List ℕ) (shape : Shape) (datum : Datum) (is : IsShaped shape datum)
    (leads : Leads shape path one_cell) where
  flat_here : StandsAt datum path (offset shape path)
  flat_here = stands_at path shape one_cell datum is leads

  flat_number : flat datum ≡ flat_here.before ++ (number_in (part_at path datum) ∷ flat_here.behind)
  flat_number =
      flat_here.now ∙ ap (λ cells. flat_here.before ++ (cells ++ flat_here.behind))
      (flat-one (part_at path datum) (part_at-shaped path shape one_cell datum is leads))

  pub number_in_flat : number_in (part_at path datum) ≡ slice_index_or (flat datum) (offset shape path) None
  number_in_flat =
      sym (ap (λ cells. slice_index_or cells (offset shape path) None) flat_number
      ∙ get_or_at flat_here.before _ flat_here.behind None (offset shape path) flat_here.begins)

  pub flat-number_set : (new : Datum) → IsShaped one_cell new
      → flat (with_part_at path new datum) ≡ slice_set (flat datum) (offset shape path) (number_in new)
  flat-number_set new one =
      flat_here.after new ∙ ap (λ cells. flat_here.before ++ (cells ++ flat_here.behind)) (flat-one new one)
      ∙ sym (ap (λ cells. slice_set cells (offset shape path) (number_in new)) flat_number
      ∙ set_at flat_here.before _ flat_here.behind (number_in new) (offset shape path) flat_here.begins)

-- a blank of a shape: each cell is undefined
abbrev mutual
  pub blank : Shape → Datum
  blank one_cell = undefined
  blank (several shapes) = parts (blanks shapes)

  pub blanks : Shapes → Data
  blanks no_shape = no_parts
  blanks (with_shape shape shapes) = with_part (blank shape) (blanks shapes)

mutual
  pub blank-shaped : (shape : Shape) → IsShaped shape (blank shape)
  blank-shaped one_cell = tt
  blank-shaped (several shapes) = blanks-shaped shapes

  pub blanks-shaped : (shapes : Shapes) → AreShaped shapes (blanks shapes)
  blanks-shaped no_shape = tt
  blanks-shaped (with_shape shape shapes) = (blank-shaped shape, blanks-shaped shapes)

mutual
  pub flat-blank : (shape : Shape) → flat (blank shape) ≡ replicate (size shape) None
  flat-blank one_cell = refl
  flat-blank (several shapes) = flat-blanks shapes

  pub flat-blanks : (shapes : Shapes) → flat_parts (blanks shapes) ≡ replicate (total shapes) None
  flat-blanks no_shape = refl
  flat-blanks (with_shape shape shapes) =
      ap₂ (λ first rest. first ++ rest) (flat-blank shape) (flat-blanks shapes)
      ∙ replicate-append-replicate (size shape) (total shapes) None

-- a part ends within its shape
pub offset_within : (path : List ℕ) (shape part : Shape) → Leads shape path part
    → offset shape path + size part ≤ size shape
offset_within path shape part leads =
    let is = blank-shaped shape in
    let on = stands_at path shape part (blank shape) is leads in
    let old = flat (part_at path (blank shape)) in
    omega (
      arith,
      length-flat shape (blank shape) is,
      ap length on.now,
      length-append on.before (old ++ on.behind),
      length-append old on.behind,
      on.begins,
      length-flat part _ (part_at-shaped path shape part (blank shape) is leads),
    )

-- a variable of a type begins as the blank of its shape
blanks-so_many : (count : ℕ) (shape : Shape) → blanks (shapes.so_many count shape) ≡ store.so_many count (blank shape)
blanks-so_many zero shape = refl
blanks-so_many (suc count) shape = ap (with_part (blank shape)) (blanks-so_many count shape)

blank-by : (shapes : List Shape) (type : PasType) → blank_by (map blank shapes) type ≡ blank (shape_by shapes type)
blank-by shapes (types.whole base) = refl
blank-by shapes types.text = refl
blank-by shapes (types.row number) = get_or-map blank shapes number one_cell

blank-fields : (shapes : List Shape) (found : List Field)
    → all_parts (map (λ (field : Field). blank_by (map blank shapes) field.type) found)
    ≡ blanks (all_shapes (map (λ (field : Field). shape_by shapes field.type) found))
blank-fields shapes [] = refl
blank-fields shapes (field ∷ found) = ap₂ with_part (blank-by shapes field.type) (blank-fields shapes found)

blank-in : (shapes : List Shape) (structure : Structure)
    → blank_in (map blank shapes) structure ≡ blank (shape_in shapes structure)
blank-in shapes (types.subrange range) = refl
blank-in shapes (types.array indexes element) =
    ap (λ datum. parts (store.so_many (count_of indexes) datum)) (blank-by shapes element)
    ∙ ap parts (sym (blanks-so_many (count_of indexes) (shape_by shapes element)))
blank-in shapes (types.fields found) = ap parts (blank-fields shapes found)
blank-in shapes (types.file component) = refl

blanks-behind : (shapes : List Shape) (table : Table)
    → blanks_behind (map blank shapes) table ≡ map blank (shapes_behind shapes table)
blanks-behind shapes [] = refl
blanks-behind shapes (found ∷ table) =
    ap (λ blanks. blanks_behind blanks table)
    (ap (λ last. map blank shapes ++ last ∷ []) (blank-in shapes found.structure) ∙ sym (map-append blank shapes _))
    ∙ blanks-behind (shapes ++ shape_in shapes found.structure ∷ []) table

pub blank_of-shape : (table : Table) (type : PasType) → blank_of table type ≡ blank (shape_of table type)
blank_of-shape table type =
    ap (λ blanks. blank_by blanks type) (blanks-behind [] table) ∙ blank-by (shapes_behind [] table) type

pub blank_of-shaped : (table : Table) (type : PasType) → IsShaped (shape_of table type) (blank_of table type)
blank_of-shaped table type =
    subst (IsShaped (shape_of table type)) (sym (blank_of-shape table type)) (blank-shaped (shape_of table type))

pub flat-blank_of : (table : Table) (type : PasType)
    → flat (blank_of table type) ≡ replicate (size (shape_of table type)) None
flat-blank_of table type = ap flat (blank_of-shape table type) ∙ flat-blank (shape_of table type)
