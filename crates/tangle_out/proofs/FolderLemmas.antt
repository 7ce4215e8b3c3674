-- What a folder holds of items gives, at the next item and at the end, what folding gives, and holds after it.
use Rattle.std.proofs.Common.{◌≡◌, ℕ, ◌==◌, ◌+◌, ◌-◌, ◌*◌, nat_lt, ◌||◌, Bool, true, false, cond, List, [], ◌∷◌, ◌++◌}
use Rattle.std.proofs.Common.{reverse, length, ◌≤◌}
use Rattle.std.proofs.Common.{refl, sym, ap, ◌∙◌, inl, inr, pos, subst, ◌<◌, arith}
use Rattle.std.specs.Prelude.{Option, Some, None, is_some, Result, Ok, Err}
use Rattle.std.proofs.lemmas.Bool.Decides.{eqb_tells}
use Rattle.std.proofs.lemmas.Bool.{ne_eqb}
use Rattle.std.proofs.lemmas.List.{reverse-append, length-reverse}
use Rattle.std.specs.Option.{unwrap_or}
use Rattle.wb_base.specs.declared.faults.TheConstants.{CONSTANT_TOO_BIG, METACOMMENT_NOT_ENDED, REAL_CONSTANT}
use Rattle.macro_expand.specs.declared.items.Item.{Item}
use Rattle.macro_expand.specs.declared.items.Item.TheVariants as code
use Rattle.macro_expand.specs.Items.{Expanded, digit, number, word, sign, join, meta_open, meta_close, item_of}
use Rattle.tangle_out.specs.declared.folding.TheConstants.{GREATEST_CONSTANT}
use Rattle.tangle_out.specs.declared.folding.Last.{Last}
use Rattle.tangle_out.specs.declared.folding.Last.TheVariants.{Point, Quote, Else}
use Rattle.tangle_out.specs.declared.folding.Kept.{Kept}
use Rattle.tangle_out.specs.Pieces.{Piece}
use Rattle.tangle_out.specs.Units.{FoldingUnit, constant, is_div_or_mod, unit_of, unit_of_sign, digits_before}
use Rattle.tangle_out.specs.Units.{with_number}
use Rattle.tangle_out.specs.Units.{units_of, is_after_point}
use Rattle.tangle_out.specs.Units as UnitOf
use Rattle.tangle_out.specs.Folding.{added_by_unit, added_by_item, added_by_digit, after_number, both}
use Rattle.tangle_out.specs.Folding.{glued_first, added_by_end, depth_of}
use Rattle.tangle_out.specs.Folder.{FolderState, HoldsItems, Stands, HasRoomFor, Adds, Shows, AddsAtEnd, ShowsAtEnd}
use Rattle.tangle_out.specs.declared.folding.Held.{Held}
use Rattle.tangle_out.specs.declared.folding.Sign.TheVariants.{Plus, Minus}
use Rattle.macro_expand.specs.Foldable.{IsFoldable}
use Rattle.tangle_out.specs.Metacomments.{HasRoom}
use Rattle.tangle_out.specs.inner.Stands.{Holds, last_unit}
use Rattle.tangle_out.specs.inner.Table.{CanTake, and_map, keeping, after_constant, kept_after, kept_after_number}
use Rattle.tangle_out.specs.inner.Table.{pieces_at, pieces_at_number, joined_at}
use Rattle.tangle_out.specs.inner.Table.{joined_at_number, is_at_point, with_digit, fault_of_held, pieces_of_held}
use Rattle.tangle_out.specs.inner.Table.{nothing_kept, joined_after}
use Rattle.tangle_out.proofs.UnitsLemmas.{AgreesAt, after_unit, after_end, Holds-start}

-- an answer that is an Ok, or an Err
agrees_ok : (answer : Result Kept ℕ) (added : Result (List Piece) ℕ) (pieces : List Piece) (Then : Kept → Type 0)
    (kept : Kept) → AgreesAt answer added pieces Then → answer ≡ Ok kept → (added ≡ Ok pieces) × Then kept
agrees_ok (Ok there) added pieces Then kept a e =
    let same : there ≡ kept = cc in
    (a.0, subst Then same a.1)
agrees_ok (Err code) added pieces Then kept a e = cc

agrees_err : (answer : Result Kept ℕ) (added : Result (List Piece) ℕ) (pieces : List Piece) (Then : Kept → Type 0)
    (code : ℕ) → AgreesAt answer added pieces Then → answer ≡ Err code → added ≡ Err code
agrees_err (Ok there) added pieces Then code a e = cc
agrees_err (Err there) added pieces Then code a e = cc

-- ---- the number that digits were

both-nothing : (later : Result (List Piece) ℕ) → both (Ok []) later ≡ later
both-nothing (Ok later) = refl
both-nothing (Err code) = refl

number_ok : (units : List FoldingUnit) (kept next : Kept) (joined : Bool) (value : Option ℕ)
    (Next : List FoldingUnit → Result (List Piece) ℕ)
    → Holds kept joined units → kept_after_number kept value ≡ Ok next
    → (after_number value units Next
    ≡ both (Ok (glued_first joined (pieces_at_number kept value))) (Next (with_number value units)))
    × Holds next (joined_at_number kept value joined) (with_number value units)
number_ok units kept next joined None Next h e =
    let same : kept ≡ next = cc in
    (sym (both-nothing (Next units)), subst (λ k. Holds k joined units) same h)
number_ok units kept next joined (Some value) Next h e =
    let a = agrees_ok _ _ _ _ next (after_unit units kept joined (constant (pos value)) h) e in
    (ap (λ r. both r (Next (constant (pos value) ∷ units))) a.0, a.1)

number_err : (units : List FoldingUnit) (kept : Kept) (code : ℕ) (joined : Bool) (value : Option ℕ)
    (Next : List FoldingUnit → Result (List Piece) ℕ)
    → Holds kept joined units → kept_after_number kept value ≡ Err code → after_number value units Next ≡ Err code
number_err units kept code joined None Next h e = cc
number_err units kept code joined (Some value) Next h e =
    ap (λ r. both r (Next (constant (pos value) ∷ units)))
    (agrees_err _ _ _ _ code (after_unit units kept joined (constant (pos value)) h) e)

-- ---- an item that is no digit

-- an item that is no digit
abbrev pub NotDigit : Expanded → Type 0
NotDigit (digit byte) = ⊥
NotDigit item = Unit {0}

-- it is a unit after the number of the digits before
record IsUnit (before : List Expanded) (item : Expanded) : Type 0 where
  units : units_of (item ∷ before) ≡ unit_of item ∷ with_number (digits_before before) (units_of before)
  none : digits_before (item ∷ before) ≡ None
  added : added_by_item before item
      ≡ after_number (digits_before before) (units_of before) (λ units. added_by_unit units (unit_of item))

is_unit : (before : List Expanded) (item : Expanded) → NotDigit item → IsUnit before item
is_unit before (digit byte) n = absurd n
is_unit before _ n = record { units = refl; none = refl; added = refl }

pub item_ok : (before : List Expanded) (item : Expanded) (state : FolderState) (kept next : Kept)
    → NotDigit item → HoldsItems state before
    → kept_after_number state.kept state.number ≡ Ok kept → kept_after kept (unit_of item) ≡ Ok next
    → (added_by_item before item ≡ Ok (glued_first state.joined (pieces_at_number state.kept state.number)
    ++ glued_first (joined_at_number state.kept state.number state.joined) (pieces_at kept (unit_of item))))
    × HoldsItems (record {
      number = None;
      kept = next;
      joined = joined_at kept (unit_of item) (joined_at_number state.kept state.number state.joined);
    }) (item ∷ before)
item_ok before item state kept next n h e f =
    let unit = is_unit before item n in
    let first = number_ok (units_of before) state.kept kept state.joined state.number
    (λ units. added_by_unit units (unit_of item)) h.units e in
    let second = agrees_ok _ _ _ _ next (after_unit _ kept _ (unit_of item) first.1) f in (
      rw (unit.added, ← h.number, first.0, second.0) refl,
      record { number = sym unit.none; units = rw (unit.units, ← h.number) second.1 },
    )

pub item_err_number : (before : List Expanded) (item : Expanded) (state : FolderState) (code : ℕ)
    → NotDigit item → HoldsItems state before → kept_after_number state.kept state.number ≡ Err code
    → added_by_item before item ≡ Err code
item_err_number before item state code n h e =
    let unit = is_unit before item n in
    rw (unit.added, ← h.number)
    (number_err (units_of before) state.kept code state.joined state.number
    (λ units. added_by_unit units (unit_of item)) h.units e)

pub item_err_unit : (before : List Expanded) (item : Expanded) (state : FolderState) (kept : Kept) (code : ℕ)
    → NotDigit item → HoldsItems state before
    → kept_after_number state.kept state.number ≡ Ok kept → kept_after kept (unit_of item) ≡ Err code
    → added_by_item before item ≡ Err code
item_err_unit before item state kept code n h e f =
    let unit = is_unit before item n in
    let first = number_ok (units_of before) state.kept kept state.joined state.number
    (λ units. added_by_unit units (unit_of item)) h.units e in
    let second = agrees_err _ _ _ _ code (after_unit _ kept _ (unit_of item) first.1) f in
    rw (unit.added, ← h.number, first.0, second) refl

-- ---- a digit

is_at_point-some : (last : Last) (value : ℕ) → is_at_point last (Some value) ≡ false
is_at_point-some Point value = refl
is_at_point-some Quote value = refl
is_at_point-some Else value = refl

point_of_word : (product : Bool) (bytes : List ℕ) (units : List FoldingUnit)
    → is_at_point (last_unit (cond product (UnitOf.product (word bytes)) (UnitOf.other (word bytes)) ∷ units)) None
    ≡ false
point_of_word true bytes units = refl
point_of_word false bytes units = refl

if_point : (b : Bool) → is_at_point (cond b Point Else) None ≡ b
if_point true = refl
if_point false = refl

point_of_sign : (byte : ℕ) (units : List FoldingUnit)
    → is_at_point (last_unit (unit_of_sign byte ∷ units)) None ≡ (byte == 46)
point_of_sign byte units =
    let P : ℕ → Type 0 = λ b. is_at_point (last_unit (unit_of_sign b ∷ units)) None ≡ (b == 46) in
    elim (eqb_tells byte 43) [
      | inl plus ↦ subst P (sym plus.1) refl
      | inr p ↦ elim (eqb_tells byte 45) [
        | inl minus ↦ subst P (sym minus.1) refl
        | inr m ↦ elim (eqb_tells byte 42) [
          | inl star ↦ subst P (sym star.1) refl
          | inr s ↦ elim (eqb_tells byte 47) [
            | inl slash ↦ subst P (sym slash.1) refl
            | inr d ↦ rw (p.0, m.0, s.0, d.0) (if_point (byte == 46))
          ]
        ]
      ]
    ]

point-before : (before : List Expanded)
    → is_at_point (last_unit (units_of before)) (digits_before before) ≡ is_after_point before
point-before [] = refl
point-before (digit byte ∷ before) = is_at_point-some (last_unit (units_of before)) _
point-before (sign byte ∷ before) = point_of_sign byte (with_number (digits_before before) (units_of before))
point-before (word bytes ∷ before) =
    point_of_word (is_div_or_mod bytes) bytes (with_number (digits_before before) (units_of before))
point-before (_ ∷ before) = refl

-- no pieces, or the fault
abbrev pub and_nothing : Result ℕ ℕ → Result (List Piece) ℕ
and_nothing (Ok value) = Ok []
and_nothing (Err code) = Err code

nothing_by : (a b : Bool) (value : ℕ)
    → and_nothing (cond a (Err REAL_CONSTANT) (cond b (Err CONSTANT_TOO_BIG) (Ok value)))
    ≡ cond a (Err REAL_CONSTANT) (cond b (Err CONSTANT_TOO_BIG) (Ok []))
nothing_by true b value = refl
nothing_by false true value = refl
nothing_by false false value = refl

value_by : (a b : Bool) (there value : ℕ)
    → cond a (Err REAL_CONSTANT) (cond b (Err CONSTANT_TOO_BIG) (Ok there)) ≡ Ok value → there ≡ value
value_by true b there value e = cc
value_by false true there value e = cc
value_by false false there value e = cc

-- what is added by a digit is what the number with it is
pub digit_is : (before : List Expanded) (byte : ℕ) (state : FolderState) → HoldsItems state before
    → added_by_digit before byte ≡ and_nothing (with_digit state.kept.last state.number byte)
digit_is before byte state h =
    let point : is_at_point state.kept.last state.number ≡ is_after_point before =
    rw (h.units.last, h.number) (point-before before) in
    rw (← point, ← h.number)
    (sym (nothing_by (is_at_point state.kept.last state.number)
    (nat_lt GREATEST_CONSTANT (10 * unwrap_or state.number 0 + (byte - 48)))
    (10 * unwrap_or state.number 0 + (byte - 48))))

-- after a digit
pub digit_ok : (before : List Expanded) (byte : ℕ) (state : FolderState) (value : ℕ) → HoldsItems state before
    → with_digit state.kept.last state.number byte ≡ Ok value
    → (added_by_digit before byte ≡ Ok [])
    × HoldsItems (record { number = Some value; kept = state.kept; joined = state.joined }) (digit byte ∷ before)
digit_ok before byte state value h e = (
  digit_is before byte state h ∙ ap and_nothing e,
  record {
    number = ap Some (sym (value_by _ _ _ value e)) ∙ ap (λ n. Some (10 * unwrap_or n 0 + (byte - 48))) h.number;
    units = h.units;
  },
)

pub digit_err : (before : List Expanded) (byte : ℕ) (state : FolderState) (code : ℕ) → HoldsItems state before
    → with_digit state.kept.last state.number byte ≡ Err code → added_by_digit before byte ≡ Err code
digit_err before byte state code h e = digit_is before byte state h ∙ ap and_nothing e

-- ---- the items

with_item : (items : List Expanded) (item : Expanded) → reverse (items ++ item ∷ []) ≡ item ∷ reverse items
with_item items item = reverse-append items (item ∷ [])

pub adds : (items : List Expanded) (item : Expanded) (state next : FolderState) (pieces : List Piece)
    → Stands state items → added_by_item (reverse items) item ≡ Ok pieces → HoldsItems next (item ∷ reverse items)
    → Adds items item pieces × Stands next (items ++ item ∷ [])
adds items item state next pieces s e h = (
  rw (with_item items item, s.no_fault, e) refl,
  record { no_fault = rw (with_item items item, s.no_fault, e) refl; holds = rw (with_item items item) h },
)

pub shows : (items : List Expanded) (item : Expanded) (state : FolderState) (code : ℕ)
    → Stands state items → added_by_item (reverse items) item ≡ Err code → Shows items item code
shows items item state code s e = rw (with_item items item, s.no_fault, e) refl

-- an item that is no digit, where no number comes before it: its unit gives these pieces
pub plain_ok : (items : List Expanded) (item : Expanded) (number : Option ℕ) (kept next : Kept) (joined : Bool)
    (unit : FoldingUnit) (pieces : List Piece)
    → NotDigit item → Stands (record { number = number; kept = kept; joined = joined }) items
    → is_some number ≡ false → unit ≡ unit_of item → kept_after kept unit ≡ Ok next → pieces_at kept unit ≡ pieces
    → ((after_join : Bool) → joined_at kept unit after_join ≡ joined_after pieces after_join)
    → Adds items item (glued_first joined pieces)
    × Stands (record { number = number; kept = next; joined = joined_after pieces joined }) (items ++ item ∷ [])
plain_ok items item (Some value) kept next joined unit pieces n s none unit_is e pieces_is joined_is = absurd cc
plain_ok items item None kept next joined unit pieces n s none unit_is e pieces_is joined_is =
    let state : FolderState = record { number = None; kept = kept; joined = joined } in
    let after = item_ok (reverse items) item state kept next n s.holds refl
    (ap (λ u. kept_after kept u) (sym unit_is) ∙ e) in
    let there : pieces_at kept (unit_of item) ≡ pieces = ap (λ u. pieces_at kept u) (sym unit_is) ∙ pieces_is in
    let glued : joined_at kept (unit_of item) joined ≡ joined_after pieces joined =
    ap (λ u. joined_at kept u joined) (sym unit_is) ∙ joined_is joined in
    adds items item state (record { number = None; kept = next; joined = joined_after pieces joined })
    (glued_first joined pieces) s (after.0 ∙ ap (λ ps. Ok (glued_first joined ps)) there)
    (subst (λ j. HoldsItems (record { number = None; kept = next; joined = j }) (item ∷ reverse items)) glued after.1)

-- ---- no item, and the end

pub Stands-nothing : Stands (record { number = None; kept = nothing_kept; joined = false }) []
Stands-nothing = record { no_fault = refl; holds = record { number = refl; units = Holds-start } }

-- the end shows that a metacomment is open
pub end_open : (items : List Expanded) (state : FolderState) → Stands state items → 0 < state.kept.depth
    → ShowsAtEnd items METACOMMENT_NOT_ENDED
end_open items state s open_ =
    let closed : (depth_of (units_of (reverse items)) == 0) ≡ false =
    rw (← s.holds.units.depth) (ne_eqb _ _ (λ e. omega arith)) in
    rw (s.no_fault, closed) refl

pub end_err_number : (items : List Expanded) (state : FolderState) (code : ℕ) → Stands state items
    → state.kept.depth ≡ 0 → kept_after_number state.kept state.number ≡ Err code → ShowsAtEnd items code
end_err_number items state code s closed e =
    let number = number_err (units_of (reverse items)) state.kept code state.joined state.number added_by_end
    s.holds.units e in
    rw (s.no_fault, ← s.holds.units.depth, closed, ← s.holds.number, number) refl

pub end_err_sum : (items : List Expanded) (state : FolderState) (kept : Kept) (code : ℕ) → Stands state items
    → state.kept.depth ≡ 0 → kept_after_number state.kept state.number ≡ Ok kept
    → fault_of_held kept.held ≡ Some code → ShowsAtEnd items code
end_err_sum items state kept code s closed e f =
    let first = number_ok (units_of (reverse items)) state.kept kept state.joined state.number added_by_end
    s.holds.units e in
    let second = after_end _ kept _ first.1 in
    rw (s.no_fault, ← s.holds.units.depth, closed, ← s.holds.number, first.0, second, f) refl

pub end_ok : (items : List Expanded) (state : FolderState) (kept : Kept) → Stands state items
    → state.kept.depth ≡ 0 → kept_after_number state.kept state.number ≡ Ok kept → fault_of_held kept.held ≡ None
    → AddsAtEnd items (glued_first state.joined (pieces_at_number state.kept state.number)
    ++ glued_first (joined_at_number state.kept state.number state.joined) (pieces_of_held false kept.held))
end_ok items state kept s closed e f =
    let first = number_ok (units_of (reverse items)) state.kept kept state.joined state.number added_by_end
    s.holds.units e in
    let second = after_end _ kept _ first.1 in
    rw (s.no_fault, ← s.holds.units.depth, closed, ← s.holds.number, first.0, second, f) refl

-- an item of the code that is no digit
pub not_digit : (item : Item) → ((byte : ℕ) → item ≡ code.Digit byte → ⊥) → NotDigit (item_of item)
not_digit (code.Digit byte) n = absurd (n byte refl)
not_digit _ n = tt

-- ---- the conditions

can_take_sign : (plus minus star : Bool) (kept : Kept) (byte : ℕ) → HasRoom kept.depth (sign byte)
    → CanTake kept (cond plus (UnitOf.addition Plus) (cond minus (UnitOf.addition Minus)
    (cond star (UnitOf.product (sign byte)) (UnitOf.other (sign byte)))))
can_take_sign true minus star kept byte r = tt
can_take_sign false true star kept byte r = tt
can_take_sign false false true kept byte r = (tt, refl)
can_take_sign false false false kept byte r = (tt, r)

can_take_word : (product : Bool) (kept : Kept) (bytes : List ℕ) → IsFoldable (word bytes)
    → HasRoom kept.depth (word bytes)
    → CanTake kept (cond product (UnitOf.product (word bytes)) (UnitOf.other (word bytes)))
can_take_word true kept bytes f r = (f, refl)
can_take_word false kept bytes f r = (f, r)

-- the unit of an item that meets the conditions
pub can_take : (kept : Kept) (item : Expanded) → IsFoldable item → HasRoom kept.depth item → CanTake kept (unit_of item)
can_take kept (number value) f r = f
can_take kept (sign byte) f r =
    can_take_sign (byte == 43) (byte == 45) (byte == 42 || byte == 47) kept byte r
can_take kept (word bytes) f r = can_take_word (is_div_or_mod bytes) kept bytes f r
can_take kept join f r = tt
can_take kept _ f r = (f, r)

depth_kept : (kept next : Kept) (answer : Result Held ℕ) → and_map (keeping kept Else) answer ≡ Ok next
    → next.depth ≡ kept.depth
depth_kept kept next (Ok held) e =
    let same : keeping kept Else held ≡ next = cc in
    sym (ap (λ (k : Kept). k.depth) same)
depth_kept kept next (Err code) e = cc

-- a number opens no metacomment
pub depth_after_digits : (kept next : Kept) (value : Option ℕ) → kept_after_number kept value ≡ Ok next
    → next.depth ≡ kept.depth
depth_after_digits kept next None e =
    let same : kept ≡ next = cc in
    sym (ap (λ (k : Kept). k.depth) same)
depth_after_digits kept next (Some value) e = depth_kept kept next (after_constant kept.held (pos value)) e

-- ---- no more metacomments are open than items came

depth_of-le : (units : List FoldingUnit) → depth_of units ≤ length units
depth_of-le [] = omega arith
depth_of-le (UnitOf.other meta_open ∷ units) = let h = depth_of-le units in omega arith
depth_of-le (UnitOf.other meta_close ∷ units) = let h = depth_of-le units in omega arith
depth_of-le (UnitOf.other _ ∷ units) = let h = depth_of-le units in omega arith
depth_of-le (_ ∷ units) = let h = depth_of-le units in omega arith

units_of-le : (before : List Expanded)
    → (length (units_of before) ≤ length before)
    × (length (with_number (digits_before before) (units_of before)) ≤ length before)
units_of-le [] = (omega arith, omega arith)
units_of-le (digit byte ∷ before) = let h = units_of-le before in (omega arith, omega arith)
units_of-le (_ ∷ before) = let h = units_of-le before in (omega arith, omega arith)

-- so one more can be counted after fewer than 4294967295 items
pub Stands-room : (items : List Expanded) (item : Expanded) (state : FolderState) → Stands state items
    → length items < 4294967295 → HasRoomFor state item
Stands-room items item state s few _ =
    let units = units_of-le (reverse items) in
    let depth = depth_of-le (units_of (reverse items)) in
    let same = s.holds.units.depth in
    omega (arith, length-reverse items)
