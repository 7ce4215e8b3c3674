-- What is kept after some units gives, at the next unit, what the definition by runs gives, and holds after it.
use Rattle.std.proofs.Common.{◌≡◌, ℕ, ◌==◌, ◌+◌, ◌-◌, ℤ, Bool, true, false, cond, List, [], ◌∷◌, ◌++◌, refl, ap, ◌∙◌}
use Rattle.std.specs.Prelude.{Option, Some, None, Result, Ok, Err}
use Rattle.macro_expand.specs.Items.{Expanded, sign, quoted}
use Rattle.macro_expand.specs.Items.{meta_open, meta_close}
use Rattle.tangle_out.specs.declared.folding.Held.{Held}
use Rattle.tangle_out.specs.declared.folding.Held.TheVariants.{Nothing}
use Rattle.tangle_out.specs.declared.folding.Last.{Last}
use Rattle.tangle_out.specs.declared.folding.Last.TheVariants.{Point, Else}
use Rattle.tangle_out.specs.declared.folding.Kept.{Kept}
use Rattle.tangle_out.specs.Pieces.{Piece}
use Rattle.tangle_out.specs.Units.{FoldingUnit, addition, constant, product, joining, other}
use Rattle.tangle_out.specs.Runs.{term_value, stands_alone, run_before, is_after_join, last_signs, terms_of, lead_of}
use Rattle.tangle_out.specs.Folding.{added_by_unit, added_by_end, depth_of, glued_first, unless, is_after_string}
use Rattle.tangle_out.specs.Folding.{continues_string}
use Rattle.tangle_out.specs.Folding.{piece_after, fault_of_item, alone_piece}
use Rattle.std.specs.Option.{unwrap_or}
use Rattle.tangle_out.specs.declared.folding.Lead.TheVariants.{Bare}
use Rattle.tangle_out.specs.inner.Table.{kept_after, kept_unless, pieces_at, joined_at, joined_after, and_map}
use Rattle.tangle_out.specs.inner.Table.{pieces_of_held, fault_of_held, depth_after, is_quote, continues, piece_here}
use Rattle.tangle_out.specs.inner.Table.{keeping}
use Rattle.tangle_out.specs.inner.Stands.{last_unit, Holds, HoldsRun, nothing, factor}
use Rattle.tangle_out.proofs.RunsLemmas.{Agrees, AgreesConstant, after_sign-run, after_constant-run, fault_of_held-run}
use Rattle.tangle_out.proofs.RunsLemmas.{pieces_of_held-run}

-- an answer with pieces agrees with what the definition adds: an Ok with these pieces, where the fact holds of what is
-- kept, and an Err with its fault
abbrev pub AgreesAt : Result Kept ℕ → Result (List Piece) ℕ → List Piece → (Kept → Type 0) → Type 0
AgreesAt (Ok kept) added pieces Then = (added ≡ Ok pieces) × Then kept
AgreesAt (Err code) added pieces Then = added ≡ Err code

-- ---- what was last

is_quote_if_point : (b : Bool) → is_quote (cond b Point Else) ≡ false
is_quote_if_point true = refl
is_quote_if_point false = refl

is_quote-last : (units : List FoldingUnit) → is_quote (last_unit units) ≡ is_after_string units
is_quote-last [] = refl
is_quote-last (other (quoted bytes) ∷ units) = refl
is_quote-last (other (sign byte) ∷ units) = is_quote_if_point (byte == 46)
is_quote-last (other _ ∷ units) = refl
is_quote-last (_ ∷ units) = refl

continues-last : (units : List FoldingUnit) (last : Last) (item : Expanded) → last ≡ last_unit units
    → continues last item ≡ continues_string units item
continues-last units last (quoted bytes) e = ap is_quote e ∙ is_quote-last units
continues-last units last _ e = refl

piece_here-after : (units : List FoldingUnit) (kept : Kept) (joined : Bool) (item : Expanded) → Holds kept joined units
    → piece_after units item ≡ piece_here kept item
piece_here-after units kept joined item h =
    let e = continues-last units kept.last item h.last in
    let d = h.depth in
    cc

depth_after-unit : (units : List FoldingUnit) (depth : ℕ) (item : Expanded) → depth ≡ depth_of units
    → depth_after depth item ≡ depth_of (other item ∷ units)
depth_after-unit units depth meta_open e = ap (λ d. d + 1) e
depth_after-unit units depth meta_close e = ap (λ d. d - 1) e
depth_after-unit units depth _ e = e

joined_after-some : (pieces : List Piece) (piece : Piece) (joined : Bool)
    → joined_after (pieces ++ piece ∷ []) joined ≡ false
joined_after-some [] piece joined = refl
joined_after-some (first ∷ pieces) piece joined = refl

-- ---- a sign

from_held : (answer : Result Held ℕ) (fault : Option ℕ) (HoldsHeld : Held → Type 0) (Then : Kept → Type 0)
    (f : Held → Kept) → Agrees answer fault HoldsHeld → ((held : Held) → HoldsHeld held → Then (f held))
    → AgreesAt (and_map f answer) (unless fault None []) [] Then
from_held (Ok held) fault HoldsHeld Then f a next = (ap (λ o. unless o None []) a.0, next held a.1)
from_held (Err code) fault HoldsHeld Then f a next = ap (λ o. unless o None []) a

after_addition : (units : List FoldingUnit) (kept : Kept) (joined : Bool) (s : _) → Holds kept joined units
    → AgreesAt (kept_after kept (addition s)) (added_by_unit units (addition s))
    (glued_first joined (pieces_at kept (addition s)))
    (λ next. Holds next (joined_at kept (addition s) joined) (addition s ∷ units))
after_addition units kept joined s h =
    from_held _ _ _ _ (keeping kept Else) (after_sign-run _ _ _ _ _ s h.run)
    (λ held run. record { run = run; after_join = h.after_join; last = refl; depth = h.depth })

-- ---- a number

-- what holds of a kept value after a number, by whether it stands alone
abbrev AfterConstant : Bool → List FoldingUnit → List FoldingUnit → ℤ → Bool → Bool → Kept → Type 0
AfterConstant alone units run value joined after next =
    HoldsRun false (terms_of (cond alone [] (constant value ∷ run))) (last_signs (cond alone [] (constant value ∷ run)))
    (lead_of (cond alone [] (constant value ∷ run))) next.held
    × (joined ≡ cond alone false after) × (next.last ≡ Else) × (next.depth ≡ depth_of units)

constant_by : (alone : Bool) (units run : List FoldingUnit) (kept : Kept) (joined after : Bool) (value : ℤ)
    (fault : Option ℕ) (answer : Result Held ℕ) (given : List Piece)
    → joined ≡ after → kept.depth ≡ depth_of units
    → AgreesConstant alone value answer given fault
    (HoldsRun false (term_value (last_signs run) value ∷ terms_of run) None (Some (unwrap_or (lead_of run) Bare)))
    → AgreesAt (and_map (keeping kept Else) answer)
    (cond alone (Ok (glued_first after (alone_piece value ∷ []))) (unless fault None [])) (glued_first joined given)
    (AfterConstant alone units run value (joined_after given joined) after)
constant_by true units run kept joined after value fault answer given j d (a, p) =
    rw (a, p, ← j) (refl, (nothing, refl, refl, d))
constant_by false units run kept joined after value fault (Ok held) given j d (a, p) =
    rw (a.0, p, ← j) (refl, (a.1, refl, refl, d))
constant_by false units run kept joined after value fault (Err code) given j d (a, p) = rw a refl

weaker : (answer : Result Kept ℕ) (added : Result (List Piece) ℕ) (pieces : List Piece) (P Q : Kept → Type 0)
    → AgreesAt answer added pieces P → ((kept : Kept) → P kept → Q kept) → AgreesAt answer added pieces Q
weaker (Ok kept) added pieces P Q a f = (a.0, f kept a.1)
weaker (Err code) added pieces P Q a f = a

after_constant-unit : (units : List FoldingUnit) (kept : Kept) (joined : Bool) (value : ℤ) → Holds kept joined units
    → AgreesAt (kept_after kept (constant value)) (added_by_unit units (constant value))
    (glued_first joined (pieces_at kept (constant value)))
    (λ next. Holds next (joined_at kept (constant value) joined) (constant value ∷ units))
after_constant-unit units kept joined value h =
    weaker _ _ _ _ _
    (constant_by (stands_alone units) units (run_before units) kept joined (is_after_join units) value _ _ _
    h.after_join h.depth (after_constant-run _ _ _ _ _ value h.run))
    (λ next t. record { run = t.0; after_join = t.1; last = t.2; depth = t.3 })

-- ---- a product sign or word, and a join

after_product : (units : List FoldingUnit) (kept : Kept) (joined : Bool) (item : Expanded) → Holds kept joined units
    → AgreesAt (kept_after kept (product item)) (added_by_unit units (product item))
    (glued_first joined (pieces_at kept (product item)))
    (λ next. Holds next (joined_at kept (product item) joined) (product item ∷ units))
after_product units kept joined item h =
    let pieces = pieces_of_held-run true _ _ _ _ _ h.run in
    let piece = piece_here-after units kept joined item h in
    let j = h.after_join in (
      cc,
      record {
        run = factor;
        after_join = joined_after-some (pieces_of_held true kept.held) _ joined;
        last = refl;
        depth = h.depth;
      },
    )

after_joining : (units : List FoldingUnit) (kept : Kept) (joined : Bool) → Holds kept joined units
    → AgreesAt (kept_after kept joining) (added_by_unit units joining) (glued_first joined (pieces_at kept joining))
    (λ next. Holds next (joined_at kept joining joined) (joining ∷ units))
after_joining units kept joined h =
    let pieces = pieces_of_held-run true _ _ _ _ _ h.run in
    let j = h.after_join in
    (cc, record { run = factor; after_join = refl; last = refl; depth = h.depth })

-- ---- another item, and the end

from_unless : (first later : Option ℕ) (kept : Kept) (pieces : List Piece) (Then : Kept → Type 0) → Then kept
    → AgreesAt (kept_unless first later kept) (unless first later pieces) pieces Then
from_unless (Some code) later kept pieces Then holds = refl
from_unless None (Some code) kept pieces Then holds = refl
from_unless None None kept pieces Then holds = (refl, holds)

after_other : (units : List FoldingUnit) (kept : Kept) (joined : Bool) (item : Expanded) → Holds kept joined units
    → AgreesAt (kept_after kept (other item)) (added_by_unit units (other item))
    (glued_first joined (pieces_at kept (other item)))
    (λ next. Holds next (joined_at kept (other item) joined) (other item ∷ units))
after_other units kept joined item h =
    let pieces = pieces_of_held-run false _ _ _ _ _ h.run in
    let piece = piece_here-after units kept joined item h in
    let fault = fault_of_held-run _ _ _ _ _ h.run in
    let j = h.after_join in
    let d = h.depth in
    let same : added_by_unit units (other item) ≡ unless (fault_of_held kept.held) (fault_of_item kept.depth item)
    (glued_first joined (pieces_at kept (other item))) = cc in
    rw same (from_unless _ _ _ _ _ (record {
      run = nothing;
      after_join = joined_after-some (pieces_of_held false kept.held) _ joined;
      last = refl;
      depth = depth_after-unit units kept.depth item h.depth;
    }))

-- ---- any unit

pub after_unit : (units : List FoldingUnit) (kept : Kept) (joined : Bool) (unit : FoldingUnit) → Holds kept joined units
    → AgreesAt (kept_after kept unit) (added_by_unit units unit) (glued_first joined (pieces_at kept unit))
    (λ next. Holds next (joined_at kept unit joined) (unit ∷ units))
after_unit units kept joined (addition s) h = after_addition units kept joined s h
after_unit units kept joined (constant value) h = after_constant-unit units kept joined value h
after_unit units kept joined (product item) h = after_product units kept joined item h
after_unit units kept joined joining h = after_joining units kept joined h
after_unit units kept joined (other item) h = after_other units kept joined item h

-- the end
pub after_end : (units : List FoldingUnit) (kept : Kept) (joined : Bool) → Holds kept joined units
    → added_by_end units ≡ unless (fault_of_held kept.held) None (glued_first joined (pieces_of_held false kept.held))
after_end units kept joined h =
    let pieces = pieces_of_held-run false _ _ _ _ _ h.run in
    let fault = fault_of_held-run _ _ _ _ _ h.run in
    let j = h.after_join in
    cc

-- before any unit
pub Holds-start : Holds (record { held = Nothing; last = Else; depth = 0 }) false []
Holds-start = record { run = nothing; after_join = refl; last = refl; depth = refl }
