-- Two marks are enough: a cut asks only for the greatest semicolon place and the greatest break place after the begin
-- of its line, and since the begin only grows, the greatest of all places so far tell both, and that there is none
-- after it.
use Rattle.std.proofs.Common.{◌≡◌, ℕ, ◌+◌, ◌-◌, ◌<◌, ◌≤◌, Bool, true, false, ◌&&◌, nat_le, ◌==◌, List, [], ◌∷◌, ◌++◌}
use Rattle.std.proofs.Common.{length, drop, slice_index, get_or, if◌then◌else◌, Result, Ok, Err, refl, sym, ◌∙◌, ap}
use Rattle.std.proofs.Common.{arith, length-drop, inl, inr}
use Rattle.std.proofs.lemmas.List.{drop-append-le, drop-drop, get_or-drop}
use Rattle.std.proofs.lemmas.Bool.{le-ltb, lt-ltb}
use Rattle.wb_base.specs.declared.faults.TheConstants.{LINE_NOT_CUT}
use Rattle.std.proofs.lemmas.Bool.Decides.{leb_tells}
use Rattle.tangle_out.specs.declared.pieces.PieceKind.{PieceKind}
use Rattle.tangle_out.specs.declared.pieces.PieceKind.TheVariants.{Break}
use Rattle.tangle_out.specs.Pieces.{Piece}
use Rattle.tangle_out.specs.Packing.{Packed, text_of, spaced, space, ends_statement}
use Rattle.tangle_out.specs.Packing.{after_cut, may_cut, cut_at, and_then}
use Rattle.tangle_out.specs.Packer.{WaitingText, Waits, last_kind}
use Rattle.tangle_out.specs.inner.Advance.{text_with, with_more, from_place}
use Rattle.tangle_out.proofs.PlacesLemmas.{last_kind-more, text_after-more, length-more, semicolon-within}
use Rattle.tangle_out.proofs.PlacesLemmas.{break-within, semicolon-more, break-more}

-- a byte of the rest of a text is one of the text
pub slice_index-rest : (text : List ℕ) (begin place : ℕ) → begin ≤ place
    → slice_index (drop begin text) (place - begin) ≡ slice_index text place
slice_index-rest text begin place after =
    get_or-drop begin text (place - begin) 0 ∙ ap (λ (i : ℕ). get_or text i 0) (omega arith)

-- a space at a cut is dropped from the rest of a text as from the text
pub after_cut-rest : (text : List ℕ) (begin place : ℕ) → begin ≤ place
    → begin + after_cut (drop begin text) (place - begin) ≡ after_cut text place
after_cut-rest text begin place after =
    ap (λ (byte : ℕ). begin + (if byte == space then place - begin + 1 else place - begin))
    (slice_index-rest text begin place after)
    ∙ shifted (slice_index text place == space)
  where
    shifted : (b : Bool) → begin + (if b then place - begin + 1 else place - begin) ≡ (if b then place + 1 else place)
    shifted true = omega arith
    shifted false = omega arith

-- a place at which a line may be cut is one in its rest
pub may_cut-rest : (width begin place : ℕ) (text : List ℕ)
    → may_cut width 0 (drop begin text) (place - begin) ≡ may_cut width begin text place
may_cut-rest width begin place text =
    elim (leb_tells place begin) [
      | inl (here, before) ↦ ap
          (λ (b : Bool). b && nat_le (length (drop begin text) - after_cut (drop begin text) (place - begin)) width)
          (le-ltb 0 (place - begin) (omega arith))
          ∙ sym (ap (λ (b : Bool). b && nat_le (length text - after_cut text place) width) (le-ltb begin place before))
      | inr (here, after) ↦ ap
          (λ (b : Bool). b && nat_le (length (drop begin text) - after_cut (drop begin text) (place - begin)) width)
          (lt-ltb 0 (place - begin) (omega arith))
          ∙ ap (λ (n : ℕ). nat_le n width)
          (omega (arith, length-drop begin text, after_cut-rest text begin place (omega arith)))
          ∙ sym (ap (λ (b : Bool). b && nat_le (length text - after_cut text place) width) (lt-ltb begin place after))
    ]

-- a line is cut only after its begin
pub may_cut-after : (width begin place : ℕ) (text : List ℕ) → may_cut width begin text place ≡ true → begin < place
may_cut-after width begin place text may =
    elim (leb_tells place begin) [
      | inl (here, before) ↦ let no : may_cut width begin text place ≡ false =
          ap (λ (b : Bool). b && nat_le (length text - after_cut text place) width)
          (le-ltb begin place before) in absurd (cc)
      | inr (here, after) ↦ after
    ]

-- a place in the rest of a text as a place in the text
abbrev pub shifted : ℕ → Result ℕ ℕ → Result ℕ ℕ
shifted begin result = and_then result (λ place. Ok (begin + place))

-- the cut of a line is the one that the two marks give
pub cut_at-rest : (width begin semicolon place : ℕ) (text : List ℕ)
    → shifted begin (cut_at width 0 (drop begin text) (semicolon - begin) (place - begin))
    ≡ cut_at width begin text semicolon place
cut_at-rest width begin semicolon place text =
    let one : may_cut width 0 (drop begin text) (semicolon - begin) ≡ may_cut width begin text semicolon =
    may_cut-rest width begin semicolon text in
    let two : may_cut width 0 (drop begin text) (place - begin) ≡ may_cut width begin text place =
    may_cut-rest width begin place text in
    ap (λ (b : Bool). shifted begin
    (if b then Ok (semicolon - begin) else
    (if may_cut width 0 (drop begin text) (place - begin) then Ok (place - begin) else Err LINE_NOT_CUT))) one
    ∙ ap (λ (b : Bool). shifted begin
    (if may_cut width begin text semicolon then Ok (semicolon - begin) else
    (if b then Ok (place - begin) else Err LINE_NOT_CUT))) two
    ∙ chosen (may_cut width begin text semicolon) (may_cut width begin text place)
    (may_cut-after width begin semicolon text) (may_cut-after width begin place text)
  where
    chosen : (a b : Bool) → (a ≡ true → begin < semicolon) → (b ≡ true → begin < place)
        → shifted begin (if a then Ok (semicolon - begin) else (if b then Ok (place - begin) else Err LINE_NOT_CUT))
        ≡ (if a then Ok semicolon else (if b then Ok place else Err LINE_NOT_CUT))
    chosen true b first second = let h : begin < semicolon = first refl in let ok : ℕ → Result ℕ ℕ =
        λ n. Ok n in ap ok (omega arith)
    chosen false true first second = let h : begin < place = second refl in let ok : ℕ → Result ℕ ℕ =
        λ n. Ok n in ap ok (omega arith)
    chosen false false first second = refl

-- a choice of two numbers, each counted from the begin
pub choice-rest : (b : Bool) (x y x' y' begin : ℕ) → x ≡ x' - begin → y ≡ y' - begin
    → (if b then x else y) ≡ (if b then x' else y') - begin
choice-rest true x y x' y' begin first second = first
choice-rest false x y x' y' begin first second = second

-- what waits with a piece more is the rest of the text with it
pub text_with-rest : (waiting : WaitingText) (packed : Packed) (piece : Piece) → Waits waiting packed
    → text_with waiting piece ≡ drop packed.begin (text_of (packed.pieces ++ piece ∷ []))
text_with-rest waiting packed piece waits =
    ap (λ (l : List ℕ). l ++ spaced waiting.before piece) waits.text
    ∙ ap (λ (kind : PieceKind). drop packed.begin (text_of packed.pieces) ++ spaced kind piece) waits.before
    ∙ sym (drop-append-le packed.begin (text_of packed.pieces)
    (spaced (last_kind Break packed.pieces) piece) waits.within)
    ∙ ap (λ (l : List ℕ). drop packed.begin l) (sym (text_after-more Break packed.pieces piece))

pub length_with-rest : (waiting : WaitingText) (packed : Packed) (piece : Piece) → Waits waiting packed
    → length (text_with waiting piece) ≡ length (text_of (packed.pieces ++ piece ∷ [])) - packed.begin
length_with-rest waiting packed piece waits =
    ap length (text_with-rest waiting packed piece waits) ∙ length-drop packed.begin _

pub length-rest : (waiting : WaitingText) (packed : Packed) → Waits waiting packed
    → length waiting.text ≡ length (text_of packed.pieces) - packed.begin
length-rest waiting packed waits = ap length waits.text ∙ length-drop packed.begin _

-- the marks with a piece more are those of the pieces with it
pub Waits-more : (waiting : WaitingText) (packed : Packed) (piece : Piece) → Waits waiting packed
    → Waits (with_more waiting piece) (record packed { pieces = packed.pieces ++ piece ∷ [] })
Waits-more waiting packed piece waits = record {
  within = omega (arith, length-more packed.pieces piece, waits.within);
  text = text_with-rest waiting packed piece waits;
  semicolon = choice-rest (ends_statement piece.kind) _ _ _ _ packed.begin
      (length_with-rest waiting packed piece waits) waits.semicolon
      ∙ ap (λ (n : ℕ). n - packed.begin) (sym (semicolon-more packed.pieces piece));
  break_place = choice-rest (ends_statement piece.kind) _ _ _ _ packed.begin
      (length_with-rest waiting packed piece waits)
      (choice-rest piece.glued _ _ _ _ packed.begin waits.break_place (length-rest waiting packed waits))
      ∙ ap (λ (n : ℕ). n - packed.begin) (sym (break-more packed.pieces piece));
  before = sym (last_kind-more Break packed.pieces piece);
}

-- and those after a later begin are what is left of the marks
pub Waits-from : (waiting : WaitingText) (packed : Packed) (lines : List (List ℕ)) (more : ℕ) → Waits waiting packed
    → more ≤ length waiting.text
    → Waits (from_place more waiting) (record { lines = lines; pieces = packed.pieces; begin = packed.begin + more })
Waits-from waiting packed lines more waits within = record {
  within = omega (arith, length-rest waiting packed waits, waits.within);
  text = ap (λ (l : List ℕ). drop more l) waits.text ∙ drop-drop more packed.begin (text_of packed.pieces);
  semicolon = omega (arith, waits.semicolon);
  break_place = omega (arith, waits.break_place);
  before = waits.before;
}

-- the marks are within what waits
pub places-within : (waiting : WaitingText) (packed : Packed) (glued : Bool) → Waits waiting packed
    → (waiting.semicolon ≤ length waiting.text) ×
    ((if glued then waiting.break_place else length waiting.text) ≤ length waiting.text)
places-within waiting packed glued waits = (
  omega (arith, waits.semicolon, semicolon-within packed.pieces, length-rest waiting packed waits),
  chosen glued,
)
  where
    chosen : (b : Bool) → (if b then waiting.break_place else length waiting.text) ≤ length waiting.text
    chosen true = omega (arith, waits.break_place, break-within packed.pieces, length-rest waiting packed waits)
    chosen false = omega arith
