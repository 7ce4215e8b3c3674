-- The text of a list of pieces and its places, with a piece more at the end.
use Rattle.std.proofs.Common.{◌≡◌, ℕ, ◌+◌, ◌≤◌, max, Bool, true, false, List, [], ◌∷◌, ◌++◌, length, fold, flat_map}
use Rattle.std.proofs.Common.{if◌then◌else◌, refl, sym, ◌∙◌, ap, append_assoc, arith, length-append}
use Rattle.std.proofs.lemmas.List.{append-nil}
use Rattle.std.proofs.lemmas.List.Sums.{fold-append}
use Rattle.std.proofs.lemmas.Grind.{flat_map-append}
use Rattle.tangle_out.specs.declared.pieces.PieceKind.{PieceKind}
use Rattle.tangle_out.specs.declared.pieces.PieceKind.TheVariants.{Break}
use Rattle.tangle_out.specs.Pieces.{Piece}
use Rattle.tangle_out.specs.Packing.{Placed, placed_from, text_after, text_of, spaced, ends_statement, greatest}
use Rattle.tangle_out.specs.Packing.{semicolon_places, semicolon_places_of, break_places, break_places_of, start_places}
use Rattle.tangle_out.specs.Packer.{last_kind}

pub last_kind-more : (before : PieceKind) (pieces : List Piece) (piece : Piece)
    → last_kind before (pieces ++ piece ∷ []) ≡ piece.kind
last_kind-more before [] piece = refl
last_kind-more before (first ∷ pieces) piece = last_kind-more first.kind pieces piece

pub text_after-more : (before : PieceKind) (pieces : List Piece) (piece : Piece)
    → text_after before (pieces ++ piece ∷ []) ≡ text_after before pieces ++ spaced (last_kind before pieces) piece
text_after-more before [] piece = append-nil (spaced before piece)
text_after-more before (first ∷ pieces) piece =
    ap (λ (l : List ℕ). spaced before first ++ l) (text_after-more first.kind pieces piece)
    ∙ sym (append_assoc (spaced before first) _ _)

-- the last of the places
abbrev pub last_placed : ℕ → PieceKind → List Piece → Piece → Placed
last_placed start before pieces piece = record {
  start = start + length (text_after before pieces);
  end = start + length (text_after before (pieces ++ piece ∷ []));
  piece = piece;
}

pub placed_at : (start start' end end' : ℕ) (piece : Piece) → start ≡ start' → end ≡ end'
    → (let p : Placed = record { start = start; end = end; piece = piece } in p)
    ≡ record { start = start'; end = end'; piece = piece }
placed_at start start' end end' piece p q = cc

pub placed_from-more : (start : ℕ) (before : PieceKind) (pieces : List Piece) (piece : Piece)
    → placed_from start before (pieces ++ piece ∷ []) ≡ placed_from start before pieces
    ++ last_placed start before pieces piece ∷ []
placed_from-more start before [] piece =
    ap (λ (p : Placed). p ∷ [])
    (placed_at _ _ _ _ piece (omega arith) (omega (arith, length-append (spaced before piece) [])))
placed_from-more start before (first ∷ pieces) piece =
    let end : ℕ = start + length (spaced before first) in
    let one : start + length (spaced before first) + length (text_after first.kind pieces) ≡ start + length
    (text_after before (first ∷ pieces)) =
    omega (arith, length-append (spaced before first) (text_after first.kind pieces)) in
    let two : start + length (spaced before first) + length (text_after first.kind (pieces ++ piece ∷ []))
    ≡ start + length (text_after before (first ∷ pieces ++ piece ∷ [])) =
    omega (arith, length-append (spaced before first) (text_after first.kind (pieces ++ piece ∷ []))) in
    ap (λ (l : List Placed). record { start = start; end = end; piece = first } ∷ l)
    (placed_from-more end first.kind pieces piece
    ∙ ap (λ (p : Placed). placed_from end first.kind pieces ++ p ∷ []) (placed_at _ _ _ _ piece one two))

-- no place is past the end
pub fold_max-within : (f : Placed → List ℕ) (start : ℕ) (before : PieceKind) (pieces : List Piece) (a : ℕ)
    → ((b : ℕ) (p : Placed) → b ≤ p.start → p.start ≤ p.end → fold max b (f p) ≤ p.end) → a ≤ start
    → fold max a (flat_map f (placed_from start before pieces)) ≤ start + length (text_after before pieces)
fold_max-within f start before [] a each within = omega arith
fold_max-within f start before (piece ∷ pieces) a each within =
    let end : ℕ = start + length (spaced before piece) in
    let here : fold max a (f (record { start = start; end = end; piece = piece })) ≤ end =
    each a (record { start = start; end = end; piece = piece }) within (omega arith) in
    rw (fold-append max a (f (record { start = start; end = end; piece = piece }))
    (flat_map f (placed_from end piece.kind pieces)))
    (omega (
      arith,
      fold_max-within f end piece.kind pieces _ each here,
      length-append (spaced before piece) (text_after piece.kind pieces),
    ))

pub each_semicolon : (b : ℕ) (p : Placed) → b ≤ p.start → p.start ≤ p.end → fold max b (semicolon_places_of p) ≤ p.end
each_semicolon b p before along =
    elim (ends_statement p.piece.kind) as (λ v. fold max b (if v then p.end ∷ [] else []) ≤ p.end)
    [ true ↦ omega arith | false ↦ omega arith ]

pub fold_start : (glued : Bool) (b start : ℕ) → b ≤ start
    → fold max b (start_places glued start) ≡ (if glued then b else start)
fold_start true b start before = refl
fold_start false b start before = omega arith

pub fold_start-within : (glued : Bool) (b start : ℕ) → b ≤ start → fold max b (start_places glued start) ≤ start
fold_start-within true b start before = before
fold_start-within false b start before = omega arith

pub each_break : (b : ℕ) (p : Placed) → b ≤ p.start → p.start ≤ p.end → fold max b (break_places_of p) ≤ p.end
each_break b p before along =
    rw (fold-append max b (start_places p.piece.glued p.start) (semicolon_places_of p))
    (each_semicolon _ p (fold_start-within p.piece.glued b p.start before) along)

-- the greatest places are within the text
pub semicolon-within : (pieces : List Piece) → greatest (semicolon_places pieces) ≤ length (text_of pieces)
semicolon-within pieces =
    let h : greatest (semicolon_places pieces) ≤ 0 + length (text_of pieces) =
    fold_max-within semicolon_places_of 0 Break pieces 0 each_semicolon (omega arith) in
    omega arith

pub break-within : (pieces : List Piece) → greatest (break_places pieces) ≤ length (text_of pieces)
break-within pieces =
    let h : greatest (break_places pieces) ≤ 0 + length (text_of pieces) =
    fold_max-within break_places_of 0 Break pieces 0 each_break (omega arith) in
    omega arith

-- the greatest break place up to the start of a piece
pub greatest-start : (pieces : List Piece) (glued : Bool)
    → greatest (break_places pieces ++ start_places glued (length (text_of pieces)))
    ≡ (if glued then greatest (break_places pieces) else length (text_of pieces))
greatest-start pieces glued =
    fold-append max 0 (break_places pieces) (start_places glued (length (text_of pieces)))
    ∙ fold_start glued (greatest (break_places pieces)) (length (text_of pieces)) (break-within pieces)

-- the greatest of places up to an end, and that end where there is one
pub fold_end : (ends : Bool) (b end : ℕ) → b ≤ end
    → fold max b (if ends then end ∷ [] else []) ≡ (if ends then end else b)
fold_end true b end before = omega arith
fold_end false b end before = refl

-- the last of the pieces in the one text
abbrev pub last_of : List Piece → Piece → Placed
last_of pieces piece = record {
  start = length (text_of pieces);
  end = length (text_of (pieces ++ piece ∷ []));
  piece = piece;
}

pub length-more : (pieces : List Piece) (piece : Piece)
    → length (text_of (pieces ++ piece ∷ [])) ≡ length (text_of pieces) + length (spaced (last_kind Break pieces) piece)
length-more pieces piece = ap length (text_after-more Break pieces piece) ∙ length-append (text_of pieces) _

pub placed-more : (pieces : List Piece) (piece : Piece)
    → placed_from 0 Break (pieces ++ piece ∷ []) ≡ placed_from 0 Break pieces ++ last_of pieces piece ∷ []
placed-more pieces piece =
    placed_from-more 0 Break pieces piece
    ∙ ap (λ (p : Placed). placed_from 0 Break pieces ++ p ∷ []) (placed_at _ _ _ _ piece (omega arith) (omega arith))

-- the places of a list of placed pieces with one more
pub flat_map-last : (f : Placed → List ℕ) (placed : List Placed) (last : Placed)
    → flat_map f (placed ++ last ∷ []) ≡ flat_map f placed ++ f last
flat_map-last f placed last =
    flat_map-append f placed (last ∷ []) ∙ ap (λ (l : List ℕ). flat_map f placed ++ l) (append-nil (f last))

pub semicolon-more : (pieces : List Piece) (piece : Piece)
    → greatest (semicolon_places (pieces ++ piece ∷ []))
    ≡ (if ends_statement piece.kind then length (text_of (pieces ++ piece ∷ [])) else greatest
    (semicolon_places pieces))
semicolon-more pieces piece =
    ap (λ (l : List Placed). greatest (flat_map semicolon_places_of l)) (placed-more pieces piece)
    ∙ ap greatest (flat_map-last semicolon_places_of (placed_from 0 Break pieces) (last_of pieces piece))
    ∙ fold-append max 0 (semicolon_places pieces) (semicolon_places_of (last_of pieces piece))
    ∙ fold_end (ends_statement piece.kind) _ _ (omega (arith, semicolon-within pieces, length-more pieces piece))

pub break-more : (pieces : List Piece) (piece : Piece)
    → greatest (break_places (pieces ++ piece ∷ []))
    ≡ (if ends_statement piece.kind then length (text_of (pieces ++ piece ∷ []))
    else (if piece.glued then greatest (break_places pieces) else length (text_of pieces)))
break-more pieces piece =
    let start : List ℕ = start_places piece.glued (length (text_of pieces)) in
    let ends : List ℕ = semicolon_places_of (last_of pieces piece) in
    let here : fold max (greatest (break_places pieces)) start ≡
    (if piece.glued then greatest (break_places pieces) else length (text_of pieces)) =
    fold_start piece.glued (greatest (break_places pieces)) (length (text_of pieces)) (break-within pieces) in
    let within : fold max (greatest (break_places pieces)) start ≤ length (text_of pieces) =
    fold_start-within piece.glued (greatest (break_places pieces)) (length (text_of pieces)) (break-within pieces) in
    ap (λ (l : List Placed). greatest (flat_map break_places_of l)) (placed-more pieces piece)
    ∙ ap greatest (flat_map-last break_places_of (placed_from 0 Break pieces) (last_of pieces piece))
    ∙ fold-append max 0 (break_places pieces) (start ++ ends)
    ∙ fold-append max (greatest (break_places pieces)) start ends
    ∙ fold_end (ends_statement piece.kind) _ _ (omega (arith, within, length-more pieces piece))
    ∙ ap (λ (n : ℕ). if ends_statement piece.kind then length (text_of (pieces ++ piece ∷ [])) else n) here
