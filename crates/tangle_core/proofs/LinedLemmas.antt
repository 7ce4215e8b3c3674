-- The lines of pieces, and of more pieces behind them.
use Rattle.std.proofs.Common.{◌≡◌, ℕ, ◌+◌, ◌≤◌, Bool, true, false, if◌then◌else◌, List, [], ◌∷◌, ◌++◌}
use Rattle.std.proofs.Common.{length, drop, Some, None, Result, Ok, Err, refl, sym, ◌∙◌, ap}
use Rattle.std.proofs.Common.{append_assoc}
use Rattle.std.proofs.Common.{arith, length-append, slice_range}
use Rattle.std.proofs.lemmas.List.{append-nil}
use Rattle.tangle_out.specs.declared.packing.TheConstants.{WIDTH}
use Rattle.tangle_out.specs.Pieces.{Piece}
use Rattle.tangle_out.specs.Packing.{Packed, and_then, with_piece, with_pieces, nothing_packed, finished_lines, line_of}
use Rattle.tangle_out.specs.Packing.{is_forced_line, with_forced_line, with_bytes, with_cut, cut_by, text_of, after_cut}
use Rattle.tangle_out.specs.Packing.{Finishes}
use Rattle.tangle_out.specs.Packer.{PackerState, Stands}
use Rattle.tangle_out.proofs.StandsLemmas.{with_pieces-last}
use Rattle.tangle_core.specs.Tangled.{Lined, lined_by, lined_from, lined}

-- pieces without a fault, and more
pub lined_from-append : (packed next : Packed) (pieces more : List Piece) → with_pieces WIDTH packed pieces ≡ Ok next
    → lined_from packed (pieces ++ more) ≡ lined_from next more
lined_from-append packed next [] more is =
    let e : packed ≡ next = cc in ap (λ (p : Packed). lined_from p more) e
lined_from-append packed next (piece ∷ pieces) more is =
    step (with_piece WIDTH packed piece) (λ p. lined_from-append p next pieces more) is
  where
    step : (r : Result Packed ℕ)
        → ((p : Packed) → with_pieces WIDTH p pieces ≡ Ok next
        → lined_from p (pieces ++ more) ≡ lined_from next more)
        → and_then r (λ p. with_pieces WIDTH p pieces) ≡ Ok next
        → lined_by packed.lines r (λ p. lined_from p (pieces ++ more)) ≡ lined_from next more
    step (Ok p) further h = further p h
    step (Err fault) further h = absurd (cc)

-- the lines of pieces without a fault
pub lined-packed : (packed : Packed) (pieces : List Piece) → with_pieces WIDTH nothing_packed pieces ≡ Ok packed
    → lined pieces ≡ record { lines = packed.lines; fault = None }
lined-packed packed pieces is =
    ap lined (sym (append-nil pieces)) ∙ lined_from-append nothing_packed packed pieces [] is

pub lined-stands : (packer : PackerState) (pieces : List Piece) → Stands WIDTH packer pieces
    → ((lined pieces).fault ≡ None) × (packer.finished ≡ length (lined pieces).lines)
lined-stands packer pieces (packed, (is, (waits, counted))) =
    let e = lined-packed packed pieces is in
    (ap (λ (l : Lined). l.fault) e, counted ∙ ap (λ (l : Lined). length l.lines) (sym e))

-- the lines that are finished
pub lined-finished : (pieces : List Piece) (lines : List (List ℕ)) → finished_lines WIDTH pieces ≡ Ok lines
    → lined pieces ≡ record { lines = lines; fault = None }
lined-finished pieces lines finished = by_result (with_pieces WIDTH nothing_packed pieces) refl finished
  where
    by_result : (r : Result Packed ℕ) → with_pieces WIDTH nothing_packed pieces ≡ r
        → and_then r (λ p. Ok p.lines) ≡ Ok lines → lined pieces ≡ record { lines = lines; fault = None }
    by_result (Ok packed) is h =
        let same : packed.lines ≡ lines = cc in
        let made : List (List ℕ) → Lined = λ l. record { lines = l; fault = None } in
        lined-packed packed pieces is ∙ ap made same
    by_result (Err fault) is h = absurd (cc)

-- one piece more that shows no fault
pub lined-Finishes : (pieces : List Piece) (piece : Piece) (added : List (List ℕ)) → Finishes WIDTH pieces piece added
    → lined (pieces ++ piece ∷ []) ≡ record { lines = (lined pieces).lines ++ added; fault = None }
lined-Finishes pieces piece added (lines, (lines_is, after_is)) =
    let made : List (List ℕ) → Lined = λ l. record { lines = l ++ added; fault = None } in
    lined-finished (pieces ++ piece ∷ []) (lines ++ added) after_is
    ∙ ap made (ap (λ (l : Lined). l.lines) (sym (lined-finished pieces lines lines_is)))

-- one piece more that shows a fault, whatever follows it
pub lined-fault : (packer : PackerState) (pieces : List Piece) (piece : Piece) (rest : List Piece) (code : ℕ)
    → Stands WIDTH packer pieces → finished_lines WIDTH (pieces ++ piece ∷ []) ≡ Err code
    → lined (pieces ++ piece ∷ rest) ≡ record { lines = (lined pieces).lines; fault = Some code }
lined-fault packer pieces piece rest code (packed, (is, (waits, counted))) finished =
    let last : with_pieces WIDTH nothing_packed (pieces ++ piece ∷ []) ≡ with_piece WIDTH packed piece =
    with_pieces-last WIDTH packed pieces piece is in
    let shown : and_then (with_piece WIDTH packed piece) (λ p. Ok p.lines) ≡ Err code =
    ap (λ (r : Result Packed ℕ). and_then r (λ p. Ok p.lines)) (sym last) ∙ finished in
    let same : List (List ℕ) → Lined = λ l. record { lines = l; fault = Some code } in
    lined_from-append nothing_packed packed pieces (piece ∷ rest) is
    ∙ at_fault (with_piece WIDTH packed piece) shown
    ∙ ap same (ap (λ (l : Lined). l.lines) (sym (lined-packed packed pieces is)))
  where
    at_fault : (r : Result Packed ℕ) → and_then r (λ p. Ok p.lines) ≡ Err code
        → lined_by packed.lines r (λ p. lined_from p rest) ≡ record { lines = packed.lines; fault = Some code }
    at_fault (Ok p) h = absurd (cc)
    at_fault (Err other) h = let e : other ≡ code = cc in
        ap (λ (n : ℕ). let made : Lined = record { lines = packed.lines; fault = Some n } in made) e

-- lines come on top, at most one
pub record Grows (before after : List (List ℕ)) : Type 0 where
  pub added : List (List ℕ)
  pub is : after ≡ before ++ added
  pub few : length added ≤ 1

line_of-few : (text : List ℕ) → length (line_of text) ≤ 1
line_of-few [] = omega arith
line_of-few (byte ∷ bytes) = omega arith

pub with_piece-grows : (packed next : Packed) (piece : Piece) → with_piece WIDTH packed piece ≡ Ok next
    → Grows packed.lines next.lines
with_piece-grows packed next piece is = chosen (is_forced_line piece.kind) is
  where
    at_cut : (r : Result ℕ ℕ) → with_cut packed piece r ≡ Ok next → Grows packed.lines next.lines
    at_cut (Ok cut) h =
        let line : List ℕ = slice_range (text_of (packed.pieces ++ piece ∷ [])) packed.begin cut in
        let made : Packed = record {
          lines = packed.lines ++ line ∷ [];
          pieces = packed.pieces ++ piece ∷ [];
          begin = after_cut (text_of (packed.pieces ++ piece ∷ [])) cut;
        } in
        let e : made ≡ next = cc in
        record { added = line ∷ []; is = ap (λ (p : Packed). p.lines) (sym e); few = omega arith }
    at_cut (Err fault) h = absurd (cc)

    within : (b : Bool)
        → (if b then Ok (record packed { pieces = packed.pieces ++ piece ∷ [] })
        else with_cut packed piece (cut_by WIDTH packed.begin packed.pieces piece)) ≡ Ok next
        → Grows packed.lines next.lines
    within true h =
        let made : Packed = record packed { pieces = packed.pieces ++ piece ∷ [] } in
        let e : made ≡ next = cc in
        record {
          added = [];
          is = ap (λ (p : Packed). p.lines) (sym e) ∙ sym (append-nil packed.lines);
          few = omega arith;
        }
    within false h = at_cut _ h

    chosen : (b : Bool) → (if b then Ok (with_forced_line packed) else with_bytes WIDTH packed piece) ≡ Ok next
        → Grows packed.lines next.lines
    chosen true h =
        let e : with_forced_line packed ≡ next = cc in
        record {
          added = line_of (drop packed.begin (text_of packed.pieces));
          is = ap (λ (p : Packed). p.lines) (sym e);
          few = line_of-few _;
        }
    chosen false h = within _ h

-- no more lines are finished than pieces came
pub lines-few : (packed next : Packed) (pieces : List Piece) → with_pieces WIDTH packed pieces ≡ Ok next
    → length next.lines ≤ length packed.lines + length pieces
lines-few packed next [] is =
    let e : length packed.lines ≡ length next.lines = ap (λ (r : Result Packed ℕ). counted r) is in omega arith
  where
    counted : Result Packed ℕ → ℕ
    counted (Ok p) = length p.lines
    counted (Err fault) = 0
lines-few packed next (piece ∷ pieces) is =
    step (with_piece WIDTH packed piece) refl (λ p. lines-few p next pieces) is
  where
    step : (r : Result Packed ℕ) → with_piece WIDTH packed piece ≡ r
        → ((p : Packed) → with_pieces WIDTH p pieces ≡ Ok next
        → length next.lines ≤ length p.lines + length pieces)
        → and_then r (λ p. with_pieces WIDTH p pieces) ≡ Ok next
        → length next.lines ≤ length packed.lines + length (piece ∷ pieces)
    step (Ok p) r_is further h =
        let grows : Grows packed.lines p.lines = with_piece-grows packed p piece r_is in
        let more : length next.lines ≤ length p.lines + length pieces = further p h in
        omega (arith, ap length grows.is, length-append packed.lines grows.added, grows.few)
    step (Err fault) r_is further h = absurd (cc)

pub finished-few : (packer : PackerState) (pieces : List Piece) → Stands WIDTH packer pieces
    → packer.finished ≤ length pieces
finished-few packer pieces (packed, (is, (waits, counted))) =
    let few : length packed.lines ≤ 0 + length pieces = lines-few nothing_packed packed pieces is in omega arith

-- these lines stand at the front of those
abbrev pub Front : List (List ℕ) → List (List ℕ) → Type 0
Front front lines = (more : List (List ℕ)) × (lines ≡ front ++ more)

pub front-same : (lines : List (List ℕ)) → Front lines lines
front-same lines = ([], sym (append-nil lines))

pub front-then : (a b c : List (List ℕ)) → Front a b → Front b c → Front a c
front-then a b c (more, b_is) (further, c_is) =
    (more ++ further, c_is ∙ ap (λ (l : List (List ℕ)). l ++ further) b_is ∙ append_assoc a more further)

lined_from-packed : (packed : Packed) (pieces : List Piece) → Front packed.lines (lined_from packed pieces).lines
lined_from-packed packed [] = front-same packed.lines
lined_from-packed packed (piece ∷ pieces) =
    step (with_piece WIDTH packed piece) refl (λ p. lined_from-packed p pieces)
  where
    step : (r : Result Packed ℕ) → with_piece WIDTH packed piece ≡ r
        → ((p : Packed) → Front p.lines (lined_from p pieces).lines)
        → Front packed.lines (lined_by packed.lines r (λ p. lined_from p pieces)).lines
    step (Ok p) r_is further =
        let grows : Grows packed.lines p.lines = with_piece-grows packed p piece r_is in
        front-then _ _ _ (grows.added, grows.is) (further p)
    step (Err fault) r_is further = front-same packed.lines

lined_from-front : (packed : Packed) (pieces more : List Piece)
    → Front (lined_from packed pieces).lines (lined_from packed (pieces ++ more)).lines
lined_from-front packed [] more = lined_from-packed packed more
lined_from-front packed (piece ∷ pieces) more =
    step (with_piece WIDTH packed piece) (λ p. lined_from-front p pieces more)
  where
    step : (r : Result Packed ℕ)
        → ((p : Packed) → Front (lined_from p pieces).lines (lined_from p (pieces ++ more)).lines)
        → Front (lined_by packed.lines r (λ p. lined_from p pieces)).lines
        (lined_by packed.lines r (λ p. lined_from p (pieces ++ more))).lines
    step (Ok p) further = further p
    step (Err fault) further = front-same packed.lines

-- more pieces leave the lines of those before
pub lined-front : (pieces more : List Piece) → Front (lined pieces).lines (lined (pieces ++ more)).lines
lined-front pieces more = lined_from-front nothing_packed pieces more

lined_from-stays : (packed : Packed) (pieces more : List Piece) (code : ℕ)
    → (lined_from packed pieces).fault ≡ Some code → lined_from packed (pieces ++ more) ≡ lined_from packed pieces
lined_from-stays packed [] more code is = absurd (cc)
lined_from-stays packed (piece ∷ pieces) more code is =
    step (with_piece WIDTH packed piece) (λ p. lined_from-stays p pieces more code) is
  where
    step : (r : Result Packed ℕ)
        → ((p : Packed) → (lined_from p pieces).fault ≡ Some code
        → lined_from p (pieces ++ more) ≡ lined_from p pieces)
        → (lined_by packed.lines r (λ p. lined_from p pieces)).fault ≡ Some code
        → lined_by packed.lines r (λ p. lined_from p (pieces ++ more))
        ≡ lined_by packed.lines r (λ p. lined_from p pieces)
    step (Ok p) further h = further p h
    step (Err fault) further h = refl

-- more pieces change nothing once one has shown a fault
pub lined-stays : (pieces more : List Piece) (code : ℕ) → (lined pieces).fault ≡ Some code
    → lined (pieces ++ more) ≡ lined pieces
lined-stays pieces more code is = lined_from-stays nothing_packed pieces more code is
