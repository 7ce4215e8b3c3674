-- What a packer makes of a piece is what the definition makes of it.
use Rattle.std.proofs.Common.{◌≡◌, ℕ, ◌+◌, ◌-◌, ◌≤◌, Bool, true, false, nat_le, ◌==◌, List, [], ◌∷◌, ◌++◌, length}
use Rattle.std.proofs.Common.{take, drop, slice_index, slice_range, if◌then◌else◌, Result, Ok, Err, refl, sym, ◌∙◌}
use Rattle.std.proofs.Common.{ap, subst, arith, length-append, inl, inr, eqb-true}
use Rattle.std.proofs.lemmas.List.{append-nil, take-append-le, get_or_past}
use Rattle.std.proofs.lemmas.Bool.Decides.{leb_tells}
use Rattle.wb_base.specs.declared.faults.TheConstants.{LINE_NOT_CUT}
use Rattle.tangle_out.specs.Pieces.{Piece}
use Rattle.tangle_out.specs.Packing.{Packed, text_of, spaced, space, greatest, semicolon_places, break_places}
use Rattle.tangle_out.specs.Packing.{start_places}
use Rattle.tangle_out.specs.Packing.{after_cut, may_cut, cut_at, cut_by, and_then, line_of, with_cut, with_bytes}
use Rattle.tangle_out.specs.Packing.{with_piece, with_forced_line, is_forced_line}
use Rattle.tangle_out.specs.Packer.{WaitingText, PackerState, Waits}
use Rattle.tangle_out.specs.inner.Advance.{nothing_waits, text_with, place_before, with_more, from_place}
use Rattle.tangle_out.specs.inner.Advance.{place_of_cut, Advanced, advanced_to, forced, cut, advanced}
use Rattle.tangle_out.proofs.PlacesLemmas.{greatest-start}
use Rattle.tangle_out.proofs.TwoMarksLemmas.{after_cut-rest, shifted, cut_at-rest, choice-rest, text_with-rest}
use Rattle.tangle_out.proofs.TwoMarksLemmas.{length_with-rest, length-rest, Waits-more, Waits-from, places-within}

-- both make the same of a piece: the packer stands for what the definition has packed, and its lines are those that
-- come on top; or both show the same fault
abbrev pub Agrees : Packed → Result Advanced ℕ → Result Packed ℕ → Type 0
Agrees packed (Ok next) (Ok now) =
    Waits next.state.waiting now × (next.state.finished ≡ length now.lines) × (now.lines ≡ packed.lines ++ next.lines)
Agrees packed (Ok next) (Err fault) = ⊥
Agrees packed (Err fault) (Ok now) = ⊥
Agrees packed (Err fault) (Err other) = fault ≡ other

-- the text does not go on after its end
pub after_cut-within : (text : List ℕ) (place : ℕ) → place ≤ length text → after_cut text place ≤ length text
after_cut-within text place within = chosen (slice_index text place == space) refl
  where
    chosen : (b : Bool) → (slice_index text place == space) ≡ b → (if b then place + 1 else place) ≤ length text
    chosen true is =
        elim (leb_tells (length text) place) [
          | inl (here, past) ↦ let zero_is : slice_index text place ≡ 0 =
              get_or_past text place 0 past in let space_is : slice_index text place ≡ 32 =
              eqb-true _ _ is in absurd (omega arith)
          | inr (here, before) ↦ omega arith
        ]
    chosen false is = within

-- the place of a cut is within what waits
pub cut_at-within : (width begin semicolon place bound cut : ℕ) (text : List ℕ) → semicolon ≤ bound → place ≤ bound
    → cut_at width begin text semicolon place ≡ Ok cut → cut ≤ bound
cut_at-within width begin semicolon place bound cut text first second is =
    chosen (may_cut width begin text semicolon) (may_cut width begin text place) is
  where
    chosen : (a b : Bool) → (if a then Ok semicolon else (if b then Ok place else Err LINE_NOT_CUT)) ≡ Ok cut
        → cut ≤ bound
    chosen true b h = let e : semicolon ≡ cut = cc in omega arith
    chosen false true h = let e : place ≡ cut = cc in omega arith
    chosen false false h = absurd (cc)

-- the definition cuts where the packer does
pub cut_by-rest : (width : ℕ) (waiting : WaitingText) (packed : Packed) (piece : Piece) → Waits waiting packed
    → shifted packed.begin (place_of_cut width waiting piece) ≡ cut_by width packed.begin packed.pieces piece
cut_by-rest width waiting packed piece waits =
    let text : List ℕ = text_of (packed.pieces ++ piece ∷ []) in
    let semicolon : ℕ = greatest (semicolon_places packed.pieces) in
    let place : ℕ = greatest
    (break_places packed.pieces ++ start_places piece.glued (length (text_of packed.pieces))) in
    let place_is : place_before waiting piece ≡ place - packed.begin =
    choice-rest piece.glued _ _ _ _ packed.begin waits.break_place (length-rest waiting packed waits)
    ∙ ap (λ (n : ℕ). n - packed.begin) (sym (greatest-start packed.pieces piece.glued)) in
    ap (λ (l : List ℕ). shifted packed.begin (cut_at width 0 l waiting.semicolon (place_before waiting piece)))
    (text_with-rest waiting packed piece waits)
    ∙ ap (λ (n : ℕ). shifted packed.begin (cut_at width 0 (drop packed.begin text) n (place_before waiting piece)))
    waits.semicolon
    ∙ ap (λ (n : ℕ). shifted packed.begin (cut_at width 0 (drop packed.begin text) (semicolon - packed.begin) n))
    place_is
    ∙ cut_at-rest width packed.begin semicolon place text

-- after a forced line
pub forced-agrees : (state : PackerState) (packed : Packed) → Waits state.waiting packed
    → state.finished ≡ length packed.lines → Agrees packed (Ok (forced state)) (Ok (with_forced_line packed))
forced-agrees state packed waits counted =
    let rest : List ℕ = drop packed.begin (text_of packed.pieces) in
    let same : line_of state.waiting.text ≡ line_of rest = ap line_of waits.text in
    let none : Waits nothing_waits (with_forced_line packed) =
    record { within = omega arith; text = refl; semicolon = refl; break_place = refl; before = refl } in (
      none,
      omega (arith, length-append packed.lines (line_of rest), ap length same),
      ap (λ (l : List (List ℕ)). packed.lines ++ l) (sym same),
    )

-- after a piece that does not pass the width
pub uncut-agrees : (state : PackerState) (packed : Packed) (piece : Piece) → Waits state.waiting packed
    → state.finished ≡ length packed.lines
    → Agrees packed (Ok (advanced_to state [] (with_more state.waiting piece)))
    (Ok (record packed { pieces = packed.pieces ++ piece ∷ [] }))
uncut-agrees state packed piece waits counted =
    (Waits-more state.waiting packed piece waits, omega arith, sym (append-nil packed.lines))

-- after a cut
pub cut-agrees : (state : PackerState) (packed : Packed) (piece : Piece) (place : ℕ) → Waits state.waiting packed
    → state.finished ≡ length packed.lines → place ≤ length state.waiting.text
    → Agrees packed (Ok (cut state piece place)) (with_cut packed piece (Ok (packed.begin + place)))
cut-agrees state packed piece place waits counted within =
    let text : List ℕ = text_of (packed.pieces ++ piece ∷ []) in
    let rest : List ℕ = text_with state.waiting piece in
    let line : List ℕ = slice_range text packed.begin (packed.begin + place) in
    let lines : List (List ℕ) = packed.lines ++ line ∷ [] in
    let rest_is : rest ≡ drop packed.begin text = text_with-rest state.waiting packed piece waits in
    let back : packed.begin + place - packed.begin ≡ place = omega arith in
    let begin_is : packed.begin + after_cut rest place ≡ after_cut text (packed.begin + place) =
    ap (λ (l : List ℕ). packed.begin + after_cut l place) rest_is
    ∙ ap (λ (n : ℕ). packed.begin + after_cut (drop packed.begin text) n) (sym back)
    ∙ after_cut-rest text packed.begin (packed.begin + place) (omega arith) in
    let line_is : line ≡ take place state.waiting.text =
    ap (λ (n : ℕ). take n (drop packed.begin text)) back
    ∙ ap (λ (l : List ℕ). take place l) (sym rest_is)
    ∙ take-append-le place state.waiting.text (spaced state.waiting.before piece) within in
    let length_is : length rest ≡ length state.waiting.text + length (spaced state.waiting.before piece) =
    length-append state.waiting.text (spaced state.waiting.before piece) in
    let goes_on : after_cut rest place ≤ length rest = after_cut-within rest place (omega arith) in
    let waits_on : Waits (from_place (after_cut rest place) (with_more state.waiting piece))
    (record { lines = lines; pieces = packed.pieces ++ piece ∷ []; begin = packed.begin + after_cut rest place }) =
    Waits-from (with_more state.waiting piece) (record packed { pieces = packed.pieces ++ piece ∷ [] }) lines
    (after_cut rest place) (Waits-more state.waiting packed piece waits) goes_on in (
      subst (λ (n : ℕ). Waits (from_place (after_cut rest place) (with_more state.waiting piece))
          (record { lines = lines; pieces = packed.pieces ++ piece ∷ []; begin = n })) begin_is waits_on,
      omega (arith, length-append packed.lines (line ∷ [])),
      ap (λ (l : List ℕ). packed.lines ++ l ∷ []) line_is,
    )

-- after a cut, or with the fault
pub on_cut-agrees : (state : PackerState) (packed : Packed) (piece : Piece) (place : Result ℕ ℕ)
    → Waits state.waiting packed → state.finished ≡ length packed.lines
    → ((n : ℕ) → place ≡ Ok n → n ≤ length state.waiting.text)
    → Agrees packed (and_then place (λ n. Ok (cut state piece n))) (with_cut packed piece (shifted packed.begin place))
on_cut-agrees state packed piece (Ok n) waits counted within =
    cut-agrees state packed piece n waits counted (within n refl)
on_cut-agrees state packed piece (Err fault) waits counted within = refl

-- after a piece with bytes
pub bytes-agrees : (width : ℕ) (state : PackerState) (packed : Packed) (piece : Piece) → Waits state.waiting packed
    → state.finished ≡ length packed.lines
    → Agrees packed
    (if nat_le (length (text_with state.waiting piece)) width
    then Ok (advanced_to state [] (with_more state.waiting piece))
    else and_then (place_of_cut width state.waiting piece) (λ place. Ok (cut state piece place)))
    (with_bytes width packed piece)
bytes-agrees width state packed piece waits counted =
    let within : (n : ℕ) → place_of_cut width state.waiting piece ≡ Ok n → n ≤ length state.waiting.text =
    λ n is. cut_at-within width 0 state.waiting.semicolon (place_before state.waiting piece)
    (length state.waiting.text) n
    (text_with state.waiting piece) (places-within state.waiting packed piece.glued waits).0
    (places-within state.waiting packed piece.glued waits).1 is in
    let at_cut : Agrees packed (and_then (place_of_cut width state.waiting piece) (λ place. Ok (cut state piece place)))
    (with_cut packed piece (cut_by width packed.begin packed.pieces piece)) =
    subst (λ (r : Result ℕ ℕ). Agrees packed
    (and_then (place_of_cut width state.waiting piece) (λ place. Ok (cut state piece place)))
    (with_cut packed piece r))
    (cut_by-rest width state.waiting packed piece waits)
    (on_cut-agrees state packed piece (place_of_cut width state.waiting piece) waits counted within) in
    chosen (nat_le (length (text_with state.waiting piece)) width)
    (nat_le (length (text_of (packed.pieces ++ piece ∷ [])) - packed.begin) width)
    (ap (λ (n : ℕ). nat_le n width) (length_with-rest state.waiting packed piece waits)) at_cut
  where
    chosen : (a b : Bool) → a ≡ b
        → Agrees packed (and_then (place_of_cut width state.waiting piece) (λ place. Ok (cut state piece place)))
        (with_cut packed piece (cut_by width packed.begin packed.pieces piece))
        → Agrees packed
        (if a then Ok (advanced_to state [] (with_more state.waiting piece))
        else and_then (place_of_cut width state.waiting piece) (λ place. Ok (cut state piece place)))
        (if b then Ok (record packed { pieces = packed.pieces ++ piece ∷ [] })
        else with_cut packed piece (cut_by width packed.begin packed.pieces piece))
    chosen true true same at_cut = uncut-agrees state packed piece waits counted
    chosen false false same at_cut = at_cut
    chosen true false same at_cut = absurd (cc)
    chosen false true same at_cut = absurd (cc)

-- a packer makes of a piece what the definition makes of it
pub advanced-agrees : (width : ℕ) (state : PackerState) (packed : Packed) (piece : Piece) → Waits state.waiting packed
    → state.finished ≡ length packed.lines
    → Agrees packed (advanced width state piece) (with_piece width packed piece)
advanced-agrees width state packed piece waits counted = chosen (is_forced_line piece.kind)
  where
    chosen : (b : Bool) → Agrees packed
        (if b then Ok (forced state)
        else (if nat_le (length (text_with state.waiting piece)) width
        then Ok (advanced_to state [] (with_more state.waiting piece))
        else and_then (place_of_cut width state.waiting piece) (λ place. Ok (cut state piece place))))
        (if b then Ok (with_forced_line packed) else with_bytes width packed piece)
    chosen true = forced-agrees state packed waits counted
    chosen false = bytes-agrees width state packed piece waits counted
