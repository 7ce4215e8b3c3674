-- From what the parts of a packer say to what its calls say.
use Rattle.std.proofs.Common.{◌≡◌, ℕ, ◌-◌, ◌<◌, ◌≤◌, Bool, true, false, ◌&&◌, nat_lt, nat_le, List, [], length}
use Rattle.std.proofs.Common.{if◌then◌else◌, Result, Ok, Err, OnOk, OnErr, refl, sym, ◌∙◌, ap, subst, arith}
use Rattle.std.proofs.Common.{length-drop, length-append, ◌+◌}
use Rattle.std.proofs.lemmas.Bool.{leb-true}
use Rattle.wb_base.specs.declared.faults.TheConstants.{LINE_NOT_CUT}
use Rattle.tangle_out.specs.Pieces.{Piece}
use Rattle.tangle_out.specs.Packing.{text_of_lines, is_forced_line, and_then, may_cut, cut_at, after_cut}
use Rattle.tangle_out.specs.Packing.{ends_statement, spaced}
use Rattle.tangle_out.specs.Packer.{WaitingText, PackerState}
use Rattle.tangle_out.specs.inner.Advance.{Advanced, advanced, advanced_to, forced, cut, place_of_cut, place_before}
use Rattle.tangle_out.specs.inner.Advance.{text_with, with_more, from_place, IsBounded}

-- what follows from what holds of an Ok
pub on_ok-map : {T E P Q : Type 0} (r : Result T E) → (P → Q) → OnOk r P → OnOk r Q
on_ok-map (Ok value) f p = f p
on_ok-map (Err error) f p = tt

pub on_err-map : {T E P Q : Type 0} (r : Result T E) → (P → Q) → OnErr r P → OnErr r Q
on_err-map (Ok value) f p = tt
on_err-map (Err error) f p = f p

pub of_err : {T E P : Type 0} (r : Result T E) (error : E) → r ≡ Err error → OnErr r P → P
of_err (Ok value) error is p = absurd (cc)
of_err (Err other) error is p = p

pub advanced-forced : (width : ℕ) (state : PackerState) (piece : Piece) → is_forced_line piece.kind ≡ true
    → advanced width state piece ≡ Ok (forced state)
advanced-forced width state piece is =
    ap (λ (b : Bool). if b then Ok (forced state)
    else (if nat_le (length (text_with state.waiting piece)) width
    then Ok (advanced_to state [] (with_more state.waiting piece))
    else and_then (place_of_cut width state.waiting piece) (λ place. Ok (cut state piece place)))) is

pub advanced-cut : (width : ℕ) (state : PackerState) (piece : Piece) → is_forced_line piece.kind ≡ false
    → width < length (text_with state.waiting piece)
    → advanced width state piece ≡ and_then (place_of_cut width state.waiting piece)
    (λ place. Ok (cut state piece place))
advanced-cut width state piece is passes =
    ap (λ (b : Bool). if b then Ok (forced state)
    else (if nat_le (length (text_with state.waiting piece)) width
    then Ok (advanced_to state [] (with_more state.waiting piece))
    else and_then (place_of_cut width state.waiting piece) (λ place. Ok (cut state piece place)))) is
    ∙ longer (nat_le (length (text_with state.waiting piece)) width) refl
  where
    longer : (b : Bool) → nat_le (length (text_with state.waiting piece)) width ≡ b
        → (if b then Ok (advanced_to state [] (with_more state.waiting piece))
        else and_then (place_of_cut width state.waiting piece) (λ place. Ok (cut state piece place)))
        ≡ and_then (place_of_cut width state.waiting piece) (λ place. Ok (cut state piece place))
    longer true b_is = let h : length (text_with state.waiting piece) ≤ width =
        leb-true _ _ b_is in absurd (omega arith)
    longer false b_is = refl

-- the state and the lines of what a packer makes of a piece
pub advanced-made : (width : ℕ) (state next : PackerState) (piece : Piece) (made : Advanced) (G : List ℕ → Type 0)
    → advanced width state piece ≡ Ok made → next ≡ made.state → G (text_of_lines made.lines)
    → (lines : List (List ℕ)) × ((advanced width state piece ≡ Ok (record { state = next; lines = lines }))
    × G (text_of_lines lines))
advanced-made width state next piece made G is next_is gained =
    let made_is : PackerState → Result Advanced ℕ = λ s. Ok (record { state = s; lines = made.lines }) in
    (made.lines, (is ∙ ap made_is (sym next_is), gained))

pub advanced-at_cut : (width : ℕ) (state : PackerState) (piece : Piece) (place : ℕ) → is_forced_line piece.kind ≡ false
    → width < length (text_with state.waiting piece) → place_of_cut width state.waiting piece ≡ Ok place
    → advanced width state piece ≡ Ok (cut state piece place)
advanced-at_cut width state piece place is passes place_is =
    advanced-cut width state piece is passes
    ∙ ap (λ (r : Result ℕ ℕ). and_then r (λ n. Ok (cut state piece n))) place_is

-- the rest after a cut is within the width
pub cut_at-rest_within : (width begin semicolon place at : ℕ) (text : List ℕ)
    → cut_at width begin text semicolon place ≡ Ok at → length text - after_cut text at ≤ width
cut_at-rest_within width begin semicolon place at text is =
    chosen (may_cut width begin text semicolon) (may_cut width begin text place) refl refl is
  where
    within : (n : ℕ) → may_cut width begin text n ≡ true → length text - after_cut text n ≤ width
    within n may = leb-true _ _ (second (nat_lt begin n) _ may)
      where
        second : (a b : Bool) → (a && b) ≡ true → b ≡ true
        second true b h = h
        second false b h = absurd (cc)

    chosen : (a b : Bool) → may_cut width begin text semicolon ≡ a → may_cut width begin text place ≡ b
        → (if a then Ok semicolon else (if b then Ok place else Err LINE_NOT_CUT)) ≡ Ok at
        → length text - after_cut text at ≤ width
    chosen true b a_is b_is h = let e : semicolon ≡ at =
        cc in subst (λ (n : ℕ). length text - after_cut text n ≤ width) e (within semicolon a_is)
    chosen false true a_is b_is h = let e : place ≡ at =
        cc in subst (λ (n : ℕ). length text - after_cut text n ≤ width) e (within place b_is)
    chosen false false a_is b_is h = absurd (cc)

-- what waits after a cut is within the width
pub IsBounded-cut : (width : ℕ) (waiting : WaitingText) (piece : Piece) (place : ℕ) → IsBounded width waiting
    → place_of_cut width waiting piece ≡ Ok place
    → IsBounded width (from_place (after_cut (text_with waiting piece) place) (with_more waiting piece))
IsBounded-cut width waiting piece place bounded is =
    let text : List ℕ = text_with waiting piece in
    let begin : ℕ = after_cut text place in
    let longer : length text ≡ length waiting.text + length (spaced waiting.before piece) = length-append _ _ in
    record {
      text = omega (
        arith,
        length-drop begin text,
        cut_at-rest_within width 0 waiting.semicolon
            (place_before waiting piece) place text is,
      );
      semicolon = omega (arith, length-drop begin text, one (ends_statement piece.kind));
      break_place = omega (arith, length-drop begin text, two (ends_statement piece.kind) piece.glued);
    }
  where
    one : (b : Bool) → (if b then length (text_with waiting piece) else waiting.semicolon) ≤ length
        (text_with waiting piece)
    one true = omega arith
    one false = omega (arith, bounded.semicolon, length-append waiting.text (spaced waiting.before piece))

    two : (b glued : Bool)
        → (if b then length (text_with waiting piece) else
        (if glued then waiting.break_place else length waiting.text)) ≤ length (text_with waiting piece)
    two true glued = omega arith
    two false true = omega (arith, bounded.break_place, length-append waiting.text (spaced waiting.before piece))
    two false false = omega (arith, length-append waiting.text (spaced waiting.before piece))
