-- What a packer does with a piece, for each list of pieces that it stands for.
use Rattle.std.proofs.Common.{◌≡◌, ℕ, List, [], ◌∷◌, ◌++◌, length, Result, Ok, Err, refl, sym, ◌∙◌, ap, subst}
use Rattle.std.proofs.lemmas.List.{append_cancel_left}
use Rattle.tangle_out.specs.Pieces.{Piece}
use Rattle.tangle_out.specs.Packing.{Adds, Packed, and_then, with_piece, with_pieces, nothing_packed, finished_lines}
use Rattle.tangle_out.specs.Packing.{packed_lines, forced_line, Finishes, EndFinishes}
use Rattle.tangle_out.specs.Packer.{PackerState, Stands}
use Rattle.tangle_out.specs.inner.Advance.{Advanced, advanced, forced}
use Rattle.tangle_out.proofs.AdvanceLemmas.{Agrees, advanced-agrees}

-- pieces and a piece more
pub with_pieces-more : (width : ℕ) (packed : Packed) (pieces : List Piece) (piece : Piece)
    → with_pieces width packed (pieces ++ piece ∷ []) ≡ and_then (with_pieces width packed pieces)
    (λ now. with_piece width now piece)
with_pieces-more width packed [] piece = alone (with_piece width packed piece)
  where
    alone : (r : Result Packed ℕ) → and_then r (λ next. Ok next) ≡ r
    alone (Ok next) = refl
    alone (Err fault) = refl
with_pieces-more width packed (first ∷ pieces) piece =
    after_first (with_piece width packed first) (λ next. with_pieces-more width next pieces piece)
  where
    after_first : (r : Result Packed ℕ)
        → ((next : Packed) → with_pieces width next (pieces ++ piece ∷ [])
        ≡ and_then (with_pieces width next pieces) (λ now. with_piece width now piece))
        → and_then r (λ next. with_pieces width next (pieces ++ piece ∷ []))
        ≡ and_then (and_then r (λ next. with_pieces width next pieces)) (λ now. with_piece width now piece)
    after_first (Ok next) more = more next
    after_first (Err fault) more = refl

-- what the definition makes of the pieces with one more
pub with_pieces-last : (width : ℕ) (packed : Packed) (pieces : List Piece) (piece : Piece)
    → with_pieces width nothing_packed pieces ≡ Ok packed
    → with_pieces width nothing_packed (pieces ++ piece ∷ []) ≡ with_piece width packed piece
with_pieces-last width packed pieces piece is =
    with_pieces-more width nothing_packed pieces piece
    ∙ ap (λ (r : Result Packed ℕ). and_then r (λ now. with_piece width now piece)) is

-- what a packer makes of a piece, as the clauses of `push` say it
pub record Pushes (width : ℕ) (state : PackerState) (pieces : List Piece) (piece : Piece)
    (next : Advanced) : Type 0 where
  pub finishes : Finishes width pieces piece next.lines
  pub stands : Stands width next.state (pieces ++ piece ∷ [])

pub Pushes-advanced : (width : ℕ) (state : PackerState) (pieces : List Piece) (piece : Piece) (next : Advanced)
    → Stands width state pieces → advanced width state piece ≡ Ok next → Pushes width state pieces piece next
Pushes-advanced width state pieces piece next (packed, (packed_is, (waits, counted))) is =
    chosen (with_piece width packed piece)
    (with_pieces-last width packed pieces piece packed_is)
    (subst (λ (r : Result Advanced ℕ). Agrees packed r (with_piece width packed piece)) is
    (advanced-agrees width state packed piece waits counted))
  where
    chosen : (r : Result Packed ℕ) → with_pieces width nothing_packed (pieces ++ piece ∷ []) ≡ r
        → Agrees packed (Ok next) r → Pushes width state pieces piece next
    chosen (Ok now) now_is agrees = record {
      finishes = (
        packed.lines,
        (
          ap (λ (r : Result Packed ℕ). and_then r (λ made. Ok made.lines)) packed_is,
          ap (λ (r : Result Packed ℕ). and_then r (λ made. Ok made.lines)) now_is
              ∙ (let ok : List (List ℕ) → Result (List (List ℕ)) ℕ = λ lines. Ok lines in ap ok agrees.2),
        ),
      );
      stands = (now, (now_is, (agrees.0, agrees.1)));
    }
    chosen (Err fault) now_is agrees = absurd agrees

-- the fault of a packer is that of the definition
pub fault-advanced : (width fault : ℕ) (state : PackerState) (pieces : List Piece) (piece : Piece)
    → Stands width state pieces → advanced width state piece ≡ Err fault
    → finished_lines width (pieces ++ piece ∷ []) ≡ Err fault
fault-advanced width fault state pieces piece (packed, (packed_is, (waits, counted))) is =
    chosen (with_piece width packed piece)
    (with_pieces-last width packed pieces piece packed_is)
    (subst (λ (r : Result Advanced ℕ). Agrees packed r (with_piece width packed piece)) is
    (advanced-agrees width state packed piece waits counted))
  where
    chosen : (r : Result Packed ℕ) → with_pieces width nothing_packed (pieces ++ piece ∷ []) ≡ r
        → Agrees packed (Err fault) r → finished_lines width (pieces ++ piece ∷ []) ≡ Err fault
    chosen (Ok now) now_is agrees = absurd agrees
    chosen (Err other) now_is agrees =
        ap (λ (r : Result Packed ℕ). and_then r (λ made. Ok made.lines)) now_is
        ∙ (let err : ℕ → Result (List (List ℕ)) ℕ = λ code. Err code in ap err (sym agrees))

-- and where the definition gives it, the packer shows it
pub advanced-fault : (width fault : ℕ) (state : PackerState) (pieces : List Piece) (piece : Piece)
    → Stands width state pieces → finished_lines width (pieces ++ piece ∷ []) ≡ Err fault
    → advanced width state piece ≡ Err fault
advanced-fault width fault state pieces piece stands is = chosen (advanced width state piece) refl
  where
    chosen : (r : Result Advanced ℕ) → advanced width state piece ≡ r → r ≡ Err fault
    chosen (Ok next) r_is =
        let pushes : Pushes width state pieces piece next = Pushes-advanced width state pieces piece next stands r_is in
        let ok : finished_lines width (pieces ++ piece ∷ []) ≡ Ok (pushes.finishes.0 ++ next.lines) =
        pushes.finishes.1.1 in
        absurd (cc)
    chosen (Err other) r_is =
        let e : finished_lines width (pieces ++ piece ∷ []) ≡ Err other =
        fault-advanced width other state pieces piece stands r_is in
        cc

-- the end is as a forced line
pub Pushes-forced : (width : ℕ) (state : PackerState) (pieces : List Piece) → Stands width state pieces
    → Pushes width state pieces forced_line (forced state)
Pushes-forced width state pieces stands = Pushes-advanced width state pieces forced_line (forced state) stands refl

-- after it the number of finished lines is that of all lines
pub counted-forced : (width : ℕ) (state next : PackerState) (pieces : List Piece) → Stands width state pieces
    → next ≡ (forced state).state
    → (lines : List (List ℕ)) × ((packed_lines width pieces ≡ Ok lines) × (next.finished ≡ length lines))
counted-forced width state next pieces stands next_is =
    let pushes : Pushes width state pieces forced_line (forced state) = Pushes-forced width state pieces stands in
    let packed : Packed = pushes.stands.0 in (
      packed.lines,
      (
        ap (λ (r : Result Packed ℕ). and_then r (λ made. Ok made.lines)) pushes.stands.1.0,
        ap (λ (s : PackerState). s.finished) next_is ∙ pushes.stands.1.1.1,
      ),
    )

-- what comes on top of the same is the same
pub Adds-same : (before after : Result (List (List ℕ)) ℕ) (first second : List (List ℕ))
    → Adds before after first → Adds before after second → first ≡ second
Adds-same before after first second (lines, (lines_is, after_is)) (others, (others_is, after_too)) =
    let same : lines ≡ others = cc in
    let both : lines ++ first ≡ lines ++ second =
    (let h : lines ++ first ≡ others ++ second = cc in h ∙ ap (λ (l : List (List ℕ)). l ++ second) (sym same)) in
    append_cancel_left lines first second both

-- a packer that finishes no line
pub advanced-idle : (width : ℕ) (state : PackerState) (pieces : List Piece) (piece : Piece) → Stands width state pieces
    → Finishes width pieces piece []
    → (next : PackerState) × (advanced width state piece ≡ Ok (record { state = next; lines = [] }))
advanced-idle width state pieces piece stands none = chosen (advanced width state piece) refl
  where
    chosen : (r : Result Advanced ℕ) → advanced width state piece ≡ r
        → (next : PackerState) × (r ≡ Ok (record { state = next; lines = [] }))
    chosen (Ok next) r_is =
        let pushes : Pushes width state pieces piece next = Pushes-advanced width state pieces piece next stands r_is in
        let same : next.lines ≡ [] = Adds-same _ _ next.lines [] pushes.finishes none in
        let ok : List (List ℕ) → Result Advanced ℕ = λ l. Ok (record { state = next.state; lines = l }) in
        (next.state, ap ok same)
    chosen (Err fault) r_is =
        let e : finished_lines width (pieces ++ piece ∷ []) ≡ Err fault =
        fault-advanced width fault state pieces piece stands r_is in
        let ok : finished_lines width (pieces ++ piece ∷ []) ≡ Ok (none.0 ++ []) = none.1.1 in
        absurd (cc)

pub forced-idle : (width : ℕ) (state : PackerState) (pieces : List Piece) → Stands width state pieces
    → EndFinishes width pieces [] → (forced state).lines ≡ []
forced-idle width state pieces stands none =
    let pushes : Pushes width state pieces forced_line (forced state) = Pushes-forced width state pieces stands in
    Adds-same _ _ (forced state).lines [] pushes.finishes none
