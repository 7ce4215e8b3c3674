-- The first piece of a text.
use Rattle.std.proofs.Common.{◌≡◌, ℕ, ◌+◌, ◌<◌, ◌≤◌, ◌==◌, Bool, true, false, List, [], ◌∷◌, length, take, drop}
use Rattle.std.proofs.Common.{None, Some, unwrap_or, refl, arith, cond, ltb, not}
use Rattle.std.proofs.lemmas.Grind.{common_steps}
use Rattle.std.proofs.lemmas.Bool.Decides.{nat_tests}
use Rattle.std.proofs.lemmas.List.Sums.{prefix_len-le-length}
use Rattle.std.specs.List.{position_or_len}
use Rattle.wb_base.specs.Pieces.{pieces_of, ends_line}

-- the first piece ends at the first line end, and the others are those of what stands after it
abbrev pub FirstPiece : List ℕ → Type 0
FirstPiece bytes = pieces_of bytes ≡ take (position_or_len ends_line bytes) bytes ∷ pieces_of
    (drop (position_or_len ends_line bytes + 1) bytes)

piece_ends : (b : Bool) (byte : ℕ) (bytes : List ℕ) → (byte == 10) ≡ b → 0 < length bytes → FirstPiece bytes
    → FirstPiece (byte ∷ bytes)
piece_ends true byte bytes is some first = grind (arith, common_steps)
piece_ends false byte bytes is some first = grind (arith, common_steps)

last_piece_ends : (b : Bool) (byte : ℕ) → (byte == 10) ≡ b → FirstPiece (byte ∷ [])
last_piece_ends true byte is = grind (arith, common_steps)
last_piece_ends false byte is = grind (arith, common_steps)

pub pieces_of-first : (bytes : List ℕ) → 0 < length bytes → FirstPiece bytes
pieces_of-first [] some = absurd (omega arith)
pieces_of-first (byte ∷ []) some = last_piece_ends (byte == 10) byte refl
pieces_of-first (byte ∷ (next ∷ bytes)) some =
    piece_ends (byte == 10) byte (next ∷ bytes) refl (omega arith) (pieces_of-first (next ∷ bytes) (omega arith))

-- `position`, with the length where nothing is found
pub position_or_len-found : (test : ℕ → Bool) (xs : List ℕ)
    → unwrap_or (cond (ltb (position_or_len test xs) (length xs)) (Some (position_or_len test xs)) None) (length xs)
    ≡ position_or_len test xs
position_or_len-found test xs =
    let le : position_or_len test xs ≤ length xs = prefix_len-le-length (λ x. not (test x)) xs in
    found_or_length (position_or_len test xs) (length xs) le
  where
    found_or_length : (m n : ℕ) → m ≤ n → unwrap_or (cond (ltb m n) (Some m) None) n ≡ m
    found_or_length m n le = grind (arith, nat_tests)
