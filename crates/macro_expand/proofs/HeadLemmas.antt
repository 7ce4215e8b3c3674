-- The level behind its head is a level.
use Rattle.std.proofs.Common.{◌≡◌, ℕ, ◌+◌, ◌-◌, ◌≤◌, Bool, true, false, nat_lt, if◌then◌else◌}
use Rattle.std.proofs.Common.{◌==◌, ◌&&◌, get_or, take, drop, IsTrue}
use Rattle.std.proofs.Common.{List, [], ◌∷◌, length, Option, sym, ap, subst}
use Rattle.std.proofs.Common.{arith, All}
use Rattle.std.proofs.lemmas.Bool.{and_parts}
use Rattle.std.proofs.lemmas.List.{take_all}
use Rattle.std.proofs.lemmas.List.Elements.{All-head, All-tail, All-same}
use Rattle.wb_base.specs.declared.tokens.Tok.{Tok}
use Rattle.wb_base.specs.declared.tokens.Tok.TheVariants as tok
use Rattle.web_scan.specs.declared.pieces.Piece.{Piece}
use Rattle.web_scan.specs.Lawful.{IsTokenOf, IsTextOf, IsPascalTextOf, is_balanced_from}
use Rattle.web_scan.specs.Pieces.{pascal_text_at, pascal_texts_at, IsPieceWithin}
use Rattle.web_scan.specs.Scanned.{Scanned}
use Rattle.macro_expand.specs.Flat.{depth_behind}
use Rattle.macro_expand.specs.inner.Levels.{Level, IsRest, IsLevel}

-- a list by its first element and the rest
pub first_and_rest : {X : Type 0} (xs : List X) (other : X) → 1 ≤ length xs
    → xs ≡ get_or xs 0 other ∷ take (length xs - 1) (drop 1 xs)
first_and_rest [] other some = absurd (omega arith)
first_and_rest (x ∷ xs) other some = ap (λ rest. x ∷ rest) (sym (take_all (length (x ∷ xs) - 1) xs (omega arith)))

-- a whole text is a rest
pub IsRest-text : (web : Scanned) (text : List Tok) → IsTextOf web text → IsRest web text
IsRest-text web text is = record { tokens = is.tokens; depth = 0; balanced = is.balanced }

-- the level behind the mark that begins a piece
pub IsLevel-opened : (web : Scanned) (number : ℕ) (level : Level) (piece : Piece) (pieces : List Piece) (text :
    List Tok) (section : Option ℕ)
    → IsLevel web number level → level.pieces ≡ piece ∷ pieces
    → text ≡ take piece.count (drop piece.first web.tokens)
    → IsLevel web number (record level { text = text; section = section; pieces = pieces })
IsLevel-opened web number level piece pieces text section is parts text_is =
    let within : All (IsPieceWithin (length web.tokens)) (piece ∷ pieces) = All-same (IsPieceWithin (length
    web.tokens)) (piece ∷ pieces) level.pieces (sym parts) is.within in
    let texts : All (IsPascalTextOf web) (pascal_text_at web.tokens piece ∷ pascal_texts_at web.tokens pieces) =
    All-same (IsPascalTextOf web) (pascal_texts_at web.tokens (piece ∷ pieces)) (pascal_texts_at web.tokens
    level.pieces)
    (sym (ap (pascal_texts_at web.tokens) parts)) is.pieces in
    let first : IsPascalTextOf web (pascal_text_at web.tokens piece) = All-head (IsPascalTextOf web)
    (pascal_text_at web.tokens piece) (pascal_texts_at web.tokens pieces) texts in
    record {
      text = IsRest-text web text (subst (IsTextOf web) (sym text_is) first.text);
      within = All-tail (IsPieceWithin (length web.tokens)) piece pieces within;
      pieces = All-tail (IsPascalTextOf web) (pascal_text_at web.tokens piece) (pascal_texts_at web.tokens pieces)
          texts;
      environment = is.environment;
      argument = is.argument;
      meant = is.meant;
      below = is.below;
    }

-- parentheses balance behind a token
balanced-behind : (depth : ℕ) (head : Tok) (text : List Tok) → IsTrue (is_balanced_from depth (head ∷ text))
    → IsTrue (is_balanced_from (depth_behind depth head) text)
balanced-behind depth (tok.Sign byte) text is = signs (byte == 40) (byte == 41) is
  where
    signs : (a b : Bool)
        → IsTrue (if a then is_balanced_from (depth + 1) text
        else (if b then nat_lt 0 depth && is_balanced_from (depth - 1) text else is_balanced_from depth text))
        → IsTrue (is_balanced_from (if a then depth + 1 else (if b then depth - 1 else depth)) text)
    signs true b is = is
    signs false true is = (and_parts (nat_lt 0 depth) (is_balanced_from (depth - 1) text) is).1
    signs false false is = is
balanced-behind depth head text is = is

pub IsRest-behind : (web : Scanned) (head : Tok) (text : List Tok) → IsRest web (head ∷ text) → IsRest web text
IsRest-behind web head text is = record {
  tokens = All-tail (IsTokenOf web) head text is.tokens;
  depth = depth_behind is.depth head;
  balanced = balanced-behind is.depth head text is.balanced;
}

-- the level behind a token of its text
pub IsLevel-behind : (web : Scanned) (number : ℕ) (level : Level) (head : Tok) (text : List Tok)
    → IsLevel web number level → level.text ≡ head ∷ text → IsLevel web number (record level { text = text })
IsLevel-behind web number level head text is parts = record {
  text = IsRest-behind web head text (subst (IsRest web) parts is.text);
  within = is.within;
  pieces = is.pieces;
  environment = is.environment;
  argument = is.argument;
  meant = is.meant;
  below = is.below;
}

pub IsTokenOf-head : (web : Scanned) (number : ℕ) (level : Level) (head : Tok) (text : List Tok)
    → IsLevel web number level → level.text ≡ head ∷ text → IsTokenOf web head
IsTokenOf-head web number level head text is parts =
    let rest : IsRest web (head ∷ text) = subst (IsRest web) parts is.text in All-head (IsTokenOf web) head text
    rest.tokens
