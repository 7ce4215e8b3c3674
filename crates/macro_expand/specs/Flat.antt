-- What of a web is still to be expanded, as one flat list (after tangle.web, which keeps a stack of texts).
use Rattle.std.specs.Prelude.{ℕ, ◌+◌, ◌-◌, ◌==◌, ◌&&◌, Bool, false, if◌then◌else◌, List, [], ◌∷◌}
use Rattle.wb_base.specs.declared.tokens.Tok.{Tok}
use Rattle.wb_base.specs.declared.tokens.Tok.TheVariants as tok
use Rattle.web_scan.specs.Scanned.{PascalText}

-- a list: empty, or before the rest a token, the begin or the end of a piece of the section of a number, the end of
-- a
-- level, or the argument that a parameter stands for, which is such a list itself
pub data Flat : Type 0 where
  nothing : Flat
  token : Tok → Flat → Flat
  opens : ℕ → Flat → Flat
  closes : ℕ → Flat → Flat
  ends : Flat → Flat
  argument : Flat → Flat → Flat

-- a list, and another behind it
abbrev pub followed_by : Flat → Flat → Flat
followed_by nothing rest = rest
followed_by (token head list) rest = token head (followed_by list rest)
followed_by (opens number list) rest = opens number (followed_by list rest)
followed_by (closes number list) rest = closes number (followed_by list rest)
followed_by (ends list) rest = ends (followed_by list rest)
followed_by (argument given list) rest = argument given (followed_by list rest)

-- a text before a list, with the argument for its parameter
abbrev pub text_before : Flat → List Tok → Flat → Flat
text_before given [] rest = rest
text_before given (tok.Param ∷ text) rest = argument given (text_before given text rest)
text_before given (head ∷ text) rest = token head (text_before given text rest)

-- the pieces of a section before a list, each between its marks
abbrev pub pieces_before : List PascalText → Flat → Flat
pieces_before [] rest = rest
pieces_before (piece ∷ pieces) rest =
    opens piece.number (text_before nothing piece.text (closes piece.number (pieces_before pieces rest)))

-- how many levels are open: how often one ends in the list
abbrev pub levels : Flat → ℕ
levels nothing = 0
levels (ends list) = levels list + 1
levels (token head list) = levels list
levels (opens number list) = levels list
levels (closes number list) = levels list
levels (argument given list) = levels list

-- how many levels end at the front
abbrev pub ends_in_front : Flat → ℕ
ends_in_front (ends list) = ends_in_front list + 1
ends_in_front list = 0

-- the list behind the ends at its front
abbrev pub behind_ends : Flat → Flat
behind_ends (ends list) = behind_ends list
behind_ends list = list

-- whether a token is this sign
abbrev pub is_sign : ℕ → Tok → Bool
is_sign byte (tok.Sign head) = head == byte
is_sign byte other = false

abbrev pub is_opening : Tok → Bool
is_opening head = is_sign 40 head

abbrev pub is_closing : Tok → Bool
is_closing head = is_sign 41 head

-- how many parentheses are open behind a token, where so many are before it
abbrev pub depth_behind : ℕ → Tok → ℕ
depth_behind depth head =
    if is_opening head then depth + 1 else (if is_closing head then depth - 1 else depth)

-- a list in parentheses behind its `(`: what stands before its `)`, how many heads that is, and what stands behind
pub record Parted : Type 0 where
  pub inside : Flat
  pub count : ℕ
  pub behind : Flat

-- the same with one more head
abbrev pub with_head : (Flat → Flat) → Parted → Parted
with_head head parted =
    record { inside = head parted.inside; count = parted.count + 1; behind = parted.behind }

-- a list parted at the `)` that closes it, where so many parentheses are open within it. Parentheses balance in
-- each
-- text, so this `)` stands before a mark and the end of the level
abbrev pub parted : ℕ → Flat → Parted
parted depth (token head rest) =
    if is_closing head && depth == 0 then record { inside = nothing; count = 0; behind = rest }
    else with_head (token head) (parted (depth_behind depth head) rest)
parted depth (argument given rest) = with_head (argument given) (parted depth rest)
parted depth other = record { inside = nothing; count = 0; behind = other }
