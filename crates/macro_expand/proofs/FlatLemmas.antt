-- Texts, pieces and levels in a flat list.
use Rattle.std.proofs.Common.{◌≡◌, ◌≢◌, ℕ, List, [], ◌∷◌, Option, Some, None, refl, ap, ◌∙◌}
use Rattle.wb_base.specs.declared.tokens.Tok.{Tok}
use Rattle.wb_base.specs.declared.tokens.Tok.TheVariants as tok
use Rattle.web_scan.specs.Scanned.{PascalText}
use Rattle.macro_expand.specs.Flat.{Flat, nothing, token, opens, closes, argument, followed_by, text_before}
use Rattle.macro_expand.specs.Flat.{pieces_before, levels}
use Rattle.macro_expand.specs.inner.Levels.{pieces_with, mark_before}

-- a text before a list is the list of the text, and that list
pub followed_by-text_before : (given : Flat) (text : List Tok) (rest : Flat)
    → followed_by (text_before given text nothing) rest ≡ text_before given text rest
followed_by-text_before given [] rest = refl
followed_by-text_before given (tok.Param ∷ text) rest = ap (argument given) (followed_by-text_before given text
    rest)
followed_by-text_before given (head ∷ text) rest = ap (token head) (followed_by-text_before given text rest)

-- a token that is no parameter is a head
pub text_before-token : (given : Flat) (head : Tok) (text : List Tok) (rest : Flat) → head ≢ tok.Param
    → text_before given (head ∷ text) rest ≡ token head (text_before given text rest)
text_before-token given tok.Param text rest other = absurd (other refl)
text_before-token given head text rest other = refl

-- no level ends in a text
pub levels-text_before : (given : Flat) (text : List Tok) (rest : Flat)
    → levels (text_before given text rest) ≡ levels rest
levels-text_before given [] rest = refl
levels-text_before given (tok.Param ∷ text) rest = levels-text_before given text rest
levels-text_before given (head ∷ text) rest = levels-text_before given text rest

pub levels-pieces_with : (given : Flat) (pieces : List PascalText) (rest : Flat)
    → levels (pieces_with given pieces rest) ≡ levels rest
levels-pieces_with given [] rest = refl
levels-pieces_with given (piece ∷ pieces) rest =
    levels-text_before given piece.text (closes piece.number (pieces_with given pieces rest))
    ∙ levels-pieces_with given pieces rest

pub levels-mark_before : (section : Option ℕ) (rest : Flat) → levels (mark_before section rest) ≡ levels rest
levels-mark_before None rest = refl
levels-mark_before (Some number) rest = refl

-- without an argument pieces are those of the definition
pub pieces_with-nothing : (pieces : List PascalText) (rest : Flat)
    → pieces_with nothing pieces rest ≡ pieces_before pieces rest
pieces_with-nothing [] rest = refl
pieces_with-nothing (piece ∷ pieces) rest =
    ap (λ list. opens piece.number (text_before nothing piece.text (closes piece.number list)))
    (pieces_with-nothing pieces rest)
