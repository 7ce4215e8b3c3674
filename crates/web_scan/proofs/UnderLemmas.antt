-- Ranges under names, and the texts that they stand for.
use Rattle.std.proofs.Common.{◌≡◌, ℕ, zero, suc, ◌<◌, ◌≤◌, List, [], ◌∷◌, ◌++◌, length, get_or, map, set, All, Vec}
use Rattle.std.proofs.Common.{Some, None, slice_get, refl, sym, ap, ◌∙◌, arith}
use Rattle.std.proofs.lemmas.List.{map-append}
use Rattle.std.proofs.lemmas.List.Elements.{All-nil, All-same, All-push}
use Rattle.std.specs.declared.alloc.Global.{Global}
use Rattle.wb_base.specs.declared.tokens.Tok.{Tok}
use Rattle.web_scan.specs.declared.pieces.Piece.{Piece}
use Rattle.web_scan.specs.Scanned.{PascalText, texts_under, with_text_under}
use Rattle.web_scan.specs.Pieces.{pascal_text_at, pascal_texts_at, IsPieceWithin}
use Rattle.web_scan.specs.inner.Under.{pieces_in, with_piece_under, AreWithin}

-- one more name without texts at the end
pub with_piece_under-padded :
    (name : ℕ) (piece : Piece) (named : List (List Piece)) → length named ≤ name
    → with_piece_under name piece (named ++ [] ∷ []) ≡ with_piece_under name piece named
with_piece_under-padded zero piece [] few = refl
with_piece_under-padded (suc name) piece [] few = refl
with_piece_under-padded zero piece (pieces ∷ named) few = absurd (omega arith)
with_piece_under-padded (suc name) piece (pieces ∷ named) few =
    ap (λ others. pieces ∷ others) (with_piece_under-padded name piece named (omega arith))

-- the texts after one more range
pub texts-with_piece_under :
    (name : ℕ) (piece : Piece) (tokens : List Tok) (named : List (List Piece))
    → map (pascal_texts_at tokens) (with_piece_under name piece named)
    ≡ with_text_under name (pascal_text_at tokens piece) (map (pascal_texts_at tokens) named)
texts-with_piece_under zero piece tokens [] = refl
texts-with_piece_under (suc name) piece tokens [] =
    ap (λ others. [] ∷ others) (texts-with_piece_under name piece tokens [])
texts-with_piece_under zero piece tokens (pieces ∷ named) =
    ap (λ texts. texts ∷ map (pascal_texts_at tokens) named) (map-append (pascal_text_at tokens) pieces (piece ∷ []))
texts-with_piece_under (suc name) piece tokens (pieces ∷ named) =
    ap (λ others. pascal_texts_at tokens pieces ∷ others) (texts-with_piece_under name piece tokens named)

-- one more name without texts at the end keeps ranges within the tokens
pub AreWithin-padded :
    (size : ℕ) (named more : List (Vec Piece Global)) (pieces : Vec Piece Global)
    → more ≡ named ++ pieces ∷ [] → pieces.items ≡ [] → AreWithin size named → AreWithin size more
AreWithin-padded size named more pieces pushed empty within =
    let P : Vec Piece Global → Type 0 = λ pieces. All (IsPieceWithin size) pieces.items in
    let here : P pieces =
    All-same (IsPieceWithin size) pieces.items [] empty (All-nil (IsPieceWithin size)) in
    All-same P more (named ++ pieces ∷ []) pushed (All-push P named pieces within here)

-- one more range in the list under a name
pub pieces_in-set :
    (name : ℕ) (piece : Piece) (named : List (Vec Piece Global)) (old new : Vec Piece Global)
    → name < length named → old ≡ get_or named name old → new.items ≡ old.items ++ piece ∷ []
    → pieces_in (set named name new) ≡ with_piece_under name piece (pieces_in named)
pieces_in-set name piece [] old new within there pushed = absurd (omega arith)
pieces_in-set zero piece (pieces ∷ named) old new within there pushed =
    ap (λ items. items ∷ pieces_in named)
    (pushed ∙ ap (λ (pieces : Vec Piece Global). pieces.items ++ piece ∷ []) there)
pieces_in-set (suc name) piece (pieces ∷ named) old new within there pushed =
    ap (λ others. pieces.items ∷ others) (pieces_in-set name piece named old new (omega arith) there pushed)

-- the texts of the ranges under each name
abbrev pub texts_in : List Tok → List (Vec Piece Global) → List (List PascalText)
texts_in tokens named = map (λ pieces. pascal_texts_at tokens pieces.items) named

-- the texts under a name, where there are ranges under it
pub texts_under-Some :
    (name : ℕ) (tokens : List Tok) (named : List (Vec Piece Global)) (pieces : Vec Piece Global)
    → slice_get named name ≡ Some pieces
    → pascal_texts_at tokens pieces.items ≡ texts_under name (texts_in tokens named)
texts_under-Some name tokens [] pieces is = absurd cc
texts_under-Some zero tokens (other ∷ named) pieces is =
    let same : other ≡ pieces = cc in
    ap (λ (pieces : Vec Piece Global). pascal_texts_at tokens pieces.items) (sym same)
texts_under-Some (suc name) tokens (other ∷ named) pieces is = texts_under-Some name tokens named pieces is

-- the same where there are none
pub texts_under-None :
    (name : ℕ) (tokens : List Tok) (named : List (Vec Piece Global))
    → slice_get named name ≡ None → [] ≡ texts_under name (texts_in tokens named)
texts_under-None name tokens [] is = refl
texts_under-None zero tokens (other ∷ named) is = absurd cc
texts_under-None (suc name) tokens (other ∷ named) is = texts_under-None name tokens named is

-- the texts by the lists of ranges
pub texts_in-pieces_in :
    (tokens : List Tok) (named : List (Vec Piece Global))
    → texts_in tokens named ≡ map (pascal_texts_at tokens) (pieces_in named)
texts_in-pieces_in tokens [] = refl
texts_in-pieces_in tokens (pieces ∷ named) =
    ap (λ others. pascal_texts_at tokens pieces.items ∷ others) (texts_in-pieces_in tokens named)

-- the texts under names after one more range
pub texts_in-with_piece_under :
    (name : ℕ) (piece : Piece) (tokens : List Tok) (old new : List (Vec Piece Global))
    → pieces_in new ≡ with_piece_under name piece (pieces_in old)
    → texts_in tokens new ≡ with_text_under name (pascal_text_at tokens piece) (texts_in tokens old)
texts_in-with_piece_under name piece tokens old new more =
    texts_in-pieces_in tokens new ∙ ap (map (pascal_texts_at tokens)) more
    ∙ texts-with_piece_under name piece tokens (pieces_in old)
    ∙ ap (with_text_under name (pascal_text_at tokens piece)) (sym (texts_in-pieces_in tokens old))
