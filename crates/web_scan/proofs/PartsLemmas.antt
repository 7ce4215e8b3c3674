-- The parts of a web after one more token, and after the text of one more section.
use Rattle.std.proofs.Common.{◌≡◌, ℕ, ◌+◌, ◌-◌, ◌≤◌, List, [], ◌∷◌, ◌++◌, length, take, drop, map, All, Vec, Some}
use Rattle.std.proofs.Common.{refl, ap, ◌∙◌, arith, length-drop}
use Rattle.std.proofs.lemmas.List.{drop-append-le, take-append-le, take_all}
use Rattle.std.proofs.lemmas.List.Elements.{All-head, All-tail}
use Rattle.wb_base.specs.declared.tokens.Tok.{Tok}
use Rattle.std.specs.declared.alloc.Global.{Global}
use Rattle.web_scan.specs.declared.parts.Parts.TheInside.{Inside}
use Rattle.web_scan.specs.declared.pieces.Piece.{Piece}
use Rattle.web_scan.specs.declared.pieces.Span.{Span}
use Rattle.web_scan.specs.Scanned.{PascalText, Scanned, with_text_under}
use Rattle.web_scan.specs.Sections.{with_pascal_text}
use Rattle.web_scan.specs.Pieces.{pascal_text_at, pascal_texts_at, IsPieceWithin}
use Rattle.web_scan.specs.inner.Under.{pieces_in, with_piece_under}
use Rattle.web_scan.proofs.UnderLemmas.{texts_in, texts_in-with_piece_under}
use Rattle.web_scan.specs.inner.PartsView.{text_at, IsSpanWithin, scanned_in, IsKept}

-- a range of a list with one more element
pub range-push :
    {X : Type 0} (first count : ℕ) (xs : List X) (x : X) → first + count ≤ length xs
    → take count (drop first (xs ++ x ∷ [])) ≡ take count (drop first xs)
range-push first count xs x within =
    let begins : first ≤ length xs = omega arith in
    let rest : count ≤ length (drop first xs) = omega (arith, length-drop first xs) in
    ap (take count) (drop-append-le first xs (x ∷ []) begins) ∙ take-append-le count (drop first xs) (x ∷ []) rest

-- the texts of macros
pub texts-push : (spans : List Span) (tokens : List Tok) (token : Tok) → All (IsSpanWithin (length tokens)) spans
    → map (text_at (tokens ++ token ∷ [])) spans ≡ map (text_at tokens) spans
texts-push [] tokens token within = refl
texts-push (span ∷ spans) tokens token within =
    let here : text_at (tokens ++ token ∷ []) span ≡ text_at tokens span = range-push span.first span.count tokens
    token (All-head (IsSpanWithin (length tokens)) span spans within) in
    let others = texts-push spans tokens token (All-tail (IsSpanWithin (length tokens)) span spans within) in
    ap (λ text. text ∷ map (text_at (tokens ++ token ∷ [])) spans) here
    ∙ ap (λ texts. text_at tokens span ∷ texts) others

-- the texts of sections
pub pascal_texts-push : (pieces : List Piece) (tokens : List Tok) (token : Tok)
    → All (IsPieceWithin (length tokens)) pieces
    → pascal_texts_at (tokens ++ token ∷ []) pieces ≡ pascal_texts_at tokens pieces
pascal_texts-push [] tokens token within = refl
pascal_texts-push (piece ∷ pieces) tokens token within =
    let text = range-push piece.first piece.count tokens token
    (All-head (IsPieceWithin (length tokens)) piece pieces within) in
    let here : pascal_text_at (tokens ++ token ∷ []) piece ≡ pascal_text_at tokens piece = ap
    (λ (text : List Tok). let made : PascalText = record { number = piece.number; text = text } in made) text in
    let others = pascal_texts-push pieces tokens token
    (All-tail (IsPieceWithin (length tokens)) piece pieces within) in
    ap (λ text. text ∷ pascal_texts_at (tokens ++ token ∷ []) pieces) here
    ∙ ap (λ texts. pascal_text_at tokens piece ∷ texts) others

-- the texts under names of sections
pub named-push :
    (named : List (Vec Piece Global)) (tokens : List Tok) (token : Tok)
    → All (λ pieces. All (IsPieceWithin (length tokens)) pieces.items) named
    → map (λ pieces. pascal_texts_at (tokens ++ token ∷ []) pieces.items) named
    ≡ map (λ pieces. pascal_texts_at tokens pieces.items) named
named-push [] tokens token within = refl
named-push (pieces ∷ named) tokens token within =
    let P : Vec Piece Global → Type 0 = λ pieces. All (IsPieceWithin (length tokens)) pieces.items in
    let here = pascal_texts-push pieces.items tokens token (All-head P pieces named within) in
    let others = named-push named tokens token (All-tail P pieces named within) in
    ap (λ texts. texts ∷ map (λ pieces. pascal_texts_at (tokens ++ token ∷ []) pieces.items) named) here
    ∙ ap (λ lists. pascal_texts_at tokens pieces.items ∷ lists) others

-- the web with these tokens and texts
with_texts : Inside → List Tok → List (List Tok) → List PascalText → List (List PascalText) → Scanned
with_texts parts tokens texts unnamed named = record {
  names = parts.names;
  sections = parts.sections;
  strings = parts.pool;
  quoted = parts.quoted.items;
  tokens = tokens;
  texts = texts;
  unnamed = unnamed;
  named = named;
  count = parts.count;
}

-- the parts of a web with one more token
pub scanned_in-push :
    (parts : Inside) (more : Vec Tok Global) (token : Tok) → IsKept parts
    → more.items ≡ parts.tokens.items ++ token ∷ []
    → scanned_in (record parts { tokens = more }) ≡ record
    (scanned_in parts) { tokens = parts.tokens.items ++ token ∷ [] }
unfolding with_texts
scanned_in-push parts more token kept is =
    let old = parts.tokens.items in
    let new = old ++ token ∷ [] in
    let texts : map (text_at more.items) parts.texts.items ≡ map (text_at old) parts.texts.items =
    ap (λ tokens. map (text_at tokens) parts.texts.items) is ∙ texts-push parts.texts.items old token kept.texts in
    let unnamed : pascal_texts_at more.items parts.unnamed.items ≡ pascal_texts_at old parts.unnamed.items =
    ap (λ tokens. pascal_texts_at tokens parts.unnamed.items) is
    ∙ pascal_texts-push parts.unnamed.items old token kept.unnamed in
    let named :
    map (λ pieces. pascal_texts_at more.items pieces.items) parts.named.items
    ≡ map (λ pieces. pascal_texts_at old pieces.items) parts.named.items =
    ap (λ tokens. map (λ pieces. pascal_texts_at tokens pieces.items) parts.named.items) is
    ∙ named-push parts.named.items old token kept.named in
    ap (λ tokens. with_texts parts tokens (map (text_at more.items) parts.texts.items)
    (pascal_texts_at more.items parts.unnamed.items)
    (map (λ pieces. pascal_texts_at more.items pieces.items) parts.named.items)) is
    ∙ ap (λ texts. with_texts parts new texts (pascal_texts_at more.items parts.unnamed.items)
    (map (λ pieces. pascal_texts_at more.items pieces.items) parts.named.items)) texts
    ∙ ap (λ texts. with_texts parts new (map (text_at old) parts.texts.items) texts
    (map (λ pieces. pascal_texts_at more.items pieces.items) parts.named.items)) unnamed
    ∙ ap (with_texts parts new (map (text_at old) parts.texts.items) (pascal_texts_at old parts.unnamed.items)) named

-- the range of the tokens after the first ones
pascal_text_at-rest :
    (tokens : List Tok) (number first count : ℕ) → count ≡ length tokens - first
    → pascal_text_at tokens (record { number = number; first = first; count = count })
    ≡ record { number = number; text = drop first tokens }
pascal_text_at-rest tokens number first count all =
    let whole : take count (drop first tokens) ≡ drop first tokens =
    take_all count (drop first tokens) (omega (arith, length-drop first tokens)) in
    ap (λ (text : List Tok). let made : PascalText = record { number = number; text = text } in made) whole

-- the parts of a web with the text of its last section under a name
pub scanned_in-under :
    (parts : Inside) (new : Vec (Vec Piece Global) Global) (name first count : ℕ) (web : Scanned)
    → scanned_in parts ≡ web → count ≡ length parts.tokens.items - first
    → pieces_in new.items
    ≡ with_piece_under name (record { number = parts.count; first = first; count = count })
    (pieces_in parts.named.items)
    → scanned_in (record parts { named = new }) ≡ with_pascal_text (Some name) (drop first web.tokens) web
scanned_in-under parts new name first count web is all more =
    let tokens = parts.tokens.items in
    let under : List (List PascalText) → Scanned = λ named. record (scanned_in parts) { named = named } in
    let text = pascal_text_at-rest tokens parts.count first count all in
    ap under (texts_in-with_piece_under name _ tokens parts.named.items new.items more)
    ∙ ap (λ text. under (with_text_under name text (texts_in tokens parts.named.items))) text
    ∙ ap (λ (web : Scanned). with_pascal_text (Some name) (drop first web.tokens) web) is
