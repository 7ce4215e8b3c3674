-- What the pieces of a web stand for.
use Rattle.std.specs.Prelude.{ℕ, ℤ, ◌+◌, ◌≤◌, List, map, take, drop, slice_get, nat_abs, Option, Some, None, IsSome}
use Rattle.wb_base.specs.declared.tokens.Tok.{Tok}
use Rattle.web_scan.specs.declared.pieces.Piece.{Piece}
use Rattle.web_names.specs.declared.classes.Class.{Class}
use Rattle.web_names.specs.declared.classes.Class.TheVariants as class
use Rattle.web_names.specs.Identifiers.{Name}
use Rattle.web_scan.specs.Scanned.{PascalText, Scanned}

-- the Pascal text of a section: the tokens of its range among the stored ones
abbrev pub pascal_text_at : List Tok → Piece → PascalText
pascal_text_at tokens piece =
    record { number = piece.number; text = take piece.count (drop piece.first tokens) }

-- the range lies within so many stored tokens
abbrev pub IsPieceWithin : ℕ → Piece → Type 0
IsPieceWithin size piece = piece.first + piece.count ≤ size

-- Pascal texts
abbrev pub pascal_texts_at : List Tok → List Piece → List PascalText
pascal_texts_at tokens pieces = map (pascal_text_at tokens) pieces

-- the text of a macro, by its class and value, if it is simple or parametric
abbrev pub text_by : Scanned → Class → ℤ → Option (List Tok)
text_by web class.Simple value = slice_get web.texts (nat_abs value)
text_by web class.Parametric value = slice_get web.texts (nat_abs value)
text_by web other value = None

-- the text of a name, if there is one
abbrev pub text_of_name : Scanned → Option Name → Option (List Tok)
text_of_name web None = None
text_of_name web (Some name) = text_by web name.class name.value

-- the text of the macro with this id, if it has one
abbrev pub text_of_macro : Scanned → ℕ → Option (List Tok)
text_of_macro web id = text_of_name web (slice_get web.names.names id)

-- the name with this id is a macro with a text
abbrev pub HasText : Scanned → ℕ → Type 0
HasText web id = IsSome (text_of_macro web id)
