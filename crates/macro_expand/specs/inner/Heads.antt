-- The head of a level, and what a token stands for in code.
use Rattle.std.specs.Prelude.{◌≡◌, List, ◌∷◌, length, All, ⊤}
use Rattle.wb_base.specs.declared.tokens.Tok.{Tok}
use Rattle.web_scan.specs.declared.pieces.Piece.{Piece}
use Rattle.web_scan.specs.Lawful.{IsTokenOf, IsTextOf, IsPascalTextOf}
use Rattle.web_scan.specs.Pieces.{pascal_texts_at, IsPieceWithin}
use Rattle.web_scan.specs.Scanned.{Scanned}
use Rattle.macro_expand.specs.declared.frames.Head.{Head}
use Rattle.macro_expand.specs.declared.frames.Head.TheVariants as head
use Rattle.macro_expand.specs.declared.meanings.Meaning.{Meaning}
use Rattle.macro_expand.specs.declared.meanings.Meaning.TheVariants as code
use Rattle.macro_expand.specs.Expansion as spec
use Rattle.macro_expand.specs.Flat.{token, opens, closes, ends, argument}
use Rattle.macro_expand.specs.Foldable.{IsFoldable}
use Rattle.macro_expand.specs.Items.{item_of}
use Rattle.macro_expand.specs.inner.Levels.{Level, argument_of, list_of}

-- the head of a level before the level behind it, both over these lower levels
abbrev pub Splits : List Tok → List Level → Level → Head → Level → Type 0
Splits tokens lower old (head.Token read) new = list_of tokens (old ∷ lower)
    ≡ token read.now (list_of tokens (new ∷ lower))
Splits tokens lower old head.Parameter new =
    list_of tokens (old ∷ lower) ≡ argument (argument_of (new ∷ lower) new.environment) (list_of tokens (new ∷
    lower))
Splits tokens lower old (head.Open number) new = list_of tokens (old ∷ lower)
    ≡ opens number (list_of tokens (new ∷ lower))
Splits tokens lower old (head.Close number) new = list_of tokens (old ∷ lower)
    ≡ closes number (list_of tokens (new ∷ lower))
Splits tokens lower old head.End new = list_of tokens (old ∷ lower) ≡ ends (list_of tokens lower)

-- a token that is a head is one of the web
abbrev pub IsHeadOf : Scanned → Head → Type 0
IsHeadOf web (head.Token read) = IsTokenOf web read.now
IsHeadOf web other = ⊤

-- what a token stands for
abbrev pub meaning_in : List Tok → Meaning → spec.Meaning
meaning_in tokens (code.Itself item) = spec.itself (item_of item)
meaning_in tokens (code.Simple text) = spec.simple text.now
meaning_in tokens (code.Parametric text) = spec.parametric text.now
meaning_in tokens (code.Section pieces) = spec.section (pascal_texts_at tokens pieces.now)

-- the pieces of a section of a web
pub record ArePiecesOf (web : Scanned) (pieces : List Piece) : Type 0 where
  pub within : All (IsPieceWithin (length web.tokens)) pieces
  pub texts : All (IsPascalTextOf web) (pascal_texts_at web.tokens pieces)

-- it stands for an item that can be folded, or for texts of the web
abbrev pub IsMeaningOf : Scanned → Meaning → Type 0
IsMeaningOf web (code.Itself item) = IsFoldable (item_of item)
IsMeaningOf web (code.Simple text) = IsTextOf web text.now
IsMeaningOf web (code.Parametric text) = IsTextOf web text.now
IsMeaningOf web (code.Section pieces) = ArePiecesOf web pieces.now
