-- How the open levels stand for the flat list. They are told the topmost first, and numbered from 0, the lowest.
use Rattle.std.specs.Prelude.{ℕ, ◌≡◌, ◌<◌, ◌≤◌, ◌==◌, ◌&&◌, Bool, if◌then◌else◌, List, [], ◌∷◌, length, All}
use Rattle.std.specs.Prelude.{IsTrue, ⊤}
use Rattle.std.specs.Prelude.{Option, Some, None, is_none}
use Rattle.wb_base.specs.declared.tokens.Tok.{Tok}
use Rattle.web_scan.specs.declared.pieces.Piece.{Piece}
use Rattle.web_scan.specs.Lawful.{IsTokenOf, IsTextOf, IsPascalTextOf, is_balanced_from}
use Rattle.web_scan.specs.Pieces.{pascal_texts_at, IsPieceWithin}
use Rattle.web_scan.specs.Scanned.{PascalText, Scanned}
use Rattle.macro_expand.specs.declared.frames.Frame.{Frame}
use Rattle.macro_expand.specs.Flat.{Flat, nothing, opens, closes, ends, text_before}

-- an open level: the rest of the text that is read, the number of the section whose text that is, the pieces behind
-- it,
-- the number of the level whose argument a parameter stands for; and the level's own argument, with the number of
-- the
-- level whose argument a parameter in it stands for
pub record Level : Type 0 where
  pub text : List Tok
  pub section : Option ℕ
  pub pieces : List Piece
  pub environment : ℕ
  pub argument : List Tok
  pub meant : ℕ

-- a frame as a level
abbrev pub level_of : Frame → Level
level_of frame = record {
  text = frame.text.now;
  section = frame.section;
  pieces = frame.pieces.now;
  environment = frame.environment;
  argument = frame.argument.text.now;
  meant = frame.argument.environment;
}

-- frames, of which the last is the topmost, over these levels
abbrev pub levels_over : List Level → List Frame → List Level
levels_over lower [] = lower
levels_over lower (frame ∷ frames) = levels_over (level_of frame ∷ lower) frames

-- the levels of these frames
abbrev pub levels_of : List Frame → List Level
levels_of frames = levels_over [] frames

-- the argument of the level with this number, in which each parameter is replaced
abbrev pub argument_of : List Level → ℕ → Flat
argument_of [] number = nothing
argument_of (top ∷ lower) number =
    if number == length lower then text_before (argument_of lower top.meant) top.argument nothing
    else argument_of lower number

-- the pieces of a section before a list, each between its marks, with this argument for each parameter
abbrev pub pieces_with : Flat → List PascalText → Flat → Flat
pieces_with given [] rest = rest
pieces_with given (piece ∷ pieces) rest =
    opens piece.number (text_before given piece.text (closes piece.number (pieces_with given pieces rest)))

-- the end of the piece that is read before a list, if one is
abbrev pub mark_before : Option ℕ → Flat → Flat
mark_before None rest = rest
mark_before (Some number) rest = closes number rest

-- what a level still gives before a list, with this argument for each parameter
abbrev pub level_before : List Tok → Flat → Level → Flat → Flat
level_before tokens given level rest =
    text_before given level.text
    (mark_before level.section (pieces_with given (pascal_texts_at tokens level.pieces) rest))

-- the flat list
abbrev pub list_of : List Tok → List Level → Flat
list_of tokens [] = nothing
list_of tokens (top ∷ lower) =
    level_before tokens (argument_of (top ∷ lower) top.environment) top (ends (list_of tokens lower))

-- whether nothing but its end is left of a level
abbrev pub is_finished : Level → Bool
is_finished level = (length level.text == 0) && (is_none level.section && (length level.pieces == 0))

-- a part of a text behind which no parenthesis is open
pub record IsRest (web : Scanned) (text : List Tok) : Type 0 where
  pub tokens : All (IsTokenOf web) text
  pub depth : ℕ
  pub balanced : IsTrue (is_balanced_from depth text)

-- a level with this number: the level whose argument its parameters stand for is open, and that of its argument
-- lies
-- below it
pub record IsLevel (web : Scanned) (number : ℕ) (level : Level) : Type 0 where
  pub text : IsRest web level.text
  pub within : All (IsPieceWithin (length web.tokens)) level.pieces
  pub pieces : All (IsPascalTextOf web) (pascal_texts_at web.tokens level.pieces)
  pub environment : level.environment ≤ number
  pub argument : IsTextOf web level.argument
  pub meant : level.meant ≤ number
  pub below : 0 < length level.argument → level.meant < number

-- each level, by its number
abbrev pub AreLevels : Scanned → List Level → Type 0
AreLevels web [] = ⊤
AreLevels web (top ∷ lower) = IsLevel web (length lower) top × AreLevels web lower

-- two levels have the same argument, and their parameters stand for the same
pub record HaveSameArgument (old new : Level) : Type 0 where
  pub environment : new.environment ≡ old.environment
  pub argument : new.argument ≡ old.argument
  pub meant : new.meant ≡ old.meant
