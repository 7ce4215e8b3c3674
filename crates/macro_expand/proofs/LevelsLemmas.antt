-- Levels, the arguments that they hold, and the list that they stand for.
use Rattle.std.proofs.Common.{◌≡◌, ℕ, zero, suc, ◌+◌, ◌<◌, Bool, true, false, if◌then◌else◌}
use Rattle.std.proofs.Common.{◌==◌, ◌&&◌, get_or, take}
use Rattle.std.proofs.Common.{List, [], ◌∷◌, ◌++◌, length, Option, Some, None, is_none, refl, sym, ap, ◌∙◌, subst}
use Rattle.std.proofs.Common.{arith}
use Rattle.std.proofs.lemmas.List.{take_more, take_all}
use Rattle.std.proofs.lemmas.Bool.{eq-eqb, ne_eqb, eqb-true, and_parts}
use Rattle.wb_base.specs.declared.tokens.Tok.{Tok}
use Rattle.wb_base.specs.declared.tokens.Tok.TheVariants as tok
use Rattle.web_scan.specs.declared.pieces.Piece.{Piece}
use Rattle.web_scan.specs.Pieces.{pascal_texts_at}
use Rattle.web_scan.specs.Scanned.{Scanned}
use Rattle.macro_expand.specs.declared.frames.Frame.{Frame}
use Rattle.macro_expand.specs.Flat.{Flat, nothing, ends, text_before}
use Rattle.macro_expand.specs.Flat.{levels, ends_in_front, behind_ends}
use Rattle.macro_expand.specs.inner.Levels.{Level, level_of, levels_over, levels_of, argument_of, pieces_with}
use Rattle.macro_expand.specs.inner.Levels.{mark_before}
use Rattle.macro_expand.specs.inner.Levels.{level_before, list_of, is_finished, IsLevel, AreLevels}
use Rattle.macro_expand.specs.inner.Levels.{HaveSameArgument}
use Rattle.macro_expand.proofs.FlatLemmas.{levels-text_before, levels-pieces_with, levels-mark_before}

-- a frame past the last
abbrev pub no_frame : Frame
no_frame = record {
  text = record { ref_ptr = (0, 0); now = [] };
  section = None;
  pieces = record { ref_ptr = (0, 0); now = [] };
  environment = 0;
  argument = record { text = record { ref_ptr = (0, 0); now = [] }; environment = 0 };
}

-- one more frame is one more level
pub levels_over-push : (lower : List Level) (frames : List Frame) (frame : Frame)
    → levels_over lower (frames ++ frame ∷ []) ≡ level_of frame ∷ levels_over lower frames
levels_over-push lower [] frame = refl
levels_over-push lower (first ∷ frames) frame = levels_over-push (level_of first ∷ lower) frames frame

pub length-levels_over : (lower : List Level) (frames : List Frame)
    → length (levels_over lower frames) ≡ length lower + length frames
length-levels_over lower [] = omega arith
length-levels_over lower (frame ∷ frames) = omega (arith, length-levels_over (level_of frame ∷ lower) frames)

pub length-levels_of : (frames : List Frame) → length (levels_of frames) ≡ length frames
length-levels_of frames = omega (arith, length-levels_over [] frames)

-- the topmost level is the last frame
pub levels_of-last : (frames : List Frame) (frame : Frame) (last : ℕ) → last + 1 ≡ length frames
    → levels_of frames ≡ level_of (get_or frames last frame) ∷ levels_of (take last frames)
levels_of-last frames frame last is =
    let whole : take (last + 1) frames ≡ frames = take_all (last + 1) frames (omega arith) in
    let parts : take (last + 1) frames ≡ take last frames ++ get_or frames last frame ∷ [] = take_more frames last
    frame (omega arith) in
    ap levels_of (sym whole ∙ parts) ∙ levels_over-push [] (take last frames) (get_or frames last frame)

-- a level is put over others by its argument alone
pub argument_of-same : (lower : List Level) (old new : Level) (number : ℕ) → HaveSameArgument old new
    → argument_of (old ∷ lower) number ≡ argument_of (new ∷ lower) number
argument_of-same lower old new number same =
    ap (λ (meant : ℕ). if number == length lower then text_before (argument_of lower meant) old.argument nothing
    else argument_of lower number) (sym same.meant)
    ∙ ap (λ (text : List Tok). if number == length lower then text_before (argument_of lower new.meant) text
    nothing else argument_of lower number) (sym same.argument)

-- lower levels keep their arguments
pub argument_of-under : (lower : List Level) (top : Level) (number : ℕ) → number < length lower
    → argument_of (top ∷ lower) number ≡ argument_of lower number
argument_of-under lower top number under =
    let other : (number == length lower) ≡ false = ne_eqb number (length lower) (λ is. omega arith) in
    ap (λ (b : Bool). if b then text_before (argument_of lower top.meant) top.argument nothing else argument_of
    lower number) other

pub argument_of-top : (lower : List Level) (top : Level) (number : ℕ) → number ≡ length lower
    → argument_of (top ∷ lower) number ≡ text_before (argument_of lower top.meant) top.argument nothing
argument_of-top lower top number is =
    let same : (number == length lower) ≡ true = eq-eqb number (length lower) is in
    ap (λ (b : Bool). if b then text_before (argument_of lower top.meant) top.argument nothing else argument_of
    lower number) same

pub argument_of-over : (lower : List Level) (frames : List Frame) (number : ℕ) → number < length lower
    → argument_of (levels_over lower frames) number ≡ argument_of lower number
argument_of-over lower [] number under = refl
argument_of-over lower (frame ∷ frames) number under =
    argument_of-over (level_of frame ∷ lower) frames number (omega arith)
    ∙ argument_of-under lower (level_of frame) number under

-- each level of the list ends in it
pub levels-list_of : (tokens : List Tok) (all : List Level) → levels (list_of tokens all) ≡ length all
levels-list_of tokens [] = refl
levels-list_of tokens (top ∷ lower) =
    let given = argument_of (top ∷ lower) top.environment in
    let pieces = pascal_texts_at tokens top.pieces in
    levels-text_before given top.text (mark_before top.section (pieces_with given pieces (ends (list_of tokens
    lower))))
    ∙ levels-mark_before top.section (pieces_with given pieces (ends (list_of tokens lower)))
    ∙ levels-pieces_with given pieces (ends (list_of tokens lower))
    ∙ ap (λ n. n + 1) (levels-list_of tokens lower) ∙ omega arith

-- the levels below those of frames
pub AreLevels-lower : (web : Scanned) (lower : List Level) (frames : List Frame)
    → AreLevels web (levels_over lower frames) → AreLevels web lower
AreLevels-lower web lower [] all = all
AreLevels-lower web lower (frame ∷ frames) all = (AreLevels-lower web (level_of frame ∷ lower) frames all).1

-- the frame with a number, as a level
pub IsLevel-frame : (web : Scanned) (lower : List Level) (frames : List Frame) (index number : ℕ) (other : Frame)
    → AreLevels web (levels_over lower frames) → index < length frames → number ≡ length lower + index
    → IsLevel web number (level_of (get_or frames index other))
IsLevel-frame web lower [] index number other all within is = absurd (omega arith)
IsLevel-frame web lower (frame ∷ frames) zero number other all within is =
    let here : IsLevel web (length lower) (level_of frame) = (AreLevels-lower web (level_of frame ∷ lower) frames
    all).0 in
    let same : length lower ≡ number = omega arith in
    subst (λ (number : ℕ). IsLevel web number (level_of frame)) same here
IsLevel-frame web lower (frame ∷ frames) (suc index) number other all within is =
    IsLevel-frame web (level_of frame ∷ lower) frames index number other all (omega arith) (omega arith)

-- an empty text has no parameter
text_before-given : (given other : Flat) (text : List Tok) (rest : Flat) → (0 < length text → given ≡ other)
    → text_before given text rest ≡ text_before other text rest
text_before-given given other [] rest same = refl
text_before-given given other (head ∷ text) rest same = ap (λ (given : Flat). text_before given (head ∷ text) rest)
    (same (omega arith))

-- the argument of a frame
pub argument_of-frame : (web : Scanned) (lower : List Level) (frames : List Frame) (index number : ℕ) (other :
    Frame)
    → AreLevels web (levels_over lower frames) → index < length frames → number ≡ length lower + index
    → argument_of (levels_over lower frames) number
    ≡ text_before (argument_of (levels_over lower frames) (get_or frames index other).argument.environment)
    (get_or frames index other).argument.text.now nothing
argument_of-frame web lower [] index number other all within is = absurd (omega arith)
argument_of-frame web lower (frame ∷ frames) zero number other all within is =
    let here : IsLevel web (length lower) (level_of frame) = (AreLevels-lower web (level_of frame ∷ lower) frames
    all).0 in
    argument_of-over (level_of frame ∷ lower) frames number (omega arith)
    ∙ argument_of-top lower (level_of frame) number (omega arith)
    ∙ text_before-given (argument_of lower frame.argument.environment)
    (argument_of (levels_over (level_of frame ∷ lower) frames) frame.argument.environment) frame.argument.text.now
    nothing
    (λ (some : 0 < length frame.argument.text.now).
    let below : frame.argument.environment < length lower = here.below some in
    sym (argument_of-over (level_of frame ∷ lower) frames frame.argument.environment (omega arith)
    ∙ argument_of-under lower (level_of frame) frame.argument.environment below))
argument_of-frame web lower (frame ∷ frames) (suc index) number other all within is =
    argument_of-frame web (level_of frame ∷ lower) frames index number other all (omega arith) (omega arith)

-- what is left of a level that is finished, or is not
finished-parts : (tokens : List Tok) (given : Flat) (text : List Tok) (section : Option ℕ) (pieces : List Piece)
    (rest : Flat)
    → ((length text == 0) && (is_none section && (length pieces == 0))) ≡ true
    → text_before given text (mark_before section (pieces_with given (pascal_texts_at tokens pieces) rest)) ≡ rest
finished-parts tokens given [] None [] rest is = refl
finished-parts tokens given [] None (piece ∷ pieces) rest is =
    absurd (omega (arith, eqb-true (length (piece ∷ pieces)) 0 is))
finished-parts tokens given [] (Some number) pieces rest is = absurd (cc)
finished-parts tokens given (head ∷ text) section pieces rest is =
    absurd (omega (
      arith,
      eqb-true (length (head ∷ text)) 0 (and_parts (length (head ∷ text) == 0) (is_none section
          && (length pieces == 0)) is).0,
    ))

pub finished : (tokens : List Tok) (given : Flat) (level : Level) (rest : Flat) → is_finished level ≡ true
    → level_before tokens given level rest ≡ rest
finished tokens given level rest is = finished-parts tokens given level.text level.section level.pieces rest is

pub record StartsWithin (list : Flat) : Type 0 where
  pub none : ends_in_front list ≡ 0
  pub same : behind_ends list ≡ list

unfinished-parts : (tokens : List Tok) (given : Flat) (text : List Tok) (section : Option ℕ) (pieces : List Piece)
    (rest : Flat)
    → ((length text == 0) && (is_none section && (length pieces == 0))) ≡ false
    → StartsWithin (text_before given text (mark_before section (pieces_with given (pascal_texts_at tokens pieces)
    rest)))
unfinished-parts tokens given [] None [] rest is = absurd (cc)
unfinished-parts tokens given [] None (piece ∷ pieces) rest is = record { none = refl; same = refl }
unfinished-parts tokens given [] (Some number) pieces rest is = record { none = refl; same = refl }
unfinished-parts tokens given (tok.Param ∷ text) section pieces rest is = record { none = refl; same = refl }
unfinished-parts tokens given (head ∷ text) section pieces rest is = record { none = refl; same = refl }

pub unfinished : (tokens : List Tok) (given : Flat) (level : Level) (rest : Flat) → is_finished level ≡ false
    → StartsWithin (level_before tokens given level rest)
unfinished tokens given level rest is = unfinished-parts tokens given level.text level.section level.pieces rest is
