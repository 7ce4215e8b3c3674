-- The stack after a removal.
use Rattle.std.proofs.Common.{◌≡◌, ℕ, ◌+◌, ◌-◌, ◌<◌, ◌≤◌, Bool, if◌then◌else◌, get_or}
use Rattle.std.proofs.Common.{take, drop, List, [], ◌∷◌, ◌++◌, length, None}
use Rattle.std.proofs.Common.{Result, Ok, Err, refl, sym, ap, ◌∙◌, subst, arith, Option, All}
use Rattle.std.proofs.lemmas.Bool.{lt-ltb, le-ltb}
use Rattle.std.proofs.lemmas.List.{length-take-le, take_all, take_at, take_more_set}
use Rattle.std.specs.List.{refill}
use Rattle.std.proofs.Math.ListN.{set, length-set}
use Rattle.macro_expand.specs.Items.{Expanded}
use Rattle.wb_base.specs.declared.tokens.Tok.{Tok}
use Rattle.web_scan.specs.Scanned.{Scanned}
use Rattle.macro_expand.specs.declared.frames.Frame.{Frame}
use Rattle.macro_expand.specs.declared.limits.TheConstants.{LEVEL_LIMIT}
use Rattle.macro_expand.specs.declared.refusals.ExpandErr.TheVariants.{Levels, NotPresent}
use Rattle.macro_expand.specs.Expansion.{Removal, gives, replaced, token_removed, section, with_argument}
use Rattle.macro_expand.specs.Expansion.{head_removed, removal}
use Rattle.macro_expand.proofs.ExpansionLemmas.{removal-head}
use Rattle.macro_expand.specs.Flat.{Flat, nothing, ends, levels, text_before, followed_by, pieces_before}
use Rattle.macro_expand.specs.inner.Levels.{Level, level_of, levels_of, list_of, argument_of, pieces_with, IsLevel}
use Rattle.macro_expand.specs.inner.Levels.{AreLevels, HaveSameArgument}
use Rattle.macro_expand.proofs.LevelsLemmas.{argument_of-frame, argument_of-same, levels_of-last, levels_over-push}
use Rattle.macro_expand.proofs.LevelsLemmas.{length-levels_of, levels-list_of, argument_of-top, argument_of-under}
use Rattle.macro_expand.proofs.HeadLemmas.{IsRest-text}
use Rattle.macro_expand.proofs.FlatLemmas.{followed_by-text_before, pieces_with-nothing}
use Rattle.macro_expand.specs.inner.Answers.{Answers}
use Rattle.macro_expand.specs.inner.Places.{levels_at}
use Rattle.macro_expand.specs.declared.arguments.Place.{Place}
use Rattle.macro_expand.specs.declared.items.Item.{Item}
use Rattle.macro_expand.specs.declared.stack.Stack.{Stack}
use Rattle.macro_expand.specs.declared.refusals.ExpandErr.{ExpandErr}
use Rattle.web_scan.specs.declared.pieces.Piece.{Piece}
use Rattle.web_scan.specs.Lawful.{IsTokenOf, IsTextOf, IsPascalTextOf}
use Rattle.web_scan.specs.Pieces.{pascal_texts_at, IsPieceWithin}
use Rattle.std.proofs.lemmas.List.Elements.{All-nil}

-- a list of few levels may stand for a replacement
pub replaced-few : (tokens : List Tok) (steps : ℕ) (all : List Level) → length all ≤ LEVEL_LIMIT
    → replaced steps (list_of tokens all) ≡ gives None steps (list_of tokens all)
replaced-few tokens steps all few =
    ap (λ (b : Bool). if b then Err Levels else gives None steps (list_of tokens all))
    (le-ltb LEVEL_LIMIT (levels (list_of tokens all)) (omega (arith, levels-list_of tokens all)))

pub replaced-many : (tokens : List Tok) (steps : ℕ) (all : List Level) → LEVEL_LIMIT < length all
    → replaced steps (list_of tokens all) ≡ Err Levels
replaced-many tokens steps all many =
    ap (λ (b : Bool). if b then Err Levels else gives None steps (list_of tokens all))
    (lt-ltb LEVEL_LIMIT (levels (list_of tokens all)) (omega (arith, levels-list_of tokens all)))

-- one level put over those up to a place
pub levels_of-put : (frames : List Frame) (top : Frame) (after : List Frame) → after ≡ frames ++ top ∷ []
    → levels_of after ≡ level_of top ∷ levels_of frames
levels_of-put frames top after is = ap levels_of is ∙ levels_over-push [] frames top

-- two levels put over those below a place
pub levels_of-opened : (frames : List Frame) (top opened : Frame) (after : List Frame)
    → after ≡ (frames ++ top ∷ []) ++ opened ∷ []
    → levels_of after ≡ level_of opened ∷ level_of top ∷ levels_of frames
levels_of-opened frames top opened after is =
    levels_of-put (frames ++ top ∷ []) opened after is ∙ ap (λ lower. level_of opened ∷ lower) (levels_over-push []
    frames top)

-- a level is opened, or is one too many
pub opens_level : (tokens : List Tok) (steps level : ℕ) (items : List Frame) (top opened : Frame) (after : List
    Frame) → level ≤ length items
    → level + 1 < LEVEL_LIMIT → after ≡ (take level items ++ top ∷ []) ++ opened ∷ []
    → replaced steps (list_of tokens (level_of opened ∷ level_of top ∷ levels_of (take level items)))
    ≡ gives None steps (list_of tokens (levels_of after))
opens_level tokens steps level items top opened after within few is =
    let frames = take level items in
    let long : length frames ≡ level = length-take-le level items within in
    let count : length (levels_of frames) ≡ length frames = length-levels_of frames in
    replaced-few tokens steps (level_of opened ∷ level_of top ∷ levels_of frames) (omega arith)
    ∙ ap (λ all. gives None steps (list_of tokens all)) (sym (levels_of-opened frames top opened after is))

pub one_too_many : (tokens : List Tok) (steps level : ℕ) (items : List Frame) (top opened : Level)
    → level ≤ length items → level + 1 ≡ LEVEL_LIMIT
    → replaced steps (list_of tokens (opened ∷ top ∷ levels_of (take level items))) ≡ Err Levels
one_too_many tokens steps level items top opened within many =
    let frames = take level items in
    let long : length frames ≡ level = length-take-le level items within in
    let count : length (levels_of frames) ≡ length frames = length-levels_of frames in
    replaced-many tokens steps (opened ∷ top ∷ levels_of frames) (omega arith)

pub AreLevels-as : (web : Scanned) (all other : List Level) → all ≡ other → AreLevels web other → AreLevels web all
AreLevels-as web all other is levels = let P : List Level → Type 0 = λ levels. AreLevels web levels in subst P (sym
    is) levels

-- a removal that is the same is answered alike
pub Answers-as : (removal other : Result Removal ExpandErr) (result : Result (Option Item) ExpandErr) (stack :
    Stack) → other ≡ removal
    → Answers removal result stack → Answers other result stack
Answers-as removal other result stack is answers =
    let P : Result Removal ExpandErr → Type 0 = λ removal. Answers removal result stack in subst P (sym is) answers

-- the level of the text of a macro
abbrev pub macro_level : List Tok → ℕ → List Tok → ℕ → Level
macro_level text number argument meant =
    record { text = text; section = None; pieces = []; environment = number; argument = argument; meant = meant }

pub IsLevel-macro : (web : Scanned) (number : ℕ) (text argument : List Tok) (meant : ℕ) → IsTextOf web text
    → IsTextOf web argument
    → meant ≤ number → (0 < length argument → meant < number)
    → IsLevel web number (macro_level text number argument meant)
IsLevel-macro web number text argument meant of_web argument_of_web low below = record {
  text = IsRest-text web text of_web;
  within = All-nil (IsPieceWithin (length web.tokens));
  pieces = All-nil (IsPascalTextOf web);
  environment = omega arith;
  argument = argument_of_web;
  meant = low;
  below = below;
}

-- what the text of a macro gives
pub list_of-macro : (tokens text argument : List Tok) (number meant : ℕ) (lower : List Level)
    → number ≡ length lower
    → list_of tokens (macro_level text number argument meant ∷ lower)
    ≡ text_before (text_before (argument_of lower meant) argument nothing) text (ends (list_of tokens lower))
list_of-macro tokens text argument number meant lower is =
    ap (λ given. text_before given text (ends (list_of tokens lower))) (argument_of-top lower (macro_level text
    number argument meant) number is)

-- the level of an argument
pub IsLevel-argument : (web : Scanned) (number : ℕ) (text : List Tok) (meant : ℕ) → IsTextOf web text
    → meant ≤ number
    → IsLevel web number (macro_level text meant [] 0)
IsLevel-argument web number text meant of_web below = record {
  text = IsRest-text web text of_web;
  within = All-nil (IsPieceWithin (length web.tokens));
  pieces = All-nil (IsPascalTextOf web);
  environment = below;
  argument = record { tokens = All-nil (IsTokenOf web); balanced = refl };
  meant = omega arith;
  below = λ some. absurd (omega arith);
}

-- what an argument gives
pub list_of-argument : (tokens text : List Tok) (meant : ℕ) (lower : List Level) → meant < length lower
    → list_of tokens (macro_level text meant [] 0 ∷ lower)
    ≡ followed_by (text_before (argument_of lower meant) text nothing) (ends (list_of tokens lower))
list_of-argument tokens text meant lower under =
    ap (λ given. text_before given text (ends (list_of tokens lower))) (argument_of-under lower (macro_level text
    meant [] 0) meant under)
    ∙ sym (followed_by-text_before (argument_of lower meant) text (ends (list_of tokens lower)))

-- the level of the pieces of a section
abbrev pub section_level : List Piece → ℕ → Level
section_level pieces number =
    record { text = []; section = None; pieces = pieces; environment = number; argument = []; meant = 0 }

pub IsLevel-section : (web : Scanned) (number : ℕ) (pieces : List Piece)
    → All (IsPieceWithin (length web.tokens)) pieces
    → All (IsPascalTextOf web) (pascal_texts_at web.tokens pieces)
    → IsLevel web number (section_level pieces number)
IsLevel-section web number pieces within texts = record {
  text = IsRest-text web [] (record { tokens = All-nil (IsTokenOf web); balanced = refl });
  within = within;
  pieces = texts;
  environment = omega arith;
  argument = record { tokens = All-nil (IsTokenOf web); balanced = refl };
  meant = omega arith;
  below = λ some. absurd (omega arith);
}

-- what the pieces of a section give
pub list_of-section : (tokens : List Tok) (pieces : List Piece) (number : ℕ) (lower : List Level)
    → number ≡ length lower
    → list_of tokens (section_level pieces number ∷ lower)
    ≡ pieces_before (pascal_texts_at tokens pieces) (ends (list_of tokens lower))
list_of-section tokens pieces number lower is =
    ap (λ given. pieces_with given (pascal_texts_at tokens pieces) (ends (list_of tokens lower)))
    (argument_of-top lower (section_level pieces number) number is)
    ∙ pieces_with-nothing (pascal_texts_at tokens pieces) (ends (list_of tokens lower))

-- the argument that a parameter of the topmost level stands for
pub argument_of-topmost : (web : Scanned) (items : List Frame) (last other : Frame) (top : Level) (environment : ℕ)
    → AreLevels web (levels_of items)
    → environment < length items → HaveSameArgument (level_of (get_or items (length items - 1) last)) top
    → argument_of (top ∷ levels_of (take (length items - 1) items)) environment
    ≡ text_before (argument_of (top ∷ levels_of (take (length items - 1) items)) (get_or items environment
    other).argument.environment)
    (get_or items environment other).argument.text.now nothing
argument_of-topmost web items last other top environment all within same =
    let lower = levels_of (take (length items - 1) items) in
    let old = level_of (get_or items (length items - 1) last) in
    let parts : levels_of items ≡ old ∷ lower = levels_of-last items last (length items - 1) (omega arith) in
    let at : (number : ℕ) → argument_of (top ∷ lower) number ≡ argument_of (levels_of items) number =
    λ number. sym (ap (λ levels. argument_of levels number) parts ∙ argument_of-same lower old top number same) in
    let found = get_or items environment other in
    at environment ∙ argument_of-frame web [] items environment environment other all within (omega arith)
    ∙ ap (λ given. text_before given found.argument.text.now nothing) (sym (at found.argument.environment))

-- a section without pieces, and one with some
pub section-none : (steps : ℕ) (list : Flat) (tokens : List Tok) (pieces : List Piece) → length pieces ≡ 0
    → token_removed steps list (section (pascal_texts_at tokens pieces)) ≡ Err NotPresent
section-none steps list tokens [] none = refl
section-none steps list tokens (piece ∷ pieces) none = absurd (omega arith)

pub section-some : (steps : ℕ) (list : Flat) (tokens : List Tok) (pieces : List Piece) → 0 < length pieces
    → token_removed steps list (section (pascal_texts_at tokens pieces))
    ≡ replaced steps (pieces_before (pascal_texts_at tokens pieces) (ends list))
section-some steps list tokens [] some = absurd (omega arith)
section-some steps list tokens (piece ∷ pieces) some = refl

-- the same levels and steps
pub replaced-as : (tokens : List Tok) (steps steps' : ℕ) (opened opened' : Level) (lower lower' : List Level)
    → opened' ≡ opened → lower' ≡ lower
    → steps' ≡ steps → replaced steps (list_of tokens (opened ∷ lower))
    ≡ replaced steps' (list_of tokens (opened' ∷ lower'))
replaced-as tokens steps steps' opened opened' lower lower' same_top same_lower same_steps =
    sym (ap (λ steps. replaced steps (list_of tokens (opened' ∷ lower'))) same_steps
    ∙ ap (λ top. replaced steps (list_of tokens (top ∷ lower'))) same_top
    ∙ ap (λ lower. replaced steps (list_of tokens (opened ∷ lower))) same_lower)

pub AreLevels-opened : (web : Scanned) (number : ℕ) (opened opened' : Level) (lower lower' : List Level)
    → opened' ≡ opened → lower' ≡ lower
    → number ≡ length lower → IsLevel web number opened → AreLevels web lower → AreLevels web (opened' ∷ lower')
AreLevels-opened web number opened opened' lower lower' same_top same_lower same_number is all =
    AreLevels-as web (opened' ∷ lower') (opened ∷ lower) (ap (λ top. top ∷ lower') same_top
    ∙ ap (λ lower. opened ∷ lower) same_lower)
    (subst (λ number. IsLevel web number opened) same_number is, all)

-- the argument is sought at a place
pub sought_at : (tokens text : List Tok) (steps : ℕ) (lower : List Level) (place : Place) (items frames : List
    Frame) → levels_at place items ≡ lower
    → place.steps ≡ steps → frames ≡ items
    → with_argument text steps (list_of tokens lower) ≡ with_argument text place.steps (list_of tokens (levels_at
    place frames))
sought_at tokens text steps lower place items frames same_levels same_steps same_items =
    sym (ap (λ frames. with_argument text place.steps (list_of tokens (levels_at place frames))) same_items
    ∙ ap (λ levels. with_argument text place.steps (list_of tokens levels)) same_levels
    ∙ ap (λ steps. with_argument text steps (list_of tokens lower)) same_steps)

-- an item is given
pub gives-as : (item : Option Expanded) (steps steps' : ℕ) (list list' : Flat) → steps' ≡ steps → list' ≡ list
    → gives item steps list ≡ Ok (record { item = item; steps = steps'; list = list' })
gives-as item steps steps' list list' same_steps same_list =
    sym (ap (λ steps. gives item steps list') same_steps ∙ ap (gives item steps) same_list)

-- the last of the frames is another
pub levels_of-set : (items : List Frame) (top : Frame) (last : ℕ) → last + 1 ≡ length items
    → levels_of (set items last top) ≡ level_of top ∷ levels_of (take last items)
levels_of-set items top last is =
    let whole : take (last + 1) (set items last top) ≡ set items last top = take_all (last + 1) (set items last
    top) (omega (arith, length-set {A = Frame})) in
    levels_of-put (take last items) top (set items last top) (sym whole
    ∙ take_more_set items last top (omega arith))

pub AreLevels-below : (web : Scanned) (items : List Frame) (frame : Frame) (last : ℕ) → last + 1 ≡ length items
    → AreLevels web (levels_of items)
    → AreLevels web (levels_of (take last items))
AreLevels-below web items frame last is all =
    let P : List Level → Type 0 = λ levels. AreLevels web levels in (subst P (levels_of-last items frame last is)
    all).1

-- the frames where the last was written
pub put_items : (items written : List Frame) (top : Frame) (count : ℕ) → written ≡ items → count ≡ length items
    → refill (length items) items (set written (count - 1) top) ≡ set items (length items - 1) top
put_items items written top count same all =
    ap (λ written. refill (length items) items (set written (count - 1) top)) same
    ∙ ap (λ count. refill (length items) items (set items (count - 1) top)) all
    ∙ take_at (set items (length items - 1) top) (drop (length (set items (length items - 1) top)) items) (length
    items)
    (length-set items (length items - 1) top)

pub levels_of-put_items : (items written : List Frame) (top : Frame) (count : ℕ) → written ≡ items
    → count ≡ length items → 0 < length items
    → levels_of (refill (length items) items (set written (count - 1) top))
    ≡ level_of top ∷ levels_of (take (length items - 1) items)
levels_of-put_items items written top count same all some =
    ap levels_of (put_items items written top count same all)
    ∙ levels_of-set items top (length items - 1) (omega arith)

-- the topmost level, where the frames are read
pub topmost : (items frames : List Frame) (other : Frame) (count : ℕ) → frames ≡ items → count ≡ length items
    → 0 < length items
    → levels_of items ≡ level_of (get_or frames (count - 1) other) ∷ levels_of (take (length items - 1) items)
topmost items frames other count same all some =
    let lower = levels_of (take (length items - 1) items) in
    levels_of-last items other (length items - 1) (omega arith)
    ∙ sym (ap (λ frames. level_of (get_or frames (count - 1) other) ∷ lower) same
    ∙ ap (λ count. level_of (get_or items (count - 1) other) ∷ lower) all)

-- the removal of the head of the levels
pub removal-of : (web : Scanned) (steps : ℕ) (items : List Frame) (all : List Level) (list : Flat) → 0 < steps
    → levels_of items ≡ all
    → list_of web.tokens all ≡ list → removal web steps (list_of web.tokens (levels_of items))
    ≡ head_removed web (steps - 1) list
removal-of web steps items all list some same is =
    removal-head web steps (list_of web.tokens (levels_of items)) some
    ∙ ap (head_removed web (steps - 1)) (ap (list_of web.tokens) same ∙ is)
