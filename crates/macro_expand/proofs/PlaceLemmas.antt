-- From a level that has ended to the one below it.
use Rattle.std.proofs.Common.{◌≡◌, ℕ, ◌-◌, ◌<◌, ◌≤◌, true, get_or, take, List, [], ◌∷◌, length}
use Rattle.std.proofs.Common.{Err, ap, ◌∙◌, subst, arith}
use Rattle.std.proofs.lemmas.List.{get_or-take, take-take, length-take-le}
use Rattle.wb_base.specs.declared.tokens.Tok.{Tok}
use Rattle.web_scan.specs.Scanned.{Scanned}
use Rattle.macro_expand.specs.declared.frames.Frame.{Frame}
use Rattle.macro_expand.specs.declared.refusals.ExpandErr.TheVariants.{NoParameter, Steps}
use Rattle.macro_expand.specs.Expansion.{with_argument}
use Rattle.macro_expand.specs.Flat.{ends}
use Rattle.macro_expand.specs.inner.Levels.{Level, level_of, levels_of, list_of, argument_of, is_finished}
use Rattle.macro_expand.specs.inner.Levels.{AreLevels}
use Rattle.macro_expand.proofs.LevelsLemmas.{finished, levels_of-last}
use Rattle.macro_expand.proofs.ArgumentLemmas.{with_argument-ends, with_argument-no_step, with_argument-nothing}

-- the topmost of the first levels
pub levels_of-take : (frames : List Frame) (frame : Frame) (level : ℕ) → 0 < level → level ≤ length frames
    → levels_of (take level frames) ≡ level_of (get_or frames (level - 1) frame) ∷ levels_of (take (level - 1)
    frames)
levels_of-take frames frame level some within =
    let long : length (take level frames) ≡ level = length-take-le level frames within in
    levels_of-last (take level frames) frame (level - 1) (omega arith)
    ∙ ap (λ top. level_of top ∷ levels_of (take (level - 1) (take level frames))) (get_or-take level frames (level
    - 1) frame (omega arith))
    ∙ ap (λ lower. level_of (get_or frames (level - 1) frame) ∷ levels_of lower) (take-take (level - 1) level
    frames (omega arith))

-- a finished level ends
pub list_of-finished : (tokens : List Tok) (lower : List Level) (top : Level) → is_finished top ≡ true
    → list_of tokens (top ∷ lower) ≡ ends (list_of tokens lower)
list_of-finished tokens lower top is = finished tokens (argument_of (top ∷ lower) top.environment) top (ends
    (list_of tokens lower)) is

pub ended : (tokens text : List Tok) (steps level : ℕ) (frames : List Frame) (top : Level) (frame : Frame)
    → is_finished top ≡ true
    → 0 < steps → 0 < level → level ≤ length frames
    → with_argument text steps (list_of tokens (top ∷ levels_of (take level frames)))
    ≡ with_argument text (steps - 1) (list_of tokens (level_of (get_or frames (level - 1) frame) ∷ levels_of (take
    (level - 1) frames)))
ended tokens text steps level frames top frame is some higher within =
    ap (with_argument text steps) (list_of-finished tokens (levels_of (take level frames)) top is)
    ∙ with_argument-ends text steps (list_of tokens (levels_of (take level frames))) some
    ∙ ap (λ lower. with_argument text (steps - 1) (list_of tokens lower)) (levels_of-take frames frame level higher
    within)

pub ended-no_step : (tokens text : List Tok) (steps : ℕ) (lower : List Level) (top : Level)
    → is_finished top ≡ true → steps ≡ 0
    → with_argument text steps (list_of tokens (top ∷ lower)) ≡ Err Steps
ended-no_step tokens text steps lower top is none =
    ap (λ steps. with_argument text steps (list_of tokens (top ∷ lower))) none
    ∙ ap (with_argument text 0) (list_of-finished tokens lower top is)
    ∙ with_argument-no_step text (list_of tokens lower)

pub ended-lowest : (tokens text : List Tok) (steps level : ℕ) (frames : List Frame) (top : Level)
    → is_finished top ≡ true → 0 < steps → level ≡ 0
    → with_argument text steps (list_of tokens (top ∷ levels_of (take level frames))) ≡ Err NoParameter
ended-lowest tokens text steps level frames top is some lowest =
    ap (λ level. with_argument text steps (list_of tokens (top ∷ levels_of (take level frames)))) lowest
    ∙ ap (with_argument text steps) (list_of-finished tokens [] top is)
    ∙ with_argument-ends text steps (list_of tokens []) some ∙ with_argument-nothing text (steps - 1)

pub kept : (web : Scanned) (level : ℕ) (frames : List Frame) (top : Level) (frame : Frame) → 0 < level
    → level ≤ length frames
    → AreLevels web (top ∷ levels_of (take level frames))
    → AreLevels web (level_of (get_or frames (level - 1) frame) ∷ levels_of (take (level - 1) frames))
kept web level frames top frame higher within all =
    let P : List Level → Type 0 = λ levels. AreLevels web levels in
    subst P (levels_of-take frames frame level higher within) all.1
