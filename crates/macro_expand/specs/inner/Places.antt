-- Places in the stack, and the argument that is taken at one.
use Rattle.std.specs.Prelude.{ℕ, suc, ◌≡◌, ◌≤◌, ◌==◌, ◌&&◌, if◌then◌else◌, List, [], ◌∷◌, length, take, Option}
use Rattle.std.specs.Prelude.{Some, None}
use Rattle.std.specs.Option.{option_map}
use Rattle.wb_base.specs.declared.tokens.Tok.{Tok}
use Rattle.web_scan.specs.Lawful.{IsTextOf}
use Rattle.web_scan.specs.Scanned.{Scanned}
use Rattle.macro_expand.specs.declared.arguments.Place.{Place}
use Rattle.macro_expand.specs.declared.frames.Argument.{Argument}
use Rattle.macro_expand.specs.declared.frames.Frame.{Frame}
use Rattle.macro_expand.specs.Expansion.{replaced, with_argument}
use Rattle.macro_expand.specs.Flat.{nothing, ends, text_before, is_closing, depth_behind}
use Rattle.macro_expand.specs.inner.Levels.{Level, level_of, levels_of, list_of, argument_of, AreLevels}

-- how many tokens stand before the `)` that closes a text, in which so many parentheses are open
abbrev pub closing_place : ℕ → List Tok → Option ℕ
closing_place depth [] = None
closing_place depth (head ∷ text) =
    if is_closing head && depth == 0 then Some 0 else option_map suc (closing_place (depth_behind depth head) text)

-- the levels up to a place, where these frames lie below it
abbrev pub levels_at : Place → List Frame → List Level
levels_at place lower = level_of place.top ∷ levels_of (take place.level lower)

-- the argument that is taken at a place over these levels, and the place behind it
pub record IsTaken (web : Scanned) (lower : List Level) (place : Place) (argument : Argument) (after : Place) :
    Type 0 where
  pub list : (text : List Tok) → with_argument text place.steps (list_of web.tokens (level_of place.top ∷ lower))
      ≡ replaced after.steps
      (text_before (text_before (argument_of (level_of after.top ∷ lower) argument.environment) argument.text.now
      nothing) text
      (ends (list_of web.tokens (level_of after.top ∷ lower))))
  pub levels : AreLevels web (level_of after.top ∷ lower)
  pub text : IsTextOf web argument.text.now
  pub environment : argument.environment ≤ length lower
  pub level : after.level ≡ place.level
