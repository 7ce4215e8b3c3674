-- What the removal of a head answers, beside the definition.
use Rattle.std.specs.Prelude.{◌≡◌, ◌-◌, ◌≤◌, List, take, length, Option, Result, Ok, Err, IfSome, ⊤}
use Rattle.std.specs.Option.{option_map}
use Rattle.web_scan.specs.Lawful.{IsLawful}
use Rattle.macro_expand.specs.declared.items.Item.{Item}
use Rattle.macro_expand.specs.declared.limits.TheConstants.{LEVEL_LIMIT}
use Rattle.macro_expand.specs.declared.refusals.ExpandErr.{ExpandErr}
use Rattle.macro_expand.specs.declared.stack.Stack.{Stack}
use Rattle.macro_expand.specs.Expansion.{Removal}
use Rattle.macro_expand.specs.Flat.{Flat}
use Rattle.macro_expand.specs.Foldable.{IsFoldable}
use Rattle.macro_expand.specs.Items.{item_of}
use Rattle.macro_expand.specs.inner.Levels.{Level, levels_of, list_of, AreLevels}

-- the levels below the topmost
abbrev pub lower_levels : Stack → List Level
lower_levels stack = levels_of (take (length stack.frames.items - 1) stack.frames.items)

-- the flat list that a stack stands for
abbrev pub list_left : Stack → Flat
list_left stack = list_of stack.web.now.tokens (levels_of stack.frames.items)

-- the web is lawful, the levels of a stack are levels of it, and they are not too many
pub record IsSound (stack : Stack) : Type 0 where
  pub lawful : IsLawful stack.web.now
  pub levels : AreLevels stack.web.now (levels_of stack.frames.items)
  pub few : length stack.frames.items ≤ LEVEL_LIMIT

-- the item, if there is one, and the stack are what the removal gives; or the refusal is
abbrev pub Answers : Result Removal ExpandErr → Result (Option Item) ExpandErr → Stack → Type 0
Answers removal (Ok item) stack =
    removal ≡ Ok (record { item = option_map item_of item; steps = stack.steps; list = list_left stack })
Answers removal (Err refusal) stack = removal ≡ Err refusal

-- the item can be folded
abbrev pub GivesFoldable : Result (Option Item) ExpandErr → Type 0
GivesFoldable (Ok item) = IfSome item (λ item. IsFoldable (item_of item))
GivesFoldable (Err refusal) = ⊤
