-- A list of parts with a word before each, behind a name: what functions answer that look at one after another.
use Rattle.std.specs.Prelude.{◌≡◌, ℕ, false, List, [], ◌∷◌, ◌++◌, map, Option, Some, None, Result, Ok, Err}
use Rattle.wb_base.specs.declared.faults.TheConstants.{WRONG_TYPE}
use Rattle.pas_tokens.specs.Cutting.{Wrong, wrong}
use Rattle.pas_tokens.specs.declared.kinds.Kind.TheVariants as k
use Rattle.pas_syntax.specs.declared.tree.Argument.{Argument as CodeArgument}
use Rattle.pas_syntax.specs.declared.tree.Behind.{Behind as CodeBehind}
use Rattle.pas_syntax.specs.ProgramViews.{argument_in}
use Rattle.pas_syntax.specs.Words.{Word, at, argument_words}
use Rattle.pas_scopes.specs.declared.stop.Stop.{Stop}
use Rattle.pas_rules.specs.Marks.{Marks, no_token, quiet, shows, followed, lowest, Judged, all_known}
use Rattle.pas_rules.specs.Scopes.{Scopes}
use Rattle.pas_rules.specs.Calls.{Actual, actual_of}
use Rattle.pas_scopes.specs.Answers.{IsQuiet, FailsBy}

-- a part, its words, and the word before it
pub record Item (B : Type 0) : Type 0 where
  pub before : Word
  pub words : List Word
  pub part : Judged B

abbrev pub item_words : {B : Type 0} → List (Item B) → List Word
item_words [] = []
item_words (item ∷ items) = item.before ∷ (item.words ++ item_words items)

abbrev pub behind_items : {B : Type 0} → List (Item B) → Marks
behind_items [] = no_token
behind_items (item ∷ items) = followed quiet (followed item.part.marks (behind_items items))

-- a name, and the items behind it
abbrev pub items_marks : {B : Type 0} → List (Item B) → Marks
items_marks items = followed quiet (behind_items items)

abbrev pub values_of : {B : Type 0} → List (Item B) → Option (List B)
values_of items = all_known (map (λ item. item.part.value) items)

-- the whole, with the word that closes it
abbrev pub closed_marks : Marks → List Wrong → Marks
closed_marks part faults = followed part (shows faults)

-- the code's arguments as items, each looked at so
module _ {B : Type 0} (scopes : Scopes) (spellings : List ℕ) (n : ℕ) (look : Actual → Judged B) where
  abbrev pub item_at : Word → CodeArgument → Item B
  item_at before argument = record {
    before = before;
    words = argument_words n (argument_in spellings argument);
    part = look (actual_of scopes (argument_in spellings argument));
  }

  abbrev pub item_behind : CodeBehind CodeArgument → Item B
  item_behind behind = item_at (at n k.Comma behind.line) behind.item

  abbrev pub items_behind : List (CodeBehind CodeArgument) → List (Item B)
  items_behind more = map item_behind more

-- the line of the word behind an argument: that of the next comma, or of the parenthesis
abbrev pub line_behind : ℕ → Option (CodeBehind CodeArgument) → ℕ
line_behind closed None = closed
line_behind closed (Some behind) = behind.line

-- what was found behind other values, in items that show no fault, behind a name and a first one
pub record Gathered {X B : Type 0} (view : X → B) (before : List B) (name : Word) (first : Item B)
    (items : List (Item B)) (found : List X) : Type 0 where
  pub still : IsQuiet (name ∷ item_words (first ∷ items)) (items_marks (first ∷ items)) false
  pub values : List B
  pub known : values_of items ≡ Some values
  pub same : map view found ≡ before ++ values

-- why checking stops in such items, which a word closes that shows no lower fault than that something is missing
abbrev pub FailsWithin : {B : Type 0} → Word → Item B → List (Item B) → Word → Stop → Type 0
FailsWithin name first items closed why =
    (faults : List Wrong) → lowest (wrong WRONG_TYPE) faults ≡ wrong WRONG_TYPE
    → FailsBy ((name ∷ item_words (first ∷ items)) ++ closed ∷ []) (closed_marks (items_marks (first ∷ items)) faults)
    why

-- what is answered of items behind a first one, which shows no fault
abbrev pub Gathers : {X B : Type 0} → (X → B) → List B → List (Item B) → Word → Result (List X) Stop → Type 0
Gathers view before items closed (Ok found) =
    (name : Word) (first : Item _) → IsQuiet (name ∷ item_words (first ∷ [])) (items_marks (first ∷ [])) false
    → Gathered view before name first items found
Gathers view before items closed (Err why) =
    (name : Word) (first : Item _) → IsQuiet (name ∷ item_words (first ∷ [])) (items_marks (first ∷ [])) false
    → FailsWithin name first items closed why
