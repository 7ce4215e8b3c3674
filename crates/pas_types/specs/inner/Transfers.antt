-- What functions that check reading and writing answer.
use Rattle.std.specs.Prelude.{◌≡◌, ⊤, ℕ, true, List, [], ◌∷◌, Option, Some, None, option_and_then, map, Result, Ok, Err}
use Rattle.wb_base.specs.declared.faults.TheConstants.{WRONG_TYPE, FILE_RULE}
use Rattle.pas_tokens.specs.Cutting.{Wrong, wrong}
use Rattle.pas_syntax.specs.Tree as tree
use Rattle.pas_syntax.specs.Tree.{Behind, Expr, Quoted}
use Rattle.pas_syntax.specs.declared.tree.Quoted.{Quoted as CodeQuoted}
use Rattle.pas_syntax.specs.declared.tree.Argument.{Argument as CodeArgument}
use Rattle.pas_syntax.specs.declared.tree.Behind.{Behind as CodeBehind}
use Rattle.pas_syntax.specs.Views.{behind_in, quoted_in}
use Rattle.pas_syntax.specs.ProgramViews.{argument_in}
use Rattle.pas_typed.specs.declared.typed.Place as code_place
use Rattle.pas_typed.specs.TypedViews.{place_view}
use Rattle.pas_typed.specs.Typed as typed
use Rattle.pas_typed.specs.Typed.{Slot, Value, Place, Item, Statement}
use Rattle.pas_typed.specs.Texts.{undoubled}
use Rattle.pas_scopes.specs.declared.stop.Stop.{Stop}
use Rattle.pas_scopes.specs.declared.stop.Stop.TheVariants as stop
use Rattle.pas_scopes.specs.declared.stop.Wrong.{Wrong as CodeWrong}
use Rattle.pas_types.specs.declared.transfers.Extent.{Extent as CodeExtent}
use Rattle.pas_types.specs.declared.transfers.Extent.TheVariants as code
use Rattle.pas_scopes.specs.declared.judged.Judged.{Judged as CodeJudged}
use Rattle.pas_typed.specs.Types.{Table, PasType}
use Rattle.pas_syntax.specs.Words.{Word}
use Rattle.pas_scopes.specs.Answers.{end_in, EndsAs}
use Rattle.pas_rules.specs.Marks.{quiet, Judged, judged, known, both, joined, checked}
use Rattle.pas_rules.specs.Scopes.{Scopes, Procedure, read, readln, write, writeln}
use Rattle.pas_rules.specs.Expressions.{Demand, place_in, met}
use Rattle.pas_rules.specs.Calls.{Extent, items_alone, whole_line, no_width, whole_file, Actual, actual_of}
use Rattle.pas_rules.specs.Calls.{component_demand, without_width, item_on_text, width_value, is_text, text_in}
use Rattle.pas_scopes.specs.Stopping.{wrong_in, shown_in}

abbrev pub extent_view : CodeExtent → Extent
extent_view code.ItemsAlone = items_alone
extent_view code.WholeLine = whole_line

-- the procedures that read and write so far
abbrev pub reading : CodeExtent → Procedure
reading code.ItemsAlone = read
reading code.WholeLine = readln

abbrev pub writing : CodeExtent → Procedure
writing code.ItemsAlone = write
writing code.WholeLine = writeln

-- what is made of what was found, unless there is no memory for it
abbrev pub Makes : {X A : Type 0} → (X → A) → A → Result X Stop → Type 0
Makes view made (Ok found) = view found ≡ made
Makes view made (Err why) = why ≡ stop.OutOfMemory

-- the file that is meant where none is named, which the name in this line shows to be none
abbrev pub MeansFile : Option Slot → ℕ → Result code_place.Place Stop → Type 0
MeansFile (Some slot) line (Ok file) = place_view file ≡ typed.slot slot
MeansFile None line (Err why) = why ≡ shown_in line (wrong FILE_RULE)
MeansFile slot line result = ⊥

-- the faults that are one, or none
abbrev pub wrongs_in : Option CodeWrong → List Wrong
wrongs_in None = []
wrongs_in (Some found) = wrong_in found ∷ []

-- a part behind which no width may stand
abbrev pub without_width_behind : {A : Type 0} → Judged A → Option (Judged Value) → Judged A
without_width_behind part width =
    let behind = no_width width in
    judged (joined (part.marks ∷ behind.marks ∷ [])) (both (λ value nothing. value) part.value behind.value)

-- what is refused where no width may stand
abbrev pub width_refused : Option (Behind Expr) → Result (Unit {0}) Stop
width_refused None = Ok tt
width_refused (Some width) = Err (shown_in width.line (wrong WRONG_TYPE))

-- the place that a value is which meets a demand
abbrev pub place_by : Demand → Judged Value → Judged Place
place_by demand part = let found = checked demand part in judged found.marks (option_and_then place_in found.value)

-- the file that a value is, if it is known to be a variable by itself that is one
abbrev pub IsFileAlone : Table → List Word → Judged Value → Option (CodeJudged code_place.Place) → Type 0
IsFileAlone table words part None = option_and_then (whole_file table) part.value ≡ None
IsFileAlone table words part (Some file) =
    (option_and_then (whole_file table) part.value ≡ Some (place_view file.value))
    × EndsAs words part (typed.read (place_view file.value)) (end_in file.end)

abbrev pub NamesFile : Table → List Word → Judged Value → Result (Option (CodeJudged code_place.Place)) Stop → Type 0
NamesFile table words part (Ok file) = IsFileAlone table words part file
NamesFile table words part (Err why) = why ≡ stop.OutOfMemory

-- what is refused by faults of a token in this line
abbrev pub refused_by : ℕ → List Wrong → Result (Unit {0}) Stop
refused_by line [] = Ok tt
refused_by line (found ∷ more) = Err (shown_in line found)

-- the code's arguments behind the first one
abbrev pub behind_actuals : Scopes → List ℕ → List (CodeBehind CodeArgument) → List Actual
behind_actuals scopes spellings more =
    map (λ behind. actual_of scopes behind.item) (map (behind_in (argument_in spellings)) more)

-- what is written as a component, if that is known
abbrev pub component_of_item : Table → Option PasType → Actual → Judged Value
component_of_item table component actual = met (component_demand table component) (without_width actual)

-- an item that is written on a text
abbrev pub item_written : Table → Actual → Judged Item
item_written table actual = item_on_text table actual actual.text

-- writing items on a text, alone or as a line
abbrev pub writes_by : Extent → Place → List Item → Statement
writes_by items_alone file items = typed.writes file items
writes_by whole_line file items = typed.writes_line file items

-- only where items alone are written the file may be no text
abbrev pub IsOnText : Extent → Place → Type 0
IsOnText items_alone file = is_text file ≡ true
IsOnText whole_line file = ⊤

-- a string by itself
abbrev pub text_alone : Quoted → Expr
text_alone quoted = tree.sum (tree.first_term (tree.first_factor (tree.literal_text quoted)))

-- the string of more than one byte that an expression is, if it is one
abbrev pub IsLongText : List ℕ → Expr → Option CodeQuoted → Type 0
IsLongText spellings expr None = text_in expr ≡ None
IsLongText spellings expr (Some quoted) =
    (expr ≡ text_alone (quoted_in spellings quoted))
    × (text_in expr ≡ Some (undoubled (quoted_in spellings quoted).text))

-- a string that is written as one, with its width or without
abbrev pub string_written : Table → List ℕ → Option (Judged Value) → Judged Item
string_written table bytes width =
    let found = width_value table width in
    judged (joined (quiet ∷ found.marks ∷ [])) (known (typed.string_item bytes) found.value)
