-- What functions on array, record and file types answer.
use Rattle.std.specs.Prelude.{◌≡◌, ⊤, ℕ, List, [], ◌∷◌, map, length, take, Option, Some, None, Result, Ok, Err}
use Rattle.wb_base.specs.declared.faults.Fault.{Fault}
use Rattle.pas_syntax.specs.declared.tree.RecordForm as code_record
use Rattle.pas_syntax.specs.declared.tree.TypeForm.TheViews.{out-RecordForm}
use Rattle.pas_syntax.specs.Tree.{Idents, Fields}
use Rattle.pas_syntax.specs.Words.{Word}
use Rattle.pas_syntax.specs.inner.TypeViews as seen
use Rattle.pas_typed.specs.declared.types.Range.{Range as CodeRange}
use Rattle.pas_typed.specs.declared.types.Field.{Field as CodeField}
use Rattle.pas_typed.specs.declared.types.Structure.{Structure}
use Rattle.pas_typed.specs.Types.{Table, Made}
use Rattle.pas_typed.specs.TypeViews.{range_view, field_view}
use Rattle.pas_scopes.specs.declared.stop.Stop.{Stop}
use Rattle.pas_scopes.specs.declared.stop.Stop.TheVariants as stop
use Rattle.pas_scopes.specs.declared.judged.Judged.{Judged as CodeJudged}
use Rattle.pas_rules.specs.Marks.{quiet, joined, Judged, judged, noted}
use Rattle.pas_rules.specs.Scopes.{new_names}
use Rattle.pas_rules.specs.TypeForms.{Indexes, Group, no_file}
use Rattle.pas_scopes.specs.Answers.{end_in, EndsAs, StopsBy, FailsBy, Means}
use Rattle.pas_scopes.specs.Constants.{IsUnknownBy}

-- what is answered of a part that stands before a word, which shows nothing because of it. What shows why checking
-- stops is told where this holds
abbrev pub SettlesIf : {X A : Type 0} → Type 0 → List Word → Judged A → (X → A) → Result X Stop → Type 0
SettlesIf Clear words part view (Ok found) = Means words part (view found)
SettlesIf Clear words part view (Err why) = Clear → FailsBy words part.marks why

-- the ranges of indexes, with this table behind them
abbrev pub indexes_view : Table → List CodeRange → Indexes
indexes_view table ranges = record { ranges = map range_view ranges; table = table }

-- the fields of a record, with this table behind them
abbrev pub fields_view : List ℕ → Table → List CodeField → Group
fields_view spellings table fields = record { fields = map (field_view spellings) fields; table = table }

-- the fields of one type, where these names are taken
abbrev pub group_part : List (List ℕ) → Idents → Judged Made → Judged Made
group_part taken idents form =
    let part = noted no_file form in
    judged (joined (new_names taken idents ∷ quiet ∷ part.marks ∷ [])) part.value

-- the fields of a record as the definition has them
abbrev pub fields_in : List ℕ → code_record.RecordForm → Fields
fields_in spellings form =
    (seen.fields_in spellings (out-RecordForm form).first (out-RecordForm form).more None).fields

-- a part of which nothing is known where checking stops in it
abbrev pub IsUnknownIf : {X A : Type 0} → Judged A → Result X Stop → Type 0
IsUnknownIf part (Ok found) = ⊤
IsUnknownIf part (Err why) = IsUnknownBy part why

-- what is known of a part, whatever it shows
abbrev pub Knows : {X A : Type 0} → Judged A → (X → A) → Result X Stop → Type 0
Knows part view (Ok found) = part.value ≡ Some (view found)
Knows part view (Err why) = IsUnknownBy part why

-- why checking stops, behind a fault that is noted or not
abbrev pub first_told : Option Fault → Stop → Stop
first_told None why = why
first_told (Some fault) stop.OutOfMemory = stop.OutOfMemory
first_told (Some fault) why = stop.Fault fault

-- what is answered of a part of which the last word may yet show more, where a fault in it is noted or not
abbrev pub FoundIf : {X A : Type 0} → Type 0 → List Word → Judged A → (X → A) → Option Fault
    → Result (CodeJudged X) Stop → Type 0
FoundIf Clear words part view None (Ok found) = EndsAs words part (view found.value) (end_in found.end)
FoundIf Clear words part view (Some fault) (Ok found) = Clear → StopsBy words part (stop.Fault fault)
FoundIf Clear words part view noted (Err why) = Clear → StopsBy words part (first_told noted why)

-- the same of a part that stands before a word
abbrev pub SettledIf : {X A : Type 0} → Type 0 → List Word → Judged A → (X → A) → Option Fault → Result X Stop
    → Type 0
SettledIf Clear words part view None (Ok found) = Means words part (view found)
SettledIf Clear words part view (Some fault) (Ok found) = Clear → FailsBy words part.marks (stop.Fault fault)
SettledIf Clear words part view noted (Err why) = Clear → FailsBy words part.marks (first_told noted why)

-- a table of the code that another one begins with
abbrev pub Grows : List Structure → List Structure → Type 0
Grows old new = take (length old) new ≡ old
