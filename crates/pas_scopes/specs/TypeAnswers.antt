-- What functions on type expressions answer.
use Rattle.std.specs.Prelude.{◌≡◌, ℕ, if◌then◌else◌, List, [], ◌∷◌, codes, Some, Result, Ok, Err}
use Rattle.std.specs.Str.{bytes_eq}
use Rattle.wb_base.specs.declared.faults.TheConstants.{REAL_NUMBERS, UNKNOWN_NAME}
use Rattle.pas_tokens.specs.Cutting.{Wrong, wrong}
use Rattle.pas_syntax.specs.Parse.{left_out}
use Rattle.pas_syntax.specs.Words.{Word}
use Rattle.pas_typed.specs.declared.types.Range.{Range}
use Rattle.pas_typed.specs.TypeViews.{range_view}
use Rattle.pas_scopes.specs.declared.constants.Ordinal.{Ordinal}
use Rattle.pas_scopes.specs.declared.judged.Judged.{Judged as CodeJudged}
use Rattle.pas_scopes.specs.declared.stop.Stop.{Stop}
use Rattle.pas_typed.specs.Types.{file, Table, range_of, Made, made}
use Rattle.pas_rules.specs.Marks.{Judged, judged, known, noted}
use Rattle.pas_rules.specs.TypeForms.{fits_below, range_between, component_only}
use Rattle.pas_scopes.specs.Stopping.{shown_in}
use Rattle.pas_scopes.specs.Answers.{end_in, EndsAs, StopsBy, Means}
use Rattle.pas_scopes.specs.Constants.{ordinal_view}

-- what is answered of a part of which the last word may yet show more. What shows why checking stops is told where
-- this holds
abbrev pub AnswersIf : {X A : Type 0} → Type 0 → List Word → Judged A → (X → A) → Result (CodeJudged X) Stop → Type 0
AnswersIf Clear words part view (Ok found) = EndsAs words part (view found.value) (end_in found.end)
AnswersIf Clear words part view (Err why) = Clear → StopsBy words part why

-- what a name shows that stands for nothing, where a type is needed
abbrev pub no_type_by : List ℕ → ℕ → Stop
no_type_by name line =
    if bytes_eq name (codes "real") then shown_in line (left_out REAL_NUMBERS) else shown_in line (wrong UNKNOWN_NAME)

-- why a word in this line shows its only fault
abbrev pub IsShown : ℕ → List Wrong → Stop → Type 0
IsShown line (found ∷ []) why = why ≡ shown_in line found
IsShown line faults why = ⊥

-- the range between two bounds, or what the second one shows
abbrev pub IsRange : Ordinal → Ordinal → Result Range Stop → Type 0
IsRange low high (Ok range) =
    (fits_below (Some (ordinal_view low)) (ordinal_view high) ≡ [])
    × (range_view range ≡ range_between (ordinal_view low) (ordinal_view high))
IsRange low high (Err why) = IsShown high.line (fits_below (Some (ordinal_view low)) (ordinal_view high)) why

-- a file of the components of a part, which must be fit for it
abbrev pub file_part : Judged Made → Judged Made
file_part part =
    let component = noted component_only part in
    judged component.marks (known (λ found. made found.table (file found.type)) component.value)

-- an index of an array: its range, with this table behind it
abbrev pub IsIndex : Type 0 → List Word → Judged Made → Table → Result Range Stop → Type 0
IsIndex Clear words part table (Ok range) =
    (index : Made) × (index.table ≡ table) × (range_of table index.type ≡ Some (range_view range))
    × Means words part index
IsIndex Clear words part table (Err why) = Clear → StopsBy words part why
