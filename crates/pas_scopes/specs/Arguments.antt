-- What functions that check the arguments of a call answer.
use Rattle.std.specs.Prelude.{◌≡◌, ℕ, Bool, true, false, List, [], ◌∷◌, Option, Some, None, option_and_then}
use Rattle.wb_base.specs.declared.faults.TheConstants.{UNKNOWN_NAME, WRONG_TYPE, FILE_RULE}
use Rattle.pas_tokens.specs.Cutting.{Wrong, wrong}
use Rattle.pas_syntax.specs.Words.{Word}
use Rattle.pas_typed.specs.declared.typed.Variable.{Variable as CodeVariable}
use Rattle.pas_typed.specs.TypedViews.{variable_view}
use Rattle.pas_typed.specs.Types.{Table, PasType, text, same_type}
use Rattle.pas_typed.specs.Typed as typed
use Rattle.pas_typed.specs.Typed.{Variable, Value, Passed, FileTest}
use Rattle.pas_scopes.specs.declared.stop.Stop.{Stop}
use Rattle.pas_rules.specs.Marks.{at_first, lowest, Judged, judged, known, checked}
use Rattle.pas_rules.specs.Scopes.{Entity}
use Rattle.pas_rules.specs.Expressions.{Demand, Given, met, asked_nothing, demand_of_mode, passed_by}
use Rattle.pas_rules.specs.Expressions.{demands_of, called, given, passed_to, first_value}
use Rattle.pas_scopes.specs.Stopping.{shown_in}

-- what the first word of a part shows, where the part is one too many
abbrev pub ShowsFirst : List Word → List (List Wrong) → Stop → Type 0
ShowsFirst (word ∷ words) (faults ∷ tokens) why =
    why ≡ shown_in word.token.line (lowest (wrong WRONG_TYPE) faults)
ShowsFirst words tokens why = ⊥

-- what a name shows at the first word of a part that is one too many
abbrev pub first_name_shows : ℕ → Option Entity → Stop
first_name_shows line None = shown_in line (wrong UNKNOWN_NAME)
first_name_shows line (Some entity) = shown_in line (wrong WRONG_TYPE)

-- what takes an argument: the demand on its value, and what is made of that
pub record Taker (B : Type 0) : Type 0 where
  pub demand : Demand
  pub make : Value → B

-- a value by what takes it
abbrev pub taken_as : {B : Type 0} → Taker B → Judged Value → Judged B
taken_as taker part =
    let found = checked taker.demand part in judged found.marks (known taker.make found.value)

-- an argument by what takes it, if something does. One too many shows it at its first token
abbrev pub taken_by : {B : Type 0} → Option (Taker B) → Given → Judged B
taken_by None argument = judged (at_first (wrong WRONG_TYPE ∷ []) (met asked_nothing argument).marks) None
taken_by (Some taker) argument =
    let found = met taker.demand argument in judged found.marks (known taker.make found.value)

-- a parameter of a routine takes an argument as it is passed
abbrev pub passing : Table → Variable → Taker (Passed → Passed)
passing table parameter = record {
  demand = demand_of_mode table parameter.mode parameter.type;
  make = passed_by parameter.mode parameter.type;
}

abbrev pub passing_in : List ℕ → Table → CodeVariable → Taker (Passed → Passed)
passing_in spellings table parameter = passing table (variable_view spellings parameter)

-- a value as it is
abbrev pub plainly : Demand → Taker Value
plainly demand = record { demand = demand; make = λ value. value }

-- the arguments of a call as they are passed, and an argument that stands alone
abbrev pub passing_part : Table → List Variable → List Given → Judged Passed
passing_part table parameters arguments =
    let demands = demands_of table parameters in
    judged (called demands arguments) (known (passed_to parameters) (given demands arguments))

abbrev pub called_part : ℕ → PasType → Judged Passed → Judged Value
called_part number type part = judged part.marks (known (typed.call number type) part.value)

abbrev pub sole_part : Demand → List Given → Judged Value
sole_part demand arguments =
    judged (called (demand ∷ []) arguments) (option_and_then first_value (given (demand ∷ []) arguments))

-- whether a question may be asked a file of this type
abbrev pub is_asked_of : FileTest → PasType → Bool
is_asked_of typed.eof type = true
is_asked_of typed.eoln type = same_type type text

-- what a value shows of which no question may be asked
abbrev pub not_asked : Bool → ℕ
not_asked true = FILE_RULE
not_asked false = WRONG_TYPE
