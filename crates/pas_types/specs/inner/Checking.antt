-- What functions that check a whole program answer.
use Rattle.std.specs.Prelude.{◌≡◌, ℕ, Bool, true, false, not, List, [], ◌∷◌, ◌++◌, map, Option}
use Rattle.std.specs.Prelude.{Result, Ok, Err}
use Rattle.wb_base.specs.declared.faults.TheConstants.{UNKNOWN_NAME, DUPLICATE_NAME, WRONG_LABEL}
use Rattle.pas_tokens.specs.Cutting.{Wrong, wrong}
use Rattle.pas_tokens.specs.declared.kinds.Kind.TheVariants as k
use Rattle.pas_syntax.specs.Tree.{Ident, Idents, ProgramParameters, Compound}
use Rattle.pas_syntax.specs.Words.{Word, at, name_at, words_if, idents_words, program_parameters_words, compound_words}
use Rattle.pas_typed.specs.Typed.{global}
use Rattle.pas_typed.specs.TypedViews.{variable_view}
use Rattle.pas_scopes.specs.declared.scopes.Scopes.{Scopes as CodeScopes}
use Rattle.pas_scopes.specs.declared.stop.Stop.{Stop}
use Rattle.pas_scopes.specs.declared.stop.Stop.TheVariants as stop
use Rattle.pas_rules.specs.Marks.{quiet, shows, joined, listed, unless, Judged, judged}
use Rattle.pas_rules.specs.Scopes.{Outer, contains, idents_of, entity_in}
use Rattle.pas_rules.specs.Declarations.{named_slots}
use Rattle.pas_rules.specs.Check.{standard_variables, parameter_faults, each_parameter, parameter_marks}
use Rattle.pas_scopes.specs.Stopping.{shown_in, demanded}
use Rattle.pas_scopes.specs.Answers.{IsQuiet, Means, FailsBy}

-- the parameters of a program, and its variables before all declarations
pub record HasParameters (parameters : List (List ℕ)) (scopes : CodeScopes) : Type 0 where
  pub parameters_are : scopes.parameters ≡ parameters
  pub names_are : scopes.names ≡ named_slots global 0 (standard_variables parameters)
  pub globals_are : map (variable_view scopes.spellings.now) scopes.globals ≡ standard_variables parameters

-- the words from the statements of a program on, and what they show and mean
abbrev pub main_words : Compound → ℕ → ℕ → List Word
main_words body dot end = compound_words body ++ at 0 k.Dot dot ∷ (at 0 k.EndOfText end ∷ [])

abbrev pub main_part : {A : Type 0} → Bool → Bool → Judged A → Judged A
main_part has_bodies all_stand list =
    judged (joined (quiet ∷ list.marks
    ∷ shows (unless has_bodies (wrong UNKNOWN_NAME) ++ unless all_stand (wrong WRONG_LABEL)) ∷ quiet ∷ quiet ∷ []))
    list.value

-- what the `end` of a block in this line shows
abbrev pub lacking : Bool → Bool → ℕ → Result (Unit {0}) Stop
lacking false all_stand line = Err (shown_in line (wrong UNKNOWN_NAME))
lacking true all_stand line = demanded all_stand WRONG_LABEL line

-- what that shows where something is missing before it too
abbrev pub stop_at : ℕ → ℕ → Stop → Stop
stop_at code line stop.Missing = shown_in line (wrong code)
stop_at code line why = why

-- what is answered of a part behind which nothing is missing
abbrev pub IsWhole : {X A : Type 0} → List Word → Judged A → (X → A) → Result X Stop → Type 0
IsWhole words part view (Ok found) = Means words part (view found)
IsWhole words part view (Err why) = FailsBy words part.marks why

-- what a parameter shows behind those before it, and what is answered of one and of all
abbrev pub parameter_wrongs : Outer → List (List ℕ) → List ℕ → List Wrong
parameter_wrongs outer before name =
    unless (not (contains before name)) (wrong DUPLICATE_NAME)
    ++ parameter_faults outer.types (entity_in outer.names name)

abbrev pub IsParameter : Outer → List (List ℕ) → Ident → Result (Unit {0}) Stop → Type 0
IsParameter outer before ident (Ok done) = parameter_wrongs outer before ident.name ≡ []
IsParameter outer before ident (Err why) =
    (n : ℕ) → FailsBy (name_at n ident ∷ []) (shows (parameter_wrongs outer before ident.name)) why

abbrev pub AreParameters : Outer → List (List ℕ) → Idents → Result (Unit {0}) Stop → Type 0
AreParameters outer before idents (Ok done) =
    (n : ℕ) → IsQuiet (idents_words n idents) (listed (each_parameter outer before (idents_of idents))) false
AreParameters outer before idents (Err why) =
    (n : ℕ) → FailsBy (idents_words n idents) (listed (each_parameter outer before (idents_of idents))) why

abbrev pub IsHeading : Outer → Option ProgramParameters → Result (Unit {0}) Stop → Type 0
IsHeading outer parameters (Ok done) =
    IsQuiet (words_if program_parameters_words parameters) (parameter_marks outer parameters) false
IsHeading outer parameters (Err why) =
    FailsBy (words_if program_parameters_words parameters) (parameter_marks outer parameters) why
