-- What functions that look at blocks of routines answer.
use Rattle.std.specs.Prelude.{◌≡◌, false, ℕ, zero, suc, List, [], ◌∷◌, ◌++◌, map, Option, Some, None, option_to_list}
use Rattle.std.specs.Prelude.{Result, Ok, Err}
use Rattle.pas_tokens.specs.Cutting.{Wrong}
use Rattle.pas_tokens.specs.declared.kinds.Kind.TheVariants as k
use Rattle.pas_syntax.specs.Tree.{Compound, Labels, Rows, VariableRow}
use Rattle.pas_syntax.specs.Words.{Word, at, words_if, labels_words, rows_words, variable_row_words, statements_words}
use Rattle.pas_typed.specs.declared.typed.Labelled as code_labelled
use Rattle.pas_typed.specs.declared.typed.Body.{Body as CodeBody}
use Rattle.pas_typed.specs.Typed as typed
use Rattle.pas_scopes.specs.declared.scopes.KnownRoutine.{KnownRoutine as CodeRoutine}
use Rattle.pas_scopes.specs.declared.scopes.Scopes.{Scopes as CodeScopes}
use Rattle.pas_scopes.specs.declared.stop.Stop.{Stop}
use Rattle.pas_rules.specs.Marks.{Marks, quiet, shows, joined, Judged, known}
use Rattle.pas_rules.specs.Scopes.{Scopes, Outer}
use Rattle.pas_rules.specs.Labels.{labels_of_list}
use Rattle.pas_rules.specs.Statements.{statements_of}
use Rattle.pas_rules.specs.Declarations.{declared_labels, label_marks, routine_scopes, local_rows, InnerStage}
use Rattle.pas_rules.specs.Routines.{Sort, label_missing, result_missing, inner_of, with_body, body_made, RoutineStage}
use Rattle.pas_scopes.specs.ScopeViews.{outer_view}
use Rattle.pas_scopes.specs.Answers.{IsQuiet, FailsBy}
use Rattle.pas_types.specs.inner.RoutineAnswers.{IsReady}

-- the routine with this number, of which no scope waits any longer
abbrev pub without_awaited : ℕ → List CodeRoutine → List CodeRoutine
without_awaited number [] = []
without_awaited zero (known ∷ routines) = record known { awaited = None } ∷ routines
without_awaited (suc number) (known ∷ routines) = known ∷ without_awaited number routines

-- the statements of a routine, between `begin` and the semicolon behind `end`
module _ (scopes : Scopes) (sort : Sort) (labels : List ℕ) (body : Compound) (line : ℕ) where
  abbrev pub list_in : Judged typed.Statements
  list_in = statements_of scopes (labels_of_list body.list) [] body.list

  abbrev pub end_faults : List Wrong
  end_faults = label_missing labels body ++ result_missing sort list_in.value

  abbrev pub body_marks : Marks
  body_marks = joined (quiet ∷ list_in.marks ∷ shows end_faults ∷ quiet ∷ [])

  abbrev pub closed_words : List Word
  closed_words =
      at 1 k.Begin body.begin ∷ (statements_words 1 body.list
      ++ at 1 k.End body.end ∷ (at 0 k.Semicolon line ∷ []))

  -- what is answered of them
  abbrev pub IsBody : (List code_labelled.Labelled → typed.Statements)
      → Result (List code_labelled.Labelled) Stop → Type 0
  IsBody view (Ok found) = IsQuiet closed_words body_marks false × (list_in.value ≡ Some (view found))
  IsBody view (Err why) = FailsBy closed_words body_marks why

-- the block of a routine, up to the semicolon behind it
module _ (outer : Outer) (number : ℕ) (sort : Sort) (labels : Option Labels) (variables : Option (Rows VariableRow))
    (body : Compound) (line : ℕ) where
  -- the program's scope without the wait for this body, the variables, and the program's scope behind them
  abbrev pub begun : Outer
  begun = record outer { routines = with_body number outer.routines }

  abbrev pub local_part : InnerStage
  local_part = local_rows begun (inner_of begun number (declared_labels labels)) variables

  abbrev pub ended : Outer
  ended = record begun { types = local_part.table }

  abbrev pub list_within : Judged typed.Statements
  list_within = list_in (routine_scopes ended local_part.inner) sort (declared_labels labels) body line

  abbrev pub block_marks : Marks
  block_marks =
      joined (label_marks labels ∷ local_part.marks ∷ quiet ∷ list_within.marks
      ∷ shows (end_faults (routine_scopes ended local_part.inner) sort (declared_labels labels) body line)
      ∷ quiet ∷ [])

  abbrev pub block_words : List Word
  block_words =
      words_if labels_words labels ++ (words_if (rows_words k.Var variable_row_words) variables
      ++ closed_words (routine_scopes ended local_part.inner) sort (declared_labels labels) body line)

  -- a block that was gone through: its body, and the scopes behind it
  pub record Leads (view : CodeBody → typed.Body) (scopes : CodeScopes) (found : CodeBody) : Type 0 where
    pub still : IsQuiet block_words block_marks false
    pub body_is : known (body_made number (declared_labels labels) local_part.inner) list_within.value
        ≡ Some (view found ∷ [])
    pub ready : IsReady scopes
    pub outer_is : outer_view scopes ≡ ended

  abbrev pub IsBlock : (CodeBody → typed.Body) → CodeScopes → Result CodeBody Stop → Type 0
  IsBlock view scopes (Ok found) = Leads view scopes found
  IsBlock view scopes (Err why) = FailsBy block_words block_marks why

-- a routine that was gone through, and its body, if it has one
pub record Goes (words : List Word) (stage : RoutineStage) (view : CodeBody → typed.Body) (scopes : CodeScopes)
    (found : Option CodeBody) : Type 0 where
  pub still : IsQuiet words stage.marks false
  pub ready : IsReady scopes
  pub outer_is : outer_view scopes ≡ stage.outer
  pub bodies_are : stage.bodies ≡ Some (map view (option_to_list found))

abbrev pub IsRoutine : List Word → RoutineStage → (CodeBody → typed.Body) → CodeScopes
    → Result (Option CodeBody) Stop → Type 0
IsRoutine words stage view scopes (Ok found) = Goes words stage view scopes found
IsRoutine words stage view scopes (Err why) = FailsBy words stage.marks why
