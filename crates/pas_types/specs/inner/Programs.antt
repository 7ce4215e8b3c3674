-- What functions that go through a whole program answer.
use Rattle.std.specs.Prelude.{◌≡◌, ⊤, List, [], map, flat_map, Option, Some, None, Result, Ok, Err}
use Rattle.wb_base.specs.declared.faults.Fault.{Fault}
use Rattle.pas_tokens.specs.declared.kinds.Kind.TheVariants as k
use Rattle.pas_syntax.specs.Tree.{Labels, Program}
use Rattle.pas_syntax.specs.Words.{words_if, labels_words, rows_words, constant_row_words, type_row_words}
use Rattle.pas_syntax.specs.Words.{variable_row_words, routine_words}
use Rattle.pas_typed.specs.declared.typed.Body.{Body as CodeBody}
use Rattle.pas_typed.specs.Typed.{Statements, TypedProgram}
use Rattle.pas_typed.specs.TypedViews.{body_view}
use Rattle.pas_scopes.specs.declared.scopes.Scopes.{Scopes as CodeScopes}
use Rattle.pas_scopes.specs.declared.stop.Stop.{Stop}
use Rattle.pas_scopes.specs.declared.stop.Stop.TheVariants as stop
use Rattle.pas_rules.specs.Declarations.{declared_labels, label_marks, Stage, rows_of, constant_row, type_row}
use Rattle.pas_rules.specs.Declarations.{global_row, program_scopes}
use Rattle.pas_rules.specs.Labels.{labels_of_list}
use Rattle.pas_rules.specs.Statements.{statements_of}
use Rattle.pas_rules.specs.Routines.{RoutineStage, routines_of}
use Rattle.pas_rules.specs.Check.{start, fault_of, Means, IsFaultOf}
use Rattle.pas_scopes.specs.ScopeViews.{outer_view}
use Rattle.pas_scopes.specs.DeclaredSoFar.{Notes}
use Rattle.pas_types.specs.inner.LabelViews.{Known, known_labels}
use Rattle.pas_types.specs.inner.RoutineAnswers.{IsBehind}

-- the scopes behind each part of the declarations, and what the part shows
module _ (program : Program) where
  abbrev pub constants_stage : Stage
  constants_stage = rows_of constant_row (start program) program.constants

  abbrev pub types_stage : Stage
  types_stage = rows_of type_row constants_stage.outer program.types

  abbrev pub variables_stage : Stage
  variables_stage = rows_of global_row types_stage.outer program.variables

  abbrev pub routines_stage : RoutineStage
  routines_stage = routines_of variables_stage.outer program.routines

-- the labels of a program, where no fault is noted behind them
abbrev pub LabelsIf : Option Labels → Known → Option Fault → Type 0
LabelsIf part found None = found ≡ known_labels (declared_labels part) [] []
LabelsIf part found (Some fault) = ⊤

-- declarations behind the labels that were gone through, and what the bodies of their routines mean
pub record GoesOver (program : Program) (old : CodeScopes) (noted : Option Fault) (new : CodeScopes)
    (noting : Option Fault) (found : List CodeBody) : Type 0 where
  pub behind : IsBehind (routines_stage program).outer new noting
  pub bodies_are : noting ≡ None
      → (routines_stage program).bodies ≡ Some (map (body_view old.spellings.now) found)
  pub at_types : Option Fault
  pub at_variables : Option Fault
  pub at_routines : Option Fault
  pub constants_note : Notes (words_if (rows_words k.Const constant_row_words) program.constants)
      (constants_stage program).marks noted at_types
  pub types_note : Notes (words_if (rows_words k.Type type_row_words) program.types)
      (types_stage program).marks at_types at_variables
  pub variables_note : Notes (words_if (rows_words k.Var variable_row_words) program.variables)
      (variables_stage program).marks at_variables at_routines
  pub routines_note : Notes (flat_map routine_words program.routines) (routines_stage program).marks at_routines
      noting
  pub spellings_are : new.spellings.now ≡ old.spellings.now
  pub labels_are : new.labels ≡ old.labels

-- what is answered of a whole program
abbrev pub FaultBy : Program → Stop → Type 0
FaultBy program stop.OutOfMemory = ⊤
FaultBy program (stop.Fault fault) = IsFaultOf program fault
FaultBy program stop.Missing = ⊥

abbrev pub Checks : {X : Type 0} → Program → (X → TypedProgram) → Result X Stop → Type 0
Checks program view (Ok found) = Means program (view found)
Checks program view (Err why) = FaultBy program why

-- what is noted behind the declarations of a program, and the labels and scopes there
pub record ComesTo (program : Program) (scopes : CodeScopes) (noted : Option Fault) (labels : Known) : Type 0 where
  pub behind : IsBehind (routines_stage program).outer scopes noted
  pub at_constants : Option Fault
  pub at_types : Option Fault
  pub at_variables : Option Fault
  pub at_routines : Option Fault
  pub labels_note : Notes (words_if labels_words program.labels) (label_marks program.labels) None at_constants
  pub constants_note : Notes (words_if (rows_words k.Const constant_row_words) program.constants)
      (constants_stage program).marks at_constants at_types
  pub types_note : Notes (words_if (rows_words k.Type type_row_words) program.types)
      (types_stage program).marks at_types at_variables
  pub variables_note : Notes (words_if (rows_words k.Var variable_row_words) program.variables)
      (variables_stage program).marks at_variables at_routines
  pub routines_note : Notes (flat_map routine_words program.routines) (routines_stage program).marks at_routines
      noted
  pub labels_are : noted ≡ None → labels ≡ known_labels scopes.labels [] []

-- why checking stops where this is noted
abbrev pub not_noted : Option Fault → Result (Unit {0}) Stop
not_noted None = Ok tt
not_noted (Some fault) = Err (stop.Fault fault)

-- what is answered of a program behind its declarations: what its statements mean, where it has no fault
pub record IsFaultless (program : Program) (scopes : CodeScopes) (noted : Option Fault) (statements : Statements)
    : Type 0 where
  pub faultless : fault_of program ≡ None
  pub nothing_noted : noted ≡ None
  pub outer_is : outer_view scopes ≡ (routines_stage program).outer
  pub list_is : (statements_of (program_scopes (routines_stage program).outer) (labels_of_list program.body.list) []
      program.body.list).value ≡ Some statements

abbrev pub IsFaultlessBy : {X : Type 0} → Program → CodeScopes → Option Fault → (X → Statements) → Result X Stop
    → Type 0
IsFaultlessBy program scopes noted view (Ok found) = IsFaultless program scopes noted (view found)
IsFaultlessBy program scopes noted view (Err why) = FaultBy program why
