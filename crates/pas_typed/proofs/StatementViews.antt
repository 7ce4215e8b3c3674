-- The code's statements, a variant at a time, as those of the definition.
use Rattle.std.proofs.Common.{◌≡◌, ℕ, List, map}
use Rattle.pas_typed.specs.declared.types.PasType.{PasType as CodePasType}
use Rattle.pas_typed.specs.declared.typed.FileStep.{FileStep as CodeFileStep}
use Rattle.pas_typed.specs.declared.typed.Value as code_value
use Rattle.pas_typed.specs.declared.typed.Place as code_place
use Rattle.pas_typed.specs.declared.typed.Passed as code_passed
use Rattle.pas_typed.specs.declared.typed.Item.{Item as CodeItem}
use Rattle.pas_typed.specs.declared.typed.Counted.{Counted as CodeCounted}
use Rattle.pas_typed.specs.declared.typed.Statement as code_statement
use Rattle.pas_typed.specs.declared.typed.Statement.TheVariants as statement
use Rattle.pas_typed.specs.declared.typed.Labelled as code_labelled
use Rattle.pas_typed.specs.declared.typed.Arm as code_arm
use Rattle.pas_typed.specs.declared.typed.Statement.TheOpen.{Statement-F, Arm-F, Labelled-F}
use Rattle.pas_typed.specs.declared.typed.Statement.TheViews.{roll-Arm, roll-Labelled}
use Rattle.pas_typed.specs.declared.typed.Statement.TheFolds.{fold-roll-Statement, fold-roll-Arm, fold-roll-Labelled}
use Rattle.pas_typed.specs.Typed as typed
use Rattle.pas_typed.specs.Typed.{Statement, Statements, Arms}
use Rattle.pas_typed.specs.TypeViews.{type_view}
use Rattle.pas_typed.specs.TypedViews.{slot_view, file_step_view, place_view, value_view, passed_views, item_view}
use Rattle.pas_typed.specs.TypedViews.{statement_step, arm_step, labelled_step, statement_view, arm_view}
use Rattle.pas_typed.specs.TypedViews.{labelled_view, statements_view, arms_view}

module _ (spellings : List ℕ) where
  pub statement_view-Empty : statement_view spellings statement.Empty
      ≡ typed.empty
  unfolding code_statement.roll-Statement denote.Hole.Carrier.roll
  statement_view-Empty =
      fold-roll-Statement Statement (Arms → Arms) (Statements → Statements)
      (statement_step spellings) arm_step labelled_step Statement-F.Empty

  pub statement_view-Assigns : (place : code_place.Place) (value : code_value.Value)
      → statement_view spellings (statement.Assigns place value)
      ≡ typed.assigns (place_view place) (value_view value)
  unfolding code_statement.roll-Statement denote.Hole.Carrier.roll
  statement_view-Assigns place value =
      fold-roll-Statement Statement (Arms → Arms) (Statements → Statements)
      (statement_step spellings) arm_step labelled_step (Statement-F.Assigns place value)

  pub statement_view-SetsResult : (number : ℕ) (type : CodePasType) (value : code_value.Value)
      → statement_view spellings (statement.SetsResult number type value)
      ≡ typed.sets_result number (type_view type) (value_view value)
  unfolding code_statement.roll-Statement denote.Hole.Carrier.roll
  statement_view-SetsResult number type value =
      fold-roll-Statement Statement (Arms → Arms) (Statements → Statements)
      (statement_step spellings) arm_step labelled_step (Statement-F.SetsResult number type value)

  pub statement_view-Calls : (number : ℕ) (passed : List code_passed.Passed)
      → statement_view spellings (statement.Calls number passed)
      ≡ typed.calls number (passed_views passed)
  unfolding code_statement.roll-Statement denote.Hole.Carrier.roll
  statement_view-Calls number passed =
      fold-roll-Statement Statement (Arms → Arms) (Statements → Statements)
      (statement_step spellings) arm_step labelled_step (Statement-F.Calls number passed)

  pub statement_view-Compound : (list : List code_labelled.Labelled)
      → statement_view spellings (statement.Compound list)
      ≡ typed.compound (statements_view spellings list)
  unfolding code_statement.roll-Statement denote.Hole.Carrier.roll
  statement_view-Compound list =
      fold-roll-Statement Statement (Arms → Arms) (Statements → Statements)
      (statement_step spellings) arm_step labelled_step (Statement-F.Compound list)

  pub statement_view-If : (value : code_value.Value) (then : code_statement.Statement)
      → statement_view spellings (statement.If value then)
      ≡ typed.if_then (value_view value) (statement_view spellings then)
  unfolding code_statement.roll-Statement denote.Hole.Carrier.roll
  statement_view-If value then =
      fold-roll-Statement Statement (Arms → Arms) (Statements → Statements)
      (statement_step spellings) arm_step labelled_step (Statement-F.If value then)

  pub statement_view-IfElse : (value : code_value.Value) (then other : code_statement.Statement)
      → statement_view spellings (statement.IfElse value then other)
      ≡ typed.if_else (value_view value) (statement_view spellings then) (statement_view spellings other)
  unfolding code_statement.roll-Statement denote.Hole.Carrier.roll
  statement_view-IfElse value then other =
      fold-roll-Statement Statement (Arms → Arms) (Statements → Statements)
      (statement_step spellings) arm_step labelled_step (Statement-F.IfElse value then other)

  pub statement_view-Case : (value : code_value.Value) (arms : List code_arm.Arm)
      → statement_view spellings (statement.Case value arms)
      ≡ typed.case (value_view value) (arms_view spellings arms)
  unfolding code_statement.roll-Statement denote.Hole.Carrier.roll
  statement_view-Case value arms =
      fold-roll-Statement Statement (Arms → Arms) (Statements → Statements)
      (statement_step spellings) arm_step labelled_step (Statement-F.Case value arms)

  pub statement_view-CaseOthers : (value : code_value.Value) (arms : List code_arm.Arm)
      (others : code_statement.Statement)
      → statement_view spellings (statement.CaseOthers value arms others)
      ≡ typed.case_others (value_view value) (arms_view spellings arms) (statement_view spellings others)
  unfolding code_statement.roll-Statement denote.Hole.Carrier.roll
  statement_view-CaseOthers value arms others =
      fold-roll-Statement Statement (Arms → Arms) (Statements → Statements)
      (statement_step spellings) arm_step labelled_step (Statement-F.CaseOthers value arms others)

  pub statement_view-While : (value : code_value.Value) (list : List code_labelled.Labelled)
      → statement_view spellings (statement.While value list)
      ≡ typed.while (value_view value) (statements_view spellings list)
  unfolding code_statement.roll-Statement denote.Hole.Carrier.roll
  statement_view-While value list =
      fold-roll-Statement Statement (Arms → Arms) (Statements → Statements)
      (statement_step spellings) arm_step labelled_step (Statement-F.While value list)

  pub statement_view-Repeat : (list : List code_labelled.Labelled) (value : code_value.Value)
      → statement_view spellings (statement.Repeat list value)
      ≡ typed.repeat (statements_view spellings list) (value_view value)
  unfolding code_statement.roll-Statement denote.Hole.Carrier.roll
  statement_view-Repeat list value =
      fold-roll-Statement Statement (Arms → Arms) (Statements → Statements)
      (statement_step spellings) arm_step labelled_step (Statement-F.Repeat list value)

  pub statement_view-For : (counted : CodeCounted) (list : List code_labelled.Labelled)
      → statement_view spellings (statement.For counted list)
      ≡ typed.for (slot_view counted.slot) counted.way (value_view counted.first) (value_view counted.last)
      (statements_view spellings list)
  unfolding code_statement.roll-Statement denote.Hole.Carrier.roll
  statement_view-For counted list =
      fold-roll-Statement Statement (Arms → Arms) (Statements → Statements)
      (statement_step spellings) arm_step labelled_step (Statement-F.For counted list)

  pub statement_view-Goto : (label : ℕ)
      → statement_view spellings (statement.Goto label)
      ≡ typed.goto label
  unfolding code_statement.roll-Statement denote.Hole.Carrier.roll
  statement_view-Goto label =
      fold-roll-Statement Statement (Arms → Arms) (Statements → Statements)
      (statement_step spellings) arm_step labelled_step (Statement-F.Goto label)

  pub statement_view-GotoLast : (status : ℕ)
      → statement_view spellings (statement.GotoLast status)
      ≡ typed.goto_last status
  unfolding code_statement.roll-Statement denote.Hole.Carrier.roll
  statement_view-GotoLast status =
      fold-roll-Statement Statement (Arms → Arms) (Statements → Statements)
      (statement_step spellings) arm_step labelled_step (Statement-F.GotoLast status)

  pub statement_view-Steps : (step : CodeFileStep) (place : code_place.Place)
      → statement_view spellings (statement.Steps step place)
      ≡ typed.file_step (file_step_view step) (place_view place)
  unfolding code_statement.roll-Statement denote.Hole.Carrier.roll
  statement_view-Steps step place =
      fold-roll-Statement Statement (Arms → Arms) (Statements → Statements)
      (statement_step spellings) arm_step labelled_step (Statement-F.Steps step place)

  pub statement_view-Reads : (file : code_place.Place) (places : List code_place.Place)
      → statement_view spellings (statement.Reads file places)
      ≡ typed.reads (place_view file) (map place_view places)
  unfolding code_statement.roll-Statement denote.Hole.Carrier.roll
  statement_view-Reads file places =
      fold-roll-Statement Statement (Arms → Arms) (Statements → Statements)
      (statement_step spellings) arm_step labelled_step (Statement-F.Reads file places)

  pub statement_view-ReadsLine : (file : code_place.Place) (places : List code_place.Place)
      → statement_view spellings (statement.ReadsLine file places)
      ≡ typed.reads_line (place_view file) (map place_view places)
  unfolding code_statement.roll-Statement denote.Hole.Carrier.roll
  statement_view-ReadsLine file places =
      fold-roll-Statement Statement (Arms → Arms) (Statements → Statements)
      (statement_step spellings) arm_step labelled_step (Statement-F.ReadsLine file places)

  pub statement_view-Writes : (file : code_place.Place) (items : List CodeItem)
      → statement_view spellings (statement.Writes file items)
      ≡ typed.writes (place_view file) (map (item_view spellings) items)
  unfolding code_statement.roll-Statement denote.Hole.Carrier.roll
  statement_view-Writes file items =
      fold-roll-Statement Statement (Arms → Arms) (Statements → Statements)
      (statement_step spellings) arm_step labelled_step (Statement-F.Writes file items)

  pub statement_view-WritesLine : (file : code_place.Place) (items : List CodeItem)
      → statement_view spellings (statement.WritesLine file items)
      ≡ typed.writes_line (place_view file) (map (item_view spellings) items)
  unfolding code_statement.roll-Statement denote.Hole.Carrier.roll
  statement_view-WritesLine file items =
      fold-roll-Statement Statement (Arms → Arms) (Statements → Statements)
      (statement_step spellings) arm_step labelled_step (Statement-F.WritesLine file items)

  pub statement_view-WritesBytes : (file : code_place.Place) (values : List code_value.Value)
      → statement_view spellings (statement.WritesBytes file values)
      ≡ typed.writes_bytes (place_view file) (map value_view values)
  unfolding code_statement.roll-Statement denote.Hole.Carrier.roll
  statement_view-WritesBytes file values =
      fold-roll-Statement Statement (Arms → Arms) (Statements → Statements)
      (statement_step spellings) arm_step labelled_step (Statement-F.WritesBytes file values)

  pub statement_view-Halts : (value : code_value.Value)
      → statement_view spellings (statement.Halts value)
      ≡ typed.halts (value_view value)
  unfolding code_statement.roll-Statement denote.Hole.Carrier.roll
  statement_view-Halts value =
      fold-roll-Statement Statement (Arms → Arms) (Statements → Statements)
      (statement_step spellings) arm_step labelled_step (Statement-F.Halts value)

  pub arm_view-roll : (x : Arm-F code_statement.Statement code_arm.Arm code_labelled.Labelled)
      → arm_view spellings (roll-Arm x)
      ≡ (λ others. typed.arm x.constants (statement_view spellings x.statement) others)
  arm_view-roll x =
      fold-roll-Arm Statement (Arms → Arms) (Statements → Statements)
      (statement_step spellings) arm_step labelled_step x

  pub labelled_view-roll : (x : Labelled-F code_statement.Statement code_arm.Arm code_labelled.Labelled)
      → labelled_view spellings (roll-Labelled x)
      ≡ (λ others. typed.item x.label (statement_view spellings x.statement) others)
  labelled_view-roll x =
      fold-roll-Labelled Statement (Arms → Arms) (Statements → Statements)
      (statement_step spellings) arm_step labelled_step x
