use Rattle.std.proofs.Common.{refl, ℕ, List, Option}
use Rattle.std.proofs.lemmas.Result.{err_from_is_err_and}
use Rattle.pas_syntax.specs.Tree.{Labels, Rows, ConstantRow, TypeRow, VariableRow, Routine}
use Rattle.pas_syntax.specs.Views.{if_there}
use Rattle.pas_syntax.specs.ProgramViews.{labels_in, rows_in, constant_row_in, type_row_in, variable_row_in}
use Rattle.pas_syntax.specs.inner.Prog.{Prog, done, bind}
use Rattle.pas_syntax.specs.inner.DeclarationReaders.{Declarations, constant_rows, type_rows, variable_rows, routines}
use Rattle.pas_syntax.proofs.PlaceLemmas.{returned, stops}
use Rattle.pas_syntax.proofs.PlaceSteps.{from_here, and_then, stopped, read}
use Rattle.pas_syntax.proofs.declarations.declarations.Goals as goal

abbrev SomeLabels : Type 0
SomeLabels = Option Labels

abbrev Some_ : Type 0 → Type 0
Some_ A = Option (Rows A)

-- what is read behind each part
abbrev made : SomeLabels → Some_ ConstantRow → Some_ TypeRow → Some_ VariableRow → List Routine → Prog Declarations
made ls cs ts vs rs = done (record { labels = ls; constants = cs; types = ts; variables = vs; routines = rs })

abbrev behind_variables : SomeLabels → Some_ ConstantRow → Some_ TypeRow → ℕ → Some_ VariableRow → Prog Declarations
behind_variables ls cs ts m vs = bind (routines m) (made ls cs ts vs)

abbrev behind_types : SomeLabels → Some_ ConstantRow → ℕ → Some_ TypeRow → Prog Declarations
behind_types ls cs m ts = bind (variable_rows m) (behind_variables ls cs ts m)

abbrev behind_constants : SomeLabels → ℕ → Some_ ConstantRow → Prog Declarations
behind_constants ls m cs = bind (type_rows m) (behind_types ls cs m)

abbrev behind_labels : ℕ → SomeLabels → Prog Declarations
behind_labels m ls = bind (constant_rows m) (behind_constants ls m)

pub returns-in_err-labels : goal.returns-in_err-labels
returns-in_err-labels c =
    returned (err_from_is_err_and _ c.from_residual.ensures.1) (stops behind_labels c.in_err-labels.ensures)

pub returns-in_err-constants : goal.returns-in_err-constants
returns-in_err-constants c =
    let s = c.args.reader.now.spellings in
    let ls = if_there (labels_in s) c.in_ok-labels.labels in
    from_here (and_then behind_labels c.in_ok-labels.ensures
    (stopped (behind_constants ls) c.from_residual-in_err-constants.result c.in_err-constants.ensures
    c.from_residual-in_err-constants.ensures.1))

pub returns-in_err-types : goal.returns-in_err-types
returns-in_err-types c =
    let s = c.args.reader.now.spellings in
    let ls = if_there (labels_in s) c.in_ok-labels.labels in
    let cs = if_there (rows_in s (constant_row_in s)) c.in_ok-constants.constants in
    from_here (and_then behind_labels c.in_ok-labels.ensures
    (and_then (behind_constants ls) c.in_ok-constants.ensures
    (stopped (behind_types ls cs) c.from_residual-in_err-types.result c.in_err-types.ensures
    c.from_residual-in_err-types.ensures.1)))

pub returns-in_err-variables : goal.returns-in_err-variables
returns-in_err-variables c =
    let s = c.args.reader.now.spellings in
    let ls = if_there (labels_in s) c.in_ok-labels.labels in
    let cs = if_there (rows_in s (constant_row_in s)) c.in_ok-constants.constants in
    let ts = if_there (rows_in s (type_row_in s)) c.in_ok-types.types in
    from_here (and_then behind_labels c.in_ok-labels.ensures
    (and_then (behind_constants ls) c.in_ok-constants.ensures
    (and_then (behind_types ls cs) c.in_ok-types.ensures
    (stopped (behind_variables ls cs ts) c.from_residual-in_err-variables.result c.in_err-variables.ensures
    c.from_residual-in_err-variables.ensures.1))))

pub returns-in_err-routines : goal.returns-in_err-routines
returns-in_err-routines c =
    let s = c.args.reader.now.spellings in
    let ls = if_there (labels_in s) c.in_ok-labels.labels in
    let cs = if_there (rows_in s (constant_row_in s)) c.in_ok-constants.constants in
    let ts = if_there (rows_in s (type_row_in s)) c.in_ok-types.types in
    let vs = if_there (rows_in s (variable_row_in s)) c.in_ok-variables.variables in
    from_here (and_then behind_labels c.in_ok-labels.ensures
    (and_then (behind_constants ls) c.in_ok-constants.ensures
    (and_then (behind_types ls cs) c.in_ok-types.ensures
    (and_then (behind_variables ls cs ts) c.in_ok-variables.ensures
    (stopped (λ m. made ls cs ts vs) c.from_residual-in_err-routines.result c.in_err-routines.ensures
    c.from_residual-in_err-routines.ensures.1)))))

pub returns : goal.returns
returns c =
    let s = c.args.reader.now.spellings in
    let ls = if_there (labels_in s) c.in_ok-labels.labels in
    let cs = if_there (rows_in s (constant_row_in s)) c.in_ok-constants.constants in
    let ts = if_there (rows_in s (type_row_in s)) c.in_ok-types.types in
    let vs = if_there (rows_in s (variable_row_in s)) c.in_ok-variables.variables in
    from_here (and_then behind_labels c.in_ok-labels.ensures
    (and_then (behind_constants ls) c.in_ok-constants.ensures
    (and_then (behind_types ls cs) c.in_ok-types.ensures
    (and_then (behind_variables ls cs ts) c.in_ok-variables.ensures
    (and_then (λ m. made ls cs ts vs) c.in_ok-routines.ensures
    (read refl))))))
