use Rattle.std.proofs.Common.{refl, ℕ, Option}
use Rattle.std.proofs.lemmas.Result.{err_from_is_err_and}
use Rattle.pas_syntax.specs.Tree as tree
use Rattle.pas_syntax.specs.Tree.{Labels, Rows, VariableRow, Compound, Body}
use Rattle.pas_syntax.specs.Views.{if_there}
use Rattle.pas_syntax.specs.ProgramViews.{labels_in, rows_in, variable_row_in}
use Rattle.pas_syntax.specs.inner.StatementReaders.{compound}
use Rattle.pas_syntax.specs.inner.DeclarationReaders.{variable_rows}
use Rattle.pas_syntax.specs.inner.Prog.{Prog, done, bind}
use Rattle.pas_syntax.proofs.PlaceLemmas.{returned, stops}
use Rattle.pas_syntax.proofs.PlaceSteps.{from_here, and_then, stopped, read}
use Rattle.pas_syntax.proofs.routines.block.Goals as goal

-- what is read behind each part
abbrev made : Option Labels → Option (Rows VariableRow) → Compound → Prog Body
made labels variables body = done (tree.block labels variables body)

abbrev after_variables : Option Labels → ℕ → Option (Rows VariableRow) → Prog Body
after_variables labels m variables = bind (compound m 0) (made labels variables)

abbrev after_labels : ℕ → Option Labels → Prog Body
after_labels m labels = bind (variable_rows m) (after_variables labels m)

pub returns-in_err-labels : goal.returns-in_err-labels
returns-in_err-labels c =
    returned (err_from_is_err_and _ c.from_residual.ensures.1)
    (stops after_labels c.in_err-labels.ensures)

pub returns-in_err-variables : goal.returns-in_err-variables
returns-in_err-variables c =
    let s = c.args.reader.now.spellings in
    let labels = if_there (labels_in s) c.in_ok-labels.labels in
    from_here (and_then after_labels c.in_ok-labels.ensures
    (stopped (after_variables labels) c.from_residual-in_err-variables.result c.in_err-variables.ensures
    c.from_residual-in_err-variables.ensures.1))

pub returns-in_err-body : goal.returns-in_err-body
returns-in_err-body c =
    let s = c.args.reader.now.spellings in
    let labels = if_there (labels_in s) c.in_ok-labels.labels in
    let variables = if_there (rows_in s (variable_row_in s)) c.in_ok-variables.variables in
    from_here (and_then after_labels c.in_ok-labels.ensures
    (and_then (after_variables labels) c.in_ok-variables.ensures
    (stopped (λ m. made labels variables) c.from_residual-in_err-body.result c.in_err-body.ensures
    c.from_residual-in_err-body.ensures.1)))

pub returns : goal.returns
returns c =
    let s = c.args.reader.now.spellings in
    let labels = if_there (labels_in s) c.in_ok-labels.labels in
    let variables = if_there (rows_in s (variable_row_in s)) c.in_ok-variables.variables in
    from_here (and_then after_labels c.in_ok-labels.ensures
    (and_then (after_variables labels) c.in_ok-variables.ensures
    (and_then (λ m. made labels variables) c.in_ok-body.ensures
    (read refl))))
