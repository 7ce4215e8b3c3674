use Rattle.std.proofs.Common.{ap, subst, ◌∙◌, ℕ, List, Option, Some, Ok, Err}
use Rattle.std.proofs.lemmas.Result.{err_from_is_err_and}
use Rattle.pas_syntax.specs.declared.tree.Labels.{Labels as CodeLabels}
use Rattle.pas_syntax.specs.declared.tree.Rows.{Rows as CodeRows}
use Rattle.pas_syntax.specs.declared.tree.VariableRow.{VariableRow as CodeRow}
use Rattle.pas_syntax.specs.declared.tree.Others.TheViews.{out-Compound}
use Rattle.pas_syntax.specs.Tree.{Labels, Rows, VariableRow, Compound}
use Rattle.pas_syntax.specs.Views.{if_there}
use Rattle.pas_syntax.specs.ProgramViews.{labels_in, variable_row_in, rows_in, compound_in}
use Rattle.pas_typed.specs.TypedViews.{body_view}
use Rattle.pas_scopes.specs.declared.scopes.Scopes.{Scopes as CodeScopes}
use Rattle.pas_scopes.specs.declared.stop.Stop.{Stop}
use Rattle.pas_rules.specs.Declarations.{declared_labels}
use Rattle.pas_rules.specs.Routines.{Sort}
use Rattle.pas_scopes.specs.ScopeViews.{outer_view}
use Rattle.pas_types.specs.inner.LabelAnswers.{Declares}
use Rattle.pas_types.specs.inner.RoutineAnswers.{sort_view}
use Rattle.pas_types.specs.inner.BlockAnswers.{IsBlock}
use Rattle.pas_scopes.proofs.LocalRowLemmas.{stopped}
use Rattle.pas_types.proofs.BlockSteps.{labels_fail}
use Rattle.pas_types.proofs.BlockDone.{variables_stop, statements_stop, block_done, leaves, labels_now, program_now}
use Rattle.pas_types.proofs.BlockDone.{PassesFrom}
use Rattle.pas_types.proofs.blocks.block_of.Goals as goal

pub returns-in_err-labels-clause-means : goal.returns-in_err-labels-clause-means
returns-in_err-labels-clause-means c inner ready program_is waits line =
    let old : CodeScopes = c.args.scopes.now in
    let spellings = old.spellings.now in
    let block = c.args.block.now in
    let sort : Sort = sort_view c.args.sort in
    let labels : Option Labels = if_there (labels_in spellings) block.labels in
    let rows : Option (Rows VariableRow) = if_there (rows_in spellings (variable_row_in spellings)) block.variables in
    let body : Compound = compound_in spellings block.body in
    let why : Stop = c.in_err-labels.field-0.0 in
    let fails = subst (λ (part : Option CodeLabels). Declares (if_there (labels_in spellings) part) (Err why))
    c.as_ref.ensures.value (c.in_err-labels.ensures spellings) in
    stopped (IsBlock (outer_view old) c.args.number sort labels rows body line (body_view spellings) old) why
    c.from_residual.result (err_from_is_err_and _ c.from_residual.ensures.1)
    (labels_fail (outer_view old) c.args.number sort labels rows body line why fails)

pub returns-in_err-locals_of-clause-means : goal.returns-in_err-locals_of-clause-means
returns-in_err-locals_of-clause-means c inner ready program_is waits line =
    let old : CodeScopes = c.args.scopes.now in
    let within : CodeScopes = c.enter.new.scopes in
    let now : CodeScopes = c.locals_of.new.scopes in
    let spellings = old.spellings.now in
    let block = c.args.block.now in
    let sort : Sort = sort_view c.args.sort in
    let labels : Option Labels = if_there (labels_in spellings) block.labels in
    let rows : List ℕ → Option (Rows VariableRow) =
    λ seen. if_there (rows_in seen (variable_row_in seen)) block.variables in
    let body : Compound = compound_in spellings block.body in
    let declares = subst (λ (part : Option CodeLabels). Declares (if_there (labels_in spellings) part)
    (Ok c.in_ok-labels.labels)) c.as_ref.ensures.value (c.in_ok-labels.ensures spellings) in
    let numbers_are = c.in_ok-numbers.ensures spellings
    ∙ ap (λ (part : Option CodeLabels). declared_labels (if_there (labels_in spellings) part))
    c.as_ref-2.ensures.value in
    let inside = c.enter.ensures.inner inner waits
    ∙ ap (λ (all : List ℕ). Some (record inner { labels = all })) numbers_are in
    let why : Stop = c.in_err-locals_of.field-0.0 in
    let passes = subst (λ (part : Option (CodeRows CodeRow)). PassesFrom within now
    (λ seen. if_there (rows_in seen (variable_row_in seen)) part) (Err why)) c.as_ref-3.ensures.value
    c.in_err-locals_of.ensures.passes in
    stopped (IsBlock (outer_view old) c.args.number sort labels (rows spellings) body line (body_view spellings) now) why
    c.from_residual-in_err-locals_of.result (err_from_is_err_and _ c.from_residual-in_err-locals_of.ensures.1)
    (variables_stop old within now ready inner c.args.number sort labels rows block.body line waits inside
    c.enter.ensures.routines c.enter.ensures.kept declares.1 why passes)

pub returns-in_err-statements-clause-means : goal.returns-in_err-statements-clause-means
returns-in_err-statements-clause-means c inner ready program_is waits line =
    let old : CodeScopes = c.args.scopes.now in
    let within : CodeScopes = c.enter.new.scopes in
    let now : CodeScopes = c.locals_of.new.scopes in
    let spellings = old.spellings.now in
    let block = c.args.block.now in
    let sort : Sort = sort_view c.args.sort in
    let labels : Option Labels = if_there (labels_in spellings) block.labels in
    let rows : List ℕ → Option (Rows VariableRow) =
    λ seen. if_there (rows_in seen (variable_row_in seen)) block.variables in
    let body : Compound = compound_in spellings block.body in
    let declares = subst (λ (part : Option CodeLabels). Declares (if_there (labels_in spellings) part)
    (Ok c.in_ok-labels.labels)) c.as_ref.ensures.value (c.in_ok-labels.ensures spellings) in
    let numbers_are = c.in_ok-numbers.ensures spellings
    ∙ ap (λ (part : Option CodeLabels). declared_labels (if_there (labels_in spellings) part))
    c.as_ref-2.ensures.value in
    let inside = c.enter.ensures.inner inner waits
    ∙ ap (λ (all : List ℕ). Some (record inner { labels = all })) numbers_are in
    let passes = subst (λ (part : Option (CodeRows CodeRow)). PassesFrom within now
    (λ seen. if_there (rows_in seen (variable_row_in seen)) part) (Ok tt)) c.as_ref-3.ensures.value
    c.in_ok-locals_of.ensures.passes in
    let why : Stop = c.in_err-statements.field-0.0 in
    let kept_on = c.in_ok-locals_of.ensures.kept in
    let left = leaves old within now ready inner c.args.number sort labels rows block.body line waits inside
    c.enter.ensures.routines c.enter.ensures.kept declares.1 passes kept_on in
    let is_body = c.in_err-statements.ensures left.inner left.within
    (labels_now old within now ready inner c.args.number sort labels rows block.body line waits inside
    c.enter.ensures.routines c.enter.ensures.kept declares.1 passes kept_on c.in_ok-labels.labels declares.0)
    (program_now old within now ready inner c.args.number sort labels rows block.body line waits inside
    c.enter.ensures.routines c.enter.ensures.kept declares.1 passes kept_on c.args.program.now program_is) (out-Compound block.body).begin line in
    stopped (IsBlock (outer_view old) c.args.number sort labels (rows spellings) body line (body_view spellings) now) why
    c.from_residual-in_err-statements.result (err_from_is_err_and _ c.from_residual-in_err-statements.ensures.1)
    (statements_stop old within now ready inner c.args.number sort labels rows block.body line waits inside
    c.enter.ensures.routines c.enter.ensures.kept declares.1 passes kept_on why is_body)

pub returns-clause-means : goal.returns-clause-means
returns-clause-means c inner ready program_is waits line =
    let old : CodeScopes = c.args.scopes.now in
    let within : CodeScopes = c.enter.new.scopes in
    let now : CodeScopes = c.locals_of.new.scopes in
    let spellings = old.spellings.now in
    let block = c.args.block.now in
    let sort : Sort = sort_view c.args.sort in
    let labels : Option Labels = if_there (labels_in spellings) block.labels in
    let rows : List ℕ → Option (Rows VariableRow) =
    λ seen. if_there (rows_in seen (variable_row_in seen)) block.variables in
    let body : Compound = compound_in spellings block.body in
    let declares = subst (λ (part : Option CodeLabels). Declares (if_there (labels_in spellings) part)
    (Ok c.in_ok-labels.labels)) c.as_ref.ensures.value (c.in_ok-labels.ensures spellings) in
    let numbers_are = c.in_ok-numbers.ensures spellings
    ∙ ap (λ (part : Option CodeLabels). declared_labels (if_there (labels_in spellings) part))
    c.as_ref-2.ensures.value in
    let inside = c.enter.ensures.inner inner waits
    ∙ ap (λ (all : List ℕ). Some (record inner { labels = all })) numbers_are in
    let passes = subst (λ (part : Option (CodeRows CodeRow)). PassesFrom within now
    (λ seen. if_there (rows_in seen (variable_row_in seen)) part) (Ok tt)) c.as_ref-3.ensures.value
    c.in_ok-locals_of.ensures.passes in
    let kept_on = c.in_ok-locals_of.ensures.kept in
    let left = leaves old within now ready inner c.args.number sort labels rows block.body line waits inside
    c.enter.ensures.routines c.enter.ensures.kept declares.1 passes kept_on in
    let is_body = c.in_ok-statements.ensures left.inner left.within
    (labels_now old within now ready inner c.args.number sort labels rows block.body line waits inside
    c.enter.ensures.routines c.enter.ensures.kept declares.1 passes kept_on c.in_ok-labels.labels declares.0)
    (program_now old within now ready inner c.args.number sort labels rows block.body line waits inside
    c.enter.ensures.routines c.enter.ensures.kept declares.1 passes kept_on c.args.program.now program_is) (out-Compound block.body).begin line in
    block_done old within now ready inner c.args.number sort labels rows block.body line waits inside
    c.enter.ensures.routines c.enter.ensures.kept declares.1 passes kept_on
    c.in_ok-statements.statements is_body c.leave.new.scopes c.leave.result c.leave.ensures.kept
    (c.leave.ensures.body left.inner left.within.inside)
