use Rattle.std.proofs.Common.{not, true, false, ◌≡◌, sym, ap, subst, ◌∙◌, Bool, Some, None, Ok, Err}
use Rattle.std.proofs.lemmas.Result.{err_from_is_err_and}
use Rattle.wb_base.specs.declared.faults.TheConstants.{WRONG_TYPE}
use Rattle.pas_syntax.specs.declared.tree.Body.{Body as CodeBodyTree}
use Rattle.pas_syntax.specs.Views.{if_there}
use Rattle.pas_syntax.specs.ProgramViews.{body_in, labels_in, variable_row_in, rows_in, compound_in}
use Rattle.pas_typed.specs.TypedViews.{body_view}
use Rattle.pas_scopes.specs.declared.scopes.Scopes.{Scopes as CodeScopes}
use Rattle.pas_scopes.specs.declared.stop.Stop.{Stop}
use Rattle.pas_scopes.specs.Stopping.{demanded}
use Rattle.pas_types.specs.inner.RoutineAnswers.{sort_view, awaited_at}
use Rattle.pas_scopes.proofs.LocalRowLemmas.{stopped}
use Rattle.pas_types.proofs.RoutineSteps.{Whole, some_of, forward_fails, forward_goes, block_fails, block_goes}
use Rattle.pas_types.proofs.routines.body_behind.Goals as goal

unnot : (b c : Bool) → not b ≡ c → b ≡ not c
unnot true c is = ap not is
unnot false c is = ap not is

pub returns-in_err-demand-in-Forward-clause-goes : goal.returns-in_err-demand-in-Forward-clause-goes
returns-in_err-demand-in-Forward-clause-goes c words stage heads second program_is end =
    let old : CodeScopes = c.args.scopes.now in
    let spellings = old.spellings.now in
    let sort = sort_view c.args.sort in
    let view = body_view spellings in
    let why : Stop = c.in_err-demand-in-Forward.field-0.0 in
    stopped (Whole words stage old c.args.number heads sort view end (body_in spellings c.args.body.now) old) why
    c.from_residual.result (err_from_is_err_and _ c.from_residual.ensures.1)
    (subst (λ (body : CodeBodyTree). Whole words stage old c.args.number heads sort view end (body_in spellings body)
    old (Err why)) (sym c.in-Forward.is)
    (forward_fails words stage old c.args.number heads sort view end c.in-Forward.line why
    (sym c.in_err-demand-in-Forward.was ∙ (c.demand.ensures
    ∙ ap (λ (b : Bool). demanded b WRONG_TYPE c.in-Forward.line)
    (unnot c.is_none.result stage.is_second (sym c.is_none.ensures ∙ second))))))

pub returns-in_ok-demand-in-Forward-clause-goes : goal.returns-in_ok-demand-in-Forward-clause-goes
returns-in_ok-demand-in-Forward-clause-goes c words stage heads second program_is end =
    let old : CodeScopes = c.args.scopes.now in
    let spellings = old.spellings.now in
    let sort = sort_view c.args.sort in
    let view = body_view spellings in
    subst (λ (body : CodeBodyTree). Whole words stage old c.args.number heads sort view end (body_in spellings body)
    old (Ok None)) (sym c.in-Forward.is)
    (forward_goes words stage old c.args.number heads sort view end c.in-Forward.line
    (sym c.in_ok-demand-in-Forward.was ∙ (c.demand.ensures
    ∙ ap (λ (b : Bool). demanded b WRONG_TYPE c.in-Forward.line)
    (unnot c.is_none.result stage.is_second (sym c.is_none.ensures ∙ second)))))

pub returns-in_err-block_of-in-Block-clause-goes : goal.returns-in_err-block_of-in-Block-clause-goes
returns-in_err-block_of-in-Block-clause-goes c words stage heads second program_is end =
    let old : CodeScopes = c.args.scopes.now in
    let new : CodeScopes = c.block_of.new.scopes in
    let spellings = old.spellings.now in
    let sort = sort_view c.args.sort in
    let view = body_view spellings in
    let block = c.in-Block.block in
    let waits = some_of (awaited_at old.routines.items c.args.number) heads.waits in
    let why : Stop = c.in_err-block_of-in-Block.field-0.0 in
    stopped (Whole words stage old c.args.number heads sort view end (body_in spellings c.args.body.now) new) why
    c.from_residual-in_err-block_of-in-Block.result
    (err_from_is_err_and _ c.from_residual-in_err-block_of-in-Block.ensures.1)
    (subst (λ (body : CodeBodyTree). Whole words stage old c.args.number heads sort view end (body_in spellings body)
    new (Err why)) (sym c.in-Block.is)
    (block_fails words stage old c.args.number heads sort view end (if_there (labels_in spellings) block.labels)
    (if_there (rows_in spellings (variable_row_in spellings)) block.variables) (compound_in spellings block.body) new
    why (c.in_err-block_of-in-Block.ensures.means waits.0 heads.ready program_is waits.1 end)))

pub returns-in_ok-block_of-in-Block-clause-goes : goal.returns-in_ok-block_of-in-Block-clause-goes
returns-in_ok-block_of-in-Block-clause-goes c words stage heads second program_is end =
    let old : CodeScopes = c.args.scopes.now in
    let new : CodeScopes = c.block_of.new.scopes in
    let spellings = old.spellings.now in
    let sort = sort_view c.args.sort in
    let view = body_view spellings in
    let block = c.in-Block.block in
    let waits = some_of (awaited_at old.routines.items c.args.number) heads.waits in
    subst (λ (body : CodeBodyTree). Whole words stage old c.args.number heads sort view end (body_in spellings body)
    new (Ok (Some c.in_ok-block_of-in-Block.field-0))) (sym c.in-Block.is)
    (block_goes words stage old c.args.number heads sort view end (if_there (labels_in spellings) block.labels)
    (if_there (rows_in spellings (variable_row_in spellings)) block.variables) (compound_in spellings block.body) new
    c.in_ok-block_of-in-Block.field-0
    (c.in_ok-block_of-in-Block.ensures.means waits.0 heads.ready program_is waits.1 end))
