use Rattle.std.proofs.Common.{◌≡◌, ap, subst, ◌∙◌, ℕ, List, ◌∷◌, map, Some, Ok, Err}
use Rattle.std.proofs.lemmas.Result.{err_from_is_err_and}
use Rattle.pas_tokens.specs.declared.kinds.Kind.TheVariants as k
use Rattle.pas_syntax.specs.declared.tree.VariableRow.{VariableRow as CodeRow}
use Rattle.pas_syntax.specs.Tree.{VariableRow}
use Rattle.pas_syntax.specs.ProgramViews.{variable_row_in, rows_in}
use Rattle.pas_syntax.specs.Words.{variable_row_words, rows_words}
use Rattle.pas_scopes.specs.declared.scopes.Scopes.{Scopes as CodeScopes}
use Rattle.pas_rules.specs.Declarations.{local_rows}
use Rattle.pas_scopes.specs.ScopeViews.{outer_view, inner_view}
use Rattle.pas_scopes.specs.Locals.{Passes}
use Rattle.pas_scopes.proofs.GrowthLemmas.{grows_on}
use Rattle.pas_scopes.proofs.LocalRowLemmas.{stopped}
use Rattle.pas_scopes.proofs.LocalRowsLemmas.{RowPasses, RowsPass, lead_first, over_kept, part_passes, rows_next}
use Rattle.pas_scopes.proofs.LocalRowsLemmas.{rows_fail, rows_all, row_fails}
use Rattle.pas_scopes.proofs.locals.local_rows.Goals as goal

pub loop-row-init : goal.loop-row-init
loop-row-init c =
    let old : CodeScopes = c.args.scopes.now in
    let now : CodeScopes = c.local_row.new.scopes in
    record {
      kept = c.in_ok-local_row.ensures.kept;
      grows = c.in_ok-local_row.ensures.grows;
      leads = lead_first (outer_view old) (variable_row_in old.spellings.now c.args.rows.now.first) old now
          (over_kept old now c.in_ok-local_row.ensures.kept) c.in_ok-local_row.ensures.passes;
    }

pub loop-row-preserved : goal.loop-row-preserved
loop-row-preserved c =
    let old : CodeScopes = c.args.scopes.now in
    let now : CodeScopes = c.loop-row.scopes in
    let later : CodeScopes = c.local_row-in-loop-row.new.scopes in
    let spellings = old.spellings.now in
    let next : CodeRow = c.row-item.result in
    let kept : later ≡ record old { types = later.types; inner = later.inner } =
    c.in_ok-local_row-2.ensures.kept
    ∙ ap (λ (scopes : CodeScopes). record scopes { types = later.types; inner = later.inner })
    c.loop-row.invariant.kept in
    record {
      kept = kept;
      grows = grows_on old.types now.types later.types c.loop-row.invariant.grows c.in_ok-local_row-2.ensures.grows;
      leads = rows_next (variable_row_in spellings) (outer_view old)
          (variable_row_in spellings c.args.rows.now.first) c.as_slice-row-items.result.now c.loop-row.row-index old now
          c.loop-row.invariant.leads next c.loop-row-test.true later (over_kept old later kept)
          (subst (λ (row : CodeRow). RowPasses (outer_view old) (variable_row_in spellings row) now later (Ok tt))
          c.row-item.is
          (subst (λ (seen : List ℕ). RowPasses (outer_view old) (variable_row_in seen next) now later (Ok tt))
          (ap (λ (scopes : CodeScopes). scopes.spellings.now) c.loop-row.invariant.kept)
          c.in_ok-local_row-2.ensures.passes));
    }

pub returns-clause-passes : goal.returns-clause-passes
returns-clause-passes c =
    let old : CodeScopes = c.args.scopes.now in
    let spellings = old.spellings.now in
    part_passes (rows_in spellings (variable_row_in spellings) c.args.rows.now) old c.loop-row.scopes (Ok tt)
    (subst (λ (more : List CodeRow). RowsPass (outer_view old)
    (variable_row_in spellings c.args.rows.now.first ∷ map (variable_row_in spellings) more) old c.loop-row.scopes
    (Ok tt)) c.as_slice-row-items.ensures
    (rows_all (variable_row_in spellings) (outer_view old) (variable_row_in spellings c.args.rows.now.first)
    c.as_slice-row-items.result.now c.loop-row.row-index old c.loop-row.scopes c.loop-row.invariant.leads
    c.loop-row-test.false))

pub returns-in_err-local_row-clause-passes : goal.returns-in_err-local_row-clause-passes
returns-in_err-local_row-clause-passes c inner h =
    let old : CodeScopes = c.args.scopes.now in
    let new : CodeScopes = c.local_row.new.scopes in
    let spellings = old.spellings.now in
    let first : VariableRow = variable_row_in spellings c.args.rows.now.first in
    let more : List VariableRow = map (variable_row_in spellings) c.args.rows.now.more in
    stopped (Passes (rows_words k.Var variable_row_words (rows_in spellings (variable_row_in spellings)
    c.args.rows.now))
    (local_rows (outer_view old) (inner_view spellings inner)
    (Some (rows_in spellings (variable_row_in spellings) c.args.rows.now))) new)
    c.in_err-local_row.field-0.0 c.from_residual.result (err_from_is_err_and _ c.from_residual.ensures.1)
    (part_passes (rows_in spellings (variable_row_in spellings) c.args.rows.now) old new
    (Err c.in_err-local_row.field-0.0)
    (row_fails (outer_view old) first more old new c.in_err-local_row.field-0.0 c.in_err-local_row.ensures.passes)
    inner h)

pub returns-in_err-local_row-2-clause-passes : goal.returns-in_err-local_row-2-clause-passes
returns-in_err-local_row-2-clause-passes c inner h =
    let old : CodeScopes = c.args.scopes.now in
    let now : CodeScopes = c.loop-row.scopes in
    let new : CodeScopes = c.local_row-in-loop-row.new.scopes in
    let spellings = old.spellings.now in
    let first : VariableRow = variable_row_in spellings c.args.rows.now.first in
    let next : CodeRow = c.row-item.result in
    let why = c.in_err-local_row-2.field-0.0 in
    stopped (Passes (rows_words k.Var variable_row_words (rows_in spellings (variable_row_in spellings)
    c.args.rows.now))
    (local_rows (outer_view old) (inner_view spellings inner)
    (Some (rows_in spellings (variable_row_in spellings) c.args.rows.now))) new)
    why c.from_residual-in_err-local_row-2.result
    (err_from_is_err_and _ c.from_residual-in_err-local_row-2.ensures.1)
    (part_passes (rows_in spellings (variable_row_in spellings) c.args.rows.now) old new (Err why)
    (subst (λ (more : List CodeRow). RowsPass (outer_view old) (first ∷ map (variable_row_in spellings) more) old new
    (Err why)) c.as_slice-row-items.ensures
    (rows_fail (variable_row_in spellings) (outer_view old) first c.as_slice-row-items.result.now c.loop-row.row-index
    old now c.loop-row.invariant.leads next c.loop-row-test.true new why
    (subst (λ (row : CodeRow). RowPasses (outer_view old) (variable_row_in spellings row) now new (Err why))
    c.row-item.is
    (subst (λ (seen : List ℕ). RowPasses (outer_view old) (variable_row_in seen next) now new (Err why))
    (ap (λ (scopes : CodeScopes). scopes.spellings.now) c.loop-row.invariant.kept)
    c.in_err-local_row-2.ensures.passes)))) inner h)
