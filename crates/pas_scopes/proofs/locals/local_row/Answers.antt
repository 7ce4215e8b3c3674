use Rattle.std.proofs.lemmas.Result.{err_from_is_err_and}
use Rattle.pas_scopes.specs.declared.scopes.Scopes.{Scopes as CodeScopes}
use Rattle.pas_scopes.specs.Locals.{Passes}
use Rattle.pas_scopes.proofs.LocalRowLemmas.{stopped}
use Rattle.pas_scopes.proofs.WithinLemmas.{seen_scopes, seen_agrees, row_stage, found_row, names_fail, form_fails}
use Rattle.pas_scopes.proofs.WithinLemmas.{row_returns}
use Rattle.pas_syntax.specs.Words.{variable_row_words}
use Rattle.pas_scopes.proofs.locals.local_row.Goals as goal

pub returns-in_err-new_names-clause-passes : goal.returns-in_err-new_names-clause-passes
returns-in_err-new_names-clause-passes c inner h =
    let old : CodeScopes = c.args.scopes.now in
    stopped (Passes (variable_row_words (found_row old inner c.args.row.now)) (row_stage old inner c.args.row.now) _)
    c.in_err-new_names.field-0.0 c.from_residual.result (err_from_is_err_and _ c.from_residual.ensures.1)
    (names_fail old inner c.args.row.now h c.new-before.result c.new-before.ensures c.in_err-new_names.field-0.0
    c.in_err-new_names.ensures.answer)

pub returns-in_err-made-clause-passes : goal.returns-in_err-made-clause-passes
returns-in_err-made-clause-passes c inner h =
    let old : CodeScopes = c.args.scopes.now in
    stopped (Passes (variable_row_words (found_row old inner c.args.row.now)) (row_stage old inner c.args.row.now) _)
    c.in_err-made.field-0.0 c.from_residual-in_err-made.result
    (err_from_is_err_and _ c.from_residual-in_err-made.ensures.1)
    (form_fails old inner c.args.row.now h c.new-before.result c.new-before.ensures c.in_ok-new_names.ensures.answer
    c.in_err-made.field-0.0
    (c.in_err-made.ensures.answers (seen_scopes old inner) (seen_agrees old inner h) 0))

pub returns-clause-passes : goal.returns-clause-passes
returns-clause-passes c inner h =
    let old : CodeScopes = c.args.scopes.now in
    row_returns old inner c.args.row.now h c.new-before.result c.new-before.ensures c.in_ok-new_names.ensures.answer
    c.in_ok-made.made c.form_alone.new.scopes c.in_ok-made.ensures.kept
    (c.in_ok-made.ensures.answers (seen_scopes old inner) (seen_agrees old inner h) 0)
    c.add_locals.new.scopes c.add_locals.ensures.kept c.add_locals.result c.add_locals.ensures.answers
    c.add_locals.ensures.inner c.in_ok-made.ensures.whole c.in_ok-new_names.ensures.new
