use Rattle.pas_syntax.specs.Views.{expr_in}
use Rattle.pas_syntax.specs.Words.{expr_words}
use Rattle.pas_rules.specs.Expressions.{value_of}
use Rattle.pas_scopes.specs.ScopeViews.{scopes_view}
use Rattle.pas_types.proofs.FileLemmas.{stopped_unnamed}
use Rattle.pas_types.proofs.transfers.named_file.Goals as goal

pub returns-in-Ok : goal.returns-in-Ok
returns-in-Ok c clear n =
    let scopes = scopes_view c.args.scopes.now in
    let expr = expr_in c.args.scopes.now.spellings.now c.args.argument.now.value in
    c.file_alone.ensures (expr_words n 0 expr) (value_of scopes expr) (c.in-Ok.ensures clear n 0)

pub returns-in-Err-Fault : goal.returns-in-Err-Fault
returns-in-Err-Fault c clear n =
    let scopes = scopes_view c.args.scopes.now in
    let expr = expr_in c.args.scopes.now.spellings.now c.args.argument.now.value in
    stopped_unnamed scopes (expr_words n 0 expr) expr c.in-Err-Fault.field-0
    (λ memory. let is = c.in-Err-Fault.field-0-is in cc) (c.in-Err-Fault.ensures clear n 0)

pub returns-in-Err-Missing : goal.returns-in-Err-Missing
returns-in-Err-Missing c clear n =
    let scopes = scopes_view c.args.scopes.now in
    let expr = expr_in c.args.scopes.now.spellings.now c.args.argument.now.value in
    stopped_unnamed scopes (expr_words n 0 expr) expr c.in-Err-Missing.field-0
    (λ memory. let is = c.in-Err-Missing.field-0-is in cc) (c.in-Err-Missing.ensures clear n 0)
