use Rattle.std.proofs.Common.{◌≡◌, ℕ, ◌+◌, ◌++◌, Vec, Global, replicate}
use Rattle.pas_meaning.specs.Trial.{global_cell}
use Rattle.pas_run.specs.declared.cells.Cell.{Cell}
use Rattle.pas_run.specs.declared.cells.Cell.TheVariants.{Undefined}
use Rattle.pas_run.specs.inner.FlatStore.{flat_cell}
use Rattle.std.proofs.lemmas.Result.{err_from_is_err_and}
use Rattle.pas_typed.specs.Types.{cells_of}
use Rattle.pas_typed.specs.TypedViews.{variable_view, program_view}
use Rattle.pas_run.proofs.CopyLemmas.{found_early, found_other}
use Rattle.pas_run.proofs.StartLemmas.{found_so, blank_found}
use Rattle.pas_run.proofs.start.with_global.Goals as goal

pub returns-in_err-more-in-None-clause-found : goal.returns-in_err-more-in-None-clause-found
returns-in_err-more-in-None-clause-found c lawful kinds =
    let program = program_view c.args.program.now in
    let found = variable_view c.args.program.now.spellings c.args.variable.now in
    let whole = cells_of program.types found.type in
    let row = c.args.cells.items ++ flat_cell kinds (global_cell program c.args.number found) in
    found_early {T = Vec Cell Global} (λ (now : Vec Cell Global). now.items ≡ row) c.in_err-more-in-None.field-0.0
    c.from_residual.result (err_from_is_err_and _ c.from_residual.ensures.1)
    (found_other {T = ℕ} {U = Vec Cell Global} (λ (all : ℕ). all ≡ 0 + whole)
    (λ (now : Vec Cell Global). now.items ≡ row) c.in_err-more-in-None.field-0.0
    (c.in_err-more-in-None.ensures.found whole (c.cells_of.ensures c.args.program.now.spellings)))

pub returns-in_ok-more-in-None-clause-found : goal.returns-in_ok-more-in-None-clause-found
returns-in_ok-more-in-None-clause-found c lawful kinds =
    let program = program_view c.args.program.now in
    let found = variable_view c.args.program.now.spellings c.args.variable.now in
    found_so {T = Vec Cell Global}
    (λ (now : Vec Cell Global). now.items ≡ c.args.cells.items ++ replicate c.in_ok-more-in-None.more Undefined)
    (λ (now : Vec Cell Global). now.items
    ≡ c.args.cells.items ++ flat_cell kinds (global_cell program c.args.number found)) c.with_more_blanks.result
    (λ now is. blank_found program kinds c.args.number c.in_ok-more-in-None.more found c.args.cells.items now.items
    lawful (c.in_ok-more-in-None.ensures.found (cells_of program.types found.type)
    (c.cells_of.ensures c.args.program.now.spellings)) c.in-None.ensures is)
    c.with_more_blanks.ensures.found
