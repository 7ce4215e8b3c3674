use Rattle.std.proofs.Common.{refl}
use Rattle.std.proofs.lemmas.Result.{err_from_is_err_and}
use Rattle.pas_syntax.specs.ProgramViews.{compound_in}
use Rattle.pas_syntax.specs.inner.DeclarationViews.{program_head_in, declarations_in}
use Rattle.pas_syntax.proofs.PlaceLemmas.{returned, stops, goes_as}
use Rattle.pas_syntax.proofs.PlaceSteps.{from_here, and_then, stopped, read}
use Rattle.pas_syntax.proofs.RoutineSteps.{program_goes, program_made, behind_dot, behind_compound}
use Rattle.pas_syntax.proofs.RoutineSteps.{behind_declarations, behind_program_head}
use Rattle.pas_syntax.proofs.programs.program_tree.Goals as goal

pub returns-in_err-head : goal.returns-in_err-head
returns-in_err-head c =
    returned (err_from_is_err_and _ c.from_residual.ensures.1)
    (goes_as (λ m. program_goes m c.args.reader.now.tokens) (stops behind_program_head c.in_err-head.ensures))

pub returns-in_err-declarations : goal.returns-in_err-declarations
returns-in_err-declarations c =
    let s = c.args.reader.now.spellings in
    let head = program_head_in s c.in_ok-head.head in
    goes_as (λ m. program_goes m c.args.reader.now.tokens) (from_here (and_then behind_program_head c.in_ok-head.ensures
    (stopped (behind_declarations head) c.from_residual-in_err-declarations.result c.in_err-declarations.ensures
    c.from_residual-in_err-declarations.ensures.1)))

pub returns-in_err-body : goal.returns-in_err-body
returns-in_err-body c =
    let s = c.args.reader.now.spellings in
    let head = program_head_in s c.in_ok-head.head in
    let declarations = declarations_in s c.in_ok-declarations.declarations in
    goes_as (λ m. program_goes m c.args.reader.now.tokens) (from_here (and_then behind_program_head c.in_ok-head.ensures
    (and_then (behind_declarations head) c.in_ok-declarations.ensures
    (stopped (λ m. behind_compound head declarations) c.from_residual-in_err-body.result c.in_err-body.ensures
    c.from_residual-in_err-body.ensures.1))))

pub returns-in_err-dot : goal.returns-in_err-dot
returns-in_err-dot c =
    let s = c.args.reader.now.spellings in
    let head = program_head_in s c.in_ok-head.head in
    let declarations = declarations_in s c.in_ok-declarations.declarations in
    let body = compound_in s c.in_ok-body.body in
    goes_as (λ m. program_goes m c.args.reader.now.tokens) (from_here (and_then behind_program_head c.in_ok-head.ensures
    (and_then (behind_declarations head) c.in_ok-declarations.ensures
    (and_then (λ m. behind_compound head declarations) c.in_ok-body.ensures
    (stopped (λ m. behind_dot head declarations body) c.from_residual-in_err-dot.result c.in_err-dot.ensures
    c.from_residual-in_err-dot.ensures.1)))))

pub returns-in_err-end : goal.returns-in_err-end
returns-in_err-end c =
    let s = c.args.reader.now.spellings in
    let head = program_head_in s c.in_ok-head.head in
    let declarations = declarations_in s c.in_ok-declarations.declarations in
    let body = compound_in s c.in_ok-body.body in
    let dot = c.in_ok-dot.dot in
    goes_as (λ m. program_goes m c.args.reader.now.tokens) (from_here (and_then behind_program_head c.in_ok-head.ensures
    (and_then (behind_declarations head) c.in_ok-declarations.ensures
    (and_then (λ m. behind_compound head declarations) c.in_ok-body.ensures
    (and_then (λ m. behind_dot head declarations body) c.in_ok-dot.ensures
    (stopped (λ m. program_made head declarations body dot) c.from_residual-in_err-end.result c.in_err-end.ensures
    c.from_residual-in_err-end.ensures.1))))))

pub returns : goal.returns
returns c =
    let s = c.args.reader.now.spellings in
    let head = program_head_in s c.in_ok-head.head in
    let declarations = declarations_in s c.in_ok-declarations.declarations in
    let body = compound_in s c.in_ok-body.body in
    let dot = c.in_ok-dot.dot in
    goes_as (λ m. program_goes m c.args.reader.now.tokens) (from_here (and_then behind_program_head c.in_ok-head.ensures
    (and_then (behind_declarations head) c.in_ok-declarations.ensures
    (and_then (λ m. behind_compound head declarations) c.in_ok-body.ensures
    (and_then (λ m. behind_dot head declarations body) c.in_ok-dot.ensures
    (and_then (λ m. program_made head declarations body dot) c.in_ok-end.ensures
    (read refl)))))))
