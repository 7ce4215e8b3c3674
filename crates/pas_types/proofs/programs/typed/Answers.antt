use Rattle.std.proofs.Common.{sym, subst, ℕ, List}
use Rattle.std.specs.Option.{option_copied}
use Rattle.std.proofs.lemmas.Result.{err_from_is_err_and}
use Rattle.pas_syntax.specs.declared.tree.ProgramTree.{ProgramTree}
use Rattle.pas_syntax.specs.ProgramViews.{program_in}
use Rattle.pas_typed.specs.TypedViews.{program_view}
use Rattle.pas_scopes.specs.declared.scopes.Scopes.{Scopes as CodeScopes}
use Rattle.pas_types.specs.inner.Programs.{FaultBy}
use Rattle.pas_types.proofs.WholeLemmas.{checks_stop, assembles}
use Rattle.pas_types.proofs.TypedLemmas.{whole_over, new_same, whole_comes, whole_stops, whole_list}
use Rattle.pas_types.proofs.programs.typed.Goals as goal

pub returns-in_err-statements : goal.returns-in_err-statements
returns-in_err-statements c =
    let tree : ProgramTree = c.args.tree.now in
    let spellings : List ℕ = c.args.spellings.now in
    let begun : CodeScopes = c.in_ok-scopes.scopes in
    let new : CodeScopes = c.declarations_of.new.scopes in
    let a = c.labels_of.new.noted in
    let noting = c.declarations_of.new.noted in
    let labels = c.in_ok-labels.labels in
    let bodies = c.in_ok-bodies.bodies in
    let why = c.in_err-statements.field-0.0 in
    let comes = whole_comes tree spellings begun new a noting labels bodies c.in_ok-scopes.ensures.declared
    c.in_ok-scopes.ensures.spellings (option_copied c.as_ref.result) c.as_ref.ensures.value
    (c.in_ok-labels.ensures.labels spellings) (c.in_ok-labels.ensures.notes spellings) c.in_ok-bodies.ensures.goes in
    checks_stop (program_in spellings tree) why c.from_residual-in_err-statements.result
    (err_from_is_err_and _ c.from_residual-in_err-statements.ensures.1)
    (whole_stops tree spellings begun new a noting labels bodies c.in_ok-scopes.ensures.declared
    c.in_ok-scopes.ensures.spellings (option_copied c.as_ref.result) c.as_ref.ensures.value
    (c.in_ok-labels.ensures.labels spellings) (c.in_ok-labels.ensures.notes spellings) c.in_ok-bodies.ensures.goes
    why (c.in_err-statements.ensures comes)) program_view

pub returns : goal.returns
returns c =
    let tree : ProgramTree = c.args.tree.now in
    let spellings : List ℕ = c.args.spellings.now in
    let begun : CodeScopes = c.in_ok-scopes.scopes in
    let new : CodeScopes = c.declarations_of.new.scopes in
    let a = c.labels_of.new.noted in
    let noting = c.declarations_of.new.noted in
    let labels = c.in_ok-labels.labels in
    let bodies = c.in_ok-bodies.bodies in
    let statements = c.in_ok-statements.statements in
    let comes = whole_comes tree spellings begun new a noting labels bodies c.in_ok-scopes.ensures.declared
    c.in_ok-scopes.ensures.spellings (option_copied c.as_ref.result) c.as_ref.ensures.value
    (c.in_ok-labels.ensures.labels spellings) (c.in_ok-labels.ensures.notes spellings) c.in_ok-bodies.ensures.goes in
    let over = whole_over tree spellings begun new a noting labels bodies c.in_ok-scopes.ensures.declared
    c.in_ok-scopes.ensures.spellings (option_copied c.as_ref.result) c.as_ref.ensures.value
    (c.in_ok-labels.ensures.labels spellings) (c.in_ok-labels.ensures.notes spellings) c.in_ok-bodies.ensures.goes in
    let same = new_same tree spellings begun new a noting labels bodies c.in_ok-scopes.ensures.declared
    c.in_ok-scopes.ensures.spellings (option_copied c.as_ref.result) c.as_ref.ensures.value
    (c.in_ok-labels.ensures.labels spellings) (c.in_ok-labels.ensures.notes spellings) c.in_ok-bodies.ensures.goes in
    let list = whole_list tree spellings begun new a noting labels bodies c.in_ok-scopes.ensures.declared
    c.in_ok-scopes.ensures.spellings (option_copied c.as_ref.result) c.as_ref.ensures.value
    (c.in_ok-labels.ensures.labels spellings) (c.in_ok-labels.ensures.notes spellings) c.in_ok-bodies.ensures.goes
    statements (c.in_ok-statements.ensures comes) in
    assembles tree spellings begun new a noting bodies statements c.in_ok-program.program
    c.in_ok-scopes.ensures.spellings same over list c.in_ok-program.ensures.made c.in_ok-program.ensures.headings
    c.in_ok-program.ensures.files

pub returns-in_err-bodies : goal.returns-in_err-bodies
returns-in_err-bodies c =
    let program = program_in c.args.spellings.now c.args.tree.now in
    checks_stop program c.in_err-bodies.field-0.0 c.from_residual-in_err-bodies.result
    (err_from_is_err_and _ c.from_residual-in_err-bodies.ensures.1)
    (subst (FaultBy program) (sym c.in_err-bodies.ensures.memory) tt) program_view
