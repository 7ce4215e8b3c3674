use Rattle.std.proofs.Common.{ℕ, List}
use Rattle.std.proofs.lemmas.Result.{err_from_is_err_and}
use Rattle.pas_syntax.specs.Tree.{Program}
use Rattle.pas_syntax.specs.ProgramViews.{program_in}
use Rattle.pas_typed.specs.TypedViews.{statements_view}
use Rattle.pas_scopes.specs.declared.scopes.Scopes.{Scopes as CodeScopes}
use Rattle.pas_types.proofs.WholeLemmas.{head_stops, noted_stops, clear_whole, alone_whole, labels_whole, main_whole}
use Rattle.pas_types.proofs.WholeLemmas.{faultless_stop}
use Rattle.pas_types.proofs.programs.behind_declarations.Goals as goal

pub returns-in_err-parameters_stand : goal.returns-in_err-parameters_stand
returns-in_err-parameters_stand c comes =
    let scopes : CodeScopes = c.args.scopes.now in
    let spellings : List ℕ = scopes.spellings.now in
    let program : Program = program_in spellings c.args.tree.now in
    let why = c.in_err-parameters_stand.field-0.0 in
    faultless_stop program why c.from_residual.result (err_from_is_err_and _ c.from_residual.ensures.1)
    (head_stops program scopes c.args.noted c.args.labels comes why c.in_err-parameters_stand.ensures) scopes
    c.args.noted (statements_view spellings)

pub returns-in_err-no_fault : goal.returns-in_err-no_fault
returns-in_err-no_fault c comes =
    let scopes : CodeScopes = c.args.scopes.now in
    let spellings : List ℕ = scopes.spellings.now in
    let program : Program = program_in spellings c.args.tree.now in
    let why = c.in_err-no_fault.field-0.0 in
    faultless_stop program why c.from_residual-in_err-no_fault.result
    (err_from_is_err_and _ c.from_residual-in_err-no_fault.ensures.1)
    (noted_stops program scopes c.args.noted c.args.labels comes c.in_ok-parameters_stand.ensures why
    c.in_err-no_fault.ensures) scopes c.args.noted (statements_view spellings)

pub returns : goal.returns
returns c comes =
    let scopes : CodeScopes = c.args.scopes.now in
    let spellings : List ℕ = scopes.spellings.now in
    let program : Program = program_in spellings c.args.tree.now in
    let head = c.in_ok-parameters_stand.ensures in
    let nothing = c.in_ok-no_fault.ensures in
    main_whole program scopes c.args.noted c.args.labels comes head nothing (statements_view spellings)
    c.main_of.result
    (c.main_of.ensures (clear_whole program scopes c.args.noted c.args.labels comes head nothing)
    (alone_whole program scopes c.args.noted c.args.labels comes head nothing)
    (labels_whole program scopes c.args.noted c.args.labels comes head nothing) c.args.tree.now.dot
    c.args.tree.now.end)
