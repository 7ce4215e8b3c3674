use Rattle.std.proofs.Common.{subst, sym, Some}
use Rattle.pas_syntax.specs.ProgramViews.{arguments_in}
use Rattle.pas_syntax.specs.Tree.{procedure_call}
use Rattle.pas_syntax.specs.Words.{name_at, plain_words}
use Rattle.pas_typed.specs.TypedViews.{statement_view}
use Rattle.pas_scopes.specs.declared.names.Procedure.{Procedure as CodeProcedure}
use Rattle.pas_scopes.specs.NameViews.{procedure_view}
use Rattle.pas_scopes.specs.ScopeViews.{scopes_view}
use Rattle.pas_rules.specs.Calls.{actuals_of, procedure_of}
use Rattle.pas_scopes.specs.Answers.{Settles}
use Rattle.pas_types.proofs.calls.procedure_with.Goals as goal

pub returns-in-Read : goal.returns-in-Read
returns-in-Read c clear n name same =
    let scopes = scopes_view c.args.scopes.now in
    let spellings = c.args.scopes.now.spellings.now in
    let arguments = arguments_in spellings c.args.arguments.now in
    subst (λ (found : CodeProcedure). Settles (plain_words n (procedure_call name (Some arguments)))
    (procedure_of scopes (procedure_view found) (actuals_of scopes arguments.items)) (statement_view spellings)
    c.read_call.result) (sym c.in-Read.is) (c.read_call.ensures clear n (name_at n name) same)

pub returns-in-Readln : goal.returns-in-Readln
returns-in-Readln c clear n name same =
    let scopes = scopes_view c.args.scopes.now in
    let spellings = c.args.scopes.now.spellings.now in
    let arguments = arguments_in spellings c.args.arguments.now in
    subst (λ (found : CodeProcedure). Settles (plain_words n (procedure_call name (Some arguments)))
    (procedure_of scopes (procedure_view found) (actuals_of scopes arguments.items)) (statement_view spellings)
    c.read_call-in-Readln.result) (sym c.in-Readln.is) (c.read_call-in-Readln.ensures clear n (name_at n name) same)

pub returns-in-Write : goal.returns-in-Write
returns-in-Write c clear n name same =
    let scopes = scopes_view c.args.scopes.now in
    let spellings = c.args.scopes.now.spellings.now in
    let arguments = arguments_in spellings c.args.arguments.now in
    subst (λ (found : CodeProcedure). Settles (plain_words n (procedure_call name (Some arguments)))
    (procedure_of scopes (procedure_view found) (actuals_of scopes arguments.items)) (statement_view spellings)
    c.write_call.result) (sym c.in-Write.is) (c.write_call.ensures clear n (name_at n name) same)

pub returns-in-Writeln : goal.returns-in-Writeln
returns-in-Writeln c clear n name same =
    let scopes = scopes_view c.args.scopes.now in
    let spellings = c.args.scopes.now.spellings.now in
    let arguments = arguments_in spellings c.args.arguments.now in
    subst (λ (found : CodeProcedure). Settles (plain_words n (procedure_call name (Some arguments)))
    (procedure_of scopes (procedure_view found) (actuals_of scopes arguments.items)) (statement_view spellings)
    c.write_call-in-Writeln.result) (sym c.in-Writeln.is)
    (c.write_call-in-Writeln.ensures clear n (name_at n name) same)

pub returns-in-Uexit : goal.returns-in-Uexit
returns-in-Uexit c clear n name same =
    let scopes = scopes_view c.args.scopes.now in
    let spellings = c.args.scopes.now.spellings.now in
    let arguments = arguments_in spellings c.args.arguments.now in
    subst (λ (found : CodeProcedure). Settles (plain_words n (procedure_call name (Some arguments)))
    (procedure_of scopes (procedure_view found) (actuals_of scopes arguments.items)) (statement_view spellings)
    c.halt_with.result) (sym c.in-Uexit.is) (c.halt_with.ensures clear n name)
