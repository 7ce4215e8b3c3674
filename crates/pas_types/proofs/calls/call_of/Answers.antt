use Rattle.std.proofs.Common.{subst, sym, Option}
use Rattle.pas_syntax.specs.declared.tree.Arguments.{Arguments as CodeArguments}
use Rattle.pas_syntax.specs.ProgramViews.{arguments_in}
use Rattle.pas_syntax.specs.Tree.{procedure_call}
use Rattle.pas_syntax.specs.Views.{ident_in, if_there}
use Rattle.pas_syntax.specs.Words.{plain_words}
use Rattle.pas_typed.specs.TypedViews.{statement_view}
use Rattle.pas_rules.specs.Scopes.{entity_of}
use Rattle.pas_scopes.specs.ScopeViews.{scopes_view}
use Rattle.pas_rules.specs.Calls as spec
use Rattle.pas_scopes.specs.Answers.{Settles}
use Rattle.pas_types.proofs.calls.call_of.Goals as goal

pub returns-in-Some : goal.returns-in-Some
returns-in-Some c clear n =
    let scopes = scopes_view c.args.scopes.now in
    let spellings = c.args.scopes.now.spellings.now in
    let name = ident_in spellings c.args.call.now.name in
    subst (λ (arguments : Option CodeArguments). Settles
    (plain_words n (procedure_call name (if_there (arguments_in spellings) arguments)))
    (spec.call_of scopes (entity_of scopes name.name) (if_there (arguments_in spellings) arguments))
    (statement_view spellings) c.call_with.result) (sym c.in-Some.is) (c.call_with.ensures clear n)

pub returns-in-None : goal.returns-in-None
returns-in-None c clear n =
    let scopes = scopes_view c.args.scopes.now in
    let spellings = c.args.scopes.now.spellings.now in
    let name = ident_in spellings c.args.call.now.name in
    subst (λ (arguments : Option CodeArguments). Settles
    (plain_words n (procedure_call name (if_there (arguments_in spellings) arguments)))
    (spec.call_of scopes (entity_of scopes name.name) (if_there (arguments_in spellings) arguments))
    (statement_view spellings) c.call_alone.result) (sym c.in-None.is) (c.call_alone.ensures clear n)
