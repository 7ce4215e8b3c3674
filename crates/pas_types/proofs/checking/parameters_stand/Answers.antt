use Rattle.std.proofs.Common.{sym, subst, Option}
use Rattle.pas_syntax.specs.declared.tree.ProgramParameters.{ProgramParameters as CodeParameters}
use Rattle.pas_syntax.specs.Views.{if_there}
use Rattle.pas_syntax.specs.ProgramViews.{program_parameters_in}
use Rattle.pas_scopes.specs.ScopeViews.{scopes_view}
use Rattle.pas_types.specs.inner.Checking.{IsHeading}
use Rattle.pas_types.proofs.ParameterLemmas.{heading_stands}
use Rattle.pas_types.proofs.checking.parameters_stand.Goals as goal

pub returns-in-Some : goal.returns-in-Some
returns-in-Some c =
    let spellings = c.args.scopes.now.spellings.now in
    let outer = (scopes_view c.args.scopes.now).outer in
    subst (λ (found : Option CodeParameters). IsHeading outer (if_there (program_parameters_in spellings) found)
    c.each_stands.result) (sym c.in-Some.is)
    (heading_stands outer (program_parameters_in spellings c.in-Some.parameters) c.each_stands.result
    c.each_stands.ensures)
