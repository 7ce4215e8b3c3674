use Rattle.std.proofs.Common.{sym, subst, Option, Some, None, Err}
use Rattle.pas_syntax.specs.Tree.{Ident, Behind, TypeName}
use Rattle.pas_syntax.specs.Views.{ident_in, behind_in, if_there}
use Rattle.pas_syntax.specs.ProgramViews.{parameters_in, type_name_in}
use Rattle.pas_scopes.specs.declared.stop.Stop.{Stop}
use Rattle.pas_scopes.specs.ScopeViews.{outer_view}
use Rattle.pas_types.specs.inner.RoutineAnswers.{sort_view}
use Rattle.pas_types.proofs.SecondLemmas.{Second, more_parameters, more_result}
use Rattle.pas_types.proofs.headings.second_heading.Goals as goal

pub returns-in-Some-default : goal.returns-in-Some-default
returns-in-Some-default c word number =
    let old = c.args.scopes.now in
    let spellings = old.spellings.now in
    let head = c.args.head in
    let name : Ident = ident_in spellings head.name in
    let result : Option (Behind TypeName) = if_there (behind_in (type_name_in spellings)) head.result in
    let parameters = parameters_in spellings c.in-Some-default.parameters.now in
    rw c.in-Some-default.is-0
    (subst (λ (why : Stop). Second (outer_view old) word (sort_view head.sort) name number head.end (Some parameters)
    result (Err why)) (sym c.fault.ensures)
    (more_parameters (outer_view old) word (sort_view head.sort) name number head.end parameters result))

pub returns-in-None-Some : goal.returns-in-None-Some
returns-in-None-Some c word number =
    let old = c.args.scopes.now in
    let spellings = old.spellings.now in
    let head = c.args.head in
    let name : Ident = ident_in spellings head.name in
    let given : Behind TypeName = behind_in (type_name_in spellings) c.in-None-Some.result in
    rw c.in-None-Some.is-0
    (rw c.in-None-Some.is-1
    (subst (λ (why : Stop). Second (outer_view old) word (sort_view head.sort) name number head.end None
    (Some given) (Err why)) (sym c.fault-in-None-Some.ensures)
    (more_result (outer_view old) word (sort_view head.sort) name number head.end given)))
