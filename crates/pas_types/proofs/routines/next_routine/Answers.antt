use Rattle.std.proofs.Common.{sym, ap, subst, [], Option}
use Rattle.wb_base.specs.declared.faults.Fault.{Fault}
use Rattle.pas_syntax.specs.Tree.{Routine}
use Rattle.pas_syntax.specs.ProgramViews.{routine_in}
use Rattle.pas_scopes.specs.declared.scopes.Scopes.{Scopes as CodeScopes}
use Rattle.pas_scopes.specs.ScopeViews.{outer_view}
use Rattle.pas_types.proofs.ThroughLemmas.{Stepped, name_alone}
use Rattle.pas_types.proofs.routines.next_routine.Goals as goal

pub returns-in_ok-unclear_name-in-Some-clause-steps : goal.returns-in_ok-unclear_name-in-Some-clause-steps
returns-in_ok-unclear_name-in-Some-clause-steps c labels =
    let old : CodeScopes = c.args.scopes.now in
    let new : CodeScopes = c.unclear_name.new.scopes in
    let found : Routine = routine_in old.spellings.now c.args.routine.now in
    subst (λ (a : Option Fault). Stepped found old new a a []) (sym c.in-Some.is)
    (name_alone found old new c.in-Some.field-0 c.in_ok-unclear_name-in-Some.ensures.names
    (ap (λ (s : CodeScopes). (outer_view s).types) c.in_ok-unclear_name-in-Some.ensures.kept)
    (ap (λ (s : CodeScopes). s.cells) c.in_ok-unclear_name-in-Some.ensures.kept))
