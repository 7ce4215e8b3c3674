use Rattle.std.proofs.lemmas.Result.{err_from_is_err_and}
use Rattle.std.specs.Prelude.{not, nat_lt, length}
use Rattle.pas_syntax.specs.Tree.{Ident}
use Rattle.pas_syntax.specs.Views.{ident_in}
use Rattle.pas_syntax.specs.Words.{name_at}
use Rattle.pas_rules.specs.declared.limits.TheConstants.{ROUTINE_LIMIT}
use Rattle.pas_rules.specs.Scopes.{Outer, contains}
use Rattle.pas_rules.specs.Declarations.{taken}
use Rattle.pas_scopes.specs.ScopeViews.{outer_view}
use Rattle.pas_types.specs.inner.RoutineAnswers.{IsNewRoutine}
use Rattle.pas_scopes.proofs.LocalRowLemmas.{stopped}
use Rattle.pas_types.proofs.HeadingLemmas.{name_fails}
use Rattle.pas_types.proofs.headings.new_routine.Goals as goal

pub returns-in_err-new_alone : goal.returns-in_err-new_alone
returns-in_err-new_alone c =
    let outer : Outer = outer_view c.args.scopes.now in
    let ident : Ident = ident_in c.args.scopes.now.spellings.now c.args.ident in
    stopped (IsNewRoutine outer ident) c.in_err-new_alone.field-0.0 c.from_residual.result
    (err_from_is_err_and _ c.from_residual.ensures.1)
    (name_fails (name_at 0 ident) (not (contains (taken outer) ident.name))
    (nat_lt (length outer.routines) ROUTINE_LIMIT) c.in_err-new_alone.field-0.0 (c.in_err-new_alone.ensures 0))
