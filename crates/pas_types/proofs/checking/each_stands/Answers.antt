use Rattle.std.proofs.Common.{subst, ℕ, List, [], Err, Ok}
use Rattle.std.proofs.lemmas.Result.{err_from_is_err_and}
use Rattle.pas_syntax.specs.declared.tree.Ident.{Ident as CodeIdent}
use Rattle.pas_syntax.specs.declared.tree.Behind.{Behind as CodeBehind}
use Rattle.pas_syntax.specs.Tree.{Ident}
use Rattle.pas_syntax.specs.Views.{ident_in, separated_in}
use Rattle.pas_scopes.specs.ScopeViews.{scopes_view}
use Rattle.pas_types.specs.inner.Checking.{IsParameter, AreParameters}
use Rattle.pas_scopes.proofs.NewNameLemmas.{all_names, seen_behind}
use Rattle.pas_types.proofs.ParameterLemmas.{unbegun, name_more, name_stopped, names_ended, parameters_stop}
use Rattle.pas_types.proofs.checking.each_stands.Goals as goal

abbrev no_name : CodeBehind CodeIdent
no_name = record { line = 0; item = record { span = record { first = 0; count = 0 }; line = 0 } }

pub returns-in_err-parameter_stands : goal.returns-in_err-parameter_stands
returns-in_err-parameter_stands c =
    let spellings = c.args.scopes.now.spellings.now in
    let outer = (scopes_view c.args.scopes.now).outer in
    parameters_stop outer [] (separated_in (ident_in spellings) c.args.idents.now)
    c.in_err-parameter_stands.field-0.0 c.from_residual.result (err_from_is_err_and _ c.from_residual.ensures.1)
    (unbegun outer (ident_in spellings c.args.idents.now.first) (seen_behind spellings c.args.idents.now.more)
    c.in_err-parameter_stands.field-0.0
    (subst (λ (before : List (List ℕ)). IsParameter outer before (ident_in spellings c.args.idents.now.first)
    (Err c.in_err-parameter_stands.field-0.0)) c.new-before.ensures c.in_err-parameter_stands.ensures.answer))

pub returns-in_err-parameter_stands-2 : goal.returns-in_err-parameter_stands-2
returns-in_err-parameter_stands-2 c =
    let spellings = c.args.scopes.now.spellings.now in
    let outer = (scopes_view c.args.scopes.now).outer in
    let first : Ident = ident_in spellings c.args.idents.now.first in
    parameters_stop outer [] (separated_in (ident_in spellings) c.args.idents.now)
    c.in_err-parameter_stands-2.field-0.0 c.from_residual-in_err-parameter_stands-2.result
    (err_from_is_err_and _ c.from_residual-in_err-parameter_stands-2.ensures.1)
    (subst (λ (more : List (CodeBehind CodeIdent)). AreParameters outer []
    (all_names first (seen_behind spellings more)) (Err c.in_err-parameter_stands-2.field-0.0))
    c.as_slice-behind-items.ensures
    (name_stopped outer first spellings c.as_slice-behind-items.result.now c.loop-behind.behind-index no_name
    c.loop-behind.before c.in_err-parameter_stands-2.field-0.0 c.loop-behind-test.true c.loop-behind.invariant
    c.in_err-parameter_stands-2.ensures.answer))

pub loop-behind-preserved : goal.loop-behind-preserved
loop-behind-preserved c =
    let spellings = c.args.scopes.now.spellings.now in
    name_more (scopes_view c.args.scopes.now).outer (ident_in spellings c.args.idents.now.first) spellings
    c.as_slice-behind-items.result.now c.loop-behind.behind-index no_name c.loop-behind.before
    c.parameter_stands-in-loop-behind.new.before c.loop-behind-test.true c.loop-behind.invariant
    c.in_ok-parameter_stands-2.ensures.answer c.in_ok-parameter_stands-2.ensures.ok

pub returns : goal.returns
returns c =
    let spellings = c.args.scopes.now.spellings.now in
    let outer = (scopes_view c.args.scopes.now).outer in
    let first : Ident = ident_in spellings c.args.idents.now.first in
    subst (λ (more : List (CodeBehind CodeIdent)). AreParameters outer []
    (all_names first (seen_behind spellings more)) (Ok tt)) c.as_slice-behind-items.ensures
    (names_ended outer first spellings c.as_slice-behind-items.result.now c.loop-behind.behind-index
    c.loop-behind.before c.loop-behind-test.false c.loop-behind.invariant)
