use Rattle.std.proofs.Common.{ap, subst, ◌∙◌, ℕ, List, ◌++◌, map, Some, Ok, Err}
use Rattle.std.proofs.lemmas.Result.{err_from_is_err_and}
use Rattle.pas_syntax.specs.declared.tree.Behind.{Behind as CodeBehind}
use Rattle.pas_syntax.specs.declared.tree.Parameter.{Parameter as CodeParameter}
use Rattle.pas_syntax.specs.Tree.{Parameter, Parameters}
use Rattle.pas_syntax.specs.Views.{behind_in}
use Rattle.pas_syntax.specs.ProgramViews.{parameter_in, parameters_in}
use Rattle.pas_syntax.specs.Words.{parameters_words, parameter_words}
use Rattle.pas_scopes.specs.declared.scopes.Scopes.{Scopes as CodeScopes}
use Rattle.pas_scopes.specs.declared.stop.Stop.{Stop}
use Rattle.pas_rules.specs.Scopes.{Outer, Inner}
use Rattle.pas_rules.specs.Routines.{more_formals, formals_of}
use Rattle.pas_scopes.specs.ScopeViews.{outer_view, inner_view}
use Rattle.pas_scopes.specs.Answers.{FailsBy}
use Rattle.pas_types.specs.inner.RoutineAnswers.{PassesFormals}
use Rattle.pas_scopes.proofs.LocalRowLemmas.{stopped}
use Rattle.pas_types.proofs.FormalsLemmas.{formals_first, formals_none, formals_next, formals_fail, formals_all}
use Rattle.pas_types.proofs.FormalsLemmas.{enclosed_passes, FormalPasses, first_formal, more_words}
use Rattle.pas_types.proofs.headings.all_formals.Goals as goal

pub loop-behind-init : goal.loop-behind-init
loop-behind-init c =
    let old : CodeScopes = c.args.scopes.now in
    let spellings = old.spellings.now in
    record {
      kept = c.in_ok-formal_of.ensures.kept;
      passes = λ inner h. formals_first (behind_in (parameter_in spellings)) old inner
          (parameter_in spellings c.args.parameters.now.items.first) c.as_slice-behind-items.result.now
          c.formal_of.new.scopes (c.in_ok-formal_of.ensures.passes inner h);
    }

pub loop-behind-preserved : goal.loop-behind-preserved
loop-behind-preserved c =
    let old : CodeScopes = c.args.scopes.now in
    let now : CodeScopes = c.loop-behind.scopes in
    let new : CodeScopes = c.formal_of-in-loop-behind.new.scopes in
    let next : CodeBehind CodeParameter = c.behind-item.result in
    record {
      kept = c.in_ok-formal_of-2.ensures.kept
          ∙ ap (λ (scopes : CodeScopes). record scopes { inner = new.inner }) c.loop-behind.invariant.kept;
      passes = λ inner h. formals_next (behind_in (parameter_in old.spellings.now)) old inner
          (parameter_in old.spellings.now c.args.parameters.now.items.first) c.as_slice-behind-items.result.now
          c.loop-behind.behind-index now c.loop-behind.invariant.kept (c.loop-behind.invariant.passes inner h)
          next c.loop-behind-test.true new
          (subst (λ (behind : CodeBehind CodeParameter). FormalPasses (parameter_in old.spellings.now behind.item) now
          new (Ok tt)) c.behind-item.is
          (subst (λ (seen : List ℕ). FormalPasses (parameter_in seen next.item) now new (Ok tt))
          (ap (λ (scopes : CodeScopes). scopes.spellings.now) c.loop-behind.invariant.kept)
          c.in_ok-formal_of-2.ensures.passes));
    }

pub returns-clause-passes : goal.returns-clause-passes
returns-clause-passes c inner h =
    let old : CodeScopes = c.args.scopes.now in
    let spellings = old.spellings.now in
    let outer : Outer = outer_view old in
    let seen : Inner = inner_view spellings inner in
    let first : Parameter = parameter_in spellings c.args.parameters.now.items.first in
    let new : CodeScopes = c.loop-behind.scopes in
    enclosed_passes outer seen (parameters_in spellings c.args.parameters.now) new (Ok tt)
    (subst (λ (more : List (CodeBehind CodeParameter)). PassesFormals
    (parameter_words 1 first ++ more_words (map (behind_in (parameter_in spellings)) more))
    (more_formals outer (first_formal outer seen first) (map (behind_in (parameter_in spellings)) more)) new (Ok tt))
    c.as_slice-behind-items.ensures
    (formals_all (behind_in (parameter_in spellings)) old inner first c.as_slice-behind-items.result.now
    c.loop-behind.behind-index new c.loop-behind-test.false (c.loop-behind.invariant.passes inner h)))

pub returns-in_err-formal_of-clause-passes : goal.returns-in_err-formal_of-clause-passes
returns-in_err-formal_of-clause-passes c inner h =
    let old : CodeScopes = c.args.scopes.now in
    let new : CodeScopes = c.formal_of.new.scopes in
    let spellings = old.spellings.now in
    let parameters : Parameters = parameters_in spellings c.args.parameters.now in
    let why : Stop = c.in_err-formal_of.field-0.0 in
    stopped (PassesFormals (parameters_words parameters)
    (formals_of (outer_view old) (inner_view spellings inner) (Some parameters)) new) why c.from_residual.result
    (err_from_is_err_and _ c.from_residual.ensures.1)
    (enclosed_passes (outer_view old) (inner_view spellings inner) parameters new (Err why)
    (formals_none (behind_in (parameter_in spellings)) old inner parameters.items.first
    c.args.parameters.now.items.more why (c.in_err-formal_of.ensures.passes inner h)))

pub returns-in_err-formal_of-2-clause-passes : goal.returns-in_err-formal_of-2-clause-passes
returns-in_err-formal_of-2-clause-passes c inner h =
    let old : CodeScopes = c.args.scopes.now in
    let now : CodeScopes = c.loop-behind.scopes in
    let new : CodeScopes = c.formal_of-in-loop-behind.new.scopes in
    let spellings = old.spellings.now in
    let outer : Outer = outer_view old in
    let seen_inner : Inner = inner_view spellings inner in
    let parameters : Parameters = parameters_in spellings c.args.parameters.now in
    let first : Parameter = parameters.items.first in
    let next : CodeBehind CodeParameter = c.behind-item.result in
    let why : Stop = c.in_err-formal_of-2.field-0.0 in
    stopped (PassesFormals (parameters_words parameters) (formals_of outer seen_inner (Some parameters)) new) why
    c.from_residual-in_err-formal_of-2.result (err_from_is_err_and _ c.from_residual-in_err-formal_of-2.ensures.1)
    (enclosed_passes outer seen_inner parameters new (Err why)
    (subst (λ (more : List (CodeBehind CodeParameter)). FailsBy
    (parameter_words 1 first ++ more_words (map (behind_in (parameter_in spellings)) more))
    (more_formals outer (first_formal outer seen_inner first) (map (behind_in (parameter_in spellings)) more)).marks
    why)
    c.as_slice-behind-items.ensures
    (formals_fail (behind_in (parameter_in spellings)) old inner first c.as_slice-behind-items.result.now
    c.loop-behind.behind-index now c.loop-behind.invariant.kept (c.loop-behind.invariant.passes inner h) next
    c.loop-behind-test.true new why
    (subst (λ (behind : CodeBehind CodeParameter). FormalPasses (parameter_in spellings behind.item) now new (Err why))
    c.behind-item.is
    (subst (λ (seen : List ℕ). FormalPasses (parameter_in seen next.item) now new (Err why))
    (ap (λ (scopes : CodeScopes). scopes.spellings.now) c.loop-behind.invariant.kept)
    c.in_err-formal_of-2.ensures.passes)))))
