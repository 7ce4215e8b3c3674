use Rattle.std.proofs.Common.{subst, List, ◌∷◌, ◌++◌, Err, Ok}
use Rattle.std.proofs.lemmas.Result.{err_from_is_err_and}
use Rattle.pas_syntax.specs.declared.tree.Ident.{Ident as CodeIdent}
use Rattle.pas_syntax.specs.declared.tree.Behind.{Behind as CodeBehind}
use Rattle.pas_syntax.specs.Tree.{Ident}
use Rattle.pas_syntax.specs.Views.{ident_in, separated_in}
use Rattle.pas_scopes.specs.ScopeViews.{scopes_view}
use Rattle.pas_scopes.specs.NameAnswers.{taken_in, AreNewNames, AreNew}
use Rattle.pas_scopes.proofs.NewNameLemmas.{all_names, seen_behind, unbegun, name_more, items, spelled}
use Rattle.pas_scopes.proofs.NewNameLemmas.{name_stopped, names_ended, names_new, new_names_stop}
use Rattle.pas_scopes.proofs.new_names.new_names.Goals as goal

abbrev no_name : CodeBehind CodeIdent
no_name = record { line = 0; item = record { span = record { first = 0; count = 0 }; line = 0 } }

pub returns-in_err-new_name-clause-answer : goal.returns-in_err-new_name-clause-answer
returns-in_err-new_name-clause-answer c =
    let spellings = c.args.scopes.now.spellings.now in
    let around = taken_in (scopes_view c.args.scopes.now) c.args.region in
    new_names_stop (around ++ c.args.before.now) (separated_in (ident_in spellings) c.args.idents.now)
    c.in_err-new_name.field-0.0 c.from_residual.result (err_from_is_err_and _ c.from_residual.ensures.1)
    (unbegun around c.args.before.now (ident_in spellings c.args.idents.now.first)
    (seen_behind spellings c.args.idents.now.more) c.in_err-new_name.field-0.0 c.in_err-new_name.ensures.answer)

pub returns-in_err-new_name-2-clause-answer : goal.returns-in_err-new_name-2-clause-answer
returns-in_err-new_name-2-clause-answer c =
    let spellings = c.args.scopes.now.spellings.now in
    let around = taken_in (scopes_view c.args.scopes.now) c.args.region in
    let first : Ident = ident_in spellings c.args.idents.now.first in
    new_names_stop (around ++ c.args.before.now) (separated_in (ident_in spellings) c.args.idents.now)
    c.in_err-new_name-2.field-0.0 c.from_residual-in_err-new_name-2.result
    (err_from_is_err_and _ c.from_residual-in_err-new_name-2.ensures.1)
    (subst (λ (more : List (CodeBehind CodeIdent)). AreNewNames (around ++ c.args.before.now)
    (all_names first (seen_behind spellings more)) (Err c.in_err-new_name-2.field-0.0))
    c.as_slice-behind-items.ensures
    (name_stopped around c.args.before.now first spellings c.as_slice-behind-items.result.now
    c.loop-behind.behind-index no_name c.loop-behind.before c.in_err-new_name-2.field-0.0 c.loop-behind-test.true
    c.loop-behind.invariant c.in_err-new_name-2.ensures.answer))

pub loop-behind-preserved : goal.loop-behind-preserved
loop-behind-preserved c =
    let spellings = c.args.scopes.now.spellings.now in
    name_more (taken_in (scopes_view c.args.scopes.now) c.args.region) c.args.before.now
    (ident_in spellings c.args.idents.now.first) spellings c.as_slice-behind-items.result.now
    c.loop-behind.behind-index no_name c.loop-behind.before c.new_name-in-loop-behind.new.before
    c.loop-behind-test.true c.loop-behind.invariant c.in_ok-new_name-2.ensures.answer c.in_ok-new_name-2.ensures.ok

pub returns-clause-answer : goal.returns-clause-answer
returns-clause-answer c =
    let spellings = c.args.scopes.now.spellings.now in
    let around = taken_in (scopes_view c.args.scopes.now) c.args.region in
    let first : Ident = ident_in spellings c.args.idents.now.first in
    subst (λ (more : List (CodeBehind CodeIdent)). AreNewNames (around ++ c.args.before.now)
    (all_names first (seen_behind spellings more)) (Ok tt)) c.as_slice-behind-items.ensures
    (names_ended around c.args.before.now first spellings c.as_slice-behind-items.result.now
    c.loop-behind.behind-index c.loop-behind.before c.loop-behind-test.false c.loop-behind.invariant)

pub returns-clause-new : goal.returns-clause-new
returns-clause-new c =
    let spellings = c.args.scopes.now.spellings.now in
    let around = taken_in (scopes_view c.args.scopes.now) c.args.region in
    let first : Ident = ident_in spellings c.args.idents.now.first in
    subst (λ (more : List (CodeBehind CodeIdent)). AreNew (around ++ c.args.before.now)
    (first.name ∷ spelled (items (seen_behind spellings more)))) c.as_slice-behind-items.ensures
    (names_new around c.args.before.now first spellings c.as_slice-behind-items.result.now
    c.loop-behind.behind-index c.loop-behind.before c.loop-behind-test.false c.loop-behind.invariant)
