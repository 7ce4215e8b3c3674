use Rattle.std.proofs.Common.{sym, ap, subst, ◌∙◌, Err}
use Rattle.pas_syntax.specs.Tree.{Constant}
use Rattle.pas_syntax.specs.Views.{constant_in}
use Rattle.pas_syntax.specs.Words.{constant_words}
use Rattle.pas_rules.specs.Marks.{Judged}
use Rattle.pas_rules.specs.TypeForms.{ConstantValue, constant_of}
use Rattle.pas_scopes.specs.ScopeViews.{scopes_view, IsClear}
use Rattle.pas_scopes.specs.DeclaredSoFar.{constant_meant, NotesIf}
use Rattle.pas_scopes.proofs.AnswerLemmas.{stops_fails}
use Rattle.pas_scopes.proofs.DeclaredLemmas.{notes_why, notes_found, unknown_why, fault_noted}
use Rattle.pas_scopes.proofs.declarations.constant_entity.Goals as goal

pub returns-in-Ok-clause-value : goal.returns-in-Ok-clause-value
returns-in-Ok-clause-value c = c.entity_of.ensures ∙ ap constant_meant (sym (c.in-Ok.ensures.tells 0).known)

pub returns-in-Ok-clause-notes : goal.returns-in-Ok-clause-notes
returns-in-Ok-clause-notes c =
    let spellings = c.args.scopes.now.spellings.now in
    let found : Constant = constant_in spellings c.args.constant in
    notes_found (IsClear (scopes_view c.args.scopes.now)) (constant_words 0 found)
    (constant_of (scopes_view c.args.scopes.now) found) c.args.noted.now _ _ (c.in-Ok.ensures.tells 0)

pub returns-in_ok-note-in-Err-clause-value : goal.returns-in_ok-note-in-Err-clause-value
returns-in_ok-note-in-Err-clause-value c =
    let spellings = c.args.scopes.now.spellings.now in
    let found : Constant = constant_in spellings c.args.constant in
    sym (ap constant_meant (unknown_why (constant_of (scopes_view c.args.scopes.now) found) c.in-Err.stop
    (λ is. c.in_ok-note-in-Err.ensures.ok (ap Err is)) (c.in-Err.ensures.tells 0).1))

pub returns-in_ok-note-in-Err-clause-notes : goal.returns-in_ok-note-in-Err-clause-notes
returns-in_ok-note-in-Err-clause-notes c =
    let spellings = c.args.scopes.now.spellings.now in
    let found : Constant = constant_in spellings c.args.constant in
    let part : Judged ConstantValue = constant_of (scopes_view c.args.scopes.now) found in
    subst (NotesIf (IsClear (scopes_view c.args.scopes.now)) (constant_words 0 found) part.marks c.args.noted.now)
    (sym c.in_ok-note-in-Err.ensures.noted)
    (notes_why (IsClear (scopes_view c.args.scopes.now)) (constant_words 0 found) part.marks c.args.noted.now
    c.in-Err.stop (λ is. c.in_ok-note-in-Err.ensures.ok (ap Err is))
    (λ clear. stops_fails (constant_words 0 found) part c.in-Err.stop ((c.in-Err.ensures.tells 0).0 clear)))

pub returns-in_ok-note-in-Err-clause-clear : goal.returns-in_ok-note-in-Err-clause-clear
returns-in_ok-note-in-Err-clause-clear c clear none =
    let spellings = c.args.scopes.now.spellings.now in
    let found : Constant = constant_in spellings c.args.constant in
    λ same. fault_noted (constant_words 0 found) (constant_of (scopes_view c.args.scopes.now) found) c.args.noted.now
    c.in-Err.stop (λ is. c.in_ok-note-in-Err.ensures.ok (ap Err is)) ((c.in-Err.ensures.tells 0).0 clear)
    (sym c.in_ok-note-in-Err.ensures.noted ∙ none)
