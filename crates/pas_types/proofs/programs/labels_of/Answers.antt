use Rattle.std.proofs.Common.{sym, subst, ap, Option, Err}
use Rattle.pas_syntax.specs.Tree.{Labels}
use Rattle.pas_syntax.specs.Views.{if_there}
use Rattle.pas_syntax.specs.ProgramViews.{labels_in}
use Rattle.pas_syntax.specs.Words.{words_if, labels_words}
use Rattle.std.specs.Option.{option_copied}
use Rattle.pas_rules.specs.Declarations.{label_marks}
use Rattle.pas_scopes.specs.DeclaredSoFar.{Notes}
use Rattle.pas_types.specs.inner.Programs.{LabelsIf}
use Rattle.pas_scopes.proofs.DeclaredLemmas.{notes_quiet}
use Rattle.pas_types.proofs.WholeLemmas.{labels_if, fails_noted, fails_if}
use Rattle.pas_types.proofs.programs.labels_of.Goals as goal

pub returns-in-Ok-clause-notes : goal.returns-in-Ok-clause-notes
returns-in-Ok-clause-notes c spellings =
    let part : Option Labels = if_there (labels_in spellings) (option_copied c.args.part) in
    notes_quiet (words_if labels_words part) (label_marks part) c.args.noted.now (c.in-Ok.ensures spellings).1

pub returns-in-Ok-clause-labels : goal.returns-in-Ok-clause-labels
returns-in-Ok-clause-labels c spellings =
    let part : Option Labels = if_there (labels_in spellings) (option_copied c.args.part) in
    labels_if part c.in-Ok.labels c.args.noted.now (c.in-Ok.ensures spellings).0

pub returns-in_ok-note-in-Err-clause-notes : goal.returns-in_ok-note-in-Err-clause-notes
returns-in_ok-note-in-Err-clause-notes c spellings =
    let part : Option Labels = if_there (labels_in spellings) (option_copied c.args.part) in
    subst (Notes (words_if labels_words part) (label_marks part) c.args.noted.now)
    (sym c.in_ok-note-in-Err.ensures.noted)
    (fails_noted (words_if labels_words part) (label_marks part) c.args.noted.now c.in-Err.stop
    (λ is. c.in_ok-note-in-Err.ensures.ok (ap Err is)) (c.in-Err.ensures spellings))

pub returns-in_ok-note-in-Err-clause-labels : goal.returns-in_ok-note-in-Err-clause-labels
returns-in_ok-note-in-Err-clause-labels c spellings =
    let part : Option Labels = if_there (labels_in spellings) (option_copied c.args.part) in
    subst (LabelsIf part _) (sym c.in_ok-note-in-Err.ensures.noted)
    (fails_if (words_if labels_words part) (label_marks part) part _ c.args.noted.now c.in-Err.stop
    (λ is. c.in_ok-note-in-Err.ensures.ok (ap Err is)) (c.in-Err.ensures spellings))
