use Rattle.std.proofs.Common.{sym, ap, ◌∙◌, ℕ, List, take, Err}
use Rattle.pas_syntax.specs.Tree.{TypeForm}
use Rattle.pas_syntax.specs.Words.{type_words}
use Rattle.pas_syntax.specs.ProgramViews.{type_in}
use Rattle.pas_typed.specs.Types.{Table}
use Rattle.pas_typed.specs.TypeViews.{table_view}
use Rattle.pas_rules.specs.TypeForms.{form_of}
use Rattle.pas_rules.specs.Declarations.{types_behind}
use Rattle.pas_scopes.specs.ScopeViews.{made_view, IsClear}
use Rattle.pas_scopes.specs.DeclaredSoFar.{first_noted, type_meant}
use Rattle.pas_scopes.proofs.KeptLemmas.{spellings_kept}
use Rattle.pas_scopes.proofs.DeclaredLemmas.{unknown_why}
use Rattle.pas_scopes.proofs.TypeNoteLemmas.{notes_found_form, notes_stopped_form, none_stopped}
use Rattle.pas_scopes.proofs.declarations.type_entity.Goals as goal

pub returns-in_ok-note-in-Ok-clause-value : goal.returns-in_ok-note-in-Ok-clause-value
returns-in_ok-note-in-Ok-clause-value c s same = sym (ap type_meant (c.in-Ok.ensures.value s same))

pub returns-in_ok-note-in-Ok-clause-types : goal.returns-in_ok-note-in-Ok-clause-types
returns-in_ok-note-in-Ok-clause-types c s same =
    let spellings = c.args.scopes.now.spellings.now in
    let table : Table = table_view spellings c.args.scopes.now.types in
    ap (λ (seen : List ℕ). table_view seen c.form_of.new.scopes.types)
    (sym (spellings_kept c.args.scopes.now c.form_of.new.scopes c.in-Ok.ensures.kept))
    ∙ sym (ap (types_behind table) (c.in-Ok.ensures.value s same))

pub returns-in_ok-note-in-Ok-clause-notes : goal.returns-in_ok-note-in-Ok-clause-notes
returns-in_ok-note-in-Ok-clause-notes c s same =
    let spellings = c.args.scopes.now.spellings.now in
    let table : Table = table_view spellings c.args.scopes.now.types in
    let written : TypeForm = type_in spellings c.args.written.now in
    notes_found_form (IsClear s) (type_words 0 written) (form_of s table written) (made_view c.form_of.new.scopes)
    c.in-Ok.made c.args.noted.now c.form_of.new.noted c.note.new.noted
    (λ none. c.in-Ok.ensures.answers none s same 0) c.in-Ok.ensures.noted c.in-Ok.ensures.whole
    (c.in_ok-note-in-Ok.ensures.noted ∙ ap (first_noted c.form_of.new.noted) c.stands.ensures)

pub returns-in_ok-note-in-Err-clause-value : goal.returns-in_ok-note-in-Err-clause-value
returns-in_ok-note-in-Err-clause-value c s same =
    let spellings = c.args.scopes.now.spellings.now in
    let table : Table = table_view spellings c.args.scopes.now.types in
    let written : TypeForm = type_in spellings c.args.written.now in
    sym (ap type_meant (unknown_why (form_of s table written) c.in-Err.stop
    (λ is. c.in_ok-note-in-Err.ensures.ok (ap Err is)) (c.in-Err.ensures.value s same)))

pub returns-in_ok-note-in-Err-clause-types : goal.returns-in_ok-note-in-Err-clause-types
returns-in_ok-note-in-Err-clause-types c s same =
    let spellings = c.args.scopes.now.spellings.now in
    let table : Table = table_view spellings c.args.scopes.now.types in
    let written : TypeForm = type_in spellings c.args.written.now in
    ap (table_view spellings) (c.shorten.ensures
    ∙ (ap (λ (count : ℕ). take count c.form_of.new.scopes.types) c.len-count.ensures ∙ c.in-Err.ensures.grows))
    ∙ sym (ap (types_behind table) (unknown_why (form_of s table written) c.in-Err.stop
    (λ is. c.in_ok-note-in-Err.ensures.ok (ap Err is)) (c.in-Err.ensures.value s same)))

pub returns-in_ok-note-in-Err-clause-notes : goal.returns-in_ok-note-in-Err-clause-notes
returns-in_ok-note-in-Err-clause-notes c s same =
    let spellings = c.args.scopes.now.spellings.now in
    let table : Table = table_view spellings c.args.scopes.now.types in
    let written : TypeForm = type_in spellings c.args.written.now in
    notes_stopped_form (IsClear s) (type_words 0 written) (form_of s table written) (made_view c.form_of.new.scopes)
    c.in-Err.stop c.args.noted.now c.form_of.new.noted _
    (λ is. c.in_ok-note-in-Err.ensures.ok (ap Err is))
    (λ none. c.in-Err.ensures.answers none s same 0) c.in-Err.ensures.noted c.in_ok-note-in-Err.ensures.noted

pub returns-in_ok-note-in-Err-clause-clear : goal.returns-in_ok-note-in-Err-clause-clear
returns-in_ok-note-in-Err-clause-clear c s same clear none =
    let spellings = c.args.scopes.now.spellings.now in
    let table : Table = table_view spellings c.args.scopes.now.types in
    let written : TypeForm = type_in spellings c.args.written.now in
    λ is. none_stopped (IsClear s) (type_words 0 written) (form_of s table written) (made_view c.form_of.new.scopes)
    c.in-Err.stop c.args.noted.now c.form_of.new.noted (λ is. c.in_ok-note-in-Err.ensures.ok (ap Err is))
    (λ clean. c.in-Err.ensures.answers clean s same 0) c.in-Err.ensures.noted clear
    (sym c.in_ok-note-in-Err.ensures.noted ∙ none)
