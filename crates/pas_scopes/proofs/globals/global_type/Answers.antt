use Rattle.std.proofs.Common.{◌≡◌, sym, ap, subst, ◌∙◌, ℕ, List, take, Some, None, Ok, Err}
use Rattle.pas_tokens.specs.Cutting.{Wrong}
use Rattle.pas_syntax.specs.Tree.{TypeForm}
use Rattle.pas_syntax.specs.Words.{Word, type_words}
use Rattle.pas_syntax.specs.Views.{ident_in, separated_in}
use Rattle.pas_syntax.specs.ProgramViews.{type_in}
use Rattle.pas_typed.specs.declared.types.PasType.{PasType as CodePasType}
use Rattle.pas_typed.specs.Types.{Made}
use Rattle.pas_typed.specs.TypeViews.{table_view, counted}
use Rattle.pas_scopes.specs.declared.scopes.Scopes.{Scopes as CodeScopes}
use Rattle.pas_scopes.specs.declared.judged.Judged.{Judged as CodeJudged}
use Rattle.pas_rules.specs.Marks.{Judged, noted}
use Rattle.pas_rules.specs.Scopes.{Outer, spellings_of}
use Rattle.pas_rules.specs.Declarations.{program_scopes, types_behind, global_only, cells_together}
use Rattle.pas_scopes.specs.ScopeViews.{made_view, IsClear}
use Rattle.pas_scopes.specs.Answers.{end_in, EndsAs}
use Rattle.pas_scopes.specs.FormAnswers.{FoundIf}
use Rattle.pas_scopes.specs.DeclaredSoFar.{first_noted, global_form, IsLike}
use Rattle.pas_scopes.proofs.KeptLemmas.{spellings_kept}
use Rattle.pas_scopes.proofs.DeclaredLemmas.{unknown_why}
use Rattle.pas_scopes.proofs.TypeNoteLemmas.{notes_found_form, notes_stopped_form, none_stopped}
use Rattle.pas_scopes.proofs.GlobalLemmas.{found_noted, stopped_noted, like_agrees, like_table, like_form}
use Rattle.pas_scopes.proofs.GlobalLemmas.{like_cells}
use Rattle.pas_rules.specs.TypeForms.{form_of}
use Rattle.pas_scopes.proofs.globals.global_type.Goals as goal

module _ (c : goal.In_ok-note-in-Ok) (outer : Outer) (like : IsLike outer c.args.scopes.now) where
  abbrev form : TypeForm
  form = type_in c.args.scopes.now.spellings.now c.args.row.now.form

  known_is : (global_form outer form).value ≡ Some (made_view c.form_of.new.scopes c.in-Ok.made.value)
  known_is =
      sym (ap (λ (part : Judged Made). part.value) (like_form outer c.args.scopes.now like form))
      ∙ c.in-Ok.ensures.value (program_scopes outer) (like_agrees outer c.args.scopes.now like)

pub returns-in_ok-note-in-Ok-clause-value : goal.returns-in_ok-note-in-Ok-clause-value
returns-in_ok-note-in-Ok-clause-value c outer like =
    ap (λ (found : CodePasType). Some (made_view c.form_of.new.scopes found)) c.global_only-made.ensures.value
    ∙ sym (known_is c outer like)

pub returns-in_ok-note-in-Ok-clause-types : goal.returns-in_ok-note-in-Ok-clause-types
returns-in_ok-note-in-Ok-clause-types c outer like =
    ap (λ (seen : List ℕ). table_view seen c.form_of.new.scopes.types)
    (sym (spellings_kept c.args.scopes.now c.form_of.new.scopes c.in-Ok.ensures.kept))
    ∙ sym (ap (types_behind outer.types) (known_is c outer like))

pub returns-in_ok-note-in-Ok-clause-notes : goal.returns-in_ok-note-in-Ok-clause-notes
returns-in_ok-note-in-Ok-clause-notes c outer like =
    let old : CodeScopes = c.args.scopes.now in
    let now : CodeScopes = c.form_of.new.scopes in
    let spellings = old.spellings.now in
    let written : TypeForm = type_in spellings c.args.row.now.form in
    let part : Judged Made = global_form outer written in
    let words : List Word = type_words 0 written in
    let Clear = IsClear (program_scopes outer) in
    let names : List (List ℕ) = spellings_of (separated_in (ident_in spellings) c.args.row.now.names) in
    let seen = spellings_kept old now c.in-Ok.ensures.kept in
    let found : Made = made_view now c.in-Ok.made.value in
    let next : CodeJudged CodePasType = c.global_only-made.result in
    let parameters : outer.parameters ≡ now.parameters =
    sym (ap (λ (o : Outer). o.parameters) like.alike.others)
    ∙ sym (ap (λ (scopes : CodeScopes). scopes.parameters) c.in-Ok.ensures.kept) in
    let cells : now.cells ≡ counted (cells_together found.table outer.globals) =
    ap (λ (scopes : CodeScopes). scopes.cells) c.in-Ok.ensures.kept
    ∙ like_cells outer old like written found (known_is c outer like) in
    notes_found_form Clear words (noted (global_only outer names) part) (made_view now) next c.args.noted.now
    c.form_of.new.noted c.note.new.noted
    (λ none. found_noted Clear words (global_only outer names) part (made_view now) c.form_of.new.noted c.in-Ok.made
    next
    (λ h. subst (λ (sight : List ℕ). EndsAs words
    (noted (global_only outer (spellings_of (separated_in (ident_in sight) c.args.row.now.names))) part)
    (made_view now next.value) (end_in next.end)) seen
    (c.global_only-made.ensures.ends words part outer parameters cells h))
    (subst (λ (p : Judged Made). FoundIf Clear words p (made_view now) c.form_of.new.noted (Ok c.in-Ok.made))
    (like_form outer old like written)
    (c.in-Ok.ensures.answers none (program_scopes outer) (like_agrees outer old like) 0)))
    c.in-Ok.ensures.noted (c.global_only-made.ensures.whole ∙ c.in-Ok.ensures.whole)
    (c.in_ok-note-in-Ok.ensures.noted ∙ ap (first_noted c.form_of.new.noted) c.stands.ensures)

module _ (c : goal.After-shorten) (outer : Outer) (like : IsLike outer c.args.scopes.now) where
  abbrev form_there : TypeForm
  form_there = type_in c.args.scopes.now.spellings.now c.args.row.now.form

  unknown_is : (global_form outer form_there).value ≡ None
  unknown_is =
      sym (ap (λ (part : Judged Made). part.value) (like_form outer c.args.scopes.now like form_there))
      ∙ unknown_why (form_of (program_scopes outer)
      (table_view c.args.scopes.now.spellings.now c.args.scopes.now.types) form_there) c.in-Err.stop
      (λ is. c.in_ok-note-in-Err.ensures.ok (ap Err is))
      (c.in-Err.ensures.value (program_scopes outer) (like_agrees outer c.args.scopes.now like))

  found_if : c.args.noted.now ≡ None
      → FoundIf (IsClear (program_scopes outer)) (type_words 0 form_there) (global_form outer form_there)
      (made_view c.form_of.new.scopes) c.form_of.new.noted (Err c.in-Err.stop)
  found_if none =
      subst (λ (p : Judged Made). FoundIf (IsClear (program_scopes outer)) (type_words 0 form_there) p
      (made_view c.form_of.new.scopes) c.form_of.new.noted (Err c.in-Err.stop))
      (like_form outer c.args.scopes.now like form_there)
      (c.in-Err.ensures.answers none (program_scopes outer) (like_agrees outer c.args.scopes.now like) 0)

pub returns-in_ok-note-in-Err-clause-value : goal.returns-in_ok-note-in-Err-clause-value
returns-in_ok-note-in-Err-clause-value c outer like = sym (unknown_is c outer like)

pub returns-in_ok-note-in-Err-clause-types : goal.returns-in_ok-note-in-Err-clause-types
returns-in_ok-note-in-Err-clause-types c outer like =
    let old : CodeScopes = c.args.scopes.now in
    ap (table_view old.spellings.now) (c.shorten.ensures
    ∙ (ap (λ (count : ℕ). take count c.form_of.new.scopes.types) c.len-count.ensures ∙ c.in-Err.ensures.grows))
    ∙ (like_table outer old like ∙ sym (ap (types_behind outer.types) (unknown_is c outer like)))

pub returns-in_ok-note-in-Err-clause-notes : goal.returns-in_ok-note-in-Err-clause-notes
returns-in_ok-note-in-Err-clause-notes c outer like =
    let old : CodeScopes = c.args.scopes.now in
    let written : TypeForm = type_in old.spellings.now c.args.row.now.form in
    let part : Judged Made = global_form outer written in
    let words : List Word = type_words 0 written in
    let Clear = IsClear (program_scopes outer) in
    let names : List (List ℕ) = spellings_of (separated_in (ident_in old.spellings.now) c.args.row.now.names) in
    let demand : Made → List Wrong = global_only outer names in
    let view = made_view c.form_of.new.scopes in
    notes_stopped_form Clear words (noted demand part) view c.in-Err.stop c.args.noted.now c.form_of.new.noted _
    (λ is. c.in_ok-note-in-Err.ensures.ok (ap Err is))
    (λ none. stopped_noted Clear words demand part view c.form_of.new.noted c.in-Err.stop
    (found_if c outer like none)) c.in-Err.ensures.noted
    c.in_ok-note-in-Err.ensures.noted

pub returns-in_ok-note-in-Err-clause-clear : goal.returns-in_ok-note-in-Err-clause-clear
returns-in_ok-note-in-Err-clause-clear c outer like clear none =
    let written : TypeForm = type_in c.args.scopes.now.spellings.now c.args.row.now.form in
    absurd (none_stopped (IsClear (program_scopes outer)) (type_words 0 written) (global_form outer written)
    (made_view c.form_of.new.scopes) c.in-Err.stop c.args.noted.now c.form_of.new.noted
    (λ is. c.in_ok-note-in-Err.ensures.ok (ap Err is)) (found_if c outer like) c.in-Err.ensures.noted clear
    (sym c.in_ok-note-in-Err.ensures.noted ∙ none))
