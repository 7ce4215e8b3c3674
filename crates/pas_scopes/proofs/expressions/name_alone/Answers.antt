use Rattle.std.proofs.Common.{refl, sym, ap, subst, ◌∙◌, [], ◌∷◌, List, Option, Some}
use Rattle.std.specs.Prelude.{option_map}
use Rattle.pas_syntax.specs.Views.{ident_in}
use Rattle.pas_syntax.specs.Words.{Word, name_at}
use Rattle.pas_typed.specs.Typed as typed
use Rattle.pas_typed.specs.TypeViews.{table_view}
use Rattle.pas_typed.specs.TypedViews.{slot_view, place_view, value_view}
use Rattle.pas_scopes.specs.declared.names.Entity.{Entity as CodeEntity}
use Rattle.pas_rules.specs.Marks.{means}
use Rattle.pas_rules.specs.Scopes.{Scopes, Entity}
use Rattle.pas_rules.specs.Expressions.{as_value}
use Rattle.pas_scopes.specs.NameViews.{entity_view}
use Rattle.pas_scopes.specs.ScopeViews.{scopes_view}
use Rattle.pas_scopes.specs.Answers.{lawful_end, end_in, EndsAs, Answers}
use Rattle.pas_scopes.proofs.AnswerLemmas.{ends_moved, word_means}
use Rattle.pas_scopes.proofs.expressions.name_alone.Goals as goal

pub returns-in-Some-Variable : goal.returns-in-Some-Variable
returns-in-Some-Variable c clear n =
    let scopes : Scopes = scopes_view c.args.scopes.now in
    let ident = ident_in c.args.scopes.now.spellings.now c.args.ident in
    let words : List Word = name_at n ident ∷ [] in
    let place : typed.Place = typed.slot (slot_view c.in-Some-Variable.slot) in
    subst (λ (entity : Option Entity). Answers words (as_value scopes entity) value_view c.read_of.result)
    (sym (sym c.named.ensures.entity ∙ ap (option_map entity_view) c.in-Some-Variable.is
    ∙ ap (λ (found : CodeEntity). Some (entity_view found)) c.in-Some-Variable.field-0-is))
    (c.read_of.ensures words (means place)
    (ends_moved words (means place) place _ (lawful_end c.args.ident.line) _
    (ap place_view c.lawful-in-Some-Variable.ensures.value ∙ c.whole.ensures) c.lawful-in-Some-Variable.ensures.end
    (word_means (name_at n ident) place)))

pub returns-in-Some-Routine : goal.returns-in-Some-Routine
returns-in-Some-Routine c clear n =
    let scopes : Scopes = scopes_view c.args.scopes.now in
    let ident = ident_in c.args.scopes.now.spellings.now c.args.ident in
    let words : List Word = name_at n ident ∷ [] in
    subst (λ (entity : Option Entity). Answers words (as_value scopes entity) value_view c.function_alone.result)
    (sym (sym c.named.ensures.entity ∙ ap (option_map entity_view) c.in-Some-Routine.is
    ∙ ap (λ (found : CodeEntity). Some (entity_view found)) c.in-Some-Routine.field-0-is))
    (c.function_alone.ensures n)

pub returns-in-Some-Function : goal.returns-in-Some-Function
returns-in-Some-Function c clear n =
    let scopes : Scopes = scopes_view c.args.scopes.now in
    let table = table_view c.args.scopes.now.spellings.now c.args.scopes.now.types in
    let ident = ident_in c.args.scopes.now.spellings.now c.args.ident in
    let words : List Word = name_at n ident ∷ [] in
    subst (λ (entity : Option Entity). EndsAs words (as_value scopes entity)
    (value_view c.missing_arguments.result.value) (end_in c.missing_arguments.result.end))
    (sym (sym c.named.ensures.entity ∙ ap (option_map entity_view) c.in-Some-Function.is
    ∙ ap (λ (found : CodeEntity). Some (entity_view found)) c.in-Some-Function.field-0-is))
    (c.missing_arguments.ensures (name_at n ident) table refl)

pub returns-in-Some-FileTest : goal.returns-in-Some-FileTest
returns-in-Some-FileTest c clear n =
    let scopes : Scopes = scopes_view c.args.scopes.now in
    let ident = ident_in c.args.scopes.now.spellings.now c.args.ident in
    let words : List Word = name_at n ident ∷ [] in
    subst (λ (entity : Option Entity). Answers words (as_value scopes entity) value_view c.test_alone.result)
    (sym (sym c.named.ensures.entity ∙ ap (option_map entity_view) c.in-Some-FileTest.is
    ∙ ap (λ (found : CodeEntity). Some (entity_view found)) c.in-Some-FileTest.field-0-is))
    (c.test_alone.ensures n)
