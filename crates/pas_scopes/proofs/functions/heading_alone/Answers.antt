use Rattle.std.proofs.Common.{sym, ap, subst, ◌∙◌, List, [], ◌∷◌, map, Option, Some}
use Rattle.std.specs.Prelude.{option_map}
use Rattle.pas_syntax.specs.Words.{name_at}
use Rattle.pas_syntax.specs.Views.{ident_in}
use Rattle.pas_typed.specs.Types.{PasType}
use Rattle.pas_typed.specs.Typed.{Value, Variable, nothing, call}
use Rattle.pas_typed.specs.declared.typed.Call as code_call
use Rattle.pas_typed.specs.declared.typed.Value.TheVariants as code_value
use Rattle.pas_typed.specs.TypeViews.{type_view}
use Rattle.pas_typed.specs.TypedViews.{value_view, variable_view, passed_views}
use Rattle.pas_rules.specs.Expressions.{without_arguments}
use Rattle.pas_scopes.specs.Answers.{end_in, lawful_end, short_end, EndsAs}
use Rattle.pas_scopes.proofs.AnswerLemmas.{ends_moved}
use Rattle.pas_scopes.proofs.FitLemmas.{name_misses, some_mapped, call_viewed}
use Rattle.pas_scopes.proofs.functions.heading_alone.Goals as goal

pub returns-else-is_empty : goal.returns-else-is_empty
returns-else-is_empty c n =
    let spellings = c.args.scopes.now.spellings.now in
    let word = name_at n (ident_in spellings c.args.ident) in
    let type : PasType = type_view c.in-Some.pas_type in
    let parameters : List Variable = map (variable_view spellings) c.args.heading.now.parameters in
    let whole : Value = call c.args.number type nothing in
    subst (λ (result : Option PasType). EndsAs (word ∷ []) (without_arguments c.args.number result parameters)
    (value_view (code_value.Call c.in_ok-new-in-Some.field-0)) (end_in c.short.result))
    (sym (ap (option_map type_view) c.in-Some.is))
    (ends_moved (word ∷ []) (without_arguments c.args.number (Some type) parameters) whole
    (value_view (code_value.Call c.in_ok-new-in-Some.field-0)) (short_end (lawful_end word.token.line))
    (end_in c.short.result)
    (ap (λ (found : code_call.Call). value_view (code_value.Call found)) c.in_ok-new-in-Some.ensures
    ∙ call_viewed _ ∙ ap (λ passed. call c.args.number type (passed_views passed)) c.new.ensures)
    (c.short.ensures ∙ ap short_end c.lawful-end.ensures)
    (name_misses word c.args.number type parameters
    (some_mapped (variable_view spellings) c.args.heading.now.parameters
    (λ none. let is = c.if-is_empty.ensures.1 none in cc))))
