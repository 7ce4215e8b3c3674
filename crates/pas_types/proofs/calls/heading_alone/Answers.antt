use Rattle.std.proofs.Common.{sym, ap, subst, [], ◌∷◌, map, true, Option}
use Rattle.std.specs.Prelude.{option_map}
use Rattle.pas_syntax.specs.Words.{name_at}
use Rattle.pas_syntax.specs.Views.{ident_in}
use Rattle.pas_typed.specs.Types.{PasType}
use Rattle.pas_typed.specs.TypeViews.{type_view}
use Rattle.pas_typed.specs.TypedViews.{variable_view}
use Rattle.pas_rules.specs.Calls.{routine_without}
use Rattle.pas_scopes.specs.Answers.{IsQuiet}
use Rattle.pas_scopes.proofs.FitLemmas.{some_mapped}
use Rattle.pas_scopes.proofs.PassedLemmas.{statement_misses}
use Rattle.pas_types.proofs.calls.heading_alone.Goals as goal

pub returns-else-is_empty : goal.returns-else-is_empty
returns-else-is_empty c n =
    let spellings = c.args.scopes.now.spellings.now in
    let word = name_at n (ident_in spellings c.args.ident) in
    let parameters = map (variable_view spellings) c.args.heading.now.parameters in
    subst (λ (result : Option PasType). IsQuiet (word ∷ []) (routine_without c.args.number result parameters).marks
    true)
    (sym (ap (option_map type_view) c.in-None.is))
    (statement_misses word c.args.number parameters
    (some_mapped (variable_view spellings) c.args.heading.now.parameters
    (λ none. let is = c.if-is_empty.ensures.1 none in cc)))
