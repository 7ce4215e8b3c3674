use Rattle.std.proofs.Common.{refl, ap, subst, [], ◌∷◌, option_map}
use Rattle.pas_syntax.specs.Views.{ident_in}
use Rattle.pas_syntax.specs.Words.{Word, name_at}
use Rattle.pas_typed.specs.TypeViews.{type_view}
use Rattle.pas_rules.specs.Marks.{Judged}
use Rattle.pas_rules.specs.Scopes.{Inner}
use Rattle.pas_rules.specs.Statements.{Target}
use Rattle.pas_scopes.specs.ScopeViews.{scopes_view, inner_view}
use Rattle.pas_scopes.specs.Answers.{Answers}
use Rattle.pas_types.specs.inner.TargetViews.{target_view}
use Rattle.pas_types.proofs.FlowLemmas.{own_routine}
use Rattle.pas_types.proofs.assignments.result_of.Goals as goal

pub returns-in-Some : goal.returns-in-Some
returns-in-Some c n =
    let spellings = c.args.scopes.now.spellings.now in
    let word : Word = name_at n (ident_in spellings c.args.ident) in
    let own : Inner = inner_view spellings c.in-Some.inner in
    subst (λ (part : Judged Target). Answers (word ∷ []) part target_view c.own_result.result)
    (own_routine (scopes_view c.args.scopes.now) (scopes_view c.args.scopes.now).inner own c.args.number
    (option_map type_view c.result_type.result) (ap (option_map (inner_view spellings)) c.in-Some.is)
    c.if-inner-number.true c.result_type.ensures)
    (c.own_result.ensures spellings word refl)
