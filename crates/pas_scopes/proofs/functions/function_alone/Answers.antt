use Rattle.std.proofs.Common.{subst, Option, [], ◌∷◌}
use Rattle.pas_syntax.specs.Words.{name_at}
use Rattle.pas_syntax.specs.Views.{ident_in}
use Rattle.pas_typed.specs.Typed.{Heading}
use Rattle.pas_typed.specs.TypedViews.{value_view}
use Rattle.pas_rules.specs.Expressions.{function_alone}
use Rattle.pas_scopes.specs.Answers.{Answers}
use Rattle.pas_scopes.proofs.functions.function_alone.Goals as goal

pub returns-in-Some : goal.returns-in-Some
returns-in-Some c n =
    subst (λ (heading : Option Heading). Answers (name_at n (ident_in c.args.scopes.now.spellings.now c.args.ident) ∷
    [])
    (function_alone c.args.number heading) value_view c.heading_alone.result) c.in-Some.ensures
    (c.heading_alone.ensures n)
