use Rattle.std.proofs.Common.{◌≡◌, sym, subst}
use Rattle.std.specs.Prelude.{IfOk}
use Rattle.pas_typed.specs.Typed as typed
use Rattle.pas_typed.specs.TypedViews.{statements_view}
use Rattle.pas_types.proofs.BodyLemmas.{stands_alone}
use Rattle.pas_types.proofs.made.body_of.Goals as goal

pub returns-in_default : goal.returns-in_default
returns-in_default c = λ spellings.
    subst (λ (found : typed.Statements). IfOk c.one_alone.result (λ list. statements_view spellings list ≡ found))
    (sym (stands_alone spellings c.args.statement c.in_default.not-Compound)) (c.one_alone.ensures spellings)
