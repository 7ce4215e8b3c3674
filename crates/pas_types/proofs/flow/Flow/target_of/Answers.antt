use Rattle.std.proofs.Common.{ap, sym, subst, ◌∙◌, [], ◌∷◌, Option}
use Rattle.std.specs.Option.{option_copied}
use Rattle.pas_syntax.specs.Views.{numeral_in}
use Rattle.pas_syntax.specs.Words.{number_at}
use Rattle.pas_typed.specs.Typed as typed
use Rattle.pas_rules.specs.Marks.{Judged}
use Rattle.pas_scopes.specs.ScopeViews.{scopes_view}
use Rattle.pas_scopes.specs.Answers.{Settles}
use Rattle.pas_types.specs.inner.LabelViews.{Known, goto_in}
use Rattle.pas_types.proofs.FlowLemmas.{goto_beside, goto_here}
use Rattle.pas_types.proofs.flow.Flow.target_of.Goals as goal

pub returns-in-Some : goal.returns-in-Some
returns-in-Some c around before flow =
    subst (λ (part : Judged typed.Statement). Settles (number_at 0 (numeral_in c.args.numeral) ∷ []) part goto_in
    c.goto_of.result)
    (ap (λ (program : Option Known). goto_beside c.args.self.now.block program c.args.scopes.now.last_label
    c.args.numeral.value) (sym (ap option_copied c.in-Some.is))
    ∙ goto_here (scopes_view c.args.scopes.now) around before c.args.self.now c.args.numeral.value flow)
    c.goto_of.ensures

pub returns-in-None : goal.returns-in-None
returns-in-None c around before flow =
    subst (λ (part : Judged typed.Statement). Settles (number_at 0 (numeral_in c.args.numeral) ∷ []) part goto_in
    c.goto_of-in-None.result)
    (ap (λ (program : Option Known). goto_beside c.args.self.now.block program c.args.scopes.now.last_label
    c.args.numeral.value) (sym (ap option_copied c.in-None.is))
    ∙ goto_here (scopes_view c.args.scopes.now) around before c.args.self.now c.args.numeral.value flow)
    c.goto_of-in-None.ensures
