use Rattle.std.proofs.Common.{sym, subst, [], ◌∷◌}
use Rattle.pas_syntax.specs.Views.{numeral_in}
use Rattle.pas_syntax.specs.Words.{Word, number_at}
use Rattle.pas_typed.specs.Typed as typed
use Rattle.pas_rules.specs.Marks.{Judged}
use Rattle.pas_rules.specs.Labels as rule
use Rattle.pas_scopes.specs.ScopeViews.{scopes_view}
use Rattle.pas_scopes.specs.Answers.{Means}
use Rattle.pas_types.specs.inner.LabelViews.{goto_in}
use Rattle.pas_types.proofs.FlowLemmas.{means_at}
use Rattle.pas_types.proofs.flow.Flow.goto_of.Goals as goal

pub returns : goal.returns
returns c around before flow n =
    let word : Word = number_at n (numeral_in c.args.numeral) in
    let part : Judged typed.Statement =
    rule.goto_of (scopes_view c.args.scopes.now) around c.args.numeral.value in
    subst (λ (found : typed.Statement). Means (word ∷ []) part found)
    (sym (c.leads_to.ensures c.args.scopes.now.spellings.now))
    (means_at (number_at 0 (numeral_in c.args.numeral)) word part (goto_in c.in_ok-target_of.field-0)
    (c.in_ok-target_of.ensures around before flow))
