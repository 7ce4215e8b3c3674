use Rattle.std.proofs.Common.{◌≡◌, ◌∙◌, ap, sym, subst, ℕ, ◌++◌, ◌∷◌, [], None, false}
use Rattle.std.specs.Prelude.{nat_eq, not}
use Rattle.std.specs.Map.{lookup}
use Rattle.wb_base.specs.declared.faults.TheConstants.{DUPLICATE_NAME}
use Rattle.indexmap.proofs.CallerLemmas.{insert_entry-new}
use Rattle.pas_rules.specs.Labels.{has_label}
use Rattle.pas_types.specs.declared.labels.Label.{Label}
use Rattle.pas_types.specs.inner.LabelViews.{Known, numbers_of}
use Rattle.pas_types.specs.inner.LabelAnswers.{fresh_label}
use Rattle.pas_types.proofs.LabelLemmas.{not_had, demanded_holds, not_true}
use Rattle.pas_types.proofs.labels.Labels.declare.Goals as goal

pub returns-clause-ok : goal.returns-clause-ok
returns-clause-ok c =
    let label : Label = record { stands = false; around = 0 } in
    let value : ℕ = c.args.numeral.value in
    let had : has_label (numbers_of c.args.self.now) value ≡ false =
    sym c.has.ensures ∙ not_true c.has.result (demanded_holds (not c.has.result) DUPLICATE_NAME c.args.numeral.line
    c.in_ok-demand.field-0 (sym c.demand.ensures ∙ c.in_ok-demand.was)) in
    let new : lookup (nat_eq value) c.self.inside.labels.entries ≡ None =
    subst (λ (labels : Known). lookup (nat_eq value) labels ≡ None) (sym c.self.view_is)
    (not_had value c.args.self.now had) in
    c.in_ok-insert.ensures.entries
    ∙ (insert_entry-new nat_eq c.self.inside.labels value label new
    ∙ ap (λ (labels : Known). labels ++ fresh_label value ∷ []) c.self.view_is)
