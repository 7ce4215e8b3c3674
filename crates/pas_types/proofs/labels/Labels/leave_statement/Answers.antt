use Rattle.std.proofs.Common.{rules, ◌≡◌, ◌∙◌, ap, sym, ℕ, ◌-◌, Option}
use Rattle.std.specs.Prelude.{option_to_list}
use Rattle.pas_types.specs.declared.labels.Label.{Label}
use Rattle.pas_types.specs.inner.LabelViews.{Known, put_label, left}
use Rattle.pas_types.proofs.LabelLemmas.{put_left, left_nowhere, left_nothing, not_some}
use Rattle.pas_types.proofs.labels.Labels.leave_statement.Goals as goal

pub returns-in-Some-known : goal.returns-in-Some-known
returns-in-Some-known c =
    let label : ℕ = c.in-Some.label in
    let found : Label = c.in-Some-known.found in
    let labels : Known = c.args.self.now in
    let one_less : c.saturating_sub-around.result ≡ found.around - 1 = search rules in
    c.put.ensures.put
    ∙ (ap (λ (n : ℕ). put_label label (record { stands = found.stands; around = n }) labels) one_less
    ∙ (put_left label found labels c.put.ensures.unique (sym c.known.ensures ∙ c.in-Some-known.is)
    ∙ ap (λ (o : Option ℕ). left (option_to_list o) labels) (sym c.in-Some.is)))

pub returns-in_default-known : goal.returns-in_default-known
returns-in_default-known c =
    let labels : Known = c.args.self.now in
    sym (left_nowhere c.in-Some.label labels
    (sym c.known.ensures ∙ not_some c.known.result c.in_default-known.not-Some))
    ∙ ap (λ (o : Option ℕ). left (option_to_list o) labels) (sym c.in-Some.is)

pub returns-in_default : goal.returns-in_default
returns-in_default c =
    let labels : Known = c.args.self.now in
    sym (left_nothing labels)
    ∙ ap (λ (o : Option ℕ). left (option_to_list o) labels) (sym (not_some c.args.label c.in_default.not-Some))
