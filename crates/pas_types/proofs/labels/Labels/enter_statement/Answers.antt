use Rattle.std.proofs.Common.{◌≡◌, ◌∙◌, ap, sym, ℕ, ◌+◌, Option, arith}
use Rattle.std.specs.Prelude.{option_to_list}
use Rattle.std.proofs.lemmas.Grind.{common_steps}
use Rattle.pas_types.specs.declared.labels.Label.{Label}
use Rattle.pas_types.specs.inner.LabelViews.{Known, put_label, entered}
use Rattle.pas_types.proofs.LabelLemmas.{put_entered, entered_nowhere, entered_nothing}
use Rattle.pas_types.proofs.labels.Labels.enter_statement.Goals as goal

pub returns-in_ok-around-in-Some-known : goal.returns-in_ok-around-in-Some-known
returns-in_ok-around-in-Some-known c =
    let label : ℕ = c.in-Some.label in
    let found : Label = c.in-Some-known.found in
    let labels : Known = c.args.self.now in
    let one_more : c.in_ok-around-in-Some-known.around ≡ found.around + 1 = grind (arith, common_steps) in
    c.put.ensures.put
    ∙ (ap (λ (n : ℕ). put_label label (record { stands = found.stands; around = n }) labels) one_more
    ∙ (put_entered label found labels c.put.ensures.unique (sym c.known.ensures ∙ c.in-Some-known.is)
    ∙ ap (λ (o : Option ℕ). entered (option_to_list o) labels) (sym c.in-Some.is)))

pub returns-in-None-known : goal.returns-in-None-known
returns-in-None-known c =
    let labels : Known = c.args.self.now in
    sym (entered_nowhere c.in-Some.label labels (sym c.known.ensures ∙ c.in-None-known.is))
    ∙ ap (λ (o : Option ℕ). entered (option_to_list o) labels) (sym c.in-Some.is)

pub returns-in-None : goal.returns-in-None
returns-in-None c =
    let labels : Known = c.args.self.now in
    sym (entered_nothing labels) ∙ ap (λ (o : Option ℕ). entered (option_to_list o) labels) (sym c.in-None.is)
