use Rattle.std.proofs.Common.{◌∙◌, ap}
use Rattle.pas_types.specs.inner.LabelViews.{Known}
use Rattle.pas_rules.specs.Labels.{has_label}
use Rattle.pas_types.specs.inner.LabelViews.{numbers_of}
use Rattle.pas_types.proofs.LabelLemmas.{found_has}
use Rattle.pas_types.proofs.labels.Labels.has.Goals as goal

pub returns : goal.returns
returns c =
    c.contains_key.ensures ∙ (found_has c.args.label c.self.inside.labels.entries
    ∙ ap (λ (labels : Known). has_label (numbers_of labels) c.args.label) c.self.view_is)
