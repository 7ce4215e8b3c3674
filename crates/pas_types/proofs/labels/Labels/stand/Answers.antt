use Rattle.std.proofs.Common.{◌∙◌, sym}
use Rattle.pas_types.specs.declared.labels.Label.{Label}
use Rattle.pas_types.specs.inner.LabelViews.{Known}
use Rattle.pas_types.proofs.LabelLemmas.{put_stood}
use Rattle.pas_types.proofs.labels.Labels.stand.Goals as goal

pub returns-in-InList-Some-clause-ok : goal.returns-in-InList-Some-clause-ok
returns-in-InList-Some-clause-ok c =
    let found : Label = c.in-InList-Some.label in
    let labels : Known = c.args.self.now in
    c.put.ensures.put
    ∙ put_stood c.args.numeral.value found labels c.put.ensures.unique (sym c.known.ensures ∙ c.in-InList-Some.is-1)
