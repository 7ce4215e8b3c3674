use Rattle.std.proofs.Common.{◌≡◌, ◌∙◌, ap, sym, subst, false}
use Rattle.std.specs.Prelude.{nat_eq, is_some}
use Rattle.std.specs.Map.{lookup}
use Rattle.pas_types.specs.inner.LabelViews.{Known, put_label}
use Rattle.pas_types.proofs.LabelLemmas.{put_at, put_nowhere}
use Rattle.pas_types.proofs.labels.Labels.put.Goals as goal

pub returns-in-Some-clause-put : goal.returns-in-Some-clause-put
returns-in-Some-clause-put c =
    put_at c.args.label c.args.known c.self.inside.labels.entries c.in-Some.index (sym c.in-Some.ensures.index)
    (sym c.in-Some.ensures.found) c.get_index_of.ensures.unique
    ∙ ap (λ (labels : Known). put_label c.args.label c.args.known labels) c.self.view_is

pub returns-in_default-clause-put : goal.returns-in_default-clause-put
returns-in_default-clause-put c =
    let nowhere : is_some (lookup (nat_eq c.args.label) c.self.inside.labels.entries) ≡ false =
    sym c.get_index_of.ensures.found ∙ ap is_some c.in_default.is in
    sym (subst (λ (labels : Known). put_label c.args.label c.args.known labels ≡ labels) c.self.view_is
    (put_nowhere c.args.label c.args.known c.self.inside.labels.entries nowhere))
