use Rattle.std.proofs.Common.{◌≡◌, false, sym, ◌∙◌}
use Rattle.web_names.specs.inner.SectionOrder.{texts_of, is_begun_at, begins_with_one_before}
use Rattle.web_names.proofs.NewSection.{differs_from_all, none_incompatible, with_new_name}
use Rattle.web_names.proofs.sections.index_of_new.Goals as goal

pub returns-clause-some : goal.returns-clause-some
returns-clause-some c =
    let none : is_begun_at (texts_of c.args.names.now) c.args.order.now c.lower_bound-index.result c.args.name.now
    ≡ false =
    sym c.begins_at.ensures ∙ c.if-begins_at.false in
    let none_before : begins_with_one_before
    (texts_of c.args.names.now) c.args.order.now c.lower_bound-index.result c.args.name.now ≡ false =
    sym c.begins_with_one_before.ensures ∙ c.if-begins_with_one_before.false in
    let apart = differs_from_all c.args.name.now (texts_of c.args.names.now) c.requires.new in
    record {
      within = c.lower_bound-index.ensures.within;
      compatible = none_incompatible
          (texts_of c.args.names.now) c.args.order.now c.args.name.now c.lower_bound-index.result c.requires.order
          c.lower_bound-index.ensures apart none none_before;
      ordered = with_new_name
          (texts_of c.args.names.now) c.args.order.now c.args.name.now c.lower_bound-index.result c.requires.order
          c.lower_bound-index.ensures apart none none_before;
    }
