use Rattle.std.proofs.Common.{◌∙◌, ap, sym, ℕ, List, take}
use Rattle.std.specs.Prelude.{option_to_list}
use Rattle.pas_syntax.specs.declared.tree.Others.TheViews.{out-Statements, out-MoreStatement}
use Rattle.pas_syntax.specs.declared.tree.MoreStatement.{MoreStatement}
use Rattle.pas_syntax.specs.Tree.{Statement}
use Rattle.pas_syntax.specs.ProgramViews.{statement_in}
use Rattle.pas_rules.specs.Labels.{labels_of_list}
use Rattle.pas_rules.specs.Statements.{label_of}
use Rattle.pas_types.specs.inner.LabelViews.{Known, entered}
use Rattle.pas_types.proofs.LabelLemmas.{entered_both}
use Rattle.pas_scopes.proofs.LabelSeen.{own_is, list_seen, labels_so_far, one_label_more, taken_more, taken_all}
use Rattle.pas_types.proofs.labels.Labels.enter.Goals as goal

pub loop-more-init : goal.loop-more-init
loop-more-init c = λ spellings.
    c.in_ok-enter_statement.ensures
    ∙ ap (λ (own : List ℕ). entered own c.args.self.now)
    (ap option_to_list (c.label_of.ensures spellings)
    ∙ own_is (statement_in spellings (out-Statements c.args.list.now).first))

pub loop-more-preserved : goal.loop-more-preserved
loop-more-preserved c = λ spellings.
    let first : Statement = statement_in spellings (out-Statements c.args.list.now).first in
    let more : List MoreStatement = c.as_slice-more-items.result.now in
    let next : MoreStatement = c.more-item.result in
    c.in_ok-enter_statement-2.ensures
    ∙ (ap (λ (o : List ℕ). entered o c.loop-more.self) (ap option_to_list (c.label_of-in-loop-more.ensures spellings))
    ∙ (ap (λ (labels : Known).
    entered (option_to_list (label_of (statement_in spellings (out-MoreStatement next).statement))) labels)
    (c.loop-more.invariant spellings)
    ∙ (entered_both (labels_so_far spellings first (take c.loop-more.more-index more))
    (option_to_list (label_of (statement_in spellings (out-MoreStatement next).statement))) c.args.self.now
    ∙ ap (λ (labels : List ℕ). entered labels c.args.self.now)
    (sym (one_label_more spellings first (take c.loop-more.more-index more) next)
    ∙ ap (labels_so_far spellings first) (sym (taken_more more c.loop-more.more-index next c.loop-more-test.true
    c.more-item.is))))))

pub returns : goal.returns
returns c = λ spellings.
    let first : Statement = statement_in spellings (out-Statements c.args.list.now).first in
    let more : List MoreStatement = c.as_slice-more-items.result.now in
    c.loop-more.invariant spellings
    ∙ (ap (λ (taken : List MoreStatement). entered (labels_so_far spellings first taken) c.args.self.now)
    (taken_all more c.loop-more.more-index c.loop-more-test.false ∙ c.as_slice-more-items.ensures)
    ∙ ap (λ list. entered (labels_of_list list) c.args.self.now) (sym (list_seen spellings c.args.list.now)))
