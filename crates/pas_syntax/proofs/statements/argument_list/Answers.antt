use Rattle.std.proofs.Common.{◌∙◌, sym}
use Rattle.std.proofs.lemmas.Result.{err_from_is_err_and}
use Rattle.pas_syntax.specs.ProgramViews.{argument_in}
use Rattle.pas_syntax.specs.inner.StatementReaders.{argument_by}
use Rattle.pas_syntax.proofs.PlaceLemmas.{returned}
use Rattle.pas_syntax.proofs.ItemSteps.{items_unbegun, items_begin, item_stops, one_item_more, items_end}
use Rattle.pas_syntax.proofs.statements.argument_list.Goals as goal

pub returns-in_err-first : goal.returns-in_err-first
returns-in_err-first c =
    returned (err_from_is_err_and _ c.from_residual.ensures.1)
    (items_unbegun argument_in (λ m. argument_by m c.args.depth.forms) c.in_err-first.ensures)

pub more-init : goal.more-init
more-init c =
    items_begin argument_in (λ m. argument_by m c.args.depth.forms) c.new-more.result c.in_ok-first.ensures
    c.new-more.ensures

pub returns-in_err-item-in-Comma : goal.returns-in_err-item-in-Comma
returns-in_err-item-in-Comma c =
    returned (err_from_is_err_and _ c.from_residual-in_err-item-in-Comma.ensures.1)
    (item_stops argument_in (λ m. argument_by m c.args.depth.forms) c.more.more c.more.invariant c.in-Comma.ensures.kind
    c.in-Comma.ensures.fits c.pass-line.ensures c.in_err-item-in-Comma.ensures)

pub more-preserved : goal.more-preserved
more-preserved c =
    one_item_more argument_in (λ m. argument_by m c.args.depth.forms) c.more.more c.push.new.self c.more.invariant
    c.in-Comma.ensures.kind c.in-Comma.ensures.fits c.pass-line.ensures c.in_ok-item-in-Comma.ensures
    c.in_ok-push-in-Comma.ensures.ok

pub returns-in_default : goal.returns-in_default
returns-in_default c =
    items_end argument_in (λ m. argument_by m c.args.depth.forms) c.more.more c.more.invariant
    (λ e. c.in_default.not-Comma (c.kind.ensures.kind ∙ sym e))
