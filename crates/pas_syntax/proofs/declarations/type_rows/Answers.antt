use Rattle.std.proofs.Common.{◌∙◌, sym}
use Rattle.std.proofs.lemmas.Result.{err_from_is_err_and}
use Rattle.pas_tokens.specs.declared.kinds.Kind.TheVariants as k
use Rattle.pas_syntax.specs.ProgramViews.{type_row_in}
use Rattle.pas_syntax.specs.inner.DeclarationReaders.{type_row_behind}
use Rattle.pas_syntax.proofs.PlaceLemmas.{returned}
use Rattle.pas_syntax.proofs.RowSteps.{first_stops, rows_begin, row_stops, one_row_more, rows_end, row_further}
use Rattle.pas_syntax.proofs.declarations.type_rows.Goals as goal

pub returns-in_err-first : goal.returns-in_err-first
returns-in_err-first c =
    returned (err_from_is_err_and _ c.from_residual.ensures.1)
    (first_stops type_row_in type_row_behind k.Type c.in-Some.ensures c.in_err-first.ensures)

pub more-init : goal.more-init
more-init c =
    rows_begin type_row_in type_row_behind k.Type c.new-more.result c.in-Some.ensures
    c.in_ok-first.ensures c.new-more.ensures

pub returns-in_err-type_row-in-Name : goal.returns-in_err-type_row-in-Name
returns-in_err-type_row-in-Name c =
    returned (err_from_is_err_and _ c.from_residual-in_err-type_row-in-Name.ensures.1)
    (row_stops type_row_in type_row_behind k.Type c.more.more c.in-Some.ensures c.more.invariant
    c.in-Name.ensures.kind c.in-Name.ensures.fits c.in_err-type_row-in-Name.ensures)

pub more-smaller : goal.more-smaller
more-smaller c = row_further type_row_behind c.in_ok-type_row-in-Name.ensures

pub more-preserved : goal.more-preserved
more-preserved c =
    one_row_more type_row_in type_row_behind k.Type c.more.more c.push.new.self c.more.invariant
    c.in-Name.ensures.kind c.in-Name.ensures.fits c.in_ok-type_row-in-Name.ensures c.in_ok-push-in-Name.ensures.ok

pub returns-in_default-kind : goal.returns-in_default-kind
returns-in_default-kind c =
    rows_end type_row_in type_row_behind k.Type c.more.more c.in-Some.ensures c.more.invariant
    (λ e. c.in_default-kind.not-Name (c.kind.ensures.kind ∙ sym e))
