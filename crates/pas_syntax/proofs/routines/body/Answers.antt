use Rattle.std.proofs.Common.{◌∙◌, refl, sym}
use Rattle.std.proofs.lemmas.Result.{err_from_is_err_and}
use Rattle.pas_syntax.specs.Tree as tree
use Rattle.pas_syntax.specs.inner.Prog.{done}
use Rattle.pas_syntax.proofs.PlaceLemmas.{goes_as, stops, returned, still_stops}
use Rattle.pas_syntax.proofs.PlaceSteps.{from_here, and_then, read}
use Rattle.pas_syntax.proofs.RoutineSteps.{forward_goes, block_goes, block_seen}
use Rattle.pas_syntax.proofs.routines.body.Goals as goal

pub returns-in_err-forward-in-Name : goal.returns-in_err-forward-in-Name
returns-in_err-forward-in-Name c =
    returned (err_from_is_err_and _ c.from_residual.ensures.1)
    (goes_as (λ m. forward_goes m c.args.reader.now.tokens c.in-Name.ensures.kind c.in-Name.ensures.fits)
    (stops (λ m line. done (tree.forward line)) c.in_err-forward-in-Name.ensures))

pub returns-in_ok-forward-in-Name : goal.returns-in_ok-forward-in-Name
returns-in_ok-forward-in-Name c =
    goes_as (λ m. forward_goes m c.args.reader.now.tokens c.in-Name.ensures.kind c.in-Name.ensures.fits)
    (from_here (and_then (λ m line. done (tree.forward line)) c.in_ok-forward-in-Name.ensures (read refl)))

pub returns-in_err-block-in_default : goal.returns-in_err-block-in_default
returns-in_err-block-in_default c =
    returned (err_from_is_err_and _ c.from_residual-in_err-block-in_default.ensures.1)
    (goes_as (λ m. block_goes m c.args.reader.now.tokens (λ e. c.in_default.not-Name (c.kind.ensures.kind ∙ sym e)))
    (still_stops c.in_err-block-in_default.ensures))

pub returns-in_ok-block-in_default : goal.returns-in_ok-block-in_default
returns-in_ok-block-in_default c =
    goes_as (λ m. block_goes m c.args.reader.now.tokens (λ e. c.in_default.not-Name (c.kind.ensures.kind ∙ sym e)))
    (block_seen c.in_ok-block-in_default.ensures)
