use Rattle.std.proofs.Common.{◌∙◌, sym}
use Rattle.pas_syntax.proofs.PlaceLemmas.{goes_as, is_misplaced}
use Rattle.pas_syntax.proofs.RoutineSteps.{compound_goes, no_compound}
use Rattle.pas_syntax.proofs.routines.main_compound.Goals as goal

pub returns-in-Begin : goal.returns-in-Begin
returns-in-Begin c = compound_goes c.in-Begin.ensures.kind c.in-Begin.ensures.fits c.compound.ensures

pub returns-in_default : goal.returns-in_default
returns-in_default c =
    goes_as (λ m. no_compound m c.args.reader.now.tokens (λ e. c.in_default.not-Begin (c.kind.ensures.kind ∙ sym e)))
    is_misplaced
