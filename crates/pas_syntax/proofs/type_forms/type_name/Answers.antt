use Rattle.std.proofs.Common.{◌∙◌, sym, subst, Err}
use Rattle.std.proofs.lemmas.Result.{err_from_is_err_and}
use Rattle.pas_syntax.specs.Tree as tree
use Rattle.pas_syntax.specs.ProgramViews.{type_name_in}
use Rattle.pas_syntax.specs.inner.Places.{Parses}
use Rattle.pas_syntax.specs.inner.DeclarationReaders.{type_name}
use Rattle.pas_syntax.proofs.PlaceLemmas.{goes_as, is_misplaced, is_left_out, returned}
use Rattle.pas_syntax.proofs.RoutineSteps.{type_named_goes, left_out_type_goes, no_type_goes, made_of}
use Rattle.pas_syntax.proofs.type_forms.type_name.Goals as goal

pub returns-in-Name : goal.returns-in-Name
returns-in-Name c =
    goes_as (λ m. type_named_goes c.args.reader.now.tokens c.in-Name.ensures.kind)
    (made_of tree.type_named c.ident.ensures)

pub returns-in_err-not_left_out-in_default : goal.returns-in_err-not_left_out-in_default
returns-in_err-not_left_out-in_default c =
    let h = c.in_err-not_left_out-in_default.ensures in
    let place = c.args.reader.now in
    returned (err_from_is_err_and _ c.from_residual.ensures.1)
    (subst (λ why. Parses (λ m. type_name) type_name_in place (Err why) place) (sym h.2)
    (goes_as (λ m. left_out_type_goes place.tokens h.0 c.kind.ensures.fits h.1) is_left_out))

pub returns-in_ok-not_left_out-in_default : goal.returns-in_ok-not_left_out-in_default
returns-in_ok-not_left_out-in_default c =
    goes_as (λ m. no_type_goes c.args.reader.now.tokens (λ e. c.in_default.not-Name (c.kind.ensures.kind ∙ sym e))
    c.in_ok-not_left_out-in_default.ensures) is_misplaced
