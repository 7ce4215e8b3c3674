use Rattle.std.proofs.Common.{◌∙◌, sym, ap}
use Rattle.std.proofs.lemmas.Result.{err_from_is_err_and}
use Rattle.pas_syntax.specs.Views.{constant_in}
use Rattle.pas_syntax.specs.inner.Prog.{look, run}
use Rattle.pas_syntax.specs.inner.TypeReaders.{range_at, range_by}
use Rattle.pas_syntax.proofs.PlaceLemmas.{returned, goes_as, stops}
use Rattle.pas_syntax.proofs.PlaceSteps.{from_here, and_then, as_read}
use Rattle.pas_syntax.proofs.ConstantSteps.{simple_goes, range_goes}
use Rattle.pas_syntax.proofs.type_forms.simple.Goals as goal

pub returns-in_err-low-in_default : goal.returns-in_err-low-in_default
returns-in_err-low-in_default c =
    returned (err_from_is_err_and _ c.from_residual-in_err-low-in_default.ensures.1)
    (goes_as (λ m. simple_goes c.args.reader.now.tokens (λ e. c.in_default.not-Name (c.kind.ensures.kind ∙ sym e))
    c.in_ok-not_left_out-in_default.ensures)
    (stops (λ m low. look (range_at low)) c.in_err-low-in_default.ensures))

pub returns-in_ok-low-in_default : goal.returns-in_ok-low-in_default
returns-in_ok-low-in_default c =
    let s = c.args.reader.now.spellings in
    let ts = c.constant.new.reader.tokens in
    let low = c.in_ok-low-in_default.low in
    goes_as (λ m. simple_goes c.args.reader.now.tokens (λ e. c.in_default.not-Name (c.kind.ensures.kind ∙ sym e))
    c.in_ok-not_left_out-in_default.ensures)
    (from_here (and_then (λ m low. look (range_at low)) c.in_ok-low-in_default.ensures
    (λ e. as_read (goes_as (λ m. range_goes (constant_in s low) ts
    ∙ ap (λ s. run (range_by (constant_in s low)) ts) (sym e)) c.range.ensures) e)))
