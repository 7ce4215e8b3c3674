use Rattle.std.proofs.Common.{◌≡◌, ◌∙◌, sym, ◌⊎◌, inl, inr}
use Rattle.std.proofs.lemmas.Result.{err_from_is_err_and}
use Rattle.pas_tokens.specs.declared.kinds.Kind.{Kind}
use Rattle.pas_tokens.specs.declared.kinds.Kind.TheVariants as k
use Rattle.pas_syntax.proofs.PlaceLemmas.{returned}
use Rattle.pas_syntax.proofs.RoutineSteps.{routines_begin, routine_stops, routine_further, one_routine_more}
use Rattle.pas_syntax.proofs.RoutineSteps.{routines_end}
use Rattle.pas_syntax.proofs.routines.routines.Goals as goal

-- a token that begins a routine
begins : {kind found : Kind} → found ≡ kind → ((found ≡ k.Procedure) ⊎ (found ≡ k.Function))
    → (k.Procedure ≡ kind) ⊎ (k.Function ≡ kind)
begins same (inl is) = inl (sym is ∙ same)
begins same (inr is) = inr (sym is ∙ same)

pub more-init : goal.more-init
more-init c = routines_begin c.new-all.result c.new-all.ensures

pub returns-in_err-routine-in-Procedure : goal.returns-in_err-routine-in-Procedure
returns-in_err-routine-in-Procedure c =
    returned (err_from_is_err_and _ c.from_residual.ensures.1)
    (routine_stops c.more.all c.more.invariant (begins c.kind.ensures.kind c.in-Procedure.is) c.kind.ensures.fits
    c.in_err-routine-in-Procedure.ensures)

pub more-smaller : goal.more-smaller
more-smaller c = routine_further c.in_ok-routine-in-Procedure.ensures

pub more-preserved : goal.more-preserved
more-preserved c =
    one_routine_more c.more.all c.push.new.self c.more.invariant (begins c.kind.ensures.kind c.in-Procedure.is)
    c.kind.ensures.fits c.in_ok-routine-in-Procedure.ensures c.in_ok-push-in-Procedure.ensures.ok

pub returns-in_default : goal.returns-in_default
returns-in_default c =
    routines_end c.more.all c.more.invariant (λ e. c.in_default.not-Procedure (c.kind.ensures.kind ∙ sym e))
    (λ e. c.in_default.not-Function (c.kind.ensures.kind ∙ sym e))
