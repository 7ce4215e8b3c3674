use Rattle.std.proofs.Common.{refl, sym, subst, arith}
use Rattle.tangle_out.specs.Packing.{nothing_packed}
use Rattle.tangle_out.specs.Packer.{WaitingText, Waits}
use Rattle.tangle_out.specs.inner.Advance.{nothing_waits}
use Rattle.tangle_out.proofs.packing.Packer.new.Goals as goal

pub returns : goal.returns
returns c =
    let waits : Waits nothing_waits nothing_packed =
    record { within = omega arith; text = refl; semicolon = refl; break_place = refl; before = refl } in (
      nothing_packed,
      (refl, (subst (λ (w : WaitingText). Waits w nothing_packed) (sym c.new.ensures) waits, refl)),
    )
