use Rattle.std.proofs.Common.{◌∙◌, sym, arith}
use Rattle.pas_syntax.proofs.ConstantSteps.{signed_constant}
use Rattle.pas_syntax.proofs.constants.constant.Goals as goal

pub returns-in_default : goal.returns-in_default
returns-in_default c =
    signed_constant c.sign-sign.result (λ e. c.in_default.not-Text (c.kind.ensures.kind ∙ sym e)) c.sign-sign.ensures
    (omega arith) c.unsigned.ensures
