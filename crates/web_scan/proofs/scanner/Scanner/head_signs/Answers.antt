use Rattle.std.proofs.Common.{◌∙◌, ap, sym, arith}
use Rattle.web_lex.specs.declared.tokens.Lexed.{Lexed}
use Rattle.web_lex.specs.Token.{token_of}
use Rattle.wb_base.specs.FaultAt.{fault_at}
use Rattle.wb_base.specs.declared.faults.TheConstants.{NO_EQUALS_SIGN}
use Rattle.web_scan.proofs.ResultLemmas.{handed_on}
use Rattle.web_scan.proofs.SectionsLemmas.{head_read-ends, head_read-refuses, head_read-fault, head_read-more}
use Rattle.web_scan.proofs.scanner.Scanner.head_signs.Goals as goal

pub returns-in_err-token-clause-fault : goal.returns-in_err-token-clause-fault
returns-in_err-token-clause-fault c =
    handed_on Lexed c.from_residual.result c.in_err-token.field-0.0 c.from_residual.ensures.1
    (λ fault. head_read-fault c.args.self.now c.loop-token.self fault c.loop-token.invariant.still)
    c.in_err-token.ensures.fault

pub returns-then-is_equals-clause-ok : goal.returns-then-is_equals-clause-ok
returns-then-is_equals-clause-ok c =
    head_read-ends c.args.self.now c.loop-token.self c.token.new.self (token_of c.in_ok-token.token)
    c.loop-token.invariant.still c.in_ok-token.ensures.ok (sym c.is_equals.ensures ∙ c.if-is_equals.true)

pub returns-then-not-is_sign-clause-fault : goal.returns-then-not-is_sign-clause-fault
returns-then-not-is_sign-clause-fault c =
    rw c.into.ensures
    (head_read-refuses c.args.self.now c.loop-token.self c.token.new.self (token_of c.in_ok-token.token) c.at.result
    c.loop-token.invariant.still c.in_ok-token.ensures.ok (sym c.is_equals.ensures ∙ c.if-is_equals.false)
    (sym c.if-not-is_sign.ensures) (c.at.ensures ∙ ap (fault_at NO_EQUALS_SIGN) c.place.ensures))

pub loop-token-preserved : goal.loop-token-preserved
loop-token-preserved c = record {
  still = head_read-more c.args.self.now c.loop-token.self c.token.new.self (token_of c.in_ok-token.token)
      c.loop-token.invariant.still c.in_ok-token.ensures.ok c.in_ok-token.ensures.shorter
      (sym c.is_equals.ensures ∙ c.if-is_equals.false) (sym c.if-not-is_sign.ensures);
  not_longer = omega arith;
}
