use Rattle.std.proofs.Common.{◌∙◌, sym, arith}
use Rattle.web_lex.specs.declared.tokens.Lexed.{Lexed}
use Rattle.web_lex.specs.Token.{token_of}
use Rattle.web_scan.proofs.ResultLemmas.{handed_on}
use Rattle.web_scan.proofs.StepsLemmas.{same_rest}
use Rattle.web_scan.proofs.TextsLemmas.{macro_text-step, macro_text-refuses, macro_text-done, macro_text-unbalanced}
use Rattle.web_scan.proofs.TextsLemmas.{macro_text-fault}
use Rattle.web_scan.proofs.scanner.Scanner.macro_text.Goals as goal

pub returns-in_err-token-clause-fault : goal.returns-in_err-token-clause-fault
returns-in_err-token-clause-fault c =
    let text = c.args.text.now in
    handed_on Lexed c.from_residual.result c.in_err-token.field-0.0 c.from_residual.ensures.1
    (λ fault. macro_text-fault text.class text.first c.args.self.now c.loop-token.self fault
    c.loop-token.invariant.still)
    c.in_err-token.ensures.fault

pub returns-in_err-check_ended-clause-fault : goal.returns-in_err-check_ended-clause-fault
returns-in_err-check_ended-clause-fault c =
    let text = c.args.text.now in
    handed_on (Unit {0}) c.from_residual-in_err-check_ended.result c.in_err-check_ended.field-0.0
    c.from_residual-in_err-check_ended.ensures.1
    (λ fault. macro_text-unbalanced text.class text.first c.loop-token.text.first c.args.self.now c.loop-token.self
    c.token.new.self
    (token_of c.in_ok-token.token) c.in-Some.code fault c.loop-token.invariant.still c.loop-token.invariant.first
    c.in_ok-token.ensures.ok (sym c.in-Some.ensures))
    c.in_err-check_ended.ensures.fault

pub returns-in-Some-clause-ok : goal.returns-in-Some-clause-ok
returns-in-Some-clause-ok c =
    let text = c.args.text.now in
    macro_text-done text.class text.first c.loop-token.text.first c.args.self.now c.loop-token.self c.token.new.self
    (token_of c.in_ok-token.token) c.in-Some.code c.loop-token.invariant.still c.loop-token.invariant.first
    c.in_ok-token.ensures.ok (sym c.in-Some.ensures) c.in_ok-check_ended.ensures.ok

pub loop-token-preserved : goal.loop-token-preserved
loop-token-preserved c =
    let text = c.args.text.now in
    let inv = c.loop-token.invariant in
    let stored = c.in_ok-text_token.ensures in
    let same = same_rest c.text_token.new.self.reading c.token.new.self.reading c.text_token.ensures.reading in
    record {
      still = macro_text-step text.class c.loop-token.text.class text.first c.loop-token.text.first c.args.self.now
          c.loop-token.self c.token.new.self c.text_token.new.self
          (token_of c.in_ok-token.token) inv.still inv.class inv.first
          c.in_ok-token.ensures.ok c.in_ok-token.ensures.shorter (sym c.ending_code.ensures ∙ c.in_default.is)
          c.in_ok-text_token.ensures.ok c.text_token.ensures.reading;
      opened = c.in_ok-text_token.ensures.open;
      class = c.text_token.ensures.class ∙ inv.class;
      first = c.text_token.ensures.first ∙ inv.first;
      not_longer = omega arith;
    }

pub returns-in_err-text_token-clause-fault : goal.returns-in_err-text_token-clause-fault
returns-in_err-text_token-clause-fault c =
    let text = c.args.text.now in
    let inv = c.loop-token.invariant in
    handed_on (Unit {0}) c.from_residual-in_err-text_token.result c.in_err-text_token.field-0.0
    c.from_residual-in_err-text_token.ensures.1
    (λ fault. macro_text-refuses text.class c.loop-token.text.class text.first c.loop-token.text.first c.args.self.now
    c.loop-token.self c.token.new.self (token_of c.in_ok-token.token) fault inv.still inv.class inv.first
    c.in_ok-token.ensures.ok (sym c.ending_code.ensures ∙ c.in_default.is))
    c.in_err-text_token.ensures.fault
