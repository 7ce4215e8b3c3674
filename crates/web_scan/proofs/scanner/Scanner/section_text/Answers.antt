use Rattle.std.proofs.Common.{◌∙◌, sym, ap, Some, Ok, Err, arith}
use Rattle.web_lex.specs.declared.tokens.Lexed.{Lexed}
use Rattle.web_lex.specs.Token.{token_of}
use Rattle.web_scan.specs.Texts.{stored_since}
use Rattle.web_scan.proofs.ResultLemmas.{if_ok, if_fault, handed_on}
use Rattle.web_scan.proofs.StepsLemmas.{same_rest}
use Rattle.web_scan.proofs.SectionsLemmas.{section_text-fault, section_text-more, section_text-refuses}
use Rattle.web_scan.proofs.SectionsLemmas.{section_text-used}
use Rattle.web_scan.proofs.SectionsLemmas.{section_text-unused, section_text-ends, open_after_name}
use Rattle.web_scan.proofs.scanner.Scanner.section_text.Goals as goal

pub returns-in_err-token-clause-fault : goal.returns-in_err-token-clause-fault
returns-in_err-token-clause-fault c =
    handed_on Lexed c.from_residual.result c.in_err-token.field-0.0 c.from_residual.ensures.1
    (λ fault. section_text-fault c.args.text.now.first c.args.self.now c.loop-token.self fault
    c.loop-token.invariant.still)
    c.in_err-token.ensures.fault

pub loop-token-preserved-in-Continue-branch-2 : goal.loop-token-preserved-in-Continue-branch-2
loop-token-preserved-in-Continue-branch-2 c =
    let text = c.args.text.now in
    let inv = c.loop-token.invariant in
    let same = same_rest c.text_token.new.self.reading c.token.new.self.reading c.text_token.ensures.reading in
    record {
      still = section_text-more c.loop-token.text.class text.first c.loop-token.text.first c.args.self.now
          c.loop-token.self c.token.new.self c.text_token.new.self
          (token_of c.in_ok-token.token) inv.still inv.class inv.first
          c.in_ok-token.ensures.ok c.in_ok-token.ensures.shorter (sym c.ending_code.ensures ∙ c.in-None.is)
          c.in_ok-text_token-in-None.ensures.ok c.text_token.ensures.reading;
      opened = c.in_ok-text_token-in-None.ensures.open;
      class = c.text_token.ensures.class ∙ inv.class;
      first = c.text_token.ensures.first ∙ inv.first;
      not_longer = omega arith;
    }

pub returns-in_err-text_token-in-None-clause-fault : goal.returns-in_err-text_token-in-None-clause-fault
returns-in_err-text_token-in-None-clause-fault c =
    let text = c.args.text.now in
    let inv = c.loop-token.invariant in
    handed_on (Unit {0}) c.from_residual-in_err-text_token-in-None.result c.in_err-text_token-in-None.field-0.0
    c.from_residual-in_err-text_token-in-None.ensures.1
    (λ fault. section_text-refuses c.loop-token.text.class text.first c.loop-token.text.first c.args.self.now
    c.loop-token.self c.token.new.self (token_of c.in_ok-token.token) fault inv.still inv.class inv.first
    c.in_ok-token.ensures.ok (sym c.ending_code.ensures ∙ c.in-None.is))
    c.in_err-text_token-in-None.ensures.fault

pub loop-token-preserved : goal.loop-token-preserved
loop-token-preserved c =
    let text = c.args.text.now in
    let inv = c.loop-token.invariant in
    let used = c.in_ok-section_used-in-Name.ensures in
    let name = sym c.in-Some.ensures ∙ ap Some c.in-Name.is in
    record {
      still = section_text-used text.first c.args.self.now c.loop-token.self c.token.new.self c.section_used.new.self
          (token_of c.in_ok-token.token) inv.still c.in_ok-token.ensures.ok c.in_ok-token.ensures.shorter name
          c.in_ok-section_used-in-Name.ensures.ok c.in_ok-section_used-in-Name.ensures.not_longer;
      opened = open_after_name c.loop-token.text c.loop-token.self.web c.token.new.self.web c.section_used.new.self.web
          inv.opened c.token.ensures.web used.grows used.«open»;
      class = inv.class;
      first = inv.first;
      not_longer = omega (arith, c.in_ok-section_used-in-Name.ensures.not_longer);
    }

pub returns-in_err-section_used-in-Name-clause-fault : goal.returns-in_err-section_used-in-Name-clause-fault
returns-in_err-section_used-in-Name-clause-fault c =
    let text = c.args.text.now in
    let inv = c.loop-token.invariant in
    let name = sym c.in-Some.ensures ∙ ap Some c.in-Name.is in
    handed_on (Unit {0}) c.from_residual-in_err-section_used-in-Name.result c.in_err-section_used-in-Name.field-0.0
    c.from_residual-in_err-section_used-in-Name.ensures.1
    (λ fault. section_text-unused text.first c.args.self.now c.loop-token.self c.token.new.self
    (token_of c.in_ok-token.token) fault inv.still c.in_ok-token.ensures.ok name)
    c.in_err-section_used-in-Name.ensures.fault

pub returns-in_default-clause-ok : goal.returns-in_default-clause-ok
returns-in_default-clause-ok c =
    let text = c.args.text.now in
    let inv = c.loop-token.invariant in
    let read = c.token.new.self in
    if_ok c.section_end.result
    (λ ended is. section_text-ends text.first c.loop-token.text.first c.args.self.now c.loop-token.self read
    (token_of c.in_ok-token.token) c.in-Some.code inv.still inv.first c.in_ok-token.ensures.ok (sym c.in-Some.ensures)
    c.in_default.not-Name (Ok (stored_since text.first read.web, ended, read))
    (is ∙ ap (λ first. Ok (stored_since first read.web, ended, read)) inv.first))
    c.section_end.ensures.ok

pub returns-in_default-clause-fault : goal.returns-in_default-clause-fault
returns-in_default-clause-fault c =
    let text = c.args.text.now in
    let inv = c.loop-token.invariant in
    if_fault c.section_end.result
    (λ fault. section_text-ends text.first c.loop-token.text.first c.args.self.now c.loop-token.self c.token.new.self
    (token_of c.in_ok-token.token) c.in-Some.code inv.still inv.first c.in_ok-token.ensures.ok (sym c.in-Some.ensures)
    c.in_default.not-Name (Err fault))
    c.section_end.ensures.fault
