use Rattle.std.proofs.Common.{◌∙◌, ap, sym, arith}
use Rattle.web_lex.specs.declared.tokens.Lexed.{Lexed}
use Rattle.web_lex.specs.Token.{token_of}
use Rattle.web_scan.specs.Scanned.{Scanned}
use Rattle.web_scan.proofs.ResultLemmas.{handed_on}
use Rattle.web_scan.proofs.StepsLemmas.{same_rest}
use Rattle.web_scan.proofs.RightSideLemmas.{StillAdds-more, right_side-refuses, right_side-fault, right_side-done}
use Rattle.web_scan.proofs.scanner.Scanner.add_terms.Goals as goal

pub returns-in_err-token-clause-fault : goal.returns-in_err-token-clause-fault
returns-in_err-token-clause-fault c =
    handed_on Lexed c.from_residual.result c.in_err-token.field-0.0 c.from_residual.ensures.1
    (λ fault is terms stands. right_side-fault c.args.id c.args.self.now c.loop-token.self terms c.loop-token.sum fault
    (c.loop-token.invariant.adds terms stands) is)
    c.in_err-token.ensures.fault

pub returns-in-Some-clause-ok : goal.returns-in-Some-clause-ok
returns-in-Some-clause-ok c terms stands =
    right_side-done c.args.id c.args.self.now c.loop-token.self c.token.new.self terms c.loop-token.sum
    (token_of c.in_ok-token.token) c.in-Some.code (c.loop-token.invariant.adds terms stands) c.in_ok-token.ensures.ok
    (sym c.in-Some.ensures)

pub loop-token-preserved : goal.loop-token-preserved
loop-token-preserved c =
    let same = same_rest c.add_term.new.self.reading c.token.new.self.reading c.add_term.ensures.reading in
    record {
      adds = λ terms stands. StillAdds-more c.args.id c.args.self.now c.loop-token.self c.token.new.self
          c.add_term.new.self
          terms c.loop-token.sum c.add_term.new.sum (token_of c.in_ok-token.token)
          (c.loop-token.invariant.adds terms stands) c.in_ok-token.ensures.ok c.in_ok-token.ensures.shorter
          (sym c.ending_code.ensures ∙ c.in_default.is) c.in_ok-add_term.ensures.ok c.add_term.ensures.reading;
      names = c.in_ok-add_term.ensures.names ∙ ap (λ (web : Scanned). web.names) c.token.ensures.web
          ∙ c.loop-token.invariant.names;
      not_longer = omega arith;
    }

pub returns-in_err-add_term-clause-fault : goal.returns-in_err-add_term-clause-fault
returns-in_err-add_term-clause-fault c =
    handed_on (Unit {0}) c.from_residual-in_err-add_term.result c.in_err-add_term.field-0.0
    c.from_residual-in_err-add_term.ensures.1
    (λ fault refuses terms stands. right_side-refuses c.args.id c.args.self.now c.loop-token.self c.token.new.self
    terms
    c.loop-token.sum (token_of c.in_ok-token.token) fault
    (c.loop-token.invariant.adds terms stands) c.in_ok-token.ensures.ok
    (sym c.ending_code.ensures ∙ c.in_default.is) refuses)
    c.in_err-add_term.ensures.fault
