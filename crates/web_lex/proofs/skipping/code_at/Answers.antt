use Rattle.web_lex.proofs.CodeLemmas.{next_code-found}
use Rattle.web_lex.proofs.skipping.code_at.Goals as goal

pub returns-in_default-clause-code : goal.returns-in_default-clause-code
returns-in_default-clause-code c =
    let cursor = c.args.cursor.now in
    next_code-found cursor.rest c.pass.new.self.rest c.pass-2.new.self.rest cursor.end c.place-place.result
    c.args.byte c.in_ok-next.next c.control_code.result
    c.requires c.if-byte-ne64.false c.pass.ensures.rest c.in_ok-next.ensures.byte c.pass-2.ensures.rest
    c.place-place.ensures c.control_code.ensures
    c.in_default.not-Ignore c.in_default.not-At
