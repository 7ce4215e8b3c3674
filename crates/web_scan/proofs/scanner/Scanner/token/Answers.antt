use Rattle.web_lex.specs.Token.{token_of}
use Rattle.web_scan.proofs.ScannerLemmas.{token_read-ok}
use Rattle.web_scan.proofs.scanner.Scanner.token.Goals as goal

pub returns-clause-ok : goal.returns-clause-ok
returns-clause-ok c =
    token_read-ok c.args.self.now c.self.inside.reader c.next.new.self c.self.inside.parts
    (token_of c.in_ok-next.field-0)
    c.self.view_is c.in_ok-next.ensures.ok
