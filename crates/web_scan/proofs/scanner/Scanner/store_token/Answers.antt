use Rattle.std.proofs.lemmas.Result.{on_ok_weaker}
use Rattle.web_scan.proofs.ResultLemmas.{if_fault}
use Rattle.web_scan.proofs.scanner.Scanner.store_token.Goals as goal

pub returns-in-Code-clause-ok : goal.returns-in-Code-clause-ok
returns-in-Code-clause-ok c =
    let stores = on_ok_weaker c.store_code.result (λ each. each c.args.class) c.store_code.ensures.ok in
    rw c.in-Code.is stores

pub returns-in-Code-clause-fault : goal.returns-in-Code-clause-fault
returns-in-Code-clause-fault c =
    let refuses = if_fault c.store_code.result (λ fault each. each c.args.class) c.store_code.ensures.fault in
    rw c.in-Code.is refuses
