use Rattle.std.proofs.Common.{◌∙◌, sym}
use Rattle.web2c_cli.proofs.RequestLemmas.{request_empty, request_found, request_unknown}
use Rattle.web2c_cli.proofs.command_line.read_request.Goals as goal

pub returns-then-count-eq0 : goal.returns-then-count-eq0
returns-then-count-eq0 c = sym (request_empty _ (sym c.count.ensures ∙ c.if-count-eq0.true))

pub returns-in-Some : goal.returns-in-Some
returns-in-Some c = c.read_order.ensures ∙ request_found _ _ _ c.word.ensures c.in-Some.ensures

pub returns-in-None : goal.returns-in-None
returns-in-None c = request_unknown _ _ c.word.ensures c.in-None.ensures
