use Rattle.std.proofs.Common.{rules, arith}
use Rattle.pas_scopes.proofs.ConstantLemmas.{quote_twice, two_bytes, many_bytes}
use Rattle.pas_scopes.proofs.constants.single_byte.Goals as goal

pub returns-in-2 : goal.returns-in-2
returns-in-2 c = quote_twice c.args.text.now (search rules) (search rules)

pub returns-in_default : goal.returns-in_default
returns-in_default c = two_bytes c.args.text.now (search rules) (search rules)

pub returns-in_default-2 : goal.returns-in_default-2
returns-in_default-2 c =
    many_bytes c.args.text.now (λ one. omega (arith, c.in_default)) (λ two. omega (arith, c.in_default))
