use Rattle.std.proofs.Common.{rules, arith}
use Rattle.pas_scopes.proofs.ConstantLemmas.{short_none, short_one, short_two, long_two, long_many}
use Rattle.pas_types.proofs.transfers.is_long.Goals as goal

pub returns-in-0 : goal.returns-in-0
returns-in-0 c = short_none c.args.text.now (search rules)

pub returns-in-1 : goal.returns-in-1
returns-in-1 c = short_one c.args.text.now (search rules)

pub returns-in-2 : goal.returns-in-2
returns-in-2 c = short_two c.args.text.now (search rules) (search rules)

pub returns-in_default : goal.returns-in_default
returns-in_default c = long_two c.args.text.now (search rules) (search rules)

pub returns-in_default-2 : goal.returns-in_default-2
returns-in_default-2 c =
    long_many c.args.text.now (λ none. omega (arith, c.in_default)) (λ one. omega (arith, c.in_default))
    (λ two. omega (arith, c.in_default))
