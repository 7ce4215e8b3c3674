use Rattle.std.proofs.Common.{◌≢◌, arith}
use Rattle.pas_tokens.proofs.CuttingLemmas.{string_by-some}
use Rattle.pas_tokens.proofs.cutting.string_cut.Goals as goal

pub returns-in-Some-clause-value : goal.returns-in-Some-clause-value
returns-in-Some-clause-value c =
    let some : c.in-Some.size ≢ 0 = omega (arith, c.in-Some.size-is) in
    string_by-some c.args.inside.now c.in-Some.size _ some c.in-Some.ensures.value
