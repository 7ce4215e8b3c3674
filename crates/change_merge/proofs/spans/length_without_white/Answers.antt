use Rattle.std.proofs.Common.{arith, rules, tests}
use Rattle.std.proofs.lemmas.Iterator.Adapters.{YieldsList-from_rev_slice}
use Rattle.std.proofs.lemmas.Iterator.Consumers.{count_from_yields_List}
use Rattle.std.proofs.lemmas.Iterator.Search.{YieldsList-from_take_while}
use Rattle.std.proofs.lemmas.List.Folds.{length-prefix_len}
use Rattle.std.proofs.lemmas.Grind.{common_steps}
use Rattle.wb_base.specs.Bytes.{is_white}
use Rattle.change_merge.proofs.spans.length_without_white.Goals as goal

pub returns : goal.returns
returns c =
    let counted = count_from_yields_List c.take_while.result c.count-white.result c.count-white.ensures.ran
    (YieldsList-from_take_while _ is_white
    (YieldsList-from_rev_slice c.args.bytes.now cc) c.take_while.ensures.closure c.take_while.ensures.done
    (λ x b q k. search (rules, tests))) in
    grind (arith, common_steps, length-prefix_len)
