use Rattle.std.proofs.Common.{length, take, drop, ◌-◌}
use Rattle.std.proofs.lemmas.List.{take_rest}
use Rattle.pas_tokens.proofs.CuttingLemmas.{longer-none, string_size-more}
use Rattle.pas_tokens.proofs.cutting.string_size.Goals as goal

pub loop-size-init : goal.loop-size-init
loop-size-init c = longer-none _

pub loop-size-preserved-in-Single : goal.loop-size-preserved-in-Single
loop-size-preserved-in-Single c =
    let inside = c.args.inside.now in
    let size = c.loop-size.size in
    string_size-more inside (take (length inside - size) (drop size inside)) size 1
    (take_rest inside size) c.in-Single.ensures c.loop-size.invariant

pub loop-size-preserved : goal.loop-size-preserved
loop-size-preserved c =
    let inside = c.args.inside.now in
    let size = c.loop-size.size in
    string_size-more inside (take (length inside - size) (drop size inside)) size 2
    (take_rest inside size) c.in-Doubled.ensures c.loop-size.invariant
