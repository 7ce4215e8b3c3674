use Rattle.std.proofs.Common.{arith}
use Rattle.std.proofs.lemmas.Grind.{common_steps}
use Rattle.std.proofs.lemmas.Option.{gets, slice_get-map}
use Rattle.change_merge.proofs.line_list.Lines.place.Goals as goal

pub returns : goal.returns
returns c = grind (arith, common_steps, gets, slice_get-map)
