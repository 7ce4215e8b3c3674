use Rattle.std.proofs.Common.{◌≡◌, Some, rules}
use Rattle.std.specs.List.{position}
use Rattle.wb_ports.proofs.MemShelfLemmas.{is_named, removed}
use Rattle.wb_ports.proofs.mem_shelf.discard.Goals as goal

pub returns-in-Some-clause-others : goal.returns-in-Some-clause-others
returns-in-Some-clause-others c =
    let some : position (is_named c.args.name.now) c.args.files.now.items ≡ Some c.in-Some.place = search rules in
    rw c.remove.ensures.items (removed c.args.files.now.items c.args.name.now c.in-Some.place c.remove.result some)
