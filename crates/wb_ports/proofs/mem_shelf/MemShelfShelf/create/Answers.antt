use Rattle.std.proofs.Common.{◌≤◌, length, vec_capacity, arith}
use Rattle.wb_ports.proofs.MemShelfLemmas.{fresh}
use Rattle.wb_ports.proofs.mem_shelf.MemShelfShelf.create.Goals as goal

-- the new file is the first, with its own room
pub invariant_of-self-2 : goal.invariant_of-self-2
invariant_of-self-2 c = λ _.
    let fits : length c.in_ok-file.file.name ≤ vec_capacity c.reserve_name.new.kept =
    rw c.in_ok-file.ensures.name c.in_ok-reserve_name.ensures.reserved in
    fresh _ _ _ _ c.put_first.ensures.first (omega (arith, c.in_ok-file.ensures.reserved))
    (omega (arith, c.in_ok-file.ensures.within)) fits
