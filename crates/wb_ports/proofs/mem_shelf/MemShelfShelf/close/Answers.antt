use Rattle.wb_ports.proofs.MemShelfLemmas.{wider}
use Rattle.wb_ports.proofs.mem_shelf.MemShelfShelf.close.Goals as goal

pub invariant_of-self : goal.invariant_of-self
invariant_of-self c = wider _ _ _ _ _ c.self.invariant c.keep_failure.ensures.capacity
