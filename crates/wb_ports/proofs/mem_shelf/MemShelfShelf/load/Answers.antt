use Rattle.std.proofs.Common.{arith}
use Rattle.wb_ports.proofs.MemShelfLemmas.{wider}
use Rattle.wb_ports.proofs.mem_shelf.MemShelfShelf.load.Goals as goal

pub invariant_of-self : goal.invariant_of-self
invariant_of-self c = wider _ _ _ _ _ c.self.invariant c.reserve_name.ensures.capacity

pub invariant_of-self-in_err-text : goal.invariant_of-self-in_err-text
invariant_of-self-in_err-text c = wider _ _ _ _ _ c.self.invariant c.reserve_name.ensures.capacity

pub invariant_of-self-then-not-listed : goal.invariant_of-self-then-not-listed
invariant_of-self-then-not-listed c = wider _ _ _ _ _ c.self.invariant c.reserve_name.ensures.capacity

pub invariant_of-self-in_default : goal.invariant_of-self-in_default
invariant_of-self-in_default c = wider _ _ _ _ _ c.self.invariant (omega arith)

pub invariant_of-self-in_default-2 : goal.invariant_of-self-in_default-2
invariant_of-self-in_default-2 c = wider _ _ _ _ _ c.self.invariant (omega arith)
