use Rattle.wb_ports.proofs.MemShelfLemmas.{still_writable}
use Rattle.wb_ports.proofs.mem_shelf.append_to_first.Goals as goal

pub returns-clause-still_writable : goal.returns-clause-still_writable
returns-clause-still_writable c = λ name_capacity was.
    still_writable c.args.room name_capacity c.args.files.now.items c.append_within.new.bytes
    c.index_mut-file.result.now c.index_mut-file.ensures.value was c.append_within.ensures.still_reserved
    c.append_within.ensures.still_within
