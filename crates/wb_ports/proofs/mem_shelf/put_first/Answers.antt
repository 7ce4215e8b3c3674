use Rattle.std.proofs.Common.{◌≡◌, ◌∷◌, true, is_ok, rules}
use Rattle.wb_ports.specs.Files.{SameOthers}
use Rattle.wb_ports.specs.MemShelf.{file_of}
use Rattle.wb_ports.specs.inner.MemShelfKept.{files_in}
use Rattle.wb_ports.proofs.MemShelfLemmas.{put}
use Rattle.wb_ports.proofs.mem_shelf.put_first.Goals as goal

pub returns-clause-puts : goal.returns-clause-puts
returns-clause-puts c =
    let ok : is_ok c.insert-put.result ≡ true = search rules in
    let items : c.insert-put.new.self.items ≡ c.args.file ∷ c.discard.new.files.items =
    rw ok at c.insert-put.ensures.items in
    let others : SameOthers c.args.file.name (file_of (files_in c.args.files.now.items))
    (file_of (files_in c.discard.new.files.items)) =
    rw c.bytes.ensures at c.discard.ensures.others in
    rw items (put c.args.file c.args.files.now.items c.discard.new.files.items others)
