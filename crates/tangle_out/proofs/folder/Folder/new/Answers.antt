use Rattle.tangle_out.proofs.FolderLemmas.{Stands-nothing}
use Rattle.tangle_out.proofs.folder.Folder.new.Goals as goal

pub returns : goal.returns
returns c = rw c.new.ensures Stands-nothing
