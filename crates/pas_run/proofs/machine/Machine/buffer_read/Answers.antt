use Rattle.std.proofs.Common.{refl}
use Rattle.pas_meaning.specs.Files as files
use Rattle.pas_run.proofs.FileLemmas.{file_changed, does_ask, counts_file}
use Rattle.pas_run.proofs.machine.Machine.buffer_read.Goals as goal

pub returns-clause-does : goal.returns-clause-does
returns-clause-does g c most kinds =
    does_ask most kinds c.args.file _ _ _ _
    (file_changed _ _ _ c.self.inside.files.items c.args.file c.index_mut.result.now c.buffer_read.new.self
    c.self.view_is
    refl c.index_mut.ensures.value c.requires)
    files.buffer_read (λ found. found) c.buffer_read.result c.stopped.result c.stopped.ensures
    c.buffer_read.ensures.step

pub returns-clause-cause : goal.returns-clause-cause
returns-clause-cause g c =
    counts_file c.args.file _ _ _ _
    (file_changed _ _ _ c.self.inside.files.items c.args.file c.index_mut.result.now c.buffer_read.new.self
    c.self.view_is
    refl c.index_mut.ensures.value c.requires) c.buffer_read.result c.stopped.result c.stopped.ensures
    c.buffer_read.ensures.cause
