use Rattle.std.proofs.Common.{refl}
use Rattle.pas_meaning.specs.Files as files
use Rattle.pas_run.proofs.FileLemmas.{file_changed, does_make, counts_file}
use Rattle.pas_run.proofs.machine.Machine.buffer_set.Goals as goal

pub returns-clause-does : goal.returns-clause-does
returns-clause-does g c most kinds =
    does_make most kinds c.args.file _ _ _ _
    (file_changed _ _ _ c.self.inside.files.items c.args.file c.index_mut.result.now c.buffer_set.new.self
    c.self.view_is
    refl c.index_mut.ensures.value c.requires)
    (files.buffer_set c.args.byte) c.buffer_set.result c.stopped.result c.stopped.ensures c.buffer_set.ensures.step

pub returns-clause-cause : goal.returns-clause-cause
returns-clause-cause g c =
    counts_file c.args.file _ _ _ _
    (file_changed _ _ _ c.self.inside.files.items c.args.file c.index_mut.result.now c.buffer_set.new.self
    c.self.view_is
    refl c.index_mut.ensures.value c.requires) c.buffer_set.result c.stopped.result c.stopped.ensures
    c.buffer_set.ensures.cause
