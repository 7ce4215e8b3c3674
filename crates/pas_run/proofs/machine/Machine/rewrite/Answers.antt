use Rattle.std.proofs.Common.{refl}
use Rattle.pas_run.proofs.FileLemmas.{file_changed, does_rewrite, counts_file}
use Rattle.pas_run.proofs.machine.Machine.rewrite.Goals as goal

pub returns-clause-does : goal.returns-clause-does
returns-clause-does g c most kinds =
    does_rewrite most kinds c.args.file _ _ _ _
    (file_changed _ _ _ c.self.inside.files.items c.args.file c.index_mut.result.now c.rewrite.new.self c.self.view_is
    refl c.index_mut.ensures.value c.requires)
    c.rewrite.result c.stopped.result c.stopped.ensures c.rewrite.ensures.step

pub returns-clause-cause : goal.returns-clause-cause
returns-clause-cause g c =
    counts_file c.args.file _ _ _ _
    (file_changed _ _ _ c.self.inside.files.items c.args.file c.index_mut.result.now c.rewrite.new.self c.self.view_is
    refl c.index_mut.ensures.value c.requires) c.rewrite.result c.stopped.result c.stopped.ensures
    c.rewrite.ensures.cause
