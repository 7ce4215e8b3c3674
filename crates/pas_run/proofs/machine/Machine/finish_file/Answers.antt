use Rattle.std.proofs.Common.{refl, subst, sym, ap}
use Rattle.pas_run.proofs.FileLemmas.{file_changed, counts_by}
use Rattle.pas_run.proofs.EndingLemmas.{finished_file}
use Rattle.pas_run.proofs.machine.Machine.finish_file.Goals as goal

pub returns-clause-finished : goal.returns-clause-finished
returns-clause-finished g c =
    finished_file c.args.file _ _ _ _
    (file_changed _ _ _ c.self.inside.files.items c.args.file c.index_mut.result.now c.finish.new.self c.self.view_is
    refl c.index_mut.ensures.value c.requires) c.finish.ensures.same c.finish.ensures.finished

pub returns-clause-cause : goal.returns-clause-cause
returns-clause-cause g c =
    counts_by c.args.file _ _ _ _
    (file_changed _ _ _ c.self.inside.files.items c.args.file c.index_mut.result.now c.finish.new.self c.self.view_is
    refl c.index_mut.ensures.value c.requires) _ c.finish.ensures.cause
