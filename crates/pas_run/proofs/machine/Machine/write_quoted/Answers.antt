use Rattle.std.proofs.Common.{ℕ, ℤ, List, refl, subst}
use Rattle.std.proofs.Math.Facts.{to_z-of_z}
use Rattle.pas_meaning.specs.Files as files
use Rattle.pas_typed.specs.Texts.{undoubled}
use Rattle.pas_run.specs.RunFiles.{Appends}
use Rattle.pas_run.proofs.FileLemmas.{file_changed, does_append, counts_file}
use Rattle.pas_run.proofs.machine.Machine.write_quoted.Goals as goal

pub returns-clause-does : goal.returns-clause-does
returns-clause-does g c most kinds =
    let text : List ℕ = undoubled c.args.spelled.now in
    does_append most kinds c.args.file _ _ _ _
    (file_changed _ _ _ c.self.inside.files.items c.args.file c.index_mut.result.now c.write_quoted.new.self
    c.self.view_is refl c.index_mut.ensures.value c.requires)
    (files.written (λ field. files.string_in_field field text) c.args.width) c.write_quoted.result
    c.stopped.result c.stopped.ensures
    (subst (λ (width : ℤ). Appends (files.written (λ field. files.string_in_field field text) width)
    c.index_mut.result.now.state (g.P.Port.told c.index_mut.result.now.port) c.write_quoted.new.self.state
    (g.P.Port.told c.write_quoted.new.self.port) c.write_quoted.result) (to_z-of_z c.ranges.width)
    c.write_quoted.ensures.step)

pub returns-clause-cause : goal.returns-clause-cause
returns-clause-cause g c =
    counts_file c.args.file _ _ _ _
    (file_changed _ _ _ c.self.inside.files.items c.args.file c.index_mut.result.now c.write_quoted.new.self
    c.self.view_is refl c.index_mut.ensures.value c.requires) c.write_quoted.result c.stopped.result c.stopped.ensures
    c.write_quoted.ensures.cause
