use Rattle.std.proofs.Common.{[], reverse, sym, subst}
use Rattle.macro_expand.specs.Items.{digit}
use Rattle.tangle_out.specs.Folder.{FolderState, Stands}
use Rattle.tangle_out.proofs.FolderLemmas.{adds, digit_ok}
use Rattle.tangle_out.proofs.folder.Folder.step_digit.Goals as goal

pub returns-in-Ok-clause-taken : goal.returns-in-Ok-clause-taken
returns-in-Ok-clause-taken c = λ items s.
    let s1 = subst (λ (state : FolderState). Stands state items) (sym c.self.view_is) s in
    let after = digit_ok (reverse items) c.args.byte _ c.in-Ok.number s1.holds (sym c.in-Ok.ensures.value) in
    adds items (digit c.args.byte) _ _ [] s1 after.0 after.1
