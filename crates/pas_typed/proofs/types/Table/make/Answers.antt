use Rattle.std.proofs.Common.{◌∙◌}
use Rattle.pas_typed.proofs.TableLemmas.{made_rows}
use Rattle.pas_typed.proofs.types.Table.make.Goals as goal

pub returns-clause-made : goal.returns-clause-made
returns-clause-made c spellings =
    made_rows spellings _ _ _ _ _ c.self.view_is (c.in-Ok.ensures.1 ∙ c.len.ensures) c.in_ok-push.ensures.ok
