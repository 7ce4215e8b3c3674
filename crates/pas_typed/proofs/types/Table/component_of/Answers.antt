use Rattle.pas_typed.proofs.TableLemmas.{component_by_row}
use Rattle.pas_typed.proofs.types.Table.component_of.Goals as goal

pub returns-in_err-structure_of-in_default : goal.returns-in_err-structure_of-in_default
returns-in_err-structure_of-in_default c spellings =
    rw (
      component_by_row _ _ c.in_default.not-Text,
      c.structure_of.ensures spellings,
      c.in_err-structure_of-in_default.was,
      c.from_residual.ensures,
    )

pub returns-in_ok-structure_of-in_default : goal.returns-in_ok-structure_of-in_default
returns-in_ok-structure_of-in_default c spellings =
    rw (
      component_by_row _ _ c.in_default.not-Text,
      c.structure_of.ensures spellings,
      c.in_ok-structure_of-in_default.was,
    ) (c.component.ensures spellings)
