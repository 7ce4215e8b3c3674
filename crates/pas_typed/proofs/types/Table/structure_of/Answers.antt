use Rattle.pas_typed.proofs.TableLemmas.{structure_counted}
use Rattle.pas_typed.proofs.types.Table.structure_of.Goals as goal

pub returns-in_err-row_of : goal.returns-in_err-row_of
returns-in_err-row_of c spellings =
    rw (structure_counted spellings _ _ (c.row_of.ensures spellings), c.in_err-row_of.was, c.from_residual.ensures)
