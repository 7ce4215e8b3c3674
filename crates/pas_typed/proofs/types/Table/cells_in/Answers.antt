use Rattle.pas_typed.proofs.TableLemmas.{counted-mul}
use Rattle.pas_typed.proofs.types.Table.cells_in.Goals as goal

pub returns-in-Array : goal.returns-in-Array
returns-in-Array c spellings =
    rw c.in-Array.is
    (counted-mul _ _ _ _ _ c.count-count.ensures (c.cells_of.ensures spellings) c.saturating_mul.ensures)
