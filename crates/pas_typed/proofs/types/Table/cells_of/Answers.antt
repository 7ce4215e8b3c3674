use Rattle.pas_typed.proofs.TableLemmas.{cells_counted}
use Rattle.pas_typed.proofs.types.Table.cells_of.Goals as goal

pub returns-in-Some : goal.returns-in-Some
returns-in-Some c spellings =
    rw (cells_counted spellings _ _ (c.row_of.ensures spellings), c.in-Some.is)

pub returns-in-None : goal.returns-in-None
returns-in-None c spellings =
    rw (cells_counted spellings _ _ (c.row_of.ensures spellings), c.in-None.is)
