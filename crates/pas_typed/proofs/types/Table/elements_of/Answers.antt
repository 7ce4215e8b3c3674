use Rattle.pas_typed.proofs.types.Table.elements_of.Goals as goal

pub returns-in_err-structure_of : goal.returns-in_err-structure_of
returns-in_err-structure_of c spellings =
    rw (c.structure_of.ensures spellings, c.in_err-structure_of.was, c.from_residual.ensures)

pub returns : goal.returns
returns c spellings =
    rw (c.structure_of.ensures spellings, c.in_ok-structure_of.was) (c.elements.ensures spellings)
