use Rattle.pas_typed.proofs.types.Table.base_of.Goals as goal

pub returns-in_err-range_of : goal.returns-in_err-range_of
returns-in_err-range_of c spellings =
    rw (c.range_of.ensures spellings, c.in_err-range_of.was, c.from_residual.ensures)

pub returns : goal.returns
returns c spellings = rw (c.range_of.ensures spellings, c.in_ok-range_of.was)
