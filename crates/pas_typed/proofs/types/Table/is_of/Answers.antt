use Rattle.pas_typed.proofs.types.Table.is_of.Goals as goal

pub returns-in-Some : goal.returns-in-Some
returns-in-Some c spellings = rw (c.base_of.ensures spellings, c.in-Some.is) c.is.ensures

pub returns-in-None : goal.returns-in-None
returns-in-None c spellings = rw (c.base_of.ensures spellings, c.in-None.is)
