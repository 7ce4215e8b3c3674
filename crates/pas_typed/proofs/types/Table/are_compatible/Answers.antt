use Rattle.std.proofs.Common.{sym, ◌∙◌}
use Rattle.pas_typed.proofs.TableLemmas.{compatible_if_same, incompatible}
use Rattle.pas_typed.proofs.types.Table.are_compatible.Goals as goal

pub returns-in-Some : goal.returns-in-Some
returns-in-Some c spellings = rw (c.base_of.ensures spellings, c.in-Some.is) (c.is_of.ensures spellings)

pub returns-then-is_none : goal.returns-then-is_none
returns-then-is_none c spellings =
    rw (c.base_of.ensures spellings, c.in-None.is, c.base_of-in-None.ensures spellings)
    (compatible_if_same _ _ c.if-is_none.ensures ∙ c.is.ensures)

pub returns-else-is_none : goal.returns-else-is_none
returns-else-is_none c spellings =
    rw (c.base_of.ensures spellings, c.in-None.is, c.base_of-in-None.ensures spellings)
    (incompatible _ _ c.if-is_none.ensures ∙ sym c.if-is_none.false)
