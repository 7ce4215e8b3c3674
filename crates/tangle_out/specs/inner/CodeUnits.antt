-- The units that the code holds, as the definitions see them.
use Rattle.macro_expand.specs.Items.{item_of}
use Rattle.tangle_out.specs.declared.units.Unit.{Unit as CodeUnit}
use Rattle.tangle_out.specs.declared.units.Unit.TheVariants as code
use Rattle.tangle_out.specs.Units.{FoldingUnit, addition, constant, product, joining, other}

-- the unit
abbrev pub unit_seen : CodeUnit → FoldingUnit
unit_seen (code.Sign s) = addition s
unit_seen (code.Number value) = constant value
unit_seen (code.Product item) = product (item_of item)
unit_seen code.Join = joining
unit_seen (code.Other item) = other (item_of item)
