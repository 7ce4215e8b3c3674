-- The types of places and values (ISO 7185, 6.5 and 6.7, in this project's profile).
use Rattle.std.specs.Prelude.{Bool, true, false}
use Rattle.pas_syntax.specs.declared.operators.Multiplying.{Multiplying}
use Rattle.pas_syntax.specs.declared.operators.Multiplying.TheVariants as multiplying
use Rattle.pas_syntax.specs.declared.operators.Adding.{Adding}
use Rattle.pas_syntax.specs.declared.operators.Adding.TheVariants as adding
use Rattle.pas_typed.specs.Types.{integer, char, boolean, PasType, whole}
use Rattle.pas_typed.specs.Typed as typed
use Rattle.pas_typed.specs.Typed.{Function, Value, Place}

-- the type of a place and of a value
abbrev pub type_of_place : Place → PasType
type_of_place (typed.slot found) = found.type
type_of_place (typed.element place range type index) = type
type_of_place (typed.field place number type) = type
type_of_place (typed.buffer place type) = type

abbrev pub type_of_function : Function → PasType
type_of_function typed.ord = whole integer
type_of_function typed.chr = whole char
type_of_function typed.abs = whole integer
type_of_function typed.odd = whole boolean

abbrev pub type_of_product : Multiplying → PasType
type_of_product multiplying.And = whole boolean
type_of_product op = whole integer

abbrev pub type_of_addition : Adding → PasType
type_of_addition adding.Or = whole boolean
type_of_addition op = whole integer

abbrev pub type_of : Value → PasType
type_of (typed.constant base value) = whole base
type_of (typed.read place) = type_of_place place
type_of (typed.call number type passed) = type
type_of (typed.applied found value) = type_of_function found
type_of (typed.tested test place) = whole boolean
type_of (typed.parenthesized value) = type_of value
type_of (typed.signed sign value) = whole integer
type_of (typed.negated value) = whole boolean
type_of (typed.product left op right) = type_of_product op
type_of (typed.addition left op right) = type_of_addition op
type_of (typed.comparison left relation right) = whole boolean

-- whether a place is the buffer of a file
abbrev pub is_buffer : Place → Bool
is_buffer (typed.buffer place type) = true
is_buffer place = false
