-- The code's places and values, a variant at a time, as those of the definition.
use Rattle.std.proofs.Common.{◌≡◌, sym, ap, ◌∙◌, ℕ, List, [], ◌∷◌, ◌++◌, map}
use Rattle.std.specs.Prelude.{ℤ}
use Rattle.pas_syntax.specs.declared.operators.Sign.{Sign}
use Rattle.pas_syntax.specs.declared.operators.Multiplying.{Multiplying}
use Rattle.pas_syntax.specs.declared.operators.Adding.{Adding}
use Rattle.pas_syntax.specs.declared.operators.Relation.{Relation}
use Rattle.pas_syntax.specs.Views.{in_turn}
use Rattle.pas_typed.specs.declared.types.Base.{Base as CodeBase}
use Rattle.pas_typed.specs.declared.types.Range.{Range as CodeRange}
use Rattle.pas_typed.specs.declared.types.PasType.{PasType as CodePasType}
use Rattle.pas_typed.specs.declared.typed.Slot.{Slot as CodeSlot}
use Rattle.pas_typed.specs.declared.typed.Function.{Function as CodeFunction}
use Rattle.pas_typed.specs.declared.typed.FileTest.{FileTest as CodeFileTest}
use Rattle.pas_typed.specs.declared.typed.Value as code_value
use Rattle.pas_typed.specs.declared.typed.Value.TheVariants as value
use Rattle.pas_typed.specs.declared.typed.Place as code_place
use Rattle.pas_typed.specs.declared.typed.Part as code_part
use Rattle.pas_typed.specs.declared.typed.Part.TheVariants as part
use Rattle.pas_typed.specs.declared.typed.Passed as code_passed
use Rattle.pas_typed.specs.declared.typed.Passed.TheVariants as passed
use Rattle.pas_typed.specs.declared.typed.Call as code_call
use Rattle.pas_typed.specs.declared.typed.Part.TheOpen.{Part-F, Passed-F, Value-F, Call-F, Place-F}
use Rattle.pas_typed.specs.declared.typed.Part.TheViews.{roll-Call, roll-Place}
use Rattle.pas_typed.specs.declared.typed.Part.TheFolds.{fold-roll-Part, fold-roll-Passed, fold-roll-Value}
use Rattle.pas_typed.specs.declared.typed.Part.TheFolds.{fold-roll-Call, fold-roll-Place}
use Rattle.pas_typed.specs.Typed as typed
use Rattle.pas_typed.specs.Typed.{Value, Place, Passed}
use Rattle.pas_typed.specs.TypeViews.{base_view, range_view, type_view}
use Rattle.pas_typed.specs.TypedViews.{slot_view, function_view, file_test_view, part_step, passed_step, value_step}
use Rattle.pas_typed.specs.TypedViews.{call_step, place_step, part_view, passed_view, value_view, call_view}
use Rattle.pas_typed.specs.TypedViews.{place_view, passed_views}
use Rattle.pas_typed.proofs.OrderLemmas.{pushed_in_turn}

pub value_view-Constant : (base : CodeBase) (found : ℤ)
    → value_view (value.Constant base found) ≡ typed.constant (base_view base) found
unfolding code_value.roll-Value denote.Hole.Carrier.roll
value_view-Constant base found =
    fold-roll-Value (Place → Place) (Passed → Passed) Value Value Place
    part_step passed_step value_step call_step place_step (Value-F.Constant base found)

pub value_view-Read : (place : code_place.Place)
    → value_view (value.Read place) ≡ typed.read (place_view place)
unfolding code_value.roll-Value denote.Hole.Carrier.roll
value_view-Read place =
    fold-roll-Value (Place → Place) (Passed → Passed) Value Value Place
    part_step passed_step value_step call_step place_step (Value-F.Read place)

pub value_view-Call : (call : code_call.Call)
    → value_view (value.Call call) ≡ call_view call
unfolding code_value.roll-Value denote.Hole.Carrier.roll
value_view-Call call =
    fold-roll-Value (Place → Place) (Passed → Passed) Value Value Place
    part_step passed_step value_step call_step place_step (Value-F.Call call)

pub value_view-Applied : (function : CodeFunction) (argument : code_value.Value)
    → value_view (value.Applied function argument) ≡ typed.applied (function_view function) (value_view argument)
unfolding code_value.roll-Value denote.Hole.Carrier.roll
value_view-Applied function argument =
    fold-roll-Value (Place → Place) (Passed → Passed) Value Value Place
    part_step passed_step value_step call_step place_step (Value-F.Applied function argument)

pub value_view-Tested : (test : CodeFileTest) (place : code_place.Place)
    → value_view (value.Tested test place) ≡ typed.tested (file_test_view test) (place_view place)
unfolding code_value.roll-Value denote.Hole.Carrier.roll
value_view-Tested test place =
    fold-roll-Value (Place → Place) (Passed → Passed) Value Value Place
    part_step passed_step value_step call_step place_step (Value-F.Tested test place)

pub value_view-Parenthesized : (inner : code_value.Value)
    → value_view (value.Parenthesized inner) ≡ typed.parenthesized (value_view inner)
unfolding code_value.roll-Value denote.Hole.Carrier.roll
value_view-Parenthesized inner =
    fold-roll-Value (Place → Place) (Passed → Passed) Value Value Place
    part_step passed_step value_step call_step place_step (Value-F.Parenthesized inner)

pub value_view-Signed : (sign : Sign) (operand : code_value.Value)
    → value_view (value.Signed sign operand) ≡ typed.signed sign (value_view operand)
unfolding code_value.roll-Value denote.Hole.Carrier.roll
value_view-Signed sign operand =
    fold-roll-Value (Place → Place) (Passed → Passed) Value Value Place
    part_step passed_step value_step call_step place_step (Value-F.Signed sign operand)

pub value_view-Negated : (operand : code_value.Value)
    → value_view (value.Negated operand) ≡ typed.negated (value_view operand)
unfolding code_value.roll-Value denote.Hole.Carrier.roll
value_view-Negated operand =
    fold-roll-Value (Place → Place) (Passed → Passed) Value Value Place
    part_step passed_step value_step call_step place_step (Value-F.Negated operand)

pub value_view-Product : (left : code_value.Value) (op : Multiplying) (right : code_value.Value)
    → value_view (value.Product left op right) ≡ typed.product (value_view left) op (value_view right)
unfolding code_value.roll-Value denote.Hole.Carrier.roll
value_view-Product left op right =
    fold-roll-Value (Place → Place) (Passed → Passed) Value Value Place
    part_step passed_step value_step call_step place_step (Value-F.Product left op right)

pub value_view-Addition : (left : code_value.Value) (op : Adding) (right : code_value.Value)
    → value_view (value.Addition left op right) ≡ typed.addition (value_view left) op (value_view right)
unfolding code_value.roll-Value denote.Hole.Carrier.roll
value_view-Addition left op right =
    fold-roll-Value (Place → Place) (Passed → Passed) Value Value Place
    part_step passed_step value_step call_step place_step (Value-F.Addition left op right)

pub value_view-Comparison : (left : code_value.Value) (relation : Relation) (right : code_value.Value)
    → value_view (value.Comparison left relation right)
    ≡ typed.comparison (value_view left) relation (value_view right)
unfolding code_value.roll-Value denote.Hole.Carrier.roll
value_view-Comparison left relation right =
    fold-roll-Value (Place → Place) (Passed → Passed) Value Value Place
    part_step passed_step value_step call_step place_step (Value-F.Comparison left relation right)

pub part_view-Element : (indexes : CodeRange) (type : CodePasType) (index : code_value.Value)
    → part_view (part.Element indexes type index)
    ≡ (λ place. typed.element place (range_view indexes) (type_view type) (value_view index))
unfolding code_part.roll-Part denote.Hole.Carrier.roll
part_view-Element indexes type index =
    fold-roll-Part (Place → Place) (Passed → Passed) Value Value Place
    part_step passed_step value_step call_step place_step (Part-F.Element indexes type index)

pub part_view-Field : (number : ℕ) (type : CodePasType)
    → part_view (part.Field number type) ≡ (λ place. typed.field place number (type_view type))
unfolding code_part.roll-Part denote.Hole.Carrier.roll
part_view-Field number type =
    fold-roll-Part (Place → Place) (Passed → Passed) Value Value Place
    part_step passed_step value_step call_step place_step (Part-F.Field number type)

pub part_view-Buffer : (type : CodePasType)
    → part_view (part.Buffer type) ≡ (λ place. typed.buffer place (type_view type))
unfolding code_part.roll-Part denote.Hole.Carrier.roll
part_view-Buffer type =
    fold-roll-Part (Place → Place) (Passed → Passed) Value Value Place
    part_step passed_step value_step call_step place_step (Part-F.Buffer type)

pub passed_view-Value : (type : CodePasType) (argument : code_value.Value)
    → passed_view (passed.Value type argument) ≡ (λ others. typed.value (type_view type) (value_view argument) others)
unfolding code_passed.roll-Passed denote.Hole.Carrier.roll
passed_view-Value type argument =
    fold-roll-Passed (Place → Place) (Passed → Passed) Value Value Place
    part_step passed_step value_step call_step place_step (Passed-F.Value type argument)

pub passed_view-Reference : (place : code_place.Place)
    → passed_view (passed.Reference place) ≡ (λ others. typed.reference (place_view place) others)
unfolding code_passed.roll-Passed denote.Hole.Carrier.roll
passed_view-Reference place =
    fold-roll-Passed (Place → Place) (Passed → Passed) Value Value Place
    part_step passed_step value_step call_step place_step (Passed-F.Reference place)

pub call_view-roll : (x : Call-F code_part.Part code_passed.Passed code_value.Value code_call.Call code_place.Place)
    → call_view (roll-Call x) ≡ typed.call x.routine (type_view x.pas_type) (passed_views x.passed)
call_view-roll x =
    fold-roll-Call (Place → Place) (Passed → Passed) Value Value Place
    part_step passed_step value_step call_step place_step x

pub place_view-roll : (x : Place-F code_part.Part code_passed.Passed code_value.Value code_call.Call code_place.Place)
    → place_view (roll-Place x) ≡ in_turn (typed.slot (slot_view x.slot)) (map part_view x.parts)
place_view-roll x =
    fold-roll-Place (Place → Place) (Passed → Passed) Value Value Place
    part_step passed_step value_step call_step place_step x

-- a variable by itself, and a place with one part more
pub place_view-slot : (slot : CodeSlot)
    → place_view (roll-Place (record { slot = slot; parts = [] })) ≡ typed.slot (slot_view slot)
place_view-slot slot = place_view-roll (record { slot = slot; parts = [] })

pub place_view-push : (slot : CodeSlot) (parts all : List code_part.Part) (last : code_part.Part)
    → all ≡ parts ++ last ∷ []
    → place_view (roll-Place (record { slot = slot; parts = all }))
    ≡ part_view last (place_view (roll-Place (record { slot = slot; parts = parts })))
place_view-push slot parts all last is =
    place_view-roll (record { slot = slot; parts = all })
    ∙ pushed_in_turn (typed.slot (slot_view slot)) part_view parts all last is
    ∙ ap (part_view last) (sym (place_view-roll (record { slot = slot; parts = parts })))
