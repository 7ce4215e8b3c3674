-- What functions on expressions answer.
use Rattle.std.specs.Prelude.{◌≡◌, [], ◌∷◌, Option, Some, None}
use Rattle.wb_base.specs.declared.faults.TheConstants.{UNKNOWN_NAME}
use Rattle.pas_tokens.specs.Cutting.{wrong}
use Rattle.pas_typed.specs.declared.typed.Part as code_part
use Rattle.pas_typed.specs.Typed as typed
use Rattle.pas_typed.specs.Typed.{Variable, Value, Place, Passed}
use Rattle.pas_typed.specs.TypedViews.{part_view}
use Rattle.pas_rules.specs.Marks.{quiet, joined, Judged, judged, means, refuses, known}
use Rattle.pas_rules.specs.TypeForms.{ConstantValue}

-- an expression between parentheses
abbrev pub parenthesized_of : Judged Value → Judged Value
parenthesized_of part = judged (joined (quiet ∷ part.marks ∷ quiet ∷ [])) (known typed.parenthesized part.value)

-- a string of one byte as a value
abbrev pub char_value : Judged ConstantValue → Judged Value
char_value part = judged part.marks (known (λ text. typed.constant text.base text.value) part.value)

-- what a part makes of a place, or that there is none of its name
abbrev pub Finds : (Place → Judged Place) → Option code_part.Part → Type 0
Finds part (Some found) = (place : Place) → part place ≡ means (part_view found place)
Finds part None = (place : Place) → part place ≡ refuses (wrong UNKNOWN_NAME)
