-- What functions on constants answer.
use Rattle.std.specs.Prelude.{◌≡◌, ℕ, neg_ℤ, ⊤, List, [], ◌∷◌, Option, Some, None, Result, Ok, Err}
use Rattle.pas_syntax.specs.declared.operators.Sign.{Sign}
use Rattle.pas_syntax.specs.declared.operators.Sign.TheVariants as sign
use Rattle.pas_syntax.specs.Words.{Word}
use Rattle.pas_typed.specs.TypeViews.{base_view}
use Rattle.pas_scopes.specs.declared.constants.Ordinal.{Ordinal}
use Rattle.pas_scopes.specs.declared.stop.Stop.{Stop}
use Rattle.pas_scopes.specs.declared.stop.Stop.TheVariants as stop
use Rattle.pas_rules.specs.Marks.{Judged}
use Rattle.pas_rules.specs.TypeForms.{ConstantValue, known_value}
use Rattle.pas_scopes.specs.Answers.{lawful_end, EndsAs, StopsBy}

abbrev pub ordinal_view : Ordinal → ConstantValue
ordinal_view found = known_value (base_view found.base) found.value

-- an ordinal behind a sign
abbrev pub signed_view : Sign → Ordinal → Ordinal
signed_view sign.Plus found = found
signed_view sign.Minus found = record found { value = neg_ℤ found.value }

-- the byte of a text of one byte
abbrev pub only_byte : List ℕ → Option ℕ
only_byte (byte ∷ []) = Some byte
only_byte bytes = None

-- a part of which nothing is known where checking stops in it
abbrev pub IsUnknownBy : {A : Type 0} → Judged A → Stop → Type 0
IsUnknownBy part stop.OutOfMemory = ⊤
IsUnknownBy part why = part.value ≡ None

-- what is told of a constant: its value, which ends at the line, or why checking stops. What shows it is told where no
-- name is unclear
abbrev pub Tells : Type 0 → List Word → Judged ConstantValue → Result Ordinal Stop → Type 0
Tells Clear words part (Ok found) = EndsAs words part (ordinal_view found) (lawful_end found.line)
Tells Clear words part (Err why) = (Clear → StopsBy words part why) × IsUnknownBy part why
