-- What functions on constants answer.
use Rattle.std.proofs.Common.{◌≡◌, refl, sym, ap, ℕ, pos, Bool, true, false, List, [], ◌∷◌, ◌++◌}
use Rattle.std.proofs.Common.{length, Option, Some, None, Result, Ok, Err, arith}
use Rattle.std.specs.Prelude.{⊤, ◌==◌, ◌≢◌, ◌<◌, nat_lt, slice_index_or}
use Rattle.std.proofs.lemmas.Bool.Decides.{nat_tests}
use Rattle.pas_tokens.specs.Cutting.{Wrong}
use Rattle.pas_syntax.specs.declared.operators.Sign.{Sign}
use Rattle.pas_syntax.specs.declared.tree.Ident.{Ident as CodeIdent}
use Rattle.pas_syntax.specs.declared.tree.Numeral.{Numeral as CodeNumeral}
use Rattle.pas_syntax.specs.declared.tree.Lined.{Lined as CodeLined}
use Rattle.pas_syntax.specs.declared.tree.Constant.TheVariants as code
use Rattle.pas_syntax.specs.Tree.{Lined}
use Rattle.pas_syntax.specs.Words.{Word, at, name_at, number_at, words_if, constant_sign, constant_words, sign_kind}
use Rattle.pas_syntax.specs.Views.{sign_in, ident_in, numeral_in, constant_in}
use Rattle.pas_typed.specs.Types.{integer}
use Rattle.pas_scopes.specs.declared.constants.Ordinal.{Ordinal}
use Rattle.pas_scopes.specs.declared.stop.Stop.{Stop}
use Rattle.pas_scopes.specs.declared.stop.Stop.TheVariants as stop
use Rattle.pas_rules.specs.Marks.{Judged, known, checked, checked_by, means}
use Rattle.pas_rules.specs.Scopes.{Scopes, entity_of}
use Rattle.pas_rules.specs.TypeForms.{ConstantValue, known_value, integer_only, with_sign, behind_sign, as_constant}
use Rattle.pas_rules.specs.TypeForms.{constant_of, single_quote, text_behind, undoubled}
use Rattle.pas_scopes.specs.Answers.{lawful_end, EndsAs, StopsBy}
use Rattle.pas_scopes.specs.Constants.{only_byte, ordinal_view, IsUnknownBy, Tells}
use Rattle.pas_scopes.proofs.AnswerLemmas.{ends_moved, word_means, behind_word_stops, checked_stops_by}

-- what is told wherever names are clear or not
pub told : (Clear : Type 0) (words : List Word) (part : Judged ConstantValue) (result : Result Ordinal Stop)
    → Tells ⊤ words part result → Tells Clear words part result
told Clear words part (Ok found) h = h
told Clear words part (Err why) h = ((λ clear. h.0 tt), h.1)

-- what stops behind a sign
none_checked : {A : Type 0} (demand : A → List Wrong) (part : Judged A) → part.value ≡ None
    → (checked demand part).value ≡ None
none_checked demand part none = ap (λ value. (checked_by demand part.marks value).value) none

unknown_signed : (lead : Option (Lined Sign)) (part : Judged ConstantValue) → part.value ≡ None
    → (behind_sign lead part).value ≡ None
unknown_signed None part none = none
unknown_signed (Some lead) part none =
    ap (known (with_sign lead.item)) (none_checked integer_only part none)

pub sign_unknown : (lead : Option (Lined Sign)) (part : Judged ConstantValue) (why : Stop)
    → IsUnknownBy part why → IsUnknownBy (behind_sign lead part) why
sign_unknown lead part stop.OutOfMemory h = tt
sign_unknown lead part (stop.Fault fault) h = unknown_signed lead part h
sign_unknown lead part stop.Missing h = unknown_signed lead part h

pub sign_stops : (n : ℕ) (lead : Option (Lined Sign)) (word : Word) (part : Judged ConstantValue) (why : Stop)
    → StopsBy (word ∷ []) part why
    → StopsBy (words_if (constant_sign n) lead ++ word ∷ []) (behind_sign lead part) why
sign_stops n None word part why h = h
sign_stops n (Some lead) word part why h =
    behind_word_stops (word ∷ []) (at n (sign_kind lead.item) lead.line) (with_sign lead.item)
    (checked integer_only part) why (checked_stops_by (word ∷ []) integer_only part why h)

-- a constant of which the name tells no value
pub named_stops : (Clear : Type 0) (scopes : Scopes) (spellings : List ℕ) (n : ℕ) (sign : Option (CodeLined Sign))
    (ident : CodeIdent) (why : Stop)
    → Tells Clear (name_at n (ident_in spellings ident) ∷ [])
    (as_constant (entity_of scopes (ident_in spellings ident).name)) (Err why)
    → Tells Clear (constant_words n (constant_in spellings (code.Named sign ident)))
    (constant_of scopes (constant_in spellings (code.Named sign ident))) (Err why)
named_stops Clear scopes spellings n sign ident why h =
    let part : Judged ConstantValue = as_constant (entity_of scopes (ident_in spellings ident).name) in (
      (λ clear. sign_stops n (sign_in sign) (name_at n (ident_in spellings ident)) part why (h.0 clear)),
      sign_unknown (sign_in sign) part why h.1,
    )

-- a number
pub number_ends : (n : ℕ) (numeral : CodeNumeral) (found : Ordinal) → ordinal_view found ≡ known_value integer
    (pos numeral.value) → found.line ≡ numeral.line
    → EndsAs (number_at n (numeral_in numeral) ∷ []) (means (known_value integer (pos numeral.value)))
    (ordinal_view found) (lawful_end found.line)
number_ends n numeral found is at =
    ends_moved (number_at n (numeral_in numeral) ∷ []) (means (known_value integer (pos numeral.value)))
    (known_value integer (pos numeral.value)) (ordinal_view found) (lawful_end numeral.line) (lawful_end found.line) is
    (ap lawful_end at) (word_means (number_at n (numeral_in numeral)) (known_value integer (pos numeral.value)))

-- the byte of a text: one alone, and a quote that stands twice
pub quote_twice : (text : List ℕ) → length text ≡ 2 → slice_index_or text 0 0 ≡ single_quote
    → Some (slice_index_or text 0 0) ≡ only_byte (undoubled text)
quote_twice [] many quote = absurd (omega (arith, many))
quote_twice (byte ∷ []) many quote = absurd (omega (arith, many))
quote_twice (byte ∷ (next ∷ [])) many quote =
    sym (ap (λ (at : Bool). only_byte (byte ∷ text_behind at (next ∷ []))) (ap (λ (n : ℕ). n == single_quote) quote))
quote_twice (byte ∷ (next ∷ (third ∷ more))) many quote = absurd (omega (arith, many))

no_quote : (byte : ℕ) → byte ≢ single_quote → (byte == single_quote) ≡ false
no_quote byte other = grind (arith, nat_tests)

pub two_bytes : (text : List ℕ) → length text ≡ 2 → slice_index_or text 0 0 ≢ single_quote
    → None ≡ only_byte (undoubled text)
two_bytes [] many other = absurd (omega (arith, many))
two_bytes (byte ∷ []) many other = absurd (omega (arith, many))
two_bytes (byte ∷ (next ∷ [])) many other =
    sym (ap (λ (at : Bool). only_byte (byte ∷ text_behind at (next ∷ []))) (no_quote byte other))
two_bytes (byte ∷ (next ∷ (third ∷ more))) many other = absurd (omega (arith, many))

pub many_bytes : (text : List ℕ) → length text ≢ 1 → length text ≢ 2 → None ≡ only_byte (undoubled text)
many_bytes [] one two = refl
many_bytes (byte ∷ []) one two = absurd (one refl)
many_bytes (byte ∷ (next ∷ [])) one two = absurd (two refl)
many_bytes (byte ∷ (next ∷ (third ∷ more))) one two = by (byte == single_quote)
  where
    by : (at : Bool) → None ≡ only_byte (byte ∷ text_behind at (next ∷ (third ∷ more)))
    by true = refl
    by false = refl

-- whether it has more than one byte
more_than_one : (n : ℕ) → 1 < n → true ≡ nat_lt 1 n
more_than_one n h = grind (arith, nat_tests)

pub short_none : (text : List ℕ) → length text ≡ 0 → false ≡ nat_lt 1 (length (undoubled text))
short_none [] many = refl
short_none (byte ∷ text) many = absurd (omega (arith, many))

pub short_one : (text : List ℕ) → length text ≡ 1 → false ≡ nat_lt 1 (length (undoubled text))
short_one [] many = refl
short_one (byte ∷ []) many = refl
short_one (byte ∷ (next ∷ text)) many = absurd (omega (arith, many))

pub short_two : (text : List ℕ) → length text ≡ 2 → slice_index_or text 0 0 ≡ single_quote
    → false ≡ nat_lt 1 (length (undoubled text))
short_two [] many quote = refl
short_two (byte ∷ []) many quote = refl
short_two (byte ∷ (next ∷ [])) many quote =
    sym (ap (λ (at : Bool). nat_lt 1 (length (byte ∷ text_behind at (next ∷ []))))
    (ap (λ (n : ℕ). n == single_quote) quote))
short_two (byte ∷ (next ∷ (third ∷ more))) many quote = absurd (omega (arith, many))

pub long_two : (text : List ℕ) → length text ≡ 2 → slice_index_or text 0 0 ≢ single_quote
    → true ≡ nat_lt 1 (length (undoubled text))
long_two [] many other = absurd (omega (arith, many))
long_two (byte ∷ []) many other = absurd (omega (arith, many))
long_two (byte ∷ (next ∷ [])) many other =
    sym (ap (λ (at : Bool). nat_lt 1 (length (byte ∷ text_behind at (next ∷ [])))) (no_quote byte other))
long_two (byte ∷ (next ∷ (third ∷ more))) many other = absurd (omega (arith, many))

pub long_many : (text : List ℕ) → length text ≢ 0 → length text ≢ 1 → length text ≢ 2
    → true ≡ nat_lt 1 (length (undoubled text))
long_many [] none one two = absurd (none refl)
long_many (byte ∷ []) none one two = absurd (one refl)
long_many (byte ∷ (next ∷ [])) none one two = absurd (two refl)
long_many (byte ∷ (next ∷ (third ∷ more))) none one two = by (byte == single_quote)
  where
    by : (at : Bool) → true ≡ nat_lt 1 (length (byte ∷ text_behind at (next ∷ (third ∷ more))))
    by true = more_than_one (length (byte ∷ (third ∷ text_behind (third == single_quote) more))) (omega arith)
    by false =
        more_than_one (length (byte ∷ (next ∷ text_behind (next == single_quote) (third ∷ more)))) (omega arith)
