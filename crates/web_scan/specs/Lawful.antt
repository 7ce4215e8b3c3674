-- What holds of every scanned web, so that its expansion need not look: numbers of tokens are places in the web,
-- values are small, and parentheses balance.
use Rattle.std.specs.Prelude.{ℕ, ℤ, pos, nat_abs, ◌≡◌, ◌≢◌, ◌+◌, ◌-◌, ◌<◌, ◌≤ℤ◌, ◌==◌, ◌&&◌, nat_lt, Bool}
use Rattle.std.specs.Prelude.{if◌then◌else◌}
use Rattle.std.specs.Prelude.{List, [], ◌∷◌, length, slice_get, All, IsTrue, IsSome, IsSomeAnd, ⊤}
use Rattle.std.specs.Char.{is_ascii_digit}
use Rattle.wb_base.specs.declared.tokens.Tok.{Tok}
use Rattle.wb_base.specs.declared.tokens.Tok.TheVariants as tok
use Rattle.web_lex.specs.Token.{greatest_value}
use Rattle.web_names.specs.declared.classes.Class.{Class}
use Rattle.web_names.specs.declared.classes.Class.TheVariants as class
use Rattle.web_scan.specs.Numeric.{value_limit}
use Rattle.web_scan.specs.Scanned.{PascalText, Scanned}

-- a token's number is a place in the web, a digit is decimal, and a number is a constant
abbrev pub IsTokenOf : Scanned → Tok → Type 0
IsTokenOf web (tok.Digit byte) = IsTrue (is_ascii_digit byte)
IsTokenOf web (tok.Name id) = id < length web.names.names
IsTokenOf web (tok.Number value) = (pos 0 ≤ℤ value) × (value ≤ℤ pos greatest_value)
IsTokenOf web (tok.Quoted index) = index < length web.quoted
IsTokenOf web (tok.Verbatim index) = index < length web.quoted
IsTokenOf web (tok.Section name) = name < length web.sections
IsTokenOf web other = ⊤

-- whether parentheses balance in a text before which so many are open
abbrev pub is_balanced_from : ℕ → List Tok → Bool
is_balanced_from depth [] = depth == 0
is_balanced_from depth (tok.Sign byte ∷ text) =
    if byte == 40 then is_balanced_from (depth + 1) text
    else (if byte == 41 then nat_lt 0 depth && is_balanced_from (depth - 1) text else is_balanced_from depth text)
is_balanced_from depth (other ∷ text) = is_balanced_from depth text

-- a text of the web
pub record IsTextOf (web : Scanned) (text : List Tok) : Type 0 where
  pub tokens : All (IsTokenOf web) text
  pub balanced : IsTrue (is_balanced_from 0 text)

-- a text without a parameter
abbrev pub HasNoParameter : List Tok → Type 0
HasNoParameter text = All (λ token. token ≢ tok.Param) text

-- the Pascal text of a section
pub record IsPascalTextOf (web : Scanned) (piece : PascalText) : Type 0 where
  pub text : IsTextOf web piece.text
  pub no_parameter : HasNoParameter piece.text

-- the value of a macro of this class is small, or the number of its text; only a parametric macro's has a parameter
abbrev pub IsValueOf : Scanned → Class → ℤ → Type 0
IsValueOf web class.Ordinary value = ⊤
IsValueOf web class.Numeric value = nat_abs value < value_limit
IsValueOf web class.Simple value =
    (number : ℕ) × (value ≡ pos number) × IsSomeAnd (slice_get web.texts number) HasNoParameter
IsValueOf web class.Parametric value = (number : ℕ) × (value ≡ pos number) × IsSome (slice_get web.texts number)

-- what holds of a scanned web
pub record IsLawful (web : Scanned) : Type 0 where
  pub names : All (λ name. IsValueOf web name.class name.value) web.names.names
  pub texts : All (IsTextOf web) web.texts
  pub unnamed : All (IsPascalTextOf web) web.unnamed
  pub named : All (All (IsPascalTextOf web)) web.named
