-- The token that a text begins with, by the answer for its line.
use Rattle.std.proofs.Common.{◌≡◌, ◌≢◌, ℕ, ◌<◌, false, List, [], ◌∷◌, length}
use Rattle.std.proofs.Common.{Option, Some, None, Result, Ok, Err, refl, sym, ap, ◌∙◌, arith}
use Rattle.wb_base.specs.declared.places.Place.{Place}
use Rattle.wb_base.specs.declared.faults.Fault.{Fault}
use Rattle.wb_base.specs.declared.faults.WorkErr.{WorkErr}
use Rattle.wb_base.specs.declared.faults.WorkErr.TheVariants.{Fault as of_input, OutOfMemory}
use Rattle.wb_base.specs.Steps.{◌>>=◌}
use Rattle.wb_base.specs.WorkResult.{IfFault}
use Rattle.web_lex.specs.declared.section_names.SectionName.{SectionName}
use Rattle.web_lex.specs.declared.tokens.LineToken.{LineToken as CodeToken}
use Rattle.web_lex.specs.Raw.{PlacedByte, place_of, bytes_of_line}
use Rattle.web_lex.specs.Gaps.{Gap, gap_at}
use Rattle.web_lex.specs.Token.{token_on}
use Rattle.web_lex.specs.SectionName.{name_at}
use Rattle.web_lex.specs.Reading.{Reading, first_token, next_name, read_first, unless_met}
use Rattle.web_lex.specs.inner.Ahead.{first_byte}
use Rattle.web_lex.specs.inner.LineTokens.{line_token_of}

abbrev gap_of : Option (List PlacedByte) → Gap
gap_of found = Ok found

two_gaps : (rest : List PlacedByte) → gap_of (Some rest) ≡ gap_of None → ⊥
two_gaps rest e = cc

-- where nothing vanishes, no space comes
pub gap_at-space : (end : Place) (byte : PlacedByte) (rest : List PlacedByte) → gap_at end (byte ∷ rest) ≡ Ok None
    → byte.byte ≢ 32
gap_at-space end byte rest none space =
    let some : gap_of (Some rest) ≡ gap_at end (byte ∷ rest) = rw space refl in
    two_gaps rest (some ∙ none)

-- what the code knows of a line and of the answer for it
pub record HasFirst (end : Place) (rest : List PlacedByte) (line : List ℕ)
    (result : Result CodeToken ℕ) : Type 0 where
  pub no_gap : gap_at end rest ≡ Ok None
  pub visible : (byte : PlacedByte) (after : List PlacedByte) → rest ≡ byte ∷ after → byte.byte ≢ 32
      → line ≡ byte.byte ∷ bytes_of_line after
  pub answer : (first : ℕ) (after : List ℕ) → line ≡ first ∷ after → token_on first after ≡ line_token_of result

pub first_token-line :
    (end : Place) (rest : List PlacedByte) (first : ℕ) (line : List ℕ) (result : Result CodeToken ℕ)
    → first_byte rest ≡ Some first → HasFirst end rest line result
    → first_token end rest ≡ read_first (place_of end rest) line rest (line_token_of result)
first_token-line end [] first line result is has = absurd cc
first_token-line end (byte ∷ after) first line result is has =
    let line_is = has.visible byte after refl (gap_at-space end byte after has.no_gap) in
    ap (read_first byte.place (byte.byte ∷ bytes_of_line after) (byte ∷ after))
    (has.answer byte.byte (bytes_of_line after) line_is)
    ∙ ap (λ bytes. read_first byte.place bytes (byte ∷ after) (line_token_of result)) (sym line_is)

-- a line before which a text stands has a byte
pub line_has_byte :
    (end : Place) (rest : List PlacedByte) (first : ℕ) (line : List ℕ)
    → first_byte rest ≡ Some first → gap_at end rest ≡ Ok None
    → ((byte : PlacedByte) (after : List PlacedByte) → rest ≡ byte ∷ after → byte.byte ≢ 32
    → line ≡ byte.byte ∷ bytes_of_line after)
    → 0 < length line
line_has_byte end [] first line is no_gap visible = absurd cc
line_has_byte end (byte ∷ after) first line is no_gap visible =
    omega (arith, ap length (visible byte after refl (gap_at-space end byte after no_gap)))

-- what stands after a section's name
abbrev after_name : Reading → SectionName × List PlacedByte → Result (SectionName × Reading) Fault
after_name reading named = Ok (named.0, record reading { rest = named.1; after_digit = false })

-- a name that was read
pub next_name-ok :
    (reading : Reading) (name : SectionName) (rest : List PlacedByte) (end : Place) → reading.fault ≡ None
    → name_at reading.end reading.rest ≡ Ok (name, rest) → end ≡ reading.end
    → next_name reading ≡ Ok
    (name, record { rest = rest; after_digit = false; place = reading.place; end = end; fault = reading.fault })
next_name-ok reading name rest end none is same =
    ap (λ f. unless_met f (name_at reading.end reading.rest) >>= after_name reading) none
    ∙ ap (λ r. r >>= after_name reading) is
    ∙ ap (λ e. Ok (
      name,
      record
          { rest = rest; after_digit = false; place = reading.place; end = e; fault = reading.fault },
    )) (sym same)

-- a fault of a name
pub next_name-fault : (reading : Reading) (fault : Fault) → reading.fault ≡ None
    → name_at reading.end reading.rest ≡ Err fault → next_name reading ≡ Err fault
next_name-fault reading fault none is =
    ap (λ f. unless_met f (name_at reading.end reading.rest) >>= after_name reading) none
    ∙ ap (λ r. r >>= after_name reading) is

pub next_name-err :
    (reading : Reading) (error : WorkErr) → reading.fault ≡ None
    → IfFault {T = SectionName} (Err error) (λ fault. name_at reading.end reading.rest ≡ Err fault)
    → IfFault {T = SectionName} (Err error) (λ fault. next_name reading ≡ Err fault)
next_name-err reading (of_input fault) none is = next_name-fault reading fault none is
next_name-err reading OutOfMemory none is = tt
