-- What is lawful stays so where tokens are read: these add only ordinary names, names of sections, strings and tokens.
use Rattle.std.proofs.Common.{◌≡◌, ℕ, ℤ, zero, suc, ◌≤◌, List, [], ◌∷◌, ◌++◌, length, All, IsSome, IsSomeAnd}
use Rattle.std.proofs.Common.{slice_get, refl, sym, ◌∙◌, arith, append-nil}
use Rattle.std.proofs.lemmas.List.Elements.{All-append, All-same, All-weaker}
use Rattle.wb_base.specs.declared.tokens.Tok.{Tok}
use Rattle.wb_base.specs.declared.tokens.Tok.TheVariants as tok
use Rattle.web_names.specs.declared.classes.Class.{Class}
use Rattle.web_names.specs.declared.classes.Class.TheVariants as class
use Rattle.web_names.specs.Identifiers.{Name}
use Rattle.web_scan.specs.Scanned.{PascalText, Scanned}
use Rattle.web_scan.specs.Lawful.{IsTokenOf, IsTextOf, IsPascalTextOf, HasNoParameter, IsValueOf, IsLawful}
use Rattle.web_scan.proofs.PlacesLemmas.{AddsOrdinary, AddsOrdinary-none, AddsOrdinary-more, AddsOrdinary-grows}

-- the numbers in tokens have their places still
pub record Grows (before after : Scanned) : Type 0 where
  pub names : length before.names.names ≤ length after.names.names
  pub sections : length before.sections ≤ length after.sections
  pub quoted : length before.quoted ≤ length after.quoted

pub IsTokenOf-grows : (before after : Scanned) → Grows before after → (token : Tok) → IsTokenOf before token
    → IsTokenOf after token
IsTokenOf-grows before after grows (tok.Name id) is = omega (arith, grows.names)
IsTokenOf-grows before after grows (tok.Quoted index) is = omega (arith, grows.quoted)
IsTokenOf-grows before after grows (tok.Verbatim index) is = omega (arith, grows.quoted)
IsTokenOf-grows before after grows (tok.Section name) is = omega (arith, grows.sections)
IsTokenOf-grows before after grows (tok.Digit byte) is = is
IsTokenOf-grows before after grows (tok.Number value) is = is
IsTokenOf-grows before after grows (tok.Letter byte) is = tt
IsTokenOf-grows before after grows (tok.Sign byte) is = tt
IsTokenOf-grows before after grows (tok.Joined two) is = tt
IsTokenOf-grows before after grows tok.Param is = tt
IsTokenOf-grows before after grows tok.Join is = tt
IsTokenOf-grows before after grows tok.Line is = tt
IsTokenOf-grows before after grows tok.MetaOpen is = tt
IsTokenOf-grows before after grows tok.MetaClose is = tt

pub tokens-grow : (before after : Scanned) → Grows before after → (text : List Tok) → All (IsTokenOf before) text
    → All (IsTokenOf after) text
tokens-grow before after grows text all =
    All-weaker (IsTokenOf before) (IsTokenOf after) (IsTokenOf-grows before after grows) text all

pub IsTextOf-grows : (before after : Scanned) → Grows before after → (text : List Tok) → IsTextOf before text
    → IsTextOf after text
IsTextOf-grows before after grows text is =
    record { tokens = tokens-grow before after grows text is.tokens; balanced = is.balanced }

pub IsPascalTextOf-grows : (before after : Scanned) → Grows before after → (piece : PascalText)
    → IsPascalTextOf before piece → IsPascalTextOf after piece
IsPascalTextOf-grows before after grows piece is =
    record { text = IsTextOf-grows before after grows piece.text is.text; no_parameter = is.no_parameter }

-- the texts of a web are still texts of it
pub texts-grow : (before after : Scanned) → Grows before after → (texts : List (List Tok))
    → All (IsTextOf before) texts → All (IsTextOf after) texts
texts-grow before after grows texts all =
    All-weaker (IsTextOf before) (IsTextOf after) (IsTextOf-grows before after grows) texts all

pub pieces-grow : (before after : Scanned) → Grows before after → (pieces : List PascalText)
    → All (IsPascalTextOf before) pieces → All (IsPascalTextOf after) pieces
pieces-grow before after grows pieces all =
    All-weaker (IsPascalTextOf before) (IsPascalTextOf after) (IsPascalTextOf-grows before after grows) pieces all

pub named-grow : (before after : Scanned) → Grows before after → (named : List (List PascalText))
    → All (All (IsPascalTextOf before)) named → All (All (IsPascalTextOf after)) named
named-grow before after grows named all =
    All-weaker (All (IsPascalTextOf before)) (All (IsPascalTextOf after)) (pieces-grow before after grows) named all

still : {X : Type 0} (xs more : List X) (place : ℕ) → IsSome (slice_get xs place)
    → IsSome (slice_get (xs ++ more) place)
still [] more place some = absurd cc
still (x ∷ xs) more zero some = refl
still (x ∷ xs) more (suc place) some = still xs more place some

still_and :
    {X : Type 0} (xs more : List X) (place : ℕ) (P : X → Type 0) → IsSomeAnd (slice_get xs place) P
    → IsSomeAnd (slice_get (xs ++ more) place) P
still_and [] more place P some = absurd some
still_and (x ∷ xs) more zero P some = some
still_and (x ∷ xs) more (suc place) P some = still_and xs more place P some

-- the numbers of texts have their texts still
pub IsValueOf-texts :
    (before after : Scanned) (more : List (List Tok)) → after.texts ≡ before.texts ++ more → (kind : Class) (value : ℤ)
    → IsValueOf before kind value → IsValueOf after kind value
IsValueOf-texts before after more is class.Ordinary value holds = tt
IsValueOf-texts before after more is class.Numeric value holds = holds
IsValueOf-texts before after more is class.Simple value holds =
    (holds.0, holds.1, rw is (still_and before.texts more holds.0 HasNoParameter holds.2))
IsValueOf-texts before after more is class.Parametric value holds =
    (holds.0, holds.1, rw is (still before.texts more holds.0 holds.2))

-- what reading tokens of a text leaves
pub record Keeps (before after : Scanned) : Type 0 where
  pub names : AddsOrdinary before.names.names after.names.names
  pub sections : length before.sections ≤ length after.sections
  pub quoted : length before.quoted ≤ length after.quoted
  pub texts : after.texts ≡ before.texts
  pub unnamed : after.unnamed ≡ before.unnamed
  pub named : after.named ≡ before.named

pub Keeps-none : (web : Scanned) → Keeps web web
Keeps-none web = record {
  names = AddsOrdinary-none web.names.names;
  sections = omega arith;
  quoted = omega arith;
  texts = refl;
  unnamed = refl;
  named = refl;
}

pub Keeps-more : (before between after : Scanned) → Keeps before between → Keeps between after → Keeps before after
Keeps-more before between after first then_ = record {
  names = AddsOrdinary-more before.names.names between.names.names after.names.names first.names then_.names;
  sections = omega arith;
  quoted = omega arith;
  texts = then_.texts ∙ first.texts;
  unnamed = then_.unnamed ∙ first.unnamed;
  named = then_.named ∙ first.named;
}

pub Keeps-grows : (before after : Scanned) → Keeps before after → Grows before after
Keeps-grows before after keeps = record {
  names = AddsOrdinary-grows before.names.names after.names.names keeps.names;
  sections = keeps.sections;
  quoted = keeps.quoted;
}

-- an ordinary name's value is any
ordinary-values : (web : Scanned) (name : Name) → name.class ≡ class.Ordinary → IsValueOf web name.class name.value
ordinary-values web name is = rw is tt

-- names of which more are ordinary
pub values-more :
    (web : Scanned) (before after : List Name) → AddsOrdinary before after
    → All (λ name. IsValueOf web name.class name.value) before
    → All (λ name. IsValueOf web name.class name.value) after
values-more web before after adds all =
    let P : Name → Type 0 = λ name. IsValueOf web name.class name.value in
    let more = All-weaker (λ name. name.class ≡ class.Ordinary) P (ordinary-values web) adds.more adds.ordinary in
    rw adds.is (All-append P before adds.more all more)

-- a lawful web stays lawful
pub IsLawful-keeps : (before after : Scanned) → Keeps before after → IsLawful before → IsLawful after
IsLawful-keeps before after keeps lawful =
    let grows = Keeps-grows before after keeps in
    let values = All-weaker (λ name. IsValueOf before name.class name.value)
    (λ name. IsValueOf after name.class name.value)
    (λ name. IsValueOf-texts before after [] (keeps.texts ∙ sym (append-nil before.texts)) name.class name.value)
    before.names.names lawful.names in
    record {
      names = values-more after before.names.names after.names.names keeps.names values;
      texts = All-same (IsTextOf after) after.texts before.texts keeps.texts
          (texts-grow before after grows before.texts lawful.texts);
      unnamed = All-same (IsPascalTextOf after) after.unnamed before.unnamed keeps.unnamed
          (pieces-grow before after grows before.unnamed lawful.unnamed);
      named = All-same (All (IsPascalTextOf after)) after.named before.named keeps.named
          (named-grow before after grows before.named lawful.named);
    }
