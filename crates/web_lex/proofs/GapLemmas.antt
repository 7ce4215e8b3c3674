-- What vanishes between tokens, a thing at a time.
use Rattle.std.proofs.Common.{◌≡◌, ℕ, zero, suc, ◌<◌, ◌≤◌, List, [], ◌∷◌, length, drop, Some, None, Ok, Err}
use Rattle.std.proofs.Common.{refl, sym, ap, ◌∙◌, arith}
use Rattle.wb_base.specs.declared.faults.Fault.{Fault}
use Rattle.wb_base.specs.Steps.{◌>>=◌}
use Rattle.wb_base.specs.declared.places.Place.{Place}
use Rattle.web_lex.specs.declared.codes.Code.TheVariants as code
use Rattle.web_lex.specs.Codes.{code_of}
use Rattle.web_lex.specs.Raw.{PlacedByte}
use Rattle.web_lex.specs.Gaps.{after_comment, after_control_text, vanished, gap_of_code, gap_at, after_gaps}
use Rattle.web_lex.specs.Gaps.{after_gap}
use Rattle.web_lex.specs.inner.Ahead.{Ahead, first_byte}

-- the text now is the one at the start without some of what vanishes there
pub record StillGaps (start now : Ahead) : Type 0 where
  pub most : ℕ
  pub enough : length now.rest ≤ most
  pub same : after_gaps (length start.rest) start.end start.rest ≡ after_gaps most now.end now.rest
  pub end : now.end ≡ start.end

pub StillGaps-start : (start : Ahead) → StillGaps start start
StillGaps-start start = record { most = length start.rest; enough = omega arith; same = refl; end = refl }

-- one thing more
pub StillGaps-more : (start now next : Ahead) → StillGaps start now → gap_at now.end now.rest ≡ Ok (Some next.rest)
    → length next.rest < length now.rest → next.end ≡ now.end → StillGaps start next
StillGaps-more start now next still gap shorter end = more still.most still.enough still.same
  where
    more : (most : ℕ) → length now.rest ≤ most
        → after_gaps (length start.rest) start.end start.rest ≡ after_gaps most now.end now.rest
        → StillGaps start next
    more zero enough same = absurd (omega arith)
    more (suc most) enough same = record {
      most = most;
      enough = omega arith;
      same = same ∙ ap (λ g. g >>= after_gap now.rest (after_gaps most now.end)) gap
          ∙ ap (λ e. after_gaps most e next.rest) (sym end);
      end = end ∙ still.end;
    }

-- nothing more
pub StillGaps-none : (start now : Ahead) → StillGaps start now → gap_at now.end now.rest ≡ Ok None
    → after_gaps (length start.rest) start.end start.rest ≡ Ok now.rest
StillGaps-none start now still gap = none still.most still.same
  where
    none : (most : ℕ) → after_gaps (length start.rest) start.end start.rest ≡ after_gaps most now.end now.rest
        → after_gaps (length start.rest) start.end start.rest ≡ Ok now.rest
    none zero same = same
    none (suc most) same = same ∙ ap (λ g. g >>= after_gap now.rest (after_gaps most now.end)) gap

-- a fault
pub StillGaps-fault : (start now : Ahead) (fault : Fault) → StillGaps start now → gap_at now.end now.rest ≡ Err fault
    → after_gaps (length start.rest) start.end start.rest ≡ Err fault
StillGaps-fault start now fault still gap = fails still.most still.enough still.same
  where
    some : (rest : List PlacedByte) → gap_at now.end rest ≡ Err fault → 0 < length rest
    some [] is = absurd cc
    some (byte ∷ rest) is = omega arith

    fails : (most : ℕ) → length now.rest ≤ most
        → after_gaps (length start.rest) start.end start.rest ≡ after_gaps most now.end now.rest
        → after_gaps (length start.rest) start.end start.rest ≡ Err fault
    fails zero enough same = absurd (omega (arith, some now.rest gap))
    fails (suc most) enough same = same ∙ ap (λ g. g >>= after_gap now.rest (after_gaps most now.end)) gap

-- a comment that comes first
pub gap_at-comment : (end : Place) (text : List PlacedByte) → first_byte text ≡ Some 123
    → gap_at end text ≡ vanished (after_comment end 0 (drop 1 text))
gap_at-comment end [] first = absurd cc
gap_at-comment end (byte ∷ rest) first =
    let is : byte.byte ≡ 123 = cc in
    rw is refl

-- a control text that comes first
pub gap_at-control_text :
    (end : Place) (text : List PlacedByte) (next : ℕ) → first_byte text ≡ Some 64
    → first_byte (drop 1 text) ≡ Some next
    → code_of next ≡ code.Control → gap_at end text ≡ vanished (after_control_text end (drop 1 (drop 1 text)))
gap_at-control_text end [] next first second control = absurd cc
gap_at-control_text end (byte ∷ []) next first second control = absurd cc
gap_at-control_text end (byte ∷ (other ∷ rest)) next first second control =
    let is : byte.byte ≡ 64 = cc in
    let same : other.byte ≡ next = cc in
    rw is (ap (λ value. gap_of_code end value rest) (ap code_of same ∙ control))

-- a text with a first byte is not at its end
pub first_byte-some : (text : List PlacedByte) (byte : ℕ) → first_byte text ≡ Some byte → 0 < length text
first_byte-some [] byte first = absurd cc
first_byte-some (head ∷ rest) byte first = omega arith
