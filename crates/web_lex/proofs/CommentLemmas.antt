-- What stands after a comment, a byte at a time.
use Rattle.std.proofs.Common.{◌≡◌, ◌≢◌, ℕ, ◌+◌, ◌-◌, ◌==◌, ◌||◌, Bool, true, false, List, [], ◌∷◌, drop}
use Rattle.std.proofs.Common.{Some, Ok, Err, refl, arith}
use Rattle.std.proofs.lemmas.Bool.Decides.{nat_tests}
use Rattle.std.specs.List.{position_or_len}
use Rattle.wb_base.specs.declared.places.Place.{Place}
use Rattle.wb_base.specs.declared.faults.TheConstants.{COMMENT_NOT_ENDED}
use Rattle.wb_base.specs.FaultAt.{fault_at}
use Rattle.web_lex.specs.declared.codes.Code.{Code}
use Rattle.web_lex.specs.declared.codes.Code.TheVariants as code
use Rattle.web_lex.specs.Codes.{code_of}
use Rattle.web_lex.specs.Raw.{PlacedByte, place_of, bytes_of_line}
use Rattle.web_lex.specs.Gaps.{RestOrFault, after_comment, unless_section}
use Rattle.web_lex.specs.inner.Ahead.{first_byte, matters_in_comment}
use Rattle.web_lex.specs.inner.Steps.{begins_section, is_section}
use Rattle.web_lex.proofs.TextLemmas.{passed-plain}

no_section : (value : Code) (place : Place) (after : RestOrFault) → is_section value ≡ false
    → unless_section value place after ≡ after
no_section code.Section place after is = absurd cc
no_section _ place after is = refl

a_section : (value : Code) (place : Place) (after : RestOrFault) → is_section value ≡ true
    → unless_section value place after ≡ Err (fault_at COMMENT_NOT_ENDED place)
a_section code.Section place after is = refl
a_section _ place after is = absurd cc

-- an at sign hides the next byte
pub after_comment-at_sign : (end : Place) (depth : ℕ) (text : List PlacedByte) → first_byte text ≡ Some 64
    → begins_section (drop 1 text) ≡ false
    → after_comment end depth text ≡ after_comment end depth (drop 1 (drop 1 text))
after_comment-at_sign end depth [] first none = absurd cc
after_comment-at_sign end depth (byte ∷ []) first none =
    let is : byte.byte ≡ 64 = cc in
    rw is refl
after_comment-at_sign end depth (byte ∷ (next ∷ rest)) first none =
    let is : byte.byte ≡ 64 = cc in
    rw is (no_section (code_of next.byte) byte.place (after_comment end depth rest) none)

-- a section start is a fault
pub after_comment-section : (end : Place) (depth : ℕ) (text : List PlacedByte) → first_byte text ≡ Some 64
    → begins_section (drop 1 text) ≡ true
    → after_comment end depth text ≡ Err (fault_at COMMENT_NOT_ENDED (place_of end text))
after_comment-section end depth [] first begins = absurd cc
after_comment-section end depth (byte ∷ []) first begins = absurd cc
after_comment-section end depth (byte ∷ (next ∷ rest)) first begins =
    let is : byte.byte ≡ 64 = cc in
    rw is (a_section (code_of next.byte) byte.place (after_comment end depth rest) begins)

-- a backslash hides the next byte, but not an at sign
pub after_comment-hidden : (end : Place) (depth : ℕ) (text : List PlacedByte) → first_byte text ≡ Some 92
    → first_byte (drop 1 text) ≢ Some 64
    → after_comment end depth text ≡ after_comment end depth (drop 1 (drop 1 text))
after_comment-hidden end depth [] first other = absurd cc
after_comment-hidden end depth (byte ∷ []) first other =
    let is : byte.byte ≡ 92 = cc in
    rw is refl
after_comment-hidden end depth (byte ∷ (next ∷ rest)) first other =
    let is : byte.byte ≡ 92 = cc in
    rw is (by_next (next.byte == 64) refl)
  where
    by_next : (b : Bool) → (next.byte == 64) ≡ b
        → after_comment end depth (record byte { byte = 92 } ∷ next ∷ rest) ≡ after_comment end depth rest
    by_next true same = absurd (grind (arith, nat_tests))
    by_next false same = rw same refl

pub after_comment-not_hidden : (end : Place) (depth : ℕ) (text : List PlacedByte) → first_byte text ≡ Some 92
    → first_byte (drop 1 text) ≡ Some 64 → after_comment end depth text ≡ after_comment end depth (drop 1 text)
after_comment-not_hidden end depth [] first sign = absurd cc
after_comment-not_hidden end depth (byte ∷ []) first sign = absurd cc
after_comment-not_hidden end depth (byte ∷ (next ∷ rest)) first sign =
    let is : byte.byte ≡ 92 = cc in
    let second : next.byte ≡ 64 = cc in
    rw (is, second) refl

-- braces nest
pub after_comment-open : (end : Place) (depth : ℕ) (text : List PlacedByte) → first_byte text ≡ Some 123
    → after_comment end depth text ≡ after_comment end (depth + 1) (drop 1 text)
after_comment-open end depth [] first = absurd cc
after_comment-open end depth (byte ∷ []) first =
    let is : byte.byte ≡ 123 = cc in
    rw is refl
after_comment-open end depth (byte ∷ (next ∷ rest)) first =
    let is : byte.byte ≡ 123 = cc in
    rw is refl

pub after_comment-close : (end : Place) (depth : ℕ) (text : List PlacedByte) → first_byte text ≡ Some 125
    → (depth == 0) ≡ false → after_comment end depth text ≡ after_comment end (depth - 1) (drop 1 text)
after_comment-close end depth [] first inner = absurd cc
after_comment-close end depth (byte ∷ []) first inner =
    let is : byte.byte ≡ 125 = cc in
    rw (is, inner) refl
after_comment-close end depth (byte ∷ (next ∷ rest)) first inner =
    let is : byte.byte ≡ 125 = cc in
    rw (is, inner) refl

pub after_comment-last : (end : Place) (text : List PlacedByte) → first_byte text ≡ Some 125
    → after_comment end 0 text ≡ Ok (drop 1 text)
after_comment-last end [] first = absurd cc
after_comment-last end (byte ∷ []) first =
    let is : byte.byte ≡ 125 = cc in
    rw is refl
after_comment-last end (byte ∷ (next ∷ rest)) first =
    let is : byte.byte ≡ 125 = cc in
    rw is refl

-- any other byte is passed
pub after_comment-byte :
    (end : Place) (depth byte : ℕ) (text : List PlacedByte) → first_byte text ≡ Some byte
    → (byte == 64) ≡ false → (byte == 92) ≡ false → (byte == 123) ≡ false → (byte == 125) ≡ false
    → after_comment end depth text ≡ after_comment end depth (drop 1 text)
after_comment-byte end depth byte [] first no_sign no_slash no_open no_close = absurd cc
after_comment-byte end depth byte (head ∷ []) first no_sign no_slash no_open no_close =
    let is : head.byte ≡ byte = cc in
    rw (is, no_close) refl
after_comment-byte end depth byte (head ∷ (next ∷ rest)) first no_sign no_slash no_open no_close =
    let is : head.byte ≡ byte = cc in
    rw (is, no_sign, no_slash, no_open, no_close) refl

-- and so are all bytes of a line before the first that may matter
after_comment-other : (end : Place) (depth : ℕ) (byte : PlacedByte) (rest : List PlacedByte)
    → matters_in_comment byte.byte ≡ false → after_comment end depth (byte ∷ rest) ≡ after_comment end depth rest
after_comment-other end depth byte rest other =
    let no_sign = or_false _ _ other in
    let no_slash = or_false _ _ no_sign.1 in
    let no_brace = or_false _ _ no_slash.1 in
    after_comment-byte end depth byte.byte (byte ∷ rest) refl no_sign.0 no_slash.0 no_brace.0 no_brace.1
  where
    or_false : (a b : Bool) → (a || b) ≡ false → (a ≡ false) × (b ≡ false)
    or_false true b is = absurd cc
    or_false false b is = (refl, is)

pub after_comment-plain : (end : Place) (depth : ℕ) (text : List PlacedByte)
    → after_comment end depth (drop (position_or_len matters_in_comment (bytes_of_line text)) text)
    ≡ after_comment end depth text
after_comment-plain end depth =
    passed-plain matters_in_comment (after_comment end depth) (after_comment-other end depth)
