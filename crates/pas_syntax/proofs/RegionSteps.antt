-- What is known of the tokens before a place, one token further.
use Rattle.std.proofs.Common.{◌≡◌, refl, ap, ℕ, suc, ◌≤◌, ◌<◌, arith, List, [], ◌∷◌, ◌++◌}
use Rattle.std.proofs.Common.{length, take, drop, Some}
use Rattle.std.specs.Prelude.{slice_get}
use Rattle.std.proofs.lemmas.List.Sums.{fold-append}
use Rattle.std.proofs.Math.Seq.{take-append_seam, drop-append_seam}
use Rattle.pas_tokens.specs.declared.kinds.Kind.{Kind}
use Rattle.pas_tokens.specs.declared.kinds.Kind.TheVariants as k
use Rattle.pas_tokens.specs.Tokens.{Token, after_first}
use Rattle.pas_syntax.specs.Regions.{Stage, outside, stage_behind, stage_of, records_behind, records_of, part_behind}
use Rattle.pas_syntax.specs.inner.Prog.{head}
use Rattle.pas_syntax.specs.inner.RegionViews.{part_in}

-- behind a token that is not the last
pub behind_next : (ts : List Token) (t : Token) → slice_get ts 0 ≡ Some t → 1 < length ts → ts ≡ t ∷ after_first ts
behind_next [] t e more = absurd (omega (arith, more))
behind_next (u ∷ []) t e more = absurd (omega (arith, more))
behind_next (u ∷ (v ∷ ts)) t e more = ap (λ t. t ∷ (v ∷ ts)) (let same : u ≡ t = cc in same)

pub records_next : (front : List Token) (t : Token)
    → records_of (front ++ t ∷ []) ≡ records_behind (records_of front) t.kind
records_next front t = fold-append (λ (open_ones : ℕ) (token : Token). records_behind open_ones token.kind) 0
    front (t ∷ [])

pub stage_next : (front : List Token) (t : Token)
    → stage_of (front ++ t ∷ []) ≡ stage_behind (stage_of front) t.payload t.kind
stage_next front t =
    fold-append (λ (stage : Stage) (token : Token). stage_behind stage token.payload token.kind) outside front (t ∷ [])

pub records_few : (n : ℕ) (kind : Kind) → records_behind n kind ≤ suc n
records_few n k.Record = omega arith
records_few n k.End = omega arith
records_few n kind = omega arith

-- the part that a token shows
pub part_known : (before : List Token) (kind : Kind)
    → part_in (records_of before) (stage_of before) kind ≡ part_behind before kind
part_known before k.Case = refl
part_known before kind = refl

pub part_there : (all front rest : List Token) (n : ℕ) → all ≡ front ++ rest → n ≡ length front
    → part_behind front (head rest).kind ≡ part_behind (take n all) (head (drop n all)).kind
part_there all front rest n split count =
    rw (split, count, take-append_seam front rest, drop-append_seam front rest) refl
