-- Loops that read what a definition with a bound on its steps reads.
use Rattle.std.proofs.Common.{◌≡◌, ◌≢◌, ℕ, zero, suc, ◌<◌, ◌≤◌, Result, length, refl, ap, ◌∙◌, arith}
use Rattle.wb_base.specs.declared.faults.Fault.{Fault}
use Rattle.web_lex.specs.Reading.{Reading}
use Rattle.web_lex.specs.Token.{Token, end_of_input}
use Rattle.web_scan.specs.Scanned.{Scanning, most_tokens}

-- a rest of the bound, with which the definition reads from now on what it reads from the start
pub record Reached {S A : Type 0} (size : S → ℕ) (read : ℕ → S → Result A Fault) (start now : S)
    (most : ℕ) : Type 0 where
  pub left : ℕ
  pub enough : size now ≤ left
  pub same : read most start ≡ read left now

-- the same at each bound that is enough
abbrev pub StillReads : {S A : Type 0} → (S → ℕ) → (ℕ → S → Result A Fault) → S → S → Type 0
StillReads size read start now = (most : ℕ) → size start ≤ most → Reached size read start now most

pub StillReads-start : {S A : Type 0} (size : S → ℕ) (read : ℕ → S → Result A Fault) (start : S)
    → StillReads size read start start
StillReads-start size read start most enough = record { left = most; enough = enough; same = refl }

Reached-more :
    {S A : Type 0} (size : S → ℕ) (read : ℕ → S → Result A Fault) (start now next : S) (most left : ℕ)
    → size now ≤ left → read most start ≡ read left now → size next < size now
    → ((left : ℕ) → read (suc left) now ≡ read left next) → Reached size read start next most
Reached-more size read start now next most zero enough same shorter step = absurd (omega arith)
Reached-more size read start now next most (suc left) enough same shorter step =
    record { left = left; enough = omega arith; same = same ∙ step left }

-- one step more
pub StillReads-more :
    {S A : Type 0} (size : S → ℕ) (read : ℕ → S → Result A Fault) (start now next : S)
    → StillReads size read start now → size next < size now
    → ((left : ℕ) → read (suc left) now ≡ read left next) → StillReads size read start next
StillReads-more size read start now next still shorter step most enough =
    let reached = still most enough in
    Reached-more size read start now next most reached.left reached.enough reached.same shorter step

-- the last step, where any bound is enough
pub StillReads-ends :
    {S A : Type 0} (size : S → ℕ) (read : ℕ → S → Result A Fault) (start now : S) (result : Result A Fault)
    → StillReads size read start now → ((left : ℕ) → read left now ≡ result)
    → (most : ℕ) → size start ≤ most → read most start ≡ result
StillReads-ends size read start now result still ends most enough =
    let reached = still most enough in reached.same ∙ ends reached.left

Reached-stops :
    {S A : Type 0} (size : S → ℕ) (read : ℕ → S → Result A Fault) (start now : S) (result : Result A Fault)
    (most left : ℕ)
    → size now ≤ left → read most start ≡ read left now → 0 < size now
    → ((left : ℕ) → read (suc left) now ≡ result) → read most start ≡ result
Reached-stops size read start now result most zero enough same some stops = absurd (omega arith)
Reached-stops size read start now result most (suc left) enough same some stops = same ∙ stops left

-- the last step
pub StillReads-stops :
    {S A : Type 0} (size : S → ℕ) (read : ℕ → S → Result A Fault) (start now : S) (result : Result A Fault)
    → StillReads size read start now → 0 < size now → ((left : ℕ) → read (suc left) now ≡ result)
    → (most : ℕ) → size start ≤ most → read most start ≡ result
StillReads-stops size read start now result still some stops most enough =
    let reached = still most enough in
    Reached-stops size read start now result most reached.left reached.enough reached.same some stops

-- the last step of a scanner
pub scanning_stops :
    {A : Type 0} (read : ℕ → Scanning → Result A Fault) (start now : Scanning) (result : Result A Fault)
    → StillReads most_tokens read start now → ((left : ℕ) → read (suc left) now ≡ result)
    → (most : ℕ) → length start.reading.rest < most → read most start ≡ result
scanning_stops read start now result still stops most enough =
    StillReads-stops most_tokens read start now result still (omega arith) stops most (omega arith)

-- one step more, after a token that is not the end of the input, and after which the rest is no longer
pub scanning_more :
    {A : Type 0} (read : ℕ → Scanning → Result A Fault) (start now after next : Scanning) (token : Token)
    → StillReads most_tokens read start now → token ≢ end_of_input
    → (token ≢ end_of_input → length after.reading.rest < length now.reading.rest)
    → length next.reading.rest ≤ length after.reading.rest
    → ((left : ℕ) → read (suc left) now ≡ read left next) → StillReads most_tokens read start next
scanning_more read start now after next token still other shorter same step =
    let less = shorter other in
    StillReads-more most_tokens read start now next still (omega arith) step

-- the same rest
pub same_rest : (a b : Reading) → a ≡ b → length a.rest ≤ length b.rest
same_rest a b same =
    let is : length a.rest ≡ length b.rest = ap (λ (reading : Reading). length reading.rest) same in
    omega arith
