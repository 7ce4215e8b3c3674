-- Doubled bytes, a byte at a time.
use Rattle.std.proofs.Common.{◌≡◌, ℕ, zero, suc, ◌+◌, ◌<◌, ◌⊎◌, true, false, List, [], ◌∷◌, ◌++◌, length, get_or, drop}
use Rattle.std.proofs.Common.{refl, sym, ap, ◌∙◌, inl, inr, arith, drop-cons, append_assoc}
use Rattle.web_scan.specs.Texts.{undoubled}
use Rattle.web_scan.specs.inner.Doubled.{begins_doubled}

undoubled-single : (doubled : List ℕ) (byte : ℕ) (rest : List ℕ) → begins_doubled doubled (byte ∷ rest) ≡ false
    → undoubled doubled (byte ∷ rest) ≡ byte ∷ undoubled doubled rest
undoubled-single doubled byte [] single = refl
undoubled-single doubled byte (next ∷ bytes) single = rw single refl

undoubled-double : (doubled : List ℕ) (byte : ℕ) (rest : List ℕ) → begins_doubled doubled (byte ∷ rest) ≡ true
    → undoubled doubled (byte ∷ rest) ≡ byte ∷ undoubled doubled (drop 1 rest)
undoubled-double doubled byte [] double = absurd cc
undoubled-double doubled byte (next ∷ bytes) double = rw double refl

drop-suc : (i : ℕ) (bytes : List ℕ) → drop 1 (drop i bytes) ≡ drop (suc i) bytes
drop-suc zero bytes = refl
drop-suc (suc i) [] = refl
drop-suc (suc i) (byte ∷ bytes) = drop-suc i bytes

at_step : (doubled bytes : List ℕ) (i step : ℕ) → i < length bytes
    → ((begins_doubled doubled (drop i bytes) ≡ true) × (step ≡ 2)) ⊎
    ((begins_doubled doubled (drop i bytes) ≡ false) × (step ≡ 1))
    → undoubled doubled (drop i bytes) ≡ get_or bytes i 0 ∷ undoubled doubled (drop (i + step) bytes)
at_step doubled bytes i step within (inl double) =
    let cut = drop-cons bytes i 0 within in
    let begins = ap (begins_doubled doubled) (sym cut) ∙ double.0 in
    let here : i + step ≡ suc (suc i) = omega (arith, double.1) in
    ap (undoubled doubled) cut ∙ undoubled-double doubled (get_or bytes i 0) (drop (suc i) bytes) begins
    ∙ ap (λ rest. get_or bytes i 0 ∷ undoubled doubled rest) (drop-suc (suc i) bytes
    ∙ ap (λ at. drop at bytes) (sym here))
at_step doubled bytes i step within (inr single) =
    let cut = drop-cons bytes i 0 within in
    let begins = ap (begins_doubled doubled) (sym cut) ∙ single.0 in
    let here : i + step ≡ suc i = omega (arith, single.1) in
    ap (undoubled doubled) cut ∙ undoubled-single doubled (get_or bytes i 0) (drop (suc i) bytes) begins
    ∙ ap (λ at. get_or bytes i 0 ∷ undoubled doubled (drop at bytes)) (sym here)

-- one more byte was added, and the next is one or two bytes on
pub undoubled-pushed : (start text more doubled bytes : List ℕ) (i step : ℕ) → i < length bytes
    → more ≡ text ++ get_or bytes i 0 ∷ [] → start ≡ text ++ undoubled doubled (drop i bytes)
    → ((begins_doubled doubled (drop i bytes) ≡ true) × (step ≡ 2)) ⊎
    ((begins_doubled doubled (drop i bytes) ≡ false) × (step ≡ 1))
    → start ≡ more ++ undoubled doubled (drop (i + step) bytes)
undoubled-pushed start text more doubled bytes i step within pushed before by =
    let rest = undoubled doubled (drop (i + step) bytes) in
    before ∙ ap (λ bytes. text ++ bytes) (at_step doubled bytes i step within by)
    ∙ sym (append_assoc text (get_or bytes i 0 ∷ []) rest) ∙ ap (λ text. text ++ rest) (sym pushed)
