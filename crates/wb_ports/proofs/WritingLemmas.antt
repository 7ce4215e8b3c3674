-- What several writes to one writer of std append.
use Rattle.std.proofs.Common.{◌≡◌, ℕ, List, [], ◌++◌, take, length, Option, Some, None, refl, sym, ◌∙◌, ap, subst}
use Rattle.std.proofs.Common.{append_assoc, ◌-◌, drop, arith, length-drop, take-append-drop}
use Rattle.std.specs.Io.KnownBytes.{Appends}
use Rattle.std.proofs.lemmas.List.{append-nil, take_at, take_all}

-- one write more
pub appends_on : (old mid new : Option (List ℕ)) (first second : List ℕ) → Appends old mid first
    → Appends mid new second → Appends old new (first ++ second)
appends_on None mid new first second before after = tt
appends_on (Some xs) None new first second before after = absurd before
appends_on (Some xs) (Some ys) None first second before after = absurd after
appends_on (Some xs) (Some ys) (Some zs) first second before after =
    after ∙ ap (λ (l : List ℕ). l ++ second) before ∙ append_assoc xs first second

-- the bytes that are done and the rest are still the piece
pub parts_on : (done rest piece : List ℕ) (n : ℕ) → done ++ rest ≡ piece
    → (done ++ take n rest) ++ take (length rest - n) (drop n rest) ≡ piece
parts_on done rest piece n parts =
    let whole : take (length rest - n) (drop n rest) ≡ drop n rest = take_all _ _ (omega (arith, length-drop n rest)) in
    append_assoc done (take n rest) _ ∙ ap (λ (l : List ℕ). done ++ (take n rest ++ l)) whole
    ∙ ap (λ (l : List ℕ). done ++ l) (take-append-drop n rest) ∙ parts

-- what was appended is a prefix of the piece
pub is_prefix : (old new : Option (List ℕ)) (done rest piece : List ℕ) → done ++ rest ≡ piece → Appends old new done
    → (n : ℕ) × Appends old new (take n piece)
is_prefix old new done rest piece parts appended =
    let prefix : take (length done) piece ≡ done = ap (λ (l : List ℕ). take (length done) l) (sym parts)
    ∙ take_at done rest (length done) refl in
    (length done, subst (λ (l : List ℕ). Appends old new l) (sym prefix) appended)

-- after a write more that took nothing
pub is_prefix_still : (old mid new : Option (List ℕ)) (done rest piece : List ℕ) → done ++ rest ≡ piece
    → Appends old mid done → Appends mid new [] → (n : ℕ) × Appends old new (take n piece)
is_prefix_still old mid new done rest piece parts before after =
    is_prefix old new done rest piece parts
    (subst (λ (l : List ℕ). Appends old new l) (append-nil done) (appends_on old mid new done [] before after))
