-- Calls that follow one another, over what an object tells.
use Rattle.std.proofs.Common.{◌≡◌, ℕ, List, [], ◌++◌, ◌+◌, take, drop, length, Option, Some, None, Result, Ok, Err}
use Rattle.std.proofs.Common.{OnOk, OnErr, refl, sym, ◌∙◌, ap, subst, append_assoc, append-nil, arith}
use Rattle.std.proofs.lemmas.List.{take_at, take_all, take-append-drop}
use Rattle.std.proofs.Math.Seq.{take-append-add}
use Rattle.wb_ports.specs.Held.{WhereTold, Gains, GainsPrefix}

-- what holds whatever was answered
pub on_ok : {T E P : Type 0} → (r : Result T E) → P → OnOk r P
on_ok (Ok value) p = p
on_ok (Err error) p = tt

pub on_err : {T E P : Type 0} → (r : Result T E) → P → OnErr r P
on_err (Ok value) p = tt
on_err (Err error) p = p

-- one call and another
pub told_then : {T : Type 0} {R Q P : T → T → Type 0} → ((x y z : T) → R x y → Q y z → P x z)
    → (a b c : Option T) → WhereTold R a b → WhereTold Q b c → WhereTold P a c
told_then join None None None r q = tt
told_then join None None (Some z) r q = absurd q
told_then join None (Some y) c r q = absurd r
told_then join (Some x) None c r q = absurd r
told_then join (Some x) (Some y) None r q = absurd q
told_then join (Some x) (Some y) (Some z) r q = join x y z r q

-- one relation in place of another
pub told_map : {T : Type 0} {R P : T → T → Type 0} → ((x y : T) → R x y → P x y)
    → (a b : Option T) → WhereTold R a b → WhereTold P a b
told_map f None None r = tt
told_map f None (Some y) r = absurd r
told_map f (Some x) None r = absurd r
told_map f (Some x) (Some y) r = f x y r

-- where nothing is written, nothing is gained
pub gains_nothing : (held : Option (List ℕ)) → Gains [] held held
gains_nothing None = tt
gains_nothing (Some bytes) = sym (append-nil bytes)

-- one piece and another
pub gains_on : (a b c : Option (List ℕ)) (first second : List ℕ)
    → Gains first a b → Gains second b c → Gains (first ++ second) a c
gains_on None None None first second before after = tt
gains_on None None (Some z) first second before after = absurd after
gains_on None (Some y) c first second before after = absurd before
gains_on (Some x) None None first second before after = tt
gains_on (Some x) None (Some z) first second before after = absurd after
gains_on (Some x) (Some y) None first second before after = tt
gains_on (Some x) (Some y) (Some z) first second before after =
    after ∙ ap (λ (l : List ℕ). l ++ second) before ∙ append_assoc x first second

-- the whole piece is a prefix of it
pub prefix_of_gain : (a b : Option (List ℕ)) (piece : List ℕ) → Gains piece a b → GainsPrefix piece a b
prefix_of_gain a b piece gained =
    (length piece, subst (λ (l : List ℕ). Gains l a b) (sym (take_all (length piece) piece (omega arith))) gained)

-- a prefix of a first part is one of the whole
pub prefix_of_more : (a b : Option (List ℕ)) (first second : List ℕ)
    → GainsPrefix first a b → GainsPrefix (first ++ second) a b
prefix_of_more a b first second (n, gained) =
    let rest : List ℕ = drop n first ++ second in
    let parts : take n first ++ rest ≡ first ++ second =
    sym (append_assoc (take n first) (drop n first) second)
    ∙ ap (λ (l : List ℕ). l ++ second) (take-append-drop n first) in
    let same : take (length (take n first)) (first ++ second) ≡ take n first =
    ap (λ (l : List ℕ). take (length (take n first)) l) (sym parts) ∙ take_at (take n first) rest _ refl in
    (length (take n first), subst (λ (l : List ℕ). Gains l a b) (sym same) gained)

-- one piece, and a prefix of another
pub gains_prefix_on : (a b c : Option (List ℕ)) (first second : List ℕ)
    → Gains first a b → GainsPrefix second b c → GainsPrefix (first ++ second) a c
gains_prefix_on a b c first second gained (n, prefix) = (
  length first + n,
  subst (λ (l : List ℕ). Gains l a c) (sym (take-append-add first second n))
      (gains_on a b c first (take n second) gained prefix),
)
