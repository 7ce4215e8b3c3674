-- Texts that are gathered one after another.
use Rattle.std.proofs.Common.{◌≡◌, ℕ, List, [], ◌++◌, Option, sym, ◌∙◌, ap, subst, append_assoc, append-nil}
use Rattle.wb_ports.specs.Held.{Gains, GainsPrefix}
use Rattle.wb_ports.proofs.HeldLemmas.{gains_nothing, gains_on, gains_prefix_on, prefix_of_more}
use Rattle.web_pool.specs.inner.Gathering.{HandsOn}

-- nothing more was gathered
pub hands_nothing : (kept : List ℕ) (held : Option (List ℕ)) → HandsOn (kept ++ []) kept held held
hands_nothing kept held = record { handed = []; parts = append-nil kept; gains = gains_nothing held }

-- another way to write the text
pub hands_same : (whole same kept : List ℕ) (a b : Option (List ℕ)) → whole ≡ same → HandsOn whole kept a b
    → HandsOn same kept a b
hands_same whole same kept a b is hands = subst (λ (l : List ℕ). HandsOn l kept a b) is hands

-- one text and another
pub hands_then : (first second third kept last : List ℕ) (a b c : Option (List ℕ)) → HandsOn (first ++ second) kept a b
    → HandsOn (kept ++ third) last b c → HandsOn (first ++ (second ++ third)) last a c
hands_then first second third kept last a b c before after = record {
  handed = before.handed ++ after.handed;
  parts =
      sym (append_assoc first second third) ∙ ap (λ (l : List ℕ). l ++ third) before.parts
      ∙ append_assoc before.handed kept third ∙ ap (λ (l : List ℕ). before.handed ++ l) after.parts
      ∙ sym (append_assoc before.handed after.handed last);
  gains = gains_on a b c before.handed after.handed before.gains after.gains;
}

-- one text, and what was got of another
pub hands_prefix_then : (first second third kept : List ℕ) (a b c : Option (List ℕ))
    → HandsOn (first ++ second) kept a b
    → GainsPrefix (kept ++ third) b c → GainsPrefix (first ++ (second ++ third)) a c
hands_prefix_then first second third kept a b c before after =
    let whole : before.handed ++ (kept ++ third) ≡ first ++ (second ++ third) =
    sym (append_assoc before.handed kept third) ∙ ap (λ (l : List ℕ). l ++ third) (sym before.parts)
    ∙ append_assoc first second third in
    subst (λ (l : List ℕ). GainsPrefix l a c) whole
    (gains_prefix_on a b c before.handed (kept ++ third) before.gains after)

-- all that was kept back was handed on
pub hands_all : (whole kept : List ℕ) (a b c : Option (List ℕ)) → HandsOn whole kept a b → Gains kept b c
    → Gains whole a c
hands_all whole kept a b c before after =
    subst (λ (l : List ℕ). Gains l a c) (sym before.parts)
    (gains_on a b c before.handed kept before.gains after)

-- a prefix of what was kept back was handed on
pub hands_prefix : (whole kept : List ℕ) (a b c : Option (List ℕ)) → HandsOn whole kept a b → GainsPrefix kept b c
    → GainsPrefix whole a c
hands_prefix whole kept a b c before after =
    subst (λ (l : List ℕ). GainsPrefix l a c) (sym before.parts)
    (gains_prefix_on a b c before.handed kept before.gains after)

-- what was got of a part of the text is a prefix of it
pub prefix_of_whole : (first part rest whole : List ℕ) (a b : Option (List ℕ)) → whole ≡ part ++ rest
    → GainsPrefix (first ++ part) a b → GainsPrefix (first ++ whole) a b
prefix_of_whole first part rest whole a b is prefix =
    let parts : (first ++ part) ++ rest ≡ first ++ whole =
    append_assoc first part rest ∙ ap (λ (l : List ℕ). first ++ l) (sym is) in
    subst (λ (l : List ℕ). GainsPrefix l a b) parts (prefix_of_more a b (first ++ part) rest prefix)

-- one text, and all that is left of it and of another
pub hands_gains_then : (first second third kept : List ℕ) (a b c : Option (List ℕ)) → HandsOn (first ++ second) kept a b
    → Gains (kept ++ third) b c → Gains (first ++ (second ++ third)) a c
hands_gains_then first second third kept a b c before after =
    let whole : before.handed ++ (kept ++ third) ≡ first ++ (second ++ third) =
    sym (append_assoc before.handed kept third) ∙ ap (λ (l : List ℕ). l ++ third) (sym before.parts)
    ∙ append_assoc first second third in
    subst (λ (l : List ℕ). Gains l a c) whole (gains_on a b c before.handed (kept ++ third) before.gains after)
