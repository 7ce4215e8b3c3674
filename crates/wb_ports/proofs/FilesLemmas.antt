-- Calls of a shelf that follow one another, over the files that it tells.
use Rattle.std.proofs.Common.{◌≡◌, ◌∙◌, ℕ, List, Option, Some, None, OnSome, take, length, refl, sym, subst, arith}
use Rattle.std.proofs.lemmas.List.{take_all}
use Rattle.wb_ports.specs.Held.{WhereTold}
use Rattle.wb_ports.specs.Files.{Files, SameFiles, Empties, AppendsTo, AppendsPrefixTo}
use Rattle.wb_ports.proofs.HeldLemmas.{told_then}

-- files that nothing touched
pub same_files : (files : Option Files) → WhereTold SameFiles files files
same_files None = tt
same_files (Some files) = λ name. refl

-- files as they were, and once more as they were
pub same_files_then : (a b c : Option Files) → WhereTold SameFiles a b → WhereTold SameFiles b c
    → WhereTold SameFiles a c
same_files_then a b c first second = told_then (λ x y z r q name. q name ∙ r name) a b c first second

-- a file that was made and then, by its name where the shelf tells it, filled
pub made_then : (name opened : List ℕ) (Q : List ℕ → Files → Files → Type 0) {P : Files → Files → Type 0}
    → ((x y z : Files) → Empties name x y → Q name y z → P x z)
    → (a b c : Option Files) → OnSome a (opened ≡ name) → WhereTold (Empties name) a b → WhereTold (Q opened) b c
    → WhereTold P a c
made_then name opened Q join None None None is r q = tt
made_then name opened Q join None None (Some z) is r q = absurd q
made_then name opened Q join None (Some y) c is r q = absurd r
made_then name opened Q join (Some x) b c is r q =
    told_then join (Some x) b c r (subst (λ (n : List ℕ). WhereTold (Q n) b c) is q)

-- what was appended and then kept was appended
pub appended_kept : (name piece : List ℕ) (x y z : Files)
    → AppendsTo name piece x y → SameFiles y z → AppendsTo name piece x z
appended_kept name piece x y z a s = record {
  bytes = a.bytes;
  held = a.held;
  holds = s name ∙ a.holds;
  others = λ other ne. s other ∙ a.others other ne;
}

-- the whole piece is a prefix of it
pub appended_prefix : (name piece : List ℕ) (x z : Files) → AppendsTo name piece x z → AppendsPrefixTo name piece x z
appended_prefix name piece x z a =
    let whole : take (length piece) piece ≡ piece = take_all (length piece) piece (omega arith) in
    (length piece, subst (λ (p : List ℕ). AppendsTo name p x z) (sym whole) a)
