-- Lists that a step answers.
use Rattle.std.proofs.Common.{◌≡◌, [], ◌++◌, List, refl, sym, ap, Result, Ok, Err}
use Rattle.std.proofs.lemmas.List.{append_assoc}
use Rattle.wb_base.specs.declared.faults.Fault.{Fault}
use Rattle.wb_base.specs.Steps.{followed_by}

pub followed_by-nil : {A : Type 0} (r : Result (List A) Fault) → followed_by [] r ≡ r
followed_by-nil (Ok rest) = refl
followed_by-nil (Err fault) = refl

pub followed_by-followed_by :
    {A : Type 0} (prefix middle : List A) (r : Result (List A) Fault)
    → followed_by prefix (followed_by middle r) ≡ followed_by (prefix ++ middle) r
followed_by-followed_by prefix middle (Ok rest) = ap Ok (sym (append_assoc prefix middle rest))
followed_by-followed_by prefix middle (Err fault) = refl
