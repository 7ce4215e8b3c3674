-- A table of the code grows.
use Rattle.std.proofs.Common.{◌≡◌, sym, ap, ◌∙◌, ◌≤◌, arith, List, [], ◌∷◌, ◌++◌, take, length}
use Rattle.std.proofs.lemmas.List.{take-take, take-append-le, take_all, length-take}
use Rattle.pas_typed.specs.declared.types.Structure.{Structure}
use Rattle.pas_scopes.specs.FormAnswers.{Grows}

pub grows_same : (table : List Structure) → Grows table table
grows_same table = take_all (length table) table (omega arith)

pub grows_push : (old new : List Structure) (found : Structure) → new ≡ old ++ found ∷ [] → Grows old new
grows_push old new found is =
    ap (take (length old)) is ∙ (take-append-le (length old) old (found ∷ []) (omega arith) ∙ grows_same old)

shorter : (old new : List Structure) → Grows old new → length old ≤ length new
shorter old new h = omega (arith, length-take (length old) new, ap length h)

pub grows_on : (old now new : List Structure) → Grows old now → Grows now new → Grows old new
grows_on old now new h one =
    sym (take-take (length old) (length now) new (shorter old now h)) ∙ (ap (take (length old)) one ∙ h)
