use Rattle.std.proofs.Common.{◌≡◌, ◌∷◌, ◌++◌, map, take}
use Rattle.pas_scopes.proofs.type_forms.add_fields.Given as goal

abbrev pub invariant-loop-behind : goal.invariant-loop-behind
invariant-loop-behind l =
    l.fields ≡ l.fn.fields ++ record { name = l.names.first.span; pas_type = l.pas_type }
    ∷ map (λ behind. record { name = behind.item.span; pas_type = l.pas_type }) (take l.behind-index l.behind-items)
