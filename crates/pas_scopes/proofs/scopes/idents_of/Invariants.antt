use Rattle.std.proofs.Common.{◌≡◌, ◌∷◌, map, take}
use Rattle.pas_scopes.proofs.scopes.idents_of.Given as goal

abbrev pub invariant-loop-behind : goal.invariant-loop-behind
invariant-loop-behind l = l.all ≡ l.idents.first ∷ map (λ behind. behind.item) (take l.behind-index l.behind-items)
