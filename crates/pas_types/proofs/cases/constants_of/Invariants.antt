use Rattle.std.proofs.Common.{◌≡◌, ◌++◌, ℕ, map, take}
use Rattle.pas_syntax.specs.Views.{constant_in, behind_in}
use Rattle.pas_typed.specs.TypeViews.{base_view}
use Rattle.pas_scopes.specs.ScopeViews.{scopes_view, IsClear}
use Rattle.pas_types.proofs.CaseLemmas.{AreChosen}
use Rattle.pas_types.proofs.cases.constants_of.Given as goal

abbrev pub invariant-loop-behind : goal.invariant-loop-behind
invariant-loop-behind l =
    let view = constant_in l.scopes.spellings.now in
    record {
      chosen : IsClear (scopes_view l.scopes) → (n : ℕ)
          → AreChosen (scopes_view l.scopes) (base_view l.base) l.fn.taken.keys n (view l.constants.first)
          (map (behind_in view) (take l.behind-index l.behind-items)) l.values;
      taken : l.taken.keys ≡ l.fn.taken.keys ++ l.values;
    }
