use Rattle.std.proofs.Common.{◌≡◌, ℕ, map, take}
use Rattle.pas_syntax.specs.Views.{simple_in, behind_in}
use Rattle.pas_typed.specs.TypeViews.{table_view}
use Rattle.pas_rules.specs.Scopes.{Scopes}
use Rattle.pas_scopes.specs.ScopeViews.{scopes_view, Agrees}
use Rattle.pas_scopes.specs.FormAnswers.{Grows}
use Rattle.pas_scopes.proofs.IndexLemmas.{SoFar}
use Rattle.pas_scopes.proofs.type_forms.indexes_of.Given as goal

abbrev pub invariant-loop-behind : goal.invariant-loop-behind
invariant-loop-behind l = record {
  kept : l.scopes ≡ record l.fn.scopes { types = l.scopes.types };
  grows : Grows l.fn.scopes.types l.scopes.types;
  means : (s : Scopes) → Agrees s (scopes_view l.fn.scopes) → (n : ℕ)
      → SoFar s (table_view l.fn.scopes.spellings.now l.fn.scopes.types) n
      (simple_in l.fn.scopes.spellings.now l.head.indexes.first)
      (map (behind_in (simple_in l.fn.scopes.spellings.now)) (take l.behind-index l.behind-items)) l.ranges
      (table_view l.scopes.spellings.now l.scopes.types);
}
