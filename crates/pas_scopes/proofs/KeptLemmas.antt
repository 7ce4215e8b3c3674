-- Scopes of which the types alone change.
use Rattle.std.proofs.Common.{◌≡◌, sym, ap, ◌∙◌}
use Rattle.pas_scopes.specs.declared.scopes.Scopes.{Scopes as CodeScopes}
use Rattle.pas_rules.specs.Scopes.{Scopes, entity_of}
use Rattle.pas_scopes.specs.ScopeViews.{scopes_view, Agrees}

module _ (old now : CodeScopes) (kept : now ≡ record old { types = now.types }) where
  pub spellings_kept : now.spellings.now ≡ old.spellings.now
  spellings_kept = ap (λ (scopes : CodeScopes). scopes.spellings.now) kept

  pub agrees_kept : (s : Scopes) → Agrees s (scopes_view old) → Agrees s (scopes_view now)
  agrees_kept s same name =
      same name ∙ sym (ap (λ (scopes : CodeScopes). entity_of (scopes_view scopes) name) kept)
