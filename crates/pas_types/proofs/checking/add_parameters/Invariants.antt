use Rattle.std.proofs.Common.{◌≡◌, ℕ, List, map, take}
use Rattle.std.specs.Prelude.{fold}
use Rattle.pas_syntax.specs.Views.{spelled_in}
use Rattle.pas_rules.specs.Scopes.{with_name}
use Rattle.pas_types.specs.inner.Checking.{HasParameters}
use Rattle.pas_types.proofs.checking.add_parameters.Given as goal

abbrev pub invariant-loop-ident : goal.invariant-loop-ident
invariant-loop-ident l = record {
  kept : l.scopes ≡ record l.fn.scopes {
    parameters = l.scopes.parameters;
    names = l.scopes.names;
    globals = l.scopes.globals;
  };
  has : (before : List (List ℕ)) → HasParameters before l.fn.scopes → HasParameters
      (fold with_name before (map (λ ident. spelled_in l.fn.scopes.spellings.now ident.span)
      (take l.ident-index l.idents))) l.scopes;
}
