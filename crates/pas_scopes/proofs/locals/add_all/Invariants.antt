use Rattle.std.proofs.Common.{◌≡◌}
use Rattle.std.specs.Prelude.{option_map}
use Rattle.pas_scopes.specs.Locals.{with_all}
use Rattle.pas_scopes.proofs.AddedLemmas.{so_far}
use Rattle.pas_scopes.proofs.locals.add_all.Given as goal

abbrev pub invariant-loop-behind : goal.invariant-loop-behind
invariant-loop-behind l = record {
  kept : l.scopes ≡ record l.fn.scopes { inner = l.scopes.inner };
  inner_is : l.scopes.inner ≡ option_map (with_all l.fn.scopes.spellings.now l.mode l.pas_type
      (so_far l.names.first l.behind-items l.behind-index)) l.fn.scopes.inner;
}
