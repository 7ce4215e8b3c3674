use Rattle.std.proofs.Common.{◌≡◌}
use Rattle.pas_scopes.proofs.AddedLemmas.{Unknown, so_far}
use Rattle.pas_scopes.proofs.globals.add_unclear.Given as goal

abbrev pub invariant-loop-behind : goal.invariant-loop-behind
invariant-loop-behind l = record {
  kept : l.scopes ≡ record l.fn.scopes { names = l.scopes.names };
  unknown : Unknown l.fn.scopes.spellings.now l.fn.scopes.names
      (so_far l.names.first l.behind-items l.behind-index) l.scopes.names;
}
