use Rattle.std.proofs.Common.{◌≡◌, map, take, None}
use Rattle.pas_syntax.specs.ProgramViews.{routine_in}
use Rattle.pas_types.specs.inner.LabelViews.{numbers_of}
use Rattle.pas_types.proofs.ThroughLemmas.{Leads}
use Rattle.pas_types.proofs.routines.routines_of.Given as goal

abbrev pub invariant-loop-routine : goal.invariant-loop-routine
invariant-loop-routine l = record {
  kept : l.scopes ≡ record l.fn.scopes {
    types = l.scopes.types;
    names = l.scopes.names;
    routines = l.scopes.routines;
    inner = l.scopes.inner;
  };
  first : l.noted ≡ None → l.fn.noted ≡ None;
  leads : (l.fn.noted ≡ None → numbers_of l.labels ≡ l.fn.scopes.labels)
      → Leads (map (routine_in l.fn.scopes.spellings.now) (take l.routine-index l.routines)) l.fn.scopes l.fn.noted
      l.scopes l.noted l.bodies;
}
