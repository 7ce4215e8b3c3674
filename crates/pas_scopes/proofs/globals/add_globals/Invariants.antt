use Rattle.std.proofs.Common.{◌≡◌, ◌+◌, ◌*◌, length}
use Rattle.pas_typed.specs.declared.typed.Home.TheVariants as home
use Rattle.pas_typed.specs.declared.typed.Mode.TheVariants as mode
use Rattle.pas_scopes.specs.ScopeViews.{all_idents}
use Rattle.pas_typed.specs.TypeViews.{counted}
use Rattle.pas_scopes.proofs.AddedLemmas.{Added, so_far}
use Rattle.pas_scopes.proofs.globals.add_globals.Given as goal

abbrev pub invariant-loop-behind : goal.invariant-loop-behind
invariant-loop-behind l = record {
  kept : l.scopes ≡ record l.fn.scopes {
    names = l.scopes.names;
    globals = l.scopes.globals;
    cells = l.scopes.cells;
  };
  cells_are : l.scopes.cells ≡ counted (l.fn.scopes.cells + length (all_idents l.names) * l.each);
  added : Added home.Global mode.Declared l.pas_type l.fn.scopes.spellings.now l.fn.scopes.names l.fn.scopes.globals
      (so_far l.names.first l.behind-items l.behind-index) l.scopes.names l.scopes.globals;
}
