use Rattle.std.proofs.Common.{◌≡◌}
use Rattle.pas_syntax.specs.Views.{behind_in}
use Rattle.pas_syntax.specs.ProgramViews.{parameter_in}
use Rattle.pas_scopes.specs.declared.scopes.Inner.{Inner}
use Rattle.pas_scopes.specs.Locals.{IsWithin}
use Rattle.pas_types.proofs.FormalsLemmas.{Formals}
use Rattle.pas_types.proofs.headings.all_formals.Given as goal

abbrev pub invariant-loop-behind : goal.invariant-loop-behind
invariant-loop-behind l = record {
  kept : l.scopes ≡ record l.fn.scopes { inner = l.scopes.inner };
  passes : (inner : Inner) → IsWithin inner l.fn.scopes
      → Formals (behind_in (parameter_in l.fn.scopes.spellings.now)) l.fn.scopes inner
      (parameter_in l.fn.scopes.spellings.now l.parameters.items.first) l.behind-items l.behind-index l.scopes;
}
