use Rattle.std.proofs.Common.{◌≡◌, ◌∷◌, map, take}
use Rattle.pas_syntax.specs.ProgramViews.{variable_row_in}
use Rattle.pas_scopes.specs.ScopeViews.{outer_view}
use Rattle.pas_scopes.specs.FormAnswers.{Grows}
use Rattle.pas_scopes.proofs.LocalRowsLemmas.{RowsLead}
use Rattle.pas_scopes.proofs.locals.local_rows.Given as goal

abbrev pub invariant-loop-row : goal.invariant-loop-row
invariant-loop-row l = record {
  kept : l.scopes ≡ record l.fn.scopes { types = l.scopes.types; inner = l.scopes.inner };
  grows : Grows l.fn.scopes.types l.scopes.types;
  leads : RowsLead (outer_view l.fn.scopes)
      (variable_row_in l.fn.scopes.spellings.now l.rows.first
      ∷ map (variable_row_in l.fn.scopes.spellings.now) (take l.row-index l.row-items))
      l.fn.scopes l.scopes;
}
