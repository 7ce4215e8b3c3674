use Rattle.std.proofs.Common.{◌≡◌, ◌∷◌, map, take}
use Rattle.pas_syntax.specs.ProgramViews.{variable_row_in}
use Rattle.pas_syntax.specs.Words.{variable_row_words}
use Rattle.pas_rules.specs.Declarations.{global_row}
use Rattle.pas_rules.proofs.DeclarationsAsMany.{global_row_many}
use Rattle.pas_scopes.proofs.RowLemmas.{Leads}
use Rattle.pas_scopes.proofs.globals.global_rows.Given as goal

abbrev pub invariant-loop-row : goal.invariant-loop-row
invariant-loop-row l = record {
  kept : l.scopes ≡ record l.fn.scopes {
    types = l.scopes.types;
    names = l.scopes.names;
    globals = l.scopes.globals;
    cells = l.scopes.cells;
  };
  leads : Leads variable_row_words global_row global_row_many
      (variable_row_in l.fn.scopes.spellings.now l.rows.first
      ∷ map (variable_row_in l.fn.scopes.spellings.now) (take l.row-index l.row-items))
      l.fn.scopes l.fn.noted l.scopes l.noted;
}
