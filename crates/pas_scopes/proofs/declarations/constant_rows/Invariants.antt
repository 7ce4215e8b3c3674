use Rattle.std.proofs.Common.{◌≡◌, ◌∷◌, map, take}
use Rattle.pas_syntax.specs.ProgramViews.{constant_row_in}
use Rattle.pas_syntax.specs.Words.{constant_row_words}
use Rattle.pas_rules.specs.Declarations.{constant_row}
use Rattle.pas_rules.proofs.DeclarationsAsMany.{constant_row_many}
use Rattle.pas_scopes.proofs.RowLemmas.{Leads}
use Rattle.pas_scopes.proofs.declarations.constant_rows.Given as goal

abbrev pub invariant-loop-row : goal.invariant-loop-row
invariant-loop-row l = record {
  kept : l.scopes ≡ record l.fn.scopes { names = l.scopes.names };
  leads : Leads constant_row_words constant_row constant_row_many
      (constant_row_in l.fn.scopes.spellings.now l.rows.first
      ∷ map (constant_row_in l.fn.scopes.spellings.now) (take l.row-index l.row-items))
      l.fn.scopes l.fn.noted l.scopes l.noted;
}
