use Rattle.std.proofs.Common.{◌≡◌, ◌∷◌, map, take}
use Rattle.pas_syntax.specs.ProgramViews.{type_row_in}
use Rattle.pas_syntax.specs.Words.{type_row_words}
use Rattle.pas_rules.specs.Declarations.{type_row}
use Rattle.pas_rules.proofs.DeclarationsAsMany.{type_row_many}
use Rattle.pas_scopes.proofs.RowLemmas.{Leads}
use Rattle.pas_scopes.proofs.declarations.type_rows.Given as goal

abbrev pub invariant-loop-row : goal.invariant-loop-row
invariant-loop-row l = record {
  kept : l.scopes ≡ record l.fn.scopes { types = l.scopes.types; names = l.scopes.names };
  leads : Leads type_row_words type_row type_row_many
      (type_row_in l.fn.scopes.spellings.now l.rows.first
      ∷ map (type_row_in l.fn.scopes.spellings.now) (take l.row-index l.row-items))
      l.fn.scopes l.fn.noted l.scopes l.noted;
}
