use Rattle.std.proofs.Common.{sym, ap, ◌∙◌}
use Rattle.pas_typed.specs.TypeViews.{table_view, type_view, counted}
use Rattle.pas_typed.specs.TypedViews.{mode_view}
use Rattle.pas_scopes.proofs.LocalLemmas.{own_cells}
use Rattle.pas_scopes.proofs.locals.cells_each.Goals as goal

pub returns-else-is_by_name : goal.returns-else-is_by_name
returns-else-is_by_name c =
    let scopes = c.args.scopes.now in
    ap counted (own_cells (table_view scopes.spellings.now scopes.types) (mode_view c.args.mode)
    (type_view c.args.pas_type) (sym c.is_by_name.ensures ∙ c.if-is_by_name.false))
    ∙ c.cells_of.ensures scopes.spellings.now
