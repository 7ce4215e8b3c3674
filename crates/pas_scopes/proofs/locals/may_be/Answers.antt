use Rattle.std.proofs.Common.{◌∙◌}
use Rattle.pas_typed.specs.Types.{component_of}
use Rattle.pas_typed.specs.TypeViews.{table_view, type_view}
use Rattle.pas_typed.specs.TypedViews.{mode_view}
use Rattle.pas_rules.specs.Declarations.{is_by_name}
use Rattle.pas_scopes.proofs.GlobalLemmas.{no_file_or, file_or}
use Rattle.pas_scopes.proofs.locals.may_be.Goals as goal

pub returns-then-not-is_file : goal.returns-then-not-is_file
returns-then-not-is_file c =
    let scopes = c.args.scopes.now in
    no_file_or (component_of (table_view scopes.spellings.now scopes.types) (type_view c.args.pas_type))
    (is_by_name (mode_view c.args.mode))
    c.is_file.result (c.is_file.ensures scopes.spellings.now) c.if-not-is_file.true

pub returns-else-not-is_file : goal.returns-else-not-is_file
returns-else-not-is_file c =
    let scopes = c.args.scopes.now in
    c.is_by_name.ensures
    ∙ file_or (component_of (table_view scopes.spellings.now scopes.types) (type_view c.args.pas_type))
    (is_by_name (mode_view c.args.mode))
    c.is_file.result (c.is_file.ensures scopes.spellings.now) c.if-not-is_file.false
