use Rattle.std.proofs.Common.{◌∙◌}
use Rattle.pas_syntax.specs.Views.{ident_in, separated_in}
use Rattle.pas_typed.specs.Types.{component_of}
use Rattle.pas_typed.specs.TypeViews.{table_view, type_view}
use Rattle.pas_rules.specs.Scopes.{spellings_of}
use Rattle.pas_rules.specs.Declarations.{are_parameters}
use Rattle.pas_scopes.specs.ScopeViews.{outer_view}
use Rattle.pas_scopes.proofs.GlobalLemmas.{no_file_or, file_or}
use Rattle.pas_scopes.proofs.globals.may_have.Goals as goal

pub returns-then-not-is_file : goal.returns-then-not-is_file
returns-then-not-is_file c =
    let scopes = c.args.scopes.now in
    no_file_or (component_of (table_view scopes.spellings.now scopes.types) (type_view c.args.pas_type))
    (are_parameters (outer_view scopes) (spellings_of (separated_in (ident_in scopes.spellings.now) c.args.names.now)))
    c.is_file.result (c.is_file.ensures scopes.spellings.now) c.if-not-is_file.true

pub returns-else-not-is_file : goal.returns-else-not-is_file
returns-else-not-is_file c =
    let scopes = c.args.scopes.now in
    c.are_parameters.ensures
    ∙ file_or (component_of (table_view scopes.spellings.now scopes.types) (type_view c.args.pas_type))
    (are_parameters (outer_view scopes) (spellings_of (separated_in (ident_in scopes.spellings.now) c.args.names.now)))
    c.is_file.result (c.is_file.ensures scopes.spellings.now) c.if-not-is_file.false
