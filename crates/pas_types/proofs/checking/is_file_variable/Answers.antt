use Rattle.std.proofs.Common.{sym, ap, ◌∙◌}
use Rattle.pas_typed.specs.TypeViews.{table_view}
use Rattle.pas_scopes.specs.declared.names.Entity.{Entity as CodeEntity}
use Rattle.pas_rules.specs.Check.{is_file_variable}
use Rattle.pas_scopes.specs.NameViews.{entity_view}
use Rattle.pas_types.proofs.checking.is_file_variable.Goals as goal

pub returns-in-Variable : goal.returns-in-Variable
returns-in-Variable c =
    let spellings = c.args.scopes.now.spellings.now in
    sym (c.is_lawful_file.ensures spellings)
    ∙ ap (λ (entity : CodeEntity). is_file_variable (table_view spellings c.args.scopes.now.types)
    (entity_view entity)) (sym c.in-Variable.is)
