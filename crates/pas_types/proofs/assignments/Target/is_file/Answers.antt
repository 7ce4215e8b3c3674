use Rattle.std.proofs.Common.{ap, ◌∙◌}
use Rattle.std.specs.Prelude.{is_some}
use Rattle.pas_typed.specs.Types.{PasType, component_of}
use Rattle.pas_typed.specs.TypeViews.{table_view}
use Rattle.pas_types.specs.declared.assignments.Target.{Target as CodeTarget}
use Rattle.pas_rules.specs.Statements.{is_file_target}
use Rattle.pas_types.specs.inner.TargetViews.{target_view}
use Rattle.pas_types.proofs.assignments.Target.is_file.Goals as goal

pub returns-in-Place : goal.returns-in-Place
returns-in-Place c spellings =
    let table = table_view spellings c.args.types.now in
    ap (λ (target : CodeTarget). is_file_target table (target_view target)) c.in-Place.is
    ∙ (ap (λ (type : PasType). is_some (component_of table type)) c.pas_type.ensures ∙ c.is_file.ensures spellings)
