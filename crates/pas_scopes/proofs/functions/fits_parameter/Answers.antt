use Rattle.std.proofs.Common.{ap, ◌∙◌, Bool}
use Rattle.wb_base.specs.declared.faults.TheConstants.{WRONG_TYPE}
use Rattle.pas_tokens.specs.Cutting.{wrong}
use Rattle.pas_typed.specs.Types.{PasType, are_compatible}
use Rattle.pas_typed.specs.TypeViews.{type_view, table_view}
use Rattle.pas_typed.specs.TypedViews.{value_view}
use Rattle.pas_rules.specs.Marks.{unless}
use Rattle.pas_scopes.proofs.FitLemmas.{other_mode}
use Rattle.pas_scopes.proofs.functions.fits_parameter.Goals as goal

pub returns-in_default : goal.returns-in_default
returns-in_default c =
    let spellings = c.args.scopes.now.spellings.now in
    let table = table_view spellings c.args.scopes.now.types in
    let type : PasType = type_view c.args.parameter.pas_type in
    other_mode table c.args.parameter.mode type (value_view c.args.value.now) c.in_default.not-ByName
    ∙ ap (λ (is : Bool). unless is (wrong WRONG_TYPE))
    (ap (are_compatible table type) c.pas_type.ensures ∙ c.are_compatible.ensures spellings)
