-- Targets of assignments of the code as those of the definition.
use Rattle.pas_typed.specs.TypeViews.{type_view}
use Rattle.pas_typed.specs.TypedViews.{place_view}
use Rattle.pas_types.specs.declared.assignments.Target.{Target as CodeTarget}
use Rattle.pas_types.specs.declared.assignments.Target.TheVariants as code
use Rattle.pas_rules.specs.Statements.{Target, place, result}

abbrev pub target_view : CodeTarget → Target
target_view (code.Place found) = place (place_view found)
target_view (code.Result number type) = result number (type_view type)
