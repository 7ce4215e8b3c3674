-- What a typed program is that checking gives: some text means a tree of which this is what it means. This project's
-- own.
use Rattle.pas_syntax.specs.Tree.{Program}
use Rattle.pas_syntax.specs.Parse.{IsOfText}
use Rattle.pas_typed.specs.declared.typed.TypedProgram.{TypedProgram as CodeProgram}
use Rattle.pas_typed.specs.TypedViews.{program_view}
use Rattle.pas_rules.specs.Check.{Means}

abbrev pub IsChecked : CodeProgram → Type 0
IsChecked typed = (program : Program) × IsOfText program × Means program (program_view typed)
