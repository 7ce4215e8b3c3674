use Rattle.std.proofs.Common.{subst}
use Rattle.pas_typed.specs.TypedViews.{program_view}
use Rattle.pas_rules.specs.Checked.{IsChecked}
use Rattle.pas_rules.proofs.HeldTexts.{text_lawful, text_short}
use Rattle.pas_rules.proofs.program.Typed.program.Goals as goal

pub returns-clause-lawful : goal.returns-clause-lawful
returns-clause-lawful c =
    let checked : IsChecked c.args.self.now = subst IsChecked c.self.view_is c.self.invariant.0 in
    text_lawful checked.0 (program_view c.args.self.now) checked.1 checked.2

pub returns-clause-names : goal.returns-clause-names
returns-clause-names c =
    let checked : IsChecked c.args.self.now = subst IsChecked c.self.view_is c.self.invariant.0 in
    text_short checked.0 (program_view c.args.self.now) checked.1 checked.2
