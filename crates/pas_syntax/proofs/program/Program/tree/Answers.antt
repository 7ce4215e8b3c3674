use Rattle.std.proofs.Common.{subst}
use Rattle.pas_syntax.specs.Parse.{IsOfText}
use Rattle.pas_syntax.specs.ProgramViews.{program_in}
use Rattle.pas_syntax.specs.Parsed.{Parsed}
use Rattle.pas_syntax.proofs.program.Program.tree.Goals as goal

pub returns-clause-of_text : goal.returns-clause-of_text
returns-clause-of_text c =
    subst (λ (parsed : Parsed). IsOfText (program_in parsed.spellings parsed.tree)) c.self.view_is c.self.invariant
