use Rattle.pas_tokens.specs.inner.CodeCuts.{token_by}
use Rattle.pas_syntax.proofs.RoutineSteps.{ends_here, no_end_here}
use Rattle.pas_syntax.proofs.programs.end_of_text.Goals as goal

pub returns-in-EndOfText : goal.returns-in-EndOfText
returns-in-EndOfText c = ends_here (token_by c.peek-token.result) c.peek-token.ensures.token c.in-EndOfText.is

pub returns-in_default : goal.returns-in_default
returns-in_default c = no_end_here (token_by c.peek-token.result) c.peek-token.ensures.token c.in_default.not-EndOfText
