use Rattle.pas_types.proofs.BegunLemmas.{idents_ok}
use Rattle.pas_types.proofs.checking.parameters_of.Goals as goal

pub returns-in-Some : goal.returns-in-Some
returns-in-Some c spellings =
    idents_ok spellings c.args.head.now.parameters c.in-Some.parameters c.idents_of.result c.in-Some.is
    c.idents_of.ensures
