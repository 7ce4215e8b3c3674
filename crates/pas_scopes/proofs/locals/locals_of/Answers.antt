use Rattle.pas_scopes.proofs.locals.locals_of.Goals as goal

pub returns-in-Some-clause-passes : goal.returns-in-Some-clause-passes
returns-in-Some-clause-passes c = rw c.in-Some.is c.local_rows.ensures.passes
