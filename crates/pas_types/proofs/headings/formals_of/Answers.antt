use Rattle.pas_types.proofs.headings.formals_of.Goals as goal

pub returns-in-Some-clause-passes : goal.returns-in-Some-clause-passes
returns-in-Some-clause-passes c = rw c.in-Some.is c.all_formals.ensures.passes
