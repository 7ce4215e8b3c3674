use Rattle.pas_scopes.proofs.declarations.constants_of.Goals as goal

pub returns-in-Some-clause-declares : goal.returns-in-Some-clause-declares
returns-in-Some-clause-declares c = rw c.in-Some.is c.constant_rows.ensures.declares
