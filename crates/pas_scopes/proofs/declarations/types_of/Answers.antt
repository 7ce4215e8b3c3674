use Rattle.pas_scopes.proofs.declarations.types_of.Goals as goal

pub returns-in-Some-clause-declares : goal.returns-in-Some-clause-declares
returns-in-Some-clause-declares c = rw c.in-Some.is c.type_rows.ensures.declares
