use Rattle.pas_scopes.proofs.globals.globals_of.Goals as goal

pub returns-in-Some-clause-declares : goal.returns-in-Some-clause-declares
returns-in-Some-clause-declares c = rw c.in-Some.is c.global_rows.ensures.declares
