use Rattle.std.proofs.Common.{subst, sym, [], ◌∷◌}
use Rattle.pas_scopes.specs.declared.names.Procedure.{Procedure as CodeProcedure}
use Rattle.pas_typed.specs.TypedViews.{statement_view}
use Rattle.pas_scopes.specs.NameViews.{procedure_view}
use Rattle.pas_scopes.specs.ScopeViews.{scopes_view}
use Rattle.pas_rules.specs.Calls.{procedure_alone}
use Rattle.pas_scopes.specs.Answers.{Settles}
use Rattle.pas_types.proofs.calls.procedure_alone.Goals as goal

pub returns-in-Read : goal.returns-in-Read
returns-in-Read c word same =
    subst (λ (found : CodeProcedure). Settles (word ∷ [])
    (procedure_alone (scopes_view c.args.scopes.now) (procedure_view found))
    (statement_view c.args.scopes.now.spellings.now) c.read_alone.result) (sym c.in-Read.is)
    (c.read_alone.ensures word same)

pub returns-in-Readln : goal.returns-in-Readln
returns-in-Readln c word same =
    subst (λ (found : CodeProcedure). Settles (word ∷ [])
    (procedure_alone (scopes_view c.args.scopes.now) (procedure_view found))
    (statement_view c.args.scopes.now.spellings.now) c.read_alone-in-Readln.result) (sym c.in-Readln.is)
    (c.read_alone-in-Readln.ensures word same)

pub returns-in-Write : goal.returns-in-Write
returns-in-Write c word same =
    subst (λ (found : CodeProcedure). Settles (word ∷ [])
    (procedure_alone (scopes_view c.args.scopes.now) (procedure_view found))
    (statement_view c.args.scopes.now.spellings.now) c.write_alone.result) (sym c.in-Write.is)
    (c.write_alone.ensures word same)

pub returns-in-Writeln : goal.returns-in-Writeln
returns-in-Writeln c word same =
    subst (λ (found : CodeProcedure). Settles (word ∷ [])
    (procedure_alone (scopes_view c.args.scopes.now) (procedure_view found))
    (statement_view c.args.scopes.now.spellings.now) c.write_alone-in-Writeln.result) (sym c.in-Writeln.is)
    (c.write_alone-in-Writeln.ensures word same)
