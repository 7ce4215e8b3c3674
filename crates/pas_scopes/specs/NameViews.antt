-- What names stand for in the code, as the definition has it.
use Rattle.std.specs.Prelude.{◌^◌, ℤ, pos, neg_ℤ, ◌≤ℤ◌, ⊤, List, [], ◌∷◌}
use Rattle.pas_scopes.specs.declared.names.Procedure.{Procedure as CodeProcedure}
use Rattle.pas_scopes.specs.declared.names.Procedure.TheVariants as code_procedure
use Rattle.pas_scopes.specs.declared.names.Entity.{Entity as CodeEntity}
use Rattle.pas_scopes.specs.declared.names.Entity.TheVariants as code
use Rattle.pas_rules.specs.Scopes as spec
use Rattle.pas_rules.specs.Scopes.{Procedure, Entity, Named}
use Rattle.pas_typed.specs.TypeViews.{base_view, type_view}
use Rattle.pas_typed.specs.TypedViews.{slot_view, function_view, file_test_view, file_step_view}

abbrev pub procedure_view : CodeProcedure → Procedure
procedure_view code_procedure.Read = spec.read
procedure_view code_procedure.Readln = spec.readln
procedure_view code_procedure.Write = spec.write
procedure_view code_procedure.Writeln = spec.writeln
procedure_view code_procedure.Uexit = spec.uexit

abbrev pub entity_view : CodeEntity → Entity
entity_view (code.Constant base value) = spec.constant (base_view base) value
entity_view (code.Type found) = spec.type (type_view found)
entity_view (code.Variable slot) = spec.variable (slot_view slot)
entity_view (code.Routine number) = spec.routine number
entity_view (code.Function found) = spec.function (function_view found)
entity_view (code.FileTest test) = spec.file_test (file_test_view test)
entity_view (code.FileStep step) = spec.file_step (file_step_view step)
entity_view (code.Procedure found) = spec.procedure (procedure_view found)
entity_view code.Unclear = spec.unclear

-- a constant is a number of at most 32 bits, behind a sign
abbrev pub IsSmall : ℤ → Type 0
IsSmall value = (neg_ℤ (pos (2 ^ 32)) ≤ℤ value) × (value ≤ℤ pos (2 ^ 32))

abbrev pub IsSmallEntity : Entity → Type 0
IsSmallEntity (spec.constant base value) = IsSmall value
IsSmallEntity entity = ⊤

abbrev pub AreSmall : List Named → Type 0
AreSmall [] = ⊤
AreSmall (named ∷ found) = IsSmallEntity named.entity × AreSmall found
