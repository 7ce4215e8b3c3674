-- Scopes of which the names stand for what the program declares so far.
use Rattle.std.proofs.Common.{◌≡◌, ◌⊎◌, ℕ, List, [], length, map, Option, Some, None, IfSome, IsTrue}
use Rattle.std.specs.Prelude.{⊤, option_and_then}
use Rattle.pas_typed.specs.Types.{PasType, Table, all_of, is_within}
use Rattle.pas_typed.specs.Typed as typed
use Rattle.pas_typed.specs.Typed.{Variable, Heading, TypedProgram}
use Rattle.pas_typed.specs.Shapes.{IsAmong, IsLawfulTable}
use Rattle.pas_typed.specs.Lawful.{IsOrdinal, IsLawfulSlot}
use Rattle.pas_rules.specs.Scopes.{Entity, constant, type, variable, Outer, Inner, Scopes, entity_of}
use Rattle.pas_rules.specs.Expressions.{heading_of}
use Rattle.pas_rules.proofs.CleanLemmas.{Each}

-- the program as far as it is declared
abbrev pub so_far : Outer → TypedProgram
so_far outer = record {
  types = outer.types;
  globals = outer.globals;
  files = [];
  headings = map (λ found. found.heading) outer.routines;
  bodies = [];
  labels = [];
  statements = typed.no_statements;
}

-- what names stand for, behind variables of a routine
abbrev pub IsLawfulEntity : TypedProgram → List Variable → Entity → Type 0
IsLawfulEntity program variables (constant base value) = IsTrue (is_within (all_of base) value)
IsLawfulEntity program variables (type found) = IsAmong (length program.types) found
IsLawfulEntity program variables (variable slot) = IsLawfulSlot program variables slot
IsLawfulEntity program variables entity = ⊤

-- parameters of a routine, and what its heading tells
abbrev pub IsParameter : Variable → Type 0
IsParameter found = (found.mode ≡ typed.by_value) ⊎ (found.mode ≡ typed.by_name)

pub record IsLawfulHeading (table : Table) (heading : Heading) : Type 0 where
  pub parameters : Each IsParameter heading.parameters
  pub result : IfSome heading.result (IsOrdinal table)

-- the result of the routine whose scope this is
abbrev pub result_in : Scopes → Option Inner → Option PasType
result_in scopes None = None
result_in scopes (Some inner) = option_and_then (λ (found : Heading). found.result) (heading_of scopes inner.number)

abbrev pub variables_in : Option Inner → List Variable
variables_in None = []
variables_in (Some inner) = inner.variables

pub record AreLawful (scopes : Scopes) : Type 0 where
  pub rows : IsLawfulTable scopes.outer.types
  pub names : (name : List ℕ)
      → IfSome (entity_of scopes name) (IsLawfulEntity (so_far scopes.outer) (variables_in scopes.inner))
  pub headings : (number : ℕ) → IfSome (heading_of scopes number) (IsLawfulHeading scopes.outer.types)
