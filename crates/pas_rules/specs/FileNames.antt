-- The names of the files of a typed program. That none has more bytes than a name of a text is this project's own.
use Rattle.std.specs.Prelude.{ℕ, ◌≤◌, List, [], length, slice_get, All}
use Rattle.std.specs.Option.{option_map_or}
use Rattle.pas_tokens.specs.declared.limits.TheConstants.{NAME_LIMIT}
use Rattle.pas_typed.specs.Typed.{Variable, TypedProgram}

-- the name of the variable with a number
abbrev pub name_in : List Variable → ℕ → List ℕ
name_in globals number = option_map_or (λ found. found.name) (slice_get globals number) []

abbrev pub HasShortNames : TypedProgram → Type 0
HasShortNames program = All (λ number. length (name_in program.globals number) ≤ NAME_LIMIT) program.files
