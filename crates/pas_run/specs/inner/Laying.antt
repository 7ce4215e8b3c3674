-- What is laid out before a program runs. This project's own.
use Rattle.std.specs.Prelude.{◌≡◌, ◌==◌, ◌<◌, ℕ, List, length, position, slice_get, Some}
use Rattle.pas_typed.specs.declared.typed.TypedProgram.{TypedProgram as CodeProgram}
use Rattle.pas_typed.specs.Typed.{Body, TypedProgram}
use Rattle.pas_run.specs.declared.layouts.Layout.{Layout}
use Rattle.pas_run.specs.inner.Scenes.{HasLayout}

-- the layouts of all bodies of a program
abbrev pub AreLaid : TypedProgram → List Layout → Type 0
AreLaid program layouts =
    (number : ℕ) (body : Body) → slice_get program.bodies number ≡ Some body
    → HasLayout program.types layouts number body

-- the number of the body of a routine, which the list of numbers has
pub record IsNumbered (program : CodeProgram) (numbers : List ℕ) (routine : ℕ) : Type 0 where
  pub number : ℕ
  pub there : slice_get numbers routine ≡ Some number
  pub first : position (λ body. body.routine == routine) program.bodies ≡ Some number

abbrev pub AreNumbers : CodeProgram → List ℕ → Type 0
AreNumbers program numbers = (routine : ℕ) → routine < length program.headings → IsNumbered program numbers routine
