-- Lawful typed programs: what a tree says of types, variables, files and routines is what the program declares. This
-- project's own: a meaning on cells, and a translation, stand on it.
use Rattle.std.specs.Prelude.{◌≡◌, ℕ, ◌==◌, ◌<◌, List, [], ◌∷◌, ◌++◌, length, map, find, slice_get, Option, Some}
use Rattle.std.specs.Prelude.{None, option_map, option_and_then, ⊤, ◌⊎◌}
use Rattle.std.specs.Bool.{IsTrue, IsFalse}
use Rattle.std.specs.Option.{IsSome, IfSome, IsSomeAnd}
use Rattle.std.specs.List.{All, IsDistinct}
use Rattle.pas_typed.specs.Types.{PasType, Table, all_of, is_within, range_of, component_of, elements_of, fields_of}
use Rattle.pas_typed.specs.Typed as typed
use Rattle.pas_typed.specs.Typed.{Home, Variable, Slot, Value, Place, Passed, Item, Statement, Statements, Arms}
use Rattle.pas_typed.specs.Typed.{Heading, Body, TypedProgram}
use Rattle.pas_typed.specs.TypeOf.{type_of_place, type_of, is_buffer}
use Rattle.pas_typed.specs.Shapes.{IsLawfulTable}

-- an ordinal type, a file type, and the type of a field of a record type by its number
abbrev pub IsOrdinal : Table → PasType → Type 0
IsOrdinal table type = IsSome (range_of table type)

abbrev pub IsFile : Table → PasType → Type 0
IsFile table type = IsSome (component_of table type)

abbrev pub field_type : Table → PasType → ℕ → Option PasType
field_type table type number =
    option_and_then (λ found. option_map (λ field. field.type) (slice_get found number)) (fields_of table type)

-- what a target of a type takes: a number takes any number, another target what is of the very type
abbrev pub Takes : Table → PasType → PasType → Type 0
Takes table target type = (IsOrdinal table target × IsOrdinal table type) ⊎ (target ≡ type)

-- a slot is what the variable with its number is declared as
pub record IsDeclared (variables : List Variable) (slot : Slot) : Type 0 where
  pub variable : Variable
  pub there : slice_get variables slot.number ≡ Some variable
  pub mode : variable.mode ≡ slot.mode
  pub type : variable.type ≡ slot.type

-- values, places and arguments in a program, behind variables of a routine (none outside of one)
module _ (program : TypedProgram) (variables : List Variable) where
  abbrev pub variables_of : Home → List Variable
  variables_of typed.global = program.globals
  variables_of typed.local = variables

  abbrev pub IsLawfulSlot : Slot → Type 0
  IsLawfulSlot slot = IsDeclared (variables_of slot.home) slot

  -- a value of an ordinal type, as each operand is
  abbrev pub IsNumber : Value → Type 0
  IsNumber found = IsOrdinal program.types (type_of found)

  abbrev mutual
    pub IsLawfulValue : Value → Type 0
    IsLawfulValue (typed.constant base number) = IsTrue (is_within (all_of base) number)
    IsLawfulValue (typed.read place) = IsLawfulPlace place
    IsLawfulValue (typed.call routine type passed) =
        (heading : Heading) × (slice_get program.headings routine ≡ Some heading) × (heading.result ≡ Some type)
        × ArePassed passed heading.parameters
    IsLawfulValue (typed.applied function argument) = IsLawfulValue argument × IsNumber argument
    IsLawfulValue (typed.tested test place) = IsLawfulPlace place × IsFile program.types (type_of_place place)
    IsLawfulValue (typed.parenthesized inner) = IsLawfulValue inner
    IsLawfulValue (typed.signed sign argument) = IsLawfulValue argument × IsNumber argument
    IsLawfulValue (typed.negated argument) = IsLawfulValue argument × IsNumber argument
    IsLawfulValue (typed.product left op right) =
        IsLawfulValue left × IsLawfulValue right × IsNumber left × IsNumber right
    IsLawfulValue (typed.addition left op right) =
        IsLawfulValue left × IsLawfulValue right × IsNumber left × IsNumber right
    IsLawfulValue (typed.comparison left relation right) =
        IsLawfulValue left × IsLawfulValue right × IsNumber left × IsNumber right

    pub IsLawfulPlace : Place → Type 0
    IsLawfulPlace (typed.slot slot) = IsLawfulSlot slot
    IsLawfulPlace (typed.element place range type index) =
        IsLawfulPlace place × IsLawfulValue index
        × (elements_of program.types (type_of_place place) ≡ Some (record { indexes = range; element = type }))
        × IsNumber index
    IsLawfulPlace (typed.field place number type) =
        IsLawfulPlace place × (field_type program.types (type_of_place place) number ≡ Some type)
    IsLawfulPlace (typed.buffer place type) =
        IsLawfulPlace place × (component_of program.types (type_of_place place) ≡ Some type)

    -- arguments for parameters
    pub ArePassed : Passed → List Variable → Type 0
    ArePassed typed.nothing [] = ⊤
    ArePassed (typed.value type argument others) (parameter ∷ parameters) =
        (parameter.mode ≡ typed.by_value) × (parameter.type ≡ type) × IsLawfulValue argument
        × Takes program.types type (type_of argument) × ArePassed others parameters
    ArePassed (typed.reference place others) (parameter ∷ parameters) =
        (parameter.mode ≡ typed.by_name) × (parameter.type ≡ type_of_place place) × IsLawfulPlace place
        × IsFalse (is_buffer place) × ArePassed others parameters
    ArePassed passed parameters = ⊥

  -- a number, a place that is a file, one that takes numbers, and what is written
  abbrev pub IsLawfulNumber : Value → Type 0
  IsLawfulNumber found = IsLawfulValue found × IsNumber found

  abbrev pub IsLawfulFile : Place → Type 0
  IsLawfulFile place = IsLawfulPlace place × IsFile program.types (type_of_place place)

  abbrev pub IsLawfulTarget : Place → Type 0
  IsLawfulTarget place = IsLawfulPlace place × IsOrdinal program.types (type_of_place place)

  abbrev pub IsLawfulItem : Item → Type 0
  IsLawfulItem (typed.number_item item width) = IsLawfulNumber item × IfSome width IsLawfulNumber
  IsLawfulItem (typed.char_item item width) = IsLawfulNumber item × IfSome width IsLawfulNumber
  IsLawfulItem (typed.string_item bytes width) = IfSome width IsLawfulNumber

  -- statements, where a function of this type runs, if one does
  module _ (result : Option PasType) where
    abbrev mutual
      pub IsLawfulStatement : Statement → Type 0
      IsLawfulStatement typed.empty = ⊤
      IsLawfulStatement (typed.assigns place right) =
          IsLawfulPlace place × IsLawfulValue right × Takes program.types (type_of_place place) (type_of right)
      IsLawfulStatement (typed.sets_result cell type right) =
          (cell ≡ length variables) × (result ≡ Some type) × IsLawfulNumber right
      IsLawfulStatement (typed.calls routine passed) =
          (heading : Heading) × (slice_get program.headings routine ≡ Some heading)
          × ArePassed passed heading.parameters
      IsLawfulStatement (typed.compound list) = AreLawful list
      IsLawfulStatement (typed.if_then test s) = IsLawfulNumber test × IsLawfulStatement s
      IsLawfulStatement (typed.if_else test s t) = IsLawfulNumber test × IsLawfulStatement s × IsLawfulStatement t
      IsLawfulStatement (typed.case selector arms) = IsLawfulNumber selector × AreLawfulArms arms
      IsLawfulStatement (typed.case_others selector arms s) =
          IsLawfulNumber selector × AreLawfulArms arms × IsLawfulStatement s
      IsLawfulStatement (typed.while test list) = IsLawfulNumber test × AreLawful list
      IsLawfulStatement (typed.repeat list test) = AreLawful list × IsLawfulNumber test
      IsLawfulStatement (typed.for slot way first last list) =
          IsLawfulSlot slot × IsOrdinal program.types slot.type × IsLawfulNumber first × IsLawfulNumber last
          × AreLawful list
      IsLawfulStatement (typed.goto label) = ⊤
      IsLawfulStatement (typed.goto_last status) = ⊤
      IsLawfulStatement (typed.file_step step place) = IsLawfulFile place
      IsLawfulStatement (typed.reads place places) = IsLawfulFile place × All IsLawfulTarget places
      IsLawfulStatement (typed.reads_line place places) = IsLawfulFile place × All IsLawfulTarget places
      IsLawfulStatement (typed.writes place written) = IsLawfulFile place × All IsLawfulItem written
      IsLawfulStatement (typed.writes_line place written) = IsLawfulFile place × All IsLawfulItem written
      IsLawfulStatement (typed.writes_bytes place written) = IsLawfulFile place × All IsLawfulNumber written
      IsLawfulStatement (typed.halts status) = IsLawfulNumber status

      pub AreLawful : Statements → Type 0
      AreLawful typed.no_statements = ⊤
      AreLawful (typed.item label s list) = IsLawfulStatement s × AreLawful list

      pub AreLawfulArms : Arms → Type 0
      AreLawfulArms typed.no_arms = ⊤
      AreLawfulArms (typed.arm values s arms) = IsLawfulStatement s × AreLawfulArms arms

-- variables that are no parameters
abbrev pub AreDeclared : List Variable → Type 0
AreDeclared variables = All (λ variable. variable.mode ≡ typed.declared) variables

-- the body of a routine: its variables are the parameters of its heading, and then those that it declares
pub record IsLawfulBody (program : TypedProgram) (body : Body) : Type 0 where
  pub heading : Heading
  pub there : slice_get program.headings body.routine ≡ Some heading
  pub others : List Variable
  pub variables : body.variables ≡ heading.parameters ++ others
  pub declared : AreDeclared others
  pub statements : AreLawful program body.variables heading.result body.statements

-- a program: its rows, its globals, the numbers of its files, each once, the results of functions, and for each routine
-- one body
pub record IsLawful (program : TypedProgram) : Type 0 where
  pub types : IsLawfulTable program.types
  pub globals : AreDeclared program.globals
  pub files : All (λ file. IsSomeAnd (slice_get program.globals file) (λ found. IsFile program.types found.type))
      program.files
  pub files_once : IsDistinct ◌==◌ program.files
  pub results : All (λ heading. IfSome heading.result (IsOrdinal program.types)) program.headings
  pub bodies : All (IsLawfulBody program) program.bodies
  pub bodies_once : IsDistinct ◌==◌ (map (λ body. body.routine) program.bodies)
  pub routines : (routine : ℕ) → routine < length program.headings
      → IsSome (find (λ body. body.routine == routine) program.bodies)
  pub statements : AreLawful program [] None program.statements
