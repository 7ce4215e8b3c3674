-- What checking a program gives: its typed program, or the first fault of its rules in the order of the text (ISO 7185,
-- 6.10, in this project's profile).
use Rattle.std.specs.Prelude.{◌≡◌, ℕ, ◌&&◌, Bool, true, false, not, List, [], ◌∷◌, ◌++◌, map, filter, fold}
use Rattle.std.specs.Prelude.{Option, Some, None, option_to_list, flat_map, position}
use Rattle.std.specs.Str.{bytes_eq}
use Rattle.wb_base.specs.declared.faults.Fault.{Fault}
use Rattle.wb_base.specs.declared.faults.TheConstants.{UNKNOWN_NAME, DUPLICATE_NAME, FILE_RULE}
use Rattle.pas_tokens.specs.Cutting.{Wrong, wrong}
use Rattle.pas_syntax.specs.Tree.{Ident, ProgramParameters, Program}
use Rattle.pas_syntax.specs.Words.{program_words}
use Rattle.pas_rules.specs.Marks.{Marks, no_token, quiet, shows, joined, listed, unless, first_fault, both}
use Rattle.pas_typed.specs.Types.{text, Table}
use Rattle.pas_typed.specs.Typed.{declared, Variable, global, TypedProgram}
use Rattle.pas_rules.specs.Scopes.{Entity, variable, KnownRoutine, Outer, standard_names, contains, idents_of}
use Rattle.pas_rules.specs.Scopes.{entity_in}
use Rattle.pas_rules.specs.Scopes.{with_name}
use Rattle.pas_rules.specs.Labels.{labels_of_list, label_at_end}
use Rattle.pas_rules.specs.Statements.{statements_of}
use Rattle.pas_rules.specs.Declarations.{declared_labels, label_marks, program_scopes, rows_of, constant_row, type_row}
use Rattle.pas_rules.specs.Declarations.{global_row, named_slots}
use Rattle.pas_rules.specs.Routines.{label_missing, routines_of}
use Rattle.pas_typed.specs.Types.{is_lawful_file}

-- the names of the program's parameters
abbrev pub parameter_idents : Option ProgramParameters → List Ident
parameter_idents None = []
parameter_idents (Some parameters) = idents_of parameters.names

abbrev pub parameter_names : Program → List (List ℕ)
parameter_names program = map (λ ident. ident.name) (parameter_idents program.parameters)

-- names, each once
abbrev pub each_once : List (List ℕ) → List (List ℕ)
each_once found = fold with_name [] found

-- `input` and `output` are text files where they are parameters
abbrev pub standard_variables : List (List ℕ) → List Variable
standard_variables parameters =
    map (λ name. record { name = name; mode = declared; type = text }) (filter (contains standard_names) parameters)

-- the scope of a program before its declarations
abbrev pub start : Program → Outer
start program =
    let parameters = each_once (parameter_names program) in
    let variables = standard_variables parameters in
    record {
      parameters = parameters;
      labels = declared_labels program.labels;
      last_label = label_at_end program.body.list;
      types = [];
      names = named_slots global 0 variables;
      globals = variables;
      routines = [];
    }

-- each parameter of a program is a variable of a lawful file type in its scope
abbrev pub is_file_variable : Table → Entity → Bool
is_file_variable table (variable slot) = is_lawful_file table slot.type
is_file_variable table entity = false

abbrev pub parameter_faults : Table → Option Entity → List Wrong
parameter_faults table None = wrong UNKNOWN_NAME ∷ []
parameter_faults table (Some entity) = unless (is_file_variable table entity) (wrong FILE_RULE)

abbrev pub each_parameter : Outer → List (List ℕ) → List Ident → List Marks
each_parameter outer before [] = []
each_parameter outer before (ident ∷ idents) =
    shows (unless (not (contains before ident.name)) (wrong DUPLICATE_NAME)
    ++ parameter_faults outer.types (entity_in outer.names ident.name))
    ∷ each_parameter outer (before ++ ident.name ∷ []) idents

abbrev pub parameter_marks : Outer → Option ProgramParameters → Marks
parameter_marks outer None = no_token
parameter_marks outer (Some parameters) =
    joined (quiet ∷ listed (each_parameter outer [] (idents_of parameters.names)) ∷ quiet ∷ [])

-- each forward heading has its body
abbrev pub have_bodies : List KnownRoutine → Bool
have_bodies [] = true
have_bodies (found ∷ routines) = not found.awaits_body && have_bodies routines

abbrev pub body_missing : List KnownRoutine → List Wrong
body_missing routines = unless (have_bodies routines) (wrong UNKNOWN_NAME)

-- the numbers of the globals that are the parameters
abbrev pub file_numbers : List Variable → List (List ℕ) → List ℕ
file_numbers globals parameters =
    flat_map (λ name. option_to_list (position (λ found. bytes_eq found.name name) globals)) parameters

-- what a program shows at its tokens, and what it means if they show no fault
pub record Checked : Type 0 where
  pub marks : Marks
  pub meaning : Option TypedProgram

unfoldable pub checked_of : Program → Checked
checked_of program =
    let constants = rows_of constant_row (start program) program.constants in
    let types = rows_of type_row constants.outer program.types in
    let variables = rows_of global_row types.outer program.variables in
    let routines = routines_of variables.outer program.routines in
    let outer = routines.outer in
    let list = statements_of (program_scopes outer) (labels_of_list program.body.list) [] program.body.list in
    record {
      marks = joined (quiet ∷ quiet ∷ parameter_marks outer program.parameters ∷ quiet ∷ label_marks program.labels
          ∷ constants.marks ∷ types.marks ∷ variables.marks ∷ routines.marks ∷ quiet ∷ list.marks
          ∷ shows (body_missing outer.routines ++ label_missing outer.labels program.body) ∷ quiet ∷ quiet ∷ []);
      meaning = both (λ bodies statements. record {
        types = outer.types;
        globals = outer.globals;
        files = file_numbers outer.globals (parameter_names program);
        headings = map (λ found. found.heading) outer.routines;
        bodies = bodies;
        labels = outer.labels;
        statements = statements;
      }) routines.bodies list.value;
    }

-- the first fault of a program
abbrev pub fault_of : Program → Option Fault
fault_of program = first_fault (program_words program) (checked_of program).marks.tokens

-- what checking a program gives: it means this, or has this fault
abbrev pub Means : Program → TypedProgram → Type 0
Means program meaning = (fault_of program ≡ None) × ((checked_of program).meaning ≡ Some meaning)

abbrev pub IsFaultOf : Program → Fault → Type 0
IsFaultOf program fault = fault_of program ≡ Some fault
