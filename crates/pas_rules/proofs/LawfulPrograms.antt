-- The typed program of a program without faults is lawful.
use Rattle.std.proofs.Common.{◌≡◌, refl, sym, ap, subst, ◌∙◌, ℕ, ◌<◌, arith, true, List, [], ◌∷◌, ◌++◌}
use Rattle.std.proofs.Common.{length}
use Rattle.std.proofs.Common.{ap₂, append_assoc, ◌||◌}
use Rattle.std.proofs.lemmas.List.Folds.{list_any-append}
use Rattle.std.proofs.Common.{map, append-nil, Option, Some, None, IfSome}
use Rattle.std.specs.Prelude.{fold, slice_get, filter, flat_map, if◌then◌else◌, Bool}
use Rattle.std.specs.Prelude.{false}
use Rattle.std.specs.Str.{bytes_eq}
use Rattle.std.proofs.lemmas.Option.{none-some, same_Some}
use Rattle.std.proofs.lemmas.List.{length-append, length-map}
use Rattle.std.proofs.lemmas.List.Elements.{All-from_recursion}
use Rattle.wb_base.specs.declared.faults.TheConstants.{UNKNOWN_NAME}
use Rattle.pas_tokens.specs.declared.kinds.Kind.TheVariants as k
use Rattle.pas_tokens.specs.Cutting.{Wrong, wrong}
use Rattle.pas_syntax.specs.Tree.{Program, Rows, VariableRow}
use Rattle.pas_syntax.specs.Words.{Word, program_words, program_parameters_words, labels_words, rows_words}
use Rattle.pas_syntax.specs.Words.{constant_row_words, type_row_words, variable_row_words, routine_words, words_if}
use Rattle.pas_syntax.specs.Words.{compound_words, statements_words, at}
use Rattle.pas_typed.specs.Types.{Table, text, Made}
use Rattle.pas_typed.specs.Typed as typed
use Rattle.pas_typed.specs.Typed.{Variable, Heading, Body, Statements, TypedProgram}
use Rattle.pas_typed.specs.Lawful as typed_law
use Rattle.pas_typed.specs.Lawful.{IsLawful, IsLawfulBody, IsOrdinal}
use Rattle.pas_typed.proofs.GrowthLemmas.{Grows, list_stays}
use Rattle.pas_rules.specs.Marks.{Marks, quiet, shows, first_of, at_first, followed, joined, Judged, both}
use Rattle.pas_rules.specs.Marks.{first_fault}
use Rattle.pas_rules.specs.Scopes.{KnownRoutine, Outer, contains, standard_names, spellings_of}
use Rattle.pas_rules.specs.TypeForms.{form_of}
use Rattle.pas_rules.specs.Labels.{labels_of_list}
use Rattle.pas_rules.specs.Declarations as declared
use Rattle.pas_rules.specs.Declarations.{Stage, program_scopes, label_marks, rows_of, constant_row, type_row}
use Rattle.pas_rules.specs.Declarations.{global_row}
use Rattle.pas_rules.specs.Statements.{statements_of}
use Rattle.pas_rules.specs.Routines.{label_missing, RoutineStage, routines_of}
use Rattle.pas_rules.specs.Scopes.{with_name}
use Rattle.pas_rules.specs.Check as spec
use Rattle.pas_rules.specs.Check.{start, checked_of, fault_of, Means}
use Rattle.pas_rules.proofs.CheckLemmas.{program_many}
use Rattle.pas_rules.proofs.CleanLemmas.{Each, each_then, AreStill, IsClean, joined_clean, no_faults, holds}
use Rattle.pas_rules.proofs.HeldWords.{AreHeld, held_before, held_behind}
use Rattle.pas_rules.proofs.LawfulScopes.{so_far, IsLawfulHeading}
use Rattle.pas_rules.proofs.LawfulDeclarations.{IsLawfulOuter, LeavesLawful, rows_leave, constant_row_lawful}
use Rattle.pas_rules.proofs.LawfulDeclarations.{type_row_lawful, global_row_lawful, program_lawful, slots_lawful}
use Rattle.pas_rules.proofs.LawfulDeclarations.{slots_plain, stays_same}
use Rattle.pas_rules.proofs.LinkedGlobals.{IsLinked, new_linked, rows_link, constant_row_links, type_row_links}
use Rattle.pas_rules.proofs.LinkedGlobals.{global_row_links, routines_link, AreFresh}
use Rattle.pas_rules.proofs.LawfulStatements.{statements_lawful}
use Rattle.pas_rules.proofs.LawfulRoutines.{LeavesRoutine, routines_lawful, body_stays}
use Rattle.pas_rules.proofs.BodiedRoutines.{Bodied, LeavesBodied, routines_bodied, bodies_there, all_once}
use Rattle.pas_rules.specs.FileNames.{name_in, HasShortNames}
use Rattle.pas_rules.proofs.ShortNames.{IsShort, program_short}
use Rattle.pas_rules.proofs.LawfulFiles.{IsFileNumber, parameters_lawful, files_lawful, files_once}

-- words without a first fault show none
by_faults : (word : Word) (words : List Word) (faults : List Wrong) (tokens : List (List Wrong))
    → (first_fault words tokens ≡ None → AreStill tokens)
    → first_fault (word ∷ words) (faults ∷ tokens) ≡ None → AreStill (faults ∷ tokens)
by_faults word words [] tokens further none = (refl, further none)
by_faults word words (refusal ∷ more) tokens further none = absurd (none-some _ (sym none))

no_first : (words : List Word) (tokens : List (List Wrong)) → length tokens ≡ length words
    → first_fault words tokens ≡ None → AreStill tokens
no_first [] [] many none = tt
no_first [] (faults ∷ tokens) many none = absurd (omega (arith, many))
no_first (word ∷ words) [] many none = tt
no_first (word ∷ words) (faults ∷ tokens) many none =
    by_faults word words faults tokens (λ rest. no_first words tokens (omega (arith, many)) rest) none

-- parts that end in a word that makes nothing show behind it
record IsEnded (marks : Marks) : Type 0 where
  pub some : 0 < length marks.tokens
  pub behind : marks.behind ≡ []

first_ended : (faults behind : List Wrong) (tokens : List (List Wrong)) → 0 < length tokens → behind ≡ []
    → IsEnded (first_of faults behind tokens)
first_ended faults behind [] some is = absurd (omega (arith, some))
first_ended faults behind (first ∷ more) some is = record { some = omega arith; behind = is }

followed_ended : (part next : Marks) → IsEnded next → IsEnded (followed part next)
followed_ended part next h =
    let first : IsEnded (at_first part.behind next) =
    first_ended part.behind next.behind next.tokens h.some h.behind in
    record {
      some = omega (arith, first.some, length-append part.tokens (at_first part.behind next).tokens);
      behind = first.behind;
    }

last_ended : (parts : List Marks) → IsEnded (joined (parts ++ quiet ∷ []))
last_ended [] = record { some = omega arith; behind = refl }
last_ended (part ∷ parts) = followed_ended part (joined (parts ++ quiet ∷ [])) (last_ended parts)

-- the scope before the declarations
abbrev named_text : List ℕ → Variable
named_text name = record { name = name; mode = typed.declared; type = text }

standard_declared : (found : List (List ℕ))
    → Each (λ (each : Variable). each.mode ≡ typed.declared) (map named_text found)
standard_declared [] = tt
standard_declared (name ∷ found) = (refl, standard_declared found)

start_lawful : (program : Program) → IsLawfulOuter (start program)
start_lawful program =
    let variables : List Variable = (start program).globals in
    record {
      rows = tt;
      names = slots_lawful (so_far (start program)) [] variables [] (sym (append-nil variables));
      clear = slots_plain typed.global 0 variables;
      headings = tt;
      globals =
          standard_declared (filter (contains standard_names) (spec.each_once (spec.parameter_names program)));
    }

text_names : (found : List (List ℕ)) → map (λ (each : Variable). each.name) (map named_text found) ≡ found
text_names [] = refl
text_names (name ∷ found) = ap (λ more. name ∷ more) (text_names found)

-- names of which each comes once
once_by : (taken : List (List ℕ)) (name : List ℕ) (test : Bool) → contains taken name ≡ test → test ≡ false
    → with_name taken name ≡ taken ++ name ∷ []
once_by taken name test is fresh =
    ap (λ there. if there then taken else taken ++ name ∷ []) (is ∙ fresh)

once_same : (taken names : List (List ℕ)) → AreFresh taken names → fold with_name taken names ≡ taken ++ names
once_same taken [] fresh = sym (append-nil taken)
once_same taken (name ∷ names) fresh =
    ap (λ found. fold with_name found names) (once_by taken name (contains taken name) refl fresh.0)
    ∙ (once_same (taken ++ name ∷ []) names fresh.1 ∙ append_assoc taken (name ∷ []) names)

neither : (b c : Bool) → (b || c) ≡ false → (b ≡ false) × (c ≡ false)
neither true c is = absurd (cc)
neither false c is = (refl, is)

without_last : (taken : List (List ℕ)) (last name : List ℕ) → contains (taken ++ last ∷ []) name ≡ false
    → (contains taken name ≡ false) × ((bytes_eq last name || false) ≡ false)
without_last taken last name is =
    neither (contains taken name) (bytes_eq last name || false)
    (sym (list_any-append (λ other. bytes_eq other name) taken (last ∷ [])) ∙ is)

with_last : (taken : List (List ℕ)) (last name : List ℕ) → contains taken name ≡ false
    → (bytes_eq last name || false) ≡ false → contains (taken ++ last ∷ []) name ≡ false
with_last taken last name h k =
    list_any-append (λ other. bytes_eq other name) taken (last ∷ [])
    ∙ ap₂ ◌||◌ h k

fresh_filter : (test : List ℕ → Bool) (taken sub names : List (List ℕ))
    → ((name : List ℕ) → contains taken name ≡ false → contains sub name ≡ false) → AreFresh taken names
    → AreFresh sub (filter test names)
fresh_filter test taken sub [] less fresh = tt
fresh_filter test taken sub (name ∷ names) less fresh =
    by_test (test name)
    (fresh_filter test (taken ++ name ∷ []) (sub ++ name ∷ []) names
    (λ other is. with_last sub name other (less other (without_last taken name other is).0)
    (without_last taken name other is).1) fresh.1)
    (fresh_filter test (taken ++ name ∷ []) sub names
    (λ other is. less other (without_last taken name other is).0) fresh.1)
  where
    by_test : (b : Bool) → AreFresh (sub ++ name ∷ []) (filter test names) → AreFresh sub (filter test names)
        → AreFresh sub (if b then name ∷ filter test names else filter test names)
    by_test true one other = (less name fresh.0, one)
    by_test false one other = other

-- no routine is declared before the routines
no_bodies : (routines : List KnownRoutine) → routines ≡ [] → Bodied routines []
no_bodies routines is = record {
  within = tt;
  once = tt;
  all = λ n found there. absurd (none-some found (subst (λ all. slice_get all n ≡ Some found) is there));
}

more_keep : {A : Type 0} (row : Outer → A → Stage)
    → ((outer : Outer) (found : A) → (row outer found).outer.routines ≡ outer.routines) → (outer : Outer)
    (found : List A) → (declared.more_rows row outer found).outer.routines ≡ outer.routines
more_keep row keeps outer [] = refl
more_keep row keeps outer (first ∷ more) = more_keep row keeps (row outer first).outer more ∙ keeps outer first

rows_keep : {A : Type 0} (row : Outer → A → Stage)
    → ((outer : Outer) (found : A) → (row outer found).outer.routines ≡ outer.routines) → (outer : Outer)
    (rows : Option (Rows A)) → (rows_of row outer rows).outer.routines ≡ outer.routines
rows_keep row keeps outer None = refl
rows_keep row keeps outer (Some rows) = more_keep row keeps outer (rows.first ∷ rows.more)

globals_keep : (outer : Outer) (spellings : List (List ℕ)) (value : Option Made)
    → (declared.with_globals spellings value outer).routines ≡ outer.routines
globals_keep outer spellings None = refl
globals_keep outer spellings (Some found) = refl

global_row_keeps : (outer : Outer) (found : VariableRow) → (global_row outer found).outer.routines ≡ outer.routines
global_row_keeps outer found =
    globals_keep outer (spellings_of found.names) (form_of (program_scopes outer) outer.types found.form).value

all_results : (table : Table) (routines : List KnownRoutine)
    → Each (λ found. IsLawfulHeading table found.heading) routines
    → Each (λ heading. IfSome heading.result (IsOrdinal table)) (map (λ found. found.heading) routines)
all_results table [] h = tt
all_results table (found ∷ routines) h = (h.0.result, all_results table routines h.1)

some_of : {A B C : Type 0} (make : A → B → C) (one : Option A) (other : Option B) (made : C)
    → both make one other ≡ Some made → (first : A) × (second : B) × (one ≡ Some first) × (other ≡ Some second)
    × (make first second ≡ made)
some_of make None None made is = absurd (none-some made is)
some_of make None (Some other) made is = absurd (none-some made is)
some_of make (Some one) None made is = absurd (none-some made is)
some_of make (Some one) (Some other) made is = (one, other, refl, refl, same_Some (make one other) made is)

at_some : {A : Type 0} {value : Option A} (P : A → Type 0) (found : A) → value ≡ Some found → IfSome value P → P found
at_some P found is h = subst (λ one. IfSome one P) is h

-- the parts of a program
module _ (program : Program) (held : AreHeld (program_words program)) where
  abbrev constants : Stage
  constants = rows_of constant_row (start program) program.constants

  abbrev types : Stage
  types = rows_of type_row constants.outer program.types

  abbrev variables : Stage
  variables = rows_of global_row types.outer program.variables

  abbrev routines : RoutineStage
  routines = routines_of variables.outer program.routines

  abbrev outer : Outer
  outer = routines.outer

  abbrev list : Judged Statements
  list = statements_of (program_scopes outer) (labels_of_list program.body.list) [] program.body.list

  abbrev front : List Marks
  front = quiet ∷ quiet ∷ spec.parameter_marks outer program.parameters ∷ quiet ∷ label_marks program.labels
      ∷ constants.marks ∷ types.marks ∷ variables.marks ∷ routines.marks ∷ quiet ∷ list.marks
      ∷ shows (spec.body_missing outer.routines ++ label_missing outer.labels program.body) ∷ quiet ∷ []

  abbrev parts : List Marks
  parts = front ++ quiet ∷ []

  pub all_clean : fault_of program ≡ None → Each IsClean parts
  unfolding checked_of
  all_clean none =
      joined_clean parts (record {
        still = no_first (program_words program) (checked_of program).marks.tokens (program_many program).same none;
        behind = (last_ended front).behind;
      })

  -- the words of each part, and those behind it
  abbrev Constants : List Word
  Constants = words_if (rows_words k.Const constant_row_words) program.constants

  abbrev Types : List Word
  Types = words_if (rows_words k.Type type_row_words) program.types

  abbrev Variables : List Word
  Variables = words_if (rows_words k.Var variable_row_words) program.variables

  abbrev Routines : List Word
  Routines = flat_map routine_words program.routines

  abbrev Last : List Word
  Last = compound_words program.body ++ at 0 k.Dot program.dot ∷ (at 0 k.EndOfText program.end ∷ [])

  held_declarations : AreHeld (words_if labels_words program.labels
      ++ (Constants ++ (Types ++ (Variables ++ (Routines ++ Last)))))
  unfolding program_words
  held_declarations = (held_behind (words_if program_parameters_words program.parameters) _ held.1.1).1

  held_constants : AreHeld (Constants ++ (Types ++ (Variables ++ (Routines ++ Last))))
  held_constants = held_behind (words_if labels_words program.labels) _ held_declarations

  held_types : AreHeld (Types ++ (Variables ++ (Routines ++ Last)))
  held_types = held_behind Constants _ held_constants

  held_variables : AreHeld (Variables ++ (Routines ++ Last))
  held_variables = held_behind Types _ held_types

  held_routines : AreHeld (Routines ++ Last)
  held_routines = held_behind Variables _ held_variables

  held_body : AreHeld (statements_words 1 program.body.list)
  held_body =
      held_before (statements_words 1 program.body.list) _
      (held_before (compound_words program.body) _ (held_behind Routines Last held_routines)).1

  -- a program without a first fault
  module _ (none : fault_of program ≡ None) where
    clean : Each IsClean parts
    clean = all_clean none

    leaves_constants : LeavesLawful (start program) constants
    leaves_constants =
        rows_leave constant_row_words constant_row constant_row_lawful k.Const (start program) program.constants
        (start_lawful program) (held_before Constants _ held_constants) clean.1.1.1.1.1.0

    leaves_types : LeavesLawful constants.outer types
    leaves_types =
        rows_leave type_row_words type_row type_row_lawful k.Type constants.outer program.types leaves_constants.lawful
        (held_before Types _ held_types) clean.1.1.1.1.1.1.0

    leaves_variables : LeavesLawful types.outer variables
    leaves_variables =
        rows_leave variable_row_words global_row global_row_lawful k.Var types.outer program.variables
        leaves_types.lawful (held_before Variables _ held_variables) clean.1.1.1.1.1.1.1.0

    leaves_routines : LeavesRoutine variables.outer routines
    leaves_routines =
        routines_lawful variables.outer program.routines leaves_variables.lawful
        (held_before (flat_map routine_words program.routines) _ held_routines) clean.1.1.1.1.1.1.1.1.0

    -- the parameters, each once
    fresh : AreFresh [] (spec.parameter_names program)
    fresh = (parameters_lawful outer program.parameters clean.1.1.0).0

    start_linked : IsLinked (start program)
    start_linked =
        let found : List (List ℕ) = filter (contains standard_names) (spec.each_once (spec.parameter_names program)) in
        new_linked [] 0 (start program).globals
        (subst (AreFresh []) (sym (text_names found))
        (fresh_filter (contains standard_names) [] [] (spec.each_once (spec.parameter_names program))
        (λ name is. is)
        (subst (AreFresh []) (sym (once_same [] (spec.parameter_names program) fresh)) fresh)))

    linked : IsLinked outer
    linked =
        routines_link variables.outer program.routines
        (rows_link variable_row_words global_row global_row_lawful global_row_links k.Var types.outer program.variables
        leaves_types.lawful (held_before Variables _ held_variables) clean.1.1.1.1.1.1.1.0
        (rows_link type_row_words type_row type_row_lawful type_row_links k.Type constants.outer program.types
        leaves_constants.lawful (held_before Types _ held_types) clean.1.1.1.1.1.1.0
        (rows_link constant_row_words constant_row constant_row_lawful constant_row_links k.Const (start program)
        program.constants (start_lawful program) (held_before Constants _ held_constants) clean.1.1.1.1.1.0
        start_linked)))

    bodied : LeavesBodied [] routines
    bodied =
        routines_bodied variables.outer program.routines [] leaves_variables.lawful
        (held_before (flat_map routine_words program.routines) _ held_routines) clean.1.1.1.1.1.1.1.1.0
        (no_bodies variables.outer.routines (rows_keep global_row global_row_keeps types.outer program.variables
        ∙ (rows_keep type_row (λ at found. refl) constants.outer program.types
        ∙ rows_keep constant_row (λ at found. refl) (start program) program.constants)))

    have : spec.have_bodies outer.routines ≡ true
    have =
        holds (spec.have_bodies outer.routines) (wrong UNKNOWN_NAME)
        (no_faults (spec.body_missing outer.routines) (label_missing outer.labels program.body)
        clean.1.1.1.1.1.1.1.1.1.1.1.0.still.0).0

    statements_are : IfSome list.value (typed_law.AreLawful (so_far outer) [] None)
    statements_are =
        statements_lawful (program_scopes outer) (program_lawful outer leaves_routines.lawful) 1
        (labels_of_list program.body.list) [] program.body.list held_body clean.1.1.1.1.1.1.1.1.1.1.0

    abbrev made_of : List Body → Statements → TypedProgram
    made_of bodies statements = record {
      types = outer.types;
      globals = outer.globals;
      files = spec.file_numbers outer.globals (spec.parameter_names program);
      headings = map (λ found. found.heading) outer.routines;
      bodies = bodies;
      labels = outer.labels;
      statements = statements;
    }

    grows_made : (bodies : List Body) (statements : Statements) → Grows (so_far outer) (made_of bodies statements)
    grows_made bodies statements = record {
      types = stays_same outer.types;
      globals = stays_same outer.globals;
      headings = stays_same (so_far outer).headings;
    }

    made_lawful : (bodies : List Body) (statements : Statements) → routines.bodies ≡ Some bodies
        → list.value ≡ Some statements → IsLawful (made_of bodies statements)
    made_lawful bodies statements bodies_is list_is =
        let program_made : TypedProgram = made_of bodies statements in
        let grows : Grows (so_far outer) program_made = grows_made bodies statements in
        let names : List (List ℕ) = spec.parameter_names program in
        let are : Bodied outer.routines (map (λ body. body.routine) bodies) =
        at_some (λ found. Bodied outer.routines (map (λ (body : Body). body.routine) found)) bodies bodies_is bodied in
        record {
          types = leaves_routines.lawful.rows;
          globals = All-from_recursion (λ found. found.mode ≡ typed.declared) outer.globals
              leaves_routines.lawful.globals;
          files = All-from_recursion (λ file. IsFileNumber outer file) program_made.files
              (files_lawful outer names linked (parameters_lawful outer program.parameters clean.1.1.0).1);
          files_once = all_once program_made.files (files_once outer [] names linked fresh);
          results = All-from_recursion (λ heading. IfSome heading.result (IsOrdinal outer.types)) program_made.headings
              (all_results outer.types outer.routines leaves_routines.lawful.headings);
          bodies = All-from_recursion (IsLawfulBody program_made) bodies
              (each_then (IsLawfulBody (so_far outer)) (IsLawfulBody program_made) bodies
              (λ body is. body_stays (so_far outer) program_made body grows is)
              (at_some (Each (IsLawfulBody (so_far outer))) bodies bodies_is leaves_routines.bodies));
          bodies_once = all_once (map (λ body. body.routine) bodies) are.once;
          routines = λ routine less.
              bodies_there outer.routines bodies are have routine
              (omega (arith, less, length-map outer.routines (λ (found : KnownRoutine). found.heading)));
          statements = list_stays (so_far outer) program_made grows [] None statements
              (at_some (typed_law.AreLawful (so_far outer) [] None) statements list_is statements_are);
        }

-- what checking gives for words of a text is lawful
pub means_lawful : (program : Program) → AreHeld (program_words program) → (meaning : TypedProgram)
    → Means program meaning → IsLawful meaning
unfolding checked_of
means_lawful program held meaning means =
    let outer : Outer = (routines program held).outer in
    let found = some_of (λ bodies statements. made_of program held means.0 bodies statements) (routines program
    held).bodies
    (list program held).value meaning means.1 in
    subst IsLawful found.4 (made_lawful program held means.0 found.0 found.1 found.2 found.3)

-- and its files have short names
pub means_short : (program : Program) → AreHeld (program_words program) → (meaning : TypedProgram)
    → Means program meaning → HasShortNames meaning
unfolding checked_of
means_short program held meaning means =
    let outer : Outer = (routines program held).outer in
    let found = some_of (λ bodies statements. made_of program held means.0 bodies statements) (routines program
    held).bodies
    (list program held).value meaning means.1 in
    subst HasShortNames found.4 (All-from_recursion (λ number. IsShort (name_in outer.globals number))
    (spec.file_numbers outer.globals (spec.parameter_names program)) (program_short program outer.globals held))
