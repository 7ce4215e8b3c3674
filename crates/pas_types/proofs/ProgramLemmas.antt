-- A whole program: what its parts show, one behind another.
use Rattle.std.proofs.Common.{◌≡◌, refl, ap, ◌∙◌, false, List, [], ◌∷◌, ◌++◌, Option, Some, None}
use Rattle.std.specs.Prelude.{flat_map}
use Rattle.wb_base.specs.declared.faults.Fault.{Fault}
use Rattle.pas_tokens.specs.Cutting.{Wrong}
use Rattle.pas_tokens.specs.declared.kinds.Kind.TheVariants as k
use Rattle.pas_syntax.specs.Tree.{Program}
use Rattle.pas_syntax.specs.Words.{Word, at, name_at, words_if, labels_words, rows_words, constant_row_words}
use Rattle.pas_syntax.specs.Words.{type_row_words, variable_row_words, routine_words, program_parameters_words}
use Rattle.pas_syntax.specs.Words.{program_words}
use Rattle.pas_typed.specs.Typed.{Statements}
use Rattle.pas_rules.specs.Marks.{Marks, quiet, followed, Judged, first_fault}
use Rattle.pas_rules.specs.Labels.{labels_of_list, labels_in_list}
use Rattle.pas_rules.specs.Statements.{statements_of}
use Rattle.pas_rules.specs.Declarations.{label_marks, program_scopes, Stage, rows_of, constant_row, type_row}
use Rattle.pas_rules.specs.Declarations.{global_row}
use Rattle.pas_rules.specs.Routines.{RoutineStage, routines_of, all_stand}
use Rattle.pas_rules.specs.Check.{start, parameter_marks, have_bodies, checked_of, fault_of}
use Rattle.pas_scopes.specs.Ends.{AreQuiet}
use Rattle.pas_scopes.specs.Answers.{IsQuiet, Shows}
use Rattle.pas_scopes.specs.DeclaredSoFar.{Notes}
use Rattle.pas_types.specs.inner.Checking.{main_words, main_part}
use Rattle.pas_rules.proofs.AsMany.{AsMany, and_then, next_word}
use Rattle.pas_rules.proofs.StatementsAsMany.{statements_many}
use Rattle.pas_rules.proofs.DeclarationsAsMany.{labels_many, rows_many, constant_row_many, type_row_many}
use Rattle.pas_rules.proofs.DeclarationsAsMany.{global_row_many}
use Rattle.pas_rules.proofs.RoutinesAsMany.{routines_many}
use Rattle.pas_scopes.proofs.SettleLemmas.{quiet_behind, quiet_word, shows_front, shows_behind}
use Rattle.pas_scopes.proofs.DeclaredLemmas.{notes_behind}
use Rattle.pas_types.proofs.MainLemmas.{main_many}

module _ (program : Program) where
  abbrev constants : Stage
  constants = rows_of constant_row (start program) program.constants

  abbrev types : Stage
  types = rows_of type_row constants.outer program.types

  abbrev variables : Stage
  variables = rows_of global_row types.outer program.variables

  abbrev pub routines : RoutineStage
  routines = routines_of variables.outer program.routines

  abbrev pub list : Judged Statements
  list =
      statements_of (program_scopes routines.outer) (labels_of_list program.body.list) [] program.body.list

  abbrev pub main : Judged Statements
  main =
      main_part (have_bodies routines.outer.routines)
      (all_stand (labels_in_list program.body.list) routines.outer.labels) list

  abbrev pub at_main : List Word
  at_main = main_words program.body program.dot program.end

  -- the words from each part on, and what they show
  abbrev at_routines : List Word
  at_routines = flat_map routine_words program.routines ++ at_main

  abbrev at_variables : List Word
  at_variables = words_if (rows_words k.Var variable_row_words) program.variables ++ at_routines

  abbrev at_types : List Word
  at_types = words_if (rows_words k.Type type_row_words) program.types ++ at_variables

  abbrev at_constants : List Word
  at_constants = words_if (rows_words k.Const constant_row_words) program.constants ++ at_types

  abbrev pub at_labels : List Word
  at_labels = words_if labels_words program.labels ++ at_constants

  abbrev from_routines : Marks
  from_routines = followed routines.marks main.marks

  abbrev from_variables : Marks
  from_variables = followed variables.marks from_routines

  abbrev from_types : Marks
  from_types = followed types.marks from_variables

  abbrev from_constants : Marks
  from_constants = followed constants.marks from_types

  abbrev pub from_labels : Marks
  from_labels = followed (label_marks program.labels) from_constants

  many_main : AsMany at_main main.marks
  many_main =
      main_many program.body program.dot program.end list (have_bodies routines.outer.routines)
      (all_stand (labels_in_list program.body.list) routines.outer.labels)
      (statements_many (program_scopes routines.outer) 1 (labels_of_list program.body.list) [] program.body.list)

  many_routines : AsMany at_routines from_routines
  many_routines = and_then routines.marks main.marks (routines_many variables.outer program.routines) many_main

  many_variables : AsMany at_variables from_variables
  many_variables =
      and_then variables.marks from_routines
      (rows_many k.Var variable_row_words global_row global_row_many types.outer program.variables) many_routines

  many_types : AsMany at_types from_types
  many_types =
      and_then types.marks from_variables
      (rows_many k.Type type_row_words type_row type_row_many constants.outer program.types) many_variables

  many_constants : AsMany at_constants from_constants
  many_constants =
      and_then constants.marks from_types
      (rows_many k.Const constant_row_words constant_row constant_row_many (start program) program.constants)
      many_types

  -- what is noted behind each part
  pub noted_all : (a b c d e f : Option Fault)
      → Notes (words_if labels_words program.labels) (label_marks program.labels) None a
      → Notes (words_if (rows_words k.Const constant_row_words) program.constants) constants.marks a b
      → Notes (words_if (rows_words k.Type type_row_words) program.types) types.marks b c
      → Notes (words_if (rows_words k.Var variable_row_words) program.variables) variables.marks c d
      → Notes (flat_map routine_words program.routines) routines.marks d e
      → Notes at_main main.marks e f → Notes at_labels from_labels None f
  noted_all a b c d e f labels_note constants_note types_note variables_note routines_note main_note =
      notes_behind (words_if labels_words program.labels) at_constants (label_marks program.labels) from_constants
      many_constants None a f labels_note
      (notes_behind (words_if (rows_words k.Const constant_row_words) program.constants) at_types constants.marks
      from_types many_types a b f constants_note
      (notes_behind (words_if (rows_words k.Type type_row_words) program.types) at_variables types.marks
      from_variables many_variables b c f types_note
      (notes_behind (words_if (rows_words k.Var variable_row_words) program.variables) at_routines variables.marks
      from_routines many_routines c d f variables_note
      (notes_behind (flat_map routine_words program.routines) at_main routines.marks main.marks many_main d e f
      routines_note main_note))))

  -- behind the heading
  abbrev head_words : List Word
  head_words = words_if program_parameters_words program.parameters

  abbrev head_marks : Marks
  head_marks = parameter_marks routines.outer program.parameters

  abbrev after_head : List Word
  after_head = at 0 k.Semicolon program.behind_heading ∷ at_labels

  abbrev from_head : Marks
  from_head = followed quiet from_labels

  abbrev all_words : List Word
  all_words = at 0 k.Program program.line ∷ (name_at 0 program.name ∷ (head_words ++ after_head))

  abbrev all_marks : Marks
  all_marks = followed quiet (followed quiet (followed head_marks from_head))

  many_labels : AsMany (words_if labels_words program.labels) (label_marks program.labels)
      → AsMany after_head from_head
  many_labels labels =
      next_word (at 0 k.Semicolon program.behind_heading) [] from_labels
      (and_then (label_marks program.labels) from_constants labels many_constants)

  in_front : (P : List Word → Marks → Type 0)
      → ((words : List Word) (marks : Marks) (word : Word) → P words marks → P (word ∷ words) (followed quiet marks))
      → P (head_words ++ after_head) (followed head_marks from_head) → P all_words all_marks
  in_front P step h =
      step (name_at 0 program.name ∷ (head_words ++ after_head))
      (followed quiet (followed head_marks from_head)) (at 0 k.Program program.line)
      (step (head_words ++ after_head) (followed head_marks from_head) (name_at 0 program.name) h)

  whole_quiet : IsQuiet head_words head_marks false → IsQuiet at_labels from_labels false
      → IsQuiet all_words all_marks false
  whole_quiet h rest =
      in_front (λ words marks. IsQuiet words marks false)
      (λ words marks word still. quiet_behind (word ∷ []) words quiet marks false (quiet_word word) still)
      (quiet_behind head_words after_head head_marks from_head false h
      (quiet_behind (at 0 k.Semicolon program.behind_heading ∷ []) at_labels quiet from_labels false
      (quiet_word (at 0 k.Semicolon program.behind_heading)) rest))

  whole_shows : (fault : Fault) → IsQuiet head_words head_marks false → Shows at_labels from_labels fault
      → Shows all_words all_marks fault
  whole_shows fault h rest =
      in_front (λ words marks. Shows words marks fault)
      (λ words marks word shown. shows_behind (word ∷ []) words quiet marks fault (quiet_word word) shown)
      (shows_behind head_words after_head head_marks from_head fault h
      (shows_behind (at 0 k.Semicolon program.behind_heading ∷ []) at_labels quiet from_labels fault
      (quiet_word (at 0 k.Semicolon program.behind_heading)) rest))

  head_shows : (fault : Fault) → AsMany (words_if labels_words program.labels) (label_marks program.labels)
      → Shows head_words head_marks fault → Shows all_words all_marks fault
  head_shows fault labels h =
      in_front (λ words marks. Shows words marks fault)
      (λ words marks word shown. shows_behind (word ∷ []) words quiet marks fault (quiet_word word) shown)
      (shows_front head_words after_head head_marks from_head fault (many_labels labels) h)

-- the first fault of a program
quiet_none : (words : List Word) (tokens : List (List Wrong)) → AreQuiet words tokens → first_fault words tokens ≡ None
quiet_none [] [] h = refl
quiet_none [] (faults ∷ tokens) h = absurd h
quiet_none (word ∷ words) [] h = absurd h
quiet_none (word ∷ words) (faults ∷ tokens) h =
    ap (λ (found : List Wrong). first_fault (word ∷ words) (found ∷ tokens)) h.0 ∙ quiet_none words tokens h.1

module _ (program : Program) where
  none_by : IsQuiet (all_words program) (all_marks program) false → fault_of program ≡ None
  unfolding checked_of program_words
  none_by h = quiet_none (all_words program) (all_marks program).tokens h.still

  fault_by : (fault : Fault) → Shows (all_words program) (all_marks program) fault → fault_of program ≡ Some fault
  unfolding checked_of program_words
  fault_by fault h = h.first

  pub no_fault : IsQuiet (head_words program) (head_marks program) false
      → Notes (at_labels program) (from_labels program) None None → fault_of program ≡ None
  no_fault head rest = none_by (whole_quiet program head rest)

  pub later_fault : (fault : Fault) → IsQuiet (head_words program) (head_marks program) false
      → Notes (at_labels program) (from_labels program) None (Some fault) → fault_of program ≡ Some fault
  later_fault fault head rest = fault_by fault (whole_shows program fault head rest)

  pub head_fault : (fault : Fault) → Shows (head_words program) (head_marks program) fault
      → fault_of program ≡ Some fault
  head_fault fault h = fault_by fault (head_shows program fault (labels_many program.labels) h)
