-- The declarations of a program, one part behind another.
use Rattle.std.proofs.Common.{◌≡◌, ◌≢◌, refl, sym, ap, subst, ◌∙◌, ℕ, false, List, [], ◌∷◌, ◌++◌, map}
use Rattle.std.proofs.Common.{Option, Some, None, Result, Ok, Err}
use Rattle.std.specs.Prelude.{flat_map, not, IfOk}
use Rattle.wb_base.specs.declared.faults.TheConstants.{DUPLICATE_NAME}
use Rattle.pas_tokens.specs.Cutting.{Wrong, wrong}
use Rattle.wb_base.specs.declared.faults.Fault.{Fault}
use Rattle.pas_tokens.specs.declared.kinds.Kind.TheVariants as k
use Rattle.pas_syntax.specs.declared.tree.ConstantRow.{ConstantRow as CodeConstantRow}
use Rattle.pas_syntax.specs.declared.tree.TypeRow.{TypeRow as CodeTypeRow}
use Rattle.pas_syntax.specs.declared.tree.VariableRow.{VariableRow as CodeVariableRow}
use Rattle.pas_syntax.specs.declared.tree.Routine.{Routine as CodeRoutine}
use Rattle.pas_syntax.specs.declared.tree.Rows.{Rows as CodeRows}
use Rattle.pas_syntax.specs.declared.tree.ProgramTree.{ProgramTree}
use Rattle.pas_syntax.specs.Tree.{Ident, Labels, ProgramParameters, Program}
use Rattle.pas_syntax.specs.Views.{if_there}
use Rattle.pas_syntax.specs.ProgramViews.{rows_in, constant_row_in, type_row_in, variable_row_in, routine_in}
use Rattle.pas_syntax.specs.ProgramViews.{program_in}
use Rattle.pas_syntax.specs.Words.{Word, words_if, labels_words, rows_words, constant_row_words, type_row_words, variable_row_words}
use Rattle.pas_syntax.specs.Words.{routine_words, program_parameters_words}
use Rattle.pas_typed.specs.declared.typed.Body.{Body as CodeBody}
use Rattle.pas_typed.specs.declared.typed.Labelled as code_labelled
use Rattle.pas_typed.specs.declared.typed.TypedProgram.{TypedProgram as CodeProgram}
use Rattle.pas_typed.specs.Typed.{Body, Statements, TypedProgram}
use Rattle.pas_typed.specs.TypedViews.{heading_view, body_view, statements_view, program_view}
use Rattle.pas_scopes.specs.declared.scopes.Scopes.{Scopes as CodeScopes}
use Rattle.pas_scopes.specs.declared.scopes.KnownRoutine.{KnownRoutine as CodeKnown}
use Rattle.pas_scopes.specs.declared.stop.Stop.{Stop}
use Rattle.pas_scopes.specs.declared.stop.Stop.TheVariants as stop
use Rattle.pas_rules.specs.Marks.{Marks, quiet, shows, joined, listed, unless, both}
use Rattle.pas_rules.specs.Scopes.{Outer, Scopes, contains, idents_of, entity_in}
use Rattle.pas_rules.specs.Labels.{labels_of_list, labels_in_list}
use Rattle.pas_rules.specs.Statements.{statements_of}
use Rattle.pas_rules.specs.Declarations.{declared_labels, label_marks, rows_of, constant_row, type_row, global_row}
use Rattle.pas_rules.specs.Declarations.{program_scopes}
use Rattle.pas_rules.specs.Routines.{routines_of, all_stand}
use Rattle.pas_rules.specs.Check.{start, parameter_faults, each_parameter, parameter_marks, have_bodies}
use Rattle.pas_rules.specs.Check.{file_numbers, parameter_names, checked_of, Means}
use Rattle.pas_scopes.specs.ScopeViews.{routine_view, outer_view, scopes_view, IsClear}
use Rattle.pas_scopes.specs.Answers.{IsQuiet, FailsBy}
use Rattle.pas_scopes.specs.DeclaredSoFar.{first_noted, IsDeclared, Notes, Declares}
use Rattle.pas_types.specs.inner.LabelViews.{Known, numbers_of, known_labels}
use Rattle.pas_types.specs.inner.RoutineAnswers.{GoesThrough, ServesAs, IsBehind}
use Rattle.pas_types.specs.inner.Checking.{main_part, IsWhole, IsHeading}
use Rattle.pas_types.specs.inner.Programs.{LabelsIf, GoesOver, routines_stage, ComesTo, FaultBy, not_noted}
use Rattle.pas_types.specs.inner.Programs.{constants_stage, types_stage, variables_stage, IsFaultless, IsFaultlessBy}
use Rattle.pas_types.specs.inner.Programs.{Checks}
use Rattle.pas_scopes.proofs.ConstantRowLemmas.{view_is, alike_of}
use Rattle.pas_types.proofs.LabelRules.{numbers_known}
use Rattle.pas_types.proofs.ProgramLemmas.{main, at_main, at_labels, from_labels, noted_all, no_fault, later_fault}
use Rattle.pas_types.proofs.ProgramLemmas.{head_fault}

-- the labels
pub labels_if : (part : Option Labels) (found : Known) (noted : Option Fault)
    → found ≡ known_labels (declared_labels part) [] [] → LabelsIf part found noted
labels_if part found None is = is
labels_if part found (Some fault) is = tt

pub fails_noted : (words : List Word) (marks : Marks) (noted : Option Fault) (why : Stop) → why ≢ stop.OutOfMemory
    → FailsBy words marks why → Notes words marks noted (first_noted noted (Err why))
fails_noted words marks (Some fault) why some h = refl
fails_noted words marks None stop.OutOfMemory some h = absurd (some refl)
fails_noted words marks None (stop.Fault fault) some h = h
fails_noted words marks None stop.Missing some h = absurd h

pub fails_if : (words : List Word) (marks : Marks) (part : Option Labels) (found : Known) (noted : Option Fault)
    (why : Stop) → why ≢ stop.OutOfMemory → FailsBy words marks why
    → LabelsIf part found (first_noted noted (Err why))
fails_if words marks part found (Some fault) why some h = tt
fails_if words marks part found None stop.OutOfMemory some h = absurd (some refl)
fails_if words marks part found None (stop.Fault fault) some h = tt
fails_if words marks part found None stop.Missing some h = absurd h

-- where nothing is noted behind words, nothing is before them
none_before : (words : List Word) (marks : Marks) (noted noting : Option Fault) → Notes words marks noted noting
    → noting ≡ None → noted ≡ None
none_before words marks None noting h is = refl
none_before words marks (Some fault) noting h is = sym h ∙ is

-- the parts, by their spellings
module _ (old : CodeScopes) (noted : Option Fault) (new : CodeScopes) (noting : Option Fault) where
  abbrev pub DeclaresConstants : List ℕ → Option (CodeRows CodeConstantRow) → Type 0
  DeclaresConstants spellings part =
      Declares (words_if (rows_words k.Const constant_row_words)
      (if_there (rows_in spellings (constant_row_in spellings)) part))
      (λ outer. rows_of constant_row outer (if_there (rows_in spellings (constant_row_in spellings)) part))
      old noted new noting

  abbrev pub DeclaresTypes : List ℕ → Option (CodeRows CodeTypeRow) → Type 0
  DeclaresTypes spellings part =
      Declares (words_if (rows_words k.Type type_row_words)
      (if_there (rows_in spellings (type_row_in spellings)) part))
      (λ outer. rows_of type_row outer (if_there (rows_in spellings (type_row_in spellings)) part))
      old noted new noting

  abbrev pub DeclaresVariables : List ℕ → Option (CodeRows CodeVariableRow) → Type 0
  DeclaresVariables spellings part =
      Declares (words_if (rows_words k.Var variable_row_words)
      (if_there (rows_in spellings (variable_row_in spellings)) part))
      (λ outer. rows_of global_row outer (if_there (rows_in spellings (variable_row_in spellings)) part))
      old noted new noting

  abbrev pub GoesOverRoutines : List CodeBody → List ℕ → List CodeRoutine → Type 0
  GoesOverRoutines found spellings routines =
      GoesThrough (flat_map routine_words (map (routine_in spellings) routines))
      (λ outer. routines_of outer (map (routine_in spellings) routines)) old noted new noting found

  pub constants_by : (spellings : List ℕ) (part tree : Option (CodeRows CodeConstantRow)) → part ≡ tree
      → DeclaresConstants spellings part → DeclaresConstants spellings tree
  constants_by spellings part tree is h = subst (DeclaresConstants spellings) is h

  pub types_by : (seen spellings : List ℕ) (part tree : Option (CodeRows CodeTypeRow)) → seen ≡ spellings
      → part ≡ tree → DeclaresTypes seen part → DeclaresTypes spellings tree
  types_by seen spellings part tree same is h =
      subst (λ (s : List ℕ). DeclaresTypes s tree) same (subst (DeclaresTypes seen) is h)

  pub variables_by : (seen spellings : List ℕ) (part tree : Option (CodeRows CodeVariableRow)) → seen ≡ spellings
      → part ≡ tree → DeclaresVariables seen part → DeclaresVariables spellings tree
  variables_by seen spellings part tree same is h =
      subst (λ (s : List ℕ). DeclaresVariables s tree) same (subst (DeclaresVariables seen) is h)

  pub routines_by : (found : List CodeBody) (seen spellings : List ℕ) (part tree : List CodeRoutine)
      → seen ≡ spellings → part ≡ tree → GoesOverRoutines found seen part → GoesOverRoutines found spellings tree
  routines_by found seen spellings part tree same is h =
      subst (λ (s : List ℕ). GoesOverRoutines found s tree) same (subst (GoesOverRoutines found seen) is h)

-- all parts
module _ (tree : ProgramTree) (old second third fourth new : CodeScopes) (noted b c d noting : Option Fault)
    (found : List CodeBody) where
  abbrev program : Program
  program = program_in old.spellings.now tree

  abbrev constants_words : List Word
  constants_words = words_if (rows_words k.Const constant_row_words) program.constants

  abbrev types_words : List Word
  types_words = words_if (rows_words k.Type type_row_words) program.types

  abbrev variables_words : List Word
  variables_words = words_if (rows_words k.Var variable_row_words) program.variables

  pub goes_over : IsDeclared (start program) old noted
      → DeclaresConstants old noted second b old.spellings.now tree.declarations.constants
      → DeclaresTypes second b third c old.spellings.now tree.declarations.types
      → DeclaresVariables third c fourth d old.spellings.now tree.declarations.variables
      → ((d ≡ None → noted ≡ None) → GoesOverRoutines fourth d new noting found old.spellings.now
      tree.declarations.routines)
      → fourth.spellings.now ≡ old.spellings.now → new.spellings.now ≡ old.spellings.now → new.labels ≡ old.labels
      → GoesOver program old noted new noting found
  goes_over begun constants types variables routines same spellings labels =
      let at_second = constants.declared (start program) begun in
      let at_third = types.declared (constants_stage program).outer at_second in
      let at_fourth = variables.declared (types_stage program).outer at_third in
      let constants_note = constants.notes (start program) begun in
      let types_note = types.notes (constants_stage program).outer at_second in
      let variables_note = variables.notes (types_stage program).outer at_third in
      let over = routines (λ is. none_before constants_words (constants_stage program).marks noted b constants_note
      (none_before types_words (types_stage program).marks b c types_note
      (none_before variables_words (variables_stage program).marks c d variables_note is))) in
      record {
        behind = over.behind (variables_stage program).outer at_fourth;
        bodies_are = λ none. over.bodies_are (variables_stage program).outer at_fourth none
            ∙ ap (λ (s : List ℕ). Some (map (body_view s) found)) same;
        at_types = b;
        at_variables = c;
        at_routines = d;
        constants_note = constants_note;
        types_note = types_note;
        variables_note = variables_note;
        routines_note = over.notes (variables_stage program).outer at_fourth;
        spellings_are = spellings;
        labels_are = labels;
      }

-- parameters show the same in scopes where each name does
each_serves : (outer other : Outer) → ServesAs outer other → (before : List (List ℕ)) (idents : List Ident)
    → each_parameter outer before idents ≡ each_parameter other before idents
each_serves outer other h before [] = refl
each_serves outer other h before (ident ∷ idents) =
    ap (λ (faults : List Wrong). shows (unless (not (contains before ident.name)) (wrong DUPLICATE_NAME) ++ faults)
    ∷ each_parameter outer (before ++ ident.name ∷ []) idents) (h ident.name)
    ∙ ap (λ (rest : List Marks). shows (unless (not (contains before ident.name)) (wrong DUPLICATE_NAME)
    ++ parameter_faults other.types (entity_in other.names ident.name)) ∷ rest)
    (each_serves outer other h (before ++ ident.name ∷ []) idents)

pub parameters_serve : (outer other : Outer) → ServesAs outer other → (parameters : Option ProgramParameters)
    → parameter_marks outer parameters ≡ parameter_marks other parameters
parameters_serve outer other h None = refl
parameters_serve outer other h (Some parameters) =
    ap (λ (marks : List Marks). joined (quiet ∷ listed marks ∷ quiet ∷ []))
    (each_serves outer other h [] (idents_of parameters.names))

-- behind the declarations
behind_serves : (outer : Outer) (scopes : CodeScopes) (noted : Option Fault) → IsBehind outer scopes noted
    → ServesAs (outer_view scopes) outer
behind_serves outer scopes None h name =
    ap (λ (o : Outer). parameter_faults o.types (entity_in o.names name)) h.outer_is.0
behind_serves outer scopes (Some fault) h name = h name

module _ (program : Program) (scopes : CodeScopes) (noted : Option Fault) (labels : Known)
    (comes : ComesTo program scopes noted labels) where
  same_head : parameter_marks (outer_view scopes) program.parameters
      ≡ parameter_marks (routines_stage program).outer program.parameters
  same_head =
      parameters_serve (outer_view scopes) (routines_stage program).outer
      (behind_serves (routines_stage program).outer scopes noted comes.behind) program.parameters

  -- the parameters show a fault
  head_by : (why : Stop) → FailsBy (words_if program_parameters_words program.parameters)
      (parameter_marks (routines_stage program).outer program.parameters) why → FaultBy program why
  head_by stop.OutOfMemory h = tt
  head_by (stop.Fault fault) h = head_fault program fault h
  head_by stop.Missing h = absurd h

  pub head_stops : (why : Stop) → IsHeading (outer_view scopes) program.parameters (Err why) → FaultBy program why
  head_stops why h =
      head_by why (subst (λ (marks : Marks). FailsBy (words_if program_parameters_words program.parameters) marks why)
      same_head h)

  module _ (head : IsHeading (outer_view scopes) program.parameters (Ok tt)) where
    head_quiet : IsQuiet (words_if program_parameters_words program.parameters)
        (parameter_marks (routines_stage program).outer program.parameters) false
    head_quiet =
        subst (λ (marks : Marks). IsQuiet (words_if program_parameters_words program.parameters) marks false)
        same_head head

    all_notes : (noting : Option Fault) → Notes (at_main program) (main program).marks noted noting
        → Notes (at_labels program) (from_labels program) None noting
    all_notes noting h =
        noted_all program comes.at_constants comes.at_types comes.at_variables comes.at_routines noted noting
        comes.labels_note comes.constants_note comes.types_note comes.variables_note comes.routines_note h

    -- a fault is noted
    noted_by : (found : Option Fault) (why : Stop) → noted ≡ found → Err why ≡ not_noted found → FaultBy program why
    noted_by None why is h = cc
    noted_by (Some fault) why is h =
        subst (FaultBy program) (stop_same h) (later_fault program fault head_quiet (all_notes (Some fault)
        (subst (λ (a : Option Fault). Notes (at_main program) (main program).marks a (Some fault)) (sym is) refl)))
      where
        stop_same : Err why ≡ not_noted (Some fault) → stop.Fault fault ≡ why
        stop_same same = cc

    pub noted_stops : (why : Stop) → Err why ≡ not_noted noted → FaultBy program why
    noted_stops why h = noted_by noted why refl h

    none_by : (found : Option Fault) → Ok tt ≡ not_noted found → found ≡ None
    none_by None h = refl
    none_by (Some fault) h = cc

    -- nothing is noted
    module _ (nothing : Ok tt ≡ not_noted noted) where
      pub nothing_noted : noted ≡ None
      nothing_noted = none_by noted nothing

      declared_whole : IsDeclared (routines_stage program).outer scopes None
      declared_whole =
          subst (IsBehind (routines_stage program).outer scopes) nothing_noted comes.behind

      view_whole : scopes_view scopes ≡ program_scopes (routines_stage program).outer
      view_whole = view_is (routines_stage program).outer scopes declared_whole.alone declared_whole.outer_is.0

      pub clear_whole : IsClear (scopes_view scopes)
      clear_whole = subst IsClear (sym view_whole) declared_whole.outer_is.1

      pub alone_whole : scopes.inner ≡ None
      alone_whole = declared_whole.alone

      pub labels_whole : labels ≡ known_labels scopes.labels [] []
      labels_whole = comes.labels_are nothing_noted

      main_notes : (noting : Option Fault) → Notes (at_main program) (main program).marks None noting
          → Notes (at_labels program) (from_labels program) None noting
      main_notes noting h =
          all_notes noting (subst (λ (a : Option Fault). Notes (at_main program) (main program).marks a noting)
          (sym nothing_noted) h)

      fails_main : (why : Stop) → FailsBy (at_main program) (main program).marks why → FaultBy program why
      fails_main stop.OutOfMemory h = tt
      fails_main (stop.Fault fault) h = later_fault program fault head_quiet (main_notes (Some fault) h)
      fails_main stop.Missing h = absurd h

      whole_by : {X : Type 0} (view : X → Statements) (result : Result X Stop)
          → IsWhole (at_main program) (main program) view result
          → IsFaultlessBy program scopes noted view result
      whole_by view (Ok found) h = record {
        faultless = no_fault program head_quiet (main_notes None h.quiet);
        nothing_noted = nothing_noted;
        outer_is = declared_whole.outer_is.0;
        list_is = h.known;
      }
      whole_by view (Err why) h = fails_main why h

      pub main_whole : {X : Type 0} (view : X → Statements) (result : Result X Stop)
          → IsWhole (at_main program)
          (main_part (have_bodies (scopes_view scopes).outer.routines)
          (all_stand (labels_in_list program.body.list) (scopes_view scopes).outer.labels)
          (statements_of (scopes_view scopes) (labels_of_list program.body.list) [] program.body.list)) view result
          → IsFaultlessBy program scopes noted view result
      main_whole view result h =
          whole_by view result (subst (λ (s : Scopes). IsWhole (at_main program)
          (main_part (have_bodies s.outer.routines)
          (all_stand (labels_in_list program.body.list) s.outer.labels)
          (statements_of s (labels_of_list program.body.list) [] program.body.list)) view result) view_whole h)

-- where a `?` returns early
module _ {X : Type 0} (program : Program) (why : Stop) (result : Result X Stop)
    (is : ((found : Stop) × (result ≡ Err found) × (found ≡ why))) (h : FaultBy program why) where
  pub faultless_stop : (scopes : CodeScopes) (noted : Option Fault) (view : X → Statements)
      → IsFaultlessBy program scopes noted view result
  faultless_stop scopes noted view =
      subst (IsFaultlessBy program scopes noted view) (sym (is.1 ∙ ap Err is.2)) h

  pub checks_stop : (view : X → TypedProgram) → Checks program view result
  checks_stop view = subst (Checks program view) (sym (is.1 ∙ ap Err is.2)) h

pub if_ok : {X E : Type 0} (P Q : X → Type 0) (result : Result X E) → IfOk result P
    → ((found : X) → P found → Q found) → IfOk result Q
if_ok P Q (Ok found) h f = f found h
if_ok P Q (Err why) h f = tt

-- a program from its first declaration on
no_items : {A B : Type 0} (f : A → B) (xs : List A) → map f xs ≡ [] → xs ≡ []
no_items f [] is = refl
no_items f (x ∷ xs) is = cc

module _ (tree : ProgramTree) (spellings : List ℕ) (begun new : CodeScopes) (a noting : Option Fault) (labels : Known)
    (found : List CodeBody) (declared : IsDeclared (start (program_in spellings tree)) begun None)
    (same : begun.spellings.now ≡ spellings) where
  abbrev whole : Program
  whole = program_in spellings tree

  begun_at : (noted : Option Fault) → IsDeclared (start whole) begun noted
  begun_at None = declared
  begun_at (Some fault) = record {
    alone = declared.alone;
    outer_is = alike_of (start whole) begun None declared.outer_is;
    is_counted = declared.is_counted;
  }

  numbers_begun : begun.labels ≡ declared_labels whole.labels
  numbers_begun = ap (λ (o : Outer). o.labels) declared.outer_is.0

  routines_begun : begun.routines.items ≡ []
  routines_begun =
      no_items (routine_view begun.spellings.now) begun.routines.items
      (ap (λ (o : Outer). o.routines) declared.outer_is.0)

  module _ (labels_if_none : LabelsIf whole.labels labels a) where
    labels_begun : a ≡ None → labels ≡ known_labels begun.labels [] []
    labels_begun is =
        subst (LabelsIf whole.labels labels) is labels_if_none
        ∙ ap (λ (numbers : List ℕ). known_labels numbers [] []) (sym numbers_begun)

    numbers_same : a ≡ None → numbers_of labels ≡ begun.labels
    numbers_same is = ap numbers_of (labels_begun is) ∙ numbers_known begun.labels [] []

    abbrev pub GoesFrom : List ℕ → Type 0
    GoesFrom s =
        IsDeclared (start (program_in s tree)) begun a → (a ≡ None → numbers_of labels ≡ begun.labels)
        → begun.routines.items ≡ [] → GoesOver (program_in s tree) begun a new noting found

    pub goes_whole : GoesFrom begun.spellings.now → GoesOver whole begun a new noting found
    goes_whole h = subst GoesFrom same h (begun_at a) numbers_same routines_begun

    pub comes_to : Notes (words_if labels_words whole.labels) (label_marks whole.labels) None a
        → GoesOver whole begun a new noting found → ComesTo whole new noting labels
    comes_to noted h = record {
      behind = h.behind;
      at_constants = a;
      at_types = h.at_types;
      at_variables = h.at_variables;
      at_routines = h.at_routines;
      labels_note = noted;
      constants_note = h.constants_note;
      types_note = h.types_note;
      variables_note = h.variables_note;
      routines_note = h.routines_note;
      labels_are = λ is. labels_begun
          (none_before (words_if (rows_words k.Const constant_row_words) whole.constants)
          (constants_stage whole).marks a h.at_types h.constants_note
          (none_before (words_if (rows_words k.Type type_row_words) whole.types) (types_stage whole).marks h.at_types
          h.at_variables h.types_note
          (none_before (words_if (rows_words k.Var variable_row_words) whole.variables) (variables_stage whole).marks
          h.at_variables h.at_routines h.variables_note
          (none_before (flat_map routine_words whole.routines) (routines_stage whole).marks h.at_routines noting
          h.routines_note is))))
          ∙ ap (λ (numbers : List ℕ). known_labels numbers [] []) (sym h.labels_are);
    }

-- what a program means is made of the scopes behind it
headings_seen : (spellings : List ℕ) (routines : List CodeKnown)
    → map (λ found. found.heading) (map (routine_view spellings) routines)
    ≡ map (heading_view spellings) (map (λ known. known.heading) routines)
headings_seen spellings [] = refl
headings_seen spellings (known ∷ routines) =
    ap (λ rest. heading_view spellings known.heading ∷ rest) (headings_seen spellings routines)

module _ (tree : ProgramTree) (spellings : List ℕ) (begun new : CodeScopes) (a noting : Option Fault)
    (bodies : List CodeBody) (statements : List code_labelled.Labelled) (made : CodeProgram)
    (begun_same : begun.spellings.now ≡ spellings) (same : new.spellings.now ≡ spellings)
    (over : GoesOver (program_in spellings tree) begun a new noting bodies)
    (list : IsFaultless (program_in spellings tree) new noting (statements_view spellings statements))
    (made_is : made ≡ record {
      spellings = new.spellings.now;
      types = new.types;
      globals = new.globals;
      files = made.files;
      headings = made.headings;
      bodies = bodies;
      labels = new.labels;
      statements = statements;
    })
    (headings : made.headings ≡ map (λ known. known.heading) new.routines.items)
    (files : made.files ≡ file_numbers (outer_view new).globals
    (parameter_names (program_in new.spellings.now tree))) where
  abbrev program_of : Program
  program_of = program_in spellings tree

  outer_path : (routines_stage program_of).outer ≡ outer_view new
  outer_path = sym list.outer_is

  files_path : file_numbers (routines_stage program_of).outer.globals (parameter_names program_of) ≡ made.files
  files_path =
      ap (λ (o : Outer). file_numbers o.globals (parameter_names program_of)) outer_path
      ∙ (ap (λ (s : List ℕ). file_numbers (outer_view new).globals (parameter_names (program_in s tree))) (sym same)
      ∙ sym files)

  headings_path : map (λ found. found.heading) (routines_stage program_of).outer.routines
      ≡ map (heading_view new.spellings.now) made.headings
  headings_path =
      ap (λ (o : Outer). map (λ found. found.heading) o.routines) outer_path
      ∙ (headings_seen new.spellings.now new.routines.items
      ∙ ap (map (heading_view new.spellings.now)) (sym headings))

  bodies_path : map (body_view begun.spellings.now) bodies ≡ map (body_view new.spellings.now) bodies
  bodies_path = ap (λ (s : List ℕ). map (body_view s) bodies) (begun_same ∙ sym same)

  statements_path : statements_view spellings statements ≡ statements_view new.spellings.now statements
  statements_path = ap (λ (s : List ℕ). statements_view s statements) (sym same)

  abbrev meant : List Body → Statements → TypedProgram
  meant found main = record {
    types = (routines_stage program_of).outer.types;
    globals = (routines_stage program_of).outer.globals;
    files = file_numbers (routines_stage program_of).outer.globals (parameter_names program_of);
    headings = map (λ known. known.heading) (routines_stage program_of).outer.routines;
    bodies = found;
    labels = (routines_stage program_of).outer.labels;
    statements = main;
  }

  made_path : meant (map (body_view begun.spellings.now) bodies) (statements_view spellings statements)
      ≡ program_view made
  made_path =
      (λ i. record {
        types = (outer_path i).types;
        globals = (outer_path i).globals;
        files = files_path i;
        headings = headings_path i;
        bodies = bodies_path i;
        labels = (outer_path i).labels;
        statements = statements_path i;
      })
      ∙ ap program_view (sym made_is)

  meaning_is : (checked_of program_of).meaning ≡ Some (program_view made)
  unfolding checked_of
  meaning_is =
      (λ i. both meant (over.bodies_are list.nothing_noted i) (list.list_is i)) ∙ ap Some made_path

  pub assembles : Means program_of (program_view made)
  assembles = (list.faultless, meaning_is)
