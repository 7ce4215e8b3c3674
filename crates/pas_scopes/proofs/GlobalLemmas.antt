-- Variables of the program that are declared, and the scope behind them.
use Rattle.std.proofs.Common.{◌≡◌, ◌≢◌, refl, sym, ap, subst, ◌∙◌, ℕ, ◌+◌, ◌*◌, suc, Bool, true, false, List, [], ◌∷◌}
use Rattle.std.proofs.Common.{◌++◌, map, length, Option, Some, None, Result, Ok, Err, OnOk, IsSome, ◌||◌, not}
use Rattle.std.proofs.lemmas.List.{append_assoc, append-nil, map-append, length-map}
use Rattle.std.specs.Prelude.{⊤, option_map, is_some, is_none, if◌then◌else◌}
use Rattle.wb_base.specs.declared.faults.Fault.{Fault}
use Rattle.pas_tokens.specs.Cutting.{Wrong}
use Rattle.pas_tokens.specs.declared.kinds.Kind.TheVariants as k
use Rattle.pas_syntax.specs.Tree.{Idents, TypeForm, VariableRow}
use Rattle.pas_syntax.specs.Words.{Word, at, idents_words, type_words, variable_row_words}
use Rattle.pas_typed.specs.declared.types.PasType.{PasType as CodePasType}
use Rattle.pas_typed.specs.Types.{PasType, Table, Made, cells_of}
use Rattle.pas_typed.specs.Typed.{Home, declared, global, Variable}
use Rattle.pas_typed.specs.Shapes.{IsAmong}
use Rattle.pas_typed.specs.TypeViews.{type_view, table_view, counted}
use Rattle.pas_typed.specs.TypedViews.{variable_view}
use Rattle.pas_scopes.specs.declared.judged.Judged.{Judged as CodeJudged}
use Rattle.pas_scopes.specs.declared.scopes.Scopes.{Scopes as CodeScopes}
use Rattle.pas_scopes.specs.declared.stop.Stop.{Stop}
use Rattle.pas_scopes.specs.declared.stop.Stop.TheVariants as stop
use Rattle.pas_rules.specs.Marks.{Marks, quiet, joined, Judged, judged, noted, faults_if, last_of}
use Rattle.pas_rules.specs.Scopes.{unclear, Named, names_of, Outer, entity_in}
use Rattle.pas_rules.specs.Scopes.{standard_names, spellings_of, new_names}
use Rattle.pas_rules.specs.TypeForms.{form_of}
use Rattle.pas_rules.specs.Declarations.{taken, program_scopes, types_behind, variables_of, named_slots, unclear_names}
use Rattle.pas_rules.specs.Declarations.{cells_together, global_only, with_globals, global_row}
use Rattle.pas_rules.specs.Scopes.{with_new}
use Rattle.pas_scopes.specs.ScopeViews.{outer_view, scopes_view, IsClear, Agrees}
use Rattle.pas_scopes.specs.Answers.{end_in, EndsAs}
use Rattle.pas_scopes.specs.FormAnswers.{FoundIf, first_told}
use Rattle.pas_scopes.specs.NameAnswers.{AreNewNames, AreNew}
use Rattle.pas_scopes.specs.DeclaredSoFar.{first_noted, IsAlike, IsOuter, Notes, NotesIf, AreThere, AreTyped}
use Rattle.pas_scopes.specs.DeclaredSoFar.{AreHeld, IsCounted, IsDeclared, IsLike, Declares, global_form, with_each}
use Rattle.pas_rules.proofs.AsMany.{next_word, before_word, noted_many}
use Rattle.pas_rules.proofs.TypesAsMany.{form_many}
use Rattle.pas_scopes.proofs.SettleLemmas.{quiet_word, quiet_alone}
use Rattle.pas_scopes.proofs.EndLemmas.{last_of_both}
use Rattle.pas_scopes.proofs.AnswerLemmas.{noted_stops_by}
use Rattle.pas_scopes.proofs.DeclaredLemmas.{pushed_alike, notes_behind, notes_quiet}
use Rattle.pas_scopes.proofs.ConstantRowLemmas.{alike_of, agrees_of, free_in, notes_clear, none_before, clear_push}
use Rattle.pas_scopes.proofs.CountedLemmas.{IsMade, form_made, named_outer, there_append, held_append, typed_append}
use Rattle.pas_scopes.proofs.CountedLemmas.{counted_longer, together_with}

-- two demands on a part are noted as one
both_faults : {A : Type 0} (one two : A → List Wrong) (value : Option A)
    → faults_if one value ++ faults_if two value ≡ faults_if (λ found. one found ++ two found) value
both_faults one two None = refl
both_faults one two (Some value) = refl

pub noted_both : {A : Type 0} (one two : A → List Wrong) (part : Judged A)
    → noted two (noted one part) ≡ noted (λ found. one found ++ two found) part
noted_both one two part =
    ap (λ (tokens : List (List Wrong)). judged (record part.marks { tokens = tokens }) part.value)
    (last_of_both (faults_if one part.value) (faults_if two part.value) part.marks.tokens
    ∙ ap (λ (faults : List Wrong). last_of faults part.marks.tokens) (both_faults one two part.value))

-- whether a type is a file
pub no_file_or : (component : Option PasType) (b is_file : Bool) → is_some component ≡ is_file → is_file ≡ false
    → not is_file ≡ (is_none component || b)
no_file_or None b is_file is free = ap not free
no_file_or (Some found) b is_file is free = cc

pub file_or : (component : Option PasType) (b is_file : Bool) → is_some component ≡ is_file → is_file ≡ true
    → b ≡ (is_none component || b)
file_or None b is_file is bound = cc
file_or (Some found) b is_file is bound = refl

-- what was noted of a type expression
pub found_noted : {X A : Type 0} (Clear : Type 0) (words : List Word) (demand : A → List Wrong) (part : Judged A)
    (view : X → A) (noting : Option Fault) (found next : CodeJudged X)
    → (EndsAs words part (view found.value) (end_in found.end)
    → EndsAs words (noted demand part) (view next.value) (end_in next.end))
    → FoundIf Clear words part view noting (Ok found) → FoundIf Clear words (noted demand part) view noting (Ok next)
found_noted Clear words demand part view None found next ends h = ends h
found_noted Clear words demand part view (Some fault) found next ends h =
    λ clear. noted_stops_by words demand part (stop.Fault fault) (h clear)

pub stopped_noted : {X A : Type 0} (Clear : Type 0) (words : List Word) (demand : A → List Wrong) (part : Judged A)
    (view : X → A) (noting : Option Fault) (why : Stop)
    → FoundIf Clear words part view noting (Err why) → FoundIf Clear words (noted demand part) view noting (Err why)
stopped_noted Clear words demand part view None why h = λ clear. noted_stops_by words demand part why (h clear)
stopped_noted Clear words demand part view (Some fault) why h =
    λ clear. noted_stops_by words demand part (first_told (Some fault) why) (h clear)

-- scopes that stand for a scope of the program
module _ (outer : Outer) (old : CodeScopes) (like : IsLike outer old) where
  pub like_agrees : Agrees (program_scopes outer) (scopes_view old)
  like_agrees name = sym (agrees_of outer old like.alone like.alike name)

  pub like_table : table_view old.spellings.now old.types ≡ outer.types
  like_table = ap (λ (o : Outer). o.types) like.alike.others

  pub like_form : (form : TypeForm)
      → form_of (program_scopes outer) (table_view old.spellings.now old.types) form ≡ global_form outer form
  like_form form = ap (λ (t : Table). form_of (program_scopes outer) t form) like_table

  -- the cells by a table that a type expression made
  pub like_made : (form : TypeForm) (found : Made) → (global_form outer form).value ≡ Some found
      → IsMade outer.types (Some found)
  like_made form found is =
      subst (IsMade outer.types) is
      (form_made (program_scopes outer) outer.types (named_outer outer like.is_counted.names) form)

  pub like_cells : (form : TypeForm) (found : Made) → (global_form outer form).value ≡ Some found
      → old.cells ≡ counted (cells_together found.table outer.globals)
  like_cells form found is =
      (counted_longer outer old.cells found.table (like_made form found is).0 like.is_counted).cells_are

-- names that are declared one after another
pub each_alike : (found other more : List Named) → ((name : List ℕ) → entity_in found name ≡ entity_in other name)
    → (name : List ℕ) → entity_in (with_each found more) name ≡ entity_in (other ++ more) name
each_alike found other [] same name =
    same name ∙ ap (λ (all : List Named). entity_in all name) (sym (append-nil other))
each_alike found other (first ∷ more) same name =
    each_alike (with_new found first.name first.entity) (other ++ first ∷ []) more
    (pushed_alike found other first.name first.entity same) name
    ∙ ap (λ (all : List Named). entity_in all name) (append_assoc other (first ∷ []) more)

pub each_same : (outer : Outer) (more : List Named) → AreNew (taken outer) (names_of more)
    → with_each outer.names more ≡ outer.names ++ more
each_same outer [] h = sym (append-nil outer.names)
each_same outer (first ∷ more) h =
    let next : Outer = record outer { names = outer.names ++ first ∷ [] } in
    let behind : taken outer ++ first.name ∷ [] ≡ taken next =
    append_assoc standard_names (names_of outer.names) (first.name ∷ [])
    ∙ ap (λ (found : List (List ℕ)). standard_names ++ found)
    (sym (map-append (λ (named : Named). named.name) outer.names (first ∷ []))) in
    ap (λ (b : Bool). with_each (if b then outer.names else outer.names ++ first ∷ []) more)
    (free_in outer first.name h.0)
    ∙ (each_same next more (subst (λ (found : List (List ℕ)). AreNew found (names_of more)) behind h.1)
    ∙ append_assoc outer.names (first ∷ []) more)

abbrev pub AreKnown : List Named → Type 0
AreKnown [] = ⊤
AreKnown (named ∷ found) = (named.entity ≢ unclear) × AreKnown found

pub clear_each : (outer : Outer) (more : List Named) → AreKnown more → IsClear (program_scopes outer)
    → IsClear (program_scopes (record outer { names = outer.names ++ more }))
clear_each outer [] known h =
    subst (λ (found : List Named). IsClear (program_scopes (record outer { names = found })))
    (sym (append-nil outer.names)) h
clear_each outer (first ∷ more) known h =
    subst (λ (found : List Named). IsClear (program_scopes (record outer { names = found })))
    (append_assoc outer.names (first ∷ []) more)
    (clear_each (record outer { names = outer.names ++ first ∷ [] }) more known.1
    (clear_push outer first h known.0))

-- variables as names
pub slots_known : (home : Home) (n : ℕ) (variables : List Variable) → AreKnown (named_slots home n variables)
slots_known home n [] = tt
slots_known home n (first ∷ variables) = ((λ is. cc), slots_known home (suc n) variables)

pub slots_there : (rows : ℕ) (home : Home) (n : ℕ) (variables : List Variable)
    → AreThere rows (named_slots home n variables)
slots_there rows home n [] = tt
slots_there rows home n (first ∷ variables) = (tt, slots_there rows home (suc n) variables)

pub slots_held : (rows : ℕ) (home : Home) (n : ℕ) (variables : List Variable) → AreTyped rows variables
    → AreHeld rows (named_slots home n variables)
slots_held rows home n [] h = tt
slots_held rows home n (first ∷ variables) h = (h.0, slots_held rows home (suc n) variables h.1)

unclear_held : (rows : ℕ) (spellings : List (List ℕ)) → AreHeld rows (unclear_names spellings)
unclear_held rows [] = tt
unclear_held rows (name ∷ spellings) = (tt, unclear_held rows spellings)

unclear_there : (rows : ℕ) (spellings : List (List ℕ)) → AreThere rows (unclear_names spellings)
unclear_there rows [] = tt
unclear_there rows (name ∷ spellings) = (tt, unclear_there rows spellings)

pub slots_names : (home : Home) (n : ℕ) (found : PasType) (spellings : List (List ℕ))
    → names_of (named_slots home n (variables_of declared found spellings)) ≡ spellings
slots_names home n found [] = refl
slots_names home n found (name ∷ spellings) =
    ap (λ (rest : List (List ℕ)). name ∷ rest) (slots_names home (suc n) found spellings)

pub variables_typed : (rows : ℕ) (found : PasType) → IsAmong rows found → (spellings : List (List ℕ))
    → AreTyped rows (variables_of declared found spellings)
variables_typed rows found h [] = tt
variables_typed rows found h (name ∷ spellings) = (h, variables_typed rows found h spellings)

-- new names
notes_names : (taken : List (List ℕ)) (idents : Idents) (first : Result (Unit {0}) Stop)
    → first ≢ Err stop.OutOfMemory → AreNewNames taken idents first
    → Notes (idents_words 0 idents) (new_names taken idents) None (first_noted None first)
notes_names taken idents (Ok done) some h = h 0
notes_names taken idents (Err stop.OutOfMemory) some h = absurd (some refl)
notes_names taken idents (Err (stop.Fault fault)) some h = h 0
notes_names taken idents (Err stop.Missing) some h = absurd (h 0)

names_fresh : (taken : List (List ℕ)) (idents : Idents) (first : Result (Unit {0}) Stop)
    → first ≢ Err stop.OutOfMemory → AreNewNames taken idents first
    → OnOk first (AreNew taken (spellings_of idents)) → first_noted None first ≡ None
    → AreNew taken (spellings_of idents)
names_fresh taken idents (Ok done) some h new none = new
names_fresh taken idents (Err stop.OutOfMemory) some h new none = absurd (some refl)
names_fresh taken idents (Err (stop.Fault fault)) some h new none = cc
names_fresh taken idents (Err stop.Missing) some h new none = absurd (h 0)

-- the scope behind names and variables
module _ (outer : Outer) (old new : CodeScopes) (list : List Named) (more : List Variable → List Variable)
    (table : Table) (types : table_view old.spellings.now new.types ≡ table)
    (named : new.names ≡ with_each old.names list)
    (globals : map (variable_view old.spellings.now) new.globals
    ≡ more (map (variable_view old.spellings.now) old.globals))
    (kept : new ≡ record old {
      types = new.types;
      names = new.names;
      globals = new.globals;
      cells = new.cells;
    }) where
  abbrev behind : Outer
  behind = record outer { types = table; names = outer.names ++ list; globals = more outer.globals }

  outer_behind : outer_view new ≡ record (outer_view old) {
    types = table;
    names = with_each old.names list;
    globals = more (outer_view old).globals;
  }
  outer_behind =
      ap outer_view kept
      ∙ (ap (λ (t : Table). record (outer_view old) {
        types = t;
        names = new.names;
        globals = map (variable_view old.spellings.now) new.globals;
      }) types
      ∙ (ap (λ (found : List Named). record (outer_view old) {
        types = table;
        names = found;
        globals = map (variable_view old.spellings.now) new.globals;
      }) named
      ∙ ap (λ (found : List Variable). record (outer_view old) {
        types = table;
        names = with_each old.names list;
        globals = found;
      }) globals))

  alike_behind : IsAlike (outer_view old) outer → IsAlike (outer_view new) behind
  alike_behind h =
      subst (λ (o : Outer). IsAlike o behind) (sym outer_behind) record {
        names = each_alike old.names outer.names list h.names;
        others = ap (λ (o : Outer). record o {
          types = table;
          names = outer.names ++ list;
          globals = more o.globals;
        }) h.others;
      }

  same_behind : outer_view old ≡ outer → AreNew (taken outer) (names_of list) → outer_view new ≡ behind
  same_behind h fresh =
      outer_behind
      ∙ (ap (λ (o : Outer). record o {
        types = table;
        names = with_each o.names list;
        globals = more o.globals;
      }) h
      ∙ ap (λ (found : List Named). record outer { types = table; names = found; globals = more outer.globals })
      (each_same outer list fresh))

-- variables that are added, or names of which nothing is known
module _ (old new : CodeScopes) (spellings : List (List ℕ)) where
  abbrev new_table : Table
  new_table = table_view old.spellings.now new.types

  abbrev pub Adds : Option CodePasType → Type 0
  Adds None =
      (new.names ≡ with_each old.names (unclear_names spellings)) × (new.globals ≡ old.globals)
      × (new.cells ≡ old.cells)
  Adds (Some found) =
      (new.names ≡ with_each old.names (named_slots global (length old.globals)
      (variables_of declared (type_view found) spellings)))
      × (map (variable_view old.spellings.now) new.globals
      ≡ map (variable_view old.spellings.now) old.globals ++ variables_of declared (type_view found) spellings)
      × ((each : ℕ) → counted (cells_of new_table (type_view found)) ≡ each
      → new.cells ≡ counted (old.cells + length spellings * each))

  abbrev pub made_by : CodePasType → Made
  made_by found = record { type = type_view found; table = new_table }

  module _ (kept : new ≡ record old {
    types = new.types;
    names = new.names;
    globals = new.globals;
    cells = new.cells;
  }) (outer : Outer) (like : IsLike outer old) where
    slots_are : (variables : List Variable)
        → named_slots global (length old.globals) variables ≡ named_slots global (length outer.globals) variables
    slots_are variables =
        ap (λ (n : ℕ). named_slots global n variables)
        (sym (length-map old.globals (variable_view old.spellings.now))
        ∙ ap (λ (o : Outer). length o.globals) like.alike.others)

    added_alike : (found : Option CodePasType) → Adds found
        → new_table ≡ types_behind outer.types (option_map made_by found)
        → IsAlike (outer_view new) (with_globals spellings (option_map made_by found) outer)
    added_alike None adds types =
        alike_behind outer old new (unclear_names spellings) (λ globals. globals) outer.types types adds.0
        (ap (map (variable_view old.spellings.now)) adds.1) kept like.alike
    added_alike (Some found) adds types =
        let variables : List Variable = variables_of declared (type_view found) spellings in
        alike_behind outer old new (named_slots global (length outer.globals) variables)
        (λ globals. globals ++ variables) new_table refl
        (adds.0 ∙ ap (with_each old.names) (slots_are variables)) adds.1 kept like.alike

    added_same : (found : CodePasType) → Adds (Some found) → outer_view old ≡ outer
        → AreNew (taken outer) spellings
        → outer_view new ≡ with_globals spellings (Some (made_by found)) outer
    added_same found adds same fresh =
        let variables : List Variable = variables_of declared (type_view found) spellings in
        let list : List Named = named_slots global (length outer.globals) variables in
        same_behind outer old new list (λ globals. globals ++ variables) new_table refl
        (adds.0 ∙ ap (with_each old.names) (slots_are variables)) adds.1 kept same
        (subst (AreNew (taken outer)) (sym (slots_names global (length outer.globals) (type_view found) spellings))
        fresh)

    added_clear : (found : CodePasType) → IsClear (program_scopes outer)
        → IsClear (program_scopes (with_globals spellings (Some (made_by found)) outer))
    added_clear found clear =
        let variables : List Variable = variables_of declared (type_view found) spellings in
        clear_each outer (named_slots global (length outer.globals) variables)
        (slots_known global (length outer.globals) variables) clear

    added_counted : (found : Option CodePasType) → Adds found → IsMade outer.types (option_map made_by found)
        → IsCounted (with_globals spellings (option_map made_by found) outer) new.cells
    added_counted None adds made = record {
      names = there_append (length outer.types) outer.names (unclear_names spellings) like.is_counted.names
          (unclear_there (length outer.types) spellings);
      slots = held_append (length outer.types) outer.names (unclear_names spellings) like.is_counted.slots
          (unclear_held (length outer.types) spellings);
      files = like.is_counted.files;
      globals = like.is_counted.globals;
      cells_are = adds.2 ∙ like.is_counted.cells_are;
    }
    added_counted (Some found) adds made =
        let variables : List Variable = variables_of declared (type_view found) spellings in
        let there : IsCounted (record outer { types = new_table }) old.cells =
        counted_longer outer old.cells new_table made.0 like.is_counted in
        let each : ℕ = counted (cells_of new_table (type_view found)) in
        record {
          names = there_append (length new_table) outer.names
              (named_slots global (length outer.globals) variables) there.names
              (slots_there (length new_table) global (length outer.globals) variables);
          slots = held_append (length new_table) outer.names
              (named_slots global (length outer.globals) variables) there.slots
              (slots_held (length new_table) global (length outer.globals) variables
              (variables_typed (length new_table) (type_view found) made.1 spellings));
          files = there.files;
          globals = typed_append (length new_table) outer.globals variables there.globals
              (variables_typed (length new_table) (type_view found) made.1 spellings);
          cells_are = adds.2 each refl
              ∙ sym (together_with new_table outer.globals (type_view found) spellings old.cells each there.cells_are
              refl);
        }

    added_both : (found : Option CodePasType) → IsSome found → Adds found → outer_view old ≡ outer
        → AreNew (taken outer) spellings → IsClear (program_scopes outer)
        → (outer_view new ≡ with_globals spellings (option_map made_by found) outer)
        × IsClear (program_scopes (with_globals spellings (option_map made_by found) outer))
    added_both None there adds same fresh clear = absurd (cc)
    added_both (Some found) there adds same fresh clear =
        (added_same found adds same fresh, added_clear found clear)

-- variables of one type that are declared
module _ (old new : CodeScopes) (row : VariableRow) (first : Result (Unit {0}) Stop)
    (some : first ≢ Err stop.OutOfMemory) (free : AreNewNames (taken (outer_view old)) row.names first)
    (fresh : OnOk first (AreNew (taken (outer_view old)) (spellings_of row.names)))
    (kept : new ≡ record old {
      types = new.types;
      names = new.names;
      globals = new.globals;
      cells = new.cells;
    }) (found : Option CodePasType) (adds : Adds old new (spellings_of row.names) found) where
  abbrev spellings : List (List ℕ)
  spellings = spellings_of row.names

  abbrev found_made : Option Made
  found_made = option_map (made_by old new spellings) found

  abbrev whole : Outer → Judged Made
  whole outer = noted (global_only outer spellings) (global_form outer row.form)

  abbrev pub TypeNotes : Option Fault → Option Fault → Type 0
  TypeNotes one two =
      (outer : Outer) → IsLike outer old
      → NotesIf (IsClear (program_scopes outer)) (type_words 0 row.form) (whole outer).marks one two

  abbrev pub TypeClear : Option Fault → Type 0
  TypeClear two =
      (outer : Outer) → IsLike outer old → IsClear (program_scopes outer) → two ≡ None → IsSome found

  like_of : (outer : Outer) (noting : Option Fault) → IsDeclared outer old noting → IsLike outer old
  like_of outer noting h = record {
    alone = h.alone;
    alike = alike_of outer old noting h.outer_is;
    is_counted = h.is_counted;
  }

  module _ (value : (outer : Outer) → IsLike outer old → found_made ≡ (global_form outer row.form).value)
      (types : (outer : Outer) → IsLike outer old → table_view old.spellings.now new.types
      ≡ types_behind outer.types (global_form outer row.form).value) where
    row_notes : (outer : Outer) (noting one two : Option Fault) → one ≡ first_noted noting first → TypeNotes one two
        → IsDeclared outer old noting → Notes (variable_row_words row) (global_row outer row).marks noting two
    row_notes outer (Some fault) one two is notes h =
        subst (λ (o : Option Fault). NotesIf (IsClear (program_scopes outer)) (type_words 0 row.form)
        (whole outer).marks o two) is (notes outer (like_of outer (Some fault) h))
    row_notes outer None one two is notes h =
        let marks : Marks = (whole outer).marks in
        let colon : Word = at 0 k.Colon row.colon in
        let semicolon : Word = at 0 k.Semicolon row.end in
        let words : List Word = type_words 0 row.form in
        let many = noted_many (global_only outer spellings) (global_form outer row.form)
        (form_many (program_scopes outer) outer.types 0 row.form) in
        notes_behind (idents_words 0 row.names) (colon ∷ (words ++ semicolon ∷ [])) (new_names (taken outer) row.names)
        (joined (quiet ∷ marks ∷ quiet ∷ []))
        (next_word colon [] (joined (marks ∷ quiet ∷ [])) (before_word semicolon marks many)) None one two
        (subst (λ (o : Option Fault). Notes (idents_words 0 row.names) (new_names (taken outer) row.names) None o)
        (sym is)
        (notes_names (taken outer) row.names first some
        (subst (λ (o : Outer). AreNewNames (taken o) row.names first) h.outer_is.0 free)))
        (notes_behind (colon ∷ []) (words ++ semicolon ∷ []) quiet (joined (marks ∷ quiet ∷ []))
        (before_word semicolon marks many) one one two
        (notes_quiet (colon ∷ []) quiet one (quiet_word colon))
        (notes_behind words (semicolon ∷ []) marks (joined (quiet ∷ []))
        (next_word semicolon [] (joined []) (record { same = refl })) one two two
        (notes_clear (IsClear (program_scopes outer)) words marks one two (notes outer (like_of outer None h))
        h.outer_is.1)
        (notes_quiet (semicolon ∷ []) (joined (quiet ∷ [])) two
        (quiet_alone (semicolon ∷ []) quiet false (quiet_word semicolon)))))

    row_outer : (outer : Outer) (noting one two : Option Fault) → one ≡ first_noted noting first → TypeNotes one two
        → TypeClear two → IsDeclared outer old noting → IsOuter (global_row outer row).outer new two
    row_outer outer noting one (Some fault) is notes clear h =
        let like = like_of outer noting h in
        subst (λ (v : Option Made). IsAlike (outer_view new) (with_globals spellings v outer)) (value outer like)
        (added_alike old new spellings kept outer like found adds
        (types outer like ∙ ap (types_behind outer.types) (sym (value outer like))))
    row_outer outer (Some fault) one None is notes clear h =
        absurd (none_some (sym is ∙ none_before (IsClear (program_scopes outer)) (type_words 0 row.form)
        (whole outer).marks one None (notes outer (like_of outer (Some fault) h)) refl))
      where
        none_some : Some fault ≡ None → ⊥
        none_some e = cc
    row_outer outer None one None is notes clear h =
        let like = like_of outer None h in
        let new_here : AreNew (taken outer) spellings =
        names_fresh (taken outer) row.names first some
        (subst (λ (o : Outer). AreNewNames (taken o) row.names first) h.outer_is.0 free)
        (subst (λ (o : Outer). OnOk first (AreNew (taken o) spellings)) h.outer_is.0 fresh)
        (sym is ∙ none_before (IsClear (program_scopes outer)) (type_words 0 row.form) (whole outer).marks one None
        (notes outer like) refl) in
        subst (λ (v : Option Made). (outer_view new ≡ with_globals spellings v outer)
        × IsClear (program_scopes (with_globals spellings v outer))) (value outer like)
        (added_both old new spellings kept outer like found (clear outer like h.outer_is.1 refl) adds h.outer_is.0
        new_here h.outer_is.1)

    pub row_declares : (noting one two : Option Fault) → one ≡ first_noted noting first → TypeNotes one two
        → TypeClear two
        → Declares (variable_row_words row) (λ outer. global_row outer row) old noting new two
    row_declares noting one two is notes clear = record {
      declared = λ outer h. record {
        alone = ap (λ (scopes : CodeScopes). scopes.inner) kept ∙ h.alone;
        outer_is = row_outer outer noting one two is notes clear h;
        is_counted =
            let like = like_of outer noting h in
            subst (λ (v : Option Made). IsCounted (with_globals spellings v outer) new.cells) (value outer like)
            (added_counted old new spellings kept outer like found adds
            (subst (IsMade outer.types) (sym (value outer like))
            (form_made (program_scopes outer) outer.types (named_outer outer h.is_counted.names) row.form)));
      };
      notes = λ outer h. row_notes outer noting one two is notes h;
    }
