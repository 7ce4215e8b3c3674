-- Words and scopes behind variables of one type that a routine declares.
use Rattle.std.proofs.Common.{◌≡◌, ◌≢◌, refl, sym, ap, subst, ◌∙◌, ℕ, suc, false, List, [], ◌∷◌}
use Rattle.std.proofs.Common.{◌++◌, map, length, Option, Some, None, Result, Err}
use Rattle.std.proofs.lemmas.List.{append_assoc, append-nil}
use Rattle.std.specs.Prelude.{option_map}
use Rattle.wb_base.specs.declared.faults.TheConstants.{WRONG_TYPE}
use Rattle.pas_tokens.specs.Cutting.{Wrong, wrong}
use Rattle.pas_tokens.specs.declared.kinds.Kind.TheVariants as k
use Rattle.pas_syntax.specs.Tree.{VariableRow}
use Rattle.pas_syntax.specs.Words.{Word, at, idents_words, type_words, variable_row_words}
use Rattle.pas_syntax.specs.declared.tree.Ident.{Ident as CodeIdent}
use Rattle.pas_typed.specs.declared.types.PasType.{PasType as CodePasType}
use Rattle.pas_typed.specs.declared.types.Structure.{Structure as CodeStructure}
use Rattle.pas_typed.specs.declared.typed.Mode.{Mode as CodeMode}
use Rattle.pas_typed.specs.declared.typed.Heading.{Heading as CodeHeading}
use Rattle.pas_typed.specs.Types.{PasType, Table, Made}
use Rattle.pas_typed.specs.Typed.{Mode, Variable, local}
use Rattle.pas_typed.specs.Shapes.{IsAmong}
use Rattle.pas_typed.specs.TypeViews.{type_view, table_view, counted}
use Rattle.pas_typed.specs.TypedViews.{mode_view, variable_view}
use Rattle.pas_scopes.specs.declared.scopes.Inner.{Inner as CodeInner}
use Rattle.pas_scopes.specs.declared.scopes.KnownRoutine.{KnownRoutine as CodeRoutine}
use Rattle.pas_scopes.specs.declared.scopes.Scopes.{Scopes as CodeScopes}
use Rattle.pas_scopes.specs.declared.stop.Stop.{Stop}
use Rattle.pas_scopes.specs.declared.stop.Stop.TheVariants as stop
use Rattle.pas_rules.specs.Marks.{Marks, quiet, followed, joined, Judged, noted}
use Rattle.pas_rules.specs.Scopes.{Entity, unclear, Named, entity_in, or_else, required, new_names, names_of}
use Rattle.pas_rules.specs.Scopes.{Inner, names_inside}
use Rattle.pas_rules.specs.Declarations.{variables_of, named_slots, with_locals, cells_together}
use Rattle.pas_scopes.specs.ScopeViews.{outer_view, inner_view, scopes_view, IsClear}
use Rattle.pas_scopes.specs.Answers.{Ending, EndsAs, FailsBy, IsQuiet, ShowsBy}
use Rattle.pas_scopes.specs.Ends.{shown_behind}
use Rattle.pas_scopes.specs.NameAnswers.{AreNew}
use Rattle.pas_scopes.specs.DeclaredSoFar.{AreThere, AreTyped}
use Rattle.pas_scopes.specs.Locals.{with_all, IsMeasured, IsWaitingIf, AreWaiting}
use Rattle.pas_scopes.specs.Locals.{IsLawful, IsWithin}
use Rattle.pas_rules.proofs.AsMany.{AsMany, next_word, before_word, noted_many}
use Rattle.pas_scopes.proofs.SettleLemmas.{quiet_word, quiet_alone, quiet_behind, shows_front, shows_behind}
use Rattle.pas_scopes.proofs.ConstantRowLemmas.{clear_behind}
use Rattle.pas_scopes.proofs.DeclaredLemmas.{entity_push}
use Rattle.pas_scopes.proofs.CountedLemmas.{Longer, longer_length, all_there_more, there_append, typed_more}
use Rattle.pas_scopes.proofs.CountedLemmas.{typed_append, counted_longer, together_longer}
use Rattle.pas_scopes.proofs.AddedLemmas.{seen}
use Rattle.pas_scopes.proofs.GlobalLemmas.{AreKnown}
use Rattle.pas_scopes.proofs.LocalLemmas.{all_view, all_cells}

-- what is answered where checking stops early
pub stopped : {X : Type 0} (Answer : Result X Stop → Type 0) (why : Stop) (result : Result X Stop)
    → ((found : Stop) × (result ≡ Err found) × (found ≡ why)) → Answer (Err why) → Answer result
stopped Answer why result is h = subst Answer (sym (is.1 ∙ ap Err is.2)) h

-- where checking stops in words before or behind others
module _ (words more : List Word) (part next : Marks) where
  pub fails_front : AsMany more next → (why : Stop) → FailsBy words part why
      → FailsBy (words ++ more) (followed part next) why
  fails_front many stop.OutOfMemory h = tt
  fails_front many (stop.Fault fault) h = shows_front words more part next fault many h
  fails_front many stop.Missing h = absurd h

  pub fails_behind : IsQuiet words part false → (why : Stop) → FailsBy more next why
      → FailsBy (words ++ more) (followed part next) why
  fails_behind still stop.OutOfMemory h = tt
  fails_behind still (stop.Fault fault) h = shows_behind words more part next fault still h
  fails_behind still stop.Missing h = absurd h

-- behind a part in which nothing is missing
pub missing_nothing : (behind : List Wrong) → behind ≡ [] → behind ≡ wrong WRONG_TYPE ∷ [] → ⊥
missing_nothing behind none some = absurd (cc)

pub whole_fails : {A : Type 0} (words : List Word) (demand : A → List Wrong) (part : Judged A) (value : A)
    (end : Ending) → end.is_short ≡ false → EndsAs words part value end → (why : Stop)
    → ShowsBy words (noted demand part).marks why → FailsBy words (noted demand part).marks why
whole_fails words demand part value end whole h stop.OutOfMemory shown = tt
whole_fails words demand part value end whole h (stop.Fault fault) shown = shown
whole_fails words demand part value end whole h stop.Missing shown =
    missing_nothing part.marks.behind (h.behind ∙ ap shown_behind whole) shown.behind

-- names of one type, and a semicolon
module _ (row : VariableRow) (before : List (List ℕ)) (demand : Made → List Wrong) (form : Judged Made)
    (many : AsMany (type_words 0 row.form) form.marks) where
  abbrev names_part : Marks
  names_part = new_names before row.names

  abbrev type_part : Marks
  type_part = (noted demand form).marks

  abbrev pub row_marks : Marks
  row_marks = joined (names_part ∷ quiet ∷ type_part ∷ quiet ∷ [])

  abbrev colon : Word
  colon = at 0 k.Colon row.colon

  abbrev semicolon : Word
  semicolon = at 0 k.Semicolon row.end

  abbrev type_at : List Word
  type_at = type_words 0 row.form

  last_many : AsMany (semicolon ∷ []) (joined (quiet ∷ []))
  last_many = next_word semicolon [] (joined []) (record { same = refl })

  behind_many : AsMany (colon ∷ (type_at ++ semicolon ∷ [])) (joined (quiet ∷ type_part ∷ quiet ∷ []))
  behind_many =
      next_word colon [] (joined (type_part ∷ quiet ∷ []))
      (before_word semicolon type_part (noted_many demand form many))

  pub row_names_fail : (why : Stop) → FailsBy (idents_words 0 row.names) names_part why
      → FailsBy (variable_row_words row) row_marks why
  row_names_fail why h =
      fails_front (idents_words 0 row.names) (colon ∷ (type_at ++ semicolon ∷ [])) names_part
      (joined (quiet ∷ type_part ∷ quiet ∷ [])) behind_many why h

  module _ (still : IsQuiet (idents_words 0 row.names) names_part false) where
    pub row_type_fails : (why : Stop) → FailsBy type_at type_part why → FailsBy (variable_row_words row) row_marks why
    row_type_fails why h =
        fails_behind (idents_words 0 row.names) (colon ∷ (type_at ++ semicolon ∷ [])) names_part
        (joined (quiet ∷ type_part ∷ quiet ∷ [])) still why
        (fails_behind (colon ∷ []) (type_at ++ semicolon ∷ []) quiet (joined (type_part ∷ quiet ∷ []))
        (quiet_word colon) why
        (fails_front type_at (semicolon ∷ []) type_part (joined (quiet ∷ [])) last_many why h))

    pub row_quiet : IsQuiet type_at type_part false → IsQuiet (variable_row_words row) row_marks false
    row_quiet h =
        quiet_behind (idents_words 0 row.names) (colon ∷ (type_at ++ semicolon ∷ [])) names_part
        (joined (quiet ∷ type_part ∷ quiet ∷ [])) false still
        (quiet_behind (colon ∷ []) (type_at ++ semicolon ∷ []) quiet (joined (type_part ∷ quiet ∷ [])) false
        (quiet_word colon)
        (quiet_behind type_at (semicolon ∷ []) type_part (joined (quiet ∷ [])) false h
        (quiet_alone (semicolon ∷ []) quiet false (quiet_word semicolon))))

-- a longer table
pub measured_longer : (table later : Table) (spellings : List ℕ) (inner : CodeInner) → Longer table later
    → IsMeasured table spellings inner → IsMeasured later spellings inner
measured_longer table later spellings inner longer h =
    let less = longer_length table later longer in
    let variables : List Variable = map (variable_view spellings) inner.variables in
    record {
      names = all_there_more (length table) (length later) inner.names less h.names;
      variables = typed_more (length table) (length later) variables less h.variables;
      cells_are = h.cells_are ∙ ap counted (sym (together_longer table later variables longer h.variables));
    }

module _ (table later : Table) (spellings : List ℕ) (longer : Longer table later) where
  one_waiting_longer : (number : ℕ) (heading : CodeHeading) (inner : Option CodeInner)
      → IsWaitingIf table spellings number heading inner → IsWaitingIf later spellings number heading inner
  one_waiting_longer number heading None h = tt
  one_waiting_longer number heading (Some inner) h = record {
    number_is = h.number_is;
    labels_are = h.labels_are;
    variables_are = h.variables_are;
    names_are = h.names_are;
    measured = measured_longer table later spellings inner longer h.measured;
  }

  pub waiting_longer : (number : ℕ) (routines : List CodeRoutine) → AreWaiting table spellings number routines
      → AreWaiting later spellings number routines
  waiting_longer number [] h = tt
  waiting_longer number (known ∷ routines) h =
      (one_waiting_longer number known.heading known.awaited h.0, waiting_longer (suc number) routines h.1)

pub lawful_longer : (old : CodeScopes) (types : List CodeStructure) (inner : Option CodeInner)
    → Longer (outer_view old).types (table_view old.spellings.now types) → IsLawful old
    → IsLawful (record old { types = types; inner = inner })
lawful_longer old types inner longer h =
    let later : Table = table_view old.spellings.now types in
    record {
      counted_is = counted_longer (outer_view old) old.cells later longer h.counted_is;
      waiting = waiting_longer (outer_view old).types later old.spellings.now longer 0 old.routines.items h.waiting;
    }

-- variables as names
pub local_known : (n : ℕ) (variables : List Variable) → AreKnown (named_slots local n variables)
local_known n [] = tt
local_known n (first ∷ variables) = ((λ is. cc), local_known (suc n) variables)

pub local_there : (rows n : ℕ) (variables : List Variable) → AreThere rows (named_slots local n variables)
local_there rows n [] = tt
local_there rows n (first ∷ variables) = (tt, local_there rows (suc n) variables)

pub local_typed : (rows : ℕ) (mode : Mode) (found : PasType) → IsAmong rows found → (spellings : List (List ℕ))
    → AreTyped rows (variables_of mode found spellings)
local_typed rows mode found h [] = tt
local_typed rows mode found h (name ∷ spellings) = (h, local_typed rows mode found h spellings)

pub clear_each : (found more : List Named) (name : List ℕ) (outside : Option Entity) → AreKnown more
    → or_else (entity_in found name) outside ≢ Some unclear
    → or_else (entity_in (found ++ more) name) outside ≢ Some unclear
clear_each found [] name outside known h =
    subst (λ (all : List Named). or_else (entity_in all name) outside ≢ Some unclear) (sym (append-nil found)) h
clear_each found (first ∷ more) name outside known h =
    subst (λ (all : List Named). or_else (entity_in all name) outside ≢ Some unclear)
    (append_assoc found (first ∷ []) more)
    (clear_each (found ++ first ∷ []) more name outside known.1
    (λ is. clear_behind (entity_in found name) first name outside known.0 h
    (ap (λ (one : Option Entity). or_else one outside) (sym (entity_push found first name)) ∙ is)))

-- the scopes with variables of one kind, over a longer table
module _ (old : CodeScopes) (inner : CodeInner) (types : List CodeStructure) (mode : CodeMode) (found : CodePasType)
    (idents : List CodeIdent) where
  abbrev later : Table
  later = table_view old.spellings.now types

  abbrev spelled : List (List ℕ)
  spelled = seen old.spellings.now idents

  abbrev variables : List Variable
  variables = map (variable_view old.spellings.now) inner.variables

  abbrev more : List Variable
  more = variables_of (mode_view mode) (type_view found) spelled

  abbrev pub with_counted : CodeInner
  with_counted = with_all old.spellings.now mode found idents
      (record inner { cells = counted (cells_together later (variables ++ more)) })

  abbrev behind : CodeScopes
  behind = record old { types = types; inner = Some with_counted }

  module _ (fresh : AreNew (names_of inner.names) spelled) where
    pub seen_behind : inner_view old.spellings.now with_counted
        ≡ with_locals (mode_view mode) spelled (Some (type_view found)) (inner_view old.spellings.now inner)
    seen_behind =
        all_view old.spellings.now mode found idents
        (record inner { cells = counted (cells_together later (variables ++ more)) }) fresh

    names_behind : with_counted.names ≡ inner.names ++ named_slots local (length variables) more
    names_behind = ap (λ (one : Inner). one.names) seen_behind

    variables_behind : map (variable_view old.spellings.now) with_counted.variables ≡ variables ++ more
    variables_behind = ap (λ (one : Inner). one.variables) seen_behind

    measured_behind : Longer (outer_view old).types later → IsAmong (length later) (type_view found)
        → IsMeasured (outer_view old).types old.spellings.now inner
        → IsMeasured later old.spellings.now with_counted
    measured_behind longer there h =
        let now : IsMeasured later old.spellings.now inner =
        measured_longer (outer_view old).types later old.spellings.now inner longer h in
        record {
          names = subst (AreThere (length later)) (sym names_behind)
              (there_append (length later) inner.names (named_slots local (length variables) more) now.names
              (local_there (length later) (length variables) more));
          variables = subst (AreTyped (length later)) (sym variables_behind)
              (typed_append (length later) variables more now.variables
              (local_typed (length later) (mode_view mode) (type_view found) there spelled));
          cells_are = all_cells old.spellings.now mode found idents
              (record inner { cells = counted (cells_together later (variables ++ more)) })
              ∙ ap (λ (all : List Variable). counted (cells_together later all)) (sym variables_behind);
        }

    clear_behind_all : old.inner ≡ Some inner → IsClear (scopes_view old) → IsClear (scopes_view behind)
    clear_behind_all inside clear name =
        let outside : Option Entity = or_else (entity_in old.names name) (entity_in required name) in
        subst (λ (all : List Named). or_else (entity_in all name) outside ≢ Some unclear) (sym names_behind)
        (clear_each inner.names (named_slots local (length variables) more) name outside
        (local_known (length variables) more)
        (λ is. clear name (ap (λ (one : Option CodeInner).
        or_else (entity_in (names_inside (option_map (inner_view old.spellings.now) one)) name) outside) inside ∙ is)))

    pub within_behind : Longer (outer_view old).types later → IsAmong (length later) (type_view found)
        → IsWithin inner old → IsWithin with_counted behind
    within_behind longer there h = record {
      inside = refl;
      clear = clear_behind_all h.inside h.clear;
      lawful = lawful_longer old types (Some with_counted) longer h.lawful;
      measured = measured_behind longer there h.measured;
    }
