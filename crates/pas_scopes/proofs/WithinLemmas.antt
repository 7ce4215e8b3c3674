-- Variables of one type that a routine declares: what is answered of them, by what is answered of their parts.
use Rattle.std.proofs.Common.{◌≡◌, sym, ap, subst, ◌∙◌, ℕ, false, List, [], ◌++◌, map, length}
use Rattle.std.proofs.Common.{Option, Some, Result, Ok, Err, OnOk}
use Rattle.std.specs.Prelude.{option_map}
use Rattle.pas_tokens.specs.Cutting.{Wrong}
use Rattle.pas_syntax.specs.Tree.{TypeForm, VariableRow}
use Rattle.pas_syntax.specs.Words.{Word, idents_words, type_words, variable_row_words}
use Rattle.pas_syntax.specs.Views.{ident_in, separated_in}
use Rattle.pas_syntax.specs.ProgramViews.{variable_row_in}
use Rattle.pas_syntax.specs.declared.tree.Ident.{Ident as CodeIdent}
use Rattle.pas_syntax.specs.declared.tree.Separated.{Separated as CodeSeparated}
use Rattle.pas_syntax.specs.declared.tree.VariableRow.{VariableRow as CodeRow}
use Rattle.pas_typed.specs.declared.types.PasType.{PasType as CodePasType}
use Rattle.pas_typed.specs.declared.types.Structure.{Structure as CodeStructure}
use Rattle.pas_typed.specs.declared.typed.Mode.{Mode as CodeMode}
use Rattle.pas_typed.specs.declared.typed.Mode.TheVariants as code_mode
use Rattle.pas_typed.specs.Types.{Made}
use Rattle.pas_typed.specs.Typed.{declared}
use Rattle.pas_typed.specs.Shapes.{IsAmong}
use Rattle.pas_typed.specs.TypeViews.{type_view, table_view, counted}
use Rattle.pas_typed.specs.TypedViews.{mode_view, variable_view}
use Rattle.pas_scopes.specs.declared.judged.Judged.{Judged as CodeJudged}
use Rattle.pas_scopes.specs.declared.scopes.Inner.{Inner as CodeInner}
use Rattle.pas_scopes.specs.declared.scopes.Scopes.{Scopes as CodeScopes}
use Rattle.pas_scopes.specs.declared.stop.Stop.{Stop}
use Rattle.pas_rules.specs.Marks.{Judged, noted, known}
use Rattle.pas_rules.specs.Scopes.{Inner, Scopes, entity_of, names_of, names_inside, spellings_of, new_names}
use Rattle.pas_rules.specs.TypeForms.{form_of}
use Rattle.pas_rules.specs.Declarations.{variables_of, cells_together, local_only, with_locals, routine_scopes}
use Rattle.pas_rules.specs.Declarations.{InnerStage, local_row, types_behind}
use Rattle.pas_scopes.specs.ScopeViews.{outer_view, inner_view, scopes_view, made_view, all_idents, IsClear, Agrees}
use Rattle.pas_scopes.specs.Answers.{end_in, EndsAs, StopsBy, FailsBy, IsQuiet, Settles}
use Rattle.pas_scopes.specs.NameAnswers.{AreNewNames, AreNew}
use Rattle.pas_scopes.specs.Locals.{with_all, IsMeasured, IsWithin, Leaves, Passes}
use Rattle.pas_rules.proofs.AsMany.{AsMany}
use Rattle.pas_rules.proofs.TypesAsMany.{form_many}
use Rattle.pas_scopes.proofs.AnswerLemmas.{noted_stops_by, stops_fails}
use Rattle.pas_scopes.proofs.CountedLemmas.{Longer, IsMade, form_made, named_routine}
use Rattle.pas_scopes.proofs.AddedLemmas.{seen, seen_all}
use Rattle.pas_scopes.proofs.GlobalRowLemmas.{names_alone, fresh_alone}
use Rattle.pas_scopes.proofs.LocalRowLemmas.{whole_fails, row_names_fail, row_type_fails, row_quiet, measured_longer}
use Rattle.pas_scopes.proofs.LocalRowLemmas.{with_counted, seen_behind, within_behind}

-- what is answered where variables are added
abbrev pub AddAnswers : CodeScopes → CodeSeparated CodeIdent → CodeMode → CodeJudged CodePasType
    → Result (Unit {0}) Stop → Type 0
AddAnswers scopes names mode made result =
    (words : List Word) (part : Judged Made) (inner : CodeInner) → scopes.inner ≡ Some inner
    → inner.cells ≡ counted (cells_together (table_view scopes.spellings.now scopes.types)
    (map (variable_view scopes.spellings.now) inner.variables))
    → EndsAs words part (made_view scopes made.value) (end_in made.end)
    → Settles words (noted (local_only (inner_view scopes.spellings.now inner) (mode_view mode)
    (spellings_of (separated_in (ident_in scopes.spellings.now) names))) part)
    (λ _. made_view scopes made.value) result

abbrev pub Added : CodeScopes → CodeSeparated CodeIdent → CodeMode → CodeJudged CodePasType → CodeScopes → Type 0
Added scopes names mode made new =
    (inner : CodeInner) → scopes.inner ≡ Some inner
    → inner.cells ≡ counted (cells_together (table_view scopes.spellings.now scopes.types)
    (map (variable_view scopes.spellings.now) inner.variables))
    → new.inner ≡ Some (with_all scopes.spellings.now mode made.value (all_idents names)
    (record inner {
      cells = counted (cells_together
          (table_view scopes.spellings.now scopes.types)
          (map (variable_view scopes.spellings.now) inner.variables ++ variables_of (mode_view mode)
          (type_view made.value) (spellings_of (separated_in (ident_in scopes.spellings.now) names))));
    }))

-- scopes in a routine as the definition has them
module _ (old : CodeScopes) (inner : CodeInner) where
  abbrev pub seen_inner : Inner
  seen_inner = inner_view old.spellings.now inner

  abbrev pub seen_scopes : Scopes
  seen_scopes = routine_scopes (outer_view old) seen_inner

  abbrev pub form_in : TypeForm → Judged Made
  form_in written = form_of seen_scopes (outer_view old).types written

  module _ (h : IsWithin inner old) where
    pub seen_is : scopes_view old ≡ seen_scopes
    seen_is =
        ap (λ (one : Option CodeInner).
        record { outer = outer_view old; inner = option_map (inner_view old.spellings.now) one }) h.inside

    pub seen_agrees : Agrees seen_scopes (scopes_view old)
    seen_agrees name = ap (λ (s : Scopes). entity_of s name) (sym seen_is)

    pub seen_clear : IsClear seen_scopes
    seen_clear = subst IsClear seen_is h.clear

    pub taken_is : names_of (names_inside (scopes_view old).inner) ≡ names_of inner.names
    taken_is = ap (λ (s : Scopes). names_of (names_inside s.inner)) seen_is

    pub made_in : (written : TypeForm) (found : Made) → (form_in written).value ≡ Some found
        → IsMade (outer_view old).types (Some found)
    made_in written found is =
        subst (IsMade (outer_view old).types) is
        (form_made seen_scopes (outer_view old).types
        (named_routine (length (outer_view old).types) (outer_view old) seen_inner h.lawful.counted_is.names
        h.measured.names) written)

-- variables that are added over types that a type expression made
module _ (old : CodeScopes) (inner : CodeInner) (h : IsWithin inner old) (names : CodeSeparated CodeIdent)
    (mode : CodeMode) (made : CodeJudged CodePasType) (types : List CodeStructure) where
  abbrev grown : CodeScopes
  grown = record old { types = types }

  abbrev spelled : List (List ℕ)
  spelled = spellings_of (separated_in (ident_in old.spellings.now) names)

  abbrev demand : Made → List Wrong
  demand = local_only (seen_inner old inner) (mode_view mode) spelled

  abbrev value : Made
  value = made_view grown made.value

  module _ (longer : Longer (outer_view old).types (outer_view grown).types) (there : IsAmong
      (length (outer_view grown).types) (type_view made.value)) where
    cells_there : inner.cells ≡ counted (cells_together (outer_view grown).types
        (map (variable_view old.spellings.now) inner.variables))
    cells_there =
        let now : IsMeasured (outer_view grown).types old.spellings.now inner =
        measured_longer (outer_view old).types (outer_view grown).types old.spellings.now inner longer h.measured in
        now.cells_are

    -- they are refused
    pub added_fails : (words : List Word) (part : Judged Made) (why : Stop) → AddAnswers grown names mode made (Err why)
        → EndsAs words part value (end_in made.end) → (end_in made.end).is_short ≡ false
        → FailsBy words (noted demand part).marks why
    added_fails words part why answers ends whole =
        whole_fails words demand part value (end_in made.end) whole ends why
        (answers words part inner h.inside cells_there ends)

    pub added_quiet : (words : List Word) (part : Judged Made) → AddAnswers grown names mode made (Ok tt)
        → EndsAs words part value (end_in made.end) → IsQuiet words (noted demand part).marks false
    added_quiet words part answers ends = (answers words part inner h.inside cells_there ends).quiet

    -- the scopes behind them
    pub added_leaves : (new : CodeScopes) → new ≡ record grown { inner = new.inner }
        → Added grown names mode made new → AreNew (names_of inner.names) spelled → (stage : InnerStage)
        → stage.table ≡ (outer_view grown).types
        → stage.inner ≡ with_locals (mode_view mode) spelled (Some (type_view made.value)) (seen_inner old inner)
        → Leaves stage new
    added_leaves new kept added fresh stage table_is stage_is =
        let idents : List CodeIdent = all_idents names in
        let all : spelled ≡ seen old.spellings.now idents = seen_all old.spellings.now names in
        let last : CodeInner = with_counted old inner types mode made.value idents in
        let fresh_seen : AreNew (names_of inner.names) (seen old.spellings.now idents) =
        subst (AreNew (names_of inner.names)) all fresh in
        let inner_is : new.inner ≡ Some last =
        added inner h.inside cells_there
        ∙ ap (λ (spellings : List (List ℕ)). Some (with_all old.spellings.now mode made.value idents
        (record inner {
          cells = counted (cells_together (outer_view grown).types
              (map (variable_view old.spellings.now) inner.variables
              ++ variables_of (mode_view mode) (type_view made.value) spellings));
        }))) all in
        let new_is : new ≡ record grown { inner = Some last } =
        kept ∙ ap (λ (one : Option CodeInner). record grown { inner = one }) inner_is in
        subst (Leaves stage) (sym new_is) (record {
          inner = last;
          within = within_behind old inner types mode made.value idents fresh_seen longer there h;
          inner_is = seen_behind old inner types mode made.value idents fresh_seen
              ∙ (ap (λ (spellings : List (List ℕ)).
              with_locals (mode_view mode) spellings (Some (type_view made.value)) (seen_inner old inner)) (sym all)
              ∙ sym stage_is);
          table_is = sym table_is;
        })

-- a row
module _ (old : CodeScopes) (inner : CodeInner) (row : CodeRow) where
  abbrev pub found_row : VariableRow
  found_row = variable_row_in old.spellings.now row

  abbrev pub row_stage : InnerStage
  row_stage = local_row (outer_view old) (outer_view old).types (seen_inner old inner) found_row

  abbrev form : Judged Made
  form = form_in old inner found_row.form

  abbrev row_words : List Word
  row_words = variable_row_words found_row

  abbrev row_spelled : List (List ℕ)
  row_spelled = spellings_of found_row.names

  abbrev row_demand : Made → List Wrong
  row_demand = local_only (seen_inner old inner) declared row_spelled

  many : AsMany (type_words 0 found_row.form) form.marks
  many = form_many (seen_scopes old inner) (outer_view old).types 0 found_row.form

  module _ (h : IsWithin inner old) (before : List (List ℕ)) (none : before ≡ []) where
    names_in : (result : Result (Unit {0}) Stop)
        → AreNewNames (names_of (names_inside (scopes_view old).inner) ++ before) found_row.names result
        → AreNewNames (names_of inner.names) found_row.names result
    names_in result answer =
        subst (λ (taken : List (List ℕ)). AreNewNames taken found_row.names result) (taken_is old inner h)
        (names_alone (names_of (names_inside (scopes_view old).inner)) before found_row.names result none answer)

    pub names_fail : (why : Stop)
        → AreNewNames (names_of (names_inside (scopes_view old).inner) ++ before) found_row.names (Err why)
        → FailsBy row_words row_stage.marks why
    names_fail why answer =
        row_names_fail found_row (names_of inner.names) row_demand form many why (names_in (Err why) answer 0)

    module _ (free : AreNewNames (names_of (names_inside (scopes_view old).inner) ++ before) found_row.names (Ok tt))
      where
        still : IsQuiet (idents_words 0 found_row.names) (new_names (names_of inner.names) found_row.names) false
        still = names_in (Ok tt) free 0

        pub form_fails : (why : Stop)
            → (IsClear (seen_scopes old inner) → StopsBy (type_words 0 found_row.form) form why)
            → FailsBy row_words row_stage.marks why
        form_fails why stops =
            row_type_fails found_row (names_of inner.names) row_demand form many still why
            (stops_fails (type_words 0 found_row.form) (noted row_demand form) why
            (noted_stops_by (type_words 0 found_row.form) row_demand form why (stops (seen_clear old inner h))))

        module _ (made : CodeJudged CodePasType) (now : CodeScopes) (kept : now ≡ record old { types = now.types })
            (ends : EndsAs (type_words 0 found_row.form) form (made_view now made.value) (end_in made.end)) where
          there_made : EndsAs (type_words 0 found_row.form) form
              (made_view (record old { types = now.types }) made.value) (end_in made.end)
          there_made =
              subst (λ (scopes : CodeScopes). EndsAs (type_words 0 found_row.form) form
              (made_view scopes made.value) (end_in made.end)) kept ends

          is_made : IsMade (outer_view old).types (Some (made_view (record old { types = now.types }) made.value))
          is_made =
              made_in old inner h found_row.form (made_view (record old { types = now.types }) made.value)
              there_made.known

          pub add_fails : (why : Stop) → AddAnswers now row.names code_mode.Declared made (Err why)
              → (end_in made.end).is_short ≡ false → FailsBy row_words row_stage.marks why
          add_fails why answers whole =
              row_type_fails found_row (names_of inner.names) row_demand form many still why
              (added_fails old inner h row.names code_mode.Declared made now.types is_made.0 is_made.1
              (type_words 0 found_row.form) form why
              (subst (λ (scopes : CodeScopes). AddAnswers scopes row.names code_mode.Declared made (Err why)) kept
              answers)
              there_made whole)

          pub row_passes : (new : CodeScopes) → new ≡ record now { inner = new.inner }
              → AddAnswers now row.names code_mode.Declared made (Ok tt)
              → Added now row.names code_mode.Declared made new
              → AreNew (names_of (names_inside (scopes_view old).inner) ++ before) row_spelled
              → IsQuiet row_words row_stage.marks false × Leaves row_stage new
          row_passes new stays answers added fresh = (
            row_quiet found_row (names_of inner.names) row_demand form many still
                (added_quiet old inner h row.names code_mode.Declared made now.types is_made.0 is_made.1
                (type_words 0 found_row.form) form
                (subst (λ (scopes : CodeScopes). AddAnswers scopes row.names code_mode.Declared made (Ok tt)) kept
                answers)
                there_made),
            added_leaves old inner h row.names code_mode.Declared made now.types is_made.0 is_made.1 new
                (stays ∙ ap (λ (scopes : CodeScopes). record scopes { inner = new.inner }) kept)
                (subst (λ (scopes : CodeScopes). Added scopes row.names code_mode.Declared made new) kept added)
                (subst (λ (taken : List (List ℕ)). AreNew taken row_spelled) (taken_is old inner h)
                (fresh_alone (names_of (names_inside (scopes_view old).inner)) before row_spelled (Ok tt) none fresh))
                row_stage
                (ap (types_behind (outer_view old).types) there_made.known)
                (ap (λ (value : Option Made). with_locals declared row_spelled (known (λ what. what.type) value)
                (seen_inner old inner)) there_made.known),
          )

          pub row_returns : (new : CodeScopes) → new ≡ record now { inner = new.inner }
              → (result : Result (Unit {0}) Stop) → AddAnswers now row.names code_mode.Declared made result
              → OnOk result (Added now row.names code_mode.Declared made new) → (end_in made.end).is_short ≡ false
              → AreNew (names_of (names_inside (scopes_view old).inner) ++ before) row_spelled
              → Passes row_words row_stage new result
          row_returns new stays (Ok done) answers added whole fresh = row_passes new stays answers added fresh
          row_returns new stays (Err why) answers added whole fresh = add_fails why answers whole
