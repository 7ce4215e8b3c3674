-- The block of a routine: what is answered of it, by what was answered of its parts.
use Rattle.std.proofs.Common.{◌≡◌, refl, sym, ap, subst, ◌∙◌, ℕ, false, List, [], ◌∷◌, ◌++◌, map, Option, Some, None}
use Rattle.std.proofs.Common.{Result, Ok}
use Rattle.std.specs.Prelude.{option_map}
use Rattle.pas_tokens.specs.Cutting.{Wrong}
use Rattle.pas_tokens.specs.declared.kinds.Kind.TheVariants as k
use Rattle.pas_syntax.specs.Tree.{Compound, Labels, Rows, VariableRow}
use Rattle.pas_syntax.specs.Words.{Word, at, words_if, labels_words, rows_words, variable_row_words}
use Rattle.pas_typed.specs.declared.typed.Body.{Body as CodeBody}
use Rattle.pas_typed.specs.declared.typed.Labelled as code_labelled
use Rattle.pas_typed.specs.Types.{Table}
use Rattle.pas_typed.specs.Typed as typed
use Rattle.pas_typed.specs.Typed.{Variable}
use Rattle.pas_typed.specs.TypedViews.{statements_view, variable_view, body_view}
use Rattle.pas_scopes.specs.declared.scopes.Inner.{Inner as CodeInner}
use Rattle.pas_scopes.specs.declared.scopes.Scopes.{Scopes as CodeScopes}
use Rattle.pas_scopes.specs.declared.stop.Stop.{Stop}
use Rattle.pas_rules.specs.Marks.{Marks, quiet, shows, joined, known}
use Rattle.pas_rules.specs.Scopes.{Named, Scopes, Outer, Inner, entity_in, or_else, names_inside, required}
use Rattle.pas_rules.specs.Labels.{labels_of_list}
use Rattle.pas_rules.specs.Declarations.{declared_labels, label_marks, routine_scopes, InnerStage}
use Rattle.pas_rules.specs.Routines.{Sort, inner_of, body_made}
use Rattle.pas_scopes.specs.ScopeViews.{outer_view, inner_view, scopes_view, IsClear}
use Rattle.pas_scopes.specs.Answers.{FailsBy, IsQuiet}
use Rattle.pas_scopes.specs.Locals.{Leaves}
use Rattle.pas_types.specs.inner.BlockAnswers.{list_in, end_faults, body_marks, closed_words, IsBody, begun, local_part}
use Rattle.pas_types.specs.inner.BlockAnswers.{ended, block_marks, block_words, Leads}
use Rattle.pas_rules.proofs.AsMany.{AsMany, one, and_then, all, next_word}
use Rattle.pas_rules.proofs.StatementsAsMany.{statements_many}
use Rattle.pas_rules.proofs.DeclarationsAsMany.{labels_many, local_rows_many}
use Rattle.pas_scopes.proofs.SettleLemmas.{quiet_behind}
use Rattle.pas_scopes.proofs.LocalRowLemmas.{fails_front, fails_behind}
use Rattle.pas_scopes.proofs.WithinLemmas.{seen_is}
use Rattle.pas_types.proofs.EnterLemmas.{rows_stay}

pub closed_many : (scopes : Scopes) (sort : Sort) (labels : List ℕ) (body : Compound) (line : ℕ)
    → AsMany (closed_words scopes sort labels body line) (body_marks scopes sort labels body line)
closed_many scopes sort labels body line =
    let list : Marks = (list_in scopes sort labels body line).marks in
    let faults : List Wrong = end_faults scopes sort labels body line in
    next_word (at 1 k.Begin body.begin) [] (joined (list ∷ shows faults ∷ quiet ∷ []))
    (and_then list (joined (shows faults ∷ quiet ∷ []))
    (statements_many scopes 1 (labels_of_list body.list) [] body.list)
    (next_word (at 1 k.End body.end) faults (joined (quiet ∷ [])) (all quiet (one (at 0 k.Semicolon line) []))))

module _ (outer : Outer) (number : ℕ) (sort : Sort) (labels : Option Labels) (variables : Option (Rows VariableRow))
    (body : Compound) (line : ℕ) where
  abbrev numbers : List ℕ
  numbers = declared_labels labels

  abbrev part : InnerStage
  part = local_part outer number sort labels variables body line

  abbrev pub there : Scopes
  there = routine_scopes (ended outer number sort labels variables body line) part.inner

  abbrev at_labels : List Word
  at_labels = words_if labels_words labels

  abbrev at_variables : List Word
  at_variables = words_if (rows_words k.Var variable_row_words) variables

  abbrev closed : List Word
  closed = closed_words there sort numbers body line

  abbrev closed_marks : Marks
  closed_marks = body_marks there sort numbers body line

  abbrev rest : Marks
  rest = joined (part.marks ∷ quiet ∷ (list_in there sort numbers body line).marks
      ∷ shows (end_faults there sort numbers body line) ∷ quiet ∷ [])

  abbrev pub Fails : Stop → Type 0
  Fails why =
      FailsBy (block_words outer number sort labels variables body line)
      (block_marks outer number sort labels variables body line) why

  many : AsMany closed closed_marks
  many = closed_many there sort numbers body line

  rest_many : AsMany (at_variables ++ closed) rest
  rest_many =
      and_then part.marks closed_marks
      (local_rows_many (begun outer number sort labels variables body line)
      (inner_of (begun outer number sort labels variables body line) number numbers) variables) many

  pub block_many : AsMany (block_words outer number sort labels variables body line)
      (block_marks outer number sort labels variables body line)
  block_many = and_then (label_marks labels) rest (labels_many labels) rest_many

  pub labels_fail : (why : Stop) → FailsBy at_labels (label_marks labels) why → Fails why
  labels_fail why h = fails_front at_labels (at_variables ++ closed) (label_marks labels) rest rest_many why h

  module _ (still : IsQuiet at_labels (label_marks labels) false) where
    pub variables_fail : (why : Stop) → FailsBy at_variables part.marks why → Fails why
    variables_fail why h =
        fails_behind at_labels (at_variables ++ closed) (label_marks labels) rest still why
        (fails_front at_variables closed part.marks closed_marks many why h)

    module _ (passed : IsQuiet at_variables part.marks false) where
      pub body_fails : (why : Stop) → FailsBy closed closed_marks why → Fails why
      body_fails why h =
          fails_behind at_labels (at_variables ++ closed) (label_marks labels) rest still why
          (fails_behind at_variables closed part.marks closed_marks passed why h)

      pub all_quiet : IsQuiet closed closed_marks false
          → IsQuiet (block_words outer number sort labels variables body line)
          (block_marks outer number sort labels variables body line) false
      all_quiet h =
          quiet_behind at_labels (at_variables ++ closed) (label_marks labels) rest false still
          (quiet_behind at_variables closed part.marks closed_marks false passed h)

  -- the scopes in the routine behind its variables, and what is answered of its statements there
  module _ (now : CodeScopes) (leaves : Leaves part now)
      (outer_is : outer_view now ≡ record (begun outer number sort labels variables body line) {
        types = (outer_view now).types;
      }) where
    abbrev inner : CodeInner
    inner = leaves.inner

    ended_there : outer_view now ≡ ended outer number sort labels variables body line
    ended_there =
        outer_is
        ∙ ap (λ (table : Table). record (begun outer number sort labels variables body line) { types = table })
        leaves.table_is

    pub scopes_are : scopes_view now ≡ there
    scopes_are =
        seen_is now inner leaves.within
        ∙ (ap (λ (one : Inner). routine_scopes (outer_view now) one) leaves.inner_is
        ∙ ap (λ (one : Outer). routine_scopes one part.inner) ended_there)

    pub labels_are : inner.labels ≡ numbers
    labels_are =
        ap (λ (one : Inner). one.labels) leaves.inner_is
        ∙ (rows_stay (begun outer number sort labels variables body line)
        (inner_of (begun outer number sort labels variables body line) number numbers) variables).labels_are

    pub number_is : inner.number ≡ number
    number_is =
        ap (λ (one : Inner). one.number) leaves.inner_is
        ∙ (rows_stay (begun outer number sort labels variables body line)
        (inner_of (begun outer number sort labels variables body line) number numbers) variables).number_is

    pub body_there : (view : List code_labelled.Labelled → typed.Statements)
        (result : Result (List code_labelled.Labelled) Stop)
        → IsBody (scopes_view now) sort inner.labels body line view result
        → IsBody there sort numbers body line view result
    body_there view result h =
        subst (λ (s : Scopes). IsBody s sort numbers body line view result) scopes_are
        (subst (λ (all : List ℕ). IsBody (scopes_view now) sort all body line view result) labels_are h)

    -- its body
    abbrev pub made : List code_labelled.Labelled → CodeBody
    made statements = record {
      routine = inner.number;
      variables = inner.variables;
      labels = inner.labels;
      statements = statements;
    }

    abbrev bodies_with : typed.Statements → ℕ → List Variable → List ℕ → Option (List typed.Body)
    bodies_with statements n all numbers =
        Some (record { routine = n; variables = all; labels = numbers; statements = statements } ∷ [])

    seen_body : (statements : List code_labelled.Labelled)
        → Some (body_made number numbers part.inner (statements_view now.spellings.now statements))
        ≡ Some (body_view now.spellings.now (made statements) ∷ [])
    seen_body statements =
        let list : typed.Statements = statements_view now.spellings.now statements in
        let all : List Variable = map (variable_view now.spellings.now) inner.variables in
        ap (λ (n : ℕ). bodies_with list n part.inner.variables numbers) (sym number_is)
        ∙ (ap (λ (found : List Variable). bodies_with list inner.number found numbers)
        (sym (ap (λ (one : Inner). one.variables) leaves.inner_is))
        ∙ ap (λ (found : List ℕ). bodies_with list inner.number all found) (sym labels_are))

    -- behind it
    pub block_leads : IsClear (scopes_view (record now { inner = None }))
        → IsQuiet at_labels (label_marks labels) false → IsQuiet at_variables part.marks false
        → (statements : List code_labelled.Labelled)
        → IsBody there sort numbers body line (statements_view now.spellings.now) (Ok statements)
        → Leads outer number sort labels variables body line (body_view now.spellings.now)
        (record now { inner = None }) (made statements)
    block_leads clear still passed statements h = record {
      still = all_quiet still passed h.0;
      body_is = ap (known (body_made number numbers part.inner)) h.1 ∙ seen_body statements;
      ready = record {
        alone = refl;
        clear = clear;
        lawful = record { counted_is = leaves.within.lawful.counted_is; waiting = leaves.within.lawful.waiting };
      };
      outer_is = ended_there;
    }

-- the scope of the program is clear where no routine hides its names
pub clear_outside : (old now : CodeScopes) → now.names ≡ old.names → old.inner ≡ None → IsClear (scopes_view old)
    → IsClear (scopes_view (record now { inner = None }))
clear_outside old now names_are alone clear =
    λ name is.
    clear name
    (ap (λ (one : Option CodeInner).
    or_else (entity_in (names_inside (option_map (inner_view old.spellings.now) one)) name)
    (or_else (entity_in old.names name) (entity_in required name))) alone
    ∙ (ap (λ (all : List Named). or_else (entity_in all name) (entity_in required name)) (sym names_are) ∙ is))
