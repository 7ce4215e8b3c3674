-- The block of a routine: the scopes behind each of its parts, and what is answered of it.
use Rattle.std.proofs.Common.{◌≡◌, sym, ap, subst, ◌∙◌, ℕ, false, List, [], Option, Some, None, Result, Ok, Err}
use Rattle.pas_tokens.specs.declared.kinds.Kind.TheVariants as k
use Rattle.pas_syntax.specs.declared.tree.Compound.{Compound as CodeCompound}
use Rattle.pas_syntax.specs.declared.tree.Others.TheViews.{out-Compound}
use Rattle.pas_syntax.specs.Tree.{Compound, Labels, Rows, VariableRow}
use Rattle.pas_syntax.specs.ProgramViews.{compound_in, statements_in}
use Rattle.pas_syntax.specs.Words.{words_if, labels_words, rows_words, variable_row_words}
use Rattle.pas_typed.specs.declared.typed.Body.{Body as CodeBody}
use Rattle.pas_typed.specs.declared.typed.Labelled as code_labelled
use Rattle.pas_typed.specs.TypeViews.{table_view}
use Rattle.pas_typed.specs.TypedViews.{statements_view, body_view}
use Rattle.pas_scopes.specs.declared.scopes.Inner.{Inner as CodeInner}
use Rattle.pas_scopes.specs.declared.scopes.Scopes.{Scopes as CodeScopes}
use Rattle.pas_scopes.specs.declared.stop.Stop.{Stop}
use Rattle.pas_rules.specs.Scopes.{Outer, Inner}
use Rattle.pas_rules.specs.Declarations.{declared_labels, label_marks, local_rows, InnerStage}
use Rattle.pas_rules.specs.Routines.{Sort, inner_of}
use Rattle.pas_scopes.specs.ScopeViews.{outer_view, inner_view, scopes_view}
use Rattle.pas_scopes.specs.Answers.{IsQuiet}
use Rattle.pas_types.specs.inner.LabelViews.{Known, numbers_of, known_labels}
use Rattle.pas_scopes.specs.Locals.{IsWithin, Leaves, Passes}
use Rattle.pas_types.specs.inner.RoutineAnswers.{awaited_at, IsReady}
use Rattle.pas_types.specs.inner.BlockAnswers.{without_awaited, IsBody, begun, local_part, Leads, IsBlock}
use Rattle.pas_types.proofs.PlainSeen.{body_seen}
use Rattle.pas_types.proofs.EnterLemmas.{within_entered, outer_entered, inner_entered, entered}
use Rattle.pas_types.proofs.BlockSteps.{variables_fail, body_fails, there, labels_are, body_there, made}
use Rattle.pas_types.proofs.BlockSteps.{block_leads, clear_outside}

-- what is answered of the variables in these scopes
abbrev pub PassesFrom : CodeScopes → CodeScopes → (List ℕ → Option (Rows VariableRow)) → Result (Unit {0}) Stop → Type 0
PassesFrom within now rows result = (one : CodeInner) → IsWithin one within
    → Passes (words_if (rows_words k.Var variable_row_words) (rows within.spellings.now))
    (local_rows (outer_view within) (inner_view within.spellings.now one) (rows within.spellings.now)) now result

module _ (old within now : CodeScopes) (ready : IsReady old) (inner : CodeInner) (number : ℕ) (sort : Sort)
    (labels : Option Labels) (rows : List ℕ → Option (Rows VariableRow)) (block : CodeCompound) (line : ℕ)
    (waits : awaited_at old.routines.items number ≡ Some inner)
    (inside : within.inner ≡ Some (record inner { labels = declared_labels labels }))
    (routines_are : within.routines.items ≡ without_awaited number old.routines.items)
    (kept : within ≡ record old { routines = within.routines; inner = within.inner })
    (still : IsQuiet (words_if labels_words labels) (label_marks labels) false) where
  abbrev spellings : List ℕ
  spellings = old.spellings.now

  abbrev outer : Outer
  outer = outer_view old

  abbrev variables : Option (Rows VariableRow)
  variables = rows spellings

  abbrev body : Compound
  body = compound_in spellings block

  abbrev part : InnerStage
  part = local_part outer number sort labels variables body line

  abbrev begins : Outer
  begins = begun outer number sort labels variables body line

  abbrev Block : CodeScopes → Result CodeBody Stop → Type 0
  Block new result = IsBlock outer number sort labels variables body line (body_view spellings) new result

  same_spellings : within.spellings.now ≡ spellings
  same_spellings = ap (λ (s : CodeScopes). s.spellings.now) kept

  outer_within : outer_view within ≡ begins
  outer_within =
      outer_entered old within ready inner number (declared_labels labels) waits inside routines_are kept

  -- what is answered of the variables
  abbrev pub PassesAt : List ℕ → Outer → Inner → Result (Unit {0}) Stop → Type 0
  PassesAt seen from one result =
      Passes (words_if (rows_words k.Var variable_row_words) (rows seen)) (local_rows from one (rows seen)) now result

  abbrev PassesWithin : Result (Unit {0}) Stop → Type 0
  PassesWithin result = PassesFrom within now rows result

  pub passes_there : (result : Result (Unit {0}) Stop) → PassesWithin result
      → PassesAt spellings begins (inner_of begins number (declared_labels labels)) result
  passes_there result p =
      let one : CodeInner =
      entered old within ready inner number (declared_labels labels) waits inside routines_are kept in
      let is_within : IsWithin one within =
      within_entered old within ready inner number (declared_labels labels) waits inside routines_are kept in
      subst (λ (seen : List ℕ). PassesAt seen begins (inner_of begins number (declared_labels labels)) result)
      same_spellings
      (subst (λ (seen : Inner). PassesAt within.spellings.now begins seen result)
      (inner_entered old within ready inner number (declared_labels labels) waits inside routines_are kept)
      (subst (λ (from : Outer). PassesAt within.spellings.now from (inner_view within.spellings.now one) result)
      outer_within (p one is_within)))

  pub variables_stop : (why : Stop) → PassesWithin (Err why) → Block now (Err why)
  variables_stop why p =
      variables_fail outer number sort labels variables body line still why (passes_there (Err why) p)

  -- behind them
  module _ (passes : PassesWithin (Ok tt)) (kept_on : now ≡ record within { types = now.types; inner = now.inner })
    where
      abbrev passed : IsQuiet (words_if (rows_words k.Var variable_row_words) variables) part.marks false
      passed = (passes_there (Ok tt) passes).0

      abbrev pub leaves : Leaves part now
      leaves = (passes_there (Ok tt) passes).1

      pub now_spellings : now.spellings.now ≡ spellings
      now_spellings = ap (λ (s : CodeScopes). s.spellings.now) kept_on ∙ same_spellings

      outer_now : outer_view now ≡ record begins { types = (outer_view now).types }
      outer_now =
          ap outer_view kept_on
          ∙ (ap (λ (from : Outer). record from { types = table_view within.spellings.now now.types }) outer_within
          ∙ ap (λ (seen : List ℕ). record begins { types = table_view seen now.types })
          (sym (ap (λ (s : CodeScopes). s.spellings.now) kept_on)))

      pub labels_now : (known : Known) → known ≡ known_labels (declared_labels labels) [] []
          → known ≡ known_labels leaves.inner.labels [] []
      labels_now known is =
          is
          ∙ ap (λ (all : List ℕ). known_labels all [] [])
          (sym (labels_are outer number sort labels variables body line now leaves outer_now))

      pub program_now : (known : Known) → numbers_of known ≡ old.labels → numbers_of known ≡ now.labels
      program_now known is =
          is
          ∙ sym (ap (λ (s : CodeScopes). s.labels) kept_on ∙ ap (λ (s : CodeScopes). s.labels) kept)

      -- what is answered of the statements
      abbrev pub ListBody : Compound
      ListBody = record {
        begin = (out-Compound block).begin;
        list = statements_in now.spellings.now (out-Compound block).list;
        end = (out-Compound block).end;
      }

      abbrev pub IsBodyWithin : Result (List code_labelled.Labelled) Stop → Type 0
      IsBodyWithin result =
          IsBody (scopes_view now) sort leaves.inner.labels ListBody line (statements_view now.spellings.now) result

      closes : (result : Result (List code_labelled.Labelled) Stop) → IsBodyWithin result
          → IsBody (there outer number sort labels variables body line) sort (declared_labels labels) body line
          (statements_view now.spellings.now) result
      closes result h =
          body_there outer number sort labels variables body line now leaves outer_now
          (statements_view now.spellings.now) result
          (subst (λ (one : Compound). IsBody (scopes_view now) sort leaves.inner.labels one line
          (statements_view now.spellings.now) result)
          (sym (body_seen now.spellings.now block) ∙ ap (λ (seen : List ℕ). compound_in seen block) now_spellings) h)

      pub statements_stop : (why : Stop) → IsBodyWithin (Err why) → Block now (Err why)
      statements_stop why h =
          body_fails outer number sort labels variables body line still passed why (closes (Err why) h)

      pub block_done : (statements : List code_labelled.Labelled) → IsBodyWithin (Ok statements)
          → (new : CodeScopes) (found : CodeBody) → new ≡ record now { inner = None }
          → found ≡ record {
            routine = leaves.inner.number;
            variables = leaves.inner.variables;
            labels = leaves.inner.labels;
            statements = statements;
          }
          → Block new (Ok found)
      block_done statements h new found new_is found_is =
          let names_are = ap (λ (s : CodeScopes). s.names) kept_on ∙ ap (λ (s : CodeScopes). s.names) kept in
          let behind : CodeScopes = record now { inner = None } in
          let all : CodeBody = made outer number sort labels variables body line now leaves outer_now statements in
          subst (λ (one : CodeBody). Block new (Ok one)) (sym found_is)
          (subst (λ (s : CodeScopes). Block s (Ok all)) (sym new_is)
          (subst (λ (seen : List ℕ). Leads outer number sort labels variables body line (body_view seen) behind all)
          now_spellings
          (block_leads outer number sort labels variables body line now leaves outer_now
          (clear_outside old now names_are ready.alone ready.clear) still passed statements (closes (Ok statements) h))))
