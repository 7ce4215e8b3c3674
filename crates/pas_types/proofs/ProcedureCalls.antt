-- What the call of a procedure is, by what its name stands for.
use Rattle.std.proofs.Common.{◌≡◌, refl, sym, ap, subst, ℕ, suc, ◌+◌, arith, List, [], ◌∷◌, length, map}
use Rattle.std.proofs.Common.{Option, Some, None}
use Rattle.std.specs.Prelude.{◌≢◌, option_map}
use Rattle.std.proofs.lemmas.List.{length-append}
use Rattle.wb_base.specs.declared.faults.TheConstants.{WRONG_TYPE}
use Rattle.pas_tokens.specs.declared.kinds.Kind.TheVariants as k
use Rattle.pas_tokens.specs.Cutting.{Wrong, wrong}
use Rattle.pas_tokens.specs.Tokens.{fault_in}
use Rattle.pas_syntax.specs.Tree as tree
use Rattle.pas_syntax.specs.Tree.{Ident, Arguments}
use Rattle.pas_syntax.specs.Words.{Word, at, plain_words, separated, argument_words}
use Rattle.pas_typed.specs.declared.typed.Heading.{Heading as CodeHeading}
use Rattle.pas_typed.specs.declared.types.PasType.{PasType as CodePasType}
use Rattle.pas_typed.specs.TypeViews.{type_view}
use Rattle.pas_typed.specs.TypedViews.{heading_view, variable_view}
use Rattle.pas_typed.specs.Typed as typed
use Rattle.pas_typed.specs.Typed.{Heading, Statement}
use Rattle.pas_scopes.specs.declared.names.Entity.{Entity as CodeEntity}
use Rattle.pas_scopes.specs.declared.names.Entity.TheVariants as code
use Rattle.pas_rules.specs.Marks.{Judged, judged, known}
use Rattle.pas_rules.specs.Scopes.{Scopes, unclear}
use Rattle.pas_scopes.specs.NameViews.{entity_view}
use Rattle.pas_rules.specs.Expressions.{Given, called, not_called, heading_of, given, demands_of, passed_to}
use Rattle.pas_rules.specs.Calls.{Actual, actuals_of, without_width, procedure_with, routine_with, call_by}
use Rattle.pas_scopes.specs.Answers.{Shows, Means}
use Rattle.pas_scopes.specs.Arguments.{passing_part}
use Rattle.pas_rules.proofs.AsMany.{total, count}
use Rattle.pas_rules.proofs.ExpressionsAsMany.{not_called_count, plain_marks}
use Rattle.pas_rules.proofs.CallsAsMany.{actuals_total}

-- a name that may not be called so
pub refused_statement : (scopes : Scopes) (n : ℕ) (name : Ident) (arguments : Arguments) (refusal : Wrong)
    → Shows (plain_words n (tree.procedure_call name (Some arguments)))
    (not_called (refusal ∷ []) (map without_width (actuals_of scopes arguments.items))) (fault_in name.line refusal)
refused_statement scopes n name arguments refusal =
    let givens : List Given = map without_width (actuals_of scopes arguments.items) in
    let words : List Word = separated (n + 1) k.Comma (argument_words (n + 1)) arguments.items in
    let close : Word = at (n + 1) k.RightParenthesis arguments.closed in
    let sum : total (map plain_marks givens) ≡ suc (length words) = actuals_total scopes (n + 1) arguments.items in
    let all : count (not_called (refusal ∷ []) givens) ≡ suc (suc (total (map plain_marks givens))) =
    not_called_count (refusal ∷ []) givens (omega (arith, sum)) in
    record { many = omega (arith, sum, all, length-append words (close ∷ [])); first = refl }

-- what a name stands for that may not be called so
pub other_statement : (scopes : Scopes) (actuals : List Actual) (entity : CodeEntity)
    → ((number : ℕ) → entity ≡ code.Routine number → ⊥) → ((step : _) → entity ≡ code.FileStep step → ⊥)
    → ((found : _) → entity ≡ code.Procedure found → ⊥) → entity_view entity ≢ unclear
    → call_by scopes actuals (Some (entity_view entity))
    ≡ judged (not_called (wrong WRONG_TYPE ∷ []) (map without_width actuals)) None
other_statement scopes actuals (code.Constant base value) h k l clear = refl
other_statement scopes actuals (code.Type found) h k l clear = refl
other_statement scopes actuals (code.Variable slot) h k l clear = refl
other_statement scopes actuals (code.Routine number) h k l clear = absurd (h number refl)
other_statement scopes actuals (code.Function found) h k l clear = refl
other_statement scopes actuals (code.FileTest test) h k l clear = refl
other_statement scopes actuals (code.FileStep step) h k l clear = absurd (k step refl)
other_statement scopes actuals (code.Procedure found) h k l clear = absurd (l found refl)
other_statement scopes actuals code.Unclear h k l clear = absurd (clear refl)

-- what a part means becomes something else
pub made_means : {A B : Type 0} (words : List Word) (make : A → B) (part : Judged A) (value : A)
    → Means words part value → Means words (judged part.marks (known make part.value)) (make value)
made_means words make part value h = record { known = ap (known make) h.known; quiet = h.quiet }

known_twice : {A B C : Type 0} (make : B → C) (first : A → B) (found : Option A)
    → known make (known first found) ≡ known (λ value. make (first value)) found
known_twice make first None = refl
known_twice make first (Some value) = refl

module _ (scopes : Scopes) (spellings : List ℕ) (arguments : List Given) (number : ℕ) (heading : CodeHeading)
    (is : Some (heading_view spellings heading) ≡ heading_of scopes number) where
  abbrev pub called_part : Judged Statement
  called_part =
      let part = passing_part scopes.outer.types (map (variable_view spellings) heading.parameters) arguments in
      judged part.marks (known (typed.calls number) part.value)

  pub called_procedure : heading.result ≡ None → (P : Judged Statement → Type 0) → P called_part
      → P (routine_with scopes number arguments (heading_of scopes number))
  called_procedure result P h =
      let parameters = map (variable_view spellings) heading.parameters in
      let demands = demands_of scopes.outer.types parameters in
      subst (λ (found : Option Heading). P (routine_with scopes number arguments found)) is
      (subst (λ (found : Option CodePasType). P (procedure_with scopes number (heading_view spellings heading) arguments
      (option_map type_view found))) (sym result)
      (subst (λ (found : Option Statement). P (judged (called demands arguments) found))
      (known_twice (typed.calls number) (passed_to parameters) (given demands arguments)) h))

  pub called_function : (type : CodePasType) → heading.result ≡ Some type → (P : Judged Statement → Type 0)
      → P (judged (not_called (wrong WRONG_TYPE ∷ []) arguments) None)
      → P (routine_with scopes number arguments (heading_of scopes number))
  called_function type result P h =
      subst (λ (found : Option Heading). P (routine_with scopes number arguments found)) is
      (subst (λ (found : Option CodePasType). P (procedure_with scopes number (heading_view spellings heading) arguments
      (option_map type_view found))) (sym result) h)
