-- Variables of a routine that are declared, and the scope behind them.
use Rattle.std.proofs.Common.{◌≡◌, refl, sym, ap, ◌∙◌, ℕ, ◌+◌, ◌<◌, List, [], ◌∷◌, ◌++◌, length, get_or, Bool}
use Rattle.std.proofs.Common.{true, false, Option, Some, None}
use Rattle.std.specs.Prelude.{option_map, unwrap_or, nat_le, if◌then◌else◌, not}
use Rattle.std.proofs.Common.{subst, suc, map, length-append}
use Rattle.std.proofs.lemmas.List.{append_assoc, append-nil, map-append, length-map}
use Rattle.wb_base.specs.declared.faults.TheConstants.{DUPLICATE_NAME}
use Rattle.pas_tokens.specs.Cutting.{wrong}
use Rattle.pas_typed.specs.declared.typed.Variable.{Variable as CodeVariable}
use Rattle.pas_typed.specs.Typed.{Variable, local}
use Rattle.pas_typed.specs.TypeViews.{type_view}
use Rattle.pas_typed.specs.TypedViews.{mode_view, variable_view}
use Rattle.pas_rules.specs.Marks.{unless}
use Rattle.pas_rules.specs.Scopes.{Named, names_of, contains}
use Rattle.pas_rules.specs.Declarations.{variables_of, named_slots, with_locals}
use Rattle.pas_scopes.specs.ScopeViews.{inner_view}
use Rattle.pas_scopes.specs.DeclaredSoFar.{with_each}
use Rattle.pas_scopes.specs.NameAnswers.{AreNew}
use Rattle.pas_scopes.proofs.AddedLemmas.{seen}
use Rattle.std.proofs.lemmas.Bool.Decides.{nat_tests}
use Rattle.std.proofs.Common.{arith}
use Rattle.std.proofs.Common.{Result, Ok, Err}
use Rattle.wb_base.specs.declared.faults.Fault.{Fault}
use Rattle.pas_tokens.specs.Cutting.{Wrong}
use Rattle.pas_syntax.specs.Words.{Word}
use Rattle.pas_scopes.specs.declared.judged.Judged.{Judged as CodeJudged}
use Rattle.pas_scopes.specs.declared.stop.Stop.{Stop}
use Rattle.pas_scopes.specs.declared.stop.Stop.TheVariants as stop
use Rattle.pas_rules.specs.Marks.{Judged}
use Rattle.pas_scopes.specs.Answers.{settled_at}
use Rattle.pas_scopes.specs.FormAnswers.{FoundIf}
use Rattle.pas_scopes.specs.TypeAnswers.{AnswersIf}
use Rattle.pas_syntax.specs.declared.tree.Ident.{Ident as CodeIdent}
use Rattle.pas_syntax.specs.declared.tree.Behind.{Behind as CodeBehind}
use Rattle.pas_typed.specs.declared.types.PasType.{PasType as CodePasType}
use Rattle.pas_typed.specs.declared.typed.Mode.{Mode as CodeMode}
use Rattle.pas_typed.specs.Types.{PasType, Table, cells_of}
use Rattle.pas_typed.specs.Typed.{Mode, declared, by_value, by_name}
use Rattle.pas_typed.specs.TypeViews.{counted}
use Rattle.pas_rules.specs.declared.limits.TheConstants.{ROUTINE_CELL_LIMIT}
use Rattle.pas_scopes.specs.declared.scopes.Inner.{Inner as CodeInner}
use Rattle.pas_rules.specs.Declarations.{cells_of_variable, is_by_name}
use Rattle.pas_scopes.specs.Locals.{with_local, with_all, told}
use Rattle.pas_scopes.proofs.AddedLemmas.{so_far, so_far_more}

pub same_inner : (inner : Option CodeInner) (one other : CodeInner) → inner ≡ Some one → inner ≡ Some other
    → one ≡ other
same_inner inner one other h k = ap (λ (found : Option CodeInner). unwrap_or found one) (sym h ∙ k)

-- the limit is far below what the code counts to
pub routine_limit_counted : (cells : ℕ) → nat_le cells ROUTINE_CELL_LIMIT ≡ nat_le (counted cells) ROUTINE_CELL_LIMIT
routine_limit_counted cells = grind (arith, nat_tests)

-- the cells of a variable by whether it is by name
pub one_cell : (table : Table) (mode : Mode) (found : PasType) → is_by_name mode ≡ true
    → cells_of_variable table mode found ≡ 1
one_cell table declared found is = absurd (cc)
one_cell table by_value found is = absurd (cc)
one_cell table by_name found is = refl

pub own_cells : (table : Table) (mode : Mode) (found : PasType) → is_by_name mode ≡ false
    → cells_of_variable table mode found ≡ cells_of table found
own_cells table declared found is = refl
own_cells table by_value found is = refl
own_cells table by_name found is = absurd (cc)

-- one variable more
all_push : (spellings : List ℕ) (mode : CodeMode) (type : CodePasType) (idents : List CodeIdent) (last : CodeIdent)
    (inner : CodeInner)
    → with_all spellings mode type (idents ++ last ∷ []) inner
    ≡ with_local spellings mode type (with_all spellings mode type idents inner) last
all_push spellings mode type [] last inner = refl
all_push spellings mode type (first ∷ idents) last inner =
    all_push spellings mode type idents last (with_local spellings mode type inner first)

pub all_next : (spellings : List ℕ) (mode : CodeMode) (type : CodePasType) (inner : Option CodeInner)
    (first : CodeIdent) (more : List (CodeBehind CodeIdent)) (i : ℕ) (d : CodeBehind CodeIdent) → i < length more
    → option_map (λ (one : CodeInner). with_local spellings mode type one (get_or more i d).item)
    (option_map (with_all spellings mode type (so_far first more i)) inner)
    ≡ option_map (with_all spellings mode type (so_far first more (i + 1))) inner
all_next spellings mode type None first more i d within = refl
all_next spellings mode type (Some inner) first more i d within =
    ap Some (sym (ap (λ (idents : List CodeIdent). with_all spellings mode type idents inner)
    (so_far_more first more i d within)
    ∙ all_push spellings mode type (so_far first more i) (get_or more i d).item inner))

-- what is settled is what was found
pub settled_same : {X : Type 0} (line : ℕ) (refusal : Option Wrong) (is_short : Bool) (value found : X)
    → Ok found ≡ settled_at line refusal is_short value → found ≡ value
settled_same line None false value found is = cc
settled_same line None true value found is = cc
settled_same line (Some refusal) is_short value found is = cc

-- what was found of a type expression, where checking stops at a fault that is noted
pub found_told : {X A : Type 0} (Clear : Type 0) (words : List Word) (part : Judged A) (view : X → A)
    (noting : Option Fault) (found : Result (CodeJudged X) Stop) → FoundIf Clear words part view noting found
    → AnswersIf Clear words part view (told noting found)
found_told Clear words part view None (Ok found) h = h
found_told Clear words part view (Some fault) (Ok found) h = h
found_told Clear words part view None (Err stop.OutOfMemory) h = h
found_told Clear words part view None (Err (stop.Fault fault)) h = h
found_told Clear words part view None (Err stop.Missing) h = h
found_told Clear words part view (Some fault) (Err stop.OutOfMemory) h = h
found_told Clear words part view (Some fault) (Err (stop.Fault other)) h = h
found_told Clear words part view (Some fault) (Err stop.Missing) h = h

-- names that are new behind others
fresh_one : (b : Bool) (refusal : Wrong) → unless (not b) refusal ≡ [] → b ≡ false
fresh_one true refusal h = cc
fresh_one false refusal h = refl

each_fresh : (found more : List Named) → AreNew (names_of found) (names_of more)
    → with_each found more ≡ found ++ more
each_fresh found [] h = sym (append-nil found)
each_fresh found (first ∷ more) h =
    ap (λ (b : Bool). with_each (if b then found else found ++ first ∷ []) more)
    (fresh_one (contains (names_of found) first.name) (wrong DUPLICATE_NAME) h.0)
    ∙ (each_fresh (found ++ first ∷ []) more
    (subst (λ (taken : List (List ℕ)). AreNew taken (names_of more))
    (sym (map-append (λ (named : Named). named.name) found (first ∷ []))) h.1)
    ∙ append_assoc found (first ∷ []) more)

-- variables that are added are those that the definition adds
module _ (spellings : List ℕ) (mode : CodeMode) (type : CodePasType) where
  abbrev made_of : List (List ℕ) → List Variable
  made_of names = variables_of (mode_view mode) (type_view type) names

  all_names : (idents : List CodeIdent) (inner : CodeInner)
      → (with_all spellings mode type idents inner).names
      ≡ with_each inner.names (named_slots local (length inner.variables) (made_of (seen spellings idents)))
  all_names [] inner = refl
  all_names (first ∷ idents) inner =
      let next : CodeInner = with_local spellings mode type inner first in
      all_names idents next
      ∙ ap (λ (n : ℕ). with_each next.names (named_slots local n (made_of (seen spellings idents))))
      (omega (arith, length-append inner.variables (record { name = first.span; mode = mode; pas_type = type } ∷ [])))

  all_variables : (idents : List CodeIdent) (inner : CodeInner)
      → map (variable_view spellings) (with_all spellings mode type idents inner).variables
      ≡ map (variable_view spellings) inner.variables ++ made_of (seen spellings idents)
  all_variables [] inner = sym (append-nil (map (variable_view spellings) inner.variables))
  all_variables (first ∷ idents) inner =
      let one : CodeVariable = record { name = first.span; mode = mode; pas_type = type } in
      all_variables idents (with_local spellings mode type inner first)
      ∙ (ap (λ (before : List Variable). before ++ made_of (seen spellings idents))
      (map-append (variable_view spellings) inner.variables (one ∷ []))
      ∙ append_assoc (map (variable_view spellings) inner.variables) (variable_view spellings one ∷ [])
      (made_of (seen spellings idents)))

  all_others : (idents : List CodeIdent) (inner : CodeInner)
      → (with_all spellings mode type idents inner)
      ≡ record inner {
        names = (with_all spellings mode type idents inner).names;
        variables = (with_all spellings mode type idents inner).variables;
      }
  all_others [] inner = refl
  all_others (first ∷ idents) inner = all_others idents (with_local spellings mode type inner first)

  pub all_cells : (idents : List CodeIdent) (inner : CodeInner)
      → (with_all spellings mode type idents inner).cells ≡ inner.cells
  all_cells idents inner = ap (λ (found : CodeInner). found.cells) (all_others idents inner)

  slot_names : (n : ℕ) (names : List (List ℕ)) → names_of (named_slots local n (made_of names)) ≡ names
  slot_names n [] = refl
  slot_names n (name ∷ names) = ap (λ (rest : List (List ℕ)). name ∷ rest) (slot_names (suc n) names)

  pub all_view : (idents : List CodeIdent) (inner : CodeInner)
      → AreNew (names_of inner.names) (seen spellings idents)
      → inner_view spellings (with_all spellings mode type idents inner)
      ≡ with_locals (mode_view mode) (seen spellings idents) (Some (type_view type)) (inner_view spellings inner)
  all_view idents inner fresh =
      let names : List (List ℕ) = seen spellings idents in
      let slots : List Named = named_slots local (length inner.variables) (made_of names) in
      ap (inner_view spellings) (all_others idents inner)
      ∙ (ap (λ (found : List Named). record (inner_view spellings inner) {
        names = found;
        variables = map (variable_view spellings) (with_all spellings mode type idents inner).variables;
      }) (all_names idents inner
      ∙ each_fresh inner.names slots
      (subst (AreNew (names_of inner.names)) (sym (slot_names (length inner.variables) names)) fresh))
      ∙ (ap (λ (found : List Variable). record (inner_view spellings inner) {
        names = inner.names ++ slots;
        variables = found;
      }) (all_variables idents inner)
      ∙ ap (λ (n : ℕ). record (inner_view spellings inner) {
        names = inner.names ++ named_slots local n (made_of names);
        variables = map (variable_view spellings) inner.variables ++ made_of names;
      }) (sym (length-map inner.variables (variable_view spellings)))))
