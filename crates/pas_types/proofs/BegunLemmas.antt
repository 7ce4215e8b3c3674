-- The parameters of a program, and its scope before all declarations.
use Rattle.std.proofs.Common.{◌≡◌, ◌≢◌, refl, sym, ap, ◌∙◌, ℕ, suc, ◌+◌, Bool, true, false, List, [], ◌∷◌, ◌++◌}
use Rattle.std.proofs.Common.{length, map, take, get_or, Option, Some, None, Result, Ok, Err, cond, ◌||◌, ◌<◌, arith}
use Rattle.std.specs.Prelude.{◌&&◌, ◌^◌, not, filter, fold, find, option_map, if◌then◌else◌, IfOk, OnOk}
use Rattle.std.specs.Str.{bytes_eq}
use Rattle.std.proofs.lemmas.List.{map-append, length-map, take_more}
use Rattle.std.proofs.lemmas.List.Sums.{fold-append, sum_by-cons}
use Rattle.std.proofs.lemmas.List.Elements.{filter-append}
use Rattle.wb_base.specs.declared.memory.OutOfMemory.{OutOfMemory}
use Rattle.pas_syntax.specs.declared.tree.Ident.{Ident as CodeIdent}
use Rattle.pas_syntax.specs.declared.tree.Numeral.{Numeral as CodeNumeral}
use Rattle.pas_syntax.specs.declared.tree.Behind.{Behind as CodeBehind}
use Rattle.pas_syntax.specs.declared.tree.Separated.{Separated as CodeSeparated}
use Rattle.pas_syntax.specs.Tree.{Program}
use Rattle.pas_syntax.specs.declared.tree.ProgramParameters.{ProgramParameters as CodeParameters}
use Rattle.pas_syntax.specs.ProgramViews.{program_parameters_in}
use Rattle.pas_syntax.specs.Views.{if_there, spelled_in, ident_in, numeral_in, behind_in, separated_in}
use Rattle.pas_typed.specs.declared.typed.Home.TheVariants as home
use Rattle.pas_typed.specs.declared.typed.Mode.TheVariants as mode
use Rattle.pas_typed.specs.declared.typed.Variable.{Variable as CodeVariable}
use Rattle.pas_typed.specs.declared.types.PasType.TheVariants as code_type
use Rattle.pas_typed.specs.Types.{text}
use Rattle.pas_typed.specs.Typed.{declared, global, Variable}
use Rattle.pas_typed.specs.TypedViews.{variable_view}
use Rattle.pas_typed.specs.TypeViews.{counted, table_view}
use Rattle.pas_scopes.specs.declared.scopes.Inner.{Inner as CodeInner}
use Rattle.pas_scopes.specs.declared.scopes.Scopes.{Scopes as CodeScopes}
use Rattle.pas_rules.specs.Scopes.{Named, names, names_of, contains, standard_names, Outer, entity_in, required}
use Rattle.pas_rules.specs.Scopes.{unclear, idents_of, Scopes}
use Rattle.pas_rules.specs.Labels.{label_at_end}
use Rattle.pas_rules.specs.Declarations.{named_slots, variables_of, program_scopes, cells_together, declared_labels}
use Rattle.pas_rules.specs.Declarations.{cells_of_variable}
use Rattle.pas_rules.specs.Check.{parameter_idents, parameter_names, each_once, start}
use Rattle.pas_rules.specs.Scopes.{with_new, with_name}
use Rattle.pas_scopes.specs.ScopeViews.{all_idents, inner_view, outer_view, scopes_view, no_declarations, IsClear}
use Rattle.pas_scopes.specs.DeclaredSoFar.{IsDeclared}
use Rattle.pas_types.specs.inner.Checking.{HasParameters}
use Rattle.pas_scopes.proofs.AddedLemmas.{slot_at, slots_push}
use Rattle.pas_scopes.proofs.GlobalLemmas.{AreKnown, slots_names, slots_known, slots_there, slots_held}
use Rattle.pas_scopes.proofs.GlobalLemmas.{variables_typed, clear_each}

abbrev texts : List (List ℕ) → List (List ℕ)
texts parameters = filter (contains standard_names) parameters

-- one parameter more
texts_more : (before : List (List ℕ)) (name : List ℕ) (standard : Bool) → contains before name ≡ false
    → contains standard_names name ≡ standard
    → texts (with_name before name) ≡ texts before ++ (if standard then name ∷ [] else [])
texts_more before name standard new is =
    ap (λ (b : Bool). texts (if b then before else before ++ name ∷ [])) new
    ∙ filter-append (contains standard_names) before (name ∷ [])
    ∙ ap (λ (rest : List (List ℕ)). texts before ++ rest) (at standard is)
  where
    at : (b : Bool) → contains standard_names name ≡ b
        → filter (contains standard_names) (name ∷ []) ≡ (if b then name ∷ [] else [])
    at true same = ap (λ (b : Bool). cond b (name ∷ []) []) same
    at false same = ap (λ (b : Bool). cond b (name ∷ []) []) same

append_nothing : {A : Type 0} (xs : List A) → xs ++ [] ≡ xs
append_nothing [] = refl
append_nothing (x ∷ xs) = ap (λ rest. x ∷ rest) (append_nothing xs)

texts_same : (before : List (List ℕ)) (name : List ℕ) (there standard : Bool) → contains before name ≡ there
    → contains standard_names name ≡ standard → (not there && standard) ≡ false
    → texts (with_name before name) ≡ texts before
texts_same before name true standard there is h =
    ap (λ (b : Bool). texts (if b then before else before ++ name ∷ [])) there
texts_same before name false true there is h = cc
texts_same before name false false there is h =
    texts_more before name false there is ∙ append_nothing (texts before)

none_or : (one other : Bool) → (one || other) ≡ false → (one ≡ false) × (other ≡ false)
none_or true other h = cc
none_or false other h = (refl, h)

texts_lack : (parameters : List (List ℕ)) (name : List ℕ) → contains parameters name ≡ false
    → contains (texts parameters) name ≡ false
texts_lack [] name h = refl
texts_lack (first ∷ parameters) name h =
    let parts = none_or (bytes_eq first name) (contains parameters name) h in
    at (contains standard_names first) parts.0 (texts_lack parameters name parts.1)
  where
    at : (b : Bool) → bytes_eq first name ≡ false → contains (texts parameters) name ≡ false
        → contains (cond b (first ∷ texts parameters) (texts parameters)) name ≡ false
    at true one more = ap (λ (b : Bool). b || contains (texts parameters) name) one ∙ more
    at false one more = more

module _ (before : List (List ℕ)) (old : CodeScopes) (ident : CodeIdent) (parameters : List (List ℕ))
    (h : HasParameters before old) where
  abbrev name : List ℕ
  name = spelled_in old.spellings.now ident.span

  abbrev known : List (List ℕ)
  known = texts before

  abbrev variable_more : CodeVariable
  variable_more = record { name = ident.span; mode = mode.Declared; pas_type = code_type.Text }

  module _ (with_one : parameters ≡ with_name old.parameters name) where
    parameters_behind : parameters ≡ with_name before name
    parameters_behind = with_one ∙ ap (λ (found : List (List ℕ)). with_name found name) h.parameters_are

    pub has_same : (not (contains old.parameters name) && contains standard_names name) ≡ false
        → HasParameters (with_name before name) (record old { parameters = parameters })
    has_same not_more =
        let same : texts (with_name before name) ≡ known =
        texts_same before name (contains before name) (contains standard_names name) refl refl
        (ap (λ (found : List (List ℕ)). not (contains found name) && contains standard_names name)
        (sym h.parameters_are) ∙ not_more) in
        record {
          parameters_are = parameters_behind;
          names_are = h.names_are
              ∙ ap (λ (found : List (List ℕ)). named_slots global 0 (variables_of declared text found)) (sym same);
          globals_are = h.globals_are
              ∙ ap (λ (found : List (List ℕ)). variables_of declared text found) (sym same);
        }

    both_are : (one other : Bool) → (not one && other) ≡ true → (one ≡ false) × (other ≡ true)
    both_are true other is = cc
    both_are false other is = (refl, is)

    pub has_more : (found : List Named) (globals : List CodeVariable)
        → (not (contains old.parameters name) && contains standard_names name) ≡ true
        → found ≡ with_new old.names name
        (slot_at home.Global mode.Declared code_type.Text (length old.globals))
        → globals ≡ old.globals ++ variable_more ∷ []
        → HasParameters (with_name before name)
        (record old { parameters = parameters; names = found; globals = globals })
    has_more found globals is_more names_is globals_is =
        let parts = both_are (contains old.parameters name) (contains standard_names name) is_more in
        let new : contains before name ≡ false =
        ap (λ (found : List (List ℕ)). contains found name) (sym h.parameters_are) ∙ parts.0 in
        let all : texts (with_name before name) ≡ known ++ name ∷ [] = texts_more before name true new parts.1 in
        let slots : List Named = named_slots global 0 (variables_of declared text known) in
        let free : contains (names_of slots) name ≡ false =
        ap (λ (found : List (List ℕ)). contains found name) (slots_names global 0 text known)
        ∙ texts_lack before name new in
        let count : length old.globals ≡ length known =
        sym (length-map old.globals (variable_view old.spellings.now)) ∙ ap length h.globals_are
        ∙ length-map known _ in
        record {
          parameters_are = parameters_behind;
          names_are = names_is
              ∙ ap (λ (n : ℕ). with_new old.names name (slot_at home.Global mode.Declared code_type.Text n)) count
              ∙ ap (λ (found : List Named). with_new found name
              (slot_at home.Global mode.Declared code_type.Text (length known))) h.names_are
              ∙ ap (λ (b : Bool). if b then slots
              else slots ++ names name (slot_at home.Global mode.Declared code_type.Text (length known)) ∷ []) free
              ∙ ap (λ (n : ℕ). slots ++ names name (slot_at home.Global mode.Declared code_type.Text n) ∷ [])
              (omega arith)
              ∙ sym (slots_push home.Global mode.Declared code_type.Text 0 known name)
              ∙ ap (λ (found : List (List ℕ)). named_slots global 0 (variables_of declared text found)) (sym all);
          globals_are = ap (map (variable_view old.spellings.now)) globals_is
              ∙ map-append (variable_view old.spellings.now) old.globals (variable_more ∷ [])
              ∙ ap (λ front. front ++ variable_view old.spellings.now variable_more ∷ []) h.globals_are
              ∙ sym (map-append _ known (name ∷ []))
              ∙ ap (λ (found : List (List ℕ)). variables_of declared text found) (sym all);
        }

-- parameters one behind another
pub folded_more : (before : List (List ℕ)) (spellings : List ℕ) (idents : List CodeIdent) (i : ℕ) (d : CodeIdent)
    → i < length idents
    → fold with_name before (map (λ ident. spelled_in spellings ident.span) (take (i + 1) idents))
    ≡ with_name (fold with_name before (map (λ ident. spelled_in spellings ident.span) (take i idents)))
    (spelled_in spellings (get_or idents i d).span)
folded_more before spellings idents i d within =
    let spell = λ (ident : CodeIdent). spelled_in spellings ident.span in
    ap (λ (found : List CodeIdent). fold with_name before (map spell found)) (take_more idents i d within)
    ∙ ap (fold with_name before) (map-append spell (take i idents) (get_or idents i d ∷ []))
    ∙ fold-append with_name before (map spell (take i idents)) (spell (get_or idents i d) ∷ [])

pub spelled_all : (spellings : List ℕ) (idents : List CodeIdent)
    → map (λ ident. spelled_in spellings ident.span) idents
    ≡ map (λ ident. ident.name) (map (ident_in spellings) idents)
spelled_all spellings [] = refl
spelled_all spellings (ident ∷ idents) =
    ap (λ rest. spelled_in spellings ident.span ∷ rest) (spelled_all spellings idents)

-- no required name is unclear
clear_in : (found : List Named) → AreKnown found → (name : List ℕ) → entity_in found name ≢ Some unclear
clear_in [] known name is = cc
clear_in (first ∷ found) known name is =
    at (bytes_eq first.name name) (clear_in found known.1 name) is
  where
    at : (b : Bool) → entity_in found name ≢ Some unclear
        → option_map (λ (named : Named). named.entity) (cond b (Some first)
        (find (λ (named : Named). bytes_eq named.name name) found)) ≢ Some unclear
    at true more same = let here : first.entity ≡ unclear = cc in known.0 here
    at false more same = more same

known_required : AreKnown required
known_required = (
  (λ is. cc),
  (
    (λ is. cc),
    (
      (λ is. cc),
      (
        (λ is. cc),
        (
          (λ is. cc),
          (
            (λ is. cc),
            (
              (λ is. cc),
              (
                (λ is. cc),
                (
                  (λ is. cc),
                  (
                    (λ is. cc),
                    (
                      (λ is. cc),
                      (
                        (λ is. cc),
                        (
                          (λ is. cc),
                          (
                            (λ is. cc),
                            (
                              (λ is. cc),
                              (
                                (λ is. cc),
                                ((λ is. cc), ((λ is. cc), ((λ is. cc), ((λ is. cc), ((λ is. cc), ((λ is. cc), tt)))))),
                              ),
                            ),
                          ),
                        ),
                      ),
                    ),
                  ),
                ),
              ),
            ),
          ),
        ),
      ),
    ),
  ),
)

no_inner : (spellings : List ℕ) (inner : Option CodeInner) → option_map (inner_view spellings) inner ≡ None
    → inner ≡ None
no_inner spellings None is = refl
no_inner spellings (Some inner) is = cc

-- each text has one cell
texts_cells : (found : List (List ℕ)) → cells_together [] (variables_of declared text found) ≡ length found
texts_cells [] = refl
texts_cells (one ∷ found) =
    sum_by-cons (λ (each : Variable). cells_of_variable [] each.mode each.type)
    (record { name = one; mode = declared; type = text }) (variables_of declared text found)
    ∙ (ap (λ (n : ℕ). 1 + n) (texts_cells found) ∙ one_more (length found))
  where
    one_more : (n : ℕ) → 1 + n ≡ suc n
    one_more n = omega arith

-- the scope of a program before its declarations
module _ (program : Program) (fresh now : CodeScopes) (labels : List ℕ) (last : Option ℕ) (cells : ℕ)
    (fresh_is : scopes_view fresh ≡ no_declarations)
    (kept : now ≡ record fresh { parameters = now.parameters; names = now.names; globals = now.globals })
    (has : HasParameters (each_once (parameter_names program)) now)
    (labels_are : labels ≡ declared_labels program.labels)
    (last_is : last ≡ label_at_end program.body.list)
    (cells_are : cells ≡ length now.globals) (small : cells < 2 ^ 64) where
  abbrev begun : CodeScopes
  begun = record now { labels = labels; last_label = last; cells = cells }

  abbrev found : List (List ℕ)
  found = texts (each_once (parameter_names program))

  outer_same : outer_view begun ≡ start program
  outer_same =
      let types : table_view now.spellings.now now.types ≡ [] =
      ap (λ (scopes : CodeScopes). table_view scopes.spellings.now scopes.types) kept
      ∙ ap (λ scopes. scopes.outer.types) fresh_is in
      let routines : (outer_view now).routines ≡ [] =
      ap (λ (scopes : CodeScopes). (outer_view scopes).routines) kept
      ∙ ap (λ scopes. scopes.outer.routines) fresh_is in
      λ i. record {
        parameters = has.parameters_are i;
        labels = labels_are i;
        last_label = last_is i;
        types = types i;
        names = has.names_are i;
        globals = has.globals_are i;
        routines = routines i;
      }

  abbrev nothing : Outer
  nothing = record {
    parameters = each_once (parameter_names program);
    labels = declared_labels program.labels;
    last_label = label_at_end program.body.list;
    types = [];
    names = [];
    globals = variables_of declared text found;
    routines = [];
  }

  start_clear : IsClear (program_scopes (start program))
  start_clear =
      clear_each nothing (named_slots global 0 (variables_of declared text found))
      (slots_known global 0 (variables_of declared text found)) (clear_in required known_required)

  few_cells : (n m : ℕ) → n ≡ m → n < 2 ^ 64 → n ≡ counted m
  few_cells n m is h = is ∙ omega (arith, h, is)

  pub begins : IsDeclared (start program) begun None
  begins = record {
    alone = ap (λ (scopes : CodeScopes). scopes.inner) kept
        ∙ no_inner fresh.spellings.now fresh.inner (ap (λ scopes. scopes.inner) fresh_is);
    outer_is = (outer_same, start_clear);
    is_counted = record {
      names = slots_there 0 global 0 (variables_of declared text found);
      slots = slots_held 0 global 0 (variables_of declared text found) (variables_typed 0 text tt found);
      files = tt;
      globals = variables_typed 0 text tt found;
      cells_are = few_cells cells (cells_together [] (variables_of declared text found))
          (cells_are ∙ (sym (length-map now.globals (variable_view now.spellings.now)) ∙ ap length has.globals_are
          ∙ length-map found _) ∙ sym (texts_cells found)) small;
    };
  }

-- lists of the tree
pub idents_seen : (spellings : List ℕ) (names : CodeSeparated CodeIdent)
    → map (ident_in spellings) (all_idents names) ≡ idents_of (separated_in (ident_in spellings) names)
idents_seen spellings names = ap (λ rest. ident_in spellings names.first ∷ rest) (by names.more)
  where
    by : (more : List (CodeBehind CodeIdent))
        → map (ident_in spellings) (map (λ behind. behind.item) more)
        ≡ map (λ behind. behind.item) (map (behind_in (ident_in spellings)) more)
    by [] = refl
    by (behind ∷ more) = ap (λ rest. ident_in spellings behind.item ∷ rest) (by more)

pub values_seen : (more : List (CodeBehind CodeNumeral))
    → map (λ behind. behind.item.value) more
    ≡ map (λ numeral. numeral.value) (map (λ behind. behind.item) (map (behind_in numeral_in) more))
values_seen [] = refl
values_seen (behind ∷ more) = ap (λ rest. behind.item.value ∷ rest) (values_seen more)

pub idents_ok : {E : Type 0} (spellings : List ℕ) (part : Option CodeParameters) (parameters : CodeParameters)
    (result : Result (List CodeIdent) E) → part ≡ Some parameters
    → IfOk result (λ all. all ≡ all_idents parameters.names)
    → IfOk result (λ idents. map (ident_in spellings) idents
    ≡ parameter_idents (if_there (program_parameters_in spellings) part))
idents_ok spellings part parameters (Ok all) is h =
    ap (map (ident_in spellings)) h ∙ idents_seen spellings parameters.names
    ∙ ap (λ (found : Option CodeParameters). parameter_idents (if_there (program_parameters_in spellings) found))
    (sym is)
idents_ok spellings part parameters (Err why) is h = tt

-- before all parameters
pub none_has : (fresh : CodeScopes) → scopes_view fresh ≡ no_declarations → HasParameters [] fresh
none_has fresh is = record {
  parameters_are = ap (λ (scopes : Scopes). scopes.outer.parameters) is;
  names_are = ap (λ (scopes : Scopes). scopes.outer.names) is;
  globals_are = ap (λ (scopes : Scopes). scopes.outer.globals) is;
}

pub and_true : (one other : Bool) → one ≡ true → other ≡ true → (one && other) ≡ true
and_true true true h k = refl
and_true true false h k = cc
and_true false other h k = cc

pub ok_two : (A B C : Type 0) (result : Result (Unit {0}) OutOfMemory) → OnOk result A → OnOk result B → (A → B → C)
    → OnOk result C
ok_two A B C (Ok done) a b h = h a b
ok_two A B C (Err why) a b h = tt
