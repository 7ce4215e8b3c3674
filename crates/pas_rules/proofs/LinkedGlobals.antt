-- Behind declarations that show no fault the name of each variable of the program stands for it.
use Rattle.std.proofs.Common.{◌≡◌, refl, sym, ap, subst, ◌∙◌, ℕ, suc, ◌+◌, arith, ◌||◌, Bool, true, false, not, List}
use Rattle.std.proofs.Common.{[]}
use Rattle.std.proofs.Common.{◌∷◌, ◌++◌, length, map, append_assoc, Option, Some, None, IsSome}
use Rattle.std.proofs.Common.{is_some, find}
use Rattle.std.specs.Prelude.{⊤, if◌then◌else◌, option_map, flat_map}
use Rattle.std.specs.Str.{bytes_eq}
use Rattle.std.proofs.lemmas.List.{map-append}
use Rattle.std.proofs.lemmas.List.Folds.{list_any-append}
use Rattle.std.proofs.lemmas.Slice.Eq.{bytes_eq-Decides}
use Rattle.wb_base.specs.declared.faults.TheConstants.{DUPLICATE_NAME}
use Rattle.pas_tokens.specs.declared.kinds.Kind.{Kind}
use Rattle.pas_tokens.specs.Cutting.{wrong}
use Rattle.pas_syntax.specs.Tree as tree
use Rattle.pas_syntax.specs.Tree.{Ident, Idents, Rows, Routine}
use Rattle.pas_syntax.specs.Words.{Word, words_if, rows_words, constant_row_words, type_row_words, variable_row_words}
use Rattle.pas_syntax.specs.Words.{type_words, idents_words}
use Rattle.pas_typed.specs.Types.{PasType, Made}
use Rattle.pas_typed.specs.Typed as typed
use Rattle.pas_typed.specs.Typed.{Variable, Heading}
use Rattle.pas_rules.specs.Marks.{quiet, Judged, noted, faults_if}
use Rattle.pas_rules.specs.Scopes.{Entity, variable, Named, names, Outer, entity_in, or_else, contains, names_of}
use Rattle.pas_rules.specs.Scopes.{idents_of, spellings_of, each_new, new_names, standard_names}
use Rattle.pas_rules.specs.TypeForms.{form_of}
use Rattle.pas_rules.specs.Declarations as spec
use Rattle.pas_rules.specs.Declarations.{Stage, program_scopes}
use Rattle.pas_rules.specs.Routines as routines
use Rattle.pas_rules.specs.Routines.{Sort, HeadingParts, HeadingStage}
use Rattle.pas_rules.proofs.NamesThere.{there_is}
use Rattle.pas_rules.proofs.CleanLemmas.{Each, IsClean, joined_clean, listed_clean, at_last_clean, holds}
use Rattle.pas_rules.proofs.HeldWords.{AreHeld, held_before, held_behind, held_next}
use Rattle.pas_rules.proofs.KnownForms.{form_known}
use Rattle.pas_rules.proofs.LawfulDeclarations.{IsLawfulOuter, program_plain, Declares}

-- names behind others
by_first : (first : Named) (b : Bool) (found other : Option Named) (more : Option Entity)
    → option_map (λ (named : Named). named.entity) other
    ≡ or_else (option_map (λ (named : Named). named.entity) found) more
    → option_map (λ (named : Named). named.entity) (if b then Some first else other)
    ≡ or_else (option_map (λ (named : Named). named.entity) (if b then Some first else found)) more
by_first first true found other more h = refl
by_first first false found other more h = h

pub entity_behind : (found more : List Named) (name : List ℕ)
    → entity_in (found ++ more) name ≡ or_else (entity_in found name) (entity_in more name)
entity_behind [] more name = refl
entity_behind (first ∷ found) more name =
    by_first first (bytes_eq first.name name) (find (λ named. bytes_eq named.name name) found)
    (find (λ named. bytes_eq named.name name) (found ++ more)) (entity_in more name) (entity_behind found more name)

-- variables that their names stand for, from this number on
abbrev pub slot_of : ℕ → Variable → Entity
slot_of number found =
    variable (record { home = typed.global; number = number; mode = found.mode; type = found.type })

abbrev pub AreLinked : List Named → ℕ → List Variable → Type 0
AreLinked found number [] = ⊤
AreLinked found number (first ∷ variables) =
    (entity_in found first.name ≡ Some (slot_of number first)) × AreLinked found (suc number) variables

abbrev pub IsLinked : Outer → Type 0
IsLinked outer = AreLinked outer.names 0 outer.globals

pub linked_more : (found more : List Named) (number : ℕ) (variables : List Variable)
    → AreLinked found number variables → AreLinked (found ++ more) number variables
linked_more found more number [] h = tt
linked_more found more number (first ∷ variables) h = (
  entity_behind found more first.name ∙ ap (λ one. or_else one (entity_in more first.name)) h.0,
  linked_more found more (suc number) variables h.1,
)

pub linked_append : (found : List Named) (number : ℕ) (variables more : List Variable)
    → AreLinked found number variables → AreLinked found (number + length variables) more
    → AreLinked found number (variables ++ more)
linked_append found number [] more h k = subst (λ n. AreLinked found n more) (omega arith) k
linked_append found number (first ∷ variables) more h k = (
  h.0,
  linked_append found (suc number) variables more h.1 (subst (λ n. AreLinked found n more) (omega arith) k),
)

-- names that are new one after another
abbrev pub AreFresh : List (List ℕ) → List (List ℕ) → Type 0
AreFresh taken [] = ⊤
AreFresh taken (name ∷ spellings) = (contains taken name ≡ false) × AreFresh (taken ++ name ∷ []) spellings

not_true : (b : Bool) → not b ≡ true → b ≡ false
not_true true is = absurd (cc)
not_true false is = refl

fresh_each : (taken : List (List ℕ)) (idents : List Ident) → Each IsClean (each_new taken idents)
    → AreFresh taken (map (λ ident. ident.name) idents)
fresh_each taken [] clean = tt
fresh_each taken (ident ∷ idents) clean = (
  not_true (contains taken ident.name)
      (holds (not (contains taken ident.name)) (wrong DUPLICATE_NAME) clean.0.still.0),
  fresh_each (taken ++ ident.name ∷ []) idents clean.1,
)

pub fresh_names : (taken : List (List ℕ)) (idents : Idents) → IsClean (new_names taken idents)
    → AreFresh taken (spellings_of idents)
fresh_names taken idents clean =
    fresh_each taken (idents_of idents) (listed_clean (each_new taken (idents_of idents)) clean)

neither : (b c : Bool) → (b || c) ≡ false → c ≡ false
neither true c is = absurd (cc)
neither false c is = is

pub fresh_behind : (before taken spellings : List (List ℕ)) → AreFresh (before ++ taken) spellings
    → AreFresh taken spellings
fresh_behind before taken [] h = tt
fresh_behind before taken (name ∷ spellings) h = (
  neither (contains before name) (contains taken name)
      (sym (list_any-append (λ other. bytes_eq other name) before taken) ∙ h.0),
  fresh_behind before (taken ++ name ∷ []) spellings
      (subst (λ all. AreFresh all spellings) (append_assoc before taken (name ∷ [])) h.1),
)

not_there : (found : Option Entity) → false ≡ is_some found → found ≡ None
not_there None is = refl
not_there (Some entity) is = absurd (cc)

same_bytes : (name : List ℕ) → bytes_eq name name ≡ true
same_bytes name = (bytes_eq-Decides name name).1 refl

first_named : (name : List ℕ) (entity : Entity) (more : List Named)
    → entity_in (names name entity ∷ more) name ≡ Some entity
first_named name entity more =
    ap (λ test. option_map (λ (named : Named). named.entity)
    (if test then Some (names name entity) else find (λ named. bytes_eq named.name name) more)) (same_bytes name)

pub new_linked : (found : List Named) (number : ℕ) (variables : List Variable)
    → AreFresh (names_of found) (map (λ each. each.name) variables)
    → AreLinked (found ++ spec.named_slots typed.global number variables) number variables
new_linked found number [] fresh = tt
new_linked found number (first ∷ variables) fresh =
    let slot : Named = names first.name (slot_of number first) in
    let more : List Named = spec.named_slots typed.global (suc number) variables in (
      entity_behind found (slot ∷ more) first.name
          ∙ (ap (λ one. or_else one (entity_in (slot ∷ more) first.name))
          (not_there (entity_in found first.name) (sym fresh.0 ∙ there_is found first.name))
          ∙ first_named first.name (slot_of number first) more),
      subst (λ all. AreLinked all (suc number) variables) (append_assoc found (slot ∷ []) more)
          (new_linked (found ++ slot ∷ []) (suc number) variables
          (subst (λ taken. AreFresh taken (map (λ (each : Variable). each.name) variables))
          (sym (map-append (λ (named : Named). named.name) found (slot ∷ []))) fresh.1)),
    )

variable_names : (type : PasType) (spellings : List (List ℕ))
    → map (λ (each : Variable). each.name) (spec.variables_of typed.declared type spellings) ≡ spellings
variable_names type [] = refl
variable_names type (name ∷ spellings) = ap (λ more. name ∷ more) (variable_names type spellings)

globals_linked : (outer : Outer) (spellings : List (List ℕ)) (value : Option Made) → IsSome value → IsLinked outer
    → AreFresh (names_of outer.names) spellings → IsLinked (spec.with_globals spellings value outer)
globals_linked outer spellings None some h fresh = absurd (cc)
globals_linked outer spellings (Some found) some h fresh =
    let variables : List Variable = spec.variables_of typed.declared found.type spellings in
    let slots : List Named = spec.named_slots typed.global (length outer.globals) variables in
    linked_append (outer.names ++ slots) 0 outer.globals variables (linked_more outer.names slots 0 outer.globals h)
    (subst (λ n. AreLinked (outer.names ++ slots) n variables) (omega arith)
    (new_linked outer.names (length outer.globals) variables
    (subst (AreFresh (names_of outer.names)) (sym (variable_names found.type spellings)) fresh)))

-- rows of declarations
abbrev pub Links : {A : Type 0} → (A → List Word) → (Outer → A → Stage) → Type 0
Links {A} words row = (outer : Outer) (found : A) → IsLawfulOuter outer → AreHeld (words found)
    → IsClean (row outer found).marks → IsLinked outer → IsLinked (row outer found).outer

pub constant_row_links : Links constant_row_words spec.constant_row
constant_row_links outer found of_outer held clean h = linked_more outer.names _ 0 outer.globals h

pub type_row_links : Links type_row_words spec.type_row
type_row_links outer found of_outer held clean h = linked_more outer.names _ 0 outer.globals h

pub global_row_links : Links variable_row_words spec.global_row
global_row_links outer found of_outer held clean h =
    let form : Judged Made = form_of (program_scopes outer) outer.types found.form in
    let spellings : List (List ℕ) = spellings_of found.names in
    let part : Judged Made = noted (spec.global_only outer spellings) form in
    let parts : Each IsClean (new_names (spec.taken outer) found.names ∷ quiet ∷ part.marks ∷ quiet ∷ []) =
    joined_clean (new_names (spec.taken outer) found.names ∷ quiet ∷ part.marks ∷ quiet ∷ []) clean in
    globals_linked outer spellings form.value
    (form_known (program_scopes outer) (program_plain outer of_outer) outer.types 0 found.form
    (held_before (type_words 0 found.form) _ (held_next (idents_words 0 found.names) _ _ held))
    (at_last_clean (faults_if (spec.global_only outer spellings) form.value) form.marks parts.1.1.0))
    h
    (fresh_behind standard_names (names_of outer.names) spellings
    (fresh_names (spec.taken outer) found.names parts.0))

module _ {A : Type 0} (words : A → List Word) (row : Outer → A → Stage) (declares : Declares words row)
    (links : Links words row) where
  more_link : (outer : Outer) (found : List A) → IsLawfulOuter outer → AreHeld (flat_map words found)
      → IsClean (spec.more_rows row outer found).marks → IsLinked outer → IsLinked (spec.more_rows row outer
      found).outer
  more_link outer [] of_outer held clean h = h
  more_link outer (first ∷ more) of_outer held clean h =
      let before : Stage = row outer first in
      let behind : Stage = spec.more_rows row before.outer more in
      let parts : Each IsClean (before.marks ∷ behind.marks ∷ []) =
      joined_clean (before.marks ∷ behind.marks ∷ []) clean in
      let first_held : AreHeld (words first) = held_before (words first) (flat_map words more) held in
      more_link before.outer more (declares outer first of_outer first_held parts.0).lawful
      (held_behind (words first) (flat_map words more) held) parts.1.0 (links outer first of_outer first_held parts.0 h)

  pub rows_link : (kind : Kind) (outer : Outer) (rows : Option (Rows A)) → IsLawfulOuter outer
      → AreHeld (words_if (rows_words kind words) rows) → IsClean (spec.rows_of row outer rows).marks
      → IsLinked outer → IsLinked (spec.rows_of row outer rows).outer
  rows_link kind outer None of_outer held clean h = h
  rows_link kind outer (Some rows) of_outer held clean h =
      let found : Stage = spec.more_rows row outer (rows.first ∷ rows.more) in
      more_link outer (rows.first ∷ rows.more) of_outer held.1 (joined_clean (quiet ∷ found.marks ∷ []) clean).1.0 h

-- routines: names come behind, and variables of the program are as they were
heading_links : (outer : Outer) (name : List ℕ) (heading : Option Heading) → IsLinked outer
    → IsLinked (routines.with_routine name heading outer)
heading_links outer name None h = linked_more outer.names _ 0 outer.globals h
heading_links outer name (Some heading) h = linked_more outer.names _ 0 outer.globals h

headed_links : (outer : Outer) (head : HeadingParts) (number : Option ℕ) → IsLinked outer
    → IsLinked (routines.headed_by outer head number).outer
headed_links outer head None h = heading_links outer head.name.name _ h
headed_links outer head (Some number) h = h

body_links : (found : HeadingStage) (sort : Sort) (body : tree.Body) → IsLinked found.outer
    → IsLinked (routines.routine_by found sort body).outer
body_links found sort (tree.forward line) h = h
body_links found sort (tree.block labels rows body) h = h

pub routines_link : (outer : Outer) (found : List Routine) → IsLinked outer
    → IsLinked (routines.routines_of outer found).outer
routines_link outer [] h = h
routines_link outer (first ∷ more) h =
    let head : HeadingParts = routines.head_of first.heading in
    routines_link (routines.routine_of outer first).outer more
    (body_links (routines.headed outer head) head.sort first.body
    (headed_links outer head (routines.awaited outer head) h))
