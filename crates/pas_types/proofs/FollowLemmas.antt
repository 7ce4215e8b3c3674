-- The scope of the program behind routines: its table is longer, and the names of the routines stand for no variables.
use Rattle.std.proofs.Common.{◌≡◌, refl, sym, ap, subst, ◌∙◌, ℕ, zero, suc, ◌<◌, arith, Bool, true, false, List, []}
use Rattle.std.proofs.Common.{◌∷◌, ◌++◌, length, Option, Some, None}
use Rattle.std.specs.Prelude.{⊤, option_map, option_and_then, slice_get, find, cond, ◌||◌, if◌then◌else◌}
use Rattle.std.specs.Str.{bytes_eq}
use Rattle.std.proofs.lemmas.Slice.Eq.{bytes_eq-Decides}
use Rattle.wb_base.specs.declared.faults.TheConstants.{FILE_RULE}
use Rattle.pas_tokens.specs.Cutting.{wrong}
use Rattle.pas_typed.specs.Types as types
use Rattle.pas_typed.specs.Types.{PasType, Structure, TableRow, Table, component_in, has_component, is_lawful_file}
use Rattle.pas_typed.specs.Types.{range_in, is_byte_range, structure_of, row_of}
use Rattle.pas_typed.specs.Shapes.{IsAmong}
use Rattle.pas_rules.specs.Marks.{unless}
use Rattle.pas_rules.specs.Scopes.{Entity, constant, type, variable, routine, function, file_test, file_step, procedure}
use Rattle.pas_rules.specs.Scopes.{unclear, Named, names, Outer, entity_in, or_else, contains, names_of}
use Rattle.pas_rules.specs.Check.{parameter_faults}
use Rattle.pas_rules.specs.Scopes.{with_new}
use Rattle.pas_scopes.specs.declared.scopes.Scopes.{Scopes as CodeScopes}
use Rattle.pas_scopes.specs.ScopeViews.{outer_view}
use Rattle.pas_scopes.specs.DeclaredSoFar.{IsHeld, AreHeld, IsFiled, AreFiled}
use Rattle.pas_types.specs.inner.RoutineAnswers.{ServesAs}
use Rattle.pas_types.specs.inner.RoutineStands.{masked, served, IsHeldIf, IsNoted, names_by}
use Rattle.pas_scopes.proofs.DeclaredLemmas.{entity_push}

pub masked_faults : (table : Table) (found : Option Entity)
    → parameter_faults table (option_map masked found) ≡ parameter_faults table found
masked_faults table None = refl
masked_faults table (Some (constant base value)) = refl
masked_faults table (Some (type found)) = refl
masked_faults table (Some (variable slot)) = refl
masked_faults table (Some (routine number)) = refl
masked_faults table (Some (function found)) = refl
masked_faults table (Some (file_test test)) = refl
masked_faults table (Some (file_step step)) = refl
masked_faults table (Some (procedure found)) = refl
masked_faults table (Some unclear) = refl

-- names behind which those of routines stand
abbrev pub unclear_if : Bool → Option Entity
unclear_if b = if b then Some unclear else None

abbrev pub behind : List Named → List (List ℕ) → List ℕ → Option Entity
behind found heads name = or_else (served found name) (unclear_if (contains heads name))

pub record Behind (found : List Named) (heads : List (List ℕ)) (later : List Named) : Type 0 where
  pub each : (name : List ℕ) → served later name ≡ behind found heads name

pub or_nothing : (found : Option Entity) → or_else found None ≡ found
or_nothing None = refl
or_nothing (Some entity) = refl

-- a name that is there already
pub head_there : (found : List Named) (head : List ℕ) (entity : Entity) → served found head ≡ Some entity
    → Behind found (head ∷ []) found
head_there found head entity is = record { each = λ name. kept name (bytes_eq head name) refl }
  where
    kept : (name : List ℕ) (b : Bool) → bytes_eq head name ≡ b
        → served found name ≡ or_else (served found name) (unclear_if (b || false))
    kept name false e = sym (or_nothing (served found name))
    kept name true e =
        let same : head ≡ name = (bytes_eq-Decides head name).0 e in
        let there : served found name ≡ Some entity =
        subst (λ (one : List ℕ). served found one ≡ Some entity) same is in
        there ∙ sym (ap (λ (one : Option Entity). or_else one (Some unclear)) there)

-- a name behind others
one_name : (b : Bool) (head : Named) → masked head.entity ≡ unclear
    → option_map masked (option_map (λ (named : Named). named.entity) (cond b (Some head) None)) ≡ unclear_if (b || false)
one_name true head is = ap Some is
one_name false head is = refl

or_masked : (found other : Option Entity)
    → option_map masked (or_else found other) ≡ or_else (option_map masked found) (option_map masked other)
or_masked None other = refl
or_masked (Some entity) other = refl

pub head_pushed : (found : List Named) (head : Named) → masked head.entity ≡ unclear
    → Behind found (head.name ∷ []) (found ++ head ∷ [])
head_pushed found head is = record {
  each = λ name.
      ap (option_map masked) (entity_push found head name)
      ∙ (or_masked (entity_in found name) (entity_in (head ∷ []) name)
      ∙ ap (λ (one : Option Entity). or_else (served found name) one) (one_name (bytes_eq head.name name) head is));
}

-- rows that stay where they are in a longer table
row_stays : (table more : Table) (number : ℕ) → number < length table
    → slice_get (table ++ more) number ≡ slice_get table number
row_stays [] more number h = absurd (omega (arith, h))
row_stays (first ∷ table) more zero h = refl
row_stays (first ∷ table) more (suc number) h = row_stays table more number (omega (arith, h))

abbrev IsAmongIf : ℕ → Option PasType → Type 0
IsAmongIf rows None = ⊤
IsAmongIf rows (Some found) = IsAmong rows found

component_among : (rows : ℕ) (structure : Structure) → IsFiled rows structure → IsAmongIf rows (component_in structure)
component_among rows (types.file component) h = h
component_among rows (types.subrange range) h = tt
component_among rows (types.array indexes element) h = tt
component_among rows (types.fields found) h = tt

component_there : (rows : ℕ) (table : Table) (number : ℕ) → AreFiled rows table
    → IsAmongIf rows (option_and_then component_in (option_map (λ (found : TableRow). found.structure)
    (slice_get table number)))
component_there rows [] number h = tt
component_there rows (first ∷ table) zero h = component_among rows first.structure h.0
component_there rows (first ∷ table) (suc number) h = component_there rows table number h.1

has_stays : (table more : Table) (found : Option PasType) → IsAmongIf (length table) found
    → has_component (table ++ more) found ≡ has_component table found
has_stays table more None h = refl
has_stays table more (Some (types.whole types.char)) h = refl
has_stays table more (Some (types.whole types.integer)) h = refl
has_stays table more (Some (types.whole types.boolean)) h = refl
has_stays table more (Some types.text) h = refl
has_stays table more (Some (types.row number)) h =
    ap (λ (one : Option TableRow). is_byte_range (option_and_then range_in
    (option_map (λ (found : TableRow). found.structure) one))) (row_stays table more number h)

lawful_stays : (table more : Table) (found : PasType) → AreFiled (length table) table → IsAmong (length table) found
    → is_lawful_file (table ++ more) found ≡ is_lawful_file table found
lawful_stays table more (types.whole base) h k = refl
lawful_stays table more types.text h k = refl
lawful_stays table more (types.row number) h k =
    ap (λ (one : Option TableRow). has_component (table ++ more) (option_and_then component_in
    (option_map (λ (found : TableRow). found.structure) one))) (row_stays table more number k)
    ∙ has_stays table more
    (option_and_then component_in (option_map (λ (found : TableRow). found.structure) (slice_get table number)))
    (component_there (length table) table number h)

pub faults_stay : (table more : Table) (found : Option Entity) → AreFiled (length table) table
    → IsHeldIf (length table) found → parameter_faults (table ++ more) found ≡ parameter_faults table found
faults_stay table more None h k = refl
faults_stay table more (Some (variable slot)) h k =
    ap (λ (b : Bool). unless b (wrong FILE_RULE)) (lawful_stays table more slot.type h k)
faults_stay table more (Some (constant base value)) h k = refl
faults_stay table more (Some (type found)) h k = refl
faults_stay table more (Some (routine number)) h k = refl
faults_stay table more (Some (function found)) h k = refl
faults_stay table more (Some (file_test test)) h k = refl
faults_stay table more (Some (file_step step)) h k = refl
faults_stay table more (Some (procedure found)) h k = refl
faults_stay table more (Some unclear) h k = refl

held_by : (rows : ℕ) (b : Bool) (first : Named) (more : Option Named) → IsHeld rows first.entity
    → IsHeldIf rows (option_map (λ (named : Named). named.entity) more)
    → IsHeldIf rows (option_map (λ (named : Named). named.entity) (cond b (Some first) more))
held_by rows true first more h k = h
held_by rows false first more h k = k

pub held_in : (rows : ℕ) (found : List Named) (name : List ℕ) → AreHeld rows found → IsHeldIf rows (entity_in found name)
held_in rows [] name h = tt
held_in rows (first ∷ found) name h =
    held_by rows (bytes_eq first.name name) first (find (λ (named : Named). bytes_eq named.name name) found) h.0
    (held_in rows found name h.1)

held_masked : (rows : ℕ) (found : Option Entity) → IsHeldIf rows found → IsHeldIf rows (option_map masked found)
held_masked rows None h = tt
held_masked rows (Some (variable slot)) h = h
held_masked rows (Some (constant base value)) h = tt
held_masked rows (Some (type found)) h = tt
held_masked rows (Some (routine number)) h = tt
held_masked rows (Some (function found)) h = tt
held_masked rows (Some (file_test test)) h = tt
held_masked rows (Some (file_step step)) h = tt
held_masked rows (Some (procedure found)) h = tt
held_masked rows (Some unclear) h = tt

-- behind a fault each name shows the same as a parameter of the program
pub noted_serves : (outer : Outer) (scopes : CodeScopes) → IsNoted outer scopes → ServesAs (outer_view scopes) outer
noted_serves outer scopes h name =
    let table : Table = (outer_view scopes).types in
    sym (masked_faults table (entity_in scopes.names name))
    ∙ (sym (faults_stay table h.more (served scopes.names name) h.filed
    (held_masked (length table) (entity_in scopes.names name) (h.held name)))
    ∙ (ap (λ (later : Table). parameter_faults later (served scopes.names name)) (sym h.table_is)
    ∙ (ap (parameter_faults outer.types) (h.alike name) ∙ masked_faults outer.types (entity_in outer.names name))))

-- names with one more, where it is not there yet
found_there : (b : Bool) (first : Named) (more : Option Named) (rest : Bool) → (b || rest) ≡ true
    → (rest ≡ true → (entity : Entity) × (option_map masked (option_map (λ (named : Named). named.entity) more)
    ≡ Some entity))
    → (entity : Entity) × (option_map masked (option_map (λ (named : Named). named.entity) (cond b (Some first) more))
    ≡ Some entity)
found_there true first more rest is h = (masked first.entity, refl)
found_there false first more rest is h = h is

served_there : (found : List Named) (name : List ℕ) → contains (names_of found) name ≡ true
    → (entity : Entity) × (served found name ≡ Some entity)
served_there [] name is = absurd (cc)
served_there (first ∷ found) name is =
    found_there (bytes_eq first.name name) first (find (λ (named : Named). bytes_eq named.name name) found)
    (contains (names_of found) name) is (served_there found name)

new_by : (b : Bool) (found : List Named) (head : List ℕ) (entity : Entity) → contains (names_of found) head ≡ b
    → masked entity ≡ unclear
    → Behind found (head ∷ []) (if b then found else found ++ names head entity ∷ [])
new_by true found head entity is plain =
    let there = served_there found head is in head_there found head there.0 there.1
new_by false found head entity is plain = head_pushed found (names head entity) plain

pub new_behind : (found : List Named) (head : List ℕ) (entity : Entity) → masked entity ≡ unclear
    → Behind found (head ∷ []) (with_new found head entity)
new_behind found head entity plain = new_by (contains (names_of found) head) found head entity refl plain

held_pushed : (rows : ℕ) (found : List Named) (last : Named) → ((name : List ℕ) → IsHeldIf rows (entity_in found name))
    → IsHeld rows last.entity → (name : List ℕ) → IsHeldIf rows (entity_in (found ++ last ∷ []) name)
held_pushed rows found last h k name =
    subst (IsHeldIf rows) (sym (entity_push found last name))
    (held_or (entity_in found name) (entity_in (last ∷ []) name) (h name)
    (held_by rows (bytes_eq last.name name) last None k tt))
  where
    held_or : (one other : Option Entity) → IsHeldIf rows one → IsHeldIf rows other → IsHeldIf rows (or_else one other)
    held_or None other a b = b
    held_or (Some entity) other a b = a

held_new_by : (b : Bool) (rows : ℕ) (found : List Named) (head : List ℕ) (entity : Entity)
    → ((name : List ℕ) → IsHeldIf rows (entity_in found name)) → IsHeld rows entity
    → (name : List ℕ) → IsHeldIf rows (entity_in (if b then found else found ++ names head entity ∷ []) name)
held_new_by true rows found head entity h k = h
held_new_by false rows found head entity h k = held_pushed rows found (names head entity) h k

pub held_new : (rows : ℕ) (found : List Named) (head : List ℕ) (entity : Entity)
    → ((name : List ℕ) → IsHeldIf rows (entity_in found name)) → IsHeld rows entity
    → (name : List ℕ) → IsHeldIf rows (entity_in (with_new found head entity) name)
held_new rows found head entity h k = held_new_by (contains (names_of found) head) rows found head entity h k

-- a name that was declared as a routine or not, and then as unclear where it is not there yet
twice : (found : Option Entity) (a : Bool) → or_else (or_else found (unclear_if a)) (unclear_if a)
    ≡ or_else found (unclear_if a)
twice None true = refl
twice None false = refl
twice (Some entity) a = refl

pub named_behind : (found : List Named) (head : List ℕ) (number : Option ℕ)
    → Behind found (head ∷ []) (with_new (names_by found head number) head unclear)
named_behind found head None = new_behind found head unclear refl
named_behind found head (Some number) =
    let now : List Named = with_new found head (routine number) in
    let one = new_behind found head (routine number) refl in
    let two = new_behind now head unclear refl in
    record {
      each = λ name.
          two.each name
          ∙ (ap (λ (found : Option Entity). or_else found (unclear_if (contains (head ∷ []) name))) (one.each name)
          ∙ twice (served found name) (contains (head ∷ []) name));
    }

pub named_held : (rows : ℕ) (found : List Named) (head : List ℕ) (number : Option ℕ)
    → ((name : List ℕ) → IsHeldIf rows (entity_in found name))
    → (name : List ℕ) → IsHeldIf rows (entity_in (with_new (names_by found head number) head unclear) name)
named_held rows found head None h = held_new rows found head unclear h tt
named_held rows found head (Some number) h =
    held_new rows (with_new found head (routine number)) head unclear
    (held_new rows found head (routine number) h tt) tt
