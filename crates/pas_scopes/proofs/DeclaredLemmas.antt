-- Declarations, one behind another, and the first fault that they show.
use Rattle.std.proofs.Common.{◌≡◌, ◌≢◌, refl, sym, ap, subst, ◌∙◌, ℕ, Bool, true, false, List, [], ◌∷◌, ◌++◌, Option}
use Rattle.std.proofs.Common.{Some}
use Rattle.std.proofs.Common.{None, Err, cond}
use Rattle.std.specs.Prelude.{find, option_map, is_some, if◌then◌else◌}
use Rattle.std.specs.Str.{bytes_eq}
use Rattle.std.proofs.lemmas.Slice.Eq.{bytes_eq-Decides}
use Rattle.wb_base.specs.declared.faults.Fault.{Fault}
use Rattle.pas_syntax.specs.Words.{Word}
use Rattle.pas_scopes.specs.declared.stop.Stop.{Stop}
use Rattle.pas_scopes.specs.declared.stop.Stop.TheVariants as stop
use Rattle.pas_rules.specs.Marks.{Marks, followed, Judged}
use Rattle.pas_rules.specs.Scopes.{Entity, Named, names, names_of, contains, entity_in, or_else}
use Rattle.pas_rules.specs.Scopes.{with_new}
use Rattle.pas_scopes.specs.Answers.{lawful_end, EndsAs, StopsBy, IsQuiet, FailsBy}
use Rattle.pas_scopes.specs.Constants.{IsUnknownBy}
use Rattle.pas_scopes.proofs.EndLemmas.{end_quiet}
use Rattle.pas_scopes.specs.DeclaredSoFar.{first_noted, Notes, NotesIf}
use Rattle.pas_rules.proofs.AsMany.{AsMany}
use Rattle.pas_rules.proofs.NamesThere.{there_is}
use Rattle.pas_scopes.proofs.SettleLemmas.{quiet_behind, shows_front, shows_behind}

-- names

-- an entity of the first name, or of those behind it
entity_by : (b : Bool) (first : Named) (more : Option Named) (other : Option Entity) (found : Option Entity)
    → option_map (λ (named : Named). named.entity) more ≡ or_else found other
    → option_map (λ (named : Named). named.entity) (cond b (Some first) more)
    ≡ or_else (if b then Some first.entity else found) other
entity_by true first more other found h = refl
entity_by false first more other found h = h

first_by : (b : Bool) (first : Named) (more : Option Named)
    → option_map (λ (named : Named). named.entity) (cond b (Some first) more)
    ≡ (if b then Some first.entity else option_map (λ (named : Named). named.entity) more)
first_by true first more = refl
first_by false first more = refl

-- what a name stands for behind one more
pub entity_push : (found : List Named) (last : Named) (name : List ℕ)
    → entity_in (found ++ last ∷ []) name ≡ or_else (entity_in found name) (entity_in (last ∷ []) name)
entity_push [] last name = refl
entity_push (first ∷ found) last name =
    entity_by (bytes_eq first.name name) first (find (λ (named : Named). bytes_eq named.name name) (found ++ last ∷
    []))
    (entity_in (last ∷ []) name) (entity_in found name) (entity_push found last name)
    ∙ ap (λ (one : Option Entity). or_else one (entity_in (last ∷ []) name))
    (sym (first_by (bytes_eq first.name name) first (find (λ (named : Named). bytes_eq named.name name) found)))

or_else_some : (one other : Option Entity) → is_some one ≡ true → one ≡ or_else one other
or_else_some None other h = cc
or_else_some (Some entity) other h = refl

or_else_none : (one : Option Entity) → one ≡ or_else one None
or_else_none None = refl
or_else_none (Some entity) = refl

-- a name that is there already hides what comes behind
hidden_by : (found : List Named) (name other : List ℕ) (entity : Entity) (b : Bool) → bytes_eq name other ≡ b
    → contains (names_of found) name ≡ true
    → entity_in found other
    ≡ or_else (entity_in found other)
    (option_map (λ (named : Named). named.entity) (cond b (Some (names name entity)) None))
hidden_by found name other entity true is h =
    or_else_some (entity_in found other) (Some entity)
    (sym (there_is found other) ∙ (ap (contains (names_of found)) (sym ((bytes_eq-Decides name other).0 is)) ∙ h))
hidden_by found name other entity false is h = or_else_none (entity_in found other)

new_by : (found : List Named) (name other : List ℕ) (entity : Entity) (b : Bool)
    → contains (names_of found) name ≡ b
    → entity_in (if b then found else found ++ names name entity ∷ []) other
    ≡ or_else (entity_in found other) (entity_in (names name entity ∷ []) other)
new_by found name other entity true h = hidden_by found name other entity (bytes_eq name other) refl h
new_by found name other entity false h = entity_push found (names name entity) other

pub entity_new : (found : List Named) (name other : List ℕ) (entity : Entity)
    → entity_in (with_new found name entity) other
    ≡ or_else (entity_in found other) (entity_in (names name entity ∷ []) other)
entity_new found name other entity = new_by found name other entity (contains (names_of found) name) refl

-- names that stand for the same, with one more
pub pushed_alike : (found other : List Named) (name : List ℕ) (entity : Entity)
    → ((n : List ℕ) → entity_in found n ≡ entity_in other n) → (n : List ℕ)
    → entity_in (with_new found name entity) n ≡ entity_in (other ++ names name entity ∷ []) n
pushed_alike found other name entity same n =
    entity_new found name n entity
    ∙ (ap (λ (one : Option Entity). or_else one (entity_in (names name entity ∷ []) n)) (same n)
    ∙ sym (entity_push other (names name entity) n))

-- what is noted
module _ (words more : List Word) (part next : Marks) (many : AsMany more next) where
  pub notes_behind : (first second third : Option Fault) → Notes words part first second
      → Notes more next second third → Notes (words ++ more) (followed part next) first third
  notes_behind None None None h k = quiet_behind words more part next false h k
  notes_behind None None (Some fault) h k = shows_behind words more part next fault h k
  notes_behind None (Some fault) None h k = cc
  notes_behind None (Some fault) (Some other) h k =
      subst (λ (f : Option Fault). Notes (words ++ more) (followed part next) None f) (sym k)
      (shows_front words more part next fault many h)
  notes_behind (Some fault) second third h k =
      (subst (λ (noted : Option Fault). Notes more next noted third) h k)

pub notes_quiet : (words : List Word) (marks : Marks) (noted : Option Fault) → IsQuiet words marks false
    → Notes words marks noted noted
notes_quiet words marks None h = h
notes_quiet words marks (Some fault) h = refl

-- why checking stops in words is noted
pub notes_why : (Clear : Type 0) (words : List Word) (marks : Marks) (noted : Option Fault) (why : Stop)
    → why ≢ stop.OutOfMemory → (Clear → FailsBy words marks why)
    → NotesIf Clear words marks noted (first_noted noted (Err why))
notes_why Clear words marks (Some fault) why some h = refl
notes_why Clear words marks None stop.OutOfMemory some h = absurd (some refl)
notes_why Clear words marks None (stop.Fault fault) some h = h
notes_why Clear words marks None stop.Missing some h = λ clear. absurd (h clear)

pub notes_found : {A : Type 0} (Clear : Type 0) (words : List Word) (part : Judged A) (noted : Option Fault) (value :
    A)
    (line : ℕ) → EndsAs words part value (lawful_end line) → NotesIf Clear words part.marks noted noted
notes_found Clear words part None value line h =
    λ clear. record { still = end_quiet words part.marks.tokens line h.end; behind = h.behind }
notes_found Clear words part (Some fault) value line h = refl

pub unknown_why : {A : Type 0} (part : Judged A) (why : Stop) → why ≢ stop.OutOfMemory → IsUnknownBy part why
    → part.value ≡ None
unknown_why part stop.OutOfMemory some h = absurd (some refl)
unknown_why part (stop.Fault fault) some h = h
unknown_why part stop.Missing some h = h

-- where nothing is noted, nothing stopped
pub fault_noted : {A : Type 0} (words : List Word) (part : Judged A) (noted : Option Fault) (why : Stop)
    → why ≢ stop.OutOfMemory → StopsBy words part why → first_noted noted (Err why) ≡ None → ⊥
fault_noted words part (Some fault) why some h none = cc
fault_noted words part None stop.OutOfMemory some h none = some refl
fault_noted words part None (stop.Fault fault) some h none = cc
fault_noted words part None stop.Missing some h none = h
