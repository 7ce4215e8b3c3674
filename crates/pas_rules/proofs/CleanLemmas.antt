-- Parts of which no word shows a fault, and what is known of them then.
use Rattle.std.proofs.Common.{◌≡◌, refl, ap, subst, ◌<◌, arith, Bool, true, false, List, [], ◌∷◌, ◌++◌}
use Rattle.std.proofs.Common.{length, map, Option, Some, None, IfSome}
use Rattle.pas_tokens.specs.Cutting.{Wrong}
use Rattle.pas_rules.specs.Marks.{Marks, quiet, first_of, at_first, last_of, at_last, with_behind}
use Rattle.pas_rules.specs.Marks.{followed, joined, listed, unless, Judged, known, both, all_known}
use Rattle.pas_rules.specs.Marks.{kept_by, checked_by, checked, faults_if, noted}
-- something that holds of each item
pub use Rattle.std.specs.List.{AllByRecursion as Each}

pub each_before : {A : Type 0} (P : A → Type 0) (items more : List A) → Each P (items ++ more) → Each P items
each_before P [] more h = tt
each_before P (item ∷ items) more h = (h.0, each_before P items more h.1)

pub each_behind : {A : Type 0} (P : A → Type 0) (items more : List A) → Each P (items ++ more) → Each P more
each_behind P [] more h = h
each_behind P (item ∷ items) more h = each_behind P items more h.1

pub each_append : {A : Type 0} (P : A → Type 0) (items more : List A) → Each P items → Each P more
    → Each P (items ++ more)
each_append P [] more h k = k
each_append P (item ∷ items) more h k = (h.0, each_append P items more h.1 k)

pub each_then : {A : Type 0} (P Q : A → Type 0) (items : List A) → ((item : A) → P item → Q item) → Each P items
    → Each Q items
each_then P Q [] gives h = tt
each_then P Q (item ∷ items) gives h = (gives item h.0, each_then P Q items gives h.1)

pub each_map : {A B : Type 0} (P : A → Type 0) (Q : B → Type 0) (make : A → B) (items : List A)
    → ((item : A) → P item → Q (make item)) → Each P items → Each Q (map make items)
each_map P Q make [] gives h = tt
each_map P Q make (item ∷ items) gives h = (gives item h.0, each_map P Q make items gives h.1)

-- words that show no fault
abbrev pub AreStill : List (List Wrong) → Type 0
AreStill tokens = Each (λ faults. faults ≡ []) tokens

-- a part that shows none, and behind which none is shown because of it
pub record IsClean (marks : Marks) : Type 0 where
  pub still : AreStill marks.tokens
  pub behind : marks.behind ≡ []

-- no faults of both
pub no_faults : (faults more : List Wrong) → faults ++ more ≡ [] → (faults ≡ []) × (more ≡ [])
no_faults [] more h = (refl, h)
no_faults (refusal ∷ faults) more h = absurd (omega (arith, ap length h))

pub some_fault : {A : Type 0} (refusal : Wrong) (more : List Wrong) → refusal ∷ more ≡ [] → A
some_fault refusal more h = absurd (omega (arith, ap length h))

first_still : (faults behind : List Wrong) (tokens : List (List Wrong)) → IsClean (first_of faults behind tokens)
    → (faults ≡ []) × AreStill tokens × (behind ≡ [])
first_still faults behind [] h =
    let none : (faults ≡ []) × (behind ≡ []) = no_faults faults behind h.behind in (none.0, tt, none.1)
first_still faults behind (first ∷ more) h =
    let none : (faults ≡ []) × (first ≡ []) = no_faults faults first h.still.0 in
    (none.0, (none.1, h.still.1), h.behind)

pub at_first_clean : (faults : List Wrong) (part : Marks) → IsClean (at_first faults part)
    → (faults ≡ []) × IsClean part
at_first_clean faults part h =
    let found : (faults ≡ []) × AreStill part.tokens × (part.behind ≡ []) =
    first_still faults part.behind part.tokens h in
    (found.0, record { still = found.1; behind = found.2 })

pub followed_clean : (part next : Marks) → IsClean (followed part next) → IsClean part × IsClean next
followed_clean part next h =
    let behind : Marks = at_first part.behind next in
    let found : (part.behind ≡ []) × IsClean next =
    at_first_clean part.behind next
    (record { still = each_behind (λ faults. faults ≡ []) part.tokens behind.tokens h.still; behind = h.behind }) in (
      record { still = each_before (λ faults. faults ≡ []) part.tokens behind.tokens h.still; behind = found.0 },
      found.1,
    )

-- parts one after another, and with words between them
pub joined_clean : (parts : List Marks) → IsClean (joined parts) → Each IsClean parts
joined_clean [] h = tt
joined_clean (part ∷ parts) h =
    let found : IsClean part × IsClean (joined parts) = followed_clean part (joined parts) h in
    (found.0, joined_clean parts found.1)

pub listed_clean : (parts : List Marks) → IsClean (listed parts) → Each IsClean parts
listed_clean [] h = tt
listed_clean (part ∷ []) h = (h, tt)
listed_clean (part ∷ (next ∷ parts)) h =
    let found : Each IsClean (part ∷ (quiet ∷ (listed (next ∷ parts) ∷ []))) =
    joined_clean (part ∷ quiet ∷ listed (next ∷ parts) ∷ []) h in
    (found.0, listed_clean (next ∷ parts) found.1.1.0)

-- the same of marks that are those of such parts
pub parts_clean : (marks : Marks) (parts : List Marks) → marks ≡ joined parts → IsClean marks → Each IsClean parts
parts_clean marks parts is h = joined_clean parts (subst IsClean is h)

-- more that shows at a last word
last_still : (faults : List Wrong) (tokens : List (List Wrong)) → AreStill (last_of faults tokens) → AreStill tokens
last_still faults [] h = tt
last_still faults (last ∷ []) h = ((no_faults last faults h.0).0, tt)
last_still faults (first ∷ (second ∷ more)) h = (h.0, last_still faults (second ∷ more) h.1)

last_faults : (faults : List Wrong) (tokens : List (List Wrong)) → 0 < length tokens
    → AreStill (last_of faults tokens) → faults ≡ []
last_faults faults [] some h = absurd (omega (arith, some))
last_faults faults (last ∷ []) some h = (no_faults last faults h.0).1
last_faults faults (first ∷ (second ∷ more)) some h = last_faults faults (second ∷ more) (omega arith) h.1

pub at_last_clean : (faults : List Wrong) (part : Marks) → IsClean (at_last faults part) → IsClean part
at_last_clean faults part h = record { still = last_still faults part.tokens h.still; behind = h.behind }

pub at_last_none : (faults : List Wrong) (part : Marks) → 0 < length part.tokens → IsClean (at_last faults part)
    → faults ≡ []
at_last_none faults part some h = last_faults faults part.tokens some h.still

-- more that shows behind
pub never_behind : {A : Type 0} (refusal : Wrong) (part : Marks) → IsClean (with_behind (refusal ∷ []) part) → A
never_behind refusal part h =
    some_fault refusal [] (no_faults part.behind (refusal ∷ []) h.behind).1

-- a rule holds that shows no fault
pub holds : (b : Bool) (refusal : Wrong) → unless b refusal ≡ [] → b ≡ true
holds true refusal h = refl
holds false refusal h = some_fault refusal [] h

-- what is known of a part, if that shows no fault
abbrev pub Lawfully : {A : Type 0} → (A → Type 0) → Judged A → Type 0
Lawfully P part = IsClean part.marks → IfSome part.value P

pub known_if : {A B : Type 0} (P : A → Type 0) (Q : B → Type 0) (make : A → B) (value : Option A)
    → ((found : A) → P found → Q (make found)) → IfSome value P → IfSome (known make value) Q
known_if P Q make None gives h = tt
known_if P Q make (Some found) gives h = gives found h

pub both_if : {A B C : Type 0} (P : A → Type 0) (Q : B → Type 0) (R : C → Type 0) (make : A → B → C)
    (first : Option A) (second : Option B) → ((one : A) (other : B) → P one → Q other → R (make one other))
    → IfSome first P → IfSome second Q → IfSome (both make first second) R
both_if P Q R make None None gives h k = tt
both_if P Q R make None (Some other) gives h k = tt
both_if P Q R make (Some one) None gives h k = tt
both_if P Q R make (Some one) (Some other) gives h k = gives one other h k

-- a part that must meet a demand
pub checked_value : {A : Type 0} (P : A → Type 0) (demand : A → List Wrong) (marks : Marks) (value : Option A)
    → IfSome value P → IfSome (checked_by demand marks value).value (λ found. P found × (demand found ≡ []))
checked_value P demand marks None h = tt
checked_value P demand marks (Some value) h = by_faults (demand value) refl
  where
    by_faults : (faults : List Wrong) → demand value ≡ faults
        → IfSome (kept_by marks value faults).value (λ found. P found × (demand found ≡ []))
    by_faults [] is = (h, is)
    by_faults (refusal ∷ more) is = tt

checked_still : {A : Type 0} (demand : A → List Wrong) (marks : Marks) (value : Option A)
    → IsClean (checked_by demand marks value).marks → IsClean marks
checked_still demand marks None h = h
checked_still demand marks (Some value) h = by_faults (demand value) h
  where
    by_faults : (faults : List Wrong) → IsClean (kept_by marks value faults).marks → IsClean marks
    by_faults [] clean = clean
    by_faults (refusal ∷ more) clean = at_last_clean (refusal ∷ more) marks clean

pub checked_clean : {A : Type 0} (demand : A → List Wrong) (part : Judged A) → IsClean (checked demand part).marks
    → IsClean part.marks
checked_clean demand part h = checked_still demand part.marks part.value h

pub checked_if : {A : Type 0} (P : A → Type 0) (demand : A → List Wrong) (part : Judged A) → Lawfully P part
    → Lawfully (λ found. P found × (demand found ≡ [])) (checked demand part)
checked_if P demand part h clean = checked_value P demand part.marks part.value (h (checked_clean demand part clean))

-- one that shows what it does not meet, and stays known
noted_value : {A : Type 0} (P : A → Type 0) (demand : A → List Wrong) (value : Option A) → faults_if demand value ≡ []
    → IfSome value P → IfSome value (λ found. P found × (demand found ≡ []))
noted_value P demand None is h = tt
noted_value P demand (Some value) is h = (h, is)

pub noted_if : {A : Type 0} (P : A → Type 0) (demand : A → List Wrong) (part : Judged A)
    → 0 < length part.marks.tokens → Lawfully P part
    → Lawfully (λ found. P found × (demand found ≡ [])) (noted demand part)
noted_if P demand part some h clean =
    noted_value P demand part.value (at_last_none (faults_if demand part.value) part.marks some clean)
    (h (at_last_clean (faults_if demand part.value) part.marks clean))

-- lists of parts that are all known
pub all_known_if : {A : Type 0} (P : A → Type 0) (items : List (Option A)) → Each (λ item. IfSome item P) items
    → IfSome (all_known items) (Each P)
all_known_if P [] h = tt
all_known_if P (item ∷ items) h =
    both_if P (Each P) (Each P) ◌∷◌ item (all_known items) (λ found others one more. (one, more)) h.0
    (all_known_if P items h.1)
