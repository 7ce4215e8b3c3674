-- Steps, and what a list gives by them.
use Rattle.std.proofs.Common.{◌≡◌, ◌≢◌, ℕ, zero, suc, ◌+◌, ◌-◌, ◌<◌, ◌≤◌, Bool, true, false, List, [], ◌∷◌, length}
use Rattle.std.proofs.Common.{Option, Some, None, Result, Ok, Err}
use Rattle.std.proofs.Common.{refl, sym, ap, ◌∙◌, subst, arith, nat_lt, if◌then◌else◌}
use Rattle.std.proofs.lemmas.Bool.{le-ltb}
use Rattle.wb_base.specs.declared.tokens.Tok.{Tok}
use Rattle.web_scan.specs.Scanned.{Scanned}
use Rattle.macro_expand.specs.declared.limits.TheConstants.{LEVEL_LIMIT}
use Rattle.macro_expand.specs.declared.refusals.ExpandErr.{ExpandErr}
use Rattle.macro_expand.specs.declared.refusals.ExpandErr.TheVariants.{Levels, Steps}
use Rattle.macro_expand.specs.Expansion.{Meaning, itself, simple, parametric, section, Removal, Expansion, ◌>>=◌}
use Rattle.macro_expand.specs.Expansion.{gives, steps_after, replaced, behind_opening, with_argument, token_removed}
use Rattle.macro_expand.specs.Expansion.{head_removed}
use Rattle.macro_expand.specs.Expansion.{removal, stopped, with_item, continued, given_within, given_by, meaning}
use Rattle.macro_expand.specs.Flat.{Flat, nothing, token, opens, closes, ends, argument, levels, ends_in_front}
use Rattle.macro_expand.specs.Flat.{behind_ends, parted}
use Rattle.macro_expand.specs.Flat.{followed_by, text_before, pieces_before}
use Rattle.macro_expand.specs.Items as item
use Rattle.macro_expand.specs.Items.{Expanded}

-- something is left
abbrev pub IsLeft : Flat → Type 0
IsLeft list = list ≢ nothing

-- with a step left the head is removed
pub removal-head : (web : Scanned) (steps : ℕ) (list : Flat) → 0 < steps
    → removal web steps list ≡ head_removed web (steps - 1) list
unfolding removal
removal-head web steps list some =
    let test : nat_lt steps 1 ≡ false = le-ltb steps 1 some in
    ap (λ (b : Bool). (if b then Err Steps else Ok (steps - 1)) >>= (λ steps. head_removed web steps list)) test

-- without a step left it is not
pub removal-none : (web : Scanned) (list : Flat) → removal web 0 list ≡ Err Steps
unfolding removal
removal-none web list = refl

-- more steps taken leave no more steps
steps_after-less : (count steps after : ℕ) → steps_after count steps ≡ Ok after → after ≤ steps
steps_after-less count steps after is = chosen (nat_lt steps count) is
  where
    chosen : (b : Bool) → (if b then Err Steps else Ok (steps - count)) ≡ Ok after → after ≤ steps
    chosen true is = absurd (cc)
    chosen false is = let same : steps - count ≡ after = cc in omega arith

-- a step followed by another was itself taken
bound : {A B : Type 0} (first : Result A ExpandErr) (next : A → Result B ExpandErr) (value : B)
    → (first >>= next) ≡ Ok value
    → (x : A) × (first ≡ Ok x) × (next x ≡ Ok value)
bound (Ok x) next value is = (x, refl, is)
bound (Err refusal) next value is = absurd (cc)

replaced-steps : (steps : ℕ) (list : Flat) (left : Removal) → replaced steps list ≡ Ok left → left.steps ≡ steps
replaced-steps steps list left is = chosen (nat_lt LEVEL_LIMIT (levels list)) is
  where
    chosen : (b : Bool) → (if b then Err Levels else gives None steps list) ≡ Ok left → left.steps ≡ steps
    chosen true is = absurd (cc)
    chosen false is = let same : record { item = None; steps = steps; list = list }
        ≡ left = cc in sym (ap (λ (r : Removal). r.steps) same)

gives-steps : (item : Option Expanded) (steps : ℕ) (list : Flat) (left : Removal)
    → gives item steps list ≡ Ok left → left.steps ≡ steps
gives-steps item steps list left is =
    let same : record { item = item; steps = steps; list = list }
    ≡ left = cc in sym (ap (λ (r : Removal). r.steps) same)

same_steps : {after steps : ℕ} → after ≡ steps → after ≤ steps
same_steps {after} {steps} same = omega arith

with_argument-steps : (text : List Tok) (steps : ℕ) (list : Flat) (left : Removal)
    → with_argument text steps list ≡ Ok left
    → left.steps ≤ steps
unfolding with_argument
with_argument-steps text steps list left is =
    let ended = bound (steps_after (ends_in_front list) steps) _ left is in
    let opened = bound (behind_opening (behind_ends list)) _ left ended.2 in
    let found = parted 0 opened.0 in
    let taken = bound (steps_after (found.count + 2) ended.0) _ left opened.2 in
    let behind : ended.0 ≤ steps = steps_after-less (ends_in_front list) steps ended.0 ended.1 in
    let less : taken.0 ≤ ended.0 = steps_after-less (found.count + 2) ended.0 taken.0 taken.1 in
    let same : left.steps ≡ taken.0 = replaced-steps taken.0 (text_before found.inside text (ends found.behind))
    left taken.2 in
    omega arith

token_removed-steps : (steps : ℕ) (list : Flat) (meant : Meaning) (left : Removal)
    → token_removed steps list meant ≡ Ok left
    → left.steps ≤ steps
token_removed-steps steps list (itself given) left is = same_steps (gives-steps (Some given) steps list left is)
token_removed-steps steps list (simple text) left is = same_steps (replaced-steps steps (text_before nothing text
    (ends list)) left is)
token_removed-steps steps list (parametric text) left is = with_argument-steps text steps list left is
token_removed-steps steps list (section []) left is = absurd (cc)
token_removed-steps steps list (section (piece ∷ pieces)) left is =
    same_steps (replaced-steps steps (pieces_before (piece ∷ pieces) (ends list)) left is)

head_removed-steps : (web : Scanned) (steps : ℕ) (list : Flat) (left : Removal)
    → head_removed web steps list ≡ Ok left
    → left.steps ≤ steps
head_removed-steps web steps nothing left is = same_steps (gives-steps None steps nothing left is)
head_removed-steps web steps (token head list) left is = token_removed-steps steps list (meaning web head) left is
head_removed-steps web steps (opens number list) left is = same_steps (gives-steps (Some (item.opens number)) steps
    list left is)
head_removed-steps web steps (closes number list) left is = same_steps (gives-steps (Some (item.closes number))
    steps list left is)
head_removed-steps web steps (ends list) left is = same_steps (gives-steps None steps list left is)
head_removed-steps web steps (argument given list) left is =
    same_steps (replaced-steps steps (followed_by given (ends list)) left is)

-- a removal takes a step or more
pub removal-steps : (web : Scanned) (steps : ℕ) (list : Flat) (left : Removal) → removal web steps list ≡ Ok left
    → left.steps < steps
removal-steps web zero list left is = absurd (none is)
  where
    none : removal web 0 list ≡ Ok left → ⊥
    none is = let none = removal-none web list in cc
removal-steps web (suc steps) list left is =
    let less : left.steps ≤ suc steps - 1 = head_removed-steps web (suc steps - 1) list left (sym (removal-head web
    (suc steps) list (omega arith)) ∙ is) in
    omega arith

-- a list is empty, or something is left
by_left : {P : Type 0} (list : Flat) → (list ≡ nothing → P) → (IsLeft list → P) → P
by_left nothing none left = none refl
by_left (token head list) none left = left (λ is. cc)
by_left (opens number list) none left = left (λ is. cc)
by_left (closes number list) none left = left (λ is. cc)
by_left (ends list) none left = left (λ is. cc)
by_left (argument given list) none left = left (λ is. cc)

given_within-nothing : (most : ℕ) (web : Scanned) (steps : ℕ) → given_within most web steps nothing ≡ stopped None
unfolding given_within
given_within-nothing zero web steps = refl
given_within-nothing (suc most) web steps = refl

given_within-zero : (web : Scanned) (steps : ℕ) (list : Flat) → IsLeft list
    → given_within 0 web steps list ≡ stopped (Some Steps)
unfolding given_within
given_within-zero web steps nothing left = absurd (left refl)
given_within-zero web steps list left = refl

given_within-suc : (most : ℕ) (web : Scanned) (steps : ℕ) (list : Flat) → IsLeft list
    → given_within (suc most) web steps list ≡ continued (given_within most web) (removal web steps list)
unfolding given_within
given_within-suc most web steps nothing left = absurd (left refl)
given_within-suc most web steps list left = refl

-- what comes after a removal counts only where there is one
continued-same : (f g : ℕ → Flat → Expansion) (removed : Result Removal ExpandErr)
    → ((left : Removal) → removed ≡ Ok left → f left.steps left.list ≡ g left.steps left.list)
    → continued f removed ≡ continued g removed
continued-same f g (Ok left) same = ap (with_item left.item) (same left refl)
continued-same f g (Err refusal) same = refl

-- without a step left
given_within-none : (most : ℕ) (web : Scanned) (steps : ℕ) (list : Flat) → IsLeft list → steps ≡ 0
    → given_within most web steps list ≡ stopped (Some Steps)
given_within-none zero web steps list left none = given_within-zero web steps list left
given_within-none (suc most) web steps list left none =
    given_within-suc most web steps list left
    ∙ ap (continued (given_within most web)) (ap (λ steps. removal web steps list) none ∙ removal-none web list)

-- more removals than steps give nothing more
given_within-same : (most other : ℕ) (web : Scanned) (steps : ℕ) (list : Flat) → IsLeft list → steps ≤ most
    → steps ≤ other
    → given_within most web steps list ≡ given_within other web steps list
given_within-same zero other web steps list left few few_too =
    given_within-none 0 web steps list left (omega arith) ∙ sym (given_within-none other web steps list left (omega
    arith))
given_within-same (suc most) zero web steps list left few few_too =
    given_within-none (suc most) web steps list left (omega arith)
    ∙ sym (given_within-none 0 web steps list left (omega arith))
given_within-same (suc most) (suc other) web steps list left few few_too =
    given_within-suc most web steps list left
    ∙ continued-same (given_within most web) (given_within other web) (removal web steps list) (λ (removed :
    Removal) (is : removal web steps list ≡ Ok removed).
    let less : removed.steps < steps = removal-steps web steps list removed is in
    by_left removed.list
    (λ (empty : removed.list ≡ nothing). ap (given_within most web removed.steps) empty
    ∙ given_within-nothing most web removed.steps
    ∙ sym (ap (given_within other web removed.steps) empty ∙ given_within-nothing other web removed.steps))
    (λ (left : IsLeft removed.list). given_within-same most other web removed.steps removed.list left (omega arith)
    (omega arith)))
    ∙ sym (given_within-suc other web steps list left)

-- what a list gives begins with what the removal of its head gives
pub given_by-left : (web : Scanned) (steps : ℕ) (list : Flat) → IsLeft list
    → given_by web steps list ≡ continued (given_by web) (removal web steps list)
unfolding given_by
given_by-left web zero list left =
    given_within-zero web 0 list left ∙ sym (ap (continued (λ steps. given_within steps web steps)) (removal-none
    web list))
given_by-left web (suc steps) list left =
    given_within-suc steps web (suc steps) list left
    ∙ continued-same (given_within steps web) (λ steps. given_within steps web steps) (removal web (suc steps)
    list) (λ (removed : Removal) (is : removal web (suc steps) list ≡ Ok removed).
    let less : removed.steps < suc steps = removal-steps web (suc steps) list removed is in
    by_left removed.list
    (λ (empty : removed.list ≡ nothing). ap (given_within steps web removed.steps) empty
    ∙ given_within-nothing steps web removed.steps
    ∙ sym (ap (given_within removed.steps web removed.steps) empty
    ∙ given_within-nothing removed.steps web removed.steps))
    (λ (left : IsLeft removed.list). given_within-same steps removed.steps web removed.steps removed.list left
    (omega arith) (omega arith)))

pub given_by-nothing : (web : Scanned) (steps : ℕ) → given_by web steps nothing ≡ stopped None
unfolding given_by
given_by-nothing web steps = given_within-nothing steps web steps

with_item-few : (item : Option Expanded) (further : Expansion) (most : ℕ) → length further.items ≤ most
    → length (with_item item further).items ≤ suc most
with_item-few None further most few = omega arith
with_item-few (Some given) further most few = omega arith

continued-few : (most : ℕ) (f : ℕ → Flat → Expansion) (removed : Result Removal ExpandErr)
    → ((steps : ℕ) (list : Flat) → length (f steps list).items ≤ most)
    → length (continued f removed).items ≤ suc most
continued-few most f (Ok left) few = with_item-few left.item (f left.steps left.list) most (few left.steps
    left.list)
continued-few most f (Err refusal) few = omega arith

few_as : {given same : Expansion} {most : ℕ} → given ≡ same → length same.items ≤ most → length given.items ≤ most
few_as {given} {same} {most} is few = let P : Expansion → Type 0 = λ e. length e.items ≤ most in subst P (sym is)
    few

-- no more items are given than heads are removed
given_within-few : (most : ℕ) (web : Scanned) (steps : ℕ) (list : Flat)
    → length (given_within most web steps list).items ≤ most
given_within-few zero web steps list = by_left list
    (λ (empty : list ≡ nothing). few_as (ap (given_within 0 web steps) empty
    ∙ given_within-nothing 0 web steps) (omega arith))
    (λ (left : IsLeft list). few_as (given_within-zero web steps list left) (omega arith))
given_within-few (suc most) web steps list = by_left list
    (λ (empty : list ≡ nothing). few_as (ap (given_within (suc most) web steps) empty
    ∙ given_within-nothing (suc most) web steps) (omega arith))
    (λ (left : IsLeft list). few_as (given_within-suc most web steps list left)
    (continued-few most (given_within most web) (removal web steps list) (λ steps list. given_within-few most web
    steps list)))

pub given_by-few : (web : Scanned) (steps : ℕ) (list : Flat) → length (given_by web steps list).items ≤ steps
unfolding given_by
given_by-few web steps list = given_within-few steps web steps list
