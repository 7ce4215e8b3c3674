-- What is known of labels, by the labels that stand before a place and those of the lists around it.
use Rattle.std.proofs.Common.{◌≡◌, refl, sym, ap, ◌∙◌, ℕ, ◌+◌, arith, Bool, true, false, List, [], ◌∷◌, ◌++◌, map}
use Rattle.std.proofs.Common.{Option, Some, None}
use Rattle.std.specs.Prelude.{◌==◌, ◌&&◌, ◌||◌, not, nat_eq, nat_lt, if◌then◌else◌, cond}
use Rattle.std.specs.Map.{lookup}
use Rattle.std.proofs.lemmas.Bool.{eqb-true}
use Rattle.std.proofs.lemmas.Grind.{common_steps}
use Rattle.wb_base.specs.declared.faults.TheConstants.{CONSTANT_OUT_OF_RANGE, WRONG_LABEL, WRONG_GOTO}
use Rattle.pas_tokens.specs.Cutting.{wrong}
use Rattle.pas_rules.specs.declared.limits.TheConstants.{GREATEST_LABEL}
use Rattle.pas_types.specs.declared.labels.Label.{Label}
use Rattle.pas_typed.specs.Typed as typed
use Rattle.pas_rules.specs.Marks.{unless, Judged, means, refuses}
use Rattle.pas_rules.specs.Scopes.{Outer, Inner, Scopes}
use Rattle.pas_rules.specs.Labels.{has_label, block_labels, Spot, is_in_list, label_faults, is_last, to_list, goto_of}
use Rattle.pas_rules.specs.Routines.{all_stand}
use Rattle.pas_types.specs.inner.LabelViews.{Known, numbers_of, times, label_at, known_labels, entered, left, stood}
use Rattle.pas_types.specs.inner.LabelViews.{is_free, is_within, may_stand, is_around_in, all_stand_in, standing_faults}
use Rattle.pas_types.specs.inner.LabelViews.{program_by, goto_by}
use Rattle.pas_types.proofs.LabelLemmas.{times_append, same_sides}

map_over : {A B C : Type 0} (f : A → B) (g : B → C) (h : A → C) → ((x : A) → g (f x) ≡ h x) → (xs : List A)
    → map g (map f xs) ≡ map h xs
map_over f g h same [] = refl
map_over f g h same (x ∷ xs) = λ i. same x i ∷ map_over f g h same xs i

pub numbers_known : (declared before around : List ℕ) → numbers_of (known_labels declared before around) ≡ declared
numbers_known [] before around = refl
numbers_known (label ∷ declared) before around = ap (λ rest. label ∷ rest) (numbers_known declared before around)

-- into lists, and behind them
pub entered_known : (declared before around lists : List ℕ)
    → entered lists (known_labels declared before around) ≡ known_labels declared before (lists ++ around)
entered_known declared before around lists =
    map_over _ _ _ (λ label. ap (λ (n : ℕ). (label, record { stands = has_label before label; around = n }))
    (omega (arith, times_append label lists around))) declared

pub left_known : (declared before around lists : List ℕ)
    → left lists (known_labels declared before (lists ++ around)) ≡ known_labels declared before around
left_known declared before around lists =
    map_over _ _ _ (λ label. ap (λ (n : ℕ). (label, record { stands = has_label before label; around = n }))
    (omega (arith, times_append label lists around))) declared

-- behind a label
has_push : (before : List ℕ) (label other : ℕ)
    → has_label before other || label == other ≡ has_label (before ++ label ∷ []) other
has_push [] label other = or_false (label == other)
  where
    or_false : (b : Bool) → b ≡ b || false
    or_false true = refl
    or_false false = refl
has_push (first ∷ before) label other =
    or_assoc (first == other) (has_label before other) (label == other)
    ∙ ap (λ (b : Bool). first == other || b) (has_push before label other)
  where
    or_assoc : (a b c : Bool) → (a || b) || c ≡ a || (b || c)
    or_assoc true b c = refl
    or_assoc false b c = refl

pub stood_known : (declared before around : List ℕ) (label : ℕ)
    → stood label (known_labels declared before around) ≡ known_labels declared (before ++ label ∷ []) around
stood_known declared before around label =
    map_over _ _ _ (λ other. ap (λ (b : Bool). (other, record { stands = b; around = times other around }))
    (has_push before label other)) declared

-- what is found of a label
abbrev found_at : Bool → List ℕ → List ℕ → ℕ → Option Label
found_at true before around label = Some (label_at before around label)
found_at false before around label = None

found_known : (declared before around : List ℕ) (label : ℕ)
    → lookup (nat_eq label) (known_labels declared before around)
    ≡ found_at (has_label declared label) before around label
found_known [] before around label = refl
found_known (first ∷ declared) before around label =
    at (nat_eq label first) refl (found_known declared before around label)
    ∙ ap (λ (b : Bool). found_at (b || has_label declared label) before around label) (same_sides label first)
  where
    at : (b : Bool) → nat_eq label first ≡ b
        → lookup (nat_eq label) (known_labels declared before around)
        ≡ found_at (has_label declared label) before around label
        → cond (nat_eq label first) (Some (label_at before around first))
        (lookup (nat_eq label) (known_labels declared before around))
        ≡ found_at (nat_eq label first || has_label declared label) before around label
    at true same more =
        (λ i. cond (same i) (Some (label_at before around first))
        (lookup (nat_eq label) (known_labels declared before around)))
        ∙ (ap (λ (n : ℕ). Some (label_at before around n)) (sym (eqb-true label first same))
        ∙ sym (λ i. found_at (same i || has_label declared label) before around label))
    at false same more =
        (λ i. cond (same i) (Some (label_at before around first))
        (lookup (nat_eq label) (known_labels declared before around)))
        ∙ (more ∙ sym (λ i. found_at (same i || has_label declared label) before around label))

pub may_stand_known : (declared before around : List ℕ) (label : ℕ)
    → may_stand (known_labels declared before around) label ≡ has_label declared label && not (has_label before label)
may_stand_known declared before around label =
    ap is_free (found_known declared before around label) ∙ at (has_label declared label)
  where
    at : (b : Bool) → is_free (found_at b before around label) ≡ b && not (has_label before label)
    at true = refl
    at false = refl

within_is : (label : ℕ) (around : List ℕ) → nat_lt 0 (times label around) ≡ has_label around label
within_is label [] = refl
within_is label (first ∷ around) = at (first == label) (within_is label around)
  where
    at : (b : Bool) → nat_lt 0 (times label around) ≡ has_label around label
        → nat_lt 0 ((if b then 1 else 0) + times label around) ≡ b || has_label around label
    at true more = grind (arith, common_steps)
    at false more = ap (λ (n : ℕ). nat_lt 0 n) (omega arith) ∙ more

pub is_around_known : (declared before around : List ℕ) (label : ℕ)
    → is_around_in (known_labels declared before around) label
    ≡ has_label declared label && has_label around label
is_around_known declared before around label =
    ap is_within (found_known declared before around label)
    ∙ (at (has_label declared label) ∙ ap (λ (b : Bool). has_label declared label && b) (within_is label around))
  where
    at : (b : Bool) → is_within (found_at b before around label) ≡ b && nat_lt 0 (times label around)
    at true = refl
    at false = refl

pub all_stand_known : (declared before around : List ℕ)
    → all_stand_in (known_labels declared before around) ≡ all_stand before declared
all_stand_known [] before around = refl
all_stand_known (label ∷ declared) before around =
    ap (λ (b : Bool). has_label before label && b) (all_stand_known declared before around)

-- the faults of a label before a statement
pub standing_known : (scopes : Scopes) (before around : List ℕ) (spot : Spot) (label : ℕ)
    → standing_faults (known_labels (block_labels scopes) before around) spot label
    ≡ label_faults scopes spot before label
standing_known scopes before around spot label =
    ap (λ (b : Bool). if nat_lt GREATEST_LABEL label then wrong CONSTANT_OUT_OF_RANGE ∷ []
    else unless b (wrong WRONG_LABEL))
    (ap (λ (b : Bool). is_in_list spot && b) (may_stand_known (block_labels scopes) before around label)
    ∙ and_assoc (is_in_list spot) (has_label (block_labels scopes) label) (not (has_label before label)))
  where
    and_assoc : (a b c : Bool) → a && (b && c) ≡ (a && b) && c
    and_assoc true b c = refl
    and_assoc false b c = refl

-- a goto in the program, and in a routine
listed_goto : (declared before around : List ℕ) (label : ℕ) (other : Judged typed.Statement)
    → (if has_label declared label then to_list (is_around_in (known_labels declared before around) label) label
    else other)
    ≡ (if has_label declared label then to_list (has_label around label) label else other)
listed_goto declared before around label other =
    ap (λ (b : Bool). if has_label declared label then to_list b label else other)
    (is_around_known declared before around label)
    ∙ at (has_label declared label)
  where
    at : (b : Bool) → (if b then to_list (b && has_label around label) label else other)
        ≡ (if b then to_list (has_label around label) label else other)
    at true = refl
    at false = refl

pub main_goto : (outer : Outer) (before around : List ℕ) (label : ℕ)
    → goto_by (known_labels outer.labels before around) outer.last_label None label
    ≡ goto_of (record { outer = outer; inner = None }) around label
main_goto outer before around label =
    ap (λ (found : Judged typed.Statement). if nat_lt GREATEST_LABEL label then refuses (wrong CONSTANT_OUT_OF_RANGE)
    else found)
    ((λ i. if has_label (numbers_known outer.labels before around i) label
    then if is_last outer.last_label label then means (typed.goto_last 0)
    else to_list (is_around_known outer.labels before around label i) label
    else refuses (wrong WRONG_LABEL))
    ∙ at (has_label outer.labels label))
  where
    at : (b : Bool)
        → ◌≡◌ {A = Judged typed.Statement} (if b then if is_last outer.last_label label then means (typed.goto_last 0)
        else to_list (b && has_label around label) label else refuses (wrong WRONG_LABEL))
        (if b then if is_last outer.last_label label then means (typed.goto_last 0)
        else to_list (has_label around label) label else refuses (wrong WRONG_LABEL))
    at true = refl
    at false = refl

pub routine_goto : (outer : Outer) (inner : Inner) (program : Known) (before around : List ℕ) (label : ℕ)
    → numbers_of program ≡ outer.labels
    → goto_by program outer.last_label (Some (known_labels inner.labels before around)) label
    ≡ goto_of (record { outer = outer; inner = Some inner }) around label
routine_goto outer inner program before around label same =
    ap (λ (found : Judged typed.Statement). if nat_lt GREATEST_LABEL label then refuses (wrong CONSTANT_OUT_OF_RANGE)
    else found)
    ((λ i. if has_label (numbers_known inner.labels before around i) label
    then to_list (is_around_in (known_labels inner.labels before around) label) label
    else program_by program outer.last_label label)
    ∙ (listed_goto inner.labels before around label (program_by program outer.last_label label)
    ∙ (λ i. if has_label inner.labels label then to_list (has_label around label) label
    else if has_label (same i) label
    then if is_last outer.last_label label then means (typed.goto_last 1) else refuses (wrong WRONG_GOTO)
    else refuses (wrong WRONG_LABEL))))
