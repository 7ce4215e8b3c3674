-- The arguments of a call, one after another.
use Rattle.std.proofs.Common.{◌≡◌, refl, sym, ap, subst, ◌∙◌, ℕ, zero, suc, ◌<◌, ◌≤◌, arith, Bool, true, false, List}
use Rattle.std.proofs.Common.{[]}
use Rattle.std.proofs.Common.{◌∷◌, ◌++◌, length, map, Option, Some, None}
use Rattle.std.specs.Prelude.{⊤, nat_le, slice_get}
use Rattle.std.proofs.lemmas.Option.{none-some}
use Rattle.wb_base.specs.declared.faults.TheConstants.{WRONG_TYPE}
use Rattle.pas_tokens.specs.Cutting.{Wrong, wrong}
use Rattle.pas_syntax.specs.Words.{Word}
use Rattle.pas_typed.specs.Typed.{Value}
use Rattle.pas_scopes.specs.declared.stop.Stop.{Stop}
use Rattle.pas_rules.specs.Marks.{Marks, quiet, shows, joined, listed, unless, Judged, judged, known}
use Rattle.pas_rules.specs.Marks.{both}
use Rattle.pas_rules.specs.Expressions.{Demand, Given, met, asked_nothing, argument_marks, given, called}
use Rattle.pas_scopes.specs.Stopping.{shown_in}
use Rattle.pas_scopes.specs.Ends.{End}
use Rattle.pas_scopes.specs.Answers.{Ending, EndsAs, StopsBy, StandsAs, FailsBy, IsQuiet, closed_end}
use Rattle.pas_scopes.specs.Arguments.{Taker, taken_by}
use Rattle.pas_rules.proofs.AsMany.{AsMany, first_count}
use Rattle.pas_scopes.proofs.EndLemmas.{end_quiet}
use Rattle.pas_rules.proofs.ExpressionsAsMany.{plain_marks, met_count}
use Rattle.pas_scopes.proofs.SettleLemmas.{quiet_word, quiet_alone}
use Rattle.pas_scopes.proofs.ListedLemmas.{Item, item_words, items_marks, AreMany, values_of, item_fails, item_short}
use Rattle.pas_scopes.proofs.ListedLemmas.{item_quiet, values_push, some_both, both_some, call_marks, closed_marks}
use Rattle.pas_scopes.proofs.ListedLemmas.{closed_fails, closed_ends, few_stops}

-- an argument, its words, and the word before it
pub record Argued : Type 0 where
  pub before : Word
  pub words : List Word
  pub argument : Given

abbrev pub item_of : {B : Type 0} → Argued → Judged B → Item B
item_of argued part = record { before = argued.before; words = argued.words; part = part }

abbrev pub plain_item : {B : Type 0} → Argued → Item B
plain_item argued = item_of argued (judged (met asked_nothing argued.argument).marks None)

abbrev pub argument_items : {B : Type 0} → List (Taker B) → List Argued → List (Item B)
argument_items [] [] = []
argument_items [] (argued ∷ others) = item_of argued (taken_by None argued.argument) ∷ map plain_item others
argument_items (taker ∷ takers) [] = []
argument_items (taker ∷ takers) (argued ∷ others) =
    item_of argued (taken_by (Some taker) argued.argument) ∷ argument_items takers others

abbrev pub argued_words : List Argued → List Word
argued_words [] = []
argued_words (argued ∷ others) = argued.before ∷ (argued.words ++ argued_words others)

abbrev pub AreArgued : List Argued → Type 0
AreArgued [] = ⊤
AreArgued (argued ∷ others) = AsMany argued.words (plain_marks argued.argument) × AreArgued others

abbrev pub givens_of : List Argued → List Given
givens_of arguments = map (λ argued. argued.argument) arguments

abbrev pub demands_of : {B : Type 0} → List (Taker B) → List Demand
demands_of takers = map (λ taker. taker.demand) takers

-- words and marks
plain_words : (B : Type 0) (arguments : List Argued)
    → item_words (map (plain_item {B = B}) arguments) ≡ argued_words arguments
plain_words B [] = refl
plain_words B (argued ∷ others) =
    ap (λ (words : List Word). argued.before ∷ (argued.words ++ words)) (plain_words B others)

pub items_words : {B : Type 0} (takers : List (Taker B)) (arguments : List Argued)
    → item_words (argument_items takers arguments) ≡ argued_words arguments
items_words [] [] = refl
items_words {B = B} [] (argued ∷ others) =
    ap (λ (words : List Word). argued.before ∷ (argued.words ++ words)) (plain_words B others)
items_words (taker ∷ takers) [] = refl
items_words (taker ∷ takers) (argued ∷ others) =
    ap (λ (words : List Word). argued.before ∷ (argued.words ++ words)) (items_words takers others)

plain_listed : (B : Type 0) (arguments : List Argued)
    → map (λ item. item.part.marks) (map (plain_item {B = B}) arguments)
    ≡ map (λ other. (met asked_nothing other).marks) (givens_of arguments)
plain_listed B [] = refl
plain_listed B (argued ∷ others) =
    ap (λ (marks : List Marks). (met asked_nothing argued.argument).marks ∷ marks) (plain_listed B others)

items_listed : {B : Type 0} (takers : List (Taker B)) (arguments : List Argued)
    → map (λ item. item.part.marks) (argument_items takers arguments)
    ≡ argument_marks (demands_of takers) (givens_of arguments)
items_listed [] [] = refl
items_listed {B = B} [] (argued ∷ others) =
    ap (λ (marks : List Marks). (taken_by {B = B} None argued.argument).marks ∷ marks) (plain_listed B others)
items_listed (taker ∷ takers) [] = refl
items_listed (taker ∷ takers) (argued ∷ others) =
    ap (λ (marks : List Marks). (met taker.demand argued.argument).marks ∷ marks) (items_listed takers others)

taken_many : {B : Type 0} (taker : Option (Taker B)) (argued : Argued)
    → AsMany argued.words (plain_marks argued.argument) → AsMany argued.words (taken_by taker argued.argument).marks
taken_many None argued h =
    let plain : Marks = (met asked_nothing argued.argument).marks in
    record {
      same = first_count (wrong WRONG_TYPE ∷ []) plain.behind plain.tokens
          ∙ (met_count asked_nothing argued.argument ∙ h.same);
    }
taken_many (Some taker) argued h = record { same = met_count taker.demand argued.argument ∙ h.same }

plain_many : (B : Type 0) (arguments : List Argued) → AreArgued arguments
    → AreMany (map (plain_item {B = B}) arguments)
plain_many B [] h = tt
plain_many B (argued ∷ others) h =
    (record { same = met_count asked_nothing argued.argument ∙ h.0.same }, plain_many B others h.1)

items_many : {B : Type 0} (takers : List (Taker B)) (arguments : List Argued) → AreArgued arguments
    → AreMany (argument_items takers arguments)
items_many [] [] h = tt
items_many {B = B} [] (argued ∷ others) h = (taken_many {B = B} None argued h.0, plain_many B others h.1)
items_many (taker ∷ takers) [] h = tt
items_many (taker ∷ takers) (argued ∷ others) h =
    (taken_many (Some taker) argued h.0, items_many takers others h.1)

-- the arguments up to one, that one, and those behind it
module _ {B : Type 0} (argued : Argued) where
  items_split : (takers : List (Taker B)) (before after : List Argued) → length before ≤ length takers
      → AreArgued after
      → (others : List (Item B)) × AreMany others × (argument_items takers (before ++ argued ∷ after)
      ≡ argument_items takers before
      ++ item_of argued (taken_by (slice_get takers (length before)) argued.argument) ∷ others)
  items_split [] [] after few many = (map plain_item after, plain_many B after many, refl)
  items_split [] (first ∷ before) after few many = absurd (omega (arith, few))
  items_split (taker ∷ takers) [] after few many =
      (argument_items takers after, items_many takers after many, refl)
  items_split (taker ∷ takers) (first ∷ before) after few many =
      let rest = items_split takers before after (omega (arith, few)) many in (
        rest.0,
        rest.1,
        ap (λ (items : List (Item B)). item_of first (taken_by (Some taker) first.argument) ∷ items) rest.2,
      )

  items_push : (takers : List (Taker B)) (before : List Argued) → length before ≤ length takers
      → argument_items takers (before ++ argued ∷ [])
      ≡ argument_items takers before
      ++ item_of argued (taken_by (slice_get takers (length before)) argued.argument) ∷ []
  items_push [] [] few = refl
  items_push [] (first ∷ before) few = absurd (omega (arith, few))
  items_push (taker ∷ []) [] few = refl
  items_push (taker ∷ (next ∷ takers)) [] few = refl
  items_push (taker ∷ takers) (first ∷ before) few =
      ap (λ (items : List (Item B)). item_of first (taken_by (Some taker) first.argument) ∷ items)
      (items_push takers before (omega (arith, few)))

-- how far taking arguments has come
pub record Taken {B : Type 0} (name : Word) (takers : List (Taker B)) (before : List Argued) (values : List B)
    (is_short : Bool) : Type 0 where
  pub still : IsQuiet (name ∷ item_words (argument_items takers before)) (items_marks (argument_items takers before))
      is_short
  pub known : values_of (argument_items takers before) ≡ Some values
  pub few : length before ≤ length takers

pub none_taken : {B : Type 0} (name : Word) (takers : List (Taker B)) → Taken name takers [] [] false
none_taken name [] = record {
  still = quiet_alone (name ∷ []) quiet false (quiet_word name);
  known = refl;
  few = omega arith;
}
none_taken name (taker ∷ takers) = record {
  still = quiet_alone (name ∷ []) quiet false (quiet_word name);
  known = refl;
  few = omega arith;
}

got_within : {A : Type 0} (xs : List A) (i : ℕ) (x : A) → slice_get xs i ≡ Some x → i < length xs
got_within [] i x h = absurd (none-some x h)
got_within (first ∷ xs) zero x h = omega arith
got_within (first ∷ xs) (suc i) x h = omega (arith, got_within xs i x h)

taken_within : {B : Type 0} (takers : List (Taker B)) (i : ℕ) (found : Option (Taker B)) (argument : Given) (value : B)
    → slice_get takers i ≡ found → (taken_by found argument).value ≡ Some value → i < length takers
taken_within takers i None argument value is h = absurd (none-some value h)
taken_within takers i (Some taker) argument value is h = got_within takers i taker is

pub stands_quiet : {A : Type 0} (words : List Word) (part : Judged A) (value : A) (end : Ending)
    → StandsAs words part value end → IsQuiet words part.marks end.is_short
stands_quiet words part value end h = record {
  still = end_quiet words part.marks.tokens end.line
      (subst (End words part.marks.tokens end.line) h.lawful h.ends.end);
  behind = h.ends.behind;
}

module _ {B : Type 0} (name : Word) (takers : List (Taker B)) (before : List Argued) (argued : Argued)
    (values : List B) where
  abbrev next : Judged B
  next = taken_by (slice_get takers (length before)) argued.argument

  pub taken_more : (value : B) (end : Ending) → Taken name takers before values false
      → StandsAs argued.words next value end
      → Taken name takers (before ++ argued ∷ []) (values ++ value ∷ []) end.is_short
  taken_more value end h k =
      let all : List (Item B) = argument_items takers before in
      let push = items_push argued takers before h.few in
      record {
        still = subst (λ (items : List (Item B)). IsQuiet (name ∷ item_words items) (items_marks items) end.is_short)
            (sym push)
            (item_quiet name all (item_of argued next) end.is_short h.still
            (stands_quiet argued.words next value end k));
        known = ap values_of push ∙ values_push all (item_of argued next) values value h.known k.ends.known;
        few = omega (
          arith,
          taken_within takers (length before) (slice_get takers (length before)) argued.argument value refl
              k.ends.known,
          pushed_length before,
        );
      }
    where
      pushed_length : (before : List Argued) → length (before ++ argued ∷ []) ≡ suc (length before)
      pushed_length [] = refl
      pushed_length (first ∷ before) = ap suc (pushed_length before)

  module _ (after : List Argued) (many : AreArgued after) where
    abbrev all : List Argued
    all = before ++ argued ∷ after

    pub taken_fails : (why : Stop) → Taken name takers before values false → FailsBy argued.words next.marks why
        → FailsBy (name ∷ item_words (argument_items takers all)) (items_marks (argument_items takers all)) why
    taken_fails why h k =
        let split = items_split argued takers before after h.few many in
        subst (λ (items : List (Item B)). FailsBy (name ∷ item_words items) (items_marks items) why) (sym split.2)
        (item_fails name (argument_items takers before) (item_of argued next) split.0 why split.1 h.still k)

    pub taken_short : AsMany argued.words (plain_marks argued.argument) → Taken name takers before values true
        → FailsBy (name ∷ item_words (argument_items takers all)) (items_marks (argument_items takers all))
        (shown_in argued.before.token.line (wrong WRONG_TYPE))
    taken_short one h =
        let split = items_split argued takers before after h.few many in
        subst (λ (items : List (Item B)). FailsBy (name ∷ item_words items) (items_marks items)
        (shown_in argued.before.token.line (wrong WRONG_TYPE))) (sym split.2)
        (item_short name (argument_items takers before) (item_of argued next) split.0
        (taken_many (slice_get takers (length before)) argued one, split.1) h.still)

-- the values of the arguments
abbrev pub made_by : {B : Type 0} → List (Taker B) → List Value → List B
made_by (taker ∷ takers) (value ∷ values) = taker.make value ∷ made_by takers values
made_by takers values = []

pub some_known : {A B : Type 0} (make : A → B) (found : Option A) (whole : B) → known make found ≡ Some whole
    → (value : A) × (found ≡ Some value) × (make value ≡ whole)
some_known make None whole h = absurd (none-some whole h)
some_known make (Some value) whole h = (value, refl, cc)

pub given_values : {B : Type 0} (takers : List (Taker B)) (arguments : List Argued) (values : List B)
    → length takers ≤ length arguments → values_of (argument_items takers arguments) ≡ Some values
    → (found : List Value) × (given (demands_of takers) (givens_of arguments) ≡ Some found)
    × (values ≡ made_by takers found)
given_values [] [] values enough h = ([], refl, cc)
given_values [] (argued ∷ others) values enough h = absurd (none-some values h)
given_values (taker ∷ takers) [] values enough h = absurd (omega (arith, enough))
given_values {B = B} (taker ∷ takers) (argued ∷ others) values enough h =
    let parts = some_both ◌∷◌ (known taker.make (met taker.demand argued.argument).value)
    (values_of (argument_items takers others)) values h in
    let one = some_known taker.make (met taker.demand argued.argument).value parts.0 parts.2 in
    let rest = given_values takers others parts.1 (omega (arith, enough)) parts.3 in (
      one.0 ∷ rest.0,
      both_some (λ value values. value ∷ values) (met taker.demand argued.argument).value
          (given (demands_of takers) (givens_of others)) one.0 rest.0 one.1 rest.1,
      sym parts.4 ∙ ap (λ (first : B). first ∷ parts.1) (sym one.2)
          ∙ ap (λ (rest : List B). taker.make one.0 ∷ rest) rest.2,
    )

none_of_both : {A B C : Type 0} (make : A → B → C) (one : Option A) (other : Option B) → other ≡ None
    → both make one other ≡ None
none_of_both make None other none = refl
none_of_both make (Some value) other none = ap (both make (Some value)) none

pub too_few : {B : Type 0} (takers : List (Taker B)) (arguments : List Argued)
    → length arguments < length takers → given (demands_of takers) (givens_of arguments) ≡ None
too_few [] arguments few = absurd (omega (arith, few))
too_few (taker ∷ takers) [] few = refl
too_few (taker ∷ takers) (argued ∷ others) few =
    none_of_both (λ value values. value ∷ values) (met taker.demand argued.argument).value
    (given (demands_of takers) (givens_of others)) (too_few takers others (omega (arith, few)))

-- the whole call
mapped_length : {A B : Type 0} (f : A → B) (xs : List A) → length (map f xs) ≡ length xs
mapped_length f [] = refl
mapped_length f (x ∷ xs) = ap suc (mapped_length f xs)

module _ {B : Type 0} (takers : List (Taker B)) (first : Argued) (others : List Argued) where
  abbrev arguments : List Argued
  arguments = first ∷ others

  abbrev enough : Bool
  enough = nat_le (length takers) (length arguments)

  counted : nat_le (length (demands_of takers)) (length (givens_of arguments)) ≡ enough
  counted =
      ap (λ (n : ℕ). nat_le n (length (givens_of arguments))) (mapped_length (λ taker. taker.demand) takers)
      ∙ ap (nat_le (length takers)) (mapped_length (λ argued. argued.argument) arguments)

  closed_items : (takers : List (Taker B)) (faults : List Wrong)
      → joined (quiet ∷ quiet ∷ listed (map (λ item. item.part.marks) (argument_items takers arguments))
      ∷ shows faults ∷ [])
      ≡ closed_marks (items_marks (argument_items takers arguments)) faults
  closed_items [] faults =
      call_marks (item_of first (taken_by {B = B} None first.argument)) (map plain_item others) faults
  closed_items (taker ∷ takers) faults =
      call_marks (item_of first (taken_by (Some taker) first.argument)) (argument_items takers others) faults

  pub called_is : called (demands_of takers) (givens_of arguments)
      ≡ closed_marks (items_marks (argument_items takers arguments)) (unless enough (wrong WRONG_TYPE))
  called_is =
      ap (λ (is : Bool). joined (quiet ∷ quiet ∷ listed (argument_marks (demands_of takers) (givens_of arguments))
      ∷ shows (unless is (wrong WRONG_TYPE)) ∷ [])) counted
      ∙ ap (λ (list : List Marks). joined (quiet ∷ quiet ∷ listed list ∷ shows (unless enough (wrong WRONG_TYPE)) ∷ []))
      (sym (items_listed takers arguments))
      ∙ closed_items takers (unless enough (wrong WRONG_TYPE))

  module _ {C : Type 0} (name closed : Word) (value : Option C) where
    abbrev call : Judged C
    call = judged (called (demands_of takers) (givens_of arguments)) value

    abbrev call_words : List Word
    call_words = name ∷ (argued_words arguments ++ closed ∷ [])

    seen_by : (P : List Word → Judged C → Type 0)
        → P ((name ∷ item_words (argument_items takers arguments)) ++ closed ∷ [])
        (judged (closed_marks (items_marks (argument_items takers arguments)) (unless enough (wrong WRONG_TYPE))) value)
        → P call_words call
    seen_by P h =
        subst (λ (words : List Word). P (name ∷ (words ++ closed ∷ [])) call) (items_words takers arguments)
        (subst (λ (marks : Marks). P ((name ∷ item_words (argument_items takers arguments)) ++ closed ∷ [])
        (judged marks value)) (sym called_is) h)

    pub called_fails : (why : Stop)
        → FailsBy (name ∷ item_words (argument_items takers arguments)) (items_marks (argument_items takers arguments))
        why → StopsBy call_words call why
    called_fails why h =
        seen_by (λ words part. StopsBy words part why)
        (closed_fails (name ∷ item_words (argument_items takers arguments))
        (items_marks (argument_items takers arguments)) closed (unless enough (wrong WRONG_TYPE)) value why h)

    pub called_ends : (values : List B) (end : Ending) (whole : C) → Taken name takers arguments values end.is_short
        → enough ≡ true → value ≡ Some whole → EndsAs call_words call whole (closed_end closed.token.line end)
    called_ends values end whole h holds is =
        seen_by (λ words part. EndsAs words part whole (closed_end closed.token.line end))
        (closed_ends (name ∷ item_words (argument_items takers arguments))
        (items_marks (argument_items takers arguments)) closed (unless enough (wrong WRONG_TYPE)) value end.is_short
        whole end refl (ap (λ (is : Bool). unless is (wrong WRONG_TYPE)) holds) is h.still)

    pub called_few : (values : List B) (is_short : Bool) → Taken name takers arguments values is_short
        → enough ≡ false → value ≡ None → StopsBy call_words call (shown_in closed.token.line (wrong WRONG_TYPE))
    called_few values is_short h few unknown =
        seen_by (λ words part. StopsBy words part (shown_in closed.token.line (wrong WRONG_TYPE)))
        (few_stops (name ∷ item_words (argument_items takers arguments))
        (items_marks (argument_items takers arguments)) closed (unless enough (wrong WRONG_TYPE)) value is_short
        (ap (λ (is : Bool). unless is (wrong WRONG_TYPE)) few) unknown h.still)
