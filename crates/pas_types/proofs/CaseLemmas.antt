-- What functions on the constants of a case answer.
use Rattle.std.proofs.Common.{◌≡◌, refl, sym, ap, subst, ◌∙◌, ℕ, ◌+◌, ◌<◌, arith, Bool, true, false, List, [], ◌∷◌}
use Rattle.std.proofs.Common.{◌++◌, map, length, take, drop, drop-cons, get_or, suc, Option, Some, None, Result, Ok}
use Rattle.std.proofs.Common.{Err}
use Rattle.std.specs.Prelude.{ℤ, not, if◌then◌else◌, ◌||◌, unwrap_or, flat_map}
use Rattle.std.specs.Ordering.{int_eq}
use Rattle.std.specs.List.{list_any}
use Rattle.std.proofs.lemmas.Grind.{common_steps}
use Rattle.std.proofs.lemmas.List.{append_assoc, append-nil, take-append-drop, take_more}
use Rattle.wb_base.specs.declared.faults.Fault.{Fault}
use Rattle.wb_base.specs.declared.faults.TheConstants.{WRONG_TYPE, DUPLICATE_NAME}
use Rattle.pas_tokens.specs.Cutting.{Wrong, wrong}
use Rattle.pas_tokens.specs.declared.kinds.Kind.TheVariants as kind
use Rattle.pas_syntax.specs.Tree.{Behind, Separated, Constant}
use Rattle.pas_syntax.specs.Words.{Word, at, constant_words}
use Rattle.pas_typed.specs.Types.{Base, same_base}
use Rattle.pas_scopes.specs.declared.stop.Stop.{Stop}
use Rattle.pas_scopes.specs.declared.stop.Stop.TheVariants as stop
use Rattle.pas_rules.specs.Marks.{Marks, no_token, quiet, followed, joined, Judged, judged, known, both, checked}
use Rattle.pas_rules.specs.Marks.{checked_by, kept_by, unless}
use Rattle.pas_rules.specs.Scopes.{Scopes}
use Rattle.pas_rules.specs.TypeForms.{ConstantValue, constant_of}
use Rattle.pas_rules.specs.Statements.{is_same, has_value, fits_case, values_known, with_constant, more_constants}
use Rattle.pas_rules.specs.Statements.{constants_of}
use Rattle.pas_scopes.specs.Stopping.{demanded}
use Rattle.pas_scopes.specs.Answers.{lawful_end, EndsAs, Means, Shows, FailsBy}
use Rattle.pas_types.specs.inner.CaseViews.{Holds, choice_part}
use Rattle.pas_rules.proofs.AsMany.{AsMany, all, next_word, checked_many}
use Rattle.pas_rules.proofs.TypesAsMany.{constant_many}
use Rattle.pas_scopes.proofs.EndLemmas.{end_quiet}
use Rattle.pas_scopes.proofs.AnswerLemmas.{checked_fails, checked_ends}
use Rattle.pas_scopes.proofs.SettleLemmas.{shows_front, shows_behind, quiet_behind, quiet_alone, shows_alone}
use Rattle.pas_scopes.proofs.SettleLemmas.{nothing_shown}
use Rattle.pas_types.proofs.ChainLemmas.{made_of_both, behind_quiet, word_shows}

-- an early return
pub holds_stop : {X A : Type 0} (words : List Word) (part : Judged A) (view : X → A) (why : Stop)
    (result : Result X Stop) → ((found : Stop) × (result ≡ Err found) × (found ≡ why)) → FailsBy words part.marks why
    → Holds words part view result
holds_stop words part view why result is h = subst (Holds words part view) (sym (is.1 ∙ ap Err is.2)) h

-- the demands on a constant of a case
module _ (words : List Word) (part : Judged ConstantValue) (found : ConstantValue) (line : ℕ) (base : Base)
    (before : List ℤ) (h : EndsAs words part found (lawful_end line)) where
  abbrev demand : ConstantValue → List Wrong
  demand = fits_case (Some base) before

  abbrev by_base : Bool → List Wrong
  by_base same =
      if same then unless (not (has_value before found.value)) (wrong DUPLICATE_NAME) else wrong WRONG_TYPE ∷ []

  pub base_refused : (holds : Bool) (why : Stop) → same_base base found.base ≡ holds
      → Err why ≡ demanded holds WRONG_TYPE line → FailsBy words (checked demand part).marks why
  base_refused true why same is = cc
  base_refused false why same is =
      checked_fails words demand part found (lawful_end line) WRONG_TYPE false why (ap by_base same) is h

  fine_by : (holds : Bool) → same_base base found.base ≡ true → holds ≡ not (has_value before found.value)
      → demand found ≡ unless holds (wrong DUPLICATE_NAME)
  fine_by holds same is = ap by_base same ∙ ap (λ (new : Bool). unless new (wrong DUPLICATE_NAME)) (sym is)

  pub taken_refused : (holds : Bool) (why : Stop) → same_base base found.base ≡ true
      → holds ≡ not (has_value before found.value) → Err why ≡ demanded holds DUPLICATE_NAME line
      → FailsBy words (checked demand part).marks why
  taken_refused true why same fine is = cc
  taken_refused false why same fine is =
      checked_fails words demand part found (lawful_end line) DUPLICATE_NAME false why (fine_by false same fine) is h

  pub choice_means : (holds : Bool) → holds ≡ true → same_base base found.base ≡ true
      → holds ≡ not (has_value before found.value) → Means words (checked demand part) found
  choice_means holds new same fine =
      let ends : EndsAs words (checked demand part) found (lawful_end line) =
      checked_ends words demand part found (lawful_end line)
      (fine_by holds same fine ∙ ap (λ (b : Bool). unless b (wrong DUPLICATE_NAME)) new) h in
      record {
        known = ends.known;
        quiet = record {
          still = end_quiet words (checked demand part).marks.tokens line ends.end;
          behind = ends.behind;
        };
      }

pub base_demanded : (holds : Bool) (code line : ℕ) (done : Unit {0}) → Ok done ≡ demanded holds code line
    → holds ≡ true
base_demanded true code line done is = refl
base_demanded false code line done is = cc

-- constants one after another
module _ (scopes : Scopes) (base : Base) (before : List ℤ) (n : ℕ) where
  abbrev pub first_part : Constant → Judged (List ℤ)
  first_part first =
      with_constant no_token (Some base) before (judged no_token (Some [])) (constant_of scopes first)

  abbrev pub more_words : List (Behind Constant) → List Word
  more_words more = flat_map (λ behind. at n kind.Comma behind.line ∷ constant_words n behind.item) more

  abbrev pub behind_first : Judged (List ℤ) → List (Behind Constant) → Judged (List ℤ)
  behind_first part more = more_constants scopes (Some base) before part more

  -- what was found of so many of them: these values
  pub record AreChosen (first : Constant) (more : List (Behind Constant)) (values : List ℤ) : Type 0 where
    pub means : Means (constant_words n first ++ more_words more) (behind_first (first_part first) more) values

  -- a constant by the values that stand before it
  abbrev choice_at : List ℤ → Constant → Judged ConstantValue
  choice_at taken constant = checked (fits_case (Some base) taken) (constant_of scopes constant)

  valued : (value : Option ConstantValue) (found : ℤ) → known (λ choice. choice.value) value ≡ Some found
      → (choice : ConstantValue) × (value ≡ Some choice) × (choice.value ≡ found)
  valued None found is = cc
  valued (Some choice) found is = (choice, refl, cc)

  choice_many : (taken : List ℤ) (constant : Constant) → AsMany (constant_words n constant)
      (choice_at taken constant).marks
  choice_many taken constant =
      checked_many (fits_case (Some base) taken) (constant_of scopes constant) (constant_many scopes n constant)

  -- the first constant
  first_marks : (taken : List ℤ) (constant : Constant) → Marks
  first_marks taken constant = joined (no_token ∷ no_token ∷ (choice_at taken constant).marks ∷ [])

  first_means_at : (taken : List ℤ) (first : Constant) (value : ℤ)
      → Means (constant_words n first) (choice_part scopes base taken first) value
      → Means (constant_words n first) (judged (joined (no_token ∷ no_token ∷ (choice_at taken first).marks ∷ []))
      (both (λ values found. values ++ found.value ∷ []) (Some []) (choice_at taken first).value)) (value ∷ [])
  first_means_at taken first value h =
      let found : (choice : ConstantValue) × ((choice_at taken first).value ≡ Some choice)
      × (choice.value ≡ value) = valued (choice_at taken first).value value h.known in
      let marks : Marks = joined ((choice_at taken first).marks ∷ []) in
      record {
        known = made_of_both (λ (values : List ℤ) (found : ConstantValue). values ++ found.value ∷ []) (Some [])
            (choice_at taken first).value [] found.0 refl found.1
            ∙ ap (λ (v : ℤ). Some (v ∷ [])) found.2;
        quiet = quiet_behind [] (constant_words n first) no_token (followed no_token marks) false nothing_shown
            (quiet_behind [] (constant_words n first) no_token marks false nothing_shown
            (quiet_alone (constant_words n first) (choice_at taken first).marks false h.quiet));
      }

  pub first_chosen : (first : Constant) (value : ℤ)
      → Means (constant_words n first) (choice_part scopes base before first) value
      → AreChosen first [] (value ∷ [])
  first_chosen first value h = record {
    means = subst (λ (words : List Word). Means words (first_part first) (value ∷ []))
        (sym (append-nil (constant_words n first)))
        (subst (λ (taken : List ℤ). Means (constant_words n first)
        (judged (joined (no_token ∷ no_token ∷ (choice_at taken first).marks ∷ []))
        (both (λ values found. values ++ found.value ∷ []) (Some []) (choice_at taken first).value)) (value ∷ []))
        (sym (append-nil before)) (first_means_at before first value h));
  }

  -- one more
  abbrev with_next : Judged (List ℤ) → Behind Constant → Judged (List ℤ)
  with_next part next = with_constant quiet (Some base) before part (constant_of scopes next.item)

  abbrev next_words : Behind Constant → List Word
  next_words next = at n kind.Comma next.line ∷ constant_words n next.item

  next_means : (words : List Word) (part : Judged (List ℤ)) (next : Behind Constant) (values : List ℤ) (value : ℤ)
      → Means words part values
      → Means (constant_words n next.item) (choice_part scopes base (before ++ values) next.item) value
      → Means (words ++ next_words next) (with_next part next) (values ++ value ∷ [])
  next_means words part next values value h k =
      let taken : before ++ values_known part ≡ before ++ values =
      ap (λ (found : Option (List ℤ)). before ++ unwrap_or found []) h.known in
      let this : Means (constant_words n next.item) (choice_part scopes base (before ++ values_known part) next.item)
      value =
      subst (λ (taken : List ℤ). Means (constant_words n next.item) (choice_part scopes base taken next.item) value)
      (sym taken) k in
      let choice : Judged ConstantValue = choice_at (before ++ values_known part) next.item in
      let found : (found : ConstantValue) × (choice.value ≡ Some found) × (found.value ≡ value) =
      valued choice.value value this.known in
      record {
        known = made_of_both (λ (values : List ℤ) (found : ConstantValue). values ++ found.value ∷ []) part.value
            choice.value values found.0 h.known found.1
            ∙ ap (λ (v : ℤ). Some (values ++ v ∷ [])) found.2;
        quiet = behind_quiet words (constant_words n next.item) (at n kind.Comma next.line) part.marks
            (joined (choice.marks ∷ [])) h.quiet false
            (quiet_alone (constant_words n next.item) choice.marks false this.quiet);
      }

  more_push : (part : Judged (List ℤ)) (more : List (Behind Constant)) (next : Behind Constant)
      → behind_first part (more ++ next ∷ []) ≡ with_next (behind_first part more) next
  more_push part [] next = refl
  more_push part (first ∷ more) next = more_push (with_next part first) more next

  more_both : (part : Judged (List ℤ)) (more others : List (Behind Constant))
      → behind_first part (more ++ others) ≡ behind_first (behind_first part more) others
  more_both part [] others = refl
  more_both part (first ∷ more) others = more_both (with_next part first) more others

  words_both : (more others : List (Behind Constant)) → more_words (more ++ others)
      ≡ more_words more ++ more_words others
  words_both [] others = refl
  words_both (first ∷ more) others =
      ap (λ (rest : List Word). next_words first ++ rest) (words_both more others)
      ∙ sym (append_assoc (next_words first) (more_words more) (more_words others))

  words_push : (words : List Word) (more : List (Behind Constant)) (next : Behind Constant)
      → words ++ more_words (more ++ next ∷ []) ≡ (words ++ more_words more) ++ next_words next
  words_push words more next =
      ap (λ (rest : List Word). words ++ rest) (words_both more (next ∷ [])
      ∙ ap (λ (rest : List Word). more_words more ++ rest) (append-nil (next_words next)))
      ∙ sym (append_assoc words (more_words more) (next_words next))

  pub next_chosen : (first : Constant) (more : List (Behind Constant)) (next : Behind Constant) (values : List ℤ)
      (value : ℤ) → AreChosen first more values
      → Means (constant_words n next.item) (choice_part scopes base (before ++ values) next.item) value
      → AreChosen first (more ++ next ∷ []) (values ++ value ∷ [])
  next_chosen first more next values value h k = record {
    means = subst (λ (words : List Word). Means words (behind_first (first_part first) (more ++ next ∷ []))
        (values ++ value ∷ [])) (sym (words_push (constant_words n first) more next))
        (subst (λ (part : Judged (List ℤ)). Means ((constant_words n first ++ more_words more) ++ next_words next) part
        (values ++ value ∷ [])) (sym (more_push (first_part first) more next))
        (next_means (constant_words n first ++ more_words more) (behind_first (first_part first) more) next values value
        h.means k));
  }

  -- a fault in one, whatever stands behind
  next_many : (part : Judged (List ℤ)) (next : Behind Constant)
      → AsMany (next_words next)
      (joined (quiet ∷ (choice_at (before ++ values_known part) next.item).marks ∷ []))
  next_many part next =
      let choice : Judged ConstantValue = choice_at (before ++ values_known part) next.item in
      next_word (at n kind.Comma next.line) [] (joined (choice.marks ∷ []))
      (all choice.marks (choice_many (before ++ values_known part) next.item))

  constants_stay : (fault : Fault) (words : List Word) (part : Judged (List ℤ)) (more : List (Behind Constant))
      → Shows words part.marks fault → Shows (words ++ more_words more) (behind_first part more).marks fault
  constants_stay fault words part [] h =
      subst (λ (all : List Word). Shows all part.marks fault) (sym (append-nil words)) h
  constants_stay fault words part (next ∷ more) h =
      subst (λ (all : List Word). Shows all (behind_first (with_next part next) more).marks fault)
      (append_assoc words (next_words next) (more_words more))
      (constants_stay fault (words ++ next_words next) (with_next part next) more
      (shows_front words (next_words next) part.marks
      (joined (quiet ∷ (choice_at (before ++ values_known part) next.item).marks ∷ [])) fault (next_many part next) h))

  first_fails_at : (taken : List ℤ) (first : Constant) (fault : Fault)
      → Shows (constant_words n first) (choice_at taken first).marks fault
      → Shows (constant_words n first) (joined (no_token ∷ no_token ∷ (choice_at taken first).marks ∷ [])) fault
  first_fails_at taken first fault h =
      let marks : Marks = joined ((choice_at taken first).marks ∷ []) in
      shows_behind [] (constant_words n first) no_token (followed no_token marks) fault nothing_shown
      (shows_behind [] (constant_words n first) no_token marks fault nothing_shown
      (shows_alone (constant_words n first) (choice_at taken first).marks (stop.Fault fault) h))

  pub first_fails : (first : Constant) (more : List (Behind Constant)) (why : Stop)
      → FailsBy (constant_words n first) (choice_part scopes base before first).marks why
      → FailsBy (constant_words n first ++ more_words more) (behind_first (first_part first) more).marks why
  first_fails first more stop.OutOfMemory h = tt
  first_fails first more (stop.Fault fault) h =
      constants_stay fault (constant_words n first) (first_part first) more
      (subst (λ (taken : List ℤ). Shows (constant_words n first)
      (joined (no_token ∷ no_token ∷ (choice_at taken first).marks ∷ [])) fault) (sym (append-nil before))
      (first_fails_at before first fault h))
  first_fails first more stop.Missing h = absurd h

  next_shows : (fault : Fault) (words : List Word) (part : Judged (List ℤ)) (next : Behind Constant)
      (more : List (Behind Constant)) (values : List ℤ) → Means words part values
      → Shows (constant_words n next.item) (choice_part scopes base (before ++ values) next.item).marks fault
      → Shows (words ++ more_words (next ∷ more)) (behind_first part (next ∷ more)).marks fault
  next_shows fault words part next more values h k =
      let taken : before ++ values_known part ≡ before ++ values =
      ap (λ (found : Option (List ℤ)). before ++ unwrap_or found []) h.known in
      let choice : Judged ConstantValue = choice_at (before ++ values_known part) next.item in
      let this : Shows (constant_words n next.item) choice.marks fault =
      subst (λ (taken : List ℤ). Shows (constant_words n next.item) (choice_at taken next.item).marks fault) (sym taken)
      k in
      subst (λ (all : List Word). Shows all (behind_first (with_next part next) more).marks fault)
      (append_assoc words (next_words next) (more_words more))
      (constants_stay fault (words ++ next_words next) (with_next part next) more
      (shows_behind words (next_words next) part.marks (joined (quiet ∷ choice.marks ∷ [])) fault h.quiet
      (word_shows (at n kind.Comma next.line) (constant_words n next.item) (joined (choice.marks ∷ []))
      (stop.Fault fault)
      (shows_alone (constant_words n next.item) choice.marks (stop.Fault fault) this))))

  pub next_fails : (first : Constant) (more : List (Behind Constant)) (next : Behind Constant)
      (others : List (Behind Constant)) (values : List ℤ) (why : Stop) → AreChosen first more values
      → FailsBy (constant_words n next.item) (choice_part scopes base (before ++ values) next.item).marks why
      → FailsBy (constant_words n first ++ more_words (more ++ next ∷ others))
      (behind_first (first_part first) (more ++ next ∷ others)).marks why
  next_fails first more next others values stop.OutOfMemory h k = tt
  next_fails first more next others values (stop.Fault fault) h k =
      subst (λ (words : List Word). Shows words (behind_first (first_part first) (more ++ next ∷ others)).marks fault)
      (append_assoc (constant_words n first) (more_words more) (more_words (next ∷ others))
      ∙ ap (λ (rest : List Word). constant_words n first ++ rest) (sym (words_both more (next ∷ others))))
      (subst (λ (part : Judged (List ℤ)). Shows ((constant_words n first ++ more_words more)
      ++ more_words (next ∷ others)) part.marks fault) (sym (more_both (first_part first) more (next ∷ others)))
      (next_shows fault (constant_words n first ++ more_words more) (behind_first (first_part first) more) next others
      values h.means k))
  next_fails first more next others values stop.Missing h k = absurd k

-- one item more of a list that is seen so, and the whole of it around an item
module _ {A B : Type 0} (view : A → B) where
  map_pushed : (xs : List A) (x : A) → map view (xs ++ x ∷ []) ≡ map view xs ++ view x ∷ []
  map_pushed [] x = refl
  map_pushed (first ∷ xs) x = ap (λ rest. view first ∷ rest) (map_pushed xs x)

  map_both : (xs ys : List A) → map view (xs ++ ys) ≡ map view xs ++ map view ys
  map_both [] ys = refl
  map_both (first ∷ xs) ys = ap (λ rest. view first ∷ rest) (map_both xs ys)

  pub one_seen : (xs : List A) (i : ℕ) (d : A) → i < length xs
      → map view (take (i + 1) xs) ≡ map view (take i xs) ++ view (get_or xs i d) ∷ []
  one_seen xs i d within = ap (map view) (take_more xs i d within) ∙ map_pushed (take i xs) (get_or xs i d)

  pub around_one : (xs : List A) (i : ℕ) (d : A) → i < length xs
      → map view xs ≡ map view (take i xs) ++ view (get_or xs i d) ∷ map view (drop (suc i) xs)
  around_one xs i d within =
      ap (map view) (sym (take-append-drop i xs))
      ∙ (map_both (take i xs) (drop i xs)
      ∙ ap (λ (rest : List A). map view (take i xs) ++ map view rest) (drop-cons xs i d within))

-- values that are taken, as the code compares them
same_value : (value other : ℤ) → int_eq value other ≡ is_same value other
same_value value other = grind (arith, common_steps)

pub taken_values : (values : List ℤ) (value : ℤ) → list_any (int_eq value) values ≡ has_value values value
taken_values [] value = refl
taken_values (first ∷ values) value = λ i. same_value value first i || taken_values values value i

-- values that are known where the base is, are known of whatever base
pub split_both : {A B C : Type 0} (make : A → B → C) (one : Option A) (other : Option B) (value : C)
    → both make one other ≡ Some value
    → (a : A) × (b : B) × (one ≡ Some a) × (other ≡ Some b) × (make a b ≡ value)
split_both make None other value is = cc
split_both make (Some a) None value is = cc
split_both make (Some a) (Some b) value is = (a, b, refl, refl, cc)

checked_known : {A : Type 0} (demand : A → List Wrong) (marks : Marks) (found : Option A) (value : A)
    → (checked_by demand marks found).value ≡ Some value → found ≡ Some value
checked_known demand marks None value is = cc
checked_known demand marks (Some x) value is = kept (demand x) is
  where
    kept : (faults : List Wrong) → (kept_by marks x faults).value ≡ Some value → Some x ≡ Some value
    kept [] is = is
    kept (first ∷ others) is = cc

record IsAlso (part other : Judged (List ℤ)) : Type 0 where
  also : (values : List ℤ) → part.value ≡ Some values → other.value ≡ Some values

module _ (scopes : Scopes) (base : Base) (before : List ℤ) where
  with_also : (separator : Marks) (part other : Judged (List ℤ)) (next : Judged ConstantValue) → IsAlso part other
      → IsAlso (with_constant separator (Some base) before part next) (with_constant separator None [] other next)
  with_also separator part other next h = record {
    also = λ values is.
        let split = split_both (λ (values : List ℤ) (found : ConstantValue). values ++ found.value ∷ []) part.value
        (checked (fits_case (Some base) (before ++ values_known part)) next).value values is in
        let known_next : next.value ≡ Some split.1 =
        checked_known (fits_case (Some base) (before ++ values_known part)) next.marks next.value split.1
        split.3 in
        made_of_both (λ (values : List ℤ) (found : ConstantValue). values ++ found.value ∷ []) other.value
        (checked (fits_case None (values_known other)) next).value split.0 split.1 (h.also split.0 split.2)
        (ap (λ (found : Option ConstantValue). (checked_by (fits_case None (values_known other))
        next.marks found).value)
        known_next)
        ∙ ap Some split.4;
  }

  more_also : (part other : Judged (List ℤ)) (more : List (Behind Constant)) → IsAlso part other
      → IsAlso (more_constants scopes (Some base) before part more) (more_constants scopes None [] other more)
  more_also part other [] h = h
  more_also part other (next ∷ more) h =
      more_also (with_constant quiet (Some base) before part (constant_of scopes next.item))
      (with_constant quiet None [] other (constant_of scopes next.item)) more
      (with_also quiet part other (constant_of scopes next.item) h)

  pub known_anyhow : (constants : Separated Constant) (values : List ℤ)
      → (constants_of scopes (Some base) before constants).value ≡ Some values
      → values_known (constants_of scopes None [] constants) ≡ values
  known_anyhow constants values is =
      let start : Judged (List ℤ) = judged no_token (Some []) in
      ap (λ (found : Option (List ℤ)). unwrap_or found [])
      ((more_also (with_constant no_token (Some base) before start (constant_of scopes constants.first))
      (with_constant no_token None [] start (constant_of scopes constants.first)) constants.more
      (with_also no_token start start (constant_of scopes constants.first) (record { also = λ values is. is }))).also
      values is)
