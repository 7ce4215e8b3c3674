-- The fields of a record, one group behind another.
use Rattle.std.proofs.Common.{◌≡◌, refl, sym, ap, subst, ◌∙◌, ℕ, ◌+◌, ◌<◌, arith, zero, suc, false, List, [], ◌∷◌}
use Rattle.std.proofs.Common.{◌++◌, map, length, take, drop, get_or, Option, Some, None}
use Rattle.std.proofs.Common.{Bool, Result, Ok, Err, ◌≢◌}
use Rattle.std.specs.Prelude.{option_map, unwrap_or}
use Rattle.std.proofs.lemmas.List.{map-append}
use Rattle.pas_tokens.specs.declared.kinds.Kind.TheVariants as k
use Rattle.pas_syntax.specs.declared.tree.Ident.{Ident as CodeIdent}
use Rattle.pas_syntax.specs.declared.tree.Behind.{Behind as CodeBehind}
use Rattle.pas_syntax.specs.declared.tree.Separated.{Separated as CodeSeparated}
use Rattle.pas_syntax.specs.declared.tree.MoreFields as code_more
use Rattle.pas_syntax.specs.declared.tree.TypeForm.TheViews.{out-FieldGroup, out-MoreFields}
use Rattle.pas_syntax.specs.Tree as tree
use Rattle.pas_syntax.specs.Tree.{Idents, TypeForm, Fields}
use Rattle.pas_syntax.specs.Views.{in_turn, ident_in, behind_in, separated_in}
use Rattle.pas_syntax.specs.Words.{Word, at, idents_words, type_words, fields_words}
use Rattle.pas_syntax.specs.ProgramViews.{type_in}
use Rattle.pas_syntax.specs.inner.TypeViews.{more_fields_in}
use Rattle.pas_typed.specs.declared.types.Field.{Field as CodeField}
use Rattle.pas_typed.specs.declared.types.PasType.{PasType as CodePasType}
use Rattle.pas_typed.specs.Types.{Field, PasType, Table, Made}
use Rattle.pas_typed.specs.TypeViews.{type_view, field_view}
use Rattle.pas_scopes.specs.declared.stop.Stop.{Stop}
use Rattle.pas_rules.specs.Marks.{Marks, no_token, quiet, joined, Judged, both, noted}
use Rattle.pas_rules.specs.Scopes.{Scopes, spellings_of, new_names}
use Rattle.pas_rules.specs.TypeForms.{Group, no_file, no_fields, table_of_fields, with_fields, group_of, field_names}
use Rattle.pas_rules.specs.TypeForms.{form_of, groups_of}
use Rattle.pas_scopes.specs.ScopeViews.{all_idents}
use Rattle.pas_tokens.specs.Cutting.{Wrong}
use Rattle.pas_scopes.specs.Ends.{Ends}
use Rattle.pas_scopes.specs.Stopping.{shown_in}
use Rattle.pas_scopes.specs.Answers.{Ending, EndsAs, StopsBy, FailsBy, IsQuiet, Means}
use Rattle.pas_scopes.specs.FormAnswers.{first_told, FoundIf, SettledIf, fields_view, group_part}
use Rattle.pas_scopes.specs.declared.judged.Judged.{Judged as CodeJudged}
use Rattle.pas_scopes.specs.Answers.{end_in, stands_at, stands_by}
use Rattle.pas_scopes.specs.NameAnswers.{AreNewNames}
use Rattle.pas_scopes.specs.DeclaredSoFar.{first_noted}
use Rattle.wb_base.specs.declared.faults.Fault.{Fault}
use Rattle.pas_scopes.specs.declared.stop.Stop.TheVariants as stop
use Rattle.pas_rules.proofs.AsMany.{around, behind_word, next_word, noted_many, new_names_many}
use Rattle.pas_rules.proofs.TypesAsMany.{form_many}
use Rattle.pas_scopes.proofs.SettleLemmas.{quiet_behind, quiet_alone, quiet_word, nothing_shown}
use Rattle.pas_scopes.proofs.EndLemmas.{end_quiet}
use Rattle.pas_scopes.proofs.AnswerLemmas.{stops_fails, noted_stops_by, refused_shows}
use Rattle.pas_scopes.proofs.LabelSeen.{taken_more}
use Rattle.pas_scopes.proofs.SequenceLemmas.{fails_front, fails_behind, alone_fails, listed_quiet, listed_fails}
use Rattle.pas_scopes.proofs.SequenceLemmas.{known_both, unknown_second}
use Rattle.pas_scopes.proofs.FormSeen.{more_seen}

-- a group behind others
module _ (words between more : List Word) (separator : Marks) (still : IsQuiet between separator false)
    (before : Judged Group) (fields : Group) (h : Means words before fields) (taken : List (List ℕ)) (idents : Idents)
    (form : Judged Made) where
  pub group_means : (found : Made) → Means more (group_part taken idents form) found
      → Means (words ++ (between ++ more)) (group_of separator before taken idents form)
      (with_fields (spellings_of idents) fields found)
  group_means found one = record {
    known = known_both (with_fields (spellings_of idents)) before.value (noted no_file form).value fields found
        h.known
        one.known;
    quiet = listed_quiet words between more before.marks separator (group_part taken idents form).marks h.quiet still
        one.quiet;
  }

  pub group_fails : (why : Stop) → FailsBy more (group_part taken idents form).marks why
      → FailsBy (words ++ (between ++ more)) (group_of separator before taken idents form).marks why
  group_fails why one =
      listed_fails words between more before.marks separator (group_part taken idents form).marks why h.quiet still
      one

-- the code's fields
names_seen : (spellings : List ℕ) (found : CodePasType) (more : List (CodeBehind CodeIdent))
    → map (field_view spellings) (map (λ ident. record { name = ident.span; pas_type = found })
    (map (λ behind. behind.item) more))
    ≡ map (λ name. record { name = name; type = type_view found })
    (map (λ ident. ident.name) (map (λ behind. behind.item) (map (behind_in (ident_in spellings)) more)))
names_seen spellings found [] = refl
names_seen spellings found (behind ∷ more) =
    ap (λ (rest : List Field). field_view spellings (record { name = behind.item.span; pas_type = found }) ∷ rest)
    (names_seen spellings found more)

pub fields_added : (spellings : List ℕ) (now : Table) (fields next : List CodeField)
    (names : CodeSeparated CodeIdent) (found : CodePasType) (made : Made) → made.type ≡ type_view found
    → next ≡ fields ++ map (λ ident. record { name = ident.span; pas_type = found }) (all_idents names)
    → with_fields (spellings_of (separated_in (ident_in spellings) names)) (fields_view spellings now fields) made
    ≡ fields_view spellings made.table next
fields_added spellings now fields next names found made at is =
    let named : PasType → CodeIdent → List Field = λ type first.
    record { name = (ident_in spellings first).name; type = type }
    ∷ map (λ name. record { name = name; type = type })
    (map (λ ident. ident.name) (map (λ behind. behind.item) (map (behind_in (ident_in spellings)) names.more))) in
    ap (λ (type : PasType). record {
      fields = map (field_view spellings) fields ++ named type names.first;
      table = made.table;
    }) at
    ∙ ap (λ (rest : List Field). record {
      fields = map (field_view spellings) fields
          ++ record { name = (ident_in spellings names.first).name; type = type_view found } ∷ rest;
      table = made.table;
    }) (sym (names_seen spellings found names.more))
    ∙ ap (λ (all : List Field). record { fields = all; table = made.table })
    (sym (map-append (field_view spellings) fields
    (map (λ ident. record { name = ident.span; pas_type = found }) (all_idents names)))
    ∙ ap (map (field_view spellings)) (sym is))

module _ (s : Scopes) (table : Table) (n : ℕ) where
  abbrev pub group_words : Idents → ℕ → TypeForm → List Word
  group_words idents colon form = idents_words n idents ++ at n k.Colon colon ∷ type_words n form

  -- the first group
  pub first_means : (idents : Idents) (colon : ℕ) (form : TypeForm) (found : Made)
      → Means (group_words idents colon form) (group_part [] idents (form_of s table form)) found
      → Means (fields_words n (tree.first_fields idents colon form))
      (groups_of s table (tree.first_fields idents colon form))
      (with_fields (spellings_of idents) (record { fields = []; table = table }) found)
  first_means idents colon form found one =
      group_means [] [] (group_words idents colon form) no_token nothing_shown (no_fields table)
      (record { fields = []; table = table }) (record { known = refl; quiet = nothing_shown }) [] idents
      (form_of s table form) found one

  pub first_fails : (idents : Idents) (colon : ℕ) (form : TypeForm) (why : Stop)
      → FailsBy (group_words idents colon form) (group_part [] idents (form_of s table form)).marks why
      → FailsBy (fields_words n (tree.first_fields idents colon form))
      (groups_of s table (tree.first_fields idents colon form)).marks why
  first_fails idents colon form why one =
      group_fails [] [] (group_words idents colon form) no_token nothing_shown (no_fields table)
      (record { fields = []; table = table }) (record { known = refl; quiet = nothing_shown }) [] idents
      (form_of s table form) why one

  -- a group behind fields, which the definition sees over the table behind these
  module _ (before : Fields) (fields : Group) (names : List (List ℕ)) (are : names ≡ field_names before)
      (h : Means (fields_words n before) (groups_of s table before) fields) (line : ℕ) (idents : Idents) (colon : ℕ)
      (form : TypeForm) where
    abbrev found : Judged Group
    found = groups_of s table before

    part_is : group_part names idents (form_of s fields.table form)
        ≡ group_part (field_names before) idents (form_of s (table_of_fields table found) form)
    part_is =
        ap (λ (taken : List (List ℕ)). group_part taken idents (form_of s fields.table form)) are
        ∙ ap (λ (at : Table). group_part (field_names before) idents (form_of s at form))
        (sym (ap (λ (value : Option Group). unwrap_or (option_map (λ (group : Group). group.table) value) table)
        h.known))

    pub more_means : (made : Made)
        → Means (group_words idents colon form) (group_part names idents (form_of s fields.table form)) made
        → Means (fields_words n (tree.more_fields before line idents colon form))
        (groups_of s table (tree.more_fields before line idents colon form))
        (with_fields (spellings_of idents) fields made)
    more_means made one =
        group_means (fields_words n before) (at n k.Semicolon line ∷ []) (group_words idents colon form) quiet
        (quiet_word (at n k.Semicolon line)) found fields h (field_names before) idents
        (form_of s (table_of_fields table found) form) made
        (subst (λ (part : Judged Made). Means (group_words idents colon form) part made) part_is one)

    pub more_fails : (why : Stop)
        → FailsBy (group_words idents colon form) (group_part names idents (form_of s fields.table form)).marks why
        → FailsBy (fields_words n (tree.more_fields before line idents colon form))
        (groups_of s table (tree.more_fields before line idents colon form)).marks why
    more_fails why one =
        group_fails (fields_words n before) (at n k.Semicolon line ∷ []) (group_words idents colon form) quiet
        (quiet_word (at n k.Semicolon line)) found fields h (field_names before) idents
        (form_of s (table_of_fields table found) form) why
        (subst (λ (part : Judged Made). FailsBy (group_words idents colon form) part.marks why) part_is one)

  -- what stands behind a group in which checking stops
  front_fails : (before : Fields) (line : ℕ) (idents : Idents) (colon : ℕ) (form : TypeForm) (why : Stop)
      → FailsBy (fields_words n before) (groups_of s table before).marks why
      → FailsBy (fields_words n (tree.more_fields before line idents colon form))
      (groups_of s table (tree.more_fields before line idents colon form)).marks why
  front_fails before line idents colon form why h =
      let found : Judged Group = groups_of s table before in
      let made : Judged Made = form_of s (table_of_fields table found) form in
      let names : Marks = new_names (field_names before) idents in
      fails_front (fields_words n before) (at n k.Semicolon line ∷ group_words idents colon form) found.marks
      (joined (quiet ∷ names ∷ quiet ∷ (noted no_file made).marks ∷ [])) why
      (next_word (at n k.Semicolon line) [] (joined (names ∷ quiet ∷ (noted no_file made).marks ∷ []))
      (around (at n k.Colon colon) names (noted no_file made).marks (new_names_many n (field_names before) idents)
      (noted_many no_file made (form_many s (table_of_fields table found) n form)))) h

  rest_fails : (spellings : List ℕ) (before : Fields) (more : List code_more.MoreFields) (why : Stop)
      → FailsBy (fields_words n before) (groups_of s table before).marks why
      → FailsBy (fields_words n (in_turn before (map (more_fields_in spellings) more)))
      (groups_of s table (in_turn before (map (more_fields_in spellings) more))).marks why
  rest_fails spellings before [] why h = h
  rest_fails spellings before (next ∷ more) why h =
      rest_fails spellings (more_fields_in spellings next before) more why
      (subst (λ (step : Fields → Fields). FailsBy (fields_words n (step before)) (groups_of s table (step
      before)).marks
      why) (sym (more_seen spellings next))
      (front_fails before (out-MoreFields next).line
      (separated_in (ident_in spellings) (out-FieldGroup (out-MoreFields next).group).names)
      (out-FieldGroup (out-MoreFields next).group).colon
      (type_in spellings (out-FieldGroup (out-MoreFields next).group).form) why h))

-- one group by itself
module _ (s : Scopes) (table : Table) (n line : ℕ) (taken : List (List ℕ)) (idents : Idents) (form : TypeForm) where
  abbrev made : Judged Made
  made = form_of s table form

  abbrev part : Judged Made
  part = noted no_file made

  abbrev colon : List Word
  colon = at n k.Colon line ∷ type_words n form

  pub names_fail : (why : Stop) → FailsBy (idents_words n idents) (new_names taken idents) why
      → FailsBy (group_words s table n idents line form) (group_part taken idents made).marks why
  names_fail why h =
      fails_front (idents_words n idents) colon (new_names taken idents) (joined (quiet ∷ part.marks ∷ [])) why
      (behind_word (at n k.Colon line) part.marks (noted_many no_file made (form_many s table n form))) h

  part_fails : (why : Stop) → IsQuiet (idents_words n idents) (new_names taken idents) false
      → FailsBy (type_words n form) part.marks why
      → FailsBy (group_words s table n idents line form) (group_part taken idents made).marks why
  part_fails why still h =
      fails_behind (idents_words n idents) colon (new_names taken idents) (joined (quiet ∷ part.marks ∷ [])) why still
      (fails_behind (at n k.Colon line ∷ []) (type_words n form) quiet (joined (part.marks ∷ [])) why
      (quiet_word (at n k.Colon line)) (alone_fails (type_words n form) part.marks why h))

  pub form_fails : (why : Stop) → IsQuiet (idents_words n idents) (new_names taken idents) false
      → StopsBy (type_words n form) made why
      → FailsBy (group_words s table n idents line form) (group_part taken idents made).marks why
  form_fails why still h =
      part_fails why still (stops_fails (type_words n form) part why
      (noted_stops_by (type_words n form) no_file made why h))

  -- what is known of its names, where a fault of theirs is noted or not
  abbrev pub NamesTold : Option Fault → Type 0
  NamesTold None = IsQuiet (idents_words n idents) (new_names taken idents) false
  NamesTold (Some fault) = FailsBy (idents_words n idents) (new_names taken idents) (stop.Fault fault)

  pub names_told : (r : Result (Unit {0}) Stop) → r ≢ Err stop.OutOfMemory → AreNewNames taken idents r
      → NamesTold (first_noted None r)
  names_told (Ok done) some h = h n
  names_told (Err stop.OutOfMemory) some h = absurd (some refl)
  names_told (Err (stop.Fault fault)) some h = h n
  names_told (Err stop.Missing) some h = absurd (h n)

  abbrev all_words : List Word
  all_words = group_words s table n idents line form

  abbrev all_part : Judged Made
  all_part = group_part taken idents made

  told_names : (fault : Fault) (why : Stop) → FailsBy all_words all_part.marks (stop.Fault fault)
      → FailsBy all_words all_part.marks (first_told (Some fault) why)
  told_names fault stop.OutOfMemory h = tt
  told_names fault (stop.Fault other) h = h
  told_names fault stop.Missing h = h

  module _ {Y : Type 0} (Clear : Type 0) (seen : Y → Made) where
    within_form : (still : IsQuiet (idents_words n idents) (new_names taken idents) false) (two : Option Fault)
        (why : Stop) → FoundIf Clear (type_words n form) made seen two (Err why) → Clear
        → FailsBy all_words all_part.marks (first_told two why)
    within_form still None why h clear = form_fails why still (h clear)
    within_form still (Some fault) why h clear = form_fails (first_told (Some fault) why) still (h clear)

    settled_err : {X : Type 0} (view : X → Made) (two : Option Fault) (why : Stop)
        → (Clear → FailsBy all_words all_part.marks (first_told two why))
        → SettledIf Clear all_words all_part view two (Err why)
    settled_err view None why h = h
    settled_err view (Some fault) why h = h

    -- checking stops in the type
    pub group_stops : {X : Type 0} (view : X → Made) (one two : Option Fault) (why : Stop) → NamesTold one
        → (one ≡ None → FoundIf Clear (type_words n form) made seen two (Err why))
        → ((fault : Fault) → one ≡ Some fault → two ≡ Some fault)
        → SettledIf Clear all_words all_part view two (Err why)
    group_stops view None two why names h stays = settled_err view two why (within_form names two why (h refl))
    group_stops view (Some fault) two why names h stays =
        subst (λ (noted : Option Fault). SettledIf Clear all_words all_part view noted (Err why))
        (sym (stays fault refl))
        (λ clear. told_names fault why (names_fail (stop.Fault fault) names))

  -- the type is found
  module _ {X : Type 0} (Clear : Type 0) (view : X → Made) (x : X) (end : Ending) (whole : end.is_short ≡ false) where
    noted_at : (two : Option Fault) → two ≡ None → (refusal : Option Wrong) → end.refusal ≡ refusal
        → IsQuiet (idents_words n idents) (new_names taken idents) false
        → Ends (type_words n form) part (view x) end.line refusal false
        → SettledIf Clear all_words all_part view (first_noted None (stands_at end.line refusal)) (Ok x)
    noted_at two none None same still h = record {
      known = h.known;
      quiet = quiet_behind (idents_words n idents) colon (new_names taken idents) (joined (quiet ∷ part.marks ∷ []))
          false still
          (quiet_behind (at n k.Colon line ∷ []) (type_words n form) quiet (joined (part.marks ∷ [])) false
          (quiet_word (at n k.Colon line))
          (quiet_alone (type_words n form) part.marks false (record {
            still = end_quiet (type_words n form) part.marks.tokens end.line h.end;
            behind = h.behind;
          })));
    }
    noted_at two none (Some refusal) same still h = λ clear.
        part_fails (shown_in end.line refusal) still
        (refused_shows (type_words n form) part (view x) end.line refusal false h)

    pub group_found : (found : CodeJudged X) (one two three : Option Fault) → NamesTold one
        → (one ≡ None → FoundIf Clear (type_words n form) made view two (Ok found))
        → ((fault : Fault) → one ≡ Some fault → two ≡ Some fault)
        → (EndsAs (type_words n form) made (view found.value) (end_in found.end)
        → EndsAs (type_words n form) part (view x) end)
        → three ≡ first_noted two (stands_by end) → SettledIf Clear all_words all_part view three (Ok x)
    group_found found None None three names h stays ends is =
        subst (λ (noted : Option Fault). SettledIf Clear all_words all_part view noted (Ok x)) (sym is)
        (noted_at None refl end.refusal refl names
        (subst (λ (short : Bool). Ends (type_words n form) part (view x) end.line end.refusal short) whole
        (ends (h refl))))
    group_found found None (Some fault) three names h stays ends is =
        subst (λ (noted : Option Fault). SettledIf Clear all_words all_part view noted (Ok x)) (sym is)
        (λ clear. form_fails (stop.Fault fault) names (h refl clear))
    group_found found (Some fault) two three names h stays ends is =
        subst (λ (noted : Option Fault). SettledIf Clear all_words all_part view noted (Ok x))
        (sym (is ∙ ap (λ (noted : Option Fault). first_noted noted (stands_by end)) (stays fault refl)))
        (λ clear. names_fail (stop.Fault fault) names)

-- the fields so far, over the code's list
abbrev pub so_far : List ℕ → Fields → List code_more.MoreFields → Fields
so_far spellings first more = in_turn first (map (more_fields_in spellings) more)

turned : {A : Type 0} (start : A) (steps more : List (A → A)) → in_turn start (steps ++ more)
    ≡ in_turn (in_turn start steps) more
turned start [] more = refl
turned start (step ∷ steps) more = turned (step start) steps more

abbrev pub names_of_next : List ℕ → code_more.MoreFields → CodeSeparated CodeIdent
names_of_next spellings next = (out-FieldGroup (out-MoreFields next).group).names

abbrev pub next_names : List ℕ → code_more.MoreFields → Idents
next_names spellings next = separated_in (ident_in spellings) (names_of_next spellings next)

abbrev pub next_form : List ℕ → code_more.MoreFields → TypeForm
next_form spellings next = type_in spellings (out-FieldGroup (out-MoreFields next).group).form

abbrev pub next_colon : code_more.MoreFields → ℕ
next_colon next = (out-FieldGroup (out-MoreFields next).group).colon

module _ (spellings : List ℕ) (first : Fields) (more : List code_more.MoreFields) (i : ℕ)
    (next : code_more.MoreFields) (within : i < length more) (is : next ≡ get_or more i next) where
  abbrev before : Fields
  before = so_far spellings first (take i more)

  abbrev added : Fields
  added =
      tree.more_fields before (out-MoreFields next).line (next_names spellings next) (next_colon next)
      (next_form spellings next)

  step_is : more_fields_in spellings next before ≡ added
  step_is = ap (λ (step : Fields → Fields). step before) (more_seen spellings next)

  pub one_more_is : so_far spellings first (take (i + 1) more) ≡ added
  one_more_is =
      ap (so_far spellings first) (taken_more more i next within is)
      ∙ (ap (in_turn first) (map-append (more_fields_in spellings) (take i more) (next ∷ []))
      ∙ (turned first (map (more_fields_in spellings) (take i more)) (more_fields_in spellings next ∷ []) ∙ step_is))

  all_is : so_far spellings first more ≡ so_far spellings added (drop (suc i) more)
  all_is =
      ap (so_far spellings first) (split more i next within ∙ ap (λ (item : code_more.MoreFields).
      take i more ++ item ∷ drop (suc i) more) (sym is))
      ∙ (ap (in_turn first) (map-append (more_fields_in spellings) (take i more) (next ∷ drop (suc i) more))
      ∙ (turned first (map (more_fields_in spellings) (take i more))
      (more_fields_in spellings next ∷ map (more_fields_in spellings) (drop (suc i) more))
      ∙ ap (λ (fields : Fields). so_far spellings fields (drop (suc i) more)) step_is))
    where
      split : (xs : List code_more.MoreFields) (i : ℕ) (d : code_more.MoreFields) → i < length xs
          → xs ≡ take i xs ++ get_or xs i d ∷ drop (suc i) xs
      split [] i d h = absurd (omega (arith, h))
      split (x ∷ xs) zero d h = refl
      split (x ∷ xs) (suc i) d h = ap (λ rest. x ∷ rest) (split xs i d (omega (arith, h)))

  module _ (s : Scopes) (table : Table) (n : ℕ) (now : Table) (fields : List CodeField) (names : List (List ℕ))
      (are : names ≡ field_names before)
      (h : Means (fields_words n before) (groups_of s table before) (fields_view spellings now fields)) where
    pub so_far_means : (made : Made) (found : CodePasType) (all : List CodeField)
        → Means (group_words s table n (next_names spellings next) (next_colon next) (next_form spellings next))
        (group_part names (next_names spellings next) (form_of s now (next_form spellings next))) made
        → made.type ≡ type_view found
        → all ≡ fields ++ map (λ ident. record { name = ident.span; pas_type = found })
        (all_idents (names_of_next spellings next))
        → Means (fields_words n (so_far spellings first (take (i + 1) more)))
        (groups_of s table (so_far spellings first (take (i + 1) more))) (fields_view spellings made.table all)
    so_far_means made found all one at is_all =
        subst (λ (f : Fields). Means (fields_words n f) (groups_of s table f) (fields_view spellings made.table all))
        (sym one_more_is)
        (subst (λ (group : Group). Means (fields_words n added) (groups_of s table added) group)
        (fields_added spellings now fields all (names_of_next spellings next) found made at is_all)
        (more_means s table n before (fields_view spellings now fields) names are h (out-MoreFields next).line
        (next_names spellings next) (next_colon next) (next_form spellings next) made one))

    pub so_far_fails : (why : Stop)
        → FailsBy (group_words s table n (next_names spellings next) (next_colon next) (next_form spellings next))
        (group_part names (next_names spellings next) (form_of s now (next_form spellings next))).marks why
        → FailsBy (fields_words n (so_far spellings first more)) (groups_of s table (so_far spellings first
        more)).marks
        why
    so_far_fails why one =
        subst (λ (f : Fields). FailsBy (fields_words n f) (groups_of s table f).marks why) (sym all_is)
        (rest_fails s table n spellings added (drop (suc i) more) why
        (more_fails s table n before (fields_view spellings now fields) names are h (out-MoreFields next).line
        (next_names spellings next) (next_colon next) (next_form spellings next) why one))

pub behind_first_fails : (s : Scopes) (table : Table) (n : ℕ) (spellings : List ℕ) (idents : Idents) (colon : ℕ)
    (form : TypeForm) (more : List code_more.MoreFields) (why : Stop)
    → FailsBy (group_words s table n idents colon form) (group_part [] idents (form_of s table form)).marks why
    → FailsBy (fields_words n (so_far spellings (tree.first_fields idents colon form) more))
    (groups_of s table (so_far spellings (tree.first_fields idents colon form) more)).marks why
behind_first_fails s table n spellings idents colon form more why h =
    rest_fails s table n spellings (tree.first_fields idents colon form) more why
    (first_fails s table n idents colon form why h)

pub begun : (s : Scopes) (table : Table) (n : ℕ) (spellings : List ℕ) (names : CodeSeparated CodeIdent) (colon : ℕ)
    (form : TypeForm) (made : Made) (found : CodePasType) (all : List CodeField)
    → Means (group_words s table n (separated_in (ident_in spellings) names) colon form)
    (group_part [] (separated_in (ident_in spellings) names) (form_of s table form)) made
    → made.type ≡ type_view found
    → all ≡ map (λ ident. record { name = ident.span; pas_type = found }) (all_idents names)
    → Means (fields_words n (tree.first_fields (separated_in (ident_in spellings) names) colon form))
    (groups_of s table (tree.first_fields (separated_in (ident_in spellings) names) colon form))
    (fields_view spellings made.table all)
begun s table n spellings names colon form made found all one at is =
    let idents : Idents = separated_in (ident_in spellings) names in
    subst (λ (group : Group). Means (fields_words n (tree.first_fields idents colon form))
    (groups_of s table (tree.first_fields idents colon form)) group)
    (fields_added spellings table [] all names found made at is)
    (first_means s table n idents colon form made one)

-- the fields so far, where a fault in them is noted or not
module _ (s : Scopes) (table : Table) (n : ℕ) (Clear : Type 0) where
  abbrev pub FieldsTold : Fields → Group → Option Fault → Type 0
  FieldsTold fields found None = Means (fields_words n fields) (groups_of s table fields) found
  FieldsTold fields found (Some fault) =
      Clear → FailsBy (fields_words n fields) (groups_of s table fields).marks (stop.Fault fault)

  told_in : (fields : Fields) (fault : Fault) (why : Stop)
      → FailsBy (fields_words n fields) (groups_of s table fields).marks (stop.Fault fault)
      → FailsBy (fields_words n fields) (groups_of s table fields).marks (first_told (Some fault) why)
  told_in fields fault stop.OutOfMemory h = tt
  told_in fields fault (stop.Fault other) h = h
  told_in fields fault stop.Missing h = h

  pub told_settled : {X : Type 0} (fields : Fields) (view : X → Group) (x : X) (noted : Option Fault)
      → FieldsTold fields (view x) noted
      → SettledIf Clear (fields_words n fields) (groups_of s table fields) view noted (Ok x)
  told_settled fields view x None h = h
  told_settled fields view x (Some fault) h = h

  -- the first group
  pub first_told_of : {X : Type 0} (view : X → Made) (spellings : List ℕ) (names : CodeSeparated CodeIdent) (colon : ℕ)
      (form : TypeForm) (x : X) (found : CodePasType) (all : List CodeField) (noted : Option Fault)
      → SettledIf Clear (group_words s table n (separated_in (ident_in spellings) names) colon form)
      (group_part [] (separated_in (ident_in spellings) names) (form_of s table form)) view noted (Ok x)
      → (view x).type ≡ type_view found
      → all ≡ map (λ ident. record { name = ident.span; pas_type = found }) (all_idents names)
      → FieldsTold (tree.first_fields (separated_in (ident_in spellings) names) colon form)
      (fields_view spellings (view x).table all) noted
  first_told_of view spellings names colon form x found all None one at is =
      begun s table n spellings names colon form (view x) found all one at is
  first_told_of view spellings names colon form x found all (Some fault) one at is =
      λ clear. first_fails s table n (separated_in (ident_in spellings) names) colon form (stop.Fault fault) (one
      clear)

  pub first_stops : {X : Type 0} (view : X → Made) (spellings : List ℕ) (idents : Idents) (colon : ℕ)
      (form : TypeForm) (more : List code_more.MoreFields) (noted : Option Fault) (why : Stop)
      → SettledIf Clear (group_words s table n idents colon form) (group_part [] idents (form_of s table form)) view
      noted (Err why) → Clear
      → FailsBy (fields_words n (so_far spellings (tree.first_fields idents colon form) more))
      (groups_of s table (so_far spellings (tree.first_fields idents colon form) more)).marks (first_told noted why)
  first_stops view spellings idents colon form more None why h clear =
      behind_first_fails s table n spellings idents colon form more why (h clear)
  first_stops view spellings idents colon form more (Some fault) why h clear =
      behind_first_fails s table n spellings idents colon form more (first_told (Some fault) why) (h clear)

  -- a group behind others
  module _ {X : Type 0} (view : X → Made) (spellings : List ℕ) (first : Fields) (more : List code_more.MoreFields)
      (i : ℕ) (next : code_more.MoreFields) (within : i < length more) (is : next ≡ get_or more i next) (now : Table)
      (fields : List CodeField) (names : List (List ℕ)) where
    abbrev earlier : Fields
    earlier = so_far spellings first (take i more)

    abbrev words_next : List Word
    words_next = group_words s table n (next_names spellings next) (next_colon next) (next_form spellings next)

    abbrev part_next : Judged Made
    part_next = group_part names (next_names spellings next) (form_of s now (next_form spellings next))

    in_front_next : (fault : Fault)
        → FailsBy (fields_words n earlier) (groups_of s table earlier).marks (stop.Fault fault)
        → FailsBy (fields_words n (so_far spellings first (take (i + 1) more)))
        (groups_of s table (so_far spellings first (take (i + 1) more))).marks (stop.Fault fault)
    in_front_next fault h =
        subst (λ (f : Fields). FailsBy (fields_words n f) (groups_of s table f).marks (stop.Fault fault))
        (sym (one_more_is spellings first more i next within is))
        (front_fails s table n earlier (out-MoreFields next).line (next_names spellings next) (next_colon next)
        (next_form spellings next) (stop.Fault fault) h)

    at_next : (are : names ≡ field_names earlier)
        → Means (fields_words n earlier) (groups_of s table earlier) (fields_view spellings now fields) → (why : Stop)
        → FailsBy words_next part_next.marks why
        → FailsBy (fields_words n (so_far spellings first (take (i + 1) more)))
        (groups_of s table (so_far spellings first (take (i + 1) more))).marks why
    at_next are h why one =
        subst (λ (f : Fields). FailsBy (fields_words n f) (groups_of s table f).marks why)
        (sym (one_more_is spellings first more i next within is))
        (more_fails s table n earlier (fields_view spellings now fields) names are h (out-MoreFields next).line
        (next_names spellings next) (next_colon next) (next_form spellings next) why one)

    pub next_told : (noted noting : Option Fault) (x : X) (found : CodePasType) (all : List CodeField)
        → (noted ≡ None → names ≡ field_names earlier) → FieldsTold earlier (fields_view spellings now fields) noted
        → (noted ≡ None → SettledIf Clear words_next part_next view noting (Ok x))
        → ((fault : Fault) → noted ≡ Some fault → noting ≡ Some fault) → (view x).type ≡ type_view found
        → all ≡ fields ++ map (λ ident. record { name = ident.span; pas_type = found })
        (all_idents (names_of_next spellings next))
        → FieldsTold (so_far spellings first (take (i + 1) more)) (fields_view spellings (view x).table all) noting
    next_told None None x found all are h one stays at is_all =
        so_far_means spellings first more i next within is s table n now fields names (are refl) h (view x) found all
        (one refl) at is_all
    next_told None (Some fault) x found all are h one stays at is_all =
        λ clear. at_next (are refl) h (stop.Fault fault) (one refl clear)
    next_told (Some fault) noting x found all are h one stays at is_all =
        subst (FieldsTold (so_far spellings first (take (i + 1) more)) (fields_view spellings (view x).table all))
        (sym (stays fault refl)) (λ clear. in_front_next fault (h clear))

    pub next_stops : (noted noting : Option Fault) (why : Stop) → (noted ≡ None → names ≡ field_names earlier)
        → FieldsTold earlier (fields_view spellings now fields) noted
        → (noted ≡ None → SettledIf Clear words_next part_next view noting (Err why))
        → ((fault : Fault) → noted ≡ Some fault → noting ≡ Some fault) → Clear
        → FailsBy (fields_words n (so_far spellings first more)) (groups_of s table (so_far spellings first
        more)).marks
        (first_told noting why)
    next_stops None None why are h one stays clear =
        so_far_fails spellings first more i next within is s table n now fields names (are refl) h why (one refl clear)
    next_stops None (Some fault) why are h one stays clear =
        so_far_fails spellings first more i next within is s table n now fields names (are refl) h
        (first_told (Some fault) why) (one refl clear)
    next_stops (Some fault) noting why are h one stays clear =
        subst (λ (noted : Option Fault). FailsBy (fields_words n (so_far spellings first more))
        (groups_of s table (so_far spellings first more)).marks (first_told noted why)) (sym (stays fault refl))
        (told_in (so_far spellings first more) fault why
        (subst (λ (f : Fields). FailsBy (fields_words n f) (groups_of s table f).marks (stop.Fault fault))
        (sym (all_is spellings first more i next within is))
        (rest_fails s table n spellings (tree.more_fields earlier (out-MoreFields next).line (next_names spellings
        next)
        (next_colon next) (next_form spellings next)) (drop (suc i) more) (stop.Fault fault)
        (front_fails s table n earlier (out-MoreFields next).line (next_names spellings next) (next_colon next)
        (next_form spellings next) (stop.Fault fault) (h clear)))))

-- what is known of fields
module _ (s : Scopes) (table : Table) where
  pub first_value : (idents : Idents) (colon : ℕ) (form : TypeForm) (value : Made)
      → (form_of s table form).value ≡ Some value
      → (groups_of s table (tree.first_fields idents colon form)).value
      ≡ Some (with_fields (spellings_of idents) (record { fields = []; table = table }) value)
  first_value idents colon form value is =
      ap (both (with_fields (spellings_of idents)) (Some (record { fields = []; table = table }))) is

  pub first_unknown_of : (idents : Idents) (colon : ℕ) (form : TypeForm) → (form_of s table form).value ≡ None
      → (groups_of s table (tree.first_fields idents colon form)).value ≡ None
  first_unknown_of idents colon form none =
      ap (both (with_fields (spellings_of idents)) (Some (record { fields = []; table = table }))) none

  pub more_value : (before : Fields) (fields : Group) (line : ℕ) (idents : Idents) (colon : ℕ) (form : TypeForm)
      (value : Made) → (groups_of s table before).value ≡ Some fields
      → (form_of s fields.table form).value ≡ Some value
      → (groups_of s table (tree.more_fields before line idents colon form)).value
      ≡ Some (with_fields (spellings_of idents) fields value)
  more_value before fields line idents colon form value h is =
      known_both (with_fields (spellings_of idents)) (groups_of s table before).value
      (form_of s (table_of_fields table (groups_of s table before)) form).value fields value h
      (ap (λ (at : Table). (form_of s at form).value)
      (ap (λ (found : Option Group). unwrap_or (option_map (λ (group : Group). group.table) found) table) h) ∙ is)

  pub more_unknown : (before : Fields) (fields : Group) (line : ℕ) (idents : Idents) (colon : ℕ) (form : TypeForm)
      → (groups_of s table before).value ≡ Some fields → (form_of s fields.table form).value ≡ None
      → (groups_of s table (tree.more_fields before line idents colon form)).value ≡ None
  more_unknown before fields line idents colon form h none =
      unknown_second (with_fields (spellings_of idents)) (groups_of s table before).value
      (form_of s (table_of_fields table (groups_of s table before)) form).value
      (ap (λ (at : Table). (form_of s at form).value)
      (ap (λ (found : Option Group). unwrap_or (option_map (λ (group : Group). group.table) found) table) h) ∙ none)

  pub rest_unknown : (spellings : List ℕ) (before : Fields) (more : List code_more.MoreFields)
      → (groups_of s table before).value ≡ None
      → (groups_of s table (so_far spellings before more)).value ≡ None
  rest_unknown spellings before [] none = none
  rest_unknown spellings before (next ∷ more) none =
      rest_unknown spellings (more_fields_in spellings next before) more
      (ap (λ (step : Fields → Fields). (groups_of s table (step before)).value) (more_seen spellings next)
      ∙ ap (λ (found : Option Group). both (with_fields (spellings_of (next_names spellings next))) found
      (form_of s (table_of_fields table (groups_of s table before)) (next_form spellings next)).value) none)

  module _ (spellings : List ℕ) (first : Fields) (more : List code_more.MoreFields) (i : ℕ)
      (next : code_more.MoreFields) (within : i < length more) (is : next ≡ get_or more i next) (now : Table)
      (fields : List CodeField)
      (h : (groups_of s table (so_far spellings first (take i more))).value ≡ Some (fields_view spellings now fields))
    where
      pub next_value : (value : Made) (found : CodePasType) (all : List CodeField)
          → (form_of s now (next_form spellings next)).value ≡ Some value → value.type ≡ type_view found
          → all ≡ fields ++ map (λ ident. record { name = ident.span; pas_type = found })
          (all_idents (names_of_next spellings next))
          → (groups_of s table (so_far spellings first (take (i + 1) more))).value
          ≡ Some (fields_view spellings value.table all)
      next_value value found all one at is_all =
          ap (λ (f : Fields). (groups_of s table f).value) (one_more_is spellings first more i next within is)
          ∙ (more_value (so_far spellings first (take i more)) (fields_view spellings now fields)
          (out-MoreFields next).line (next_names spellings next) (next_colon next) (next_form spellings next) value h
          one
          ∙ ap Some (fields_added spellings now fields all (names_of_next spellings next) found value at is_all))

      pub next_unknown : (form_of s now (next_form spellings next)).value ≡ None
          → (groups_of s table (so_far spellings first more)).value ≡ None
      next_unknown none =
          ap (λ (f : Fields). (groups_of s table f).value) (all_is spellings first more i next within is)
          ∙ rest_unknown spellings (tree.more_fields (so_far spellings first (take i more)) (out-MoreFields next).line
          (next_names spellings next) (next_colon next) (next_form spellings next)) (drop (suc i) more)
          (more_unknown (so_far spellings first (take i more)) (fields_view spellings now fields)
          (out-MoreFields next).line (next_names spellings next) (next_colon next) (next_form spellings next) h none)
