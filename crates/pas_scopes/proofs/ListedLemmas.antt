-- A list of parts with a word before each, behind a name: one part after another.
use Rattle.std.proofs.Common.{◌≡◌, refl, sym, ap, subst, ◌∙◌, arith, Bool, true, false, List, [], ◌∷◌, ◌++◌}
use Rattle.std.proofs.Common.{map, Option, Some, None}
use Rattle.std.specs.Prelude.{⊤}
use Rattle.std.proofs.lemmas.List.{append-nil, append_assoc}
use Rattle.std.proofs.lemmas.Option.{none-some}
use Rattle.wb_base.specs.declared.faults.TheConstants.{WRONG_TYPE}
use Rattle.pas_tokens.specs.Cutting.{Wrong, wrong}
use Rattle.pas_tokens.specs.Tokens.{fault_in}
use Rattle.pas_syntax.specs.Words.{Word}
use Rattle.pas_scopes.specs.declared.stop.Stop.{Stop}
use Rattle.pas_scopes.specs.declared.stop.Stop.TheVariants as stop
use Rattle.pas_rules.specs.Marks.{Marks, no_token, quiet, shows, first_of, followed, joined, listed, last_of}
use Rattle.pas_rules.specs.Marks.{judged, both, all_known, first_fault}
use Rattle.pas_scopes.specs.Ends.{shown_behind, refusal_behind, lowest_of}
use Rattle.pas_scopes.specs.Stopping.{shown_in}
use Rattle.pas_scopes.specs.Answers.{EndsAs, StopsBy, Shows, FailsBy, IsQuiet, closed_end, Ending}
pub use Rattle.pas_scopes.specs.inner.Listed.{Item, item_words, behind_items, items_marks, values_of, closed_marks}
use Rattle.pas_rules.proofs.AsMany.{AsMany, none, and_then, next_word}
use Rattle.pas_scopes.proofs.EndLemmas.{behind_quiet, quiet_many, end_append, stops_within, last_of_nothing}
use Rattle.pas_scopes.proofs.PartLemmas.{alone}
use Rattle.pas_scopes.proofs.SettleLemmas.{quiet_behind, quiet_word, shows_front, shows_behind, shows_short}
use Rattle.pas_scopes.proofs.SettleLemmas.{quiet_alone}

-- parts in other groups
abbrev of : List (List Wrong) → List Wrong → Marks
of tokens behind = record { tokens = tokens; behind = behind }

pub grouped_marks : (a b c : Marks) → followed a (followed b c) ≡ followed (followed a b) c
grouped_marks a b c = by_tokens b.tokens b.behind c.tokens c.behind
  where
    by_tokens : (second : List (List Wrong)) (behind : List Wrong) (third : List (List Wrong)) (last : List Wrong)
        → followed a (followed (of second behind) (of third last)) ≡ followed (followed a (of second behind))
        (of third last)
    by_tokens [] behind [] last =
        ap (λ (tokens : List (List Wrong)). of tokens (a.behind ++ (behind ++ last)))
        (sym (append-nil (a.tokens ++ [])))
        ∙ ap (of ((a.tokens ++ []) ++ [])) (sym (append_assoc a.behind behind last))
    by_tokens [] behind (first ∷ third) last =
        ap (λ (faults : List Wrong). of (a.tokens ++ faults ∷ third) last) (sym (append_assoc a.behind behind first))
        ∙ ap (λ (tokens : List (List Wrong)). of (tokens ++ ((a.behind ++ behind) ++ first) ∷ third) last)
        (sym (append-nil a.tokens))
    by_tokens (first ∷ second) behind third last =
        ap (λ (tokens : List (List Wrong)). of tokens (first_of behind last third).behind)
        (sym (append_assoc a.tokens ((a.behind ++ first) ∷ second) (first_of behind last third).tokens))

abbrev pub AreMany : {B : Type 0} → List (Item B) → Type 0
AreMany [] = ⊤
AreMany (item ∷ items) = AsMany item.words item.part.marks × AreMany items

-- items behind others
pub words_append : {B : Type 0} (items more : List (Item B))
    → item_words (items ++ more) ≡ item_words items ++ item_words more
words_append [] more = refl
words_append (item ∷ items) more =
    ap (λ (words : List Word). item.before ∷ (item.words ++ words)) (words_append items more)
    ∙ ap (λ (words : List Word). item.before ∷ words)
    (sym (append_assoc item.words (item_words items) (item_words more)))

behind_first : {B : Type 0} (front : Marks) (item : Item B) (items : List (Item B))
    → followed front (behind_items (item ∷ items))
    ≡ followed (followed (followed front quiet) item.part.marks) (behind_items items)
behind_first front item items =
    grouped_marks front quiet (followed item.part.marks (behind_items items))
    ∙ grouped_marks (followed front quiet) item.part.marks (behind_items items)

pub marks_append : {B : Type 0} (front : Marks) (items more : List (Item B))
    → followed front (behind_items (items ++ more))
    ≡ followed (followed front (behind_items items)) (behind_items more)
marks_append front [] more = ap (λ (marks : Marks). followed marks (behind_items more)) (sym (alone front))
marks_append front (item ∷ items) more =
    behind_first front item (items ++ more)
    ∙ marks_append (followed (followed front quiet) item.part.marks) items more
    ∙ ap (λ (marks : Marks). followed marks (behind_items more)) (sym (behind_first front item items))

pub behind_many : {B : Type 0} (items : List (Item B)) → AreMany items
    → AsMany (item_words items) (behind_items items)
behind_many [] h = none
behind_many (item ∷ items) h =
    next_word item.before [] (followed item.part.marks (behind_items items))
    (and_then item.part.marks (behind_items items) h.0 (behind_many items h.1))

-- a list of the definition
pub listed_items : {B : Type 0} (first : Marks) (items : List (Item B))
    → listed (first ∷ map (λ item. item.part.marks) items) ≡ followed first (behind_items items)
listed_items first [] = sym (alone first)
listed_items first (item ∷ items) =
    ap (λ (marks : Marks). followed first (followed quiet marks))
    (alone (listed (item.part.marks ∷ map (λ item. item.part.marks) items))
    ∙ listed_items item.part.marks items)

-- what is known of items, and of one more
pub some_both : {A B C : Type 0} (make : A → B → C) (one : Option A) (other : Option B) (whole : C)
    → both make one other ≡ Some whole
    → (value : A) × (item : B) × (one ≡ Some value) × (other ≡ Some item) × (make value item ≡ whole)
some_both make None other whole h = absurd (none-some whole h)
some_both make (Some value) None whole h = absurd (none-some whole h)
some_both make (Some value) (Some item) whole h = (value, item, refl, refl, cc)

pub both_some : {A B C : Type 0} (make : A → B → C) (one : Option A) (other : Option B) (value : A) (item : B)
    → one ≡ Some value → other ≡ Some item → both make one other ≡ Some (make value item)
both_some make one other value item is are =
    ap (λ found. both make found other) is ∙ ap (both make (Some value)) are

pub all_pushed : {B : Type 0} (found : List (Option B)) (next : Option B) (values : List B) (value : B)
    → all_known found ≡ Some values → next ≡ Some value
    → all_known (found ++ next ∷ []) ≡ Some (values ++ value ∷ [])
all_pushed [] next values value h is =
    let none : [] ≡ values = cc in
    both_some ◌∷◌ next (Some []) value [] is refl ∙ ap (λ (front : List _). Some (front ++ value ∷ [])) none
all_pushed (first ∷ found) next values value h is =
    let parts = some_both ◌∷◌ first (all_known found) values h in
    both_some ◌∷◌ first (all_known (found ++ next ∷ [])) parts.0 (parts.1 ++ value ∷ []) parts.2
    (all_pushed found next parts.1 value parts.3 is)
    ∙ ap (λ (front : List _). Some (front ++ value ∷ [])) parts.4

pub values_push : {B : Type 0} (items : List (Item B)) (item : Item B) (values : List B) (value : B)
    → values_of items ≡ Some values → item.part.value ≡ Some value
    → values_of (items ++ item ∷ []) ≡ Some (values ++ value ∷ [])
values_push items item values value h is =
    ap all_known (map_push items)
    ∙ all_pushed (map (λ item. item.part.value) items) item.part.value values value h is
  where
    map_push : (items : List (Item _)) → map (λ item. item.part.value) (items ++ item ∷ [])
        ≡ map (λ item. item.part.value) items ++ item.part.value ∷ []
    map_push [] = refl
    map_push (first ∷ items) = ap (λ rest. first.part.value ∷ rest) (map_push items)

-- the items up to one, that one, and those behind it
module _ {B : Type 0} (name : Word) (before : List (Item B)) (item : Item B) (after : List (Item B)) where
  split_by : (P : List Word → Marks → Type 0) (more : List (Item B))
      → P ((name ∷ item_words before) ++ item_words more) (followed (items_marks before) (behind_items more))
      → P (name ∷ item_words (before ++ more)) (items_marks (before ++ more))
  split_by P more h =
      subst (λ (words : List Word). P (name ∷ words) (items_marks (before ++ more))) (sym (words_append before more))
      (subst (P ((name ∷ item_words before) ++ item_words more)) (sym (marks_append quiet before more)) h)

  pub item_fails : (why : Stop) → AreMany after → IsQuiet (name ∷ item_words before) (items_marks before) false
      → FailsBy item.words item.part.marks why
      → FailsBy (name ∷ item_words (before ++ item ∷ after)) (items_marks (before ++ item ∷ after)) why
  item_fails stop.OutOfMemory many h k = tt
  item_fails (stop.Fault fault) many h k =
      split_by (λ words marks. Shows words marks fault) (item ∷ after)
      (shows_behind (name ∷ item_words before) (item_words (item ∷ after)) (items_marks before)
      (behind_items (item ∷ after)) fault h
      (shows_behind (item.before ∷ []) (item.words ++ item_words after) quiet
      (followed item.part.marks (behind_items after)) fault (quiet_word item.before)
      (shows_front item.words (item_words after) item.part.marks (behind_items after) fault (behind_many after many)
      k)))
  item_fails stop.Missing many h k = absurd k

  pub item_short : AreMany (item ∷ after) → IsQuiet (name ∷ item_words before) (items_marks before) true
      → FailsBy (name ∷ item_words (before ++ item ∷ after)) (items_marks (before ++ item ∷ after))
      (shown_in item.before.token.line (wrong WRONG_TYPE))
  item_short many h =
      split_by (λ words marks. Shows words marks (fault_in item.before.token.line (wrong WRONG_TYPE))) (item ∷ after)
      (shows_short (name ∷ item_words before) (item.words ++ item_words after) item.before (items_marks before)
      (followed item.part.marks (behind_items after))
      (and_then item.part.marks (behind_items after) many.0 (behind_many after many.1)) h)

pub item_quiet : {B : Type 0} (name : Word) (before : List (Item B)) (item : Item B) (is_short : Bool)
    → IsQuiet (name ∷ item_words before) (items_marks before) false → IsQuiet item.words item.part.marks is_short
    → IsQuiet (name ∷ item_words (before ++ item ∷ [])) (items_marks (before ++ item ∷ [])) is_short
item_quiet name before item is_short h k =
    split_by name before item [] (λ words marks. IsQuiet words marks is_short) (item ∷ [])
    (quiet_behind (name ∷ item_words before) (item_words (item ∷ [])) (items_marks before) (behind_items (item ∷ []))
    is_short h
    (quiet_behind (item.before ∷ []) (item.words ++ []) quiet (followed item.part.marks no_token) is_short
    (quiet_word item.before)
    (subst (λ (words : List Word). IsQuiet words (followed item.part.marks no_token) is_short)
    (sym (append-nil item.words)) (quiet_alone item.words item.part.marks is_short k))))

-- the whole, with the word that closes it
pub call_marks : {B : Type 0} (first : Item B) (items : List (Item B)) (faults : List Wrong)
    → joined (quiet ∷ quiet ∷ listed (map (λ item. item.part.marks) (first ∷ items)) ∷ shows faults ∷ [])
    ≡ closed_marks (items_marks (first ∷ items)) faults
call_marks first items faults =
    ap (λ (list : Marks). followed quiet (followed quiet (followed list (shows faults))))
    (listed_items first.part.marks items)
    ∙ ap (followed quiet) (grouped_marks quiet (followed first.part.marks (behind_items items)) (shows faults))
    ∙ grouped_marks quiet (behind_items (first ∷ items)) (shows faults)

module _ {C : Type 0} (words : List Word) (part : Marks) (closed : Word) (faults : List Wrong) (value : Option C) where
  pub closed_fails : (why : Stop) → FailsBy words part why
      → StopsBy (words ++ closed ∷ []) (judged (closed_marks part faults) value) why
  closed_fails stop.OutOfMemory h = tt
  closed_fails (stop.Fault fault) h =
      stops_within words (closed ∷ []) part (shows faults) value fault h.many h.first refl (omega arith)
  closed_fails stop.Missing h = absurd h

  lowest_behind : (is_short : Bool) (behind shown : List Wrong) → behind ≡ shown_behind is_short → shown ≡ []
      → lowest_of (behind ++ shown) ≡ refusal_behind is_short
  lowest_behind true behind shown is none =
      ap (λ (shown : List Wrong). lowest_of (behind ++ shown)) none
      ∙ ap (λ (behind : List Wrong). lowest_of (behind ++ [])) is
  lowest_behind false behind shown is none =
      ap (λ (shown : List Wrong). lowest_of (behind ++ shown)) none
      ∙ ap (λ (behind : List Wrong). lowest_of (behind ++ [])) is

  pub closed_ends : (is_short : Bool) (whole : C) (end : Ending) → end.is_short ≡ is_short → faults ≡ []
      → value ≡ Some whole → IsQuiet words part is_short
      → EndsAs (words ++ closed ∷ []) (judged (closed_marks part faults) value) whole
      (closed_end closed.token.line end)
  closed_ends is_short whole end at none is h = record {
    known = is;
    end = end_append words (closed ∷ []) part.tokens ((part.behind ++ faults) ∷ []) closed.token.line
        (refusal_behind end.is_short) h.still
        (refl, lowest_behind is_short part.behind faults h.behind none ∙ ap refusal_behind (sym at));
    behind = refl;
  }

  short_first : (is_short : Bool) (behind shown : List Wrong) → behind ≡ shown_behind is_short
      → shown ≡ wrong WRONG_TYPE ∷ []
      → first_fault (closed ∷ []) ((behind ++ shown) ∷ []) ≡ Some (fault_in closed.token.line (wrong WRONG_TYPE))
  short_first true behind shown is few =
      ap (λ (shown : List Wrong). first_fault (closed ∷ []) ((behind ++ shown) ∷ [])) few
      ∙ ap (λ (behind : List Wrong). first_fault (closed ∷ []) ((behind ++ wrong WRONG_TYPE ∷ []) ∷ [])) is
  short_first false behind shown is few =
      ap (λ (shown : List Wrong). first_fault (closed ∷ []) ((behind ++ shown) ∷ [])) few
      ∙ ap (λ (behind : List Wrong). first_fault (closed ∷ []) ((behind ++ wrong WRONG_TYPE ∷ []) ∷ [])) is

  -- too few of them
  pub few_shows : (is_short : Bool) → faults ≡ wrong WRONG_TYPE ∷ [] → IsQuiet words part is_short
      → Shows (words ++ closed ∷ []) (closed_marks part faults) (fault_in closed.token.line (wrong WRONG_TYPE))
  few_shows is_short few h = record {
    many = (and_then part (shows faults) (record { same = quiet_many words part.tokens h.still })
        (next_word closed faults no_token none)).same;
    first = behind_quiet words (closed ∷ []) part.tokens ((part.behind ++ faults) ∷ []) h.still
        ∙ short_first is_short part.behind faults h.behind few;
  }

  pub few_stops : (is_short : Bool) → faults ≡ wrong WRONG_TYPE ∷ [] → value ≡ None → IsQuiet words part is_short
      → StopsBy (words ++ closed ∷ []) (judged (closed_marks part faults) value)
      (shown_in closed.token.line (wrong WRONG_TYPE))
  few_stops is_short few unknown h =
      let shown = few_shows is_short few h in
      record {
        many = shown.many;
        first = λ more nothing. subst (λ (others : List Wrong).
            first_fault (words ++ closed ∷ []) (last_of others (closed_marks part faults).tokens)
            ≡ Some (fault_in closed.token.line (wrong WRONG_TYPE))) (sym (nothing unknown))
            (subst (λ (tokens : List (List Wrong)). first_fault (words ++ closed ∷ []) tokens
            ≡ Some (fault_in closed.token.line (wrong WRONG_TYPE)))
            (sym (last_of_nothing (closed_marks part faults).tokens)) shown.first);
      }
