-- Reading and writing: one item.
use Rattle.std.proofs.Common.{◌≡◌, refl, sym, ap, subst, ◌∙◌, ℕ, Bool, true, false, List, [], ◌∷◌, ◌++◌}
use Rattle.std.proofs.Common.{Option, Some, None, Ok, Err}
use Rattle.std.specs.Prelude.{◌&&◌, not, is_some, slice_get, if◌then◌else◌, option_and_then}
use Rattle.std.proofs.lemmas.List.{append-nil}
use Rattle.wb_base.specs.declared.faults.TheConstants.{WRONG_TYPE, READING_NUMBERS}
use Rattle.pas_tokens.specs.Cutting.{Wrong, wrong}
use Rattle.pas_tokens.specs.Tokens.{fault_in}
use Rattle.pas_syntax.specs.Parse.{left_out}
use Rattle.pas_syntax.specs.Tree as tree
use Rattle.pas_syntax.specs.Tree.{Behind, Expr}
use Rattle.pas_tokens.specs.declared.kinds.Kind.TheVariants as k
use Rattle.pas_syntax.specs.Words.{Word, at, words_if, width_words, expr_words}
use Rattle.pas_typed.specs.declared.typed.Passed as code_passed
use Rattle.pas_typed.specs.Types.{PasType, Table, integer, char, whole, text, row, same_type, component_of, is_of}
use Rattle.pas_typed.specs.Types.{are_compatible}
use Rattle.pas_typed.specs.Typed as typed
use Rattle.pas_typed.specs.Typed.{Value, Place}
use Rattle.pas_typed.specs.TypeOf.{type_of, type_of_place}
use Rattle.pas_typed.specs.TypedViews.{passed_view, passed_views}
use Rattle.pas_scopes.specs.declared.stop.Stop.{Stop}
use Rattle.pas_scopes.specs.declared.stop.Stop.TheVariants as stop
use Rattle.pas_rules.specs.Marks.{Marks, shows, first_of, followed, joined, unless, Judged, judged, both, checked}
use Rattle.pas_rules.specs.Marks.{first_fault}
use Rattle.pas_rules.specs.Scopes.{Scopes}
use Rattle.pas_rules.specs.Expressions.{Demand, bare, place_in, value_of}
use Rattle.pas_rules.specs.Calls.{is_call_by_name, read_demand, read_from_text, read_component, no_width}
use Rattle.pas_rules.specs.Calls.{width_of, actual_of, read_item}
use Rattle.pas_scopes.specs.Ends.{shown_behind, lower_of}
use Rattle.pas_scopes.specs.Stopping.{shown_in}
use Rattle.pas_scopes.specs.Answers.{Ending, EndsAs, StandsAs, FailsBy, noted_end, stands_by}
use Rattle.pas_scopes.specs.Answers.{Shows}
use Rattle.pas_types.specs.inner.Transfers.{width_refused, without_width_behind, place_by}
use Rattle.pas_rules.proofs.AsMany.{AsMany, all, and_then, next_word}
use Rattle.pas_scopes.proofs.EndLemmas.{behind_quiet, quiet_many, checked_refused}
use Rattle.pas_scopes.proofs.PartLemmas.{alone}
use Rattle.pas_scopes.proofs.AnswerLemmas.{checked_ends, checked_fails, checked_stands, fails_at}
use Rattle.pas_scopes.proofs.AnswerLemmas.{stands_lawful, stops_fails}
use Rattle.pas_scopes.proofs.ArgumentLemmas.{stands_quiet}
use Rattle.pas_scopes.proofs.SettleLemmas.{shows_front}
use Rattle.pas_rules.proofs.ExpressionsAsMany.{value_many}
use Rattle.pas_rules.proofs.CallsAsMany.{width_many}

-- the call of a function with arguments
pub first_passed : (passed : List code_passed.Passed) (first : code_passed.Passed) → Some first ≡ slice_get passed 0
    → (others : typed.Passed) × (passed_views passed ≡ passed_view first others)
first_passed [] first is = cc
first_passed (one ∷ more) first is =
    let same : one ≡ first = cc in
    (passed_views more, ap (λ (found : code_passed.Passed). passed_view found (passed_views more)) same)

pub none_passed : (passed : List code_passed.Passed) → None ≡ slice_get passed 0 → passed_views passed ≡ typed.nothing
none_passed [] is = refl
none_passed (one ∷ more) is = cc

-- what is read from a file
module _ (table : Table) (value : Value) where
  abbrev pub numbered : Bool
  numbered = is_of integer table (type_of value) && not (is_call_by_name value)

  abbrev pub fits : PasType → Bool
  fits component = is_some (place_in value) && are_compatible table component (type_of value)

  abbrev pub demanded_of : PasType → List Wrong
  demanded_of type =
      if same_type type text then read_from_text table value
      else read_component table (component_of table type) value

  by_number : (number read : Bool) → numbered ≡ number
      → (is_some (place_in value) && is_of char table (type_of value)) ≡ read
      → read_from_text table value ≡ if number then left_out READING_NUMBERS ∷ [] else unless read (wrong WRONG_TYPE)
  by_number number read is fit =
      ap (λ (n : Bool). if n then left_out READING_NUMBERS ∷ [] else unless (is_some (place_in value)
      && is_of char table (type_of value)) (wrong WRONG_TYPE)) is
      ∙ ap (λ (r : Bool). if number then left_out READING_NUMBERS ∷ [] else unless r (wrong WRONG_TYPE)) fit

  by_component : (component : Option PasType) (read : Bool) → is_some component ≡ true
      → ((found : PasType) → component ≡ Some found → read ≡ fits found)
      → read_component table component value ≡ unless read (wrong WRONG_TYPE)
  by_component None read some fit = cc
  by_component (Some found) read some fit = ap (λ (r : Bool). unless r (wrong WRONG_TYPE)) (sym (fit found refl))

  pub demanded_is : (type : PasType) (left read : Bool) → is_some (component_of table type) ≡ true
      → left ≡ (same_type type text && numbered)
      → ((found : PasType) → component_of table type ≡ Some found → read ≡ fits found)
      → demanded_of type ≡ if left then left_out READING_NUMBERS ∷ [] else unless read (wrong WRONG_TYPE)
  demanded_is text left read some is fit = by_number left read (sym is) (sym (fit (whole char) refl))
  demanded_is (whole base) left read some is fit =
      by_component (component_of table (whole base)) read some fit
      ∙ ap (λ (l : Bool). if l then left_out READING_NUMBERS ∷ [] else unless read (wrong WRONG_TYPE)) (sym is)
  demanded_is (row number) left read some is fit =
      by_component (component_of table (row number)) read some fit
      ∙ ap (λ (l : Bool). if l then left_out READING_NUMBERS ∷ [] else unless read (wrong WRONG_TYPE)) (sym is)

  pub read_is : (place : Place) (type : PasType) → type_of_place place ≡ type
      → read_demand table (Some place) value ≡ demanded_of type
  read_is place type at = ap demanded_of at

  -- what is read is a place
  met_first : (one other : Bool) → unless (one && other) (wrong WRONG_TYPE) ≡ [] → one ≡ true
  met_first true other h = refl
  met_first false other h = cc

  text_placed : (number : Bool) → (if number then left_out READING_NUMBERS ∷ [] else unless (is_some (place_in value)
      && is_of char table (type_of value)) (wrong WRONG_TYPE)) ≡ [] → is_some (place_in value) ≡ true
  text_placed true h = cc
  text_placed false h = met_first (is_some (place_in value)) (is_of char table (type_of value)) h

  component_placed : (component : Option PasType) → is_some component ≡ true
      → read_component table component value ≡ [] → is_some (place_in value) ≡ true
  component_placed None some h = cc
  component_placed (Some found) some h =
      met_first (is_some (place_in value)) (are_compatible table found (type_of value)) h

  pub read_placed : (type : PasType) → is_some (component_of table type) ≡ true → demanded_of type ≡ []
      → is_some (place_in value) ≡ true
  read_placed text some h = text_placed numbered h
  read_placed (whole base) some h = component_placed (component_of table (whole base)) some h
  read_placed (row number) some h = component_placed (component_of table (row number)) some h

-- a place of which the value meets a demand, or not
module _ (words : List Word) (demand : Demand) (part : Judged Value) (value : Value) (end : Ending)
    (h : EndsAs words part value end) where
  pub place_refused : (found : Wrong) → demand value ≡ found ∷ []
      → FailsBy words (place_by demand part).marks (shown_in end.line (lower_of end.refusal found))
  place_refused found is =
      stops_fails words (checked demand part) (shown_in end.line (lower_of end.refusal found))
      (checked_refused words demand part value end.line end.refusal end.is_short found is h)

  pub place_fails : (why : Stop) → demand value ≡ [] → Err why ≡ stands_by end
      → FailsBy words (place_by demand part).marks why
  place_fails why fine is =
      fails_at words (checked demand part) value end.line end.refusal end.is_short why is
      (checked_ends words demand part value end fine h)

  pub place_stands : (place : Place) → demand value ≡ [] → Ok tt ≡ stands_by end → value ≡ typed.read place
      → StandsAs words (place_by demand part) place end
  place_stands place fine is read =
      let ends = checked_ends words demand part value end fine h in
      record {
        lawful = stands_lawful words part end.line end.refusal is;
        ends = record {
          known = ap (option_and_then place_in) ends.known ∙ ap place_in read;
          end = ends.end;
          behind = ends.behind;
        };
      }

-- a value that meets a demand, or not
module _ (words : List Word) (demand : Demand) (part : Judged Value) (value other : Value) (end last : Ending)
    (holds : Bool) (fine : demand value ≡ unless holds (wrong WRONG_TYPE)) (same : other ≡ value)
    (at : last ≡ noted_end holds WRONG_TYPE end) (h : EndsAs words part value end) where
  pub noted_fails : (why : Stop) → Err why ≡ stands_by last → FailsBy words (checked demand part).marks why
  noted_fails why is =
      checked_fails words demand part value end WRONG_TYPE holds why fine (is ∙ ap stands_by at) h

  pub noted_stands : Ok tt ≡ stands_by last → StandsAs words (checked demand part) other last
  noted_stands is =
      subst (λ (e : Ending). StandsAs words (checked demand part) other e) (sym at)
      (subst (λ (v : Value). StandsAs words (checked demand part) v (noted_end holds WRONG_TYPE end)) (sym same)
      (checked_stands words demand part value end WRONG_TYPE holds fine (is ∙ ap stands_by at) h))

-- a width behind a part
pub same_value : {A B : Type 0} (value : Option A) (nothing : B)
    → both (λ value nothing. value) value (Some nothing) ≡ value
same_value None nothing = refl
same_value (Some value) nothing = refl

module _ {A : Type 0} (scopes : Scopes) (n : ℕ) (words : List Word) (part : Judged A) where
  abbrev pub widened : Option (Behind Expr) → Judged A
  widened width = without_width_behind part (width_of scopes width)

  abbrev pub widened_words : Option (Behind Expr) → List Word
  widened_words width = words ++ words_if (width_words n) width

  pub widened_fails : (width : Option (Behind Expr)) (why : Stop) → FailsBy words part.marks why
      → FailsBy (widened_words width) (widened width).marks why
  widened_fails width stop.OutOfMemory h = tt
  widened_fails width (stop.Fault fault) h =
      let behind : Marks = (no_width (width_of scopes width)).marks in
      shows_front words (words_if (width_words n) width) part.marks (joined (behind ∷ [])) fault
      (all behind (width_many scopes n width)) h
  widened_fails width stop.Missing h = absurd h

  colon_first : (line : ℕ) (word : Word) (more : List Word) (is_short : Bool) (behind : List Wrong)
      (tokens : List (List Wrong)) → behind ≡ shown_behind is_short
      → first_fault (word ∷ more) ((behind ++ wrong WRONG_TYPE ∷ []) ∷ tokens)
      ≡ Some (fault_in word.token.line (wrong WRONG_TYPE))
  colon_first line word more true behind tokens is =
      ap (λ (b : List Wrong). first_fault (word ∷ more) ((b ++ wrong WRONG_TYPE ∷ []) ∷ tokens)) is
  colon_first line word more false behind tokens is =
      ap (λ (b : List Wrong). first_fault (word ∷ more) ((b ++ wrong WRONG_TYPE ∷ []) ∷ tokens)) is

  pub width_fails : (width : Option (Behind Expr)) (value : A) (end : Ending) (why : Stop)
      → StandsAs words part value end → Err why ≡ width_refused width
      → FailsBy (widened_words width) (widened width).marks why
  width_fails None value end why h is = cc
  width_fails (Some width) value end why h is =
      let same : shown_in width.line (wrong WRONG_TYPE) ≡ why = cc in
      let colon : Word = at n k.Colon width.line in
      let more : List Word = expr_words n 0 width.item in
      let rest : Marks = joined ((value_of scopes width.item).marks ∷ []) in
      let behind : Marks = followed (shows (wrong WRONG_TYPE ∷ [])) rest in
      let quiet = stands_quiet words part value end h in
      let many : AsMany (colon ∷ more) behind = next_word colon (wrong WRONG_TYPE ∷ []) rest
      (all (value_of scopes width.item).marks (value_many scopes n 0 width.item)) in
      subst (FailsBy (widened_words (Some width)) (widened (Some width)).marks) same
      (subst (λ (marks : Marks). Shows (words ++ colon ∷ more) (followed part.marks marks)
      (fault_in width.line (wrong WRONG_TYPE))) (sym (alone behind))
      record {
        many = (and_then part.marks behind
            (record { same = quiet_many words part.marks.tokens quiet.still }) many).same;
        first = behind_quiet words (colon ∷ more) part.marks.tokens
            ((part.marks.behind ++ wrong WRONG_TYPE ∷ []) ∷ (first_of [] rest.behind rest.tokens).tokens) quiet.still
            ∙ colon_first width.line colon more end.is_short part.marks.behind
            (first_of [] rest.behind rest.tokens).tokens quiet.behind;
      })

  pub width_stands : (width : Option (Behind Expr)) (value : A) (end : Ending) → StandsAs words part value end
      → Ok tt ≡ width_refused width → StandsAs (widened_words width) (widened width) value end
  width_stands None value end h is =
      subst (λ (all : List Word). StandsAs all (widened None) value end) (sym (append-nil words))
      (subst (λ (marks : Marks). StandsAs words (judged marks (both (λ value nothing. value) part.value (Some bare)))
      value end) (sym (alone part.marks))
      record {
        lawful = h.lawful;
        ends = record { known = same_value part.value bare ∙ h.ends.known; end = h.ends.end; behind = h.ends.behind };
      })
  width_stands (Some width) value end h is = cc

-- an item that is read
no_second : (B : Type 0) (place : Option Place) → None ≡ both (λ value (nothing : B). value) place None
no_second B None = refl
no_second B (Some place) = refl

placed_both : {B : Type 0} (value : Option Value) (nothing : Option B)
    → option_and_then place_in (both (λ value nothing. value) value nothing)
    ≡ both (λ value nothing. value) (option_and_then place_in value) nothing
placed_both None nothing = refl
placed_both {B = B} (Some value) None = no_second B (place_in value)
placed_both (Some value) (Some nothing) = sym (same_value (place_in value) nothing)

pub read_seen : (scopes : Scopes) (table : Table) (file : Option Place) (argument : tree.Argument)
    → read_item table file (actual_of scopes argument)
    ≡ without_width_behind (place_by (read_demand table file) (value_of scopes argument.value))
    (width_of scopes argument.width)
read_seen scopes table file argument =
    let part : Judged Value = checked (read_demand table file) (value_of scopes argument.value) in
    let behind = no_width (width_of scopes argument.width) in
    ap (judged (joined (part.marks ∷ behind.marks ∷ []))) (placed_both part.value behind.value)
