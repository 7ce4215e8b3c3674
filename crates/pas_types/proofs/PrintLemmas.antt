-- An item that is written on a text: a value, and its width.
use Rattle.std.proofs.Common.{◌≡◌, refl, sym, ap, subst, ◌∙◌, ℕ, false, List, [], ◌∷◌, ◌++◌}
use Rattle.std.proofs.Common.{Option, Some, None, Result, Err}
use Rattle.std.proofs.lemmas.List.{append-nil}
use Rattle.wb_base.specs.declared.faults.TheConstants.{WRONG_TYPE}
use Rattle.pas_tokens.specs.declared.kinds.Kind.TheVariants as k
use Rattle.pas_tokens.specs.Cutting.{wrong}
use Rattle.pas_tokens.specs.Tokens.{fault_in}
use Rattle.pas_syntax.specs.Tree as tree
use Rattle.pas_syntax.specs.Tree.{Behind, Expr}
use Rattle.pas_syntax.specs.Words.{Word, at, text_at, words_if, width_words, expr_words, argument_words}
use Rattle.pas_typed.specs.Types.{Table, integer}
use Rattle.pas_typed.specs.Typed as typed
use Rattle.pas_typed.specs.Typed.{Value, Item}
use Rattle.pas_typed.specs.Texts.{undoubled}
use Rattle.pas_scopes.specs.declared.stop.Stop.{Stop}
use Rattle.pas_scopes.specs.declared.stop.Stop.TheVariants as stop
use Rattle.pas_scopes.specs.declared.judged.Judged.{Judged as CodeJudged}
use Rattle.pas_rules.specs.Marks.{Marks, quiet, followed, joined, Judged, judged, means, both, checked, known}
use Rattle.pas_rules.specs.Scopes.{Scopes}
use Rattle.pas_rules.specs.Expressions.{only, value_of}
use Rattle.pas_rules.specs.Calls.{Actual, actual_of, text_in, width_of, width_value, item_on_text}
use Rattle.pas_scopes.specs.Stopping.{found_before}
use Rattle.pas_types.specs.inner.Transfers.{item_written, text_alone, string_written}
use Rattle.pas_scopes.specs.Answers.{Ending, lawful_end, settled_by, EndsAs, Stands, StandsAs, FailsBy, Shows}
use Rattle.pas_scopes.specs.Answers.{IsQuiet}
use Rattle.pas_rules.proofs.AsMany.{AsMany, all, checked_many, next_word}
use Rattle.pas_scopes.proofs.EndLemmas.{ends_behind}
use Rattle.pas_scopes.proofs.PartLemmas.{alone}
use Rattle.pas_scopes.proofs.AnswerLemmas.{behind_word_ends, word_means}
use Rattle.pas_scopes.proofs.SettleLemmas.{shows_front, shows_behind, shows_short, quiet_word}
use Rattle.pas_scopes.proofs.ArgumentLemmas.{stands_quiet}
use Rattle.pas_scopes.proofs.CallAnswers.{unsettled_is}
use Rattle.pas_rules.proofs.ExpressionsAsMany.{value_many}

module _ {A : Type 0} (scopes : Scopes) (n : ℕ) (words : List Word) (part : Judged A)
    (make : A → Option Value → Item) where
  abbrev table : Table
  table = scopes.outer.types

  abbrev printed_by : Judged (Option Value) → Judged Item
  printed_by next =
      judged (joined (part.marks ∷ next.marks ∷ [])) (both make part.value next.value)

  abbrev pub printed : Option (Behind Expr) → Judged Item
  printed width = printed_by (width_value table (width_of scopes width))

  abbrev pub printed_words : Option (Behind Expr) → List Word
  printed_words width = words ++ words_if (width_words n) width

  module _ (width : Behind Expr) where
    abbrev colon : Word
    colon = at n k.Colon width.line

    abbrev more : List Word
    more = expr_words n 0 width.item

    abbrev pub given : Judged Value
    given = checked (only integer table) (value_of scopes width.item)

    abbrev behind : Marks
    behind = joined (quiet ∷ given.marks ∷ [])

    given_many : AsMany more (joined (given.marks ∷ []))
    given_many =
        all given.marks
        (checked_many (only integer table) (value_of scopes width.item) (value_many scopes n 0 width.item))

    behind_many : AsMany (colon ∷ more) (joined (behind ∷ []))
    behind_many = all behind (next_word colon [] (joined (given.marks ∷ [])) given_many)

    whole_by : (P : Marks → Type 0) → P (followed part.marks behind) → P (printed (Some width)).marks
    whole_by P h = subst (λ (marks : Marks). P (followed part.marks marks)) (sym (alone behind)) h

    pub printed_unsettled : {X : Type 0} (value : A) (end : Ending) (why : Stop) → StandsAs words part value end
        → (x : X) → Err why ≡ found_before width.line (settled_by end x)
        → FailsBy (printed_words (Some width)) (printed (Some width)).marks why
    printed_unsettled value end why h x is =
        let short = unsettled_is end.line width.line end.refusal end.is_short x why h.lawful is in
        subst (FailsBy (printed_words (Some width)) (printed (Some width)).marks) (sym short.1)
        (whole_by (λ marks. Shows (words ++ colon ∷ more) marks (fault_in width.line (wrong WRONG_TYPE)))
        (shows_short words more colon part.marks (joined (given.marks ∷ [])) given_many
        (subst (IsQuiet words part.marks) short.0 (stands_quiet words part value end h))))

    pub printed_width : (value : A) (end : Ending) (why : Stop) → StandsAs words part value end
        → end.is_short ≡ false → FailsBy more given.marks why
        → FailsBy (printed_words (Some width)) (printed (Some width)).marks why
    printed_width value end stop.OutOfMemory h whole k = tt
    printed_width value end (stop.Fault fault) h whole k =
        whole_by (λ marks. Shows (words ++ colon ∷ more) marks fault)
        (shows_behind words (colon ∷ more) part.marks behind fault
        (subst (IsQuiet words part.marks) whole (stands_quiet words part value end h))
        (shows_behind (colon ∷ []) more quiet (joined (given.marks ∷ [])) fault (quiet_word colon)
        (subst (λ (marks : Marks). Shows more marks fault) (sym (alone given.marks)) k)))
    printed_width value end stop.Missing h whole k = absurd k

    pub printed_stands : (value : A) (other : Value) (end last : Ending) → StandsAs words part value end
        → end.is_short ≡ false → StandsAs more given other last
        → StandsAs (printed_words (Some width)) (printed (Some width)) (make value (Some other)) last
    printed_stands value other end last h whole k =
        let still = subst (IsQuiet words part.marks) whole (stands_quiet words part value end h) in
        let next : Judged (Option Value) = judged behind (known Some given.value) in
        let ends = behind_word_ends more colon Some given other last k.ends in
        record {
          lawful = k.lawful;
          ends = whole_by (λ marks. EndsAs (words ++ colon ∷ more) (judged marks (both make part.value
              (known Some given.value))) (make value (Some other)) last)
              (ends_behind words (colon ∷ more) part.marks next (Some other)
              (both make part.value (known Some given.value)) (make value (Some other)) last.line
              last.refusal last.is_short still.still still.behind ends
              (ap (λ found. both make found (known Some given.value)) h.ends.known
              ∙ ap (both make (Some value)) (ap (known Some) k.ends.known)));
        }

  pub printed_fails : (width : Option (Behind Expr)) (why : Stop) → FailsBy words part.marks why
      → FailsBy (printed_words width) (printed width).marks why
  printed_fails width stop.OutOfMemory h = tt
  printed_fails None (stop.Fault fault) h =
      subst (λ (all : List Word). Shows all (printed None).marks fault) (sym (append-nil words))
      (subst (λ (marks : Marks). Shows words marks fault) (sym (alone part.marks)) h)
  printed_fails (Some width) (stop.Fault fault) h =
      shows_front words (colon width ∷ more width) part.marks (joined (behind width ∷ [])) fault (behind_many width) h
  printed_fails width stop.Missing h = absurd h

  pub printed_alone : (value : A) (end : Ending) → StandsAs words part value end
      → StandsAs (printed_words None) (printed None) (make value None) end
  printed_alone value end h =
      subst (λ (all : List Word). StandsAs all (printed None) (make value None) end) (sym (append-nil words))
      (subst (λ (marks : Marks). StandsAs words (judged marks (both make part.value (Some None)))
      (make value None) end) (sym (alone part.marks))
      record {
        lawful = h.lawful;
        ends = record {
          known = ap (λ found. both make found (Some None)) h.ends.known;
          end = h.ends.end;
          behind = h.ends.behind;
        };
      })

-- a string that is written as one, and its width
string_by : (bytes : List ℕ) (width : Option (Option Value))
    → both (λ (nothing : Unit {0}) width. typed.string_item bytes width) (Some (tt {0})) width
    ≡ known (typed.string_item bytes) width
string_by bytes None = refl
string_by bytes (Some width) = refl

pub string_seen : (scopes : Scopes) (n : ℕ) (words : List Word) (bytes : List ℕ) (width : Option (Behind Expr))
    → printed scopes n words (means (tt {0})) (λ nothing width. typed.string_item bytes width) width
    ≡ string_written scopes.outer.types bytes (width_of scopes width)
string_seen scopes n words bytes width =
    let found = width_value scopes.outer.types (width_of scopes width) in
    ap (judged (joined (quiet ∷ found.marks ∷ []))) (string_by bytes found.value)

module _ (scopes : Scopes) (n : ℕ) (word : Word) (bytes : List ℕ) where
  abbrev make : Unit {0} → Option Value → Item
  make nothing width = typed.string_item bytes width

  abbrev pub string_words : Option (Behind Expr) → List Word
  string_words width = word ∷ words_if (width_words n) width

  abbrev pub string_part : Option (Behind Expr) → Judged Item
  string_part width = string_written scopes.outer.types bytes (width_of scopes width)

  stands : StandsAs (word ∷ []) (means (tt {0})) (tt {0}) (lawful_end word.token.line)
  stands = record { lawful = refl; ends = word_means word (tt {0}) }

  pub string_fails : (width : Behind Expr) (why : Stop)
      → FailsBy (expr_words n 0 width.item) (checked (only integer scopes.outer.types)
      (value_of scopes width.item)).marks why
      → FailsBy (string_words (Some width)) (string_part (Some width)).marks why
  string_fails width why h =
      subst (λ (part : Judged Item). FailsBy (string_words (Some width)) part.marks why)
      (string_seen scopes n (word ∷ []) bytes (Some width))
      (printed_width scopes n (word ∷ []) (means (tt {0})) make width (tt {0}) (lawful_end word.token.line) why stands
      refl h)

  pub string_stands : (width : Behind Expr) (other : Value) (last : Ending)
      → StandsAs (expr_words n 0 width.item) (checked (only integer scopes.outer.types)
      (value_of scopes width.item)) other last
      → StandsAs (string_words (Some width)) (string_part (Some width)) (typed.string_item bytes (Some other)) last
  string_stands width other last h =
      subst (λ (part : Judged Item). StandsAs (string_words (Some width)) part
      (typed.string_item bytes (Some other)) last) (string_seen scopes n (word ∷ []) bytes (Some width))
      (printed_stands scopes n (word ∷ []) (means (tt {0})) make width (tt {0}) other (lawful_end word.token.line) last
      stands refl h)

  pub string_alone : StandsAs (string_words None) (string_part None) (typed.string_item bytes None)
      (lawful_end word.token.line)
  string_alone =
      subst (λ (part : Judged Item). StandsAs (string_words None) part (typed.string_item bytes None)
      (lawful_end word.token.line)) (string_seen scopes n (word ∷ []) bytes None)
      (printed_alone scopes n (word ∷ []) (means (tt {0})) make (tt {0}) (lawful_end word.token.line) stands)

-- an argument that is a string by itself
pub string_argument : {X : Type 0} (scopes : Scopes) (n : ℕ) (argument : tree.Argument) (quoted : tree.Quoted)
    → argument.value ≡ text_alone quoted → text_in argument.value ≡ Some (undoubled quoted.text) → (view : X → Item)
    → (result : Result (CodeJudged X) Stop)
    → Stands (string_words scopes n (text_at n quoted) (undoubled quoted.text) argument.width)
    (string_part scopes n (text_at n quoted) (undoubled quoted.text) argument.width) view result
    → Stands (argument_words n argument) (item_written scopes.outer.types (actual_of scopes argument)) view result
string_argument scopes n argument quoted is at view result h =
    let actual : Actual = actual_of scopes argument in
    let table : Table = scopes.outer.types in
    subst (λ (value : Expr). Stands (expr_words n 0 value ++ words_if (width_words n) argument.width)
    (item_written table actual) view result) (sym is)
    (subst (λ (text : Option (List ℕ)). Stands (text_at n quoted ∷ words_if (width_words n) argument.width)
    (item_on_text table actual text) view result) (sym at) h)

pub other_argument : {X : Type 0} (scopes : Scopes) (n : ℕ) (argument : tree.Argument)
    → text_in argument.value ≡ None → (view : X → Item) → (result : Result (CodeJudged X) Stop)
    → Stands (argument_words n argument) (item_on_text scopes.outer.types (actual_of scopes argument) None) view result
    → Stands (argument_words n argument) (item_written scopes.outer.types (actual_of scopes argument)) view result
other_argument scopes n argument at view result h =
    subst (λ (text : Option (List ℕ)). Stands (argument_words n argument)
    (item_on_text scopes.outer.types (actual_of scopes argument) text) view result) (sym at) h
