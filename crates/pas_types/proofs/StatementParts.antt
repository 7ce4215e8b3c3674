-- What is answered of a statement, by what was answered of its parts.
use Rattle.std.proofs.Common.{◌≡◌, refl, sym, subst, ℕ, ◌+◌, false, List, [], ◌∷◌, ◌++◌}
use Rattle.std.proofs.Common.{Option, Some, Result, Ok, Err}
use Rattle.pas_tokens.specs.declared.kinds.Kind.TheVariants as kind
use Rattle.pas_tokens.specs.Cutting.{Wrong}
use Rattle.pas_syntax.specs.declared.operators.Way.{Way}
use Rattle.pas_syntax.specs.Tree as tree
use Rattle.pas_syntax.specs.Tree.{Ident, Numeral, Lined, Expr, Plain, Statement, Statements}
use Rattle.pas_syntax.specs.Words.{Word, at, name_at, way_kind, expr_words, plain_words, statement_words}
use Rattle.pas_syntax.specs.Words.{number_at, statements_words}
use Rattle.pas_typed.specs.Typed as typed
use Rattle.pas_typed.specs.Typed.{Slot, Value}
use Rattle.pas_scopes.specs.declared.stop.Stop.{Stop}
use Rattle.pas_rules.specs.Marks.{Marks, no_token, quiet, followed, joined, Judged, judged}
use Rattle.pas_rules.specs.Marks.{shows, checked, lowest}
use Rattle.pas_rules.specs.Scopes.{Scopes, entity_of}
use Rattle.pas_rules.specs.Labels.{Spot, elsewhere, label_faults, labels_at, labels_of_list}
use Rattle.pas_rules.specs.Expressions.{value_of}
use Rattle.pas_rules.specs.Statements.{test_of, plain_of, statement_of, statements_of, list_of, for_variable, fits_slot}
use Rattle.pas_scopes.specs.Ends.{lowest_of}
use Rattle.pas_scopes.specs.Stopping.{shown_in}
use Rattle.pas_scopes.specs.Answers.{stands_at, IsQuiet, Means, ShowsBy, Settles}
use Rattle.pas_types.specs.inner.FlowViews.{ShowsBefore}
use Rattle.pas_rules.proofs.AsMany.{AsMany, all, and_then, next_word, checked_many, none}
use Rattle.pas_rules.proofs.AsMany.{around as between_words, one as one_word}
use Rattle.pas_rules.proofs.ExpressionsAsMany.{value_many}
use Rattle.pas_rules.proofs.StatementsAsMany.{plain_many, statement_many, test_many}
use Rattle.pas_scopes.proofs.SettleLemmas.{quiet_alone, shows_alone, nothing_shown, quiet_behind, shows_by_behind}
use Rattle.pas_types.proofs.ChainLemmas.{made_of, made_of_both, made_of_three, made_of_four, word_shows, word_quiet}
use Rattle.pas_types.proofs.ChainLemmas.{before_shows, behind_shows, behind_quiet, guard_shows, guarded_shows}
use Rattle.pas_types.proofs.ChainLemmas.{guarded_quiet}

module _ (scopes : Scopes) (around before : List ℕ) (n : ℕ) where
  -- a compound
  module _ (begin : ℕ) (list : Statements) (end : ℕ) where
    abbrev inside : Judged typed.Statements
    inside = statements_of scopes (labels_of_list list ++ around) before list

    abbrev inside_words : List Word
    inside_words = statements_words (n + 1) list

    pub compound_stops : (why : Stop) → ShowsBefore end inside_words inside.marks why
        → ShowsBy (plain_words n (tree.compound begin list end))
        (plain_of scopes around before (tree.compound begin list end)).marks why
    compound_stops why h =
        guard_shows (at (n + 1) kind.Begin begin) (at (n + 1) kind.End end)
        inside_words [] inside.marks no_token none why h

    pub compound_means : (found : typed.Statements) → Means inside_words inside found
        → Means (plain_words n (tree.compound begin list end))
        (plain_of scopes around before (tree.compound begin list end)) (typed.compound found)
    compound_means found h = record {
      known = made_of (λ list. typed.compound list) inside.value found h.known;
      quiet = guarded_quiet (at (n + 1) kind.Begin begin) (at (n + 1) kind.End end)
          inside_words [] inside.marks no_token
          h.quiet false nothing_shown;
    }

  -- an `if`, and a `while`
  module _ (line : ℕ) (e : Expr) (behind : ℕ) (s : Statement) where
    abbrev test : Judged Value
    test = test_of scopes e

    abbrev test_words : List Word
    test_words = expr_words (n + 1) 0 e

    abbrev part : Judged typed.Statement
    part = statement_of scopes elsewhere around before s

    abbrev part_words : List Word
    part_words = statement_words (n + 1) s

    part_many : AsMany part_words (joined (part.marks ∷ []))
    part_many = all part.marks (statement_many scopes (n + 1) elsewhere around before s)

    pub if_stops : (why : Stop) → ShowsBefore behind test_words test.marks why
        → ShowsBy (plain_words n (tree.if_then line e behind s))
        (plain_of scopes around before (tree.if_then line e behind s)).marks why
    if_stops why h =
        guard_shows (at (n + 1) kind.If line) (at (n + 1) kind.Then behind) test_words part_words test.marks
        (joined (part.marks ∷ [])) part_many why h

    pub if_part_stops : (value : Value) (why : Stop) → Means test_words test value → ShowsBy part_words part.marks why
        → ShowsBy (plain_words n (tree.if_then line e behind s))
        (plain_of scopes around before (tree.if_then line e behind s)).marks why
    if_part_stops value why h k =
        guarded_shows (at (n + 1) kind.If line) (at (n + 1) kind.Then behind) test_words part_words test.marks
        (joined (part.marks ∷ [])) h.quiet why (shows_alone part_words part.marks why k)

    pub if_means : (value : Value) (found : typed.Statement) → Means test_words test value
        → Means part_words part found
        → Means (plain_words n (tree.if_then line e behind s))
        (plain_of scopes around before (tree.if_then line e behind s)) (typed.if_then value found)
    if_means value found h k = record {
      known = made_of_both (λ value found. typed.if_then value found) test.value part.value value found h.known k.known;
      quiet = guarded_quiet (at (n + 1) kind.If line) (at (n + 1) kind.Then behind) test_words part_words test.marks
          (joined (part.marks ∷ [])) h.quiet false (quiet_alone part_words part.marks false k.quiet);
    }

    pub while_stops : (why : Stop) → ShowsBefore behind test_words test.marks why
        → ShowsBy (plain_words n (tree.while line e behind s))
        (plain_of scopes around before (tree.while line e behind s)).marks why
    while_stops why h =
        guard_shows (at (n + 1) kind.While line) (at (n + 1) kind.Do behind) test_words part_words test.marks
        (joined (part.marks ∷ [])) part_many why h

    pub while_part_stops : (value : Value) (why : Stop) → Means test_words test value
        → ShowsBy part_words part.marks why
        → ShowsBy (plain_words n (tree.while line e behind s))
        (plain_of scopes around before (tree.while line e behind s)).marks why
    while_part_stops value why h k =
        guarded_shows (at (n + 1) kind.While line) (at (n + 1) kind.Do behind) test_words part_words test.marks
        (joined (part.marks ∷ [])) h.quiet why (shows_alone part_words part.marks why k)

    pub while_means : (value : Value) (found : typed.Statement) → Means test_words test value
        → Means part_words part found
        → Means (plain_words n (tree.while line e behind s))
        (plain_of scopes around before (tree.while line e behind s)) (typed.while value (list_of found))
    while_means value found h k = record {
      known = made_of_both (λ value found. typed.while value (list_of found)) test.value part.value value found h.known
          k.known;
      quiet = guarded_quiet (at (n + 1) kind.While line) (at (n + 1) kind.Do behind) test_words part_words test.marks
          (joined (part.marks ∷ [])) h.quiet false (quiet_alone part_words part.marks false k.quiet);
    }

  -- an `if` with `else`
  module _ (line : ℕ) (e : Expr) (behind : ℕ) (s : Statement) (else_line : ℕ) (t : Statement) where
    abbrev choice : Plain
    choice = tree.if_else line e behind s else_line t

    abbrev one : Judged typed.Statement
    one = statement_of scopes elsewhere around before s

    abbrev one_words : List Word
    one_words = statement_words (n + 1) s

    abbrev other : Judged typed.Statement
    other = statement_of scopes elsewhere around (before ++ labels_at s) t

    abbrev other_words : List Word
    other_words = statement_words (n + 1) t

    other_many : AsMany other_words (joined (other.marks ∷ []))
    other_many = all other.marks (statement_many scopes (n + 1) elsewhere around (before ++ labels_at s) t)

    both_many : AsMany (one_words ++ at (n + 1) kind.Else else_line ∷ other_words)
        (joined (one.marks ∷ quiet ∷ other.marks ∷ []))
    both_many =
        between_words (at (n + 1) kind.Else else_line) one.marks other.marks
        (statement_many scopes (n + 1) elsewhere around before s)
        (statement_many scopes (n + 1) elsewhere around (before ++ labels_at s) t)

    pub choice_stops : (why : Stop) → ShowsBefore behind (test_words line e behind s) (test line e behind s).marks why
        → ShowsBy (plain_words n choice) (plain_of scopes around before choice).marks why
    choice_stops why h =
        guard_shows (at (n + 1) kind.If line) (at (n + 1) kind.Then behind) (test_words line e behind s)
        (one_words ++ at (n + 1) kind.Else else_line ∷ other_words) (test line e behind s).marks
        (joined (one.marks ∷ quiet ∷ other.marks ∷ [])) both_many why h

    pub choice_one_stops : (value : Value) (why : Stop) → Means (test_words line e behind s) (test line e behind s)
        value
        → ShowsBefore else_line one_words one.marks why
        → ShowsBy (plain_words n choice) (plain_of scopes around before choice).marks why
    choice_one_stops value why h k =
        guarded_shows (at (n + 1) kind.If line) (at (n + 1) kind.Then behind) (test_words line e behind s)
        (one_words ++ at (n + 1) kind.Else else_line ∷ other_words) (test line e behind s).marks
        (joined (one.marks ∷ quiet ∷ other.marks ∷ [])) h.quiet why
        (before_shows one_words other_words (at (n + 1) kind.Else else_line) one.marks (joined (other.marks ∷ []))
        other_many
        why k)

    pub choice_other_stops : (value : Value) (found : typed.Statement) (why : Stop)
        → Means (test_words line e behind s) (test line e behind s) value → Means one_words one found
        → ShowsBy other_words other.marks why
        → ShowsBy (plain_words n choice) (plain_of scopes around before choice).marks why
    choice_other_stops value found why h k l =
        guarded_shows (at (n + 1) kind.If line) (at (n + 1) kind.Then behind) (test_words line e behind s)
        (one_words ++ at (n + 1) kind.Else else_line ∷ other_words) (test line e behind s).marks
        (joined (one.marks ∷ quiet ∷ other.marks ∷ [])) h.quiet why
        (behind_shows one_words other_words (at (n + 1) kind.Else else_line) one.marks (joined (other.marks ∷ []))
        k.quiet
        why (shows_alone other_words other.marks why l))

    pub choice_means : (value : Value) (found last : typed.Statement)
        → Means (test_words line e behind s) (test line e behind s) value → Means one_words one found
        → Means other_words other last
        → Means (plain_words n choice) (plain_of scopes around before choice) (typed.if_else value found last)
    choice_means value found last h k l = record {
      known = made_of_three (λ value found last. typed.if_else value found last) (test line e behind s).value one.value
          other.value value found last h.known k.known l.known;
      quiet = guarded_quiet (at (n + 1) kind.If line) (at (n + 1) kind.Then behind) (test_words line e behind s)
          (one_words ++ at (n + 1) kind.Else else_line ∷ other_words) (test line e behind s).marks
          (joined (one.marks ∷ quiet ∷ other.marks ∷ [])) h.quiet false
          (behind_quiet one_words other_words (at (n + 1) kind.Else else_line) one.marks (joined (other.marks ∷ []))
          k.quiet
          false (quiet_alone other_words other.marks false l.quiet));
    }

  -- a `repeat`
  module _ (line : ℕ) (list : Statements) (until : ℕ) (e : Expr) where
    abbrev looped : Plain
    looped = tree.repeat line list until e

    abbrev body : Judged typed.Statements
    body = statements_of scopes (labels_of_list list ++ around) before list

    abbrev body_words : List Word
    body_words = statements_words (n + 1) list

    abbrev last_test : Judged Value
    last_test = test_of scopes e

    abbrev last_words : List Word
    last_words = expr_words (n + 1) 0 e

    pub repeat_stops : (why : Stop) → ShowsBefore until body_words body.marks why
        → ShowsBy (plain_words n looped) (plain_of scopes around before looped).marks why
    repeat_stops why h =
        guard_shows (at (n + 1) kind.Repeat line) (at (n + 1) kind.Until until) body_words last_words body.marks
        (joined (last_test.marks ∷ [])) (all last_test.marks (test_many scopes (n + 1) e)) why h

    pub repeat_test_stops : (found : typed.Statements) (why : Stop) → Means body_words body found
        → ShowsBy last_words last_test.marks why
        → ShowsBy (plain_words n looped) (plain_of scopes around before looped).marks why
    repeat_test_stops found why h k =
        guarded_shows (at (n + 1) kind.Repeat line) (at (n + 1) kind.Until until) body_words last_words body.marks
        (joined (last_test.marks ∷ [])) h.quiet why (shows_alone last_words last_test.marks why k)

    pub repeat_means : (found : typed.Statements) (value : Value) → Means body_words body found
        → Means last_words last_test value
        → Means (plain_words n looped) (plain_of scopes around before looped) (typed.repeat found value)
    repeat_means found value h k = record {
      known = made_of_both (λ found value. typed.repeat found value) body.value last_test.value found value h.known
          k.known;
      quiet = guarded_quiet (at (n + 1) kind.Repeat line) (at (n + 1) kind.Until until) body_words last_words body.marks
          (joined (last_test.marks ∷ [])) h.quiet false (quiet_alone last_words last_test.marks false k.quiet);
    }

  -- a `for`
  module _ (line : ℕ) (name : Ident) (becomes : ℕ) (first : Expr) (toward : Lined Way) (last : Expr) (do_line : ℕ)
      (s : Statement) where
    abbrev counting : Plain
    counting = tree.for line name becomes first toward last do_line s

    abbrev slot : Judged Slot
    slot = for_variable scopes.outer.types (entity_of scopes name.name)

    abbrev limit : Option Slot → Expr → Judged Value
    limit found e = checked (fits_slot scopes.outer.types found) (value_of scopes e)

    abbrev from : Judged Value
    from = limit slot.value first

    abbrev to : Judged Value
    to = limit slot.value last

    abbrev turn : Judged typed.Statement
    turn = statement_of scopes elsewhere around before s

    abbrev name_word : Word
    name_word = name_at (n + 1) name

    abbrev from_words : List Word
    from_words = expr_words (n + 1) 0 first

    abbrev to_words : List Word
    to_words = expr_words (n + 1) 0 last

    abbrev turn_words : List Word
    turn_words = statement_words (n + 1) s

    abbrev way_word : Word
    way_word = at (n + 1) (way_kind toward.item) toward.line

    abbrev do_word : Word
    do_word = at (n + 1) kind.Do do_line

    turn_many : AsMany turn_words (joined (turn.marks ∷ []))
    turn_many = all turn.marks (statement_many scopes (n + 1) elsewhere around before s)

    limit_many : (found : Option Slot) (e : Expr) → AsMany (expr_words (n + 1) 0 e) (limit found e).marks
    limit_many found e =
        checked_many (fits_slot scopes.outer.types found) (value_of scopes e) (value_many scopes (n + 1) 0 e)

    behind_way : AsMany (to_words ++ do_word ∷ turn_words) (joined (to.marks ∷ quiet ∷ turn.marks ∷ []))
    behind_way =
        between_words do_word to.marks turn.marks (limit_many slot.value last)
        (statement_many scopes (n + 1) elsewhere around before s)

    behind_becomes : AsMany (from_words ++ way_word ∷ (to_words ++ do_word ∷ turn_words))
        (joined (from.marks ∷ quiet ∷ to.marks ∷ quiet ∷ turn.marks ∷ []))
    behind_becomes =
        and_then from.marks (joined (quiet ∷ to.marks ∷ quiet ∷ turn.marks ∷ [])) (limit_many slot.value first)
        (next_word way_word [] (joined (to.marks ∷ quiet ∷ turn.marks ∷ [])) behind_way)

    pub for_slot_stops : (why : Stop) → ShowsBefore becomes (name_word ∷ []) slot.marks why
        → ShowsBy (plain_words n counting) (plain_of scopes around before counting).marks why
    for_slot_stops why h =
        guard_shows (at (n + 1) kind.For line) (at (n + 1) kind.Becomes becomes) (name_word ∷ [])
        (from_words ++ way_word ∷ (to_words ++ do_word ∷ turn_words)) slot.marks
        (joined (from.marks ∷ quiet ∷ to.marks ∷ quiet ∷ turn.marks ∷ [])) behind_becomes why h

    for_behind : IsQuiet (name_word ∷ []) slot.marks false → (why : Stop)
        → ShowsBy (from_words ++ way_word ∷ (to_words ++ do_word ∷ turn_words))
        (joined (from.marks ∷ quiet ∷ to.marks ∷ quiet ∷ turn.marks ∷ [])) why
        → ShowsBy (plain_words n counting) (plain_of scopes around before counting).marks why
    for_behind h why k =
        guarded_shows (at (n + 1) kind.For line) (at (n + 1) kind.Becomes becomes) (name_word ∷ [])
        (from_words ++ way_word ∷ (to_words ++ do_word ∷ turn_words)) slot.marks
        (joined (from.marks ∷ quiet ∷ to.marks ∷ quiet ∷ turn.marks ∷ [])) h why k

    pub for_first_stops : (counted : Slot) (why : Stop) → Means (name_word ∷ []) slot counted
        → ShowsBefore toward.line from_words (limit (Some counted) first).marks why
        → ShowsBy (plain_words n counting) (plain_of scopes around before counting).marks why
    for_first_stops counted why h k =
        for_behind h.quiet why
        (before_shows from_words (to_words ++ do_word ∷ turn_words) way_word from.marks
        (joined (to.marks ∷ quiet ∷ turn.marks ∷ [])) behind_way why
        (subst (λ (found : Option Slot). ShowsBefore toward.line from_words (limit found first).marks why) (sym h.known)
        k))

    from_means : (counted : Slot) (value : Value) → Means (name_word ∷ []) slot counted
        → Means from_words (limit (Some counted) first) value → Means from_words from value
    from_means counted value h k =
        subst (λ (found : Option Slot). Means from_words (limit found first) value) (sym h.known) k

    to_means : (counted : Slot) (value : Value) → Means (name_word ∷ []) slot counted
        → Means to_words (limit (Some counted) last) value → Means to_words to value
    to_means counted value h k =
        subst (λ (found : Option Slot). Means to_words (limit found last) value) (sym h.known) k

    pub for_last_stops : (counted : Slot) (value : Value) (why : Stop) → Means (name_word ∷ []) slot counted
        → Means from_words (limit (Some counted) first) value
        → ShowsBefore do_line to_words (limit (Some counted) last).marks why
        → ShowsBy (plain_words n counting) (plain_of scopes around before counting).marks why
    for_last_stops counted value why h k l =
        for_behind h.quiet why
        (behind_shows from_words (to_words ++ do_word ∷ turn_words) way_word from.marks
        (joined (to.marks ∷ quiet ∷ turn.marks ∷ [])) (from_means counted value h k).quiet why
        (before_shows to_words turn_words do_word to.marks (joined (turn.marks ∷ [])) turn_many why
        (subst (λ (found : Option Slot). ShowsBefore do_line to_words (limit found last).marks why) (sym h.known) l)))

    pub for_body_stops : (counted : Slot) (value end : Value) (why : Stop) → Means (name_word ∷ []) slot counted
        → Means from_words (limit (Some counted) first) value → Means to_words (limit (Some counted) last) end
        → ShowsBy turn_words turn.marks why
        → ShowsBy (plain_words n counting) (plain_of scopes around before counting).marks why
    for_body_stops counted value end why h k l m =
        for_behind h.quiet why
        (behind_shows from_words (to_words ++ do_word ∷ turn_words) way_word from.marks
        (joined (to.marks ∷ quiet ∷ turn.marks ∷ [])) (from_means counted value h k).quiet why
        (behind_shows to_words turn_words do_word to.marks (joined (turn.marks ∷ []))
        (to_means counted end h l).quiet why
        (shows_alone turn_words turn.marks why m)))

    pub for_means : (counted : Slot) (value end : Value) (found : typed.Statement) → Means (name_word ∷ []) slot counted
        → Means from_words (limit (Some counted) first) value → Means to_words (limit (Some counted) last) end
        → Means turn_words turn found
        → Means (plain_words n counting) (plain_of scopes around before counting)
        (typed.for counted toward.item value end (list_of found))
    for_means counted value end found h k l m =
        let lower : Means from_words from value = from_means counted value h k in
        let upper : Means to_words to end = to_means counted end h l in
        record {
          known = made_of_four (λ counted lower upper statement. typed.for counted toward.item lower upper
              (list_of statement)) slot.value from.value to.value turn.value counted value end found h.known lower.known
              upper.known m.known;
          quiet = guarded_quiet (at (n + 1) kind.For line) (at (n + 1) kind.Becomes becomes) (name_word ∷ [])
              (from_words ++ way_word ∷ (to_words ++ do_word ∷ turn_words)) slot.marks
              (joined (from.marks ∷ quiet ∷ to.marks ∷ quiet ∷ turn.marks ∷ [])) h.quiet false
              (behind_quiet from_words (to_words ++ do_word ∷ turn_words) way_word from.marks
              (joined (to.marks ∷ quiet ∷ turn.marks ∷ [])) lower.quiet false
              (behind_quiet to_words turn_words do_word to.marks (joined (turn.marks ∷ [])) upper.quiet false
              (quiet_alone turn_words turn.marks false m.quiet)));
        }

  -- a goto
  pub goto_settles : {X : Type 0} (line : ℕ) (word : Word) (target : Judged typed.Statement)
      (view : X → typed.Statement)
      (found : Result X Stop) → Settles (word ∷ []) target view found
      → Settles (at n kind.Goto line ∷ (word ∷ [])) (judged (joined (quiet ∷ target.marks ∷ [])) target.value)
      view found
  goto_settles line word target view (Ok x) h = record {
    known = h.known;
    quiet = word_quiet (at n kind.Goto line) (word ∷ []) (joined (target.marks ∷ [])) false
        (quiet_alone (word ∷ []) target.marks false h.quiet);
  }
  goto_settles line word target view (Err why) h =
      word_shows (at n kind.Goto line) (word ∷ []) (joined (target.marks ∷ [])) why
      (shows_alone (word ∷ []) target.marks why h)

-- a label before a statement
module _ (number colon : Word) (more : List Word) (rest : Marks) where
  shown_label : (faults : List Wrong) (why : Stop) → AsMany more rest
      → Err why ≡ stands_at number.token.line (lowest_of faults)
      → ShowsBy (number ∷ (colon ∷ more)) (followed (joined (shows faults ∷ quiet ∷ [])) rest) why
  shown_label [] why many is = cc
  shown_label (first ∷ others) why many is =
      let same : shown_in number.token.line (lowest first others) ≡ why = cc in
      subst (ShowsBy (number ∷ (colon ∷ more)) (followed (joined (shows (first ∷ others) ∷ quiet ∷ [])) rest)) same
      record {
        many = (and_then (joined (shows (first ∷ others) ∷ quiet ∷ [])) rest
            (next_word number (first ∷ others) (joined (quiet ∷ [])) (all quiet (one_word colon []))) many).same;
        first = refl;
      }

  passed_label : (faults : List Wrong) → Ok tt ≡ stands_at number.token.line (lowest_of faults)
      → IsQuiet (number ∷ (colon ∷ [])) (joined (shows faults ∷ quiet ∷ [])) false
  passed_label [] is = record { still = (refl, (refl, tt)); behind = refl }
  passed_label (first ∷ others) is = cc

module _ (scopes : Scopes) (spot : Spot) (around before : List ℕ) (n : ℕ) (numeral : Numeral) (colon : ℕ) (s : Plain)
  where
    abbrev inner : Judged typed.Statement
    inner = plain_of scopes around (before ++ numeral.value ∷ []) s

    abbrev faults : List Wrong
    faults = label_faults scopes spot before numeral.value

    pub label_stops : (why : Stop) → Err why ≡ stands_at numeral.line (lowest_of faults)
        → ShowsBy (statement_words n (tree.labelled numeral colon s))
        (statement_of scopes spot around before (tree.labelled numeral colon s)).marks why
    label_stops why is =
        shown_label (number_at n numeral) (at n kind.Colon colon) (plain_words n s) (joined (inner.marks ∷ []))
        faults why
        (all inner.marks (plain_many scopes n around (before ++ numeral.value ∷ []) s)) is

    pub label_settles : {X : Type 0} (view : X → typed.Statement) (found : Result X Stop)
        → Ok tt ≡ stands_at numeral.line (lowest_of faults) → Settles (plain_words n s) inner view found
        → Settles (statement_words n (tree.labelled numeral colon s))
        (statement_of scopes spot around before (tree.labelled numeral colon s)) view found
    label_settles view (Ok x) is h = record {
      known = h.known;
      quiet = quiet_behind (number_at n numeral ∷ (at n kind.Colon colon ∷ [])) (plain_words n s)
          (joined (shows faults ∷ quiet ∷ [])) (joined (inner.marks ∷ [])) false
          (passed_label (number_at n numeral) (at n kind.Colon colon) (plain_words n s) (joined (inner.marks ∷ []))
          faults
          is)
          (quiet_alone (plain_words n s) inner.marks false h.quiet);
    }
    label_settles view (Err why) is h =
        shows_by_behind (number_at n numeral ∷ (at n kind.Colon colon ∷ [])) (plain_words n s)
        (joined (shows faults ∷ quiet ∷ [])) (joined (inner.marks ∷ [])) why
        (passed_label (number_at n numeral) (at n kind.Colon colon) (plain_words n s) (joined (inner.marks ∷ []))
        faults is)
        (shows_alone (plain_words n s) inner.marks why h)
