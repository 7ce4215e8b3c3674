-- The laws of items with commas between them: what their reader reads, and what it reaches.
use Rattle.std.proofs.Common.{◌≡◌, refl, sym, ap, subst, ◌∙◌, ℕ, suc, ◌+◌, ◌-◌, ◌≤◌, ◌<◌, arith}
use Rattle.std.proofs.Common.{List, [], ◌∷◌, ◌++◌, length, append_assoc, Ok}
use Rattle.std.specs.List.{flat_map}
use Rattle.std.proofs.lemmas.List.{append-nil}
use Rattle.pas_tokens.specs.declared.kinds.Kind.{Kind}
use Rattle.pas_tokens.specs.declared.kinds.Kind.TheVariants as k
use Rattle.pas_tokens.specs.Cutting.{Payload, nothing}
use Rattle.pas_tokens.specs.Tokens.{Token}
use Rattle.pas_syntax.specs.declared.limits.TheConstants.{NESTING_LIMIT}
use Rattle.pas_syntax.specs.Tree.{Behind, Separated}
use Rattle.pas_syntax.specs.Words.{Word, at, separated}
use Rattle.pas_syntax.specs.Parse.{tokens_in}
use Rattle.pas_syntax.specs.inner.Prog.{Prog, done, bind, Out, head, ends, turns}
use Rattle.pas_syntax.specs.inner.TypeReaders.{pushed, single, behind_item, items_by}
use Rattle.pas_syntax.proofs.Good.{a_token, Reads, reads_done, reads_bind}
use Rattle.pas_syntax.proofs.TurnLemmas.{Any, Begins, reads_turns}
use Rattle.pas_syntax.proofs.WordLemmas.{sound_says}
use Rattle.pas_syntax.proofs.Judged.{Reaches, reaches_bind, reaches_last}
use Rattle.pas_syntax.proofs.ReachLemmas.{reaches_more, reaches_end}

module _ {A : Type 0} (n : ℕ) (words : A → List Word) where
  -- an item behind its comma
  abbrev pub behind_words : Behind A → List Word
  behind_words behind = at n k.Comma behind.line ∷ words behind.item

  abbrev pub IsItem : A → List Word → Type 0
  IsItem item ws = ws ≡ words item

  abbrev pub AreItems : Separated A → List Word → Type 0
  AreItems items ws = ws ≡ separated n k.Comma words items

  map_push : (items : List (Behind A)) (item : Behind A)
      → flat_map behind_words (items ++ item ∷ []) ≡ flat_map behind_words items ++ behind_words item
  map_push [] item = append-nil (behind_words item)
  map_push (first ∷ items) item =
      ap (λ ws. behind_words first ++ ws) (map_push items item)
      ∙ sym (append_assoc (behind_words first) (flat_map behind_words items) (behind_words item))

  pub one_item_more : (items : Separated A) (us : List Word) (line : ℕ) (item : A) (vs : List Word)
      → AreItems items us → IsItem item vs → AreItems (pushed items line item) (us ++ at n k.Comma line ∷ vs)
  one_item_more items us line item vs is also =
      let last : Behind A = record { line = line; item = item } in
      rw (is, also) (append_assoc (words items.first) (flat_map behind_words items.more) (behind_words last)
      ∙ ap (λ ws. words items.first ++ ws) (sym (map_push items.more last)))

  module _ (fits : n ≤ NESTING_LIMIT) (item : Prog A) where
    module _ (h : Reads IsItem Any item) (some : A) where
      pub begins_items : (found : Separated A) (us : List Word) → AreItems found us
          → (kind : Kind) (payload : Payload) (line : ℕ)
          → Begins AreItems us (a_token kind payload line) (behind_item item found kind payload line)
      begins_items found us is k.Comma nothing line = (
        at n k.Comma line,
        refl,
        (λ e. cc),
        sound_says n k.Comma nothing line fits,
        reads_bind IsItem Any (λ x vs. AreItems x (us ++ at n k.Comma line ∷ vs)) Any
            (λ next. done (pushed found line next)) item h
            (λ next vs t also _. reads_done (λ x ws. AreItems x (us ++ at n k.Comma line ∷ (vs ++ ws))) Any t
            (pushed found line next) (rw (append-nil vs) (one_item_more found us line next vs is also)) tt)
            (λ next vs also. (
              pushed found line next,
              [],
              rw (append-nil vs) (one_item_more found us line next vs is also),
            )),
        (pushed found line some, words some, one_item_more found us line some (words some) is refl),
      )
      begins_items found us is kind payload line = tt

      pub reads_items : (most : ℕ) → Reads AreItems Any (items_by item most)
      reads_items most =
          reads_bind IsItem Any AreItems Any (λ first. turns (behind_item item) most (single first)) item h
          (λ first us t is _ ts _. reads_turns AreItems (behind_item item) begins_items most (single first) us
          (is ∙ sym (append-nil (words first))) ts)
          (λ first us is. (single first, [], rw (append-nil us) (is ∙ sym (append-nil (words first)))))

    -- what may stand behind an item: a comma, and what may stand behind them all
    module _ (Behind_it : Kind → Type 0) (comma : Behind_it k.Comma)
        (h : (x : A) (rest : List Token) → Behind_it (head rest).kind
        → Reaches item (words x) (Ok (x, rest)) rest) where
      ends_there : (items : List (Behind A)) (vs : List Word) (rest : List Token)
          → Behind_it (head (tokens_in vs ++ rest)).kind
          → Behind_it (head (tokens_in (flat_map behind_words items ++ vs) ++ rest)).kind
      ends_there [] vs rest end = end
      ends_there (first ∷ items) vs rest end = comma

      reaches_more_items : (items : List (Behind A)) (found : Separated A) (left_turns : ℕ) (r : Out (Separated A))
          (rest : List Token) → Behind_it (head rest).kind
          → Reaches (turns (behind_item item) left_turns
          (record { first = found.first; more = found.more ++ items })) [] r rest
          → Reaches (turns (behind_item item) (left_turns + length items) found) (flat_map behind_words items) r rest
      reaches_more_items [] found left_turns r rest end then =
          let all : left_turns ≡ left_turns + 0 = omega arith in
          let same : found.more ++ [] ≡ found.more = append-nil found.more in
          subst (λ m. Reaches (turns (behind_item item) m found) [] r rest) all
          (subst (λ xs. Reaches (turns (behind_item item) left_turns (record { first = found.first; more = xs })) [] r
          rest)
          same then)
      reaches_more_items (next ∷ items) found left_turns r rest end then =
          let vs = flat_map behind_words items in
          let new = pushed found next.line next.item in
          let all : suc (left_turns + length items) ≡ left_turns + length (next ∷ items) = omega arith in
          let same = append_assoc found.more (next ∷ []) items in
          let behind : Behind_it (head (tokens_in vs ++ rest)).kind = subst
          (λ ws. Behind_it (head (tokens_in ws ++ rest)).kind) (append-nil vs) (ends_there items [] rest end) in
          subst (λ m. Reaches (turns (behind_item item) m found) (behind_words next ++ vs) r rest) all
          (reaches_more (behind_item item) (left_turns + length items) found (at n k.Comma next.line) new
          (words next.item) vs (bind item (λ x. done (pushed found next.line x))) r rest refl
          (sound_says n k.Comma nothing next.line fits)
          (reaches_last item (λ x. done (pushed found next.line x)) (words next.item) next.item (tokens_in vs ++ rest)
          (h next.item (tokens_in vs ++ rest) behind))
          (reaches_more_items items new left_turns r rest end
          (subst (λ xs. Reaches (turns (behind_item item) left_turns (record { first = found.first; more = xs })) [] r
          rest)
          (sym same) then)))

      pub reaches_items : (items : Separated A) (most : ℕ) (rest : List Token) → length items.more < most
          → Behind_it (head rest).kind
          → behind_item item items (head rest).kind (head rest).payload (head rest).line ≡ ends
          → Reaches (items_by item most) (separated n k.Comma words items) (Ok (items, rest)) rest
      reaches_items items most rest less end last =
          let vs = flat_map behind_words items.more in
          let left_turns = most - suc (length items.more) in
          let all : suc left_turns + length items.more ≡ most = omega (arith, less) in
          let behind : Behind_it (head (tokens_in vs ++ rest)).kind = subst
          (λ ws. Behind_it (head (tokens_in ws ++ rest)).kind) (append-nil vs) (ends_there items.more [] rest end) in
          reaches_bind item (λ first. turns (behind_item item) most (single first)) (words items.first) vs items.first
          (Ok (items, rest)) rest (h items.first (tokens_in vs ++ rest) behind)
          (subst (λ m. Reaches (turns (behind_item item) m (single items.first)) vs (Ok (items, rest)) rest) all
          (reaches_more_items items.more (single items.first) (suc left_turns) (Ok (items, rest)) rest end
          (reaches_end (behind_item item) left_turns items rest last)))
