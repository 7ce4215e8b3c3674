-- The readers of the elements of a `case` take the words of each tree, to the first with a fault.
use Rattle.std.proofs.Common.{◌≡◌, refl, sym, ap, subst, ◌∙◌, ℕ, suc, ◌+◌, ◌-◌, ◌≤◌, ◌<◌, arith, Bool, true}
use Rattle.std.proofs.Common.{false, List, [], ◌∷◌, ◌++◌, length, append_assoc, Ok, Option, Some, None}
use Rattle.std.specs.Prelude.{if◌then◌else◌}
use Rattle.std.specs.List.{flat_map}
use Rattle.std.specs.Str.{bytes_eq}
use Rattle.std.proofs.lemmas.List.{append-nil, length-append}
use Rattle.std.proofs.lemmas.Slice.Eq.{bytes_eq-Decides}
use Rattle.pas_tokens.specs.declared.kinds.Kind.{Kind}
use Rattle.pas_tokens.specs.declared.kinds.Kind.TheVariants as k
use Rattle.pas_tokens.specs.Cutting.{Payload, nothing}
use Rattle.pas_tokens.specs.Tokens.{Token}
use Rattle.pas_syntax.specs.declared.limits.TheConstants.{NESTING_LIMIT}
use Rattle.pas_syntax.specs.declared.operators.Sign.{Sign}
use Rattle.pas_syntax.specs.declared.operators.Sign.TheVariants as sign
use Rattle.pas_syntax.specs.Tree as tree
use Rattle.pas_syntax.specs.Tree.{Behind, Separated, Constant, Statement, Elements, Others, others_name}
use Rattle.pas_syntax.specs.Words.{Word, at, maybe, separated, sign_kind, constant_words, statement_words}
use Rattle.pas_syntax.specs.Words.{elements_words, others_words, others_word}
use Rattle.pas_syntax.specs.Parse.{tokens_in}
use Rattle.pas_syntax.specs.Nearest.{last_behind, last_item, statement_takes_else, IsNotOthers, IsNearestStatement}
use Rattle.pas_syntax.specs.Nearest.{AreNearestElements, IsNearestTail}
use Rattle.pas_syntax.specs.inner.Prog.{Prog, done, look, bind, Out, run, head, ends, turns}
use Rattle.pas_syntax.specs.inner.TypeReaders.{single, items_by, constant}
use Rattle.pas_syntax.specs.inner.Marks.{mark, maybe_mark}
use Rattle.pas_syntax.specs.inner.StatementReaders.{Element, Arm, one_more, tail, Arms, with_arm, is_others}
use Rattle.pas_syntax.specs.inner.StatementReaders.{others_line_by}
use Rattle.pas_syntax.specs.inner.StatementReaders.{others_line, unless_others, element_by, others_by, colon_behind}
use Rattle.pas_syntax.specs.inner.StatementReaders.{behind_constants, next_arm_at, behind_arm_by, behind_arm}
use Rattle.pas_syntax.specs.inner.StatementReaders.{first_arm}
use Rattle.pas_syntax.specs.inner.StatementReaders.{arms_by}
use Rattle.pas_syntax.proofs.Judged.{Reaches, reaches_bind, reaches_last, reaches_skip}
use Rattle.pas_syntax.proofs.ReachLemmas.{reaches_more, reaches_end, reaches_look}
use Rattle.pas_syntax.proofs.WordLemmas.{sound_says}
use Rattle.pas_syntax.proofs.ItemLemmas.{behind_words}
use Rattle.pas_syntax.proofs.ConstantLemmas.{reaches_constant}
use Rattle.pas_syntax.proofs.MarkLemmas.{reaches_mark, reaches_maybe}
use Rattle.pas_syntax.proofs.CaseReads.{element_words}
use Rattle.pas_syntax.proofs.PhraseReaches.{Follows, reaches_items_within}

-- what may stand behind an element
abbrev pub EndsElement : Kind → Type 0
EndsElement k.Semicolon = Unit {0}
EndsElement k.End = Unit {0}
EndsElement kind = ⊥

element_follows : (takes : Bool) (kind : Kind) → EndsElement kind → Follows takes kind
element_follows takes k.Semicolon e = tt
element_follows takes k.End e = tt
element_follows takes kind e = absurd e

-- where the elements end
abbrev pub IsEnd : Kind → Type 0
IsEnd k.End = Unit {0}
IsEnd kind = ⊥

end_follows : (takes : Bool) (kind : Kind) → IsEnd kind → Follows takes kind
end_follows takes k.End e = tt
end_follows takes kind e = absurd e

end_ends : (kind : Kind) → IsEnd kind → EndsElement kind
end_ends k.End e = tt
end_ends kind e = absurd e

no_semicolon : (kind : Kind) → IsEnd kind → k.Semicolon ≡ kind → ⊥
no_semicolon k.End e is = cc
no_semicolon kind e is = absurd e

-- constants do not begin with `end`
abbrev NoEnd : Kind → Type 0
NoEnd k.End = ⊥
NoEnd kind = Unit {0}

sign_no_end : (lead : Sign) → NoEnd (sign_kind lead)
sign_no_end sign.Plus = tt
sign_no_end sign.Minus = tt

constant_starts : (n : ℕ) (c : Constant) (vs : List Word) (rest : List Token)
    → NoEnd (head (tokens_in (constant_words n c ++ vs) ++ rest)).kind
constant_starts n (tree.number None numeral) vs rest = tt
constant_starts n (tree.number (Some lead) numeral) vs rest = sign_no_end lead.item
constant_starts n (tree.named None name) vs rest = tt
constant_starts n (tree.named (Some lead) name) vs rest = sign_no_end lead.item
constant_starts n (tree.text quoted) vs rest = tt

-- the name `others`
no_name : (name : List ℕ) (b : Bool) → bytes_eq name others_name ≡ b → (name ≡ others_name → ⊥) → b ≡ false
no_name name true e other = absurd (other ((bytes_eq-Decides name others_name).0 e))
no_name name false e other = refl

is_no_others : (c : Constant) → IsNotOthers c → is_others c ≡ false
is_no_others (tree.number lead numeral) other = refl
is_no_others (tree.named lead name) other = no_name name.name (bytes_eq name.name others_name) refl other
is_no_others (tree.text quoted) other = refl

no_line_by : (first : Constant) (items : List (Behind Constant)) → IsNotOthers (last_behind first items)
    → others_line_by first items ≡ None
no_line_by (tree.number lead numeral) items other = refl
no_line_by (tree.text quoted) items other = refl
no_line_by (tree.named None name) [] other =
    ap (λ b. if b then Some name.line else None) (is_no_others (tree.named None name) other)
no_line_by (tree.named None name) (next ∷ items) other = refl
no_line_by (tree.named (Some lead) name) [] other = refl
no_line_by (tree.named (Some lead) name) (next ∷ items) other = refl

no_line : (constants : Separated Constant) → IsNotOthers (last_item constants) → others_line constants ≡ None
no_line constants other = no_line_by constants.first constants.more other

-- how many turns the loop takes to elements
abbrev turns_of_elements : Elements → ℕ
turns_of_elements (tree.first_element constants colon s) = 0
turns_of_elements (tree.more_elements elements line constants colon s) = turns_of_elements elements + 1

few_turns : (n : ℕ) (elements : Elements) → turns_of_elements elements < length (elements_words n elements)
few_turns n (tree.first_element constants colon s) =
    let us = separated n k.Comma (constant_words n) constants in
    let ws = at n k.Colon colon ∷ statement_words n s in
    let count : length (us ++ ws) ≡ length us + length ws = length-append us ws in
    omega (arith, count)
few_turns n (tree.more_elements elements line constants colon s) =
    let element : Element = record { constants = constants; colon = colon; statement = s } in
    let us = elements_words n elements in
    let ws = at n k.Semicolon line ∷ element_words n element in
    let count : length (us ++ ws) ≡ length us + length ws = length-append us ws in
    omega (arith, few_turns n elements, count)

module _ (statement : ℕ → Prog Statement) (most : ℕ)
    (h : (n : ℕ) (s : Statement) (rest : List Token) → n ≤ NESTING_LIMIT → IsNearestStatement s
    → length (statement_words n s) < most → Follows (statement_takes_else s) (head rest).kind
    → Reaches (statement n) (statement_words n s) (Ok (s, rest)) rest) where
  module _ (n : ℕ) (fits : n ≤ NESTING_LIMIT) where
    abbrev words_of : Separated Constant → List Word
    words_of constants = separated n k.Comma (constant_words n) constants

    reaches_constants : (constants : Separated Constant) (colon : ℕ) (ws : List Word) (rest : List Token)
        → length (words_of constants) < most
        → Reaches (items_by constant most) (words_of constants)
        (Ok (constants, tokens_in (at n k.Colon colon ∷ ws) ++ rest)) (tokens_in (at n k.Colon colon ∷ ws) ++ rest)
    reaches_constants constants colon ws rest less =
        reaches_items_within n (constant_words n) fits constant most (λ kind. Unit {0}) tt
        (λ c rest less any. reaches_constant n fits c rest) constants (tokens_in (at n k.Colon colon ∷ ws) ++ rest) less
        tt refl

    -- an element behind its constants
    reaches_element : (element : Element) (rest : List Token) → IsNotOthers (last_item element.constants)
        → IsNearestStatement element.statement → length (statement_words n element.statement) < most
        → EndsElement (head rest).kind
        → Reaches (element_by statement most n element.constants)
        (at n k.Colon element.colon ∷ statement_words n element.statement) (Ok (element, rest)) rest
    reaches_element element rest other nearest less end =
        let constants = element.constants in
        let s = element.statement in
        let ws = statement_words n s in
        let w = at n k.Colon element.colon in
        let make : ℕ → Statement → Element = λ colon s.
        record { constants = constants; colon = colon; statement = s } in
        let further = λ (colon : ℕ). bind (statement n) (λ s. done (make colon s)) in
        ap (λ b. run (unless_others b (bind (mark k.Colon) further)) (w.token ∷ (tokens_in ws ++ rest)))
        (is_no_others (last_item constants) other)
        ∙ reaches_bind (mark k.Colon) further (w ∷ []) ws element.colon (Ok (element, rest)) rest
        (reaches_mark n fits k.Colon element.colon (tokens_in ws ++ rest))
        (reaches_last (statement n) (λ s. done (make element.colon s)) ws s rest
        (h n s rest fits nearest less (element_follows (statement_takes_else s) (head rest).kind end)))

    next_constants : (semicolon : ℕ) (kind : Kind) (payload : Payload) (line : ℕ) → NoEnd kind
        → next_arm_at statement most n semicolon kind payload line
        ≡ bind (items_by constant most) (λ constants. look (behind_constants statement most n semicolon constants))
    next_constants semicolon k.End payload line e = absurd e
    next_constants semicolon kind payload line e = refl

    -- what begins with constants behind a semicolon
    reaches_behind_constants : (semicolon : ℕ) (constants : Separated Constant) (colon : ℕ) (ws : List Word) (arm : Arm)
        (rest : List Token) → length (words_of constants) < most
        → Reaches (look (behind_constants statement most n semicolon constants)) (at n k.Colon colon ∷ ws)
        (Ok (arm, rest)) rest
        → Reaches (look (next_arm_at statement most n semicolon)) (words_of constants ++ at n k.Colon colon ∷ ws)
        (Ok (arm, rest)) rest
    reaches_behind_constants semicolon constants colon ws arm rest less go_on =
        let us = words_of constants in
        let w = at n k.Colon colon in
        let further = λ (constants : Separated Constant). look
        (behind_constants statement most n semicolon constants) in
        let first = head (tokens_in (us ++ w ∷ ws) ++ rest) in
        let items = flat_map (behind_words n (constant_words n)) constants.more in
        let starts : NoEnd first.kind = subst (λ all. NoEnd (head (tokens_in all ++ rest)).kind)
        (sym (append_assoc (constant_words n constants.first) items (w ∷ ws)))
        (constant_starts n constants.first (items ++ w ∷ ws) rest) in
        reaches_look (next_arm_at statement most n semicolon) (bind (items_by constant most) further) (us ++ w ∷ ws)
        (Ok (arm, rest)) rest (next_constants semicolon first.kind first.payload first.line starts)
        (reaches_bind (items_by constant most) further us (w ∷ ws) constants (Ok (arm, rest)) rest
        (reaches_constants constants colon ws rest less) go_on)

    reaches_one_more : (semicolon : ℕ) (element : Element) (rest : List Token)
        → IsNotOthers (last_item element.constants) → IsNearestStatement element.statement
        → length (element_words n element) < most → EndsElement (head rest).kind
        → Reaches (look (next_arm_at statement most n semicolon)) (element_words n element)
        (Ok (one_more element, rest)) rest
    reaches_one_more semicolon element rest other nearest less end =
        let us = words_of element.constants in
        let w = at n k.Colon element.colon in
        let ws = statement_words n element.statement in
        let count : length (us ++ w ∷ ws) ≡ length us + length (w ∷ ws) = length-append us (w ∷ ws) in
        let short : length us < most = omega (arith, less, count) in
        let shorter : length ws < most = omega (arith, less, count) in
        let element_read = element_by statement most n element.constants in
        reaches_behind_constants semicolon element.constants element.colon ws (one_more element) rest short
        (ap (λ line. run (colon_behind statement most n semicolon element.constants element.colon line)
        (w.token ∷ (tokens_in ws ++ rest))) (no_line element.constants other)
        ∙ reaches_last element_read (λ element. done (one_more element)) (w ∷ ws) element rest
        (reaches_element element rest other nearest shorter end))

    -- what ends the elements
    reaches_semicolon : (semicolon : ℕ) (rest : List Token) → IsEnd (head rest).kind
        → Reaches (look (next_arm_at statement most n semicolon)) [] (Ok (tail (tree.semicolon semicolon), rest)) rest
    reaches_semicolon semicolon rest end =
        reaches_look (next_arm_at statement most n semicolon) (done (tail (tree.semicolon semicolon))) []
        (Ok (tail (tree.semicolon semicolon), rest)) rest
        (ended (head rest).kind (head rest).payload (head rest).line end) refl
      where
        ended : (kind : Kind) (payload : Payload) (line : ℕ) → IsEnd kind
            → next_arm_at statement most n semicolon kind payload line ≡ done (tail (tree.semicolon semicolon))
        ended k.End payload line e = refl
        ended kind payload line e = absurd e

    maybe_follows : (takes : Bool) (end : Option ℕ) (rest : List Token) → IsEnd (head rest).kind
        → Follows takes (head (tokens_in (maybe n k.Semicolon end) ++ rest)).kind
    maybe_follows takes None rest e = end_follows takes (head rest).kind e
    maybe_follows takes (Some line) rest e = tt

    reaches_others : (semicolon line colon : ℕ) (s : Statement) (end : Option ℕ) (rest : List Token)
        → IsNearestStatement s → length (statement_words n s) < most → IsEnd (head rest).kind
        → Reaches (others_by statement most n semicolon line colon)
        (at n k.Colon colon ∷ (statement_words n s ++ maybe n k.Semicolon end))
        (Ok (tail (tree.others semicolon line colon s end), rest)) rest
    reaches_others semicolon line colon s end rest nearest less e =
        let ws = statement_words n s in
        let last = maybe n k.Semicolon end in
        let make = λ (s : Statement) (end : Option ℕ). tail (tree.others semicolon line colon s end) in
        let further = λ (s : Statement). bind (maybe_mark k.Semicolon) (λ end. done (make s end)) in
        let r = Ok (make s end, rest) in
        reaches_skip (bind (statement n) further) (at n k.Colon colon) (ws ++ last) r rest
        (sound_says n k.Colon nothing colon fits)
        (reaches_bind (statement n) further ws last s r rest
        (h n s (tokens_in last ++ rest) fits nearest less (maybe_follows (statement_takes_else s) end rest e))
        (reaches_last (maybe_mark k.Semicolon) (λ end. done (make s end)) last end rest
        (reaches_maybe n fits k.Semicolon end rest (no_semicolon (head rest).kind e))))

    abbrev the_others : ℕ → Separated Constant
    the_others line = single (tree.named None (record { name = others_name; line = line }))

    line_of_others : (line : ℕ) → others_line (the_others line) ≡ Some line
    line_of_others line =
        ap (λ b. if b then Some line else None) ((bytes_eq-Decides others_name others_name).1 refl)

    reaches_tail : (semicolon line colon : ℕ) (s : Statement) (end : Option ℕ) (rest : List Token)
        → IsNearestStatement s → length (statement_words n s) < most → 1 < most → IsEnd (head rest).kind
        → Reaches (look (next_arm_at statement most n semicolon))
        (others_word n line ∷ (at n k.Colon colon ∷ (statement_words n s ++ maybe n k.Semicolon end)))
        (Ok (tail (tree.others semicolon line colon s end), rest)) rest
    reaches_tail semicolon line colon s end rest nearest less one e =
        let w = at n k.Colon colon in
        let ws = statement_words n s ++ maybe n k.Semicolon end in
        let constants = the_others line in
        reaches_behind_constants semicolon constants colon ws (tail (tree.others semicolon line colon s end)) rest one
        (ap (λ line. run (colon_behind statement most n semicolon constants colon line)
        (w.token ∷ (tokens_in ws ++ rest))) (line_of_others line)
        ∙ reaches_others semicolon line colon s end rest nearest less e)

    abbrev so_far : Elements → Arms
    so_far elements = record { elements = elements; others = tree.no_others }

    -- elements, behind which the loop goes on with the turns that are left
    reaches_arms_on : (elements : Elements) (left_turns : ℕ) (vs : List Word) (r : Out Arms) (rest : List Token)
        → AreNearestElements elements → most ≡ left_turns + turns_of_elements elements
        → length (elements_words n elements) < most → EndsElement (head (tokens_in vs ++ rest)).kind
        → Reaches (turns (behind_arm statement most n) left_turns (so_far elements)) vs r rest
        → Reaches (arms_by statement most n) (elements_words n elements ++ vs) r rest
    reaches_arms_on (tree.first_element constants colon s) left_turns vs r rest nearest is less end go_on =
        let same : left_turns ≡ most = omega (arith, is) in
        let element : Element = record { constants = constants; colon = colon; statement = s } in
        let us = words_of constants in
        let ws = at n k.Colon colon ∷ statement_words n s in
        let count : length (us ++ ws) ≡ length us + length ws = length-append us ws in
        let short : length us < most = omega (arith, less, count) in
        let shorter : length (statement_words n s) < most = omega (arith, less, count) in
        let first_turn = λ (element : Element). turns (behind_arm statement most n) most
        (first_arm statement most element) in
        let behind = λ (constants : Separated Constant). bind (element_by statement most n constants) first_turn in
        subst (λ all. Reaches (arms_by statement most n) all r rest) (sym (append_assoc us ws vs))
        (reaches_bind (items_by constant most) behind us (ws ++ vs) constants r rest
        (reaches_constants constants colon (statement_words n s ++ vs) rest short)
        (reaches_bind (element_by statement most n constants) first_turn ws vs element r rest
        (reaches_element element (tokens_in vs ++ rest) nearest.0 nearest.1 shorter end)
        (subst (λ m. Reaches (turns (behind_arm statement most n) m (first_arm statement most element)) vs r rest) same
        go_on)))
    reaches_arms_on (tree.more_elements elements line constants colon s) left_turns vs r rest nearest is less
        end go_on =
        let element : Element = record { constants = constants; colon = colon; statement = s } in
        let w = at n k.Semicolon line in
        let us = elements_words n elements in
        let ws = element_words n element in
        let new = with_arm elements line (one_more element) in
        let count : length (us ++ w ∷ ws) ≡ length us + length (w ∷ ws) = length-append us (w ∷ ws) in
        let more_turns : most ≡ suc left_turns + turns_of_elements elements = omega (arith, is) in
        let shorter : length us < most = omega (arith, less, count) in
        let short : length ws < most = omega (arith, less, count) in
        let turn = look (next_arm_at statement most n line) in
        subst (λ all. Reaches (arms_by statement most n) all r rest) (sym (append_assoc us (w ∷ ws) vs))
        (reaches_arms_on elements (suc left_turns) (w ∷ (ws ++ vs)) r rest nearest.0 more_turns shorter tt
        (reaches_more (behind_arm statement most n) left_turns (so_far elements) w new ws vs
        (bind turn (λ arm. done (with_arm elements line arm))) r rest refl (sound_says n k.Semicolon nothing line fits)
        (reaches_last turn (λ arm. done (with_arm elements line arm)) ws (one_more element) (tokens_in vs ++ rest)
        (reaches_one_more line element (tokens_in vs ++ rest) nearest.1 nearest.2 short end))
        go_on))

    no_arm_by : (elements : Elements) (end : Others) (kind : Kind) (payload : Payload) (line : ℕ) → IsEnd kind
        → behind_arm_by statement most n elements end kind payload line ≡ ends
    no_arm_by elements tree.no_others k.End payload line e = refl
    no_arm_by elements (tree.semicolon semicolon) k.End payload line e = refl
    no_arm_by elements (tree.others semicolon name colon s end) k.End payload line e = refl
    no_arm_by elements end kind payload line e = absurd e

    no_arm : (arms : Arms) (kind : Kind) (payload : Payload) (line : ℕ) → IsEnd kind
        → behind_arm statement most n arms kind payload line ≡ ends
    no_arm arms kind payload line e = no_arm_by arms.elements arms.others kind payload line e

    -- the turn of what ends the elements
    reaches_tail_turn : (elements : Elements) (left_turns line : ℕ) (end : Others) (ws : List Word) (rest : List Token)
        → IsEnd (head rest).kind
        → Reaches (look (next_arm_at statement most n line)) ws (Ok (tail end, rest)) rest
        → Reaches (turns (behind_arm statement most n) (suc (suc left_turns)) (so_far elements))
        (at n k.Semicolon line ∷ ws) (Ok (record { elements = elements; others = end }, rest)) rest
    reaches_tail_turn elements left_turns line end ws rest e read =
        let w = at n k.Semicolon line in
        let turn = look (next_arm_at statement most n line) in
        let new : Arms = record { elements = elements; others = end } in
        subst (λ all. Reaches (turns (behind_arm statement most n) (suc (suc left_turns)) (so_far elements)) (w ∷ all)
        (Ok (new, rest)) rest) (append-nil ws)
        (reaches_more (behind_arm statement most n) (suc left_turns) (so_far elements) w new ws []
        (bind turn (λ arm. done (with_arm elements line arm))) (Ok (new, rest)) rest refl
        (sound_says n k.Semicolon nothing line fits)
        (reaches_last turn (λ arm. done (with_arm elements line arm)) ws (tail end) rest read)
        (reaches_end (behind_arm statement most n) left_turns new rest
        (no_arm new (head rest).kind (head rest).payload (head rest).line e)))

    reaches_tail_turns : (elements : Elements) (left_turns : ℕ) (end : Others) (rest : List Token)
        → IsNearestTail end → length (others_words n end) < suc most → 1 < most → IsEnd (head rest).kind
        → Reaches (turns (behind_arm statement most n) (suc (suc left_turns)) (so_far elements)) (others_words n end)
        (Ok (record { elements = elements; others = end }, rest)) rest
    reaches_tail_turns elements left_turns tree.no_others rest nearest less one e =
        reaches_end (behind_arm statement most n) (suc left_turns) (so_far elements) rest
        (no_arm (so_far elements) (head rest).kind (head rest).payload (head rest).line e)
    reaches_tail_turns elements left_turns (tree.semicolon line) rest nearest less one e =
        reaches_tail_turn elements left_turns line (tree.semicolon line) [] rest e (reaches_semicolon line rest e)
    reaches_tail_turns elements left_turns (tree.others line name colon s end) rest nearest less one e =
        let ws = statement_words n s in
        let last = maybe n k.Semicolon end in
        let count : length (ws ++ last) ≡ length ws + length last = length-append ws last in
        let short : length ws < most = omega (arith, less, count) in
        reaches_tail_turn elements left_turns line (tree.others line name colon s end)
        (others_word n name ∷ (at n k.Colon colon ∷ (ws ++ last))) rest e
        (reaches_tail line name colon s end rest nearest short one e)

    tail_ends : (end : Others) (rest : List Token) → IsEnd (head rest).kind
        → EndsElement (head (tokens_in (others_words n end) ++ rest)).kind
    tail_ends tree.no_others rest e = end_ends (head rest).kind e
    tail_ends (tree.semicolon line) rest e = tt
    tail_ends (tree.others line name colon s end) rest e = tt

    pub reaches_arms : (arms : Arms) (rest : List Token) → AreNearestElements arms.elements → IsNearestTail arms.others
        → length (elements_words n arms.elements ++ others_words n arms.others) < most → IsEnd (head rest).kind
        → Reaches (arms_by statement most n) (elements_words n arms.elements ++ others_words n arms.others)
        (Ok (arms, rest)) rest
    reaches_arms arms rest nearest nearest_tail less e =
        let us = elements_words n arms.elements in
        let vs = others_words n arms.others in
        let count : length (us ++ vs) ≡ length us + length vs = length-append us vs in
        let few = few_turns n arms.elements in
        let left_turns = most - suc (suc (turns_of_elements arms.elements)) in
        let is : most ≡ suc (suc left_turns) + turns_of_elements arms.elements = omega (arith, less, count, few) in
        let shorter : length us < most = omega (arith, less, count) in
        let short : length vs < suc most = omega (arith, less, count) in
        let one : 1 < most = omega (arith, less, count, few) in
        reaches_arms_on arms.elements (suc (suc left_turns)) vs (Ok (arms, rest)) rest nearest is shorter
        (tail_ends arms.others rest e)
        (reaches_tail_turns arms.elements left_turns arms.others rest nearest_tail short one e)
