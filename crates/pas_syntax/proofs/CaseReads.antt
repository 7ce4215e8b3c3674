-- What the readers of the elements of a `case` read.
use Rattle.std.proofs.Common.{◌≡◌, refl, sym, ap, subst, ◌∙◌, ℕ, ◌≤◌, Bool, true, false, List, [], ◌∷◌, ◌++◌}
use Rattle.std.proofs.Common.{append_assoc, Option, Some, None}
use Rattle.std.specs.Prelude.{if◌then◌else◌}
use Rattle.std.specs.Str.{bytes_eq}
use Rattle.std.proofs.lemmas.List.{append-nil}
use Rattle.std.proofs.lemmas.Slice.Eq.{bytes_eq-Decides}
use Rattle.std.proofs.lemmas.Bool.Decides.{not_from_Decides}
use Rattle.pas_tokens.specs.declared.kinds.Kind.{Kind}
use Rattle.pas_tokens.specs.declared.kinds.Kind.TheVariants as k
use Rattle.pas_tokens.specs.Cutting.{Payload, nothing}
use Rattle.pas_syntax.specs.declared.limits.TheConstants.{NESTING_LIMIT}
use Rattle.pas_syntax.specs.Tree as tree
use Rattle.pas_syntax.specs.Tree.{Ident, Behind, Separated, Constant, Statement, Elements, Others, others_name}
use Rattle.pas_syntax.specs.Words.{Word, at, name_at, separated, constant_words, statement_words}
use Rattle.pas_syntax.specs.Words.{elements_words, others_words, others_word}
use Rattle.pas_syntax.specs.Nearest.{last_behind, last_item, IsNotOthers, IsNearestStatement, AreNearestElements}
use Rattle.pas_syntax.specs.Nearest.{IsNearestTail}
use Rattle.pas_syntax.specs.inner.Prog.{Prog, done, look, bind, head, turns}
use Rattle.pas_syntax.specs.inner.TypeReaders.{pushed, single, items_by, constant}
use Rattle.pas_syntax.specs.inner.Marks.{mark, maybe_mark}
use Rattle.pas_syntax.specs.inner.StatementReaders.{Element, Arm, one_more, tail, Arms, with_arm, is_others}
use Rattle.pas_syntax.specs.inner.StatementReaders.{others_line_by}
use Rattle.pas_syntax.specs.inner.StatementReaders.{others_line, unless_others, element_by, others_by, colon_behind}
use Rattle.pas_syntax.specs.inner.StatementReaders.{behind_constants, next_arm_at, behind_arm_by, behind_arm}
use Rattle.pas_syntax.specs.inner.StatementReaders.{first_arm}
use Rattle.pas_syntax.specs.inner.StatementReaders.{arms_by}
use Rattle.pas_syntax.proofs.Good.{a_token, ReadsAt, Reads, reads_look, reads_done, reads_wrong, reads_skip}
use Rattle.pas_syntax.proofs.TurnLemmas.{Any, Begins, reads_turns}
use Rattle.pas_syntax.proofs.WordLemmas.{sound_says}
use Rattle.pas_syntax.proofs.ExprReads.{IsTaken}
use Rattle.pas_syntax.proofs.ItemLemmas.{AreItems, one_item_more, reads_items}
use Rattle.pas_syntax.proofs.ConstantLemmas.{reads_constant}
use Rattle.pas_syntax.proofs.MarkLemmas.{zero_numeral, MayBeTaken, reads_maybe}
use Rattle.pas_syntax.proofs.SomeReads.{Tree, ReadsSome, reads_then_at, reads_then, reads_last}
use Rattle.pas_syntax.proofs.PhraseReads.{IsStatement, BehindStatement, zero_word, zero_statement, a_mark}

-- the last of constants, and the name `others`
pub last_pushed : {A : Type 0} (first : A) (items : List (Behind A)) (line : ℕ) (item : A)
    → last_behind first (items ++ record { line = line; item = item } ∷ []) ≡ item
last_pushed first [] line item = refl
last_pushed first (next ∷ items) line item = last_pushed next.item items line item

pub not_others : (c : Constant) → is_others c ≡ false → IsNotOthers c
not_others (tree.number lead numeral) e = tt
not_others (tree.named lead name) e =
    not_from_Decides (bytes_eq name.name others_name) (bytes_eq-Decides name.name others_name) e
not_others (tree.text quoted) e = tt

name_alone : (n : ℕ) (name : Ident) (line : ℕ) (b : Bool) → bytes_eq name.name others_name ≡ b
    → (if b then Some name.line else None) ≡ Some line → name_at n name ∷ [] ≡ others_word n line ∷ []
name_alone n name line true e is =
    let spelled : name.name ≡ others_name = (bytes_eq-Decides name.name others_name).0 e in cc
name_alone n name line false e is = cc

alone_by : (n : ℕ) (first : Constant) (items : List (Behind Constant)) (line : ℕ)
    → others_line_by first items ≡ Some line
    → separated n k.Comma (constant_words n) (record { first = first; more = items }) ≡ others_word n line ∷ []
alone_by n (tree.named None name) [] line is = name_alone n name line (bytes_eq name.name others_name) refl is
alone_by n (tree.named (Some lead) name) [] line is = cc
alone_by n (tree.named None name) (next ∷ items) line is = cc
alone_by n (tree.named (Some lead) name) (next ∷ items) line is = cc
alone_by n (tree.number lead numeral) items line is = cc
alone_by n (tree.text quoted) items line is = cc

-- constants before a colon that are the name `others` alone are its word
pub others_alone : (n : ℕ) (constants : Separated Constant) (line : ℕ) → others_line constants ≡ Some line
    → separated n k.Comma (constant_words n) constants ≡ others_word n line ∷ []
others_alone n constants line is = alone_by n constants.first constants.more line is

-- what an element and an arm are spelled
abbrev pub element_words : ℕ → Element → List Word
element_words n element =
    separated n k.Comma (constant_words n) element.constants
    ++ at n k.Colon element.colon ∷ statement_words n element.statement

abbrev pub IsElement : ℕ → Element → List Word → Type 0
IsElement n element ws =
    (ws ≡ element_words n element) × IsNotOthers (last_item element.constants) × IsNearestStatement element.statement

abbrev pub arm_words : ℕ → ℕ → Arm → List Word
arm_words n line (one_more element) = at n k.Semicolon line ∷ element_words n element
arm_words n line (tail end) = others_words n end

abbrev pub IsNearestArm : Arm → Type 0
IsNearestArm (one_more element) = IsNotOthers (last_item element.constants) × IsNearestStatement element.statement
IsNearestArm (tail end) = IsNearestTail end

abbrev pub IsArm : ℕ → ℕ → Arm → List Word → Type 0
IsArm n line arm ws = (at n k.Semicolon line ∷ ws ≡ arm_words n line arm) × IsNearestArm arm

abbrev pub AreArms : ℕ → Arms → List Word → Type 0
AreArms n arms ws =
    (ws ≡ elements_words n arms.elements ++ others_words n arms.others) × AreNearestElements arms.elements
    × IsNearestTail arms.others

abbrev pub zero_constant : Constant
zero_constant = tree.number None zero_numeral

module _ (statement : ℕ → Prog Statement) (most : ℕ)
    (h : (n : ℕ) → n ≤ NESTING_LIMIT → Reads (IsStatement n) BehindStatement (statement n)) where
  pub a_statement : (n : ℕ) → n ≤ NESTING_LIMIT → ReadsSome (IsStatement n) BehindStatement (statement n)
  a_statement n fits = record { reads = h n fits; some = (zero_statement, [], (refl, tt)) }

  module _ (n : ℕ) (fits : n ≤ NESTING_LIMIT) where
    abbrev AreConstants : Separated Constant → List Word → Type 0
    AreConstants = AreItems n (constant_words n)

    some_constants : ReadsSome AreConstants Any (items_by constant most)
    some_constants =
        record {
          reads = reads_items n (constant_words n) fits constant (reads_constant n fits) zero_constant most;
          some = (single zero_constant, zero_word n ∷ [], refl);
        }

    module _ (constants : Separated Constant) (us : List Word) (is : AreConstants constants us) where
      abbrev GoesOn : Element → List Word → Type 0
      GoesOn element ws = IsElement n element (us ++ ws)

      -- with a number more, the constants are those of an element
      an_end : Tree GoesOn
      an_end =
          let all = pushed constants 0 zero_constant in
          let element : Element = record { constants = all; colon = 0; statement = zero_statement } in
          let front = at n k.Comma 0 ∷ (zero_word n ∷ []) in
          let colon = at n k.Colon 0 ∷ [] in
          let last = last_pushed constants.first constants.more 0 zero_constant in (
            element,
            front ++ colon,
            (
              sym (append_assoc us front colon) ∙ ap (λ ws. ws ++ colon)
                  (one_item_more n (constant_words n) constants us 0 zero_constant (zero_word n ∷ []) is refl),
              subst IsNotOthers (sym last) tt,
              tt,
            ),
          )

      reads_element_by : (b : Bool) → is_others (last_item constants) ≡ b
          → Reads GoesOn Any (unless_others b (bind (mark k.Colon) (λ colon. bind (statement n)
          (λ s. done (record { constants = constants; colon = colon; statement = s })))))
      unfolding an_end
      reads_element_by true e =
          λ ts. reads_wrong GoesOn Any (head ts) an_end.0 (at n k.Comma 0) (zero_word n ∷ (at n k.Colon 0 ∷ []))
          an_end.2 ts refl
      reads_element_by false e =
          let make : ℕ → Statement → Element = λ colon s.
          record { constants = constants; colon = colon; statement = s } in
          (reads_then (IsTaken n k.Colon) Any GoesOn Any (mark k.Colon)
          (λ colon. bind (statement n) (λ s. done (make colon s))) (a_mark most n fits k.Colon (λ e. cc))
          (λ colon vs also. reads_last (IsStatement n) BehindStatement (λ x ws. GoesOn x (vs ++ ws)) Any (statement n)
          (make colon) (a_statement n fits)
          (λ s ws third. (rw (is, also, third.0) refl, not_others (last_item constants) e, third.1))
          (λ s t any. tt))).reads

      pub an_element : ReadsSome GoesOn Any (element_by statement most n constants)
      an_element = record { reads = reads_element_by (is_others (last_item constants)) refl; some = an_end }

      module _ (semicolon : ℕ) where
        abbrev ArmGoesOn : Arm → List Word → Type 0
        ArmGoesOn arm ws = IsArm n semicolon arm (us ++ ws)

        one_element_more : ReadsSome ArmGoesOn Any
            (bind (element_by statement most n constants) (λ element. done (one_more element)))
        one_element_more =
            reads_last GoesOn Any ArmGoesOn Any (element_by statement most n constants) (λ element. one_more element)
            an_element
            (λ element ws also. (ap (λ all. at n k.Semicolon semicolon ∷ all) also.0, (also.1, also.2)))
            (λ element t any. tt)

        reads_others : (line colon : ℕ) → us ≡ others_word n line ∷ []
            → ReadsAt (a_token k.Colon nothing colon) ArmGoesOn Any (others_by statement most n semicolon line colon)
        reads_others line colon alone =
            let w = at n k.Colon colon in
            let make = λ (s : Statement) (end : Option ℕ). tail (tree.others semicolon line colon s end) in
            let further = λ (s : Statement). bind (maybe_mark k.Semicolon) (λ end. done (make s end)) in
            reads_skip ArmGoesOn Any w (bind (statement n) further) (λ e. cc) (sound_says n k.Colon nothing colon fits)
            (reads_then (IsStatement n) BehindStatement (λ arm ws. ArmGoesOn arm (w ∷ ws)) Any (statement n) further
            (a_statement n fits)
            (λ s vs also. reads_last (MayBeTaken n k.Semicolon) Any
            (λ arm ws. ArmGoesOn arm (w ∷ (vs ++ ws))) Any (maybe_mark k.Semicolon) (make s)
            (record { reads = reads_maybe n fits k.Semicolon (λ e. cc); some = (None, [], refl) })
            (λ end ws third. (rw (alone, also.0, third) refl, also.1)) (λ end t any. tt))).reads

        reads_colon_behind : (colon : ℕ) (line : Option ℕ) → others_line constants ≡ line
            → ReadsAt (a_token k.Colon nothing colon) ArmGoesOn Any
            (colon_behind statement most n semicolon constants colon line)
        reads_colon_behind colon (Some line) e =
            reads_others line colon (is ∙ others_alone n constants line e)
        reads_colon_behind colon None e = λ ts at_t. one_element_more.reads ts

        reads_behind_constants : (kind : Kind) (payload : Payload) (line : ℕ)
            → ReadsAt (a_token kind payload line) ArmGoesOn Any
            (behind_constants statement most n semicolon constants kind payload line)
        reads_behind_constants k.Colon nothing line = reads_colon_behind line (others_line constants) refl
        reads_behind_constants kind payload line = λ ts at_t. one_element_more.reads ts

        pub behind_them : ReadsSome ArmGoesOn Any (look (behind_constants statement most n semicolon constants))
        behind_them =
            record {
              reads = reads_look ArmGoesOn Any (behind_constants statement most n semicolon constants)
                  reads_behind_constants;
              some = one_element_more.some;
            }

    -- what stands behind a semicolon in a case
    an_arm : (semicolon : ℕ) → ReadsSome (IsArm n semicolon) Any (bind (items_by constant most)
        (λ constants. look (behind_constants statement most n semicolon constants)))
    an_arm semicolon =
        reads_then AreConstants Any (IsArm n semicolon) Any (items_by constant most)
        (λ constants. look (behind_constants statement most n semicolon constants)) some_constants
        (λ constants us is. behind_them constants us is semicolon)

    reads_next_arm_at : (semicolon : ℕ) (kind : Kind) (payload : Payload) (line : ℕ)
        → ReadsAt (a_token kind payload line) (IsArm n semicolon) Any
        (next_arm_at statement most n semicolon kind payload line)
    reads_next_arm_at semicolon k.End payload line =
        reads_done (IsArm n semicolon) Any (a_token k.End payload line) (tail (tree.semicolon semicolon)) (refl, tt) tt
    reads_next_arm_at semicolon kind payload line = λ ts is. (an_arm semicolon).reads ts

    next_arm : (semicolon : ℕ) → ReadsSome (IsArm n semicolon) Any (look (next_arm_at statement most n semicolon))
    next_arm semicolon =
        record {
          reads = reads_look (IsArm n semicolon) Any (next_arm_at statement most n semicolon)
              (reads_next_arm_at semicolon);
          some = (tail (tree.semicolon semicolon), [], (refl, tt));
        }

    -- the loop
    one_arm_more : (elements : Elements) (us : List Word) (line : ℕ) (arm : Arm) (vs : List Word)
        → AreArms n (record { elements = elements; others = tree.no_others }) us → IsArm n line arm vs
        → AreArms n (with_arm elements line arm) (us ++ at n k.Semicolon line ∷ vs)
    one_arm_more elements us line (one_more element) vs is also =
        let first : us ≡ elements_words n elements = is.0 ∙ append-nil (elements_words n elements) in
        let all = elements_words n elements ++ at n k.Semicolon line ∷ element_words n element in (
          rw first (ap (λ ws. elements_words n elements ++ ws) also.0) ∙ sym (append-nil all),
          (is.1, also.1.0, also.1.1),
          tt,
        )
    one_arm_more elements us line (tail end) vs is also =
        let first : us ≡ elements_words n elements = is.0 ∙ append-nil (elements_words n elements) in
        (rw first (ap (λ ws. elements_words n elements ++ ws) also.0), is.1, also.1)

    begins_arms_by : (elements : Elements) (end : Others) (us : List Word)
        → AreArms n (record { elements = elements; others = end }) us → (kind : Kind) (payload : Payload) (line : ℕ)
        → Begins (AreArms n) us (a_token kind payload line)
        (behind_arm_by statement most n elements end kind payload line)
    begins_arms_by elements tree.no_others us is k.Semicolon nothing line =
        let w = at n k.Semicolon line in (
          w,
          refl,
          (λ e. cc),
          sound_says n k.Semicolon nothing line fits,
          (reads_last (IsArm n line) Any (λ arms vs. AreArms n arms (us ++ w ∷ vs)) Any
              (look (next_arm_at statement most n line)) (with_arm elements line) (next_arm line)
              (λ arm vs also. one_arm_more elements us line arm vs is also) (λ arm t any. tt)).reads,
          (
            with_arm elements line (tail (tree.semicolon line)),
            [],
            one_arm_more elements us line (tail (tree.semicolon line)) [] is (refl, tt),
          ),
        )
    begins_arms_by elements end us is kind payload line = tt

    -- elements, and what stands behind them
    pub some_arms : ReadsSome (AreArms n) Any (arms_by statement most n)
    some_arms =
        let first_turn = λ (element : Element). turns (behind_arm statement most n) most
        (first_arm statement most element) in
        reads_then AreConstants Any (AreArms n) Any (items_by constant most)
        (λ constants. bind (element_by statement most n constants) first_turn) some_constants
        (λ constants us is. reads_then_at (λ x ws. IsElement n x (us ++ ws)) Any (λ x ws. AreArms n x (us ++ ws)) Any
        (element_by statement most n constants) first_turn (an_element constants us is)
        (λ element vs t also any ts at_t. read_on element us vs also ts)
        (λ element vs also. (first_arm statement most element, [], read_first element us vs also)))
      where
        read_first : (element : Element) (us vs : List Word) → IsElement n element (us ++ vs)
            → AreArms n (first_arm statement most element) (us ++ (vs ++ []))
        read_first element us vs is =
            (rw (append-nil vs) (is.0 ∙ sym (append-nil (element_words n element))), (is.1, is.2), tt)

        read_on : (element : Element) (us vs : List Word) → IsElement n element (us ++ vs)
            → Reads (λ x ws. AreArms n x (us ++ (vs ++ ws))) Any
            (turns (behind_arm statement most n) most (first_arm statement most element))
        read_on element us vs is =
            subst (λ P. Reads P Any (turns (behind_arm statement most n) most (first_arm statement most element)))
            (λ i x ws. AreArms n x (append_assoc us vs ws i))
            (reads_turns (AreArms n) (behind_arm statement most n)
            (λ arms us is. begins_arms_by arms.elements arms.others us is) most (first_arm statement most element)
            (us ++ vs) (is.0 ∙ sym (append-nil (element_words n element)), (is.1, is.2), tt))
