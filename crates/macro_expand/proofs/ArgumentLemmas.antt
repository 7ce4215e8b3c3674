-- The argument of a parametric macro in the list and in the levels.
use Rattle.std.proofs.Common.{◌≡◌, ℕ, zero, suc, ◌+◌, ◌-◌, ◌<◌, ◌≤◌, Bool, true, false, nat_lt, if◌then◌else◌}
use Rattle.std.proofs.Common.{◌==◌, ◌&&◌, take, drop, min, IsTrue}
use Rattle.std.proofs.Common.{List, [], ◌∷◌, length, Option, Some, None, is_none, Ok, Err, refl, sym, ap}
use Rattle.std.proofs.Common.{◌∙◌, subst, arith, All, add-one}
use Rattle.std.proofs.lemmas.Bool.{and_parts, and_from, and_left, and_right, eqb-true, ne_eqb, lt-ltb}
use Rattle.std.proofs.lemmas.Bool.{le-ltb}
use Rattle.std.proofs.lemmas.Bool.Decides.{nat_tests}
use Rattle.std.proofs.lemmas.List.Elements.{All-head, All-tail, All-cons, All-nil}
use Rattle.std.specs.Option.{option_map}
use Rattle.wb_base.specs.declared.tokens.Tok.{Tok}
use Rattle.wb_base.specs.declared.tokens.Tok.TheVariants as tok
use Rattle.web_scan.specs.declared.pieces.Piece.{Piece}
use Rattle.web_scan.specs.Lawful.{IsTokenOf, IsTextOf, is_balanced_from}
use Rattle.web_scan.specs.Pieces.{pascal_texts_at}
use Rattle.web_scan.specs.Scanned.{Scanned}
use Rattle.macro_expand.specs.declared.refusals.ExpandErr.TheVariants.{NoParameter, Steps}
use Rattle.macro_expand.specs.Expansion.{◌>>=◌, steps_after, replaced, behind_opening, argument_taken}
use Rattle.macro_expand.specs.Expansion.{with_argument}
use Rattle.macro_expand.specs.Flat.{Flat, nothing, token, ends, argument, text_before, ends_in_front}
use Rattle.macro_expand.specs.Flat.{behind_ends}
use Rattle.macro_expand.specs.Flat.{is_opening, is_closing, depth_behind, Parted, with_head, parted}
use Rattle.macro_expand.specs.inner.Levels.{Level, pieces_with, mark_before, list_of, argument_of}
use Rattle.macro_expand.specs.inner.Levels.{is_finished}
use Rattle.macro_expand.specs.inner.Levels.{level_of, IsRest, IsLevel, AreLevels}
use Rattle.macro_expand.specs.declared.arguments.Place.{Place}
use Rattle.macro_expand.specs.declared.frames.Argument.{Argument}
use Rattle.macro_expand.specs.inner.Places.{closing_place, IsTaken}
use Rattle.macro_expand.proofs.LevelsLemmas.{StartsWithin, unfinished}

-- an end at the front takes a step
pub with_argument-ends : (text : List Tok) (steps : ℕ) (list : Flat) → 0 < steps
    → with_argument text steps (ends list) ≡ with_argument text (steps - 1) list
unfolding with_argument
with_argument-ends text steps list some =
    let test : nat_lt steps (ends_in_front list + 1) ≡ nat_lt (steps - 1) (ends_in_front list) = grind (
      arith,
      nat_tests,
    ) in
    let same : steps - (ends_in_front list + 1) ≡ steps - 1 - ends_in_front list = omega arith in
    ap (λ (b : Bool). (if b then Err Steps else Ok (steps - (ends_in_front list + 1)))
    >>= (λ steps. behind_opening (behind_ends list) >>= argument_taken text steps)) test
    ∙ ap (λ (left : ℕ). (if nat_lt (steps - 1) (ends_in_front list) then Err Steps else Ok left)
    >>= (λ steps. behind_opening (behind_ends list) >>= argument_taken text steps)) same

pub with_argument-no_step : (text : List Tok) (list : Flat) → with_argument text 0 (ends list) ≡ Err Steps
unfolding with_argument
with_argument-no_step text list =
    let test : nat_lt 0 (ends_in_front list + 1) ≡ true = lt-ltb 0 (ends_in_front list + 1) (omega arith) in
    ap (λ (b : Bool). (if b then Err Steps else Ok (0 - (ends_in_front list + 1)))
    >>= (λ steps. behind_opening (behind_ends list) >>= argument_taken text steps)) test

-- what is left where the list begins with no end
pub with_argument-within : (text : List Tok) (steps : ℕ) (list : Flat) → StartsWithin list
    → with_argument text steps list ≡ behind_opening list >>= argument_taken text steps
unfolding with_argument
with_argument-within text steps list within =
    let test : nat_lt steps (ends_in_front list) ≡ false = le-ltb steps (ends_in_front list) (omega (
      arith,
      within.none,
    )) in
    let same : steps - ends_in_front list ≡ steps = omega (arith, within.none) in
    ap (λ (b : Bool). (if b then Err Steps else Ok (steps - ends_in_front list))
    >>= (λ steps. behind_opening (behind_ends list) >>= argument_taken text steps)) test
    ∙ ap (λ (left : ℕ). behind_opening (behind_ends list) >>= argument_taken text left) same
    ∙ ap (λ (list : Flat). behind_opening list >>= argument_taken text steps) within.same

pub with_argument-nothing : (text : List Tok) (steps : ℕ) → with_argument text steps nothing ≡ Err NoParameter
with_argument-nothing text steps = with_argument-within text steps nothing (record { none = refl; same = refl })

-- a place one further
shorter : (found : Option ℕ) (count : ℕ) → option_map suc found ≡ Some count
    → (less : ℕ) × (found ≡ Some less) × (suc less ≡ count)
shorter None count is = absurd (cc)
shorter (Some less) count is = let same : suc less ≡ count = cc in (less, refl, same)

-- the list is parted where the text is
abbrev parts : Flat → Flat → List Tok → ℕ → Parted
parts given rest text count =
    record {
      inside = text_before given (take count text) nothing;
      count = count;
      behind = text_before given (drop
          (suc count) text) rest;
    }

pub parted-text_before : (given : Flat) (rest : Flat) (depth : ℕ) (text : List Tok) (count : ℕ)
    → closing_place depth text ≡ Some count
    → parted depth (text_before given text rest) ≡ parts given rest text count
parted-text_before given rest depth [] count is = absurd (cc)
parted-text_before given rest depth (tok.Param ∷ text) count is =
    let less = shorter (closing_place depth text) count is in
    ap (with_head (argument given)) (parted-text_before given rest depth text less.0 less.1)
    ∙ ap (λ (more : ℕ). record {
      inside = argument given (text_before given (take less.0 text) nothing);
      count =
          more;
      behind = text_before given (drop (suc less.0) text) rest;
    }) (add-one less.0)
    ∙ ap (parts given rest (tok.Param ∷ text)) less.2
parted-text_before given rest depth (tok.Sign byte ∷ text) count is =
    signs (byte == 41 && depth == 0) is (λ less at. parted-text_before given rest (depth_behind depth (tok.Sign
    byte)) text less at)
  where
    signs : (b : Bool) → (if b then Some 0 else option_map suc (closing_place (depth_behind depth (tok.Sign byte))
        text)) ≡ Some count
        → ((less : ℕ) → closing_place (depth_behind depth (tok.Sign byte)) text ≡ Some less
        → parted (depth_behind depth (tok.Sign byte)) (text_before given text rest) ≡ parts given rest text less)
        → (if b then record { inside = nothing; count = 0; behind = text_before given text rest }
        else with_head (token (tok.Sign byte)) (parted (depth_behind depth (tok.Sign byte)) (text_before given text
        rest)))
        ≡ parts given rest (tok.Sign byte ∷ text) count
    signs true is further = let none : 0 ≡ count = cc in ap (parts given rest (tok.Sign byte ∷ text)) none
    signs false is further =
        let less = shorter (closing_place (depth_behind depth (tok.Sign byte)) text) count is in
        ap (with_head (token (tok.Sign byte))) (further less.0 less.1)
        ∙ ap (λ (more : ℕ). record {
          inside = token (tok.Sign byte) (text_before given (take less.0 text) nothing);
          count = more;
          behind = text_before given (drop (suc less.0) text) rest;
        }) (add-one less.0)
        ∙ ap (parts given rest (tok.Sign byte ∷ text)) less.2
parted-text_before given rest depth (head ∷ text) count is =
    let less = shorter (closing_place depth text) count is in
    ap (with_head (token head)) (parted-text_before given rest depth text less.0 less.1)
    ∙ ap (λ (more : ℕ). record {
      inside = token head (text_before given (take less.0 text) nothing);
      count = more;
      behind = text_before given (drop (suc less.0) text) rest;
    }) (add-one less.0)
    ∙ ap (parts given rest (head ∷ text)) less.2

-- where parentheses balance, a text is closed: at its `)`, the text before it balances, and what is behind it does
pub record Closed (depth outer : ℕ) (text : List Tok) : Type 0 where
  pub count : ℕ
  pub place : closing_place depth text ≡ Some count
  pub within : count < length text
  pub before : IsTrue (is_balanced_from depth (take count text))
  pub behind : IsTrue (is_balanced_from outer (drop (suc count) text))

-- the same with one more token in front
closed_further : (depth outer : ℕ) (head : Tok) (text : List Tok) → (is_closing head && depth == 0) ≡ false
    → ((rest : List Tok) → IsTrue (is_balanced_from (depth_behind depth head) rest)
    → IsTrue (is_balanced_from depth (head ∷ rest)))
    → Closed (depth_behind depth head) outer text → Closed depth outer (head ∷ text)
closed_further depth outer head text test balanced is = record {
  count = suc is.count;
  place = ap (λ (b : Bool). if b then Some 0 else option_map suc (closing_place (depth_behind depth head) text))
      test ∙ ap (option_map suc) is.place;
  within = omega (arith, is.within);
  before = balanced (take is.count text) is.before;
  behind = is.behind;
}

-- a `(`
closed_opening : (depth outer byte : ℕ) (text : List Tok) → (byte == 40) ≡ true → Closed (depth + 1) outer text
    → Closed depth outer (tok.Sign byte ∷ text)
closed_opening depth outer byte text opening is =
    let other : (byte == 41) ≡ false = ne_eqb byte 41 (λ same. omega (arith, eqb-true byte 40 opening)) in
    let deeper : depth_behind depth (tok.Sign byte) ≡ depth + 1 =
    ap (λ (b : Bool). if b then depth + 1 else (if byte == 41 then depth - 1 else depth)) opening in
    closed_further depth outer (tok.Sign byte) text (and_left (byte == 41) (depth == 0) other)
    (λ (rest : List Tok) (balanced : IsTrue (is_balanced_from (depth_behind depth (tok.Sign byte)) rest)).
    subst (λ (b : Bool). IsTrue (if b then is_balanced_from (depth + 1) rest
    else (if byte == 41 then nat_lt 0 depth && is_balanced_from (depth - 1) rest else is_balanced_from depth
    rest))) (sym opening)
    (subst (λ (d : ℕ). IsTrue (is_balanced_from d rest)) deeper balanced))
    (subst (λ (d : ℕ). Closed d outer text) (sym deeper) is)

-- a `)` that closes an inner parenthesis
closed_closing : (depth outer byte : ℕ) (text : List Tok) → (byte == 40) ≡ false → (byte == 41) ≡ true
    → (depth == 0) ≡ false
    → Closed (depth - 1) outer text → Closed depth outer (tok.Sign byte ∷ text)
closed_closing depth outer byte text opening closing some is =
    let inner : 0 < depth = grind (arith, nat_tests) in
    let less : depth_behind depth (tok.Sign byte) ≡ depth - 1 =
    ap (λ (b : Bool). if b then depth + 1 else (if byte == 41 then depth - 1 else depth)) opening
    ∙ ap (λ (b : Bool). if b then depth - 1 else depth) closing in
    closed_further depth outer (tok.Sign byte) text (and_right (byte == 41) (depth == 0) some)
    (λ (rest : List Tok) (balanced : IsTrue (is_balanced_from (depth_behind depth (tok.Sign byte)) rest)).
    subst (λ (b : Bool). IsTrue (if b then is_balanced_from (depth + 1) rest
    else (if byte == 41 then nat_lt 0 depth && is_balanced_from (depth - 1) rest else is_balanced_from depth
    rest))) (sym opening)
    (subst (λ (b : Bool). IsTrue (if b then nat_lt 0 depth && is_balanced_from (depth - 1) rest else
    is_balanced_from depth rest)) (sym closing)
    (and_from (nat_lt 0 depth) (is_balanced_from (depth - 1) rest) (lt-ltb 0 depth inner)
    (subst (λ (d : ℕ). IsTrue (is_balanced_from d rest)) less balanced))))
    (subst (λ (d : ℕ). Closed d outer text) (sym less) is)

-- the `)` that closes the text
closed_here : (depth outer byte : ℕ) (text : List Tok) → (byte == 41) ≡ true → (depth == 0) ≡ true
    → IsTrue (is_balanced_from outer text) → Closed depth outer (tok.Sign byte ∷ text)
closed_here depth outer byte text closing none balanced = record {
  count = 0;
  place = ap (λ (b : Bool). if b then Some 0 else option_map suc (closing_place (depth_behind depth (tok.Sign
      byte)) text))
      (and_from (byte == 41) (depth == 0) closing none);
  within = omega arith;
  before = none;
  behind = balanced;
}

-- another sign
closed_other : (depth outer byte : ℕ) (text : List Tok) → (byte == 40) ≡ false → (byte == 41) ≡ false
    → Closed depth outer text
    → Closed depth outer (tok.Sign byte ∷ text)
closed_other depth outer byte text opening closing is =
    let same : depth_behind depth (tok.Sign byte) ≡ depth =
    ap (λ (b : Bool). if b then depth + 1 else (if byte == 41 then depth - 1 else depth)) opening
    ∙ ap (λ (b : Bool). if b then depth - 1 else depth) closing in
    closed_further depth outer (tok.Sign byte) text (and_left (byte == 41) (depth == 0) closing)
    (λ (rest : List Tok) (balanced : IsTrue (is_balanced_from (depth_behind depth (tok.Sign byte)) rest)).
    subst (λ (b : Bool). IsTrue (if b then is_balanced_from (depth + 1) rest
    else (if byte == 41 then nat_lt 0 depth && is_balanced_from (depth - 1) rest else is_balanced_from depth
    rest))) (sym opening)
    (subst (λ (b : Bool). IsTrue (if b then nat_lt 0 depth && is_balanced_from (depth - 1) rest else
    is_balanced_from depth rest)) (sym closing)
    (subst (λ (d : ℕ). IsTrue (is_balanced_from d rest)) same balanced)))
    (subst (λ (d : ℕ). Closed d outer text) (sym same) is)

pub closed : (depth outer all : ℕ) (text : List Tok) → all ≡ outer + depth + 1
    → IsTrue (is_balanced_from all text) → Closed depth outer text
closed depth outer all [] is balanced = absurd (omega (arith, eqb-true all 0 balanced))
closed depth outer all (tok.Sign byte ∷ text) is balanced =
    signs (byte == 40) (byte == 41) (depth == 0) refl refl refl balanced (λ all is balanced. closed (depth + 1)
    outer all text is balanced)
    (λ all is balanced. closed (depth - 1) outer all text is balanced) (λ all is balanced. closed depth outer all
    text is balanced)
  where
    signs : (a b none : Bool) → (byte == 40) ≡ a → (byte == 41) ≡ b → (depth == 0) ≡ none
        → IsTrue (if a then is_balanced_from (all + 1) text
        else (if b then nat_lt 0 all && is_balanced_from (all - 1) text else is_balanced_from all text))
        → ((all : ℕ) → all ≡ outer + (depth + 1) + 1 → IsTrue (is_balanced_from all text)
        → Closed (depth + 1) outer text)
        → ((all : ℕ) → all ≡ outer + (depth - 1) + 1 → IsTrue (is_balanced_from all text)
        → Closed (depth - 1) outer text)
        → ((all : ℕ) → all ≡ outer + depth + 1 → IsTrue (is_balanced_from all text) → Closed depth outer text)
        → Closed depth outer (tok.Sign byte ∷ text)
    signs true b none opening closing test balanced more less same =
        closed_opening depth outer byte text opening (more (all + 1) (omega arith) balanced)
    signs false true true opening closing test balanced more less same =
        let here : all - 1 ≡ outer = omega (arith, eqb-true depth 0 test) in
        closed_here depth outer byte text closing test
        (subst (λ (d : ℕ). IsTrue (is_balanced_from d text)) here (and_parts (nat_lt 0 all) (is_balanced_from (all
        - 1) text) balanced).1)
    signs false true false opening closing test balanced more less same =
        let inner : 0 < depth = grind (arith, nat_tests) in
        closed_closing depth outer byte text opening closing test
        (less (all - 1) (omega arith) (and_parts (nat_lt 0 all) (is_balanced_from (all - 1) text) balanced).1)
    signs false false none opening closing test balanced more less same =
        closed_other depth outer byte text opening closing (same all is balanced)
closed depth outer all (head ∷ text) is balanced =
    closed_further depth outer head text refl (λ rest balanced. balanced) (closed depth outer all text is balanced)

-- the place in a front of the text
pub closing_place-take-Some : (depth most : ℕ) (text : List Tok) (count : ℕ)
    → closing_place depth (take most text) ≡ Some count
    → closing_place depth text ≡ Some count
closing_place-take-Some depth zero text count is = absurd (cc)
closing_place-take-Some depth (suc most) [] count is = is
closing_place-take-Some depth (suc most) (head ∷ text) count is =
    by_test (is_closing head && depth == 0) is (λ less at. closing_place-take-Some (depth_behind depth head) most
    text less at)
  where
    by_test : (b : Bool) → (if b then Some 0 else option_map suc (closing_place (depth_behind depth head) (take
        most text))) ≡ Some count
        → ((less : ℕ) → closing_place (depth_behind depth head) (take most text) ≡ Some less
        → closing_place (depth_behind depth head) text ≡ Some less)
        → (if b then Some 0 else option_map suc (closing_place (depth_behind depth head) text)) ≡ Some count
    by_test true is further = is
    by_test false is further =
        let less = shorter (closing_place (depth_behind depth head) (take most text)) count is in
        ap (option_map suc) (further less.0 less.1) ∙ ap Some less.2

pub closing_place-take-None : (depth most : ℕ) (text : List Tok) (count : ℕ)
    → closing_place depth (take most text) ≡ None
    → closing_place depth text ≡ Some count → most ≤ count
closing_place-take-None depth zero text count is at = omega arith
closing_place-take-None depth (suc most) [] count is at = absurd (cc)
closing_place-take-None depth (suc most) (head ∷ text) count is at =
    by_test (is_closing head && depth == 0) is at (λ less is at. closing_place-take-None (depth_behind depth head)
    most text less is at)
  where
    none : (found : Option ℕ) → option_map suc found ≡ None → found ≡ None
    none None is = refl
    none (Some less) is = absurd (cc)

    by_test : (b : Bool) → (if b then Some 0 else option_map suc (closing_place (depth_behind depth head) (take
        most text))) ≡ None
        → (if b then Some 0 else option_map suc (closing_place (depth_behind depth head) text)) ≡ Some count
        → ((less : ℕ) → closing_place (depth_behind depth head) (take most text) ≡ None
        → closing_place (depth_behind depth head) text ≡ Some less → most ≤ less)
        → suc most ≤ count
    by_test true is at further = absurd (cc)
    by_test false is at further =
        let less = shorter (closing_place (depth_behind depth head) text) count at in
        omega (
          arith,
          further less.0 (none (closing_place (depth_behind depth head) (take most text)) is) less.1,
          less.2,
        )

-- whether a text begins with a `(`
abbrev pub is_opened : List Tok → Bool
is_opened [] = false
is_opened (head ∷ text) = is_opening head

behind_opening-none : (tokens : List Tok) (given : Flat) (text : List Tok) (section : Option ℕ) (pieces : List
    Piece) (rest : Flat)
    → ((length text == 0) && (is_none section && (length pieces == 0))) ≡ false → is_opened text ≡ false
    → behind_opening (text_before given text (mark_before section (pieces_with given (pascal_texts_at tokens
    pieces) rest))) ≡ Err NoParameter
behind_opening-none tokens given [] None [] rest left is = absurd (cc)
behind_opening-none tokens given [] None (piece ∷ pieces) rest left is = refl
behind_opening-none tokens given [] (Some number) pieces rest left is = refl
behind_opening-none tokens given (tok.Param ∷ text) section pieces rest left is = refl
behind_opening-none tokens given (tok.Sign byte ∷ text) section pieces rest left is =
    ap (λ (b : Bool). if b then Ok (text_before given text (mark_before section (pieces_with given (pascal_texts_at
    tokens pieces) rest))) else Err NoParameter) is
behind_opening-none tokens given (head ∷ text) section pieces rest left is = refl

-- an unfinished level that does not begin with a `(` holds no argument
pub with_argument-refused : (tokens text : List Tok) (steps : ℕ) (lower : List Level) (top : Level)
    → is_finished top ≡ false
    → is_opened top.text ≡ false → with_argument text steps (list_of tokens (top ∷ lower)) ≡ Err NoParameter
with_argument-refused tokens text steps lower top left is =
    let given = argument_of (top ∷ lower) top.environment in
    with_argument-within text steps (list_of tokens (top ∷ lower)) (unfinished tokens given top (ends (list_of
    tokens lower)) left)
    ∙ ap (λ opened. opened >>= argument_taken text steps)
    (behind_opening-none tokens given top.text top.section top.pieces (ends (list_of tokens lower)) left is)

-- a `(` is the head of its list
behind_opening-text : (given : Flat) (head : Tok) (opened : List Tok) (rest : Flat) → is_opening head ≡ true
    → behind_opening (text_before given (head ∷ opened) rest) ≡ Ok (text_before given opened rest)
behind_opening-text given tok.Param opened rest is = absurd (cc)
behind_opening-text given (tok.Sign byte) opened rest is =
    ap (λ (b : Bool). if b then Ok (text_before given opened rest) else Err NoParameter) is
behind_opening-text given head opened rest is = absurd (cc)

-- the level behind its argument
abbrev pub behind_argument : Level → List Tok → ℕ → Level
behind_argument top opened count = record top { text = drop (suc count) opened }

-- the argument is taken at a level that begins with a `(`
pub with_argument-taken : (tokens text : List Tok) (steps : ℕ) (lower : List Level) (top : Level) (head : Tok)
    (opened : List Tok) (count : ℕ)
    → is_finished top ≡ false → top.text ≡ head ∷ opened → is_opening head ≡ true
    → closing_place 0 opened ≡ Some count
    → with_argument text steps (list_of tokens (top ∷ lower))
    ≡ (steps_after (count + 2) steps >>= (λ steps. replaced steps
    (text_before (text_before (argument_of (top ∷ lower) top.environment) (take count opened) nothing) text
    (ends (list_of tokens (behind_argument top opened count ∷ lower))))))
with_argument-taken tokens text steps lower top head opened count left is opening at =
    let given = argument_of (top ∷ lower) top.environment in
    let rest = mark_before top.section (pieces_with given (pascal_texts_at tokens top.pieces) (ends (list_of tokens
    lower))) in
    with_argument-within text steps (list_of tokens (top ∷ lower)) (unfinished tokens given top (ends (list_of
    tokens lower)) left)
    ∙ ap (λ text_left. behind_opening (text_before given text_left rest) >>= argument_taken text steps) is
    ∙ ap (λ opened. opened >>= argument_taken text steps) (behind_opening-text given head opened rest opening)
    ∙ ap (λ (found : Parted). steps_after (found.count + 2) steps
    >>= (λ steps. replaced steps (text_before found.inside text (ends found.behind)))) (parted-text_before given
    rest 0 opened count at)

-- without the steps for it
pub with_argument-steps_passed : (tokens text : List Tok) (steps : ℕ) (lower : List Level) (top : Level) (head :
    Tok) (opened : List Tok) (count : ℕ)
    → is_finished top ≡ false → top.text ≡ head ∷ opened → is_opening head ≡ true
    → closing_place 0 opened ≡ Some count
    → steps < count + 2 → with_argument text steps (list_of tokens (top ∷ lower)) ≡ Err Steps
with_argument-steps_passed tokens text steps lower top head opened count left is opening at few =
    with_argument-taken tokens text steps lower top head opened count left is opening at
    ∙ ap (λ (b : Bool). (if b then Err Steps else Ok (steps - (count + 2))) >>= (λ steps. replaced steps
    (text_before (text_before (argument_of (top ∷ lower) top.environment) (take count opened) nothing) text
    (ends (list_of tokens (behind_argument top opened count ∷ lower)))))) (lt-ltb steps (count + 2) few)

pub with_argument-steps_left : (tokens text : List Tok) (steps : ℕ) (lower : List Level) (top : Level) (head : Tok)
    (opened : List Tok) (count : ℕ)
    → is_finished top ≡ false → top.text ≡ head ∷ opened → is_opening head ≡ true
    → closing_place 0 opened ≡ Some count
    → count + 2 ≤ steps → with_argument text steps (list_of tokens (top ∷ lower))
    ≡ replaced (steps - (count + 2)) (text_before (text_before (argument_of (top ∷ lower) top.environment) (take
    count opened) nothing) text
    (ends (list_of tokens (behind_argument top opened count ∷ lower))))
with_argument-steps_left tokens text steps lower top head opened count left is opening at few =
    with_argument-taken tokens text steps lower top head opened count left is opening at
    ∙ ap (λ (b : Bool). (if b then Err Steps else Ok (steps - (count + 2))) >>= (λ steps. replaced steps
    (text_before (text_before (argument_of (top ∷ lower) top.environment) (take count opened) nothing) text
    (ends (list_of tokens (behind_argument top opened count ∷ lower)))))) (le-ltb steps (count + 2) few)

-- the text that a level begins with is closed
All-take : {X : Type 0} (P : X → Type 0) (count : ℕ) (xs : List X) → All P xs → All P (take count xs)
All-take P zero xs all = All-nil P
All-take P (suc count) [] all = All-nil P
All-take P (suc count) (x ∷ xs) all = All-cons P x (take count xs) (All-head P x xs all) (All-take P count xs
    (All-tail P x xs all))

All-drop : {X : Type 0} (P : X → Type 0) (count : ℕ) (xs : List X) → All P xs → All P (drop count xs)
All-drop P zero xs all = all
All-drop P (suc count) [] all = All-nil P
All-drop P (suc count) (x ∷ xs) all = All-drop P count xs (All-tail P x xs all)

pub record IsClosed (web : Scanned) (opened : List Tok) : Type 0 where
  pub count : ℕ
  pub place : closing_place 0 opened ≡ Some count
  pub within : count < length opened
  pub before : IsTextOf web (take count opened)
  pub behind : IsRest web (drop (suc count) opened)

pub is_closed : (web : Scanned) (head : Tok) (opened : List Tok) → is_opening head ≡ true
    → IsRest web (head ∷ opened) → IsClosed web opened
is_closed web (tok.Sign byte) opened is rest =
    let all = rest.depth in
    let deeper : IsTrue (is_balanced_from (all + 1) opened) =
    subst (λ (b : Bool). IsTrue (if b then is_balanced_from (all + 1) opened
    else (if byte == 41 then nat_lt 0 all && is_balanced_from (all - 1) opened else is_balanced_from all opened)))
    is rest.balanced in
    let found = closed 0 all (all + 1) opened (omega arith) deeper in
    let tokens : All (IsTokenOf web) opened = All-tail (IsTokenOf web) (tok.Sign byte) opened rest.tokens in
    record {
      count = found.count;
      place = found.place;
      within = found.within;
      before = record { tokens = All-take (IsTokenOf web) found.count opened tokens; balanced = found.before };
      behind = record {
        tokens = All-drop (IsTokenOf web) (suc found.count) opened tokens;
        depth = all;
        balanced =
            found.behind;
      };
    }
is_closed web head opened is rest = absurd (cc)

pub is_opened-empty : (text : List Tok) → length text ≡ 0 → is_opened text ≡ false
is_opened-empty [] none = refl
is_opened-empty (head ∷ text) none = absurd (omega arith)

-- the argument of these parts is taken
pub taken : (web : Scanned) (lower : List Level) (place : Place) (found : Argument) (after : Place) (head : Tok)
    (opened : List Tok) (count : ℕ)
    → AreLevels web (level_of place.top ∷ lower) → is_finished (level_of place.top) ≡ false
    → place.top.text.now ≡ head ∷ opened
    → is_opening head ≡ true → closing_place 0 opened ≡ Some count → count + 2 ≤ place.steps
    → after.steps ≡ place.steps - (count + 2)
    → found.text.now ≡ take count opened → found.environment ≡ place.top.environment → after.level ≡ place.level
    → level_of after.top ≡ behind_argument (level_of place.top) opened count → IsTaken web lower place found after
taken web lower place found after head opened count all left is opening at few steps text environment level top =
    let old = level_of place.top in
    let here : IsLevel web (length lower) old = all.0 in
    let closed_at = is_closed web head opened opening (subst (IsRest web) is here.text) in
    let same : closed_at.count ≡ count = cc (closed_at.place, at) in
    let P : List Level → Type 0 = λ levels. AreLevels web levels in
    record {
      list = λ macro_text.
          with_argument-steps_left web.tokens macro_text place.steps lower old head opened count left is opening at
          few
          ∙ ap (λ steps. replaced steps (text_before (text_before (argument_of (old ∷ lower) old.environment) (take
          count opened) nothing) macro_text
          (ends (list_of web.tokens (behind_argument old opened count ∷ lower))))) (sym steps)
          ∙ ap (λ part. replaced after.steps (text_before (text_before (argument_of (old ∷ lower) old.environment)
          part nothing) macro_text
          (ends (list_of web.tokens (behind_argument old opened count ∷ lower))))) (sym text)
          ∙ ap (λ number. replaced after.steps (text_before (text_before (argument_of (old ∷ lower) number)
          found.text.now nothing) macro_text
          (ends (list_of web.tokens (behind_argument old opened count ∷ lower))))) (sym environment)
          ∙ ap (λ behind. replaced after.steps (text_before (text_before (argument_of (behind ∷ lower)
          found.environment) found.text.now nothing) macro_text
          (ends (list_of web.tokens (behind ∷ lower))))) (sym top);
      levels = subst (λ behind. P (behind ∷ lower)) (sym top) (
        record {
          text = subst (λ count. IsRest web (drop (suc count) opened)) same closed_at.behind;
          within = here.within;
          pieces = here.pieces;
          environment = here.environment;
          argument = here.argument;
          meant = here.meant;
          below = here.below;
        },
        all.1,
      );
      text = subst (IsTextOf web) (ap (λ count. take count opened) same ∙ sym text) closed_at.before;
      environment = omega (arith, here.environment, environment);
      level = level;
    }

-- the `)` is not among as many tokens as there are steps
pub passed_unseen : (web : Scanned) (lower : List Level) (top : Level) (text : List Tok) (steps : ℕ) (head : Tok)
    (opened : List Tok) (most : ℕ)
    → AreLevels web (top ∷ lower) → is_finished top ≡ false → top.text ≡ head ∷ opened → is_opening head ≡ true
    → most ≡ min (length opened) steps → closing_place 0 (take most opened) ≡ None
    → with_argument text steps (list_of web.tokens (top ∷ lower)) ≡ Err Steps
passed_unseen web lower top text steps head opened most all left is opening few none =
    let found = is_closed web head opened opening (subst (IsRest web) is all.0.text) in
    let behind : most ≤ found.count = closing_place-take-None 0 most opened found.count none found.place in
    let within : found.count < length opened = found.within in
    let passed : steps < found.count + 2 = omega arith in
    with_argument-steps_passed web.tokens text steps lower top head opened found.count left is opening found.place
    passed
