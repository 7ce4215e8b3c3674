-- The pieces of items, and of more items behind them; and the lines of both.
use Rattle.std.proofs.Common.{◌≡◌, ℕ, List, [], ◌∷◌, ◌++◌, reverse, Option, Some, None, Result, Ok}
use Rattle.std.proofs.Common.{Err}
use Rattle.std.proofs.Common.{refl, sym, ◌∙◌, ap, subst, append_assoc}
use Rattle.std.proofs.lemmas.List.{append-nil, reverse-append}
use Rattle.std.specs.Option.{option_or}
use Rattle.macro_expand.specs.declared.refusals.ExpandErr.{ExpandErr}
use Rattle.macro_expand.specs.Items.{Expanded}
use Rattle.tangle_out.specs.Pieces.{Piece}
use Rattle.tangle_out.specs.Folding.{Folded, with_added, and_then, folded_before, folded, added_by_item}
use Rattle.tangle_out.specs.Folding.{added_at_end}
use Rattle.tangle_out.specs.Packing.{forced_line}
use Rattle.tangle_core.specs.Tangled.{Lined, number_of, folded_to_end, lined, lined_to_end}
use Rattle.tangle_core.specs.inner.Emitting.{lined_behind, so_far, made_of}
use Rattle.tangle_core.proofs.LinedLemmas.{Front, front-then, lined-front, lined-stays}

-- one item more
folded-item : (items : List Expanded) (item : Expanded)
    → folded (items ++ item ∷ []) ≡ and_then (folded items) (added_by_item (reverse items) item)
folded-item items item = ap folded_before (reverse-append items (item ∷ []))

-- what comes of more: the pieces of before are in front, and a fault stays
pub record Goes_on (before after : Folded) : Type 0 where
  pub more : List Piece
  pub pieces : after.pieces ≡ before.pieces ++ more
  pub stays : (code : ℕ) → before.fault ≡ Some code → after ≡ before

pub goes_on-same : (made : Folded) → Goes_on made made
goes_on-same made = record { more = []; pieces = sym (append-nil made.pieces); stays = λ code is. refl }

pub goes_on-then : (a b c : Folded) → Goes_on a b → Goes_on b c → Goes_on a c
goes_on-then a b c first second = record {
  more = first.more ++ second.more;
  pieces = second.pieces ∙ ap (λ (l : List Piece). l ++ second.more) first.pieces
      ∙ append_assoc a.pieces first.more second.more;
  stays = λ code is.
      let same : b ≡ a = first.stays code is in
      let still : b.fault ≡ Some code = ap (λ (f : Folded). f.fault) same ∙ is in
      second.stays code still ∙ same;
}

pub goes_on-added : (made : Folded) (added : Result (List Piece) ℕ) → Goes_on made (and_then made added)
goes_on-added made added = by_fault made.fault refl added
  where
    by_fault : (fault : Option ℕ) → made.fault ≡ fault → (given : Result (List Piece) ℕ)
        → Goes_on made (with_added made.pieces fault given)
    by_fault (Some code) is given = record {
      more = [];
      pieces = sym (append-nil made.pieces);
      stays = λ other other_is.
          let with_fault : Option ℕ → Folded = λ f. record { pieces = made.pieces; fault = f } in
          ap with_fault (sym is);
    }
    by_fault None is (Ok pieces) = record { more = pieces; pieces = refl; stays = λ code code_is. absurd (cc) }
    by_fault None is (Err code) =
        record { more = []; pieces = sym (append-nil made.pieces); stays = λ other other_is. absurd (cc) }

-- more items
pub folded-goes_on : (items rest : List Expanded) → Goes_on (folded items) (folded (items ++ rest))
folded-goes_on items [] =
    subst (λ (l : List Expanded). Goes_on (folded items) (folded l)) (sym (append-nil items))
    (goes_on-same (folded items))
folded-goes_on items (item ∷ rest) =
    let one : Goes_on (folded items) (folded (items ++ item ∷ [])) =
    subst (λ (f : Folded). Goes_on (folded items) f) (sym (folded-item items item))
    (goes_on-added (folded items) (added_by_item (reverse items) item)) in
    let others : Goes_on (folded (items ++ item ∷ [])) (folded ((items ++ item ∷ []) ++ rest)) =
    folded-goes_on (items ++ item ∷ []) rest in
    subst (λ (l : List Expanded). Goes_on (folded items) (folded l)) (append_assoc items (item ∷ []) rest)
    (goes_on-then _ _ _ one others)

-- the end, or a fault of the expansion
pub folded_to_end-goes_on : (items : List Expanded) (fault : Option ExpandErr)
    → Goes_on (folded items) (folded_to_end items fault)
folded_to_end-goes_on items None = goes_on-added (folded items) (added_at_end (reverse items))
folded_to_end-goes_on items (Some error) = goes_on-added (folded items) (Err (number_of error))

pub all-goes_on : (items rest : List Expanded) (fault : Option ExpandErr)
    → Goes_on (folded items) (folded_to_end (items ++ rest) fault)
all-goes_on items rest fault =
    goes_on-then _ _ _ (folded-goes_on items rest) (folded_to_end-goes_on (items ++ rest) fault)

-- the lines of the pieces in front stand in front
lined_behind-front : (pieces more : List Piece) (fault : Option ℕ)
    → Front (lined pieces).lines (lined_to_end (pieces ++ more) fault).lines
lined_behind-front pieces more None =
    front-then _ _ _ (lined-front pieces more) (lined-front (pieces ++ more) (forced_line ∷ []))
lined_behind-front pieces more (Some code) = lined-front pieces more

lined_behind-lines : (pieces : List Piece) (fault : Option ℕ) → (lined_behind pieces fault).lines ≡ (lined pieces).lines
lined_behind-lines pieces None = refl
lined_behind-lines pieces (Some code) = refl

pub so_far-front : (items rest : List Expanded) (fault : Option ExpandErr)
    → Front (so_far items).lines (made_of (items ++ rest) fault).lines
so_far-front items rest fault =
    let made = folded items in
    let whole = folded_to_end (items ++ rest) fault in
    let on : Goes_on made whole = all-goes_on items rest fault in
    subst (λ (l : List (List ℕ)). Front l (made_of (items ++ rest) fault).lines)
    (sym (lined_behind-lines made.pieces made.fault))
    (subst (λ (l : List Piece). Front (lined made.pieces).lines (lined_to_end l whole.fault).lines) (sym on.pieces)
    (lined_behind-front made.pieces on.more whole.fault))

-- a fault that is there is kept
with_fault-kept : (made : Lined) (code other : ℕ) → made.fault ≡ Some code
    → record made { fault = option_or made.fault (Some other) } ≡ made
with_fault-kept made code other is =
    let with_or : Option ℕ → Lined = λ f. record { lines = made.lines; fault = option_or f (Some other) } in
    let with_fault : Option ℕ → Lined = λ f. record { lines = made.lines; fault = f } in
    ap with_or is ∙ ap with_fault (sym is)

-- the lines of pieces one of which has shown a fault are all
lined_to_end-stays : (pieces more : List Piece) (fault : Option ℕ) (code : ℕ) → (lined pieces).fault ≡ Some code
    → lined_to_end (pieces ++ more) fault ≡ lined pieces
lined_to_end-stays pieces more None code is =
    let once : lined (pieces ++ more) ≡ lined pieces = lined-stays pieces more code is in
    lined-stays (pieces ++ more) (forced_line ∷ []) code (ap (λ (l : Lined). l.fault) once ∙ is) ∙ once
lined_to_end-stays pieces more (Some other) code is =
    let once : lined (pieces ++ more) ≡ lined pieces = lined-stays pieces more code is in
    with_fault-kept (lined (pieces ++ more)) code other (ap (λ (l : Lined). l.fault) once ∙ is) ∙ once

pub so_far-none : (items : List Expanded) → (folded items).fault ≡ None → so_far items ≡ lined (folded items).pieces
so_far-none items is = ap (λ (f : Option ℕ). lined_behind (folded items).pieces f) is

-- more items change nothing once a fault was shown
pub so_far-stays : (items rest : List Expanded) (fault : Option ExpandErr) (code : ℕ)
    → (so_far items).fault ≡ Some code → made_of (items ++ rest) fault ≡ so_far items
so_far-stays items rest fault code is = by_fault (folded items).fault refl
  where
    by_fault : (f : Option ℕ) → (folded items).fault ≡ f → made_of (items ++ rest) fault ≡ so_far items
    by_fault (Some shown) f_is =
        let on : Goes_on (folded items) (folded_to_end (items ++ rest) fault) = all-goes_on items rest fault in
        ap (λ (m : Folded). lined_to_end m.pieces m.fault) (on.stays shown f_is)
        ∙ ap (λ (f : Option ℕ). lined_to_end (folded items).pieces f) f_is
        ∙ ap (λ (f : Option ℕ). lined_behind (folded items).pieces f) (sym f_is)
    by_fault None f_is =
        let on : Goes_on (folded items) (folded_to_end (items ++ rest) fault) = all-goes_on items rest fault in
        let whole : Folded = folded_to_end (items ++ rest) fault in
        let same : so_far items ≡ lined (folded items).pieces = so_far-none items f_is in
        ap (λ (l : List Piece). lined_to_end l whole.fault) on.pieces
        ∙ lined_to_end-stays (folded items).pieces on.more whole.fault code
        (ap (λ (l : Lined). l.fault) (sym same) ∙ is)
        ∙ sym same

-- pieces without a fault, and a fault behind them
pub lined_to_end-fault : (pieces : List Piece) (code : ℕ) → (lined pieces).fault ≡ None
    → lined_to_end pieces (Some code) ≡ record { lines = (lined pieces).lines; fault = Some code }
lined_to_end-fault pieces code is =
    let with_fault : Option ℕ → Lined =
    λ f. record { lines = (lined pieces).lines; fault = option_or f (Some code) } in
    ap with_fault is

-- items without a fault, and a fault of the expansion behind them
pub made_of-fault : (items : List Expanded) (error : ExpandErr) → (folded items).fault ≡ None
    → made_of items (Some error) ≡ lined_to_end (folded items).pieces (Some (number_of error))
made_of-fault items error is =
    ap (λ (f : Option ℕ). let made : Folded = with_added (folded items).pieces f (Err (number_of error)) in
    lined_to_end made.pieces made.fault) is
