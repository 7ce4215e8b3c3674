-- The definition of folding at each state of what stands before, and each unit after it, once. An item is one letter: a
-- digit, `a` a word, `d` the word div and `m` the word MOD, `N` the number 4, `n` the number -3, `&` a join; others are
-- signs. A piece is its text, after a space, or after `~` where it is glued; a fault is its number after `!`.
use Rattle.std.specs.Prelude.{◌≡◌, ℕ, ◌==◌, ◌&&◌, nat_le, pos, negsuc, if◌then◌else◌, List, [], ◌∷◌, ◌++◌, map}
use Rattle.std.specs.Prelude.{codes, decimal, Option, Some, None, refl}
use Rattle.std.specs.Fmt.{digits}
use Rattle.macro_expand.specs.Items.{Expanded, digit, number, word, sign, join}
use Rattle.tangle_out.specs.Pieces.{Piece}
use Rattle.tangle_out.specs.Folding.{Folded, folded_whole}

abbrev item_of_letter : ℕ → Expanded
item_of_letter letter =
    if nat_le 48 letter && nat_le letter 57 then digit letter
    else (if letter == 97 then word (codes "a")
    else (if letter == 100 then word (codes "div")
    else (if letter == 109 then word (codes "MOD")
    else (if letter == 78 then number (pos 4)
    else (if letter == 110 then number (negsuc 2)
    else (if letter == 38 then join else sign letter))))))

abbrev written : List Piece → List ℕ
written [] = []
written (piece ∷ pieces) = (if piece.glued then 126 else 32) ∷ piece.text ++ written pieces

abbrev written_fault : Option ℕ → List ℕ
written_fault None = []
written_fault (Some code) = 33 ∷ decimal code

-- what the items of these letters come to
abbrev shown : List ℕ → List ℕ
shown letters = let made = folded_whole (map item_of_letter letters) in written made.pieces ++ written_fault made.fault

-- at the begin, and after a word
pub nothing_held : map shown (codes "-" ∷ codes "5" ∷ codes "*" ∷ codes "&" ∷ codes ";" ∷ [])
    ≡ (codes " -" ∷ codes " 5" ∷ codes " *" ∷ codes "" ∷ codes " ;" ∷ [])
unfolding digits
nothing_held = refl

pub after_a_word : map shown (codes "a-" ∷ codes "a5" ∷ codes "a*" ∷ codes "a&" ∷ codes "aa" ∷ [])
    ≡ (codes " a -" ∷ codes " a 5" ∷ codes " a *" ∷ codes " a" ∷ codes " a a" ∷ [])
unfolding digits
after_a_word = refl

-- after a number that stands alone, with a digit's form or in parentheses
pub after_one_alone : map shown (codes "*5-" ∷ codes "*5N" ∷ codes "*5/" ∷ codes "*n-" ∷ codes "*nN" ∷ [])
    ≡ (codes " * 5 -" ∷ codes " * 5 4" ∷ codes " * 5 /" ∷ codes " * (-3) -" ∷ codes " * (-3) 4" ∷ [])
unfolding digits
after_one_alone = refl

-- after a product sign
pub after_a_product_sign :
    map shown (codes "*-" ∷ codes "*5" ∷ codes "*n" ∷ codes "*/" ∷ codes "*&" ∷ codes "*a" ∷ [])
    ≡ (codes " * -" ∷ codes " * 5" ∷ codes " * (-3)" ∷ codes " * /" ∷ codes " *" ∷ codes " * a" ∷ [])
unfolding digits
after_a_product_sign = refl

-- after a product word
pub after_a_product_word : map shown (codes "d-" ∷ codes "d5" ∷ codes "dm" ∷ codes "m&" ∷ codes "m;" ∷ [])
    ≡ (codes " div -" ∷ codes " div 5" ∷ codes " div MOD" ∷ codes " MOD" ∷ codes " MOD ;" ∷ [])
unfolding digits
after_a_product_word = refl

-- after a join
pub after_a_join :
    map shown (codes "a&-" ∷ codes "a&5" ∷ codes "a&n" ∷ codes "a&*" ∷ codes "a&&5" ∷ codes "a&a" ∷ [])
    ≡ (codes " a~-" ∷ codes " a~5" ∷ codes " a~(-3)" ∷ codes " a~*" ∷ codes " a~5" ∷ codes " a~a" ∷ [])
unfolding digits
after_a_join = refl

-- after signs
pub after_signs : map shown (codes "--" ∷ codes "-5" ∷ codes "-*" ∷ codes "-&5" ∷ codes "-a" ∷ [])
    ≡ (codes " +" ∷ codes " -5" ∷ codes " - *" ∷ codes " -~5" ∷ codes " - a" ∷ [])
unfolding digits
after_signs = refl

-- after a sum
pub after_a_sum : map shown (codes "7-" ∷ codes "7N" ∷ codes "7*" ∷ codes "7&a" ∷ codes "7;" ∷ codes "+7*" ∷ [])
    ≡ (codes " 7 -" ∷ codes "!33" ∷ codes " 7 *" ∷ codes " 7~a" ∷ codes " 7 ;" ∷ codes " +7 *" ∷ [])
unfolding digits
after_a_sum = refl

-- after a sum and signs
pub after_a_sum_and_signs : map shown (codes "7--" ∷ codes "7-5" ∷ codes "7-*" ∷ codes "7-&a" ∷ codes "7-a" ∷ [])
    ≡ (codes " 7 +" ∷ codes " 2" ∷ codes " 7 - *" ∷ codes " 7 -~a" ∷ codes " 7 - a" ∷ [])
unfolding digits
after_a_sum_and_signs = refl

-- after a sum and a term
pub after_a_sum_and_a_term :
    map shown (codes "7-5-" ∷ codes "7-5N" ∷ codes "7-5*" ∷ codes "7-5&a" ∷ codes "7-5a" ∷ [])
    ≡ (codes " 2 -" ∷ codes "!33" ∷ codes " 7 -5 *" ∷ codes " 7 -5~a" ∷ codes " 2 a" ∷ [])
unfolding digits
after_a_sum_and_a_term = refl
