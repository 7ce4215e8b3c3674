-- The definitions of folding, at work on short lists of items.
use Rattle.std.specs.Prelude.{◌≡◌, ℕ, pos, negsuc, List, [], ◌∷◌, ◌++◌, map, replicate, codes, Some, None}
use Rattle.std.specs.Prelude.{true, refl}
use Rattle.std.specs.Fmt.{digits}
use Rattle.macro_expand.specs.Items.{Expanded, digit, number, word, sign, quoted, verbatim, join, line}
use Rattle.macro_expand.specs.Items.{meta_open, meta_close, opens, closes}
use Rattle.tangle_out.specs.declared.pieces.PieceKind.TheVariants.{Word, Number, Semi, Other, Break}
use Rattle.tangle_out.specs.Pieces.{Piece}
use Rattle.tangle_out.specs.Folding.{Folded, loose, folded, folded_whole}

-- the result with these pieces and no fault
abbrev pieces : List Piece → Folded
pieces given = record { pieces = given; fault = None }

-- the result with these pieces and this fault
abbrev fault : List Piece → ℕ → Folded
fault given code = record { pieces = given; fault = Some code }

-- a piece of this kind and text that is glued
abbrev glued : Piece → Piece
glued piece = record piece { glued = true }

-- the piece of a sign, a string or a mark
abbrev mark : List ℕ → Piece
mark text = loose Other text

-- the piece of a number
abbrev num : List ℕ → Piece
num text = loose Number text

-- the items of 2+3
abbrev two_plus_three : List Expanded
two_plus_three = digit 50 ∷ (sign 43 ∷ (digit 51 ∷ []))

-- 2+3*4 is not folded past the product
pub not_past_a_product : folded_whole (two_plus_three ++ (sign 42 ∷ (digit 52 ∷ [])))
    ≡ pieces (num (codes "2") ∷ (num (codes "+3") ∷ (mark (codes "*") ∷ (num (codes "4") ∷ []))))
unfolding digits
not_past_a_product = refl

-- 1+2+3 div 4: the sum of all terms but the last, then the last
pub last_term_goes_with_div :
    folded (digit 49 ∷ (sign 43 ∷ (two_plus_three ++ (word (codes "dIV") ∷ (digit 52 ∷ [])))))
    ≡ pieces (num (codes "3") ∷ (num (codes "+3") ∷ (loose Word (codes "dIV") ∷ [])))
unfolding digits
last_term_goes_with_div = refl

-- 2+3; is a sum, which comes with the semicolon
pub sum : folded (two_plus_three ++ (sign 59 ∷ [])) ≡ pieces (num (codes "5") ∷ (loose Semi (codes ";") ∷ []))
unfolding digits
sum = refl

pub sum_is_not_yet_given : folded two_plus_three ≡ pieces []
unfolding digits
sum_is_not_yet_given = refl

pub sum_at_the_end : folded_whole two_plus_three ≡ pieces (num (codes "5") ∷ [])
unfolding digits
sum_at_the_end = refl

-- 2*-3+5: the run after the product sign begins with its sign
pub run_after_a_product :
    folded_whole (digit 50 ∷ (sign 42 ∷ (sign 45 ∷ (digit 51 ∷ (sign 43 ∷ (digit 53 ∷ []))))))
    ≡ pieces (num (codes "2") ∷ (mark (codes "*") ∷ (num (codes "+2") ∷ [])))
unfolding digits
run_after_a_product = refl

-- x*mm and x-mm at mm = -3
pub number_below_zero : folded_whole (sign 42 ∷ (number (negsuc 2) ∷ (sign 45 ∷ (number (negsuc 2) ∷ []))))
    ≡ pieces (mark (codes "*") ∷ (mark (codes "(-3)") ∷ (num (codes "+3") ∷ [])))
unfolding digits
number_below_zero = refl

-- 3@&4, and a sum after a join
pub joined_numbers : folded_whole (digit 51 ∷ (join ∷ (digit 52 ∷ [])))
    ≡ pieces (num (codes "3") ∷ (glued (num (codes "4")) ∷ []))
unfolding digits
joined_numbers = refl

pub sum_after_a_join : folded_whole (join ∷ (sign 43 ∷ (number (pos 2) ∷ (sign 45 ∷ (sign 59 ∷ [])))))
    ≡ pieces (glued (num (codes "+2")) ∷ (mark (codes "-") ∷ (loose Semi (codes ";") ∷ [])))
unfolding digits
sum_after_a_join = refl

-- a forced line takes the join
pub line_after_a_join : folded_whole (join ∷ (line ∷ (word (codes "a") ∷ [])))
    ≡ pieces (glued (loose Break []) ∷ (loose Word (codes "a") ∷ []))
line_after_a_join = refl

-- a string directly after a string is glued
pub strings : folded_whole (quoted (codes "'a'") ∷ (quoted (codes "'b'") ∷ (opens 7 ∷ (quoted (codes "'c'") ∷ []))))
    ≡ pieces (mark (codes "'a'") ∷
    (glued (mark (codes "'b'")) ∷ (loose Semi (codes "{7:}") ∷ (mark (codes "'c'") ∷ []))))
unfolding digits
strings = refl

-- leading zeros are not printed
pub leading_zeros : folded_whole (digit 48 ∷ (digit 48 ∷ (digit 55 ∷ []))) ≡ pieces (num (codes "7") ∷ [])
unfolding digits
leading_zeros = refl

-- brackets inside a metacomment
pub metacomment : folded_whole (meta_open ∷ (opens 2 ∷ (meta_open ∷ (meta_close ∷ (closes 2 ∷ (meta_close ∷ []))))))
    ≡ pieces (mark (codes "{") ∷ (mark (codes "[2:]") ∷ (mark (codes "[") ∷ (mark (codes "]") ∷ (mark (codes "[:2]") ∷
    (loose Semi (codes "}") ∷ []))))))
unfolding digits
metacomment = refl

-- the faults: what shows one gives no piece, not even that of the number before it
pub numbers_without_sign : folded (digit 49 ∷ (number (pos 2) ∷ [])) ≡ fault [] 33
unfolding digits
numbers_without_sign = refl

pub digits_without_sign : folded_whole (number (pos 2) ∷ (digit 49 ∷ [])) ≡ fault [] 33
unfolding digits
digits_without_sign = refl

pub sum_too_big : folded (number (pos 2147483647) ∷ (sign 43 ∷ (digit 49 ∷ (sign 43 ∷ [])))) ≡ fault [] 34
unfolding digits
sum_too_big = refl

pub sum_not_made : folded (number (pos 2147483647) ∷ (sign 43 ∷ (digit 49 ∷ (sign 42 ∷ []))))
    ≡ pieces (num (codes "2147483647") ∷ (num (codes "+1") ∷ (mark (codes "*") ∷ [])))
unfolding digits
sum_not_made = refl

pub real_constant : folded (sign 46 ∷ (digit 49 ∷ [])) ≡ fault (mark (codes ".") ∷ []) 35
unfolding digits
real_constant = refl

pub stray_end : folded (sign 42 ∷ (digit 49 ∷ (meta_close ∷ []))) ≡ fault (mark (codes "*") ∷ []) 38
unfolding digits
stray_end = refl

-- at the end the open metacomment comes before the other faults
pub metacomment_not_ended : folded_whole (meta_open ∷ (number (pos 1) ∷ (digit 49 ∷ [])))
    ≡ fault (mark (codes "{") ∷ []) 39
unfolding digits
metacomment_not_ended = refl

pub digits_too_big : folded (map digit (codes "2147483648")) ≡ fault [] 34
unfolding digits
digits_too_big = refl

pub digits_not_too_big : folded_whole (map digit (codes "2147483647")) ≡ pieces (num (codes "2147483647") ∷ [])
unfolding digits
digits_not_too_big = refl

pub string_too_long : folded (quoted (replicate 72 120) ∷ (verbatim (replicate 73 120) ∷ []))
    ≡ fault (mark (replicate 72 120) ∷ []) 36
string_too_long = refl
