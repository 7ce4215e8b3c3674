-- What the folder holds of the run so far, one unit at a time. Only calls inside the crate cite this: the meaning is in
-- Folding, and the proofs show that both give the same.
use Rattle.std.specs.Prelude.{◌≡◌, ℕ, ◌≤◌, nat_lt, ◌*◌, ◌+◌, ◌-◌, ℤ, pos, ◌+ℤ◌, ◌==◌, Bool, true, false, if◌then◌else◌}
use Rattle.std.specs.Prelude.{List, [], ◌∷◌, ◌++◌, Option, Some, None, Result, Ok, Err}
use Rattle.wb_base.specs.declared.faults.TheConstants.{CONSTANT_TOO_BIG, NUMBERS_WITHOUT_SIGN, REAL_CONSTANT}
use Rattle.std.specs.Option.{unwrap_or}
use Rattle.tangle_out.specs.declared.folding.TheConstants.{GREATEST_CONSTANT}
use Rattle.macro_expand.specs.Items.{Expanded, sign, quoted, meta_open, meta_close}
use Rattle.tangle_out.specs.declared.folding.Sign.{Sign}
use Rattle.tangle_out.specs.declared.folding.Lead.TheVariants.{Signed, Bare}
use Rattle.tangle_out.specs.declared.folding.Held.{Held}
use Rattle.tangle_out.specs.declared.folding.Held.TheVariants.{Nothing, Factor, Signs, Sum, SumAndSigns, SumAndTerm}
use Rattle.tangle_out.specs.declared.folding.Last.{Last}
use Rattle.tangle_out.specs.declared.folding.Last.TheVariants.{Point, Quote, Else}
use Rattle.tangle_out.specs.declared.folding.Kept.{Kept}
use Rattle.tangle_out.specs.declared.putting.Follower.{Follower}
use Rattle.tangle_out.specs.declared.putting.Follower.TheVariants.{Product, Other}
use Rattle.macro_expand.specs.Foldable.{IsConstant, IsFoldable}
use Rattle.tangle_out.specs.Metacomments.{HasRoom}
use Rattle.tangle_out.specs.Pieces.{Piece}
use Rattle.tangle_out.specs.Units.{FoldingUnit, addition, constant, product, joining, other}
use Rattle.tangle_out.specs.Runs.{sign_times, signed_value, is_too_big}
use Rattle.tangle_out.specs.Folding.{sum_piece, sign_pieces, alone_piece, item_piece, fault_of_item}

-- the values held are those of constants
abbrev pub IsSmall : Held → Type 0
IsSmall (Sum lead value) = IsConstant value
IsSmall (SumAndSigns lead value signs) = IsConstant value
IsSmall (SumAndTerm lead value term) = IsConstant value × IsConstant term
IsSmall held = Unit {0}

-- the sum, or a fault where it is too big
abbrev pub sum_of : ℤ → ℤ → Result ℤ ℕ
sum_of value term = if is_too_big (value +ℤ term) then Err CONSTANT_TOO_BIG else Ok (value +ℤ term)

-- the value in an Ok, changed
abbrev pub and_map : {A B : Type 0} → (A → B) → Result A ℕ → Result B ℕ
and_map f (Ok value) = Ok (f value)
and_map f (Err code) = Err code

-- what is held after a sign
abbrev pub after_sign : Held → Sign → Result Held ℕ
after_sign Nothing s = Ok (Signs s)
after_sign Factor s = Ok (Signs s)
after_sign (Signs signs) s = Ok (Signs (sign_times signs s))
after_sign (Sum lead value) s = Ok (SumAndSigns lead value s)
after_sign (SumAndSigns lead value signs) s = Ok (SumAndSigns lead value (sign_times signs s))
after_sign (SumAndTerm lead value term) s = and_map (λ sum. SumAndSigns lead sum s) (sum_of value term)

-- what is held after a number that does not stand alone
abbrev pub after_constant : Held → ℤ → Result Held ℕ
after_constant Nothing value = Ok (Sum Bare value)
after_constant Factor value = Ok Nothing
after_constant (Signs signs) value = Ok (Sum Signed (signed_value signs value))
after_constant (Sum lead sum) value = Err NUMBERS_WITHOUT_SIGN
after_constant (SumAndSigns lead sum signs) value = Ok (SumAndTerm lead sum (signed_value signs value))
after_constant (SumAndTerm lead sum term) value = Err NUMBERS_WITHOUT_SIGN

-- the fault of the sum that ends, or none
abbrev pub fault_of_held : Held → Option ℕ
fault_of_held (SumAndTerm lead value term) = if is_too_big (value +ℤ term) then Some CONSTANT_TOO_BIG else None
fault_of_held held = None

-- whether there is no run
abbrev pub is_free : Held → Bool
is_free Nothing = true
is_free Factor = true
is_free held = false

-- whether what follows a run is a product sign or word or a join
abbrev pub goes_with : Follower → Bool
goes_with Product = true
goes_with Other = false

-- the fault of the sum that ends before what follows
abbrev pub fault_of_follower : Follower → Held → Option ℕ
fault_of_follower Product held = None
fault_of_follower Other held = fault_of_held held

-- the pieces of what is held; the flag says that a product sign or word or a join follows
abbrev pub pieces_of_held : Bool → Held → List Piece
pieces_of_held follows Nothing = []
pieces_of_held follows Factor = []
pieces_of_held follows (Signs signs) = sign_pieces (Some signs)
pieces_of_held follows (Sum lead value) = sum_piece lead value ∷ []
pieces_of_held follows (SumAndSigns lead value signs) = sum_piece lead value ∷ sign_pieces (Some signs)
pieces_of_held true (SumAndTerm lead value term) = sum_piece lead value ∷ (sum_piece Signed term ∷ [])
pieces_of_held false (SumAndTerm lead value term) = sum_piece lead (value +ℤ term) ∷ []

-- what the last item was, as far as the next one needs it
abbrev pub last_of : Expanded → Last
last_of (sign byte) = if byte == 46 then Point else Else
last_of (quoted bytes) = Quote
last_of item = Else

-- how many metacomments are open after an item
abbrev pub depth_after : ℕ → Expanded → ℕ
depth_after depth meta_open = depth + 1
depth_after depth meta_close = depth - 1
depth_after depth item = depth

-- whether the last unit was a string
abbrev pub is_quote : Last → Bool
is_quote Quote = true
is_quote last = false

-- whether the item continues a string
abbrev pub continues : Last → Expanded → Bool
continues last (quoted bytes) = is_quote last
continues last item = false

-- the piece of an item
abbrev pub piece_here : Kept → Expanded → Piece
piece_here kept item = record (item_piece kept.depth item) { glued = continues kept.last item }

-- what is kept with this held and this last item
abbrev pub keeping : Kept → Last → Held → Kept
keeping kept last held = record { held = held; last = last; depth = kept.depth }

-- what is kept unless one of two faults comes
abbrev pub kept_unless : Option ℕ → Option ℕ → Kept → Result Kept ℕ
kept_unless (Some code) later kept = Err code
kept_unless None (Some code) kept = Err code
kept_unless None None kept = Ok kept

-- what is kept after a unit, or its fault
abbrev pub kept_after : Kept → FoldingUnit → Result Kept ℕ
kept_after kept (addition s) = and_map (keeping kept Else) (after_sign kept.held s)
kept_after kept (constant value) = and_map (keeping kept Else) (after_constant kept.held value)
kept_after kept (product item) = Ok (keeping kept Else Factor)
kept_after kept joining = Ok (keeping kept Else Factor)
kept_after kept (other item) =
    kept_unless (fault_of_held kept.held) (fault_of_item kept.depth item)
    (record { held = Nothing; last = last_of item; depth = depth_after kept.depth item })

-- the pieces of a number
abbrev pub pieces_of_constant : Held → ℤ → List Piece
pieces_of_constant Factor value = alone_piece value ∷ []
pieces_of_constant held value = []

-- the pieces that a unit gives where it shows no fault, before the first is glued to what a join follows
abbrev pub pieces_at : Kept → FoldingUnit → List Piece
pieces_at kept (addition s) = []
pieces_at kept (constant value) = pieces_of_constant kept.held value
pieces_at kept (product item) = pieces_of_held true kept.held ++ piece_here kept item ∷ []
pieces_at kept joining = pieces_of_held true kept.held
pieces_at kept (other item) = pieces_of_held false kept.held ++ piece_here kept item ∷ []

-- whether the next piece is the first after a join, once these pieces were given
abbrev pub joined_after : List Piece → Bool → Bool
joined_after [] joined = joined
joined_after (piece ∷ pieces) joined = false

-- the same after a unit
abbrev pub joined_at : Kept → FoldingUnit → Bool → Bool
joined_at kept joining joined = true
joined_at kept unit joined = joined_after (pieces_at kept unit) joined

-- what is kept after the number of the digits before, if there is one, or its fault
abbrev pub kept_after_number : Kept → Option ℕ → Result Kept ℕ
kept_after_number kept None = Ok kept
kept_after_number kept (Some value) = kept_after kept (constant (pos value))

-- the pieces that the number gives
abbrev pub pieces_at_number : Kept → Option ℕ → List Piece
pieces_at_number kept None = []
pieces_at_number kept (Some value) = pieces_of_constant kept.held (pos value)

-- whether the piece after the number is the first after a join
abbrev pub joined_at_number : Kept → Option ℕ → Bool → Bool
joined_at_number kept digits joined = joined_after (pieces_at_number kept digits) joined

-- the condition on a unit: a number is one of a constant, a word was cut, a product sign or word shows no fault, and a
-- metacomment that begins can be counted
abbrev pub CanTake : Kept → FoldingUnit → Type 0
CanTake kept (constant value) = IsConstant value
CanTake kept (product item) = IsFoldable item × (fault_of_item kept.depth item ≡ None)
CanTake kept (other item) = IsFoldable item × HasRoom kept.depth item
CanTake kept unit = Unit {0}

-- what is kept before any unit
abbrev pub nothing_kept : Kept
nothing_kept = record { held = Nothing; last = Else; depth = 0 }

-- the number that digits were is one of a constant
abbrev pub IsSmallNumber : Option ℕ → Type 0
IsSmallNumber None = Unit {0}
IsSmallNumber (Some value) = value ≤ GREATEST_CONSTANT

-- whether a digit would be directly after a point, by the last unit and the number of the digits after it
abbrev pub is_at_point : Last → Option ℕ → Bool
is_at_point Point None = true
is_at_point last digits = false

-- the number with one more digit, or a fault
abbrev pub with_digit : Last → Option ℕ → ℕ → Result ℕ ℕ
with_digit last digits byte =
    if is_at_point last digits then Err REAL_CONSTANT
    else (if nat_lt GREATEST_CONSTANT (10 * unwrap_or digits 0 + (byte - 48)) then Err CONSTANT_TOO_BIG
    else Ok (10 * unwrap_or digits 0 + (byte - 48)))
