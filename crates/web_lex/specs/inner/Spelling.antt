-- What a name becomes with the bytes that are still to come. No public contract cites this.
use Rattle.std.specs.Prelude.{ℕ, ◌||◌, Bool, if◌then◌else◌, List, [], ◌∷◌, ◌++◌, Option, Some, None, Result, Ok}
use Rattle.wb_base.specs.declared.places.Place.{Place}
use Rattle.wb_base.specs.declared.faults.Fault.{Fault}
use Rattle.wb_base.specs.Steps.{◌>>=◌}
use Rattle.web_lex.specs.Raw.{PlacedByte}
use Rattle.web_lex.specs.SectionName.{Spelled, spelled_at, compressed, begins_blank, spaced}

-- a compressed text with bytes after it, where white space stands before these or not
abbrev pub continued : List ℕ → Bool → List ℕ → List ℕ
continued [] blank bytes = compressed bytes
continued (byte ∷ text) blank bytes = (byte ∷ text) ++ spaced (blank || begins_blank bytes) (compressed bytes)

-- a compressed text with the rest of the name that this text begins with
abbrev pub spelled_after : List ℕ → Bool → Place → List PlacedByte → Result Spelled Fault
spelled_after text blank end rest =
    spelled_at end rest >>= (λ spelled. Ok (record spelled { bytes = continued text blank spelled.bytes }))

-- the name that ends at this place, or goes on
abbrev pub spelling_after : Option Place → List ℕ → Bool → Place → List PlacedByte → Result Spelled Fault
spelling_after None text blank end rest = spelled_after text blank end rest
spelling_after (Some place) text blank end rest = Ok (record { bytes = text; end = place; rest = rest })

-- a compressed text with a space for white space after it
abbrev pub with_gap : List ℕ → Bool → List ℕ
with_gap [] blank = []
with_gap (byte ∷ text) blank = if blank then (byte ∷ text) ++ 32 ∷ [] else byte ∷ text
