-- The next control code of a text, as TANGLE's `skip_ahead` finds it (STAN-CS-83-980). That two at signs are passed is
-- this project's own.
use Rattle.std.specs.Prelude.{◌==◌, if◌then◌else◌, List, [], ◌∷◌, Option, Some, None}
use Rattle.wb_base.specs.declared.places.Place.{Place}
use Rattle.web_lex.specs.declared.codes.Code.{Code}
use Rattle.web_lex.specs.declared.codes.Code.TheVariants as code
use Rattle.web_lex.specs.Codes.{code_of}
use Rattle.web_lex.specs.Raw.{PlacedByte}

-- a code, the place of its at sign, and what stands after it
pub record Found : Type 0 where
  pub code : Code
  pub place : Place
  pub rest : List PlacedByte

-- this code, or where it is passed, what is found after it
abbrev pub found_or : Code → Place → List PlacedByte → Option Found → Option Found
found_or code.Ignore place rest further = further
found_or code.At place rest further = further
found_or other place rest further = Some (record { code = other; place = place; rest = rest })

-- the first code of a text that is neither ignored nor two at signs, if there is one
abbrev pub next_code : List PlacedByte → Option Found
next_code [] = None
next_code (byte ∷ []) = None
next_code (byte ∷ (next ∷ rest)) =
    if byte.byte == 64 then found_or (code_of next.byte) byte.place rest (next_code rest)
    else next_code (next ∷ rest)
