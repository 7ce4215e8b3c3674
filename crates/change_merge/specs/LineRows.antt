-- The definition of the lines of a text, at work on short texts.
use Rattle.std.specs.Prelude.{◌≡◌, ℕ, List, [], ◌∷◌, ◌++◌, codes, Ok, refl}
use Rattle.wb_base.specs.declared.places.FileTag.TheVariants.{Web}
use Rattle.change_merge.specs.Lines.{Line, all_lines, lines_of}

-- a line of the web
abbrev line_of_web : ℕ → List ℕ → Line
line_of_web number bytes = record { place = record { file = Web; line = number }; bytes = bytes }

-- white space at a line's end goes, and what follows the last byte 10 is a line
pub two_lines : lines_of Web (codes " a \t" ++ 10 ∷ codes "b") ≡ Ok
    (line_of_web 1 (codes " a") ∷ line_of_web 2 (codes "b") ∷ [])
unfolding lines_of all_lines
two_lines = refl

-- nothing follows the last byte 10
pub empty_lines : lines_of Web (10 ∷ 32 ∷ 10 ∷ []) ≡ Ok (line_of_web 1 [] ∷ line_of_web 2 [] ∷ [])
unfolding lines_of all_lines
empty_lines = refl

pub no_lines : lines_of Web [] ≡ Ok []
unfolding lines_of all_lines
no_lines = refl
