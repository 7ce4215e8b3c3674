-- The control codes of a web. The table is the WEB profile's (STAN-CS-83-980).
use Rattle.std.specs.Prelude.{ℕ, ◌==◌, Bool, List, [], ◌∷◌, codes, if◌then◌else◌}
use Rattle.std.specs.List.{list_any}
use Rattle.web_lex.specs.declared.codes.Code.{Code}
use Rattle.web_lex.specs.declared.codes.Code.TheVariants as code

-- whether a byte is one of these
abbrev pub is_one_of : List ℕ → ℕ → Bool
is_one_of bytes byte = list_any (λ other. byte == other) bytes

-- which code each of these bytes makes after an at sign
abbrev pub code_table : List (List ℕ × Code)
code_table =
    (codes "@", code.At)
    ∷ (codes "'", code.Octal)
    ∷ (codes "\"", code.Hex)
    ∷ (codes "$", code.LeftOut)
    ∷ (codes "{", code.MetaOpen)
    ∷ (codes "}", code.MetaClose)
    ∷ (codes "&", code.Join)
    ∷ (codes "=", code.Verbatim)
    ∷ (codes "\\", code.Line)
    ∷ (codes "^.:tT", code.Control)
    ∷ (codes ">", code.Stray)
    ∷ (codes "dD", code.Definition)
    ∷ (codes "fF", code.Format)
    ∷ (codes "pP", code.Pascal)
    ∷ (codes "<", code.Name)
    ∷ (codes " \t*", code.Section)
    ∷ []

-- the code beside a byte in a table
abbrev pub code_beside : List (List ℕ × Code) → ℕ → Code
code_beside [] byte = code.Ignore
code_beside (row ∷ rows) byte = if is_one_of row.0 byte then row.1 else code_beside rows byte

-- the code of an at sign followed by this byte; bytes that are in no row are ignored
abbrev pub code_of : ℕ → Code
code_of byte = code_beside code_table byte
