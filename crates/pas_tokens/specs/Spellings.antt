-- How reserved words and signs are spelled (ISO 7185, 6.1.2).
use Rattle.std.specs.Prelude.{ℕ, List, [], ◌∷◌, codes, find, Option, option_map}
use Rattle.std.specs.Str.{bytes_eq}
use Rattle.pas_tokens.specs.declared.kinds.Kind.{Kind}
use Rattle.pas_tokens.specs.declared.kinds.Kind.TheVariants as k

-- a spelling, and what is spelled so
pub record Spelling : Type 0 where
  pub spelled : List ℕ
  pub kind : Kind

-- the reserved words, in small letters
abbrev pub reserved_words : List Spelling
reserved_words =
    record { spelled = codes "and"; kind = k.And }
    ∷ record { spelled = codes "array"; kind = k.Array }
    ∷ record { spelled = codes "begin"; kind = k.Begin }
    ∷ record { spelled = codes "case"; kind = k.Case }
    ∷ record { spelled = codes "const"; kind = k.Const }
    ∷ record { spelled = codes "div"; kind = k.Div }
    ∷ record { spelled = codes "do"; kind = k.Do }
    ∷ record { spelled = codes "downto"; kind = k.Downto }
    ∷ record { spelled = codes "else"; kind = k.Else }
    ∷ record { spelled = codes "end"; kind = k.End }
    ∷ record { spelled = codes "file"; kind = k.File }
    ∷ record { spelled = codes "for"; kind = k.For }
    ∷ record { spelled = codes "function"; kind = k.Function }
    ∷ record { spelled = codes "goto"; kind = k.Goto }
    ∷ record { spelled = codes "if"; kind = k.If }
    ∷ record { spelled = codes "in"; kind = k.In }
    ∷ record { spelled = codes "label"; kind = k.Label }
    ∷ record { spelled = codes "mod"; kind = k.Mod }
    ∷ record { spelled = codes "nil"; kind = k.Nil }
    ∷ record { spelled = codes "not"; kind = k.Not }
    ∷ record { spelled = codes "of"; kind = k.Of }
    ∷ record { spelled = codes "or"; kind = k.Or }
    ∷ record { spelled = codes "packed"; kind = k.Packed }
    ∷ record { spelled = codes "procedure"; kind = k.Procedure }
    ∷ record { spelled = codes "program"; kind = k.Program }
    ∷ record { spelled = codes "record"; kind = k.Record }
    ∷ record { spelled = codes "repeat"; kind = k.Repeat }
    ∷ record { spelled = codes "set"; kind = k.Set }
    ∷ record { spelled = codes "then"; kind = k.Then }
    ∷ record { spelled = codes "to"; kind = k.To }
    ∷ record { spelled = codes "type"; kind = k.Type }
    ∷ record { spelled = codes "until"; kind = k.Until }
    ∷ record { spelled = codes "var"; kind = k.Var }
    ∷ record { spelled = codes "while"; kind = k.While }
    ∷ record { spelled = codes "with"; kind = k.With }
    ∷ []

-- the signs. `(.` and `.)` are other spellings of brackets. `(*`, which begins a comment, is no sign
abbrev pub signs_of_two : List Spelling
signs_of_two =
    record { spelled = codes "<>"; kind = k.NotEqual }
    ∷ record { spelled = codes "<="; kind = k.LessOrEqual }
    ∷ record { spelled = codes ">="; kind = k.GreaterOrEqual }
    ∷ record { spelled = codes ":="; kind = k.Becomes }
    ∷ record { spelled = codes ".."; kind = k.Dots }
    ∷ record { spelled = codes "(."; kind = k.LeftBracket }
    ∷ record { spelled = codes ".)"; kind = k.RightBracket }
    ∷ []

abbrev pub signs_of_one : List Spelling
signs_of_one =
    record { spelled = codes "+"; kind = k.Plus }
    ∷ record { spelled = codes "-"; kind = k.Minus }
    ∷ record { spelled = codes "*"; kind = k.Star }
    ∷ record { spelled = codes "/"; kind = k.Slash }
    ∷ record { spelled = codes "="; kind = k.Equal }
    ∷ record { spelled = codes "<"; kind = k.Less }
    ∷ record { spelled = codes ">"; kind = k.Greater }
    ∷ record { spelled = codes "("; kind = k.LeftParenthesis }
    ∷ record { spelled = codes ")"; kind = k.RightParenthesis }
    ∷ record { spelled = codes "["; kind = k.LeftBracket }
    ∷ record { spelled = codes "]"; kind = k.RightBracket }
    ∷ record { spelled = codes ","; kind = k.Comma }
    ∷ record { spelled = codes ";"; kind = k.Semicolon }
    ∷ record { spelled = codes ":"; kind = k.Colon }
    ∷ record { spelled = codes "."; kind = k.Dot }
    ∷ record { spelled = codes "^"; kind = k.Caret }
    ∷ []

-- what is spelled so in a list, if it is there
abbrev pub kind_in : List Spelling → List ℕ → Option Kind
kind_in spellings bytes = option_map (λ found. found.kind) (find (λ known. bytes_eq known.spelled bytes) spellings)
