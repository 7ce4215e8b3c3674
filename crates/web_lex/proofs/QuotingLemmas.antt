-- The sizes of strings and verbatim texts, a part at a time.
use Rattle.std.proofs.Common.{◌≡◌, ℕ, ◌+◌, List, drop, Result, Ok, Err, refl, sym, ap, ◌∙◌, arith}
use Rattle.std.proofs.lemmas.List.{drop-drop}
use Rattle.web_lex.specs.Token.{Delimiter, text_size, longer}

longer-longer : (some more : ℕ) (size : Result ℕ ℕ) → longer some (longer more size) ≡ longer (some + more) size
longer-longer some more (Ok size) = ap Ok (omega arith)
longer-longer some more (Err code) = refl

-- after a part of so many bytes the size is greater by these
pub text_size-more :
    (kind : Delimiter) (bytes rest : List ℕ) (size more : ℕ) → rest ≡ drop size bytes
    → text_size kind rest ≡ longer more (text_size kind (drop more rest))
    → text_size kind bytes ≡ longer size (text_size kind (drop size bytes))
    → text_size kind bytes ≡ longer (size + more) (text_size kind (drop (size + more) bytes))
text_size-more kind bytes rest size more is part before =
    before
    ∙ ap (λ r. longer size (text_size kind r)) (sym is)
    ∙ ap (longer size) part
    ∙ longer-longer size more (text_size kind (drop more rest))
    ∙ ap (λ r. longer (size + more) (text_size kind r)) (ap (drop more) is ∙ drop-drop more size bytes)
