-- The tokens of a Pascal text, each with its line (ISO 7185, 6.1). The whole text is cut into tokens. Which fault is
-- told is this project's own.
use Rattle.std.specs.Prelude.{ℕ, zero, suc, ◌+◌, ◌-◌, ◌||◌, nat_lt, max, Bool, if◌then◌else◌}
use Rattle.std.specs.Prelude.{List, [], ◌∷◌, length, count_by, drop, take, codes, Option, Some, None, Result, Ok, Err}
use Rattle.std.specs.Str.{bytes_eq}
use Rattle.wb_base.specs.declared.faults.Fault.{Fault}
use Rattle.wb_base.specs.declared.faults.TheConstants.{BAD_PASCAL_TOKEN, LIMIT_FILE_BYTES, FILE_LIMIT}
use Rattle.wb_base.specs.declared.places.FileTag.TheVariants.{Pas}
use Rattle.wb_base.specs.FaultAt.{limit_passed}
use Rattle.wb_base.specs.Pieces.{pieces_of, ends_line}
use Rattle.wb_base.specs.Steps.{followed_by}
use Rattle.pas_tokens.specs.declared.kinds.Kind.{Kind}
use Rattle.pas_tokens.specs.declared.kinds.Kind.TheVariants.{EndOfText}
use Rattle.pas_tokens.specs.Cutting.{Payload, nothing, Cut, Wrong, wrong, token_cut, is_pascal_blank, behind_comment}

-- a token and its line
pub record Token : Type 0 where
  pub kind : Kind
  pub payload : Payload
  pub line : ℕ

-- the line in which a rest of a text begins
abbrev pub line_of : List ℕ → List ℕ → ℕ
line_of text rest = 1 + (count_by ends_line text - count_by ends_line rest)

-- the last line of a text, or line 1: it is that of the end
abbrev pub last_line : List ℕ → ℕ
last_line text = max 1 (length (pieces_of text))

-- a fault that a line of the Pascal text shows
abbrev pub fault_in : ℕ → Wrong → Fault
fault_in line refusal = record { code = refusal.code; file = Pas; line = line; which = refusal.which }

-- whether a comment begins at the front of a text, with `{` or `(*`
abbrev pub begins_comment : List ℕ → Bool
begins_comment rest = bytes_eq (take 1 rest) (codes "{") || bytes_eq (take 2 rest) (codes "(*")

-- the text within the comment that it begins with
abbrev pub within_comment : List ℕ → List ℕ
within_comment rest = if bytes_eq (take 1 rest) (codes "{") then drop 1 rest else drop 2 rest

-- what stands at the front of a text: what is passed, before this rest; a token; or a fault
pub data Front : Type 0 where
  passes : List ℕ → Front
  holds : Cut → Front
  shows : Wrong → Front

-- a comment at the front of a text, with what stands behind it, if it ends
abbrev pub comment_front : Option (List ℕ) → Front
comment_front (Some rest) = passes rest
comment_front None = shows (wrong BAD_PASCAL_TOKEN)

-- a token at the front of a text
abbrev pub token_front : Result Cut Wrong → Front
token_front (Ok cut) = holds cut
token_front (Err refusal) = shows refusal

-- the front of a text that begins with this byte: a blank, a comment, a token or a fault
abbrev pub front_of : ℕ → List ℕ → Front
front_of byte bytes =
    if is_pascal_blank byte then passes bytes
    else (if begins_comment (byte ∷ bytes) then comment_front (behind_comment (within_comment (byte ∷ bytes)))
    else token_front (token_cut byte bytes))

-- the tokens of a text whose front in this line is this, where the rest behind it has these
abbrev pub tokens_by : ℕ → Front → (List ℕ → Result (List Token) Fault) → Result (List Token) Fault
tokens_by line (passes rest) further = further rest
tokens_by line (holds cut) further =
    followed_by (record { kind = cut.kind; payload = cut.payload; line = line } ∷ []) (further cut.rest)
tokens_by line (shows refusal) further = Err (fault_in line refusal)

-- the token at the end of a text
abbrev pub end_token : List ℕ → Token
end_token text = record { kind = EndOfText; payload = nothing; line = last_line text }

-- the tokens of a text from a rest of it on, of which `most` bytes are looked at; each front takes a byte or more
unfoldable pub tokens_from : ℕ → List ℕ → List ℕ → Result (List Token) Fault
tokens_from most text [] = Ok (end_token text ∷ [])
tokens_from zero text rest = Ok (end_token text ∷ [])
tokens_from (suc most) text (byte ∷ bytes) =
    tokens_by (line_of text (byte ∷ bytes)) (front_of byte bytes) (tokens_from most text)

-- the tokens of a text, the last of which is its end; or its first fault
unfoldable pub tokens_of : List ℕ → Result (List Token) Fault
tokens_of text =
    if nat_lt FILE_LIMIT (length text) then Err (limit_passed LIMIT_FILE_BYTES (record { file = Pas; line = 0 }))
    else tokens_from (length text) text text

-- the tokens behind the first; the end of the text stays
abbrev pub after_first : List Token → List Token
after_first [] = []
after_first (token ∷ []) = token ∷ []
after_first (token ∷ (next ∷ tokens)) = next ∷ tokens
