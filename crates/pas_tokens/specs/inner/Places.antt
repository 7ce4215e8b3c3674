-- Places within a text, and what its tokens are from there on.
use Rattle.std.specs.Prelude.{◌≡◌, ℕ, ◌-◌, ◌<◌, ◌≤◌, Bool, false, List, [], ◌∷◌, length, drop, slice_get, Option, Some}
use Rattle.std.specs.Prelude.{None, IfSome, Result, Ok, Err}
use Rattle.wb_base.specs.declared.faults.Fault.{Fault}
use Rattle.wb_base.specs.declared.faults.TheConstants.{FILE_LIMIT}
use Rattle.wb_base.specs.Pieces.{ends_line}
use Rattle.wb_base.specs.Steps.{followed_by}
use Rattle.pas_tokens.specs.declared.cursor.Point.{Point}
use Rattle.pas_tokens.specs.declared.cursor.Cursor.TheInside.{Inside}
use Rattle.pas_tokens.specs.declared.tokens.Token.{Token as TokenRead}
use Rattle.pas_tokens.specs.Tokens.{Token, line_of, tokens_from}
use Rattle.pas_tokens.specs.inner.CodeCuts.{token_by}

-- the text is short, and the place lies in it, in its line
pub record IsPlaceIn (text : List ℕ) (point : Point) : Type 0 where
  pub short : length text ≤ FILE_LIMIT
  pub within : point.before ≤ length text
  pub line : point.line ≡ line_of text (drop point.before text)

-- the tokens of a text from a rest of it on, and from a place on
unfoldable pub tokens_on : List ℕ → List ℕ → Result (List Token) Fault
tokens_on text rest = tokens_from (length rest) text rest

abbrev pub tokens_at : List ℕ → Point → Result (List Token) Fault
tokens_at text point = tokens_on text (drop point.before text)

-- the tokens are read whole
abbrev pub IsRead : List ℕ → Point → Type 0
IsRead text point = (tokens : List Token) × (tokens_at text point ≡ Ok tokens)

-- from a place on this token comes, and then the tokens from the place behind it on, which is further; or it is the end
pub record FollowsAt (text : List ℕ) (point : Point) (token : TokenRead) (behind : Point) : Type 0 where
  pub place : IsPlaceIn text behind
  pub further : point.before < behind.before
  pub tokens : tokens_at text point ≡ followed_by (token_by token ∷ []) (tokens_at text behind)

abbrev pub Follows : List ℕ → Point → TokenRead → Option Point → Type 0
Follows text point token None = tokens_at text point ≡ Ok (token_by token ∷ [])
Follows text point token (Some behind) = FollowsAt text point token behind

-- the tokens, where they are known
abbrev pub known : Result (List Token) Fault → List Token
known (Ok tokens) = tokens
known (Err fault) = []

-- the tokens of a text behind a token, from this place on, unless it is the end
abbrev pub tokens_behind : List ℕ → Option Point → List Token
tokens_behind text None = []
tokens_behind text (Some behind) = known (tokens_at text behind)

-- the tokens from a cursor on
abbrev pub tokens_from_cursor : Inside → List Token
tokens_from_cursor cursor = token_by cursor.token ∷ tokens_behind cursor.text.now cursor.behind

-- the place behind the token lies in the text, and all tokens from there on are read
abbrev pub IsBehind : List ℕ → Point → Type 0
IsBehind text behind = IsPlaceIn text behind × IsRead text behind

abbrev pub IsCursor : Inside → Type 0
IsCursor cursor = IfSome cursor.behind (IsBehind cursor.text.now)

-- whether the last byte of a text ends a line
abbrev pub is_ended_by : Option ℕ → Bool
is_ended_by None = false
is_ended_by (Some byte) = ends_line byte

abbrev pub is_ended : List ℕ → Bool
is_ended text = is_ended_by (slice_get text (length text - 1))
