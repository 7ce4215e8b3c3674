-- How the code holds spellings, and tokens at the front of a text.
use Rattle.std.specs.Prelude.{ℕ, ◌<◌, ◌≤◌, ⊤, List, map, drop, Option, Some, None, Result, Ok, Err}
use Rattle.std.specs.Char.{to_ascii_lowercase}
use Rattle.pas_tokens.specs.declared.kinds.Kind.{Kind}
use Rattle.pas_tokens.specs.declared.kinds.Kind.TheVariants as k
use Rattle.pas_tokens.specs.declared.tokens.Payload.{Payload as PayloadRead}
use Rattle.pas_tokens.specs.declared.tokens.Payload.TheVariants as read
use Rattle.pas_tokens.specs.declared.spellings.Spelling.{Spelling as SpellingRead}
use Rattle.pas_tokens.specs.declared.cutting.Cut.{Cut as CutRead}
use Rattle.pas_tokens.specs.declared.cutting.Wrong.{Wrong as WrongRead}
use Rattle.pas_tokens.specs.declared.fronts.Front.{Front as FrontRead}
use Rattle.pas_tokens.specs.declared.fronts.Front.TheVariants as front
use Rattle.pas_tokens.specs.declared.cutting.Part.{Part}
use Rattle.pas_tokens.specs.declared.cutting.Part.TheVariants as part
use Rattle.pas_tokens.specs.Spellings.{Spelling}
use Rattle.pas_tokens.specs.declared.tokens.Token.{Token as TokenRead}
use Rattle.pas_tokens.specs.Tokens.{Token, Front, passes, holds, shows}
use Rattle.pas_tokens.specs.Cutting.{Payload, nothing, value, spelling, Cut, Wrong, longer}

-- a spelling, as the definition has it, and the same in small letters
abbrev pub spelling_by : SpellingRead → Spelling
spelling_by row = record { spelled = row.spelled.now; kind = row.kind }

abbrev pub folded_by : SpellingRead → Spelling
folded_by row = record { spelled = map to_ascii_lowercase row.spelled.now; kind = row.kind }

-- the spelling of a token of this kind: that of a name is in small letters
abbrev pub spelled_by : Kind → List ℕ → List ℕ
spelled_by k.Name bytes = map to_ascii_lowercase bytes
spelled_by other bytes = bytes

-- what a token of this kind says
abbrev pub payload_by : Kind → PayloadRead → Payload
payload_by kind read.Nothing = nothing
payload_by kind (read.Value number) = value number
payload_by kind (read.Spelling bytes) = spelling (spelled_by kind bytes.now)

-- a token
abbrev pub token_by : TokenRead → Token
token_by token =
    record { kind = token.kind; payload = payload_by token.kind token.payload; line = token.line }

-- a token and a fault at the front of this text, as the definition has them
abbrev pub cut_in : List ℕ → CutRead → Cut
cut_in text cut = record { kind = cut.kind; payload = payload_by cut.kind cut.payload; rest = drop cut.size text }

abbrev pub wrong_by : WrongRead → Wrong
wrong_by refusal = record { code = refusal.code; which = refusal.which }

abbrev pub cut_by : List ℕ → Result CutRead WrongRead → Result Cut Wrong
cut_by text (Ok cut) = Ok (cut_in text cut)
cut_by text (Err refusal) = Err (wrong_by refusal)

-- the front of this text, as the definition has it; and that it takes a byte or more of a text of this size
abbrev pub front_by : List ℕ → FrontRead → Front
front_by text (front.Passes size) = passes (drop size text)
front_by text (front.Holds cut) = holds (cut_in text cut)
front_by text (front.Shows refusal) = shows (wrong_by refusal)

pub record Takes (size most : ℕ) : Type 0 where
  pub some : 0 < size
  pub within : size ≤ most

abbrev pub FrontFits : ℕ → FrontRead → Type 0
FrontFits most (front.Passes size) = Takes size most
FrontFits most (front.Holds cut) = Takes cut.size most
FrontFits most (front.Shows refusal) = ⊤

-- the size of a string from a byte on, where these are those from one and from two bytes after it
abbrev pub size_by : Part → Option ℕ → Option ℕ → Option ℕ
size_by part.Single after_one after_two = longer 1 after_one
size_by part.Doubled after_one after_two = longer 2 after_two
size_by part.End after_one after_two = Some 0
size_by part.Wrong after_one after_two = None
