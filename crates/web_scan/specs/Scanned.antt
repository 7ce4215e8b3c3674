-- What a web is made of, as TANGLE takes it in (STAN-CS-83-980): names, texts, and strings.
use Rattle.std.specs.Prelude.{ℕ, zero, suc, ◌+◌, List, [], ◌∷◌, ◌++◌, length, Result, Ok}
use Rattle.wb_base.specs.declared.faults.Fault.{Fault}
use Rattle.wb_base.specs.declared.options.Options.{Options}
use Rattle.wb_base.specs.declared.places.Place.{Place}
use Rattle.wb_base.specs.declared.tokens.Tok.{Tok}
use Rattle.wb_base.specs.Steps.{◌>>=◌}
use Rattle.change_merge.specs.Lines.{Line}
use Rattle.web_lex.specs.declared.codes.Code.{Code}
use Rattle.web_lex.specs.Token.{Token}
use Rattle.web_lex.specs.Reading.{Reading, reading_of, next_token, skipped}
use Rattle.web_names.specs.Identifiers.{Identifiers}

-- the Pascal text of a section: the number of the section that it stands in, and its tokens
pub record PascalText : Type 0 where
  pub number : ℕ
  pub text : List Tok

-- what the web gives so far. Numbers in tokens, and the text number that is a macro's value, are places in these
-- lists
pub record Scanned : Type 0 where
  -- the identifiers, in the order of their first use
  pub names : Identifiers
  -- the whole names of sections, in the order of their first appearance
  pub sections : List (List ℕ)
  -- the strings of the pool
  pub strings : List (List ℕ)
  -- the strings in single quotes and the verbatim texts, as they are printed
  pub quoted : List (List ℕ)
  -- all tokens of texts, in the order of the web
  pub tokens : List Tok
  -- the replacement texts of simple and parametric macros
  pub texts : List (List Tok)
  -- the Pascal texts of the unnamed section
  pub unnamed : List PascalText
  -- the Pascal texts under each name of a section, in the order of these names, as far as there are any
  pub named : List (List PascalText)
  -- how many sections have begun
  pub count : ℕ

-- a web of which nothing was read yet
abbrev pub nothing_scanned : Options → Scanned
nothing_scanned options = record {
  names = record { options = options; names = [] };
  sections = [];
  strings = [];
  quoted = [];
  tokens = [];
  texts = [];
  unnamed = [];
  named = [];
  count = 0;
}

-- the texts under the name with this place
abbrev pub texts_under : ℕ → List (List PascalText) → List PascalText
texts_under name [] = []
texts_under zero (texts ∷ others) = texts
texts_under (suc name) (texts ∷ others) = texts_under name others

-- one more text under the name with this place
abbrev pub with_text_under : ℕ → PascalText → List (List PascalText) → List (List PascalText)
with_text_under zero text [] = (text ∷ []) ∷ []
with_text_under zero text (texts ∷ others) = (texts ++ text ∷ []) ∷ others
with_text_under (suc name) text [] = [] ∷ with_text_under name text []
with_text_under (suc name) text (texts ∷ others) = texts ∷ with_text_under name text others

-- a reader within a web, and what the web before it gave
pub record Scanning : Type 0 where
  pub reading : Reading
  pub web : Scanned

-- the begin of a web of these lines
abbrev pub scanning_of : Options → List Line → Scanning
scanning_of options lines = record { reading = reading_of lines; web = nothing_scanned options }

-- the place of the token that was read last, which shows the faults of that token
abbrev pub place_of_last : Scanning → Place
place_of_last scanning = scanning.reading.place

-- the next token
abbrev pub token_read : Scanning → Result (Token × Scanning) Fault
token_read scanning =
    next_token scanning.reading >>= (λ read. Ok (read.0, record scanning { reading = read.1 }))

-- the next code that is not passed outside Pascal text
abbrev pub code_found : Scanning → Code × Scanning
code_found scanning =
    let found = skipped scanning.reading in (found.0, record scanning { reading = found.1 })

-- a number that no count of tokens or codes from here on passes: each takes a byte, but the end
abbrev pub most_tokens : Scanning → ℕ
most_tokens scanning = length scanning.reading.rest + 1
