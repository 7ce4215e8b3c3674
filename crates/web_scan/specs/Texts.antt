-- The tokens of the texts of macros and sections (STAN-CS-83-980). The faults are this project's own.
use Rattle.std.specs.Prelude.{ℕ, zero, suc, pos, ◌+◌, ◌-◌, ◌==◌, ◌&&◌, Bool, false, if◌then◌else◌}
use Rattle.std.specs.Prelude.{List, [], ◌∷◌, ◌++◌, length, drop, fold, codes, Option, Some, None, Result, Ok, Err}
use Rattle.wb_base.specs.declared.faults.Fault.{Fault}
use Rattle.wb_base.specs.declared.faults.TheConstants.{UNBALANCED_PARENTHESES, LIMIT_NAMES}
use Rattle.wb_base.specs.declared.places.Place.{Place}
use Rattle.wb_base.specs.declared.tokens.Tok.{Tok}
use Rattle.wb_base.specs.declared.tokens.Tok.TheVariants as tok
use Rattle.wb_base.specs.FaultAt.{fault_at}
use Rattle.wb_base.specs.Steps.{◌>>=◌}
use Rattle.web_lex.specs.declared.codes.Code.{Code}
use Rattle.web_lex.specs.declared.codes.Code.TheVariants as code
use Rattle.web_lex.specs.Codes.{is_one_of}
use Rattle.web_lex.specs.Token.{Token, end_of_input, control, letter, digit, word, based, sign, joined, quoted, pool}
use Rattle.web_lex.specs.Token.{verbatim}
use Rattle.web_names.specs.declared.classes.Class.{Class}
use Rattle.web_names.specs.declared.classes.Class.TheVariants as class
use Rattle.web_names.specs.Identifiers.{folded, used}
use Rattle.web_pool.specs.Strings.{numbered}
use Rattle.web_scan.specs.Refusals.{unless_refused, stored, string_stored}
use Rattle.web_scan.specs.Scanned.{Scanned, Scanning, place_of_last, token_read}

-- a text with one byte in place of each doubled one of these
abbrev pub undoubled : List ℕ → List ℕ → List ℕ
undoubled doubled [] = []
undoubled doubled (byte ∷ []) = byte ∷ []
undoubled doubled (byte ∷ (next ∷ bytes)) =
    if byte == next && is_one_of doubled byte then byte ∷ undoubled doubled bytes
    else byte ∷ undoubled doubled (next ∷ bytes)

-- a string in single quotes as it is printed: with its quotes, inner ones still doubled, and at signs once
abbrev pub quoted_text : List ℕ → List ℕ
quoted_text bytes = codes "'" ++ undoubled (codes "@") bytes ++ codes "'"

-- the value of a string in double quotes
abbrev pub string_value : List ℕ → List ℕ
string_value bytes = undoubled (codes "@\"") bytes

-- a word of Pascal text: the web with its name and the token that stands for it
abbrev pub word_stored : Place → List ℕ → Scanned → Result Scanned Fault
word_stored place bytes web = do
  (id, names) ← unless_refused LIMIT_NAMES place (used web.names.options bytes web.names.names)
  stored place (tok.Name id) (record web { names = record web.names { names = names } })

-- a text that is printed as it stands
abbrev pub quoted_stored : Place → (ℕ → Tok) → List ℕ → Scanned → Result Scanned Fault
quoted_stored place make bytes web =
    stored place (make (length web.quoted)) (record web { quoted = web.quoted ++ bytes ∷ [] })

-- a sign: `#` is the parameter in the text of a parametric macro
abbrev pub sign_token : Class → ℕ → Tok
sign_token class.Parametric byte = if byte == 35 then tok.Param else tok.Sign byte
sign_token other byte = tok.Sign byte

-- the web with a token of the text of a macro of this class, or of a section, where the class is the ordinary one. No
-- other code is ever stored
abbrev pub token_stored : Class → Place → Token → Scanned → Result Scanned Fault
token_stored kind place (letter byte) web = stored place (tok.Letter (folded web.names.options.case byte)) web
token_stored kind place (digit byte) web = stored place (tok.Digit byte) web
token_stored kind place (word bytes) web = word_stored place bytes web
token_stored kind place (based value) web = stored place (tok.Number (pos value)) web
token_stored kind place (sign byte) web = stored place (sign_token kind byte) web
token_stored kind place (joined two) web = stored place (tok.Joined two) web
token_stored kind place (quoted bytes) web = quoted_stored place tok.Quoted (quoted_text bytes) web
token_stored kind place (pool bytes) web = string_stored place web (numbered (string_value bytes) web.strings)
token_stored kind place (verbatim bytes) web =
    quoted_stored place tok.Verbatim (undoubled (codes "@") bytes) web
token_stored kind place (control code.Join) web = stored place tok.Join web
token_stored kind place (control code.Line) web = stored place tok.Line web
token_stored kind place (control code.MetaOpen) web = stored place tok.MetaOpen web
token_stored kind place (control code.MetaClose) web = stored place tok.MetaClose web
token_stored kind place other web = Ok web

-- how many parentheses are open after a token, where so many are before it
abbrev pub opened_after : ℕ → Tok → ℕ
opened_after depth (tok.Sign byte) =
    if byte == 40 then depth + 1 else (if byte == 41 then depth - 1 else depth)
opened_after depth other = depth

-- how many parentheses of a text are still open at its end
abbrev pub still_open : List Tok → ℕ
still_open text = fold opened_after 0 text

-- whether a token closes a parenthesis
abbrev pub is_closing : Token → Bool
is_closing (sign byte) = byte == 41
is_closing other = false

-- the tokens that were stored since there were so many
abbrev pub stored_since : ℕ → Scanned → List Tok
stored_since first web = drop first web.tokens

-- the next token of a text that began after so many tokens, unless it closes a parenthesis that is not open
abbrev pub text_token : Class → ℕ → Token → Scanning → Result Scanning Fault
text_token kind first token scanning =
    if is_closing token && still_open (stored_since first scanning.web) == 0
    then Err (fault_at UNBALANCED_PARENTHESES (place_of_last scanning))
    else token_stored kind (place_of_last scanning) token scanning.web
    >>= (λ web. Ok (record scanning { web = web }))

-- the text that began after so many tokens, and which the last token ends, unless a parenthesis is open
abbrev pub ended_text : ℕ → Scanning → Result (List Tok) Fault
ended_text first scanning =
    let text = stored_since first scanning.web in
    if still_open text == 0 then Ok text else Err (fault_at UNBALANCED_PARENTHESES (place_of_last scanning))

-- the code by which a token ends the right side of a definition, if it does
abbrev pub ending_code : Token → Option Code
ending_code end_of_input = Some code.End
ending_code (control code.Definition) = Some code.Definition
ending_code (control code.Format) = Some code.Format
ending_code (control code.Pascal) = Some code.Pascal
ending_code (control code.Name) = Some code.Name
ending_code (control code.Section) = Some code.Section
ending_code other = None

-- a text, the code that ends it, and the web after that
abbrev pub TextRead : Type 0
TextRead = Result (List Tok × Code × Scanning) Fault

-- a macro's text from a token on: one that ends it, or one more of its tokens and then what is read further
abbrev pub macro_text_from : Class → ℕ → Token → Scanning → (Scanning → TextRead) → Option Code → TextRead
macro_text_from kind first token scanning further (Some code) =
    ended_text first scanning >>= (λ text. Ok (text, code, scanning))
macro_text_from kind first token scanning further None = text_token kind first token scanning >>= further

-- the text of a macro of this class, which began after so many tokens and has no more than this number of them from
-- here on
unfoldable pub macro_text : ℕ → Class → ℕ → Scanning → TextRead
macro_text zero kind first scanning = ended_text first scanning >>= (λ text. Ok (text, code.End, scanning))
macro_text (suc most) kind first scanning =
    token_read scanning
    >>= (λ read. macro_text_from kind first read.0 read.1 (macro_text most kind first) (ending_code read.0))
