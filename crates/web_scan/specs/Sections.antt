-- The sections of a web (STAN-CS-83-980). The faults are this project's own.
use Rattle.std.specs.Prelude.{ℕ, zero, suc, ◌||◌, Bool, if◌then◌else◌, List, [], ◌∷◌, ◌++◌, length}
use Rattle.std.specs.Prelude.{Option, Some, None, Result, Ok, Err}
use Rattle.wb_base.specs.declared.faults.Fault.{Fault}
use Rattle.wb_base.specs.declared.faults.TheConstants.{NO_EQUALS_SIGN, DEFINITION_IN_PASCAL, LIMIT_SECTION_NAMES}
use Rattle.wb_base.specs.declared.places.Place.{Place}
use Rattle.wb_base.specs.declared.tokens.Tok.{Tok}
use Rattle.wb_base.specs.declared.tokens.Tok.TheVariants as tok
use Rattle.wb_base.specs.FaultAt.{fault_at}
use Rattle.wb_base.specs.Steps.{◌>>=◌}
use Rattle.web_lex.specs.declared.codes.Code.{Code}
use Rattle.web_lex.specs.declared.codes.Code.TheVariants as code
use Rattle.web_lex.specs.declared.section_names.SectionName.{SectionName}
use Rattle.web_lex.specs.Token.{Token, end_of_input, control}
use Rattle.web_lex.specs.Reading.{next_name}
use Rattle.web_names.specs.declared.classes.Class.TheVariants as class
use Rattle.web_names.specs.SectionNames.{whole_name, prefix_name}
use Rattle.web_scan.specs.Definitions.{is_sign, is_same, definition}
use Rattle.web_scan.specs.Refusals.{unless_refused, stored, section_begun}
use Rattle.web_scan.specs.Scanned.{Scanned, Scanning, with_text_under, place_of_last, token_read, code_found}
use Rattle.web_scan.specs.Scanned.{most_tokens}
use Rattle.web_scan.specs.Texts.{TextRead, ended_text, text_token}

-- a prefix stands for a name that was seen before it; a whole name is seen now. The place of the name, and the web
-- after it
abbrev pub name_found : Place → SectionName → Scanned → Result (ℕ × Scanned) Fault
name_found place name web =
    if name.prefix
    then unless_refused LIMIT_SECTION_NAMES place (prefix_name name.text web.sections)
    >>= (λ found. Ok (found, web))
    else unless_refused LIMIT_SECTION_NAMES place (whole_name name.text web.sections)
    >>= (λ answer. Ok (answer.0, record web { sections = answer.1 }))

-- the name of a section after `@<`, whose line shows the faults of the name: its place, and the web after it
abbrev pub name_read : Scanning → Result (ℕ × Scanning) Fault
name_read scanning = do
  (name, reading) ← next_name scanning.reading
  (found, web) ← name_found (place_of_last scanning) name scanning.web
  Ok (found, record { reading = reading; web = web })

-- the name of a section in a text, whose token is stored
abbrev pub section_used : Scanning → Result Scanning Fault
section_used scanning = do
  (found, named) ← name_read scanning
  web ← stored (place_of_last named) (tok.Section found) named.web
  Ok (record named { web = web })

-- a section's text from a token on: a section start or the end of the input ends it; a definition, a format or `@p`
-- may not stand in it; the name of a section and all else is one more of its tokens, and then comes what is read
-- further
abbrev pub section_text_from : ℕ → Token → Scanning → (Scanning → TextRead) → TextRead
section_text_from first end_of_input scanning further =
    ended_text first scanning >>= (λ text. Ok (text, code.End, scanning))
section_text_from first (control code.Section) scanning further =
    ended_text first scanning >>= (λ text. Ok (text, code.Section, scanning))
section_text_from first (control code.Definition) scanning further =
    Err (fault_at DEFINITION_IN_PASCAL (place_of_last scanning))
section_text_from first (control code.Format) scanning further =
    Err (fault_at DEFINITION_IN_PASCAL (place_of_last scanning))
section_text_from first (control code.Pascal) scanning further =
    Err (fault_at DEFINITION_IN_PASCAL (place_of_last scanning))
section_text_from first (control code.Name) scanning further = section_used scanning >>= further
section_text_from first other scanning further = text_token class.Ordinary first other scanning >>= further

-- the text of a section, which began after so many tokens and has no more than this number of them from here on
unfoldable pub section_text : ℕ → ℕ → Scanning → TextRead
section_text zero first scanning = ended_text first scanning >>= (λ text. Ok (text, code.End, scanning))
section_text (suc most) first scanning =
    token_read scanning >>= (λ read. section_text_from first read.0 read.1 (section_text most first))

-- the web with the Pascal text of its last section, under this name or of the unnamed section
abbrev pub with_pascal_text : Option ℕ → List Tok → Scanned → Scanned
with_pascal_text None text web =
    record web { unnamed = web.unnamed ++ record { number = web.count; text = text } ∷ [] }
with_pascal_text (Some name) text web =
    record web { named = with_text_under name (record { number = web.count; text = text }) web.named }

-- the Pascal text of a section, which stands under this name, or belongs to the unnamed section; the code that ends
-- it, and the web after that
unfoldable pub pascal_text : Option ℕ → Scanning → Result (Code × Scanning) Fault
pascal_text name scanning = do
  (text, code, after) ← section_text (most_tokens scanning) (length scanning.web.tokens) scanning
  Ok (code, record after { web = with_pascal_text name text after.web })

-- whether a token ends the head of a named text: `=` or `==`
abbrev pub is_equals : Token → Bool
is_equals token = is_sign 61 token || is_same token

-- the head of a named text from a token on
abbrev pub head_from : Token → Scanning → (Scanning → Result Scanning Fault) → Result Scanning Fault
head_from token scanning further =
    if is_equals token then Ok scanning
    else (if is_sign 43 token then further scanning else Err (fault_at NO_EQUALS_SIGN (place_of_last scanning)))

-- the head of a named text after its name: any number of `+`, but no more than this, and then `=` or `==`
unfoldable pub head_read : ℕ → Scanning → Result Scanning Fault
head_read zero scanning = Ok scanning
head_read (suc most) scanning = token_read scanning >>= (λ read. head_from read.0 read.1 (head_read most))

-- a Pascal text after its `@<`: a name, signs, and a text
unfoldable pub named_text : Scanning → Result (Code × Scanning) Fault
named_text scanning = do
  (name, named) ← name_read scanning
  begun ← head_read (most_tokens named) named
  pascal_text (Some name) begun

-- the parts of a section from a code on, no more than this number of codes: definitions, and at most one Pascal text.
-- Between them every other code is passed, and a format with what follows it. The code that ends the section, and the
-- web after that
unfoldable pub section_parts : ℕ → Code → Scanning → Result (Code × Scanning) Fault
section_parts zero code scanning = Ok (code, scanning)
section_parts (suc most) code.Definition scanning =
    definition scanning >>= (λ ended. section_parts most ended.0 ended.1)
section_parts (suc most) code.Pascal scanning = pascal_text None scanning
section_parts (suc most) code.Name scanning = named_text scanning
section_parts (suc most) code.Section scanning = Ok (code.Section, scanning)
section_parts (suc most) code.End scanning = Ok (code.End, scanning)
section_parts (suc most) passed scanning = let found = code_found scanning in section_parts most found.0 found.1

-- a section after the code that begins it
unfoldable pub section : Scanning → Result (Code × Scanning) Fault
section scanning = do
  web ← section_begun (place_of_last scanning) scanning.web
  let found = code_found (record scanning { web = web })
  section_parts (most_tokens scanning) found.0 found.1

-- the sections of a web from a code on, no more than this number of codes. What stands before the first is passed
unfoldable pub sections : ℕ → Code → Scanning → Result Scanned Fault
sections zero code scanning = Ok scanning.web
sections (suc most) code.End scanning = Ok scanning.web
sections (suc most) code.Section scanning = section scanning >>= (λ ended. sections most ended.0 ended.1)
sections (suc most) passed scanning = let found = code_found scanning in sections most found.0 found.1
