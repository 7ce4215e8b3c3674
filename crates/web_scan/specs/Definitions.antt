-- The definitions of macros (STAN-CS-83-980). That a definition out of form is a fault is this project's own.
use Rattle.std.specs.Prelude.{ℕ, ℤ, pos, ◌==◌, Bool, true, false, if◌then◌else◌, List, [], ◌∷◌, ◌++◌, length, Result}
use Rattle.std.specs.Prelude.{Ok, Err}
use Rattle.wb_base.specs.declared.faults.Fault.{Fault}
use Rattle.wb_base.specs.declared.faults.TheConstants.{BAD_DEFINITION, LIMIT_NAMES}
use Rattle.wb_base.specs.declared.places.Place.{Place}
use Rattle.wb_base.specs.declared.tokens.Joined.TheVariants as two
use Rattle.wb_base.specs.FaultAt.{fault_at}
use Rattle.wb_base.specs.Steps.{◌>>=◌}
use Rattle.web_lex.specs.declared.codes.Code.{Code}
use Rattle.web_lex.specs.Token.{Token, word, sign, joined}
use Rattle.web_names.specs.declared.classes.Class.{Class}
use Rattle.web_names.specs.declared.classes.Class.TheVariants as class
use Rattle.web_names.specs.Identifiers.{defined, with_value}
use Rattle.web_scan.specs.Refusals.{unless_refused}
use Rattle.web_scan.specs.Numeric.{right_side, value_of}
use Rattle.web_scan.specs.Scanned.{Scanned, Scanning, place_of_last, token_read, most_tokens}
use Rattle.web_scan.specs.Texts.{macro_text}

-- whether a token is this sign
abbrev pub is_sign : ℕ → Token → Bool
is_sign byte (sign other) = other == byte
is_sign byte other = false

-- whether a token is `==`
abbrev pub is_same : Token → Bool
is_same (joined two.Same) = true
is_same other = false

-- the next token, which must be such, or else shows this fault
abbrev pub expected : ℕ → (Token → Bool) → Scanning → Result Scanning Fault
expected code is_such scanning = do
  (token, scanning) ← token_read scanning
  if is_such token then Ok scanning else Err (fault_at code (place_of_last scanning))

-- the word that is defined: a word of several letters
abbrev pub defined_word : Place → Token → Result (List ℕ) Fault
defined_word place (word bytes) = Ok bytes
defined_word place other = Err (fault_at BAD_DEFINITION place)

-- after the `(` of a parametric definition: `#`, `)` and `==`
abbrev pub parameter_read : Scanning → Result (Class × Scanning) Fault
parameter_read scanning = do
  scanning ← expected BAD_DEFINITION (is_sign 35) scanning
  scanning ← expected BAD_DEFINITION (is_sign 41) scanning
  scanning ← expected BAD_DEFINITION is_same scanning
  Ok (class.Parametric, scanning)

-- the class of the macro by the token after its name: `=`, `==` or `(`
abbrev pub class_from : Token → Scanning → Result (Class × Scanning) Fault
class_from (sign byte) scanning =
    if byte == 61 then Ok (class.Numeric, scanning)
    else (if byte == 40 then parameter_read scanning else Err (fault_at BAD_DEFINITION (place_of_last scanning)))
class_from (joined two.Same) scanning = Ok (class.Simple, scanning)
class_from other scanning = Err (fault_at BAD_DEFINITION (place_of_last scanning))

-- the signs after the name, and the class that they tell
abbrev pub class_read : Scanning → Result (Class × Scanning) Fault
class_read scanning = do
  (token, scanning) ← token_read scanning
  class_from token scanning

-- a word becomes a macro of this class, which this place shows: its id, and the web after it
abbrev pub macro_defined : Place → List ℕ → Class → Scanned → Result (ℕ × Scanned) Fault
macro_defined place bytes kind web = do
  (id, names) ← unless_refused LIMIT_NAMES place (defined bytes kind web.names.names)
  Ok (id, record web { names = record web.names { names = names } })

-- the same at the last sign that was read, before the right side is
abbrev pub name_defined : List ℕ → Class → Scanning → Result (ℕ × Scanning) Fault
name_defined bytes kind scanning = do
  (id, web) ← macro_defined (place_of_last scanning) bytes kind scanning.web
  Ok (id, record scanning { web = web })

-- a macro gets its value, or the number of its text
abbrev pub value_given : ℕ → ℤ → Scanned → Scanned
value_given id value web =
    record web { names = record web.names { names = with_value id value web.names.names } }

-- the right side of the macro with this id and class, whose name stands at this place: a numeric macro gets its value,
-- the others the number of their text. The code that ends it, and the web after that
abbrev pub right_side_read : Place → ℕ → Class → Scanning → Result (Code × Scanning) Fault
right_side_read at_name id class.Numeric scanning = do
  (terms, code, scanning) ← right_side (most_tokens scanning) id [] scanning
  value ← value_of at_name terms
  Ok (code, record scanning { web = value_given id value scanning.web })
right_side_read at_name id kind scanning = do
  let web = value_given id (pos (length scanning.web.texts)) scanning.web
  let begun : Scanning = record scanning { web = web }
  (text, code, ended) ← macro_text (most_tokens begun) kind (length web.tokens) begun
  Ok (code, record ended { web = record ended.web { texts = ended.web.texts ++ text ∷ [] } })

-- a definition after its `@d`: a name, signs, and a right side
unfoldable pub definition : Scanning → Result (Code × Scanning) Fault
definition scanning = do
  (name, after_name) ← token_read scanning
  bytes ← defined_word (place_of_last after_name) name
  (kind, after_signs) ← class_read after_name
  (id, begun) ← name_defined bytes kind after_signs
  right_side_read (place_of_last after_name) id kind begun
