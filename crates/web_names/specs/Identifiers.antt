-- Identifiers of a web: how a word is printed and compared, and what uses and definitions do to the list of the names
-- so far. The rules are TANGLE's with the options of Web2C: a new identifier may not look like an older one, a macro is
-- compared with none from its definition on, and a word of one letter is never compared. Only the limits are this
-- project's own.
use Rattle.std.specs.Prelude.{ℕ, zero, suc, ℤ, pos, ◌==◌, ◌&&◌, ◌||◌, not, nat_lt, Bool, true, false, if◌then◌else◌}
use Rattle.std.specs.Prelude.{List, [], ◌∷◌, ◌++◌, length, map, filter, take, position, Option, Some, None, slice_get}
use Rattle.std.specs.Prelude.{Result, Ok, Err}
use Rattle.std.specs.List.{list_any}
use Rattle.std.specs.Option.{option_map_or}
use Rattle.std.specs.Char.{to_ascii_uppercase, to_ascii_lowercase}
use Rattle.std.specs.Str.{bytes_eq}
use Rattle.wb_base.specs.declared.options.Case.{Case}
use Rattle.wb_base.specs.declared.options.Case.TheVariants.{Upper, Lower, Mixed}
use Rattle.wb_base.specs.declared.options.Options.{Options}
use Rattle.web_names.specs.declared.classes.Class.{Class}
use Rattle.web_names.specs.declared.classes.Class.TheVariants.{Ordinary, Numeric}
use Rattle.web_names.specs.declared.name_errors.NameErr.{NameErr}
use Rattle.web_names.specs.declared.name_errors.NameErr.TheVariants.{Appeared, Before, Conflict, Full}

-- a byte of a word, folded as the option says
abbrev pub folded : Case → ℕ → ℕ
folded Upper byte = to_ascii_uppercase byte
folded Lower byte = to_ascii_lowercase byte
folded Mixed byte = byte

-- whether a byte of a word stays, where underlines stay or not
abbrev pub is_kept : Bool → ℕ → Bool
is_kept underline byte = underline || not (byte == 95)

-- a word with its underlines kept or removed and its letters folded
abbrev pub spelled : Bool → Case → List ℕ → List ℕ
spelled underline case word = map (folded case) (filter (is_kept underline) word)

-- the most bytes of an identifier in the Pascal text
abbrev pub printed_limit : ℕ
printed_limit = 50

-- a word as it stands in the Pascal text
unfoldable pub printed_form : Options → List ℕ → List ℕ
printed_form options word = take printed_limit (spelled options.underline options.case word)

-- what of a word tells it from others: of the word as it is printed, before its cut, or strictly in upper case without
-- underlines
unfoldable pub compared_form : Options → List ℕ → List ℕ
compared_form options word =
    take options.length
    (if options.strict then spelled false Upper word else spelled options.underline options.case word)

-- a name: its word, its class, and the value or the number of the text of a macro
pub record Name : Type 0 where
  pub word : List ℕ
  pub class : Class
  pub value : ℤ

-- what contracts see of the names: the options, and the names in the order of their first use
pub record Identifiers : Type 0 where
  pub options : Options
  pub names : List Name

-- whether this is the name of the word
abbrev pub is_named : List ℕ → Name → Bool
is_named word name = bytes_eq word name.word

-- the id of the word: the place, from 0, of its name among the names in the order of their first use
abbrev pub id_of : List ℕ → List Name → Option ℕ
id_of word names = position (is_named word) names

-- the class of the name with this id
abbrev pub class_of : ℕ → List Name → Class
class_of id names = option_map_or (λ name. name.class) (slice_get names id) Ordinary

abbrev pub is_ordinary : Class → Bool
is_ordinary Ordinary = true
is_ordinary _ = false

abbrev pub is_numeric : Class → Bool
is_numeric Numeric = true
is_numeric _ = false

-- whether a word is one byte long
abbrev pub is_one_letter : List ℕ → Bool
is_one_letter word = length word == 1

-- whether a name is compared with new words: it is no macro, and is not of one letter
abbrev pub is_compared : Name → Bool
is_compared name = is_ordinary name.class && not (is_one_letter name.word)

-- whether a name that is compared has this compared form
abbrev pub is_form_taken : Options → List ℕ → List Name → Bool
is_form_taken options form names =
    list_any (λ name. is_compared name && bytes_eq form (compared_form options name.word)) names

-- whether a new word of several letters looks like a name that is compared
abbrev pub is_in_conflict : Options → List ℕ → List Name → Bool
is_in_conflict options word names =
    not (is_one_letter word) && is_form_taken options (compared_form options word) names

-- a word as a name without a value
abbrev pub new_name : List ℕ → Class → Name
new_name word class = record { word = word; class = class; value = pos 0 }

-- the most names
abbrev pub name_limit : ℕ
name_limit = 65535

-- a new name's id, and the names with it
abbrev pub with_name : Name → List Name → Result (ℕ × List Name) NameErr
with_name name names =
    if nat_lt (length names) name_limit then Ok (length names, names ++ name ∷ []) else Err Full

-- a word in the Pascal text, where it is a name with this id or none yet
abbrev pub used_at : Option ℕ → Options → List ℕ → List Name → Result (ℕ × List Name) NameErr
used_at (Some id) options word names = Ok (id, names)
used_at None options word names =
    if is_in_conflict options word names then Err Conflict
    else with_name (new_name word Ordinary) names

-- a word in the Pascal text: its id and the names after it, or its refusal
unfoldable pub used : Options → List ℕ → List Name → Result (ℕ × List Name) NameErr
used options word names = used_at (id_of word names) options word names

-- the names with one of them changed
abbrev pub changed_at : ℕ → (Name → Name) → List Name → List Name
changed_at id change [] = []
changed_at zero change (name ∷ names) = change name ∷ names
changed_at (suc id) change (name ∷ names) = name ∷ changed_at id change names

-- the name as a macro of this class
abbrev pub with_class : Class → Name → Name
with_class class name = record name { class = class }

-- the definition of a name with this id as a macro
abbrev pub defined_again : ℕ → Class → List Name → Result (ℕ × List Name) NameErr
defined_again id class names =
    if not (is_ordinary (class_of id names)) then Err Before
    else (if is_numeric class then Err Appeared else Ok (id, changed_at id (with_class class) names))

-- the definition of a word as a macro, where it is a name with this id or none yet
abbrev pub defined_at : Option ℕ → List ℕ → Class → List Name → Result (ℕ × List Name) NameErr
defined_at (Some id) word class names = defined_again id class names
defined_at None word class names = with_name (new_name word class) names

-- the definition of a word as a macro: its id and the names after it, or its refusal
unfoldable pub defined : List ℕ → Class → List Name → Result (ℕ × List Name) NameErr
defined word class names = defined_at (id_of word names) word class names

-- the names where one of them is given a value: that of a macro, or the number of its text. An ordinary name keeps it
-- too, and it means nothing there
unfoldable pub with_value : ℕ → ℤ → List Name → List Name
with_value id value names = changed_at id (λ name. record name { value = value }) names
