-- The expansion of a web: its items, once macros, section names and parameters are replaced (STAN-CS-83-980, after
-- tangle.web). The limits are this project's own.
use Rattle.std.specs.Prelude.{ℕ, zero, suc, ℤ, nat_abs, ◌+◌, ◌-◌, nat_lt, if◌then◌else◌, List, [], ◌∷◌, slice_get}
use Rattle.std.specs.Prelude.{Option, Some, None, unwrap_or, Result, Ok, Err}
use Rattle.wb_base.specs.declared.tokens.Tok.{Tok}
use Rattle.wb_base.specs.declared.tokens.Tok.TheVariants as tok
use Rattle.web_names.specs.declared.classes.Class.{Class}
use Rattle.web_names.specs.declared.classes.Class.TheVariants as class
use Rattle.web_names.specs.Identifiers.{Name, printed_form}
use Rattle.web_scan.specs.Scanned.{PascalText, Scanned, texts_under}
use Rattle.macro_expand.specs.declared.limits.TheConstants.{LEVEL_LIMIT, STEP_LIMIT}
use Rattle.macro_expand.specs.declared.refusals.ExpandErr.{ExpandErr}
use Rattle.macro_expand.specs.declared.refusals.ExpandErr.TheVariants.{NotPresent, NoParameter, Levels, Steps}
use Rattle.macro_expand.specs.Flat.{Flat, nothing, token, opens, closes, ends, argument, followed_by, text_before}
use Rattle.macro_expand.specs.Flat.{pieces_before, levels, ends_in_front, behind_ends, is_opening, parted}
use Rattle.macro_expand.specs.Items as item
use Rattle.macro_expand.specs.Items.{Expanded}

-- what a token stands for: an item, the text of a simple or of a parametric macro, or the Pascal texts of a section
pub data Meaning : Type 0 where
  itself : Expanded → Meaning
  simple : List Tok → Meaning
  parametric : List Tok → Meaning
  section : List PascalText → Meaning

-- the text of the macro with this value
abbrev pub text_of : Scanned → ℤ → List Tok
text_of web value = unwrap_or (slice_get web.texts (nat_abs value)) []

-- a name by its class
abbrev pub class_meaning : Scanned → Name → Class → Meaning
class_meaning web name class.Ordinary = itself (item.word (printed_form web.names.options name.word))
class_meaning web name class.Numeric = itself (item.number name.value)
class_meaning web name class.Simple = simple (text_of web name.value)
class_meaning web name class.Parametric = parametric (text_of web name.value)

-- a name, which every web has that a token stands for
abbrev pub name_meaning : Scanned → Option Name → Meaning
name_meaning web (Some name) = class_meaning web name name.class
name_meaning web None = itself (item.word [])

-- what is printed as it stands
abbrev pub quoted_at : Scanned → ℕ → List ℕ
quoted_at web index = unwrap_or (slice_get web.quoted index) []

-- a token. The argument is put in place of a parameter wherever a text is, so that none is left as a token
abbrev pub meaning : Scanned → Tok → Meaning
meaning web (tok.Letter byte) = itself (item.word (byte ∷ []))
meaning web (tok.Digit byte) = itself (item.digit byte)
meaning web (tok.Name id) = name_meaning web (slice_get web.names.names id)
meaning web (tok.Number value) = itself (item.number value)
meaning web (tok.Sign byte) = itself (item.sign byte)
meaning web (tok.Joined value) = itself (item.joined value)
meaning web (tok.Quoted index) = itself (item.quoted (quoted_at web index))
meaning web (tok.Verbatim index) = itself (item.verbatim (quoted_at web index))
meaning web (tok.Section name) = section (texts_under name web.named)
meaning web tok.Param = simple []
meaning web tok.Join = itself item.join
meaning web tok.Line = itself item.line
meaning web tok.MetaOpen = itself item.meta_open
meaning web tok.MetaClose = itself item.meta_close

-- the next step on the value of the one before, whose refusal ends the work
infixl 10 ◌>>=◌
abbrev pub ◌>>=◌ : {A B : Type 0} → Result A ExpandErr → (A → Result B ExpandErr) → Result B ExpandErr
Ok value >>= step = step value
Err refusal >>= step = Err refusal

-- what the removal of a head leaves: an item of the result or none, how many steps are left, and the list
pub record Removal : Type 0 where
  pub item : Option Expanded
  pub steps : ℕ
  pub list : Flat

-- an item of the result, or none
abbrev pub gives : Option Expanded → ℕ → Flat → Result Removal ExpandErr
gives given steps list = Ok (record { item = given; steps = steps; list = list })

-- the steps left after so many more: each head that is removed from the front is one
abbrev pub steps_after : ℕ → ℕ → Result ℕ ExpandErr
steps_after count steps = if nat_lt steps count then Err Steps else Ok (steps - count)

-- a replacement, unless it opens a level too many
abbrev pub replaced : ℕ → Flat → Result Removal ExpandErr
replaced steps list = if nat_lt LEVEL_LIMIT (levels list) then Err Levels else gives None steps list

-- what stands behind the `(` at the front
abbrev pub behind_opening : Flat → Result Flat ExpandErr
behind_opening (token head rest) = if is_opening head then Ok rest else Err NoParameter
behind_opening other = Err NoParameter

-- the text of a parametric macro goes to the front in place of the `(`, the argument and its `)`, of which the `(`
-- was
-- read
abbrev pub argument_taken : List Tok → ℕ → Flat → Result Removal ExpandErr
argument_taken text steps opened =
    let found = parted 0 opened in
    steps_after (found.count + 2) steps
    >>= (λ steps. replaced steps (text_before found.inside text (ends found.behind)))

-- a parametric macro with this text is replaced: the ends at the front are removed, and then the argument is taken
unfoldable pub with_argument : List Tok → ℕ → Flat → Result Removal ExpandErr
with_argument text steps list = do
  steps ← steps_after (ends_in_front list) steps
  opened ← behind_opening (behind_ends list)
  argument_taken text steps opened

-- a token with this meaning was removed
abbrev pub token_removed : ℕ → Flat → Meaning → Result Removal ExpandErr
token_removed steps list (itself given) = gives (Some given) steps list
token_removed steps list (simple text) = replaced steps (text_before nothing text (ends list))
token_removed steps list (parametric text) = with_argument text steps list
token_removed steps list (section []) = Err NotPresent
token_removed steps list (section (piece ∷ pieces)) = replaced steps (pieces_before (piece ∷ pieces) (ends list))

-- the head of the list was removed
abbrev pub head_removed : Scanned → ℕ → Flat → Result Removal ExpandErr
head_removed web steps nothing = gives None steps nothing
head_removed web steps (token head list) = token_removed steps list (meaning web head)
head_removed web steps (opens number list) = gives (Some (item.opens number)) steps list
head_removed web steps (closes number list) = gives (Some (item.closes number)) steps list
head_removed web steps (ends list) = gives None steps list
head_removed web steps (argument given list) = replaced steps (followed_by given (ends list))

-- the removal of the head, where so many steps are left
unfoldable pub removal : Scanned → ℕ → Flat → Result Removal ExpandErr
removal web steps list = steps_after 1 steps >>= (λ steps. head_removed web steps list)

-- what an expansion gives: its items, and a fault or none at their end
pub record Expansion : Type 0 where
  pub items : List Expanded
  pub fault : Option ExpandErr

-- no items
abbrev pub stopped : Option ExpandErr → Expansion
stopped fault = record { items = []; fault = fault }

-- an item or none before what is given further
abbrev pub with_item : Option Expanded → Expansion → Expansion
with_item None further = further
with_item (Some given) further = record { items = given ∷ further.items; fault = further.fault }

-- a removal, and what the list after it gives
abbrev pub continued : (ℕ → Flat → Expansion) → Result Removal ExpandErr → Expansion
continued further (Ok removal) = with_item removal.item (further removal.steps removal.list)
continued further (Err refusal) = stopped (Some refusal)

-- what a list gives with so many steps left, by no more than `most` removals; each takes a step or more
unfoldable pub given_within : ℕ → Scanned → ℕ → Flat → Expansion
given_within most web steps nothing = stopped None
given_within zero web steps list = stopped (Some Steps)
given_within (suc most) web steps list = continued (given_within most web) (removal web steps list)

-- what a list gives with so many steps left
unfoldable pub given_by : Scanned → ℕ → Flat → Expansion
given_by web steps list = given_within steps web steps list

-- the expansion of a web, which begins with the unnamed section
unfoldable pub expansion_of : Scanned → Expansion
expansion_of web = given_by web STEP_LIMIT (pieces_before web.unnamed (ends nothing))
