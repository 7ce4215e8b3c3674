-- The items of an expansion, as definitions see them.
use Rattle.std.specs.Prelude.{ℕ, ℤ, List}
use Rattle.wb_base.specs.declared.tokens.Joined.{Joined}
use Rattle.macro_expand.specs.declared.items.Item.{Item}
use Rattle.macro_expand.specs.declared.items.Item.TheVariants as out

-- an item: a decimal digit, a constant, a word, a sign of one byte or of two, a single-quoted string with its
-- quotes, a
-- verbatim text, a join, a forced line, the begin and end of a metacomment, and of a piece of the section of a
-- number
pub data Expanded : Type 0 where
  digit : ℕ → Expanded
  number : ℤ → Expanded
  word : List ℕ → Expanded
  sign : ℕ → Expanded
  joined : Joined → Expanded
  quoted : List ℕ → Expanded
  verbatim : List ℕ → Expanded
  join : Expanded
  line : Expanded
  meta_open : Expanded
  meta_close : Expanded
  opens : ℕ → Expanded
  closes : ℕ → Expanded

-- the item that the code holds
abbrev pub item_of : Item → Expanded
item_of (out.Digit byte) = digit byte
item_of (out.Number value) = number value
item_of (out.Word bytes) = word bytes.now
item_of (out.Sign byte) = sign byte
item_of (out.Joined value) = joined value
item_of (out.Quoted bytes) = quoted bytes.now
item_of (out.Verbatim bytes) = verbatim bytes.now
item_of out.Join = join
item_of out.Line = line
item_of out.MetaOpen = meta_open
item_of out.MetaClose = meta_close
item_of (out.Open section) = opens section
item_of (out.Close section) = closes section
