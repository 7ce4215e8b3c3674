-- Where a reader of a command line stands, and what the words after that still give.
use Rattle.std.specs.Prelude.{ℕ, Bool, false, ◌+◌, ◌&&◌, nat_le, List, length, map, drop}
use Rattle.std.specs.Prelude.{if◌then◌else◌, Option, Some, None, slice_get}
use Rattle.std.specs.List.{list_all, filter_map}
use Rattle.std.specs.Option.{option_map_or, option_or, option_copied}
use Rattle.web2c_cli.specs.declared.command_line.Names.{Names as NamesRead}
use Rattle.web2c_cli.specs.declared.command_line.Order.{Order as OrderRead}
use Rattle.web2c_cli.specs.declared.command_line.Request.{Request as RequestRead}
use Rattle.web2c_cli.specs.declared.command_line.Request.TheVariants.{Ordered, Usage}
use Rattle.web2c_cli.specs.declared.parts.Part.{Part as PartRead}
use Rattle.web2c_cli.specs.declared.parts.Part.TheVariants.{Name, Given, Unknown}
use Rattle.web2c_cli.specs.declared.parts.Cursor.{Cursor}
use Rattle.web2c_cli.specs.CommandLine.{OptionForm, CommandForm, Part, name, setting, unknown, parts_of, Names}
use Rattle.web2c_cli.specs.FileNames.{is_name_of}
use Rattle.web2c_cli.specs.CommandLine.{names_of, Order, Request, ordered, usage, name_in, is_known, are_names_of}

-- what is read, as the definitions have it
abbrev pub part_by : PartRead → Part
part_by (Name word) = name word.now
part_by (Given given) = setting given
part_by Unknown = unknown

abbrev pub names_by : NamesRead → Names
names_by names = record { first = names.first.now; second = option_copied names.second }

abbrev pub order_by : OrderRead → Order
order_by order = record { command = order.command; names = names_by order.names; settings = order.settings }

abbrev pub request_as : RequestRead → Request
request_as (Ordered order) = ordered (order_by order)
request_as Usage = usage

-- what the words give from here on
abbrev pub parts_from : List OptionForm → Cursor → List (List ℕ) → List Part
parts_from options cursor words =
    if cursor.names_only then map name (drop cursor.at words) else parts_of options (drop cursor.at words)

-- the names with one more; the first two are kept
abbrev pub with_name : Option Names → List ℕ → Names
with_name None word = record { first = word; second = None }
with_name (Some names) word = record { first = names.first; second = option_or names.second (Some word) }

-- the names with these after them; the first two are kept
abbrev pub more_names : Option Names → List (List ℕ) → Option Names
more_names None words = names_of words
more_names (Some names) words =
    Some (record { first = names.first; second = option_or names.second (slice_get words 0) })

-- the names that a command line still gives, where so many were read and these were kept
abbrev pub names_still : CommandForm → Option Names → ℕ → List Part → Option Names
names_still form names count parts =
    let words = filter_map name_in parts in
    if list_all is_known parts && are_names_of (drop count form.names) form.more words && nat_le form.needed
    (count + length words)
    then more_names names words else None

-- whether a name can name what stands at this place, from 0
abbrev pub is_name_at : CommandForm → ℕ → List ℕ → Bool
is_name_at form index word =
    option_map_or (λ kind. is_name_of kind word) (option_or (slice_get form.names index) form.more) false
