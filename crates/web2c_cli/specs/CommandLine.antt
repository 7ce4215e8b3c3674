-- The words of a command line, without the program's own name, and what they ask for. The commands, their names and
-- their options are this project's own.
use Rattle.std.specs.Prelude.{ℕ, ◌+◌, ◌-◌, ◌*◌, ◌==◌, ◌&&◌, not, nat_le, List, [], ◌∷◌, ◌++◌, length, take, drop, map}
use Rattle.std.specs.Prelude.{find, position, fold, codes, Bool, true, false, if◌then◌else◌, Option, Some, None}
use Rattle.std.specs.Prelude.{is_none, option_map, slice_get, count_by}
use Rattle.std.specs.List.{list_all, filter_map}
use Rattle.std.specs.Option.{option_map_or}
use Rattle.std.specs.Char.{is_ascii_digit}
use Rattle.std.specs.Str.{bytes_eq}
use Rattle.wb_base.specs.declared.options.Case.TheVariants.{Upper, Lower, Mixed}
use Rattle.wb_base.specs.declared.options.Options.{Options}
use Rattle.web2c_cli.specs.declared.command_table.Command.{Command}
use Rattle.web2c_cli.specs.declared.command_table.Command.TheVariants.{Tangle, Pooltype, Prun}
use Rattle.web2c_cli.specs.declared.command_table.NameKind.{NameKind}
use Rattle.web2c_cli.specs.declared.command_table.NameKind.TheVariants.{Web, Pascal, File}
use Rattle.web2c_cli.specs.declared.command_table.Comparison.TheVariants.{Loose, Strict}
use Rattle.web2c_cli.specs.declared.command_table.Setting.{Setting}
use Rattle.web2c_cli.specs.declared.command_table.Setting.TheVariants.{Length, Underline, Letters, Words, Steps}
use Rattle.web2c_cli.specs.declared.command_table.TheConstants.{LEAST_LENGTH, GREATEST_LENGTH}
use Rattle.web2c_cli.specs.declared.command_table.TheConstants.{LEAST_STEPS, GREATEST_STEPS}
use Rattle.web2c_cli.specs.declared.command_table.Value.{Value}
use Rattle.web2c_cli.specs.declared.command_table.Value.TheVariants as value
use Rattle.web2c_cli.specs.FileNames.{is_name_of}

-- an option of a command: how it is spelled, and its value, which is fixed or is written as a number; options that set
-- the same exclude one another
pub record OptionForm : Type 0 where
  pub spelling : List ℕ
  pub value : Value

-- a command: its word, how many names it needs, what each name that it may have names, what each name behind those
-- names where any number of them may come, and its options
pub record CommandForm : Type 0 where
  pub word : List ℕ
  pub command : Command
  pub needed : ℕ
  pub names : List NameKind
  pub more : Option NameKind
  pub options : List OptionForm

-- the options of tangling, which are those of Web2C's `tangle`
abbrev pub tangle_options : List OptionForm
tangle_options =
    record { spelling = codes "--length"; value = value.Length }
    ∷ record { spelling = codes "--underline"; value = value.Fixed Underline }
    ∷ record { spelling = codes "--uppercase"; value = value.Fixed (Letters Upper) }
    ∷ record { spelling = codes "--lowercase"; value = value.Fixed (Letters Lower) }
    ∷ record { spelling = codes "--mixedcase"; value = value.Fixed (Letters Mixed) }
    ∷ record { spelling = codes "--loose"; value = value.Fixed (Words Loose) }
    ∷ record { spelling = codes "--strict"; value = value.Fixed (Words Strict) }
    ∷ []

-- the option of the run of a program
abbrev pub run_options : List OptionForm
run_options = record { spelling = codes "--steps"; value = value.Steps } ∷ []

-- the commands that are built: `tangle WEB [CH]`, `pooltype POOL` and `prun PAS FILE...`
abbrev pub command_table : List CommandForm
command_table =
    record {
      word = codes "tangle";
      command = Tangle;
      needed = 1;
      names = Web ∷ File ∷ [];
      more = None;
      options = tangle_options;
    }
    ∷ record {
      word = codes "pooltype";
      command = Pooltype;
      needed = 1;
      names = File ∷ [];
      more = None;
      options = [];
    }
    ∷ record {
      word = codes "prun";
      command = Prun;
      needed = 1;
      names = Pascal ∷ [];
      more = Some File;
      options = run_options;
    }
    ∷ []

-- what a word says, or an option and the word after it: a name, a setting, or nothing that the command knows
pub data Part : Type 0 where
  name : List ℕ → Part
  setting : Setting → Part
  unknown : Part

-- whether the word is `--`, after which all words are names
abbrev pub ends_options : List ℕ → Bool
ends_options word = bytes_eq word (codes "--")

-- whether the word is an option's: it begins with `-`, and is not `-` alone
abbrev pub is_dashed : List ℕ → Bool
is_dashed (first ∷ second ∷ others) = first == 45
is_dashed word = false

-- whether the byte is `=`, which stands between an option and its value
abbrev pub is_equals_sign : ℕ → Bool
is_equals_sign byte = byte == 61

-- where the first `=` of the word stands
abbrev pub equals_sign_in : List ℕ → Option ℕ
equals_sign_in word = position is_equals_sign word

-- what stands before the first `=` of the word: the spelling of an option
abbrev pub spelling_in : List ℕ → List ℕ
spelling_in word = option_map_or (λ index. take index word) (equals_sign_in word) word

-- what stands after the first `=` of the word, if it has one: a value
abbrev pub value_in : List ℕ → Option (List ℕ)
value_in word = option_map (λ index. drop (index + 1) word) (equals_sign_in word)

-- the option of the word, by its spelling
abbrev pub option_of : List OptionForm → List ℕ → Option OptionForm
option_of options word = find (λ option. bytes_eq option.spelling (spelling_in word)) options

-- whether an option with such a value takes it from the command line
abbrev pub takes_value : Value → Bool
takes_value (value.Fixed given) = false
takes_value value.Length = true
takes_value value.Steps = true

-- the number that is written so, in decimal digits
abbrev pub number_written : List ℕ → ℕ
number_written digits = fold (λ number digit. number * 10 + (digit - 48)) 0 digits

-- whether the text is a number within these bounds: digits and nothing else
abbrev pub is_number_within : ℕ → ℕ → List ℕ → Bool
is_number_within least most text =
    not (length text == 0) && list_all is_ascii_digit text
    && nat_le least (number_written text) && nat_le (number_written text) most

-- what an option says with this value, or without one
abbrev pub setting_by : Value → Option (List ℕ) → Part
setting_by (value.Fixed given) None = setting given
setting_by (value.Fixed given) (Some text) = unknown
setting_by value.Length None = unknown
setting_by value.Length (Some text) =
    if is_number_within LEAST_LENGTH GREATEST_LENGTH text then setting (Length (number_written text)) else unknown
setting_by value.Steps None = unknown
setting_by value.Steps (Some text) =
    if is_number_within LEAST_STEPS GREATEST_STEPS text then setting (Steps (number_written text)) else unknown

-- what the word of an option says with this value, or without one
abbrev pub option_part : List OptionForm → List ℕ → Option (List ℕ) → Part
option_part options word value =
    option_map_or (λ option. setting_by option.value value) (option_of options word) unknown

-- whether the word is an option whose value is the next word: one that takes a value, and has no `=`
abbrev pub takes_next : List OptionForm → List ℕ → Bool
takes_next options word =
    is_dashed word && is_none (value_in word) && option_map_or (λ option. takes_value option.value)
    (option_of options word) false

-- what the word says by itself
abbrev pub word_part : List OptionForm → List ℕ → Part
word_part options word = if is_dashed word then option_part options word (value_in word) else name word

-- what the words say after that of the command
unfoldable pub parts_of : List OptionForm → List (List ℕ) → List Part
parts_of options [] = []
parts_of options (word ∷ []) = if ends_options word then [] else word_part options word ∷ []
parts_of options (word ∷ next ∷ words) =
    if ends_options word then map name (next ∷ words)
    else (if takes_next options word then option_part options word (Some next) ∷ parts_of options words
    else word_part options word ∷ parts_of options (next ∷ words))

-- whether the command knows what is said
abbrev pub is_known : Part → Bool
is_known (name word) = true
is_known (setting given) = true
is_known unknown = false

-- the name that is said, if it is one
abbrev pub name_in : Part → Option (List ℕ)
name_in (name word) = Some word
name_in (setting given) = None
name_in unknown = None

-- the setting that is said, if it is one
abbrev pub setting_in : Part → Option Setting
setting_in (name word) = None
setting_in (setting given) = Some given
setting_in unknown = None

-- whether each name can name what stands at its place, and more names come only where they may
abbrev pub are_names_of : List NameKind → Option NameKind → List (List ℕ) → Bool
are_names_of kinds more [] = true
are_names_of [] None (word ∷ words) = false
are_names_of [] (Some kind) (word ∷ words) = is_name_of kind word && are_names_of [] (Some kind) words
are_names_of (kind ∷ kinds) more (word ∷ words) = is_name_of kind word && are_names_of kinds more words

-- whether two settings set the same
abbrev pub set_the_same : Setting → Setting → Bool
set_the_same (Length most) (Length other) = true
set_the_same Underline Underline = true
set_the_same (Letters folded) (Letters other) = true
set_the_same (Words compared) (Words other) = true
set_the_same (Steps most) (Steps other) = true
set_the_same first second = false

-- whether an option with this value sets what the setting does
abbrev pub sets : Value → Setting → Bool
sets (value.Fixed given) wanted = set_the_same given wanted
sets value.Length (Length most) = true
sets value.Length other = false
sets value.Steps (Steps most) = true
sets value.Steps other = false

-- how often that is set which an option with this value sets
abbrev pub times_set : Value → List Setting → ℕ
times_set value settings = count_by (sets value) settings

-- whether nothing is set twice
abbrev pub are_set_at_most_once : List OptionForm → List Setting → Bool
are_set_at_most_once options settings = list_all (λ option. nat_le (times_set option.value settings) 1) options

-- the names of a command line: the first, and the second if there is one
pub record Names : Type 0 where
  pub first : List ℕ
  pub second : Option (List ℕ)

-- the first two of these words, where there is a first
abbrev pub names_of : List (List ℕ) → Option Names
names_of [] = None
names_of (first ∷ others) = Some (record { first = first; second = slice_get others 0 })

-- what tangling chooses where nothing is set
abbrev pub default_options : Options
default_options = record { length = 32; underline = false; case = Mixed; strict = false }

-- the options after a setting; one of the steps leaves them as they are
abbrev pub with_setting : Options → Setting → Options
with_setting options (Length most) = record options { length = most }
with_setting options Underline = record options { underline = true }
with_setting options (Letters folded) = record options { case = folded }
with_setting options (Words Loose) = record options { strict = false }
with_setting options (Words Strict) = record options { strict = true }
with_setting options (Steps most) = options

-- the options that the settings choose
abbrev pub options_by_settings : List Setting → Options
options_by_settings settings = fold with_setting default_options settings

-- how many steps a run may take where nothing is set
abbrev pub default_steps : ℕ
default_steps = 1000000000

-- how many steps a run may take after a setting
abbrev pub with_steps : ℕ → Setting → ℕ
with_steps steps (Steps most) = most
with_steps steps other = steps

-- how many steps a run may take by the settings
abbrev pub steps_by_settings : List Setting → ℕ
steps_by_settings settings = fold with_steps default_steps settings

-- what a command is asked to do: with which names, and with which settings in the order in which they are given
pub record Order : Type 0 where
  pub command : Command
  pub names : Names
  pub settings : List Setting

-- what a command line asks for: an order, or nothing that is known
pub data Request : Type 0 where
  ordered : Order → Request
  usage : Request

-- the names that are said, where the command knows all that is said and has that many names of these kinds
abbrev pub names_for : CommandForm → List Part → Option Names
names_for form parts =
    let words = filter_map name_in parts in
    if list_all is_known parts && are_names_of form.names form.more words && nat_le form.needed (length words)
    then names_of words else None

-- what a command line of this command asks for, that says this after the command
abbrev pub request_by : CommandForm → List Part → Request
request_by form parts =
    let settings = filter_map setting_in parts in
    if are_set_at_most_once form.options settings
    then option_map_or (λ names. ordered (record { command = form.command; names = names; settings = settings }))
    (names_for form parts) usage
    else usage

-- the command of this word
abbrev pub command_of : List ℕ → Option CommandForm
command_of word = find (λ form. bytes_eq form.word word) command_table

-- what the words ask for
unfoldable pub request_of : List (List ℕ) → Request
request_of [] = usage
request_of (word ∷ words) =
    option_map_or (λ form. request_by form (parts_of form.options words)) (command_of word) usage

-- whether the names behind a command's first are those of the files of a run
abbrev pub names_files : Command → Bool
names_files Tangle = false
names_files Pooltype = false
names_files Prun = true

-- whether the request is for the run of a program
abbrev pub asks_for_run : Request → Bool
asks_for_run (ordered order) = names_files order.command
asks_for_run usage = false

-- the names that are said in the words
abbrev pub names_said : List (List ℕ) → List (List ℕ)
names_said [] = []
names_said (word ∷ words) =
    option_map_or (λ form. filter_map name_in (parts_of form.options words)) (command_of word) []

-- the words that name the files of a run: all names but the first, where the words ask for a run
abbrev pub file_words : List (List ℕ) → List (List ℕ)
file_words words = if asks_for_run (request_of words) then drop 1 (names_said words) else []

-- the line that tells how to call the program, with its byte 10
abbrev pub usage_line : List ℕ
usage_line = codes "usage: web2c tangle|pooltype|convert|chain|prun|crun|gen [options] names" ++ 10 ∷ []
