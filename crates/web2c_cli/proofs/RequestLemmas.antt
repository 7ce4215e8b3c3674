-- What a command line asks for, from what is read of it.
use Rattle.std.proofs.Common.{◌≡◌, ◌∙◌, ℕ, zero, suc, List, [], ◌∷◌, length, drop, true, false, ◌&&◌, nat_le, refl}
use Rattle.std.proofs.Common.{Option, Some, None, filter_map, slice_get, sym, ap}
use Rattle.std.proofs.lemmas.List.{nil_from_length}
use Rattle.std.proofs.lemmas.List.Folds.{list_all-map}
use Rattle.std.specs.List.{find, list_all}
use Rattle.std.specs.Option.{option_map_or, option_or}
use Rattle.std.specs.Str.{bytes_eq}
use Rattle.web2c_cli.specs.declared.command_table.OptionRow.{OptionRow}
use Rattle.web2c_cli.specs.declared.command_table.Setting.{Setting}
use Rattle.web2c_cli.specs.declared.command_table.NameKind.{NameKind}
use Rattle.web2c_cli.specs.FileNames.{is_name_of}
use Rattle.web2c_cli.specs.inner.Table.{option_by, options_by}
use Rattle.web2c_cli.specs.CommandLine.{times_set, CommandForm, command_table, Part, parts_of}
use Rattle.web2c_cli.specs.CommandLine.{setting_in, are_set_at_most_once, Names, Request, ordered, usage}
use Rattle.web2c_cli.specs.CommandLine.{names_for, are_names_of, command_of, request_by, request_of}
use Rattle.web2c_cli.specs.CommandLine.{name_in, names_said}
use Rattle.web2c_cli.proofs.PartsLemmas.{cond_true, cond_false, drop_at}

-- whether no which is made twice, over the rows in code
pub set_once_by : (rows : List OptionRow) (settings : List Setting)
    → are_set_at_most_once (options_by rows) settings ≡ list_all
    (λ row. nat_le (times_set row.value settings) 1) rows
set_once_by rows settings = list_all-map (λ form. nat_le (times_set form.value settings) 1) option_by rows

-- a which is made twice
pub request_twice : (form : CommandForm) (parts : List Part)
    → are_set_at_most_once form.options (filter_map setting_in parts) ≡ false → request_by form parts ≡ usage
request_twice form parts twice = cond_false _ _ _ twice

-- no which is, and there are names
pub request_named : (form : CommandForm) (parts : List Part) (names : Names)
    → are_set_at_most_once form.options (filter_map setting_in parts) ≡ true → names_for form parts ≡ Some names
    → request_by form parts
    ≡ ordered (record { command = form.command; names = names; settings = filter_map setting_in parts })
request_named form parts names once is =
    cond_true _ _ _ once
    ∙ ap (λ (o : Option Names). option_map_or
    (λ names. ordered (record { command = form.command; names = names; settings = filter_map setting_in parts }))
    o usage) is

-- there are no words
pub request_empty : (words : List (List ℕ)) → length words ≡ 0 → request_of words ≡ usage
unfolding request_of
request_empty words none = ap request_of (nil_from_length words none)

abbrev from_form : List (List ℕ) → CommandForm → Request
from_form rest form = request_by form (parts_of form.options rest)

pub request_found : (words : List (List ℕ)) (word : List ℕ) (form : CommandForm) → slice_get words 0 ≡ Some word
    → Some form ≡ find (λ (form : CommandForm). bytes_eq form.word word) command_table
    → request_by form (parts_of form.options (drop 1 words)) ≡ request_of words
unfolding request_of
request_found words word form is found =
    ap (λ (o : Option CommandForm). option_map_or (from_form (drop 1 words)) o usage) found
    ∙ sym (ap request_of (drop_at words 0 word is))

pub request_unknown : (words : List (List ℕ)) (word : List ℕ) → slice_get words 0 ≡ Some word
    → None ≡ find (λ (form : CommandForm). bytes_eq form.word word) command_table → usage ≡ request_of words
unfolding request_of
request_unknown words word is found =
    ap (λ (o : Option CommandForm). option_map_or (from_form (drop 1 words)) o usage) found
    ∙ sym (ap request_of (drop_at words 0 word is))

-- whether names can name what stands from a place on, by the first of them
pub names_at : (kinds : List NameKind) (more : Option NameKind) (i : ℕ) (word : List ℕ) (words : List (List ℕ))
    → are_names_of (drop i kinds) more (word ∷ words)
    ≡ (option_map_or (λ kind. is_name_of kind word) (option_or (slice_get kinds i) more) false
    && are_names_of (drop (suc i) kinds) more words)
names_at [] None zero word words = refl
names_at [] None (suc i) word words = refl
names_at [] (Some kind) zero word words = refl
names_at [] (Some kind) (suc i) word words = refl
names_at (kind ∷ kinds) more zero word words = refl
names_at (kind ∷ kinds) more (suc i) word words = names_at kinds more i word words

-- the names that are said
abbrev said_of_form : List (List ℕ) → CommandForm → List (List ℕ)
said_of_form rest form = filter_map name_in (parts_of form.options rest)

pub said_found : (words : List (List ℕ)) (word : List ℕ) (form : CommandForm) → slice_get words 0 ≡ Some word
    → Some form ≡ command_of word → filter_map name_in (parts_of form.options (drop 1 words)) ≡ names_said words
said_found words word form is found =
    ap (λ (o : Option CommandForm). option_map_or (said_of_form (drop 1 words)) o []) found
    ∙ sym (ap names_said (drop_at words 0 word is))
