-- The definition of the command line at work.
use Rattle.std.specs.Prelude.{◌≡◌, ℕ, List, [], ◌∷◌, codes, Option, Some, None, true, false, refl}
use Rattle.wb_base.specs.declared.options.Case.TheVariants.{Upper, Lower, Mixed}
use Rattle.web2c_cli.specs.declared.command_table.Command.TheVariants.{Tangle, Pooltype, Prun}
use Rattle.web2c_cli.specs.declared.command_table.Comparison.TheVariants.{Loose, Strict}
use Rattle.web2c_cli.specs.declared.command_table.Setting.{Setting}
use Rattle.web2c_cli.specs.declared.command_table.Setting.TheVariants.{Length, Underline, Letters, Words, Steps}
use Rattle.web2c_cli.specs.CommandLine.{parts_of, Request, ordered, usage, request_of, options_by_settings}
use Rattle.web2c_cli.specs.CommandLine.{steps_by_settings, file_words}

-- the order to tangle the web with the change file, if there is one
abbrev tangle : List ℕ → Option (List ℕ) → Request
tangle web change =
    ordered (record { command = Tangle; names = record { first = web; second = change }; settings = [] })

pub web_alone : request_of (codes "tangle" ∷ codes "t.web" ∷ []) ≡ tangle (codes "t.web") None
unfolding request_of parts_of
web_alone = refl

pub with_change_file : request_of (codes "tangle" ∷ codes "t.web" ∷ codes "t.ch" ∷ [])
    ≡ tangle (codes "t.web") (Some (codes "t.ch"))
unfolding request_of parts_of
with_change_file = refl

pub no_words : request_of [] ≡ usage
unfolding request_of parts_of
no_words = refl

pub no_name : request_of (codes "tangle" ∷ []) ≡ usage
unfolding request_of parts_of
no_name = refl

pub three_names : request_of (codes "tangle" ∷ codes "a" ∷ codes "b" ∷ codes "c" ∷ []) ≡ usage
unfolding request_of parts_of
three_names = refl

pub not_built : request_of (codes "convert" ∷ codes "t.p" ∷ []) ≡ usage
unfolding request_of parts_of
not_built = refl

pub other_case : request_of (codes "Tangle" ∷ codes "t.web" ∷ []) ≡ usage
unfolding request_of parts_of
other_case = refl

pub unknown_option : request_of (codes "tangle" ∷ codes "-x" ∷ codes "t.web" ∷ []) ≡ usage
unfolding request_of parts_of
unknown_option = refl

pub end_mark_alone : request_of (codes "tangle" ∷ codes "--" ∷ []) ≡ usage
unfolding request_of parts_of
end_mark_alone = refl

pub end_mark : request_of (codes "tangle" ∷ codes "--" ∷ codes "t.web" ∷ []) ≡ tangle (codes "t.web") None
unfolding request_of parts_of
end_mark = refl

pub end_mark_after_end_mark : request_of (codes "tangle" ∷ codes "--" ∷ codes "--" ∷ []) ≡ tangle (codes "--") None
unfolding request_of parts_of
end_mark_after_end_mark = refl

pub dashed_name : request_of (codes "tangle" ∷ codes "--" ∷ codes "-t.web" ∷ []) ≡ tangle (codes "-t.web") None
unfolding request_of parts_of
dashed_name = refl

pub dash_alone : request_of (codes "tangle" ∷ codes "-" ∷ []) ≡ tangle (codes "-") None
unfolding request_of parts_of
dash_alone = refl

pub empty_name : request_of (codes "tangle" ∷ [] ∷ []) ≡ usage
unfolding request_of parts_of
empty_name = refl

pub empty_base : request_of (codes "tangle" ∷ codes ".web" ∷ []) ≡ usage
unfolding request_of parts_of
empty_base = refl

pub empty_base_of_change_file : request_of (codes "tangle" ∷ codes "t.web" ∷ codes ".web" ∷ [])
    ≡ tangle (codes "t.web") (Some (codes ".web"))
unfolding request_of parts_of
empty_base_of_change_file = refl

pub name_with_quote : request_of (codes "tangle" ∷ (97 ∷ 34 ∷ []) ∷ []) ≡ usage
unfolding request_of parts_of
name_with_quote = refl

pub name_past_126 : request_of (codes "tangle" ∷ (97 ∷ 127 ∷ []) ∷ []) ≡ usage
unfolding request_of parts_of
name_past_126 = refl

pub pool : request_of (codes "pooltype" ∷ codes "a.pool" ∷ [])
    ≡ ordered (record {
      command = Pooltype;
      names = record { first = codes "a.pool"; second = None };
      settings = [];
    })
unfolding request_of parts_of
pool = refl

pub two_pools : request_of (codes "pooltype" ∷ codes "a.pool" ∷ codes "b.pool" ∷ []) ≡ usage
unfolding request_of parts_of
two_pools = refl

-- the order to tangle the web `a` with these settings
abbrev given : List Setting → Request
given settings =
    ordered (record { command = Tangle; names = record { first = codes "a"; second = None }; settings = settings })

-- what is asked for by these words after `tangle`
abbrev asked : List (List ℕ) → Request
asked words = request_of (codes "tangle" ∷ words)

pub value_after_equals_sign : asked (codes "--length=50" ∷ codes "a" ∷ [])
    ≡ given (Length 50 ∷ [])
unfolding request_of parts_of
value_after_equals_sign = refl

pub value_in_next_word : asked (codes "a" ∷ codes "--length" ∷ codes "0032" ∷ [])
    ≡ given (Length 32 ∷ [])
unfolding request_of parts_of
value_in_next_word = refl

pub least_value : asked (codes "--length=1" ∷ codes "a" ∷ [])
    ≡ given (Length 1 ∷ [])
unfolding request_of parts_of
least_value = refl

pub value_too_small : asked (codes "--length" ∷ codes "0" ∷ codes "a" ∷ [])
    ≡ usage
unfolding request_of parts_of
value_too_small = refl

pub value_too_big : asked (codes "--length=51" ∷ codes "a" ∷ [])
    ≡ usage
unfolding request_of parts_of
value_too_big = refl

pub value_no_number : asked (codes "--length=5o" ∷ codes "a" ∷ [])
    ≡ usage
unfolding request_of parts_of
value_no_number = refl

pub value_empty : asked (codes "--length=" ∷ codes "a" ∷ [])
    ≡ usage
unfolding request_of parts_of
value_empty = refl

pub value_with_equals_sign : asked (codes "--length==5" ∷ codes "a" ∷ [])
    ≡ usage
unfolding request_of parts_of
value_with_equals_sign = refl

pub value_past_64_bits : asked (codes "--length=18446744073709551617" ∷ codes "a" ∷ [])
    ≡ usage
unfolding request_of parts_of
value_past_64_bits = refl

pub value_is_an_option : asked (codes "--length" ∷ codes "--strict" ∷ codes "a" ∷ [])
    ≡ usage
unfolding request_of parts_of
value_is_an_option = refl

pub value_missing : asked (codes "a" ∷ codes "--length" ∷ [])
    ≡ usage
unfolding request_of parts_of
value_missing = refl

pub value_is_end_mark : asked (codes "--length" ∷ codes "--" ∷ codes "a" ∷ [])
    ≡ usage
unfolding request_of parts_of
value_is_end_mark = refl

pub value_not_wanted : asked (codes "--strict=1" ∷ codes "a" ∷ [])
    ≡ usage
unfolding request_of parts_of
value_not_wanted = refl

pub empty_value_not_wanted : asked (codes "--strict=" ∷ codes "a" ∷ [])
    ≡ usage
unfolding request_of parts_of
empty_value_not_wanted = refl

pub four_settings : asked
    (codes "--lowercase" ∷ codes "a" ∷ codes "--length=9" ∷ codes "--underline" ∷ codes "--loose" ∷ [])
    ≡ given (Letters Lower ∷ Length 9 ∷ Underline ∷ Words Loose ∷ [])
unfolding request_of parts_of
four_settings = refl

pub given_twice : asked (codes "--length=50" ∷ codes "--length" ∷ codes "50" ∷ codes "a" ∷ [])
    ≡ usage
unfolding request_of parts_of
given_twice = refl

pub underline_twice : asked (codes "--underline" ∷ codes "a" ∷ codes "--underline" ∷ [])
    ≡ usage
unfolding request_of parts_of
underline_twice = refl

pub two_cases : asked (codes "--uppercase" ∷ codes "a" ∷ codes "--mixedcase" ∷ [])
    ≡ usage
unfolding request_of parts_of
two_cases = refl

pub strict_and_loose : asked (codes "--strict" ∷ codes "--loose" ∷ codes "a" ∷ [])
    ≡ usage
unfolding request_of parts_of
strict_and_loose = refl

pub option_after_end_mark : asked (codes "--" ∷ codes "--strict" ∷ [])
    ≡ ordered (record { command = Tangle; names = record { first = codes "--strict"; second = None }; settings = [] })
unfolding request_of parts_of
option_after_end_mark = refl

pub part_of_a_spelling : asked (codes "--up" ∷ codes "a" ∷ [])
    ≡ usage
unfolding request_of parts_of
part_of_a_spelling = refl

pub one_dash : asked (codes "-strict" ∷ codes "a" ∷ [])
    ≡ usage
unfolding request_of parts_of
one_dash = refl

-- what the settings choose
pub chosen_by_default : options_by_settings [] ≡ record { length = 32; underline = false; case = Mixed; strict = false }
chosen_by_default = refl

pub chosen_all : options_by_settings (Words Strict ∷ Length 7 ∷ Letters Upper ∷ Underline ∷ [])
    ≡ record { length = 7; underline = true; case = Upper; strict = true }
chosen_all = refl

-- the order to run the Pascal program `t.p` with these settings; of the names behind it the first is kept
abbrev run : Option (List ℕ) → List Setting → Request
run file settings =
    ordered (record { command = Prun; names = record { first = codes "t.p"; second = file }; settings = settings })

-- what is asked for by these words after `prun`
abbrev run_asked : List (List ℕ) → Request
run_asked words = request_of (codes "prun" ∷ words)

pub program_alone : run_asked (codes "t.p" ∷ [])
    ≡ run None []
unfolding request_of parts_of
program_alone = refl

pub program_and_files : run_asked (codes "t.p" ∷ codes "a" ∷ codes "b" ∷ codes "c" ∷ [])
    ≡ run (Some (codes "a")) []
unfolding request_of parts_of
program_and_files = refl

pub standard_streams : run_asked (codes "t.p" ∷ codes ":std" ∷ [])
    ≡ run (Some (codes ":std")) []
unfolding request_of parts_of
standard_streams = refl

pub no_program : run_asked []
    ≡ usage
unfolding request_of parts_of
no_program = refl

pub empty_base_of_program : run_asked (codes ".p" ∷ [])
    ≡ usage
unfolding request_of parts_of
empty_base_of_program = refl

pub empty_base_of_file : run_asked (codes "t.p" ∷ codes ".p" ∷ [])
    ≡ run (Some (codes ".p")) []
unfolding request_of parts_of
empty_base_of_file = refl

pub file_with_quote : run_asked (codes "t.p" ∷ (97 ∷ 34 ∷ 98 ∷ []) ∷ [])
    ≡ usage
unfolding request_of parts_of
file_with_quote = refl

pub fourth_name_with_quote : run_asked (codes "t.p" ∷ codes "a" ∷ codes "b" ∷ (97 ∷ 34 ∷ 98 ∷ []) ∷ [])
    ≡ usage
unfolding request_of parts_of
fourth_name_with_quote = refl

pub no_steps : run_asked (codes "--steps=0" ∷ codes "t.p" ∷ [])
    ≡ run None (Steps 0 ∷ [])
unfolding request_of parts_of
no_steps = refl

pub most_steps : run_asked (codes "t.p" ∷ codes "--steps" ∷ codes "1000000000" ∷ codes "a" ∷ [])
    ≡ run (Some (codes "a")) (Steps 1000000000 ∷ [])
unfolding request_of parts_of
most_steps = refl

pub too_many_steps : run_asked (codes "--steps=1000000001" ∷ codes "t.p" ∷ [])
    ≡ usage
unfolding request_of parts_of
too_many_steps = refl

pub steps_without_value : run_asked (codes "t.p" ∷ codes "--steps" ∷ [])
    ≡ usage
unfolding request_of parts_of
steps_without_value = refl

pub steps_twice : run_asked (codes "--steps=5" ∷ codes "t.p" ∷ codes "--steps" ∷ codes "5" ∷ [])
    ≡ usage
unfolding request_of parts_of
steps_twice = refl

pub length_of_a_run : run_asked (codes "--length=5" ∷ codes "t.p" ∷ [])
    ≡ usage
unfolding request_of parts_of
length_of_a_run = refl

pub steps_of_tangling : asked (codes "--steps=5" ∷ codes "a" ∷ [])
    ≡ usage
unfolding request_of parts_of
steps_of_tangling = refl

pub file_after_end_mark : run_asked (codes "t.p" ∷ codes "--" ∷ codes "-x" ∷ [])
    ≡ run (Some (codes "-x")) []
unfolding request_of parts_of
file_after_end_mark = refl

pub program_after_end_mark : run_asked (codes "--" ∷ codes "t.p" ∷ codes "--" ∷ [])
    ≡ run (Some (codes "--")) []
unfolding request_of parts_of
program_after_end_mark = refl

-- the words that name the files of a run
pub files_of_a_run : file_words (codes "prun" ∷ codes "t.p" ∷ codes ":std" ∷ codes "a.txt" ∷ [])
    ≡ codes ":std" ∷ codes "a.txt" ∷ []
unfolding request_of parts_of
files_of_a_run = refl

pub files_among_options : file_words
    (codes "prun" ∷ codes "--steps" ∷ codes "7" ∷ codes "t.p" ∷ codes "a" ∷ codes "--" ∷ codes "-x" ∷ [])
    ≡ codes "a" ∷ codes "-x" ∷ []
unfolding request_of parts_of
files_among_options = refl

pub no_files : file_words (codes "prun" ∷ codes "t.p" ∷ [])
    ≡ []
unfolding request_of parts_of
no_files = refl

pub no_files_of_tangling : file_words (codes "tangle" ∷ codes "t.web" ∷ codes "t.ch" ∷ [])
    ≡ []
unfolding request_of parts_of
no_files_of_tangling = refl

pub no_files_of_a_faulty_line : file_words (codes "prun" ∷ codes "t.p" ∷ codes "a" ∷ codes "--steps=x" ∷ [])
    ≡ []
unfolding request_of parts_of
no_files_of_a_faulty_line = refl

-- how many steps a run may take by the settings
pub steps_by_default : steps_by_settings [] ≡ 1000000000
steps_by_default = refl

pub steps_chosen : steps_by_settings (Steps 7 ∷ []) ≡ 7
steps_chosen = refl
