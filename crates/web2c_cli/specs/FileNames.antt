-- Names of files on the command line, and of the files that are made of a web. This project's own.
use Rattle.std.specs.Prelude.{ℕ, ◌-◌, ◌==◌, ◌&&◌, not, nat_le, List, ◌++◌, length, take, drop, codes, decimal, Bool}
use Rattle.std.specs.Prelude.{if◌then◌else◌}
use Rattle.std.specs.List.{list_all}
use Rattle.std.specs.Str.{bytes_eq}
use Rattle.web2c_cli.specs.declared.command_table.NameKind.{NameKind}
use Rattle.web2c_cli.specs.declared.command_table.NameKind.TheVariants.{Web, Pascal, File}

-- a byte that a file's name may have: a visible one, but neither `"` nor a backslash
abbrev pub is_name_byte : ℕ → Bool
is_name_byte byte = nat_le 33 byte && nat_le byte 126 && not (byte == 34) && not (byte == 92)

-- whether the word can be a file's name
abbrev pub is_file_name : List ℕ → Bool
is_file_name word = not (length word == 0) && list_all is_name_byte word

-- the word without this ending, if it has it
abbrev pub without_ending : List ℕ → List ℕ → List ℕ
without_ending ending word =
    let start = length word - length ending in
    if bytes_eq (drop start word) ending then take start word else word

-- the name of a web without `.web`, by which the files are named that are made of it
abbrev pub base_of : List ℕ → List ℕ
base_of web = without_ending (codes ".web") web

-- the name of a Pascal program without `.p`
abbrev pub pascal_base_of : List ℕ → List ℕ
pascal_base_of pascal = without_ending (codes ".p") pascal

-- whether the word can name what is named there: a file, and of a web or a Pascal program the base is not empty
abbrev pub is_name_of : NameKind → List ℕ → Bool
is_name_of Web word = is_file_name word && not (length (base_of word) == 0)
is_name_of Pascal word = is_file_name word && not (length (pascal_base_of word) == 0)
is_name_of File word = is_file_name word

-- the name of a file that is made of a web, with this ending
abbrev pub output_name : List ℕ → List ℕ → List ℕ
output_name web ending = base_of web ++ ending

-- the name of the Pascal file
abbrev pub pascal_name : List ℕ → List ℕ
pascal_name web = output_name web (codes ".p")

-- the name of the C file of this number
abbrev pub code_name : List ℕ → ℕ → List ℕ
code_name web number = output_name web (decimal number ++ codes ".c")
