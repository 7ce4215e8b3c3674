-- Files and their steps (ISO 7185, 6.6.5.2 and 6.9). The order of checks, and that a text is read as if its last line
-- ended, are this project's own.
use Rattle.std.specs.Prelude.{ℕ, suc, ◌+◌, ◌-◌, ◌==◌, ◌&&◌, nat_le, nat_abs, ℤ, int_le, pos, Bool, true, false}
use Rattle.std.specs.Prelude.{if◌then◌else◌, List, [], ◌∷◌, ◌++◌, length, drop, take, replicate, slice_get, position}
use Rattle.std.specs.Prelude.{Option, Some, None, unwrap_or}
use Rattle.std.specs.List.{last_or}
use Rattle.std.specs.Fmt.{signed_decimal}
use Rattle.pas_meaning.specs.declared.errors.TheConstants.{WIDTH_BELOW_1, WRONG_MODE, AT_END_OF_FILE}
use Rattle.pas_meaning.specs.declared.errors.TheConstants.{UNDEFINED_BUFFER}
use Rattle.pas_meaning.specs.Answers.{Answer, fine, wrong, then_answer, or_wrong}

-- what a file is used for: nothing before its first reset or rewrite
pub data Mode : Type 0 where
  unused : Mode
  reading : Mode
  writing : Mode

-- a file: whether it is a text; its bytes; how many of them were passed; its mode; its buffer while it is written, if
-- that is defined; and how often it was reset or rewritten
pub record File : Type 0 where
  pub is_text : Bool
  pub bytes : List ℕ
  pub place : ℕ
  pub mode : Mode
  pub buffer : Option ℕ
  pub starts : ℕ

abbrev pub line_end : ℕ
line_end = 10

abbrev pub space : ℕ
space = 32

-- the bytes as they are read: those of a text that is not empty end a line
abbrev pub with_line_end : Option ℕ → List ℕ → List ℕ
with_line_end None bytes = bytes
with_line_end (Some last) bytes = if last == line_end then bytes else bytes ++ line_end ∷ []

abbrev pub view : File → List ℕ
view file = if file.is_text then with_line_end (last_or None file.bytes) file.bytes else file.bytes

abbrev pub byte_at_place : File → Option ℕ
byte_at_place file = slice_get (view file) file.place

-- whether a file is in a mode
abbrev pub is_reading : Mode → Bool
is_reading reading = true
is_reading mode = false

abbrev pub is_writing : Mode → Bool
is_writing writing = true
is_writing mode = false

abbrev pub while_reading : {A : Type 0} → File → Answer A → Answer A
while_reading file answer = if is_reading file.mode then answer else wrong WRONG_MODE

abbrev pub while_writing : {A : Type 0} → File → Answer A → Answer A
while_writing file answer = if is_writing file.mode then answer else wrong WRONG_MODE

-- a step that only texts have: that it is one of a text is shown by the types, and is no error of a lawful program
abbrev pub on_text : {A : Type 0} → File → Answer A → Answer A
on_text file answer = if file.is_text then answer else wrong WRONG_MODE

-- reset and rewrite
abbrev pub reset : File → File
reset file = record file { place = 0; mode = reading; buffer = None; starts = suc file.starts }

abbrev pub rewrite : File → File
rewrite file = record file { bytes = []; place = 0; mode = writing; buffer = None; starts = suc file.starts }

-- the byte at the place of a file that is read
abbrev pub next_byte : File → Answer ℕ
next_byte file = while_reading file (or_wrong AT_END_OF_FILE (byte_at_place file))

-- `f^` while the file is read: at the end of a line it is a space
abbrev pub as_buffer : Bool → ℕ → ℕ
as_buffer is_text byte = if is_text && (byte == line_end) then space else byte

abbrev pub buffer_read : File → Answer ℕ
buffer_read file = then_answer (next_byte file) (λ byte. fine (as_buffer file.is_text byte))

-- get
abbrev pub get : File → Answer File
get file = then_answer (next_byte file) (λ _. fine (record file { place = suc file.place }))

-- whether the end of a line is at the place, and whether the end of the file is
abbrev pub eoln : File → Answer Bool
eoln file = on_text file (then_answer (next_byte file) (λ byte. fine (byte == line_end)))

abbrev pub eof_in : Mode → File → Answer Bool
eof_in unused file = wrong WRONG_MODE
eof_in reading file = fine (nat_le (length (view file)) file.place)
eof_in writing file = fine true

abbrev pub eof : File → Answer Bool
eof file = eof_in file.mode file

-- readln: the place behind the next end of a line
abbrev pub behind_line : File → ℕ
behind_line file =
    file.place + suc (unwrap_or (position (λ byte. byte == line_end) (drop file.place (view file))) 0)

abbrev pub readln : File → Answer File
readln file = on_text file (then_answer (next_byte file) (λ _. fine (record file { place = behind_line file })))

-- `f^ := e` and put, while the file is written
abbrev pub buffer_set : ℕ → File → Answer File
buffer_set byte file = while_writing file (fine (record file { buffer = Some byte }))

abbrev pub byte_to_put : File → Answer ℕ
byte_to_put file = while_writing file (or_wrong UNDEFINED_BUFFER file.buffer)

-- what is printed on a text in a field of this width: a number or a char has spaces in front, and so has a string,
-- which is cut where it is longer
abbrev pub padded : ℕ → List ℕ → List ℕ
padded width bytes = replicate (width - length bytes) space ++ bytes

abbrev pub number_in_field : ℕ → ℤ → List ℕ
number_in_field width value = padded width (signed_decimal value)

abbrev pub char_in_field : ℕ → ℕ → List ℕ
char_in_field width byte = padded width (byte ∷ [])

abbrev pub string_in_field : ℕ → List ℕ → List ℕ
string_in_field width bytes = padded width (take width bytes)

-- a width is at least 1
abbrev pub width_of : ℤ → Answer ℕ
width_of width = if int_le (pos 1) width then fine (nat_abs width) else wrong WIDTH_BELOW_1

-- what is written on a text in a field of a width: the mode is looked at before the width. And the end of a line
abbrev pub written : (ℕ → List ℕ) → ℤ → File → Answer (List ℕ)
written bytes_for width file =
    on_text file (while_writing file (then_answer (width_of width) (λ found. fine (bytes_for found))))

abbrev pub writeln : File → Answer (List ℕ)
writeln file = on_text file (while_writing file (fine (line_end ∷ [])))
