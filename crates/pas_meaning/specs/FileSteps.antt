-- The steps of files as steps of a run: each is of the file with this number.
use Rattle.std.specs.Prelude.{ℕ, false, nat_lt, if◌then◌else◌, List, [], ◌∷◌, ◌++◌, length, slice_index_or, slice_set}
use Rattle.std.specs.Prelude.{fold, None}
use Rattle.pas_meaning.specs.declared.errors.TheConstants.{WRONG_MODE}
use Rattle.pas_meaning.specs.Answers.{Answer, fine, wrong}
use Rattle.pas_meaning.specs.Files as files
use Rattle.pas_meaning.specs.Files.{File}
use Rattle.pas_meaning.specs.Outcome.{emptied, wrote, World, Doing, Worldly, passes, fails, worldly}

abbrev pub no_file : File
no_file = record { is_text = false; bytes = []; place = 0; mode = files.unused; buffer = None; starts = 0 }

abbrev pub file_at : ℕ → World → File
file_at number world = slice_index_or world.files number no_file

abbrev pub with_file : ℕ → File → World → World
with_file number file world = record world { files = slice_set world.files number file }

-- a file that is there: one that is not is in no mode
abbrev pub file_named : ℕ → World → Answer ℕ
file_named number world = if nat_lt number (length world.files) then fine number else wrong WRONG_MODE

-- the file as a step leaves it
abbrev pub left : ℕ → World → Answer File → Worldly (Unit {0})
left number world (fine file) = passes tt (with_file number file world)
left number world (wrong kind) = fails kind

abbrev pub change_file : {S : Type 0} → ℕ → (File → Answer File) → Doing S (Unit {0})
change_file number step = worldly (λ world. left number world (step (file_at number world)))

abbrev pub reset : {S : Type 0} → ℕ → Doing S (Unit {0})
reset number = change_file number (λ file. fine (files.reset file))

-- a rewrite, and bytes that are appended, are put out
abbrev pub emptied_file : ℕ → World → World
emptied_file number world =
    record (with_file number (files.rewrite (file_at number world)) world) { trail = emptied number ∷ world.trail }

abbrev pub rewrite : {S : Type 0} → ℕ → Doing S (Unit {0})
rewrite number = worldly (λ world. passes tt (emptied_file number world))

abbrev pub with_byte : ℕ → World → ℕ → World
with_byte number world byte =
    let file = file_at number world in
    record (with_file number (record file { bytes = file.bytes ++ byte ∷ [] }) world)
    { trail = wrote number byte ∷ world.trail }

abbrev pub with_bytes : ℕ → List ℕ → World → World
with_bytes number bytes world = fold (with_byte number) world bytes

abbrev pub appended : ℕ → World → Answer (List ℕ) → Worldly (Unit {0})
appended number world (fine bytes) = passes tt (with_bytes number bytes world)
appended number world (wrong kind) = fails kind

abbrev pub append : {S : Type 0} → ℕ → (File → Answer (List ℕ)) → Doing S (Unit {0})
append number bytes = worldly (λ world. appended number world (bytes (file_at number world)))

-- put: the buffer is appended, and then undefined
abbrev pub without_buffer : ℕ → World → World
without_buffer number world = with_file number (record (file_at number world) { buffer = None }) world

abbrev pub put_byte : ℕ → World → Answer ℕ → Worldly (Unit {0})
put_byte number world (fine byte) = passes tt (without_buffer number (with_byte number world byte))
put_byte number world (wrong kind) = fails kind

abbrev pub put : {S : Type 0} → ℕ → Doing S (Unit {0})
put number = worldly (λ world. put_byte number world (files.byte_to_put (file_at number world)))
