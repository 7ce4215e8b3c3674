-- The definitions of change files and of the merge, at work on a short web.
use Rattle.std.specs.Prelude.{◌≡◌, ℕ, List, [], ◌∷◌, ◌++◌, codes, Result, Ok, Err, refl}
use Rattle.wb_base.specs.declared.places.FileTag.{FileTag}
use Rattle.wb_base.specs.declared.places.FileTag.TheVariants.{Web, Change}
use Rattle.wb_base.specs.declared.faults.Fault.{Fault}
use Rattle.change_merge.specs.Lines.{Line, all_lines, lines_of}
use Rattle.wb_base.specs.Steps.{◌>>=◌}
use Rattle.change_merge.specs.Changes.{blocks_of, changes_of}
use Rattle.change_merge.specs.Merge.{merge_of}

-- a text of these lines
abbrev text_of : List (List ℕ) → List ℕ
text_of [] = []
text_of (line ∷ lines) = line ++ 10 ∷ text_of lines

-- the web with the change file
abbrev merged : List (List ℕ) → List (List ℕ) → Result (List Line) Fault
merged web change = changes_of (text_of change) >>= merge_of (text_of web)

abbrev a_web : List (List ℕ)
a_web = codes "a" ∷ codes "b" ∷ codes "c" ∷ []

abbrev line_of : FileTag → ℕ → List ℕ → Line
line_of tag number bytes = record { place = record { file = tag; line = number }; bytes = bytes }

abbrev fault_of_change : ℕ → ℕ → Result (List Line) Fault
fault_of_change code number = Err (record { code = code; file = Change; line = number; which = 0 })

pub replaced : merged a_web (codes "@x" ∷ [] ∷ codes "b" ∷ codes "@y" ∷ codes "n" ∷ codes "@z" ∷ []) ≡ Ok
    (line_of Web 1 (codes "a") ∷ line_of Change 5 (codes "n") ∷ line_of Web 3 (codes "c") ∷ [])
unfolding lines_of all_lines blocks_of changes_of merge_of
replaced = refl

pub stray_mark : merged a_web (codes "text" ∷ codes "@Y" ∷ []) ≡ fault_of_change 2 2
unfolding lines_of all_lines blocks_of changes_of merge_of
stray_mark = refl

pub no_new_part : merged a_web (codes "@x" ∷ codes "b" ∷ codes "@z" ∷ []) ≡ fault_of_change 3 1
unfolding lines_of all_lines blocks_of changes_of merge_of
no_new_part = refl

pub no_end : merged a_web (codes "@x" ∷ codes "b" ∷ codes "@y" ∷ []) ≡ fault_of_change 4 1
unfolding lines_of all_lines blocks_of changes_of merge_of
no_end = refl

pub no_old_lines : merged a_web (codes "@x" ∷ [] ∷ codes "@y" ∷ []) ≡ fault_of_change 5 1
unfolding lines_of all_lines blocks_of changes_of merge_of
no_old_lines = refl

pub not_found : merged a_web (codes "@x" ∷ codes "d" ∷ codes "@y" ∷ codes "@z" ∷ []) ≡ fault_of_change 6 1
unfolding lines_of all_lines blocks_of changes_of merge_of
not_found = refl

pub lines_differ : merged a_web (codes "@x" ∷ codes "b" ∷ codes "d" ∷ codes "@y" ∷ codes "@z" ∷ [])
    ≡ fault_of_change 7 3
unfolding lines_of all_lines blocks_of changes_of merge_of
lines_differ = refl

pub web_ended : merged a_web (codes "@x" ∷ codes "c" ∷ codes "d" ∷ codes "@y" ∷ codes "@z" ∷ []) ≡ fault_of_change 7 3
unfolding lines_of all_lines blocks_of changes_of merge_of
web_ended = refl

pub without_blocks : merged a_web (codes "text" ∷ []) ≡ Ok
    (line_of Web 1 (codes "a") ∷ line_of Web 2 (codes "b") ∷ line_of Web 3 (codes "c") ∷ [])
unfolding lines_of all_lines blocks_of changes_of merge_of
without_blocks = refl

-- the first block's new line is no line of the web to the second block
pub new_line_not_matched : merged a_web
    (codes "@x" ∷ codes "c" ∷ codes "@y" ∷ codes "d" ∷ codes "@z" ∷ codes "@x" ∷ codes "d" ∷ codes "@y" ∷ codes "@z" ∷
    []) ≡ fault_of_change 6 6
unfolding lines_of all_lines blocks_of changes_of merge_of
new_line_not_matched = refl
