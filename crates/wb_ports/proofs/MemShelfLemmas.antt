-- Look-ups in the files of a shelf in memory.
use Rattle.std.proofs.Common.{◌≡◌, ◌≢◌, not, ℕ, zero, suc, ◌<◌, ◌≤◌, Bool, true, false, cond, List, [], ◌∷◌, ◌++◌}
use Rattle.std.proofs.Common.{◌+◌, ◌-◌, ◌||◌, nat_lt, take, length, get_or, slice_get, set, Vec, vec_len}
use Rattle.std.proofs.Common.{vec_capacity, Option, Some, None, refl, sym, ◌∙◌, ap, arith}
use Rattle.std.specs.List.{position, prefix_len, remove}
use Rattle.std.specs.Str.{bytes_eq}
use Rattle.std.proofs.lemmas.Bool.{false_from_ne_true, false≢true}
use Rattle.std.proofs.lemmas.List.{take_all}
use Rattle.std.proofs.lemmas.Bool.Decides.{nat_tests}
use Rattle.std.proofs.lemmas.List.Quantifiers.{position-Some}
use Rattle.std.proofs.lemmas.List.Sums.{prefix_len_passes}
use Rattle.std.proofs.lemmas.List.Recursion.{found_at, found_nowhere}
use Rattle.std.proofs.lemmas.Slice.Eq.{bytes_eq-Decides}
use Rattle.wb_ports.specs.Files.{SameOthers, AppendsTo}
use Rattle.wb_ports.specs.MemShelf.{file_of, PutsFile, first_name, with_more}
use Rattle.wb_ports.specs.inner.MemShelfKept.{files_in, IsWritable}
use Rattle.wb_ports.specs.declared.mem_shelf.MemFile.{MemFile}
use Rattle.std.specs.declared.alloc.Global.{Global}

-- whether a file has this name
abbrev pub is_named : List ℕ → MemFile → Bool
is_named name file = bytes_eq file.name name

pub same_name : (name : List ℕ) → bytes_eq name name ≡ true
same_name name = (bytes_eq-Decides name name).1 refl

pub other_name : (name asked other : List ℕ) → bytes_eq name asked ≡ true → other ≢ asked → bytes_eq name other ≡ false
other_name name asked other same differs = false_from_ne_true (bytes_eq name other) (λ too.
    differs (sym ((bytes_eq-Decides name other).0 too) ∙ (bytes_eq-Decides name asked).0 same))

-- the file at the place of a name is the one that is found by it
pub found : (files : List MemFile) (name : List ℕ) (place : ℕ) (d : MemFile)
    → position (is_named name) files ≡ Some place
    → file_of (files_in files) name ≡ Some (get_or files place d).bytes.items
found files name place d is =
    let at = position-Some (is_named name) files place d is in
    found_at (λ fs. file_of (files_in fs) name) (is_named name) (λ file. Some file.bytes.items) None refl
    (λ _ _. refl) files place d at.0 at.2 at.1

not_true : (b : Bool) → not b ≡ true → b ≡ false
not_true true none = sym none
not_true false none = refl

-- where a name has no place there is no such file
pub missing : (files : List MemFile) (name : List ℕ) → position (is_named name) files ≡ None
    → file_of (files_in files) name ≡ None
missing [] name none = refl
missing (file ∷ files) name none =
    let all : length (file ∷ files) ≤ prefix_len (λ f. not (is_named name f)) (file ∷ files) =
    grind (arith, nat_tests) in
    found_nowhere (λ fs. file_of (files_in fs) name) (is_named name) (λ f. Some f.bytes.items) None refl (λ _ _. refl)
    (file ∷ files) file
    (λ k below. not_true _ (prefix_len_passes (λ f. not (is_named name f)) (file ∷ files) k file (omega arith)))

removed_at : (files : List MemFile) (name other : List ℕ) (place : ℕ) (d : MemFile) → place < length files
    → is_named name (get_or files place d) ≡ true → other ≢ name
    → file_of (files_in (remove files place)) other ≡ file_of (files_in files) other
removed_at [] name other place d within named differs = absurd (omega arith)
removed_at (file ∷ files) name other zero d within named differs =
    let apart = other_name file.name name other named differs in
    sym (ap (λ (b : Bool). cond b (Some file.bytes.items) (file_of (files_in files) other)) apart)
removed_at (file ∷ files) name other (suc place) d within named differs =
    ap (λ (o : Option (List ℕ)). cond (bytes_eq file.name other) (Some file.bytes.items) o)
    (removed_at files name other place d (omega arith) named differs)

-- without the file of a name every other is found as before
pub removed : (files : List MemFile) (name : List ℕ) (place : ℕ) (d : MemFile)
    → position (is_named name) files ≡ Some place
    → SameOthers name (file_of (files_in files)) (file_of (files_in (remove files place)))
removed files name place d is other differs =
    let at = position-Some (is_named name) files place d is in
    removed_at files name other place d at.0 at.1 differs

-- a file that is put before the others
pub put : (file : MemFile) (before rest : List MemFile)
    → SameOthers file.name (file_of (files_in before)) (file_of (files_in rest))
    → PutsFile file.name file.bytes.items (file_of (files_in before)) (file_of (files_in (file ∷ rest)))
put file before rest others = record {
  holds = ap (λ (b : Bool). cond b (Some file.bytes.items) (file_of (files_in rest) file.name)) (same_name file.name);
  others = λ other differs.
      ap (λ (b : Bool). cond b (Some file.bytes.items) (file_of (files_in rest) other))
      (other_name file.name file.name other (same_name file.name) differs)
      ∙ others other differs;
}

-- the first file with other bytes that keep within its room
pub still_writable : (room name_capacity : ℕ) (files : List MemFile) (bytes : Vec ℕ Global) (here : MemFile)
    → here ≡ get_or files 0 here → IsWritable room name_capacity files → room ≤ vec_capacity bytes
    → vec_len bytes ≤ room → IsWritable room name_capacity (set files 0 (record { name = here.name; bytes = bytes }))
still_writable room name_capacity [] bytes here is was reserved within = let never = was.first in absurd (cc)
still_writable room name_capacity (file ∷ files) bytes here is was reserved within =
    let same : was.file ≡ here = let first = was.first in cc in
    record {
      file = record { name = here.name; bytes = bytes };
      first = refl;
      reserved = reserved;
      within = within;
      name_fits = rw same at was.name_fits;
    }

-- more room for names keeps the first file writable
pub wider : (is_open : Bool) (room small large : ℕ) (files : List MemFile)
    → (is_open ≡ true → IsWritable room small files) → small ≤ large → is_open ≡ true → IsWritable room large files
wider is_open room small large files was more opened =
    let before = was opened in
    record {
      file = before.file;
      first = before.first;
      reserved = before.reserved;
      within = before.within;
      name_fits = omega arith;
    }

-- a file with its own room that stands first
pub fresh : (room name_capacity : ℕ) (files : List MemFile) (file : MemFile) → slice_get files 0 ≡ Some file
    → room ≤ vec_capacity file.bytes → vec_len file.bytes ≤ room → length file.name ≤ name_capacity
    → IsWritable room name_capacity files
fresh room name_capacity files file first reserved within name_fits = record {
  file = file;
  first = first;
  reserved = reserved;
  within = within;
  name_fits = name_fits;
}

pub first_name_is : (files : List MemFile) (file : MemFile) → slice_get files 0 ≡ Some file
    → first_name (files_in files) ≡ file.name
first_name_is [] file first = absurd (cc)
first_name_is (f ∷ files) file first = let same : f ≡ file = cc in ap (λ (g : MemFile). g.name) same

-- the first file is there
pub some_first : (room name_capacity : ℕ) (files : List MemFile) → IsWritable room name_capacity files
    → 0 < length files
some_first room name_capacity [] was = let never = was.first in absurd (cc)
some_first room name_capacity (file ∷ files) was = omega arith

pub first_name_fits : (room name_capacity : ℕ) (files : List MemFile) (d : MemFile)
    → IsWritable room name_capacity files → length (get_or files 0 d).name ≤ name_capacity
first_name_fits room name_capacity [] d was = let never = was.first in absurd (cc)
first_name_fits room name_capacity (file ∷ files) d was =
    let same : was.file ≡ file = let first = was.first in cc in
    rw same at was.name_fits

pub first_name_at : (room name_capacity : ℕ) (files : List MemFile) (d : MemFile)
    → IsWritable room name_capacity files → (get_or files 0 d).name ≡ first_name (files_in files)
first_name_at room name_capacity [] d was = let never = was.first in absurd (cc)
first_name_at room name_capacity (file ∷ files) d was = refl

-- more bytes at the end of the first file
pub appends : (room name_capacity : ℕ) (files : List MemFile) (more : List ℕ) → IsWritable room name_capacity files
    → AppendsTo (first_name (files_in files)) more (file_of (files_in files))
    (file_of (with_more more (files_in files)))
appends room name_capacity [] more was = let never = was.first in absurd (cc)
appends room name_capacity (file ∷ files) more was = record {
  bytes = file.bytes.items;
  held = ap (λ (b : Bool). cond b (Some file.bytes.items) (file_of (files_in files) file.name)) (same_name file.name);
  holds = ap (λ (b : Bool). cond b (Some (file.bytes.items ++ more)) (file_of (files_in files) file.name))
      (same_name file.name);
  others = λ other differs.
      let apart = other_name file.name file.name other (same_name file.name) differs in
      ap (λ (b : Bool). cond b (Some (file.bytes.items ++ more)) (file_of (files_in files) other)) apart
      ∙ sym (ap (λ (b : Bool). cond b (Some file.bytes.items) (file_of (files_in files) other)) apart);
}

-- which is still the first
pub first_name-with_more : (more : List ℕ) (files : List (List ℕ × List ℕ))
    → first_name (with_more more files) ≡ first_name files
first_name-with_more more [] = refl
first_name-with_more more (file ∷ files) = refl

-- a write that does not fail appends the whole piece
pub whole_piece : (listed done : Bool) (room n : ℕ) (piece : List ℕ)
    → not done ≡ (listed || nat_lt room (n + length piece)) → done ≡ true
    → cond listed [] (take (room - n) piece) ≡ piece
whole_piece true done room n piece fails is_done = absurd (false≢true (sym (ap not is_done) ∙ fails))
whole_piece false done room n piece fails is_done =
    let fits : n + length piece ≤ room = grind (arith, nat_tests) in
    take_all (room - n) piece (omega arith)

-- any write appends a prefix of the piece
pub some_prefix : (listed : Bool) (n : ℕ) (piece : List ℕ) → (x : ℕ) × (cond listed [] (take n piece) ≡ take x piece)
some_prefix true n piece = (0, refl)
some_prefix false n piece = (n, refl)
