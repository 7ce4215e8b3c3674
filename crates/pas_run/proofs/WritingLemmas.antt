-- A file that is written through its port.
use Rattle.std.proofs.Common.{◌≡◌, ◌⊎◌, inl, inr, ⊎_elim, ℕ, ◌+◌, List, [], ◌∷◌, ◌++◌, take, Option, Some, None, sym}
use Rattle.std.proofs.Common.{ap, ◌∙◌, subst, append_assoc, append-nil}
use Rattle.std.proofs.Common.{replicate, min, ◌-◌}
use Rattle.std.proofs.lemmas.List.{length-take}
use Rattle.std.proofs.lemmas.Bool.{cases_lt}
use Rattle.std.proofs.lemmas.List.{take-append-le, take_all}
use Rattle.std.proofs.Math.Seq.{take-append_seam, take-append-add}
use Rattle.std.specs.Prelude.{if◌then◌else◌}
use Rattle.std.proofs.Common.{◌<◌, ◌≤◌, length, Result, Ok, Err, true, arith}
use Rattle.pas_meaning.specs.declared.errors.TheConstants.{WRONG_MODE}
use Rattle.wb_ports.specs.PortState.{PortState, longer_port}
use Rattle.wb_ports.specs.Held.{WhereTold, Becomes, StaysOrBecomes}
use Rattle.pas_meaning.specs.Answers.{Answer, fine, wrong}
use Rattle.pas_meaning.specs.Files as files
use Rattle.pas_meaning.specs.Files.{File}
use Rattle.pas_run.specs.declared.files.FileState.{FileState}
use Rattle.pas_run.specs.declared.files.Usage.{Usage}
use Rattle.pas_run.specs.declared.files.Usage.TheVariants.{Unused, Reading, Writing}
use Rattle.pas_run.specs.RunFiles.{WhileRead, IsFile, Shows, with_more, Pieces, mode_of, Appends}
use Rattle.wb_ports.specs.declared.answers.Failed.{Failed}
use Rattle.pas_run.specs.declared.refusals.Refused.TheVariants.{Failed as RefusedFailed}

none_read : (usage : Usage) (claim : Type 0) → usage ≡ Writing → WhileRead usage claim
none_read Writing claim e = tt
none_read Unused claim e = tt
none_read Reading claim e = absurd (cc)

-- a byte that the port appends
pub put_told : (bound : PortState) (state : FileState) (told told' : Option PortState) (byte : ℕ) (file : File)
    → state.usage ≡ Writing → WhereTold (Becomes (longer_port byte)) told told' → IsFile bound state told file
    → IsFile bound state told' (with_more (byte ∷ []) file)
put_told bound state None told' byte file u t h = absurd h
put_told bound state (Some port) None byte file u t h = absurd t
put_told bound state (Some port) (Some now) byte file u t h =
    let put : IsFile bound state (Some (longer_port byte port)) (with_more (byte ∷ []) file) = record {
      kind = h.kind;
      bytes = ap (λ b. b ++ byte ∷ []) h.bytes;
      mode = h.mode;
      buffer = h.buffer;
      name = h.name;
      finishes = h.finishes;
      starts = h.starts;
      read = none_read state.usage _ u;
    } in subst (λ found. IsFile bound state (Some found) (with_more (byte ∷ []) file)) (sym t) put

pub put_failed : (bound : PortState) (state : FileState) (told told' : Option PortState) (byte : ℕ) (file : File)
    → WhereTold (StaysOrBecomes (longer_port byte)) told told' → IsFile bound state told file
    → Shows file.bytes told' ⊎ Shows (file.bytes ++ byte ∷ []) told'
put_failed bound state None told' byte file t h = absurd h
put_failed bound state (Some port) None byte file t h = absurd t
put_failed bound state (Some port) (Some now) byte file t h =
    ⊎_elim (λ (e : now ≡ port). inl (ap (λ (p : PortState). p.bytes) e ∙ sym h.bytes))
    (λ (e : now ≡ longer_port byte port). inr (ap (λ (p : PortState). p.bytes) e
    ∙ ap (λ b. b ++ byte ∷ []) (sym h.bytes))) t

-- one byte more of several
pub one_more : (bound : PortState) (state : FileState) (told told' : Option PortState) (byte : ℕ)
    (before now : List ℕ) (file : File) → state.usage ≡ Writing → now ≡ before ++ byte ∷ []
    → WhereTold (Becomes (longer_port byte)) told told' → IsFile bound state told (with_more before file)
    → IsFile bound state told' (with_more now file)
one_more bound state told told' byte before now file u e t h =
    subst (λ b. IsFile bound state told' (record file { bytes = b }))
    (append_assoc file.bytes before (byte ∷ []) ∙ ap (λ b. file.bytes ++ b) (sym e))
    (put_told bound state told told' byte (with_more before file) u t h)

pub none_more : (bound : PortState) (state : FileState) (told : Option PortState) (file : File)
    → IsFile bound state told file → IsFile bound state told (with_more [] file)
none_more bound state told file h =
    subst (λ b. IsFile bound state told (record file { bytes = b })) (sym (append-nil file.bytes)) h

-- a failed call leaves a first part
pub part_of : (bound : PortState) (state : FileState) (told told' : Option PortState) (byte i : ℕ)
    (more before now : List ℕ) (file : File) → before ≡ take i more → now ≡ take (i + 1) more → now
    ≡ before ++ byte ∷ [] → WhereTold (StaysOrBecomes (longer_port byte)) told told'
    → IsFile bound state told (with_more before file) → (count : ℕ) × Shows (file.bytes ++ take count more) told'
part_of bound state told told' byte i more before now file b n e t h =
    ⊎_elim
    (λ (s : Shows (file.bytes ++ before) told'). (i, subst (λ x. Shows (file.bytes ++ x) told') b s))
    (λ (s : Shows ((file.bytes ++ before) ++ byte ∷ []) told'). (
      i + 1,
      subst (λ x. Shows x told') (append_assoc file.bytes before (byte ∷ [])
          ∙ ap (λ x. file.bytes ++ x) (sym e ∙ n)) s,
    ))
    (put_failed bound state told told' byte (with_more before file) t h)

-- pieces one behind another
pub with_pieces : (bound : PortState) (state : FileState) (told : Option PortState) (first second : List ℕ)
    (file : File) → IsFile bound state told (with_more second (with_more first file))
    → IsFile bound state told (with_more (first ++ second) file)
with_pieces bound state told first second file h =
    subst (λ b. IsFile bound state told (record file { bytes = b })) (append_assoc file.bytes first second) h

pub part_of_first : (told : Option PortState) (bytes first second : List ℕ) → (count : ℕ)
    × Shows (bytes ++ take count first) told → (count : ℕ) × Shows (bytes ++ take count (first ++ second)) told
part_of_first told bytes first second (count, s) =
    ⊎_elim
    (λ (l : count < length first). (
      count,
      subst (λ x. Shows (bytes ++ x) told)
          (sym (take-append-le count first second (omega (arith, l)))) s,
    ))
    (λ (l : length first ≤ count). (
      length first,
      subst (λ x. Shows (bytes ++ x) told)
          (take_all count first l ∙ sym (take-append_seam first second)) s,
    ))
    (cases_lt count (length first))

pub part_of_second : (told : Option PortState) (bytes first second : List ℕ) → (count : ℕ)
    × Shows ((bytes ++ first) ++ take count second) told → (count : ℕ)
    × Shows (bytes ++ take count (first ++ second)) told
part_of_second told bytes first second (count, s) = (
  length first + count,
  subst (λ x. Shows x told)
      (append_assoc bytes first (take count second) ∙ ap (λ x. bytes ++ x)
      (sym (take-append-add first second count))) s,
)

pub pieces_behind : {T : Type 0} (first second : List ℕ) (before mid now : FileState)
    (told at_mid tells : Option PortState) (result : Result (Unit {0}) T)
    → ((bound : PortState) (file : File) → IsFile bound before told file
    → IsFile bound mid at_mid (with_more first file)) → Pieces second mid at_mid now tells result
    → Pieces (first ++ second) before told now tells result
pieces_behind first second before mid now told at_mid tells (Ok value) f p =
    record {
      each = λ bound file h. with_pieces bound now tells first second file
          (p.each bound (with_more first file) (f bound file h));
    }
pieces_behind first second before mid now told at_mid tells (Err failure) f p =
    record {
      each = λ bound file h. part_of_second tells file.bytes first second
          (p.each bound (with_more first file) (f bound file h));
    }

-- the end of a line is written on a text
pub line_answer : (bound : PortState) (state : FileState) (told : Option PortState) (file : File) → state.is_text
    ≡ true → state.usage ≡ Writing → IsFile bound state told file → files.writeln file ≡ fine (10 ∷ [])
line_answer bound state None file t u h = absurd h
line_answer bound state (Some port) file t u h =
    ap (λ text. if text then files.while_writing file (fine (10 ∷ [])) else wrong WRONG_MODE) (h.kind ∙ t)
    ∙ ap (λ mode. if files.is_writing mode then fine (10 ∷ []) else wrong WRONG_MODE) (h.mode ∙ ap mode_of u)

-- what was demanded holds, and these bytes are the field: they are appended, or a first part of them
pub appended : {T : Type 0} (bytes_for : File → Answer (List ℕ)) (more : List ℕ) (before now : FileState)
    (told tells : Option PortState) → ((bound : PortState) (file : File) → IsFile bound before told file
    → bytes_for file ≡ fine more) → Pieces {T = T} more before told now tells (Ok tt)
    → Appends bytes_for before told now tells (Ok tt)
appended bytes_for more before now told tells e p =
    record { each = λ bound file h. (more, e bound file h, p.each bound file h) }

pub partly : (bytes_for : File → Answer (List ℕ)) (more : List ℕ) (before now : FileState)
    (told tells : Option PortState) (failed : Failed)
    → ((bound : PortState) (file : File) → IsFile bound before told file → bytes_for file ≡ fine more)
    → Pieces more before told now tells (Err failed) → Appends bytes_for before told now tells (Err RefusedFailed)
partly bytes_for more before now told tells failed e p =
    record { each = λ bound file h. let s = p.each bound file h in (more, s.0, e bound file h, s.1) }

cut : (field : ℕ) (bytes : List ℕ) → take (min field (length bytes)) bytes ≡ take field bytes
cut field bytes =
    ⊎_elim
    (λ (l : field < length bytes). let e : min field (length bytes)
    ≡ field = omega (arith, l) in ap (λ n. take n bytes) e)
    (λ (l : length bytes ≤ field). let e : min field (length bytes) ≡ length bytes = omega (arith, l) in
    ap (λ n. take n bytes) e ∙ take_all (length bytes) bytes (omega arith) ∙ sym (take_all field bytes l))
    (cases_lt field (length bytes))

-- a string in a field, which is cut where it is longer
pub field_of : (field : ℕ) (bytes : List ℕ) → replicate (field - min field (length bytes)) 32 ++ take
    (min field (length bytes)) bytes ≡ files.string_in_field field bytes
field_of field bytes =
    let l : length (take field bytes) ≡ min field (length bytes) = length-take field bytes in
    ap (λ n. replicate (field - n) 32 ++ take (min field (length bytes)) bytes) (sym l)
    ∙ ap (λ x. replicate (field - length (take field bytes)) 32 ++ x) (cut field bytes)
