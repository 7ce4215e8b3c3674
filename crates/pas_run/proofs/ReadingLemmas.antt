-- A file that is read through its port.
use Rattle.std.proofs.Common.{◌≡◌, ℕ, zero, suc, ◌+◌, ◌≤◌, List, [], ◌∷◌, ◌++◌, length, take, Option, Some, None}
use Rattle.std.proofs.Common.{Bool, true, false, arith, refl, sym, ap, ◌∙◌, subst, slice_get, length-append, add-one}
use Rattle.std.specs.Prelude.{◌==◌, if◌then◌else◌}
use Rattle.std.specs.List.{last_or}
use Rattle.std.proofs.lemmas.Option.{slice_get_within}
use Rattle.std.proofs.lemmas.List.{take_all}
use Rattle.pas_meaning.specs.declared.errors.TheConstants.{WRONG_MODE}
use Rattle.wb_ports.specs.PortState.{PortState, Takes}
use Rattle.wb_ports.specs.Held.{WhereTold}
use Rattle.pas_meaning.specs.Answers.{fine, wrong, then_answer}
use Rattle.pas_meaning.specs.Files as files
use Rattle.pas_meaning.specs.Files.{File, view, line_end}
use Rattle.pas_run.specs.declared.files.FileState.{FileState}
use Rattle.pas_run.specs.declared.files.Ahead.{Ahead}
use Rattle.pas_run.specs.declared.files.Ahead.TheVariants.{Unknown, Byte, LineEnd, End}
use Rattle.pas_run.specs.declared.files.Usage.{Usage}
use Rattle.pas_run.specs.declared.files.Usage.TheVariants.{Unused, Reading, Writing}
use Rattle.pas_run.specs.RunFiles.{IsAhead, WhileRead, IsFile, ahead_behind, ahead_passed, byte_seen, mode_of}

-- what holds while a file is read
read_of : (usage : Usage) (claim : Type 0) → usage ≡ Reading → WhileRead usage claim → claim
read_of Reading claim e h = h
read_of Unused claim e h = absurd (cc)
read_of Writing claim e h = absurd (cc)

as_read : (usage : Usage) (claim : Type 0) → claim → WhileRead usage claim
as_read Reading claim h = h
as_read Unused claim h = tt
as_read Writing claim h = tt

also_read : (usage : Usage) (claim other : Type 0) → (claim → other) → WhileRead usage claim → WhileRead usage other
also_read Reading claim other f h = f h
also_read Unused claim other f h = tt
also_read Writing claim other f h = tt

where_port_is : (ahead : Ahead) (port : PortState) (file : File) → ahead ≡ Unknown → IsAhead ahead port file
    → file.place ≡ port.place
where_port_is Unknown port file e h = h
where_port_is (Byte byte) port file e h = absurd (cc)
where_port_is LineEnd port file e h = absurd (cc)
where_port_is End port file e h = absurd (cc)

-- the last byte of those up to one is that one
last_taken : (xs : List ℕ) (n x : ℕ) (o : Option ℕ) → slice_get xs n ≡ Some x → last_or o (take (suc n) xs) ≡ Some x
last_taken [] n x o e = absurd (cc)
last_taken (y ∷ xs) zero x o e = e
last_taken (y ∷ xs) (suc n) x o e = last_taken xs n x (Some y) e

-- a byte that the port gives is the byte at the place
pub taken_byte : (bound : PortState) (state : FileState) (told told' : Option PortState) (byte : ℕ) (file : File)
    → state.usage ≡ Reading → state.ahead ≡ Unknown → WhereTold (Takes (Some byte)) told told'
    → IsFile bound state told file → IsFile bound (record state { last = Some byte; ahead = Byte byte }) told' file
taken_byte bound state None told' byte file u a t h = absurd h
taken_byte bound state (Some port) None byte file u a t h = absurd t
taken_byte bound state (Some port) (Some now) byte file u a t h =
    let read = read_of state.usage _ u h.read in
    let place = where_port_is state.ahead port file a read.ahead in
    let within = slice_get_within port.bytes port.place byte t.0 in
    let moved : IsFile bound (record state { last = Some byte; ahead = Byte byte })
    (Some (record port { place = port.place + 1 })) file = record {
      kind = h.kind;
      bytes = h.bytes;
      mode = h.mode;
      buffer = h.buffer;
      name = h.name;
      finishes = h.finishes;
      starts = h.starts;
      read = as_read state.usage _ (record {
        within = omega (arith, within);
        last =
            sym (ap (λ count. last_or None (take count port.bytes)) (add-one port.place)
            ∙ last_taken port.bytes port.place byte None t.0);
        ahead = (omega (arith, place), ap (slice_get port.bytes) place ∙ t.0);
      });
    } in subst (λ found. IsFile bound (record state { last = Some byte; ahead = Byte byte }) (Some found) file)
    (sym t.1) moved

at_end : (file : File) (port : PortState) (ends : Bool) → view file
    ≡ (if ends then port.bytes else port.bytes ++ line_end ∷ []) → file.place ≡ length port.bytes
    → IsAhead (if ends then End else LineEnd) port file
at_end file port true v p = p ∙ ap length (sym v)
at_end file port false v p = (p, v)

-- where no byte is, the list has ended
past_end : (xs : List ℕ) (n : ℕ) → slice_get xs n ≡ None → length xs ≤ n
past_end [] n e = omega arith
past_end (y ∷ xs) zero e = absurd (cc)
past_end (y ∷ xs) (suc n) e = let h = past_end xs n e in omega (arith, h)

-- what is behind the last byte of a port
behind : (file : File) (port : PortState) (text : Bool) (last : Option ℕ) → file.is_text ≡ text → file.bytes
    ≡ port.bytes → last ≡ last_or None port.bytes → file.place ≡ length port.bytes
    → IsAhead (ahead_behind text last) port file
behind file port false None t b l p =
    p ∙ ap length (sym b) ∙ ap length (sym (ap (λ text. if text then files.with_line_end (last_or None file.bytes)
    file.bytes else file.bytes) t))
behind file port false (Some last) t b l p =
    p ∙ ap length (sym b) ∙ ap length (sym (ap (λ text. if text then files.with_line_end (last_or None file.bytes)
    file.bytes else file.bytes) t))
behind file port true None t b l p =
    let v : view file ≡ port.bytes =
    ap (λ text. if text then files.with_line_end (last_or None file.bytes) file.bytes else file.bytes) t
    ∙ ap (λ bytes. files.with_line_end (last_or None bytes) bytes) b
    ∙ ap (λ o. files.with_line_end o port.bytes) (sym l) in
    p ∙ ap length (sym v)
behind file port true (Some last) t b l p =
    at_end file port (last == line_end)
    (ap (λ text. if text then files.with_line_end (last_or None file.bytes) file.bytes else file.bytes) t
    ∙ ap (λ bytes. files.with_line_end (last_or None bytes) bytes) b
    ∙ ap (λ o. files.with_line_end o port.bytes) (sym l)) p

-- where the port has no byte, the file is at the end of its bytes
pub taken_none : (bound : PortState) (state : FileState) (told told' : Option PortState) (file : File) → state.usage
    ≡ Reading → state.ahead ≡ Unknown → WhereTold (Takes None) told told' → IsFile bound state told file
    → IsFile bound (record state { ahead = ahead_behind state.is_text state.last }) told' file
taken_none bound state None told' file u a t h = absurd h
taken_none bound state (Some port) None file u a t h = absurd t
taken_none bound state (Some port) (Some now) file u a t h =
    let read = read_of state.usage _ u h.read in
    let place = where_port_is state.ahead port file a read.ahead in
    let past = past_end port.bytes port.place t.0 in
    let last : state.last ≡ last_or None port.bytes =
    read.last ∙ ap (last_or None) (take_all port.place port.bytes past) in
    let at_last : file.place ≡ length port.bytes = let w = read.within in omega (arith, place, past, w) in
    let moved : IsFile bound (record state { ahead = ahead_behind state.is_text state.last }) (Some port) file =
    record {
      kind = h.kind;
      bytes = h.bytes;
      mode = h.mode;
      buffer = h.buffer;
      name = h.name;
      finishes = h.finishes;
      starts = h.starts;
      read = as_read state.usage _ (record {
        within = read.within;
        last = read.last;
        ahead = behind file port state.is_text state.last h.kind h.bytes last at_last;
      });
    } in subst (λ found. IsFile bound (record state { ahead = ahead_behind state.is_text state.last }) (Some found)
    file) (sym t.1) moved

-- behind the byte that is looked at
stepped : (ahead : Ahead) (byte : ℕ) (port : PortState) (file : File) → byte_seen ahead ≡ Some byte
    → IsAhead ahead port file → IsAhead (ahead_passed ahead) port (record file { place = suc file.place })
stepped Unknown byte port file s h = absurd (cc)
stepped End byte port file s h = absurd (cc)
stepped (Byte found) byte port file s h = h.0
stepped LineEnd byte port file s h =
    let l = ap length h.1 ∙ length-append port.bytes (line_end ∷ []) in omega (arith, l, h.0)

pub passed_on : (bound : PortState) (state : FileState) (told : Option PortState) (byte : ℕ) (file : File)
    → byte_seen state.ahead ≡ Some byte → IsFile bound state told file
    → IsFile bound (record state { ahead = ahead_passed state.ahead }) told (record file { place = suc file.place })
passed_on bound state None byte file s h = absurd h
passed_on bound state (Some port) byte file s h = record {
  kind = h.kind;
  bytes = h.bytes;
  mode = h.mode;
  buffer = h.buffer;
  name = h.name;
  finishes = h.finishes;
  starts = h.starts;
  read = also_read state.usage _ _ (λ read. record {
    within = read.within;
    last = read.last;
    ahead = stepped state.ahead byte port file s read.ahead;
  }) h.read;
}

pub got : (bound : PortState) (state : FileState) (told : Option PortState) (byte : ℕ) (file : File)
    → byte_seen state.ahead ≡ Some byte → (files.next_byte file ≡ fine byte) × IsFile bound state told file
    → (made : File) × (files.get file ≡ fine made)
    × IsFile bound (record state { ahead = ahead_passed state.ahead }) told made
got bound state told byte file s (e, h) = (
  record file { place = suc file.place },
  ap (λ found. then_answer found
      (λ _. fine (record file { place = suc file.place }))) e,
  passed_on bound state told byte file s h,
)

kept_place : (ahead : Ahead) (port : PortState) (file : File) (byte : ℕ) → IsAhead ahead port file
    → IsAhead ahead port (record file { buffer = Some byte })
kept_place Unknown port file byte h = h
kept_place (Byte found) port file byte h = h
kept_place LineEnd port file byte h = h
kept_place End port file byte h = h

-- the buffer of a file that is written is set
written : (usage : Usage) → usage ≡ Writing → files.is_writing (mode_of usage) ≡ true
written Writing e = refl
written Unused e = absurd (cc)
written Reading e = absurd (cc)

pub buffered : (bound : PortState) (state : FileState) (told : Option PortState) (byte : ℕ) (file : File)
    → state.usage ≡ Writing → IsFile bound state told file → (made : File) × (files.buffer_set byte file ≡ fine made)
    × IsFile bound (record state { buffer = Some byte }) told made
buffered bound state None byte file u h = absurd h
buffered bound state (Some port) byte file u h = (
  record file { buffer = Some byte },
  ap (λ writes. if writes then fine (record file { buffer = Some byte }) else wrong WRONG_MODE)
      (ap files.is_writing h.mode ∙ written state.usage u),
  record {
    kind = h.kind;
    bytes = h.bytes;
    mode = h.mode;
    buffer = refl;
    name = h.name;
    finishes = h.finishes;
    starts = h.starts;
    read = also_read state.usage _ _ (λ read. record {
      within = read.within;
      last = read.last;
      ahead = kept_place state.ahead port file byte read.ahead;
    }) h.read;
  },
)

pub taken_none_at : (bound : PortState) (state : FileState) (told told' : Option PortState) (ahead : Ahead)
    (file : File) → state.usage ≡ Reading → state.ahead ≡ Unknown → ahead ≡ ahead_behind state.is_text state.last
    → WhereTold (Takes None) told told' → IsFile bound state told file
    → IsFile bound (record state { ahead = ahead }) told' file
taken_none_at bound state told told' ahead file u a e t h =
    subst (λ found. IsFile bound (record state { ahead = found }) told' file) (sym e)
    (taken_none bound state told told' file u a t h)

pub got_at : (bound : PortState) (state : FileState) (told : Option PortState) (ahead : Ahead) (byte : ℕ)
    (file : File) → byte_seen state.ahead ≡ Some byte → ahead ≡ ahead_passed state.ahead
    → (files.next_byte file ≡ fine byte) × IsFile bound state told file → (made : File)
    × (files.get file ≡ fine made) × IsFile bound (record state { ahead = ahead }) told made
got_at bound state told ahead byte file s e h =
    subst (λ found. (made : File) × (files.get file ≡ fine made)
    × IsFile bound (record state { ahead = found }) told made) (sym e) (got bound state told byte file s h)
