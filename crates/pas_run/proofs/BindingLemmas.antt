-- Ports that are bound, the files over them at the start of a run, and the ports behind it.
use Rattle.std.proofs.Common.{◌≡◌, ℕ, zero, suc, ◌+◌, ◌<◌, ◌≤◌, List, [], ◌∷◌, length, map, Option, Some, None, arith}
use Rattle.std.proofs.Common.{refl, sym, ap, ◌∙◌, subst, subst₂, slice_index_or, slice_set, slice_get, drop, Bool, true}
use Rattle.std.proofs.Common.{false, take, ◌++◌}
use Rattle.std.proofs.lemmas.List.{length-map, map-set, get_or-set_same, set-get_or, get_or-map, length-append}
use Rattle.std.proofs.lemmas.List.{map-append, take_more}
use Rattle.std.proofs.lemmas.Option.{same_Some, slice_get_within, get_or_from_slice_get}
use Rattle.std.specs.Prelude.{⊤, zip}
use Rattle.wb_ports.specs.Counts.{Rose, CountsFailure}
use Rattle.wb_ports.specs.Held.{WhereTold, Becomes, Stays}
use Rattle.wb_ports.specs.PortState.{PortState, named_port}
use Rattle.pas_typed.specs.Types.{text, same_type}
use Rattle.pas_typed.specs.Typed.{Variable}
use Rattle.pas_meaning.specs.Files.{File}
use Rattle.pas_meaning.specs.Trial.{file_given, Told}
use Rattle.pas_run.specs.declared.files.FileState.{FileState}
use Rattle.pas_run.specs.declared.files.Ahead.TheVariants.{Unknown}
use Rattle.pas_run.specs.declared.files.Usage.TheVariants.{Unused}
use Rattle.pas_run.specs.RunFiles.{IsFile, Shows}
use Rattle.pas_run.specs.WholeRuns.{IsBehind, AreBehind, Hold, CountsFailures}
use Rattle.pas_run.specs.inner.MachineState.{KeptFile, AreFiles, AreShown, failures_of, CountFailures}
use Rattle.pas_run.specs.inner.Starting.{IsFinishedFile, AreFinishedFiles}
use Rattle.pas_run.specs.inner.Binding.{AreBound, state_at_start}
use Rattle.pas_run.proofs.RunLemmas.{file_at_start, as_many_files}

-- the ports with the names of their files
abbrev pub bound_ports : List Variable → List PortState → List PortState
bound_ports [] given = []
bound_ports (found ∷ parameters) [] = []
bound_ports (found ∷ parameters) (port ∷ given) = named_port found.name port ∷ bound_ports parameters given

start_file : (found : Variable) (port : PortState) (kept : KeptFile)
    → WhereTold (Becomes (named_port found.name)) (Some port) kept.told → kept.state ≡ state_at_start found
    → IsFile (named_port found.name port) kept.state kept.told (file_given (found, port.bytes))
start_file found port kept bound state = told kept.told bound
  where
    told : (tells : Option PortState) → WhereTold (Becomes (named_port found.name)) (Some port) tells
        → IsFile (named_port found.name port) kept.state tells (file_given (found, port.bytes))
    told None bound = absurd bound
    told (Some now) bound =
        subst (λ (now : PortState). IsFile (named_port found.name port) kept.state (Some now)
        (file_given (found, port.bytes))) (sym bound)
        (file_at_start (named_port found.name port) found kept.state state)

pub files_at_start : (parameters : List Variable) (given : List PortState) (kept : List KeptFile)
    → AreBound parameters (map Some given) (map (λ (file : KeptFile). file.told) kept)
    → map (λ (file : KeptFile). file.state) kept ≡ map state_at_start parameters
    → AreFiles (bound_ports parameters given) kept
    (map file_given (zip parameters (map (λ (port : PortState). port.bytes) given)))
files_at_start [] [] [] bound states = tt
files_at_start [] [] (own ∷ kept) bound states = absurd bound
files_at_start [] (port ∷ given) kept bound states = absurd bound
files_at_start (found ∷ parameters) [] kept bound states = absurd bound
files_at_start (found ∷ parameters) (port ∷ given) [] bound states = absurd bound
files_at_start (found ∷ parameters) (port ∷ given) (own ∷ kept) bound states = (
  start_file found port own bound.0 (ap (λ (states : List FileState). slice_index_or states 0 own.state) states),
  files_at_start parameters given kept bound.1 (ap (drop 1) states),
)

-- behind the run
abbrev told_file : File → Told
told_file file = record { bytes = file.bytes; starts = file.starts }

port_behind : (found : Variable) (before : PortState) (tells : Option PortState) (file : File)
    → IsFinishedFile (named_port found.name before) tells file → (now : PortState) → tells ≡ Some now
    → IsBehind found before (told_file file) now
port_behind found before None file is now same = absurd is
port_behind found before (Some port) file is now same =
    subst (λ (now : PortState). IsBehind found before (told_file file) now)
    (same_port same) (record { name = is.0; bytes = is.1; finishes = is.2; starts = is.3 })
  where
    same_port : Some port ≡ Some now → port ≡ now
    same_port same = cc

pub ports_behind : (parameters : List Variable) (given : List PortState) (kept : List KeptFile) (files : List File)
    → length given ≡ length parameters → AreFinishedFiles (bound_ports parameters given) kept files
    → AreBehind parameters given
    (map told_file files)
    (map (λ (file : KeptFile). file.told) kept)
ports_behind [] [] [] [] many are = tt
ports_behind [] [] [] (file ∷ files) many are = absurd are
ports_behind [] [] (own ∷ kept) files many are = absurd are
ports_behind [] (port ∷ given) kept files many are = absurd (omega (arith, many))
ports_behind (found ∷ parameters) [] kept files many are = absurd (omega (arith, many))
ports_behind (found ∷ parameters) (port ∷ given) [] files many are = absurd are
ports_behind (found ∷ parameters) (port ∷ given) (own ∷ kept) [] many are = absurd are
ports_behind (found ∷ parameters) (port ∷ given) (own ∷ kept) (file ∷ files) many are =
    told own.told are.0 (ports_behind parameters given kept files (omega (arith, many)) are.1)
  where
    told : (tells : Option PortState) → IsFinishedFile (named_port found.name port) tells file
        → AreBehind parameters given (map told_file files) (map (λ (file : KeptFile). file.told) kept)
        → AreBehind (found ∷ parameters) (port ∷ given) (told_file file ∷ map told_file files)
        (tells ∷ map (λ (file : KeptFile). file.told) kept)
    told None is rest = absurd is
    told (Some now) is rest = (port_behind found port (Some now) file is now refl, rest)

-- ports that show bytes hold them
pub hold_shown : (kept : List KeptFile) (bytes : List (List ℕ)) → AreShown kept bytes
    → Hold bytes (map (λ (file : KeptFile). file.told) kept)
hold_shown [] [] shown = tt
hold_shown [] (first ∷ bytes) shown = absurd shown
hold_shown (own ∷ kept) [] shown = absurd shown
hold_shown (own ∷ kept) (first ∷ bytes) shown = told own.told shown.0 (hold_shown kept bytes shown.1)
  where
    told : (tells : Option PortState) → Shows first tells → Hold bytes (map (λ (file : KeptFile). file.told) kept)
        → Hold (first ∷ bytes) (tells ∷ map (λ (file : KeptFile). file.told) kept)
    told None shows rest = absurd shows
    told (Some port) shows rest = (shows, rest)

-- the first ports are bound
abbrev pub BoundTo : ℕ → List Variable → List (Option PortState) → List (Option PortState) → Type 0
BoundTo zero parameters before now = now ≡ before
BoundTo (suc i) (found ∷ parameters) (told ∷ before) (tells ∷ now) =
    WhereTold (Becomes (named_port found.name)) told tells × BoundTo i parameters before now
BoundTo (suc i) parameters before now = ⊥

bound_next : (i : ℕ) (parameters : List Variable) (before between : List (Option PortState)) (found : Variable)
    (tells : Option PortState) → BoundTo i parameters before between → slice_get parameters i ≡ Some found
    → i < length before → WhereTold (Becomes (named_port found.name)) (slice_index_or between i tells) tells
    → BoundTo (suc i) parameters before (slice_set between i tells)
bound_next i [] before between found tells are is less own = absurd cc
bound_next i (first ∷ parameters) [] between found tells are is less own = absurd (omega (arith, less))
bound_next zero (first ∷ parameters) (told ∷ before) between found tells are is less own =
    subst (λ (between : List (Option PortState)).
    WhereTold (Becomes (named_port found.name)) (slice_index_or between 0 tells) tells
    → BoundTo 1 (first ∷ parameters) (told ∷ before) (slice_set between 0 tells)) (sym are)
    (λ own. (
      subst (λ (found : Variable). WhereTold (Becomes (named_port found.name)) told tells)
          (sym (same_Some first found is)) own,
      refl,
    ))
    own
bound_next (suc i) (first ∷ parameters) (told ∷ before) [] found tells are is less own = absurd are
bound_next (suc i) (first ∷ parameters) (told ∷ before) (next ∷ between) found tells are is less own =
    (are.0, bound_next i parameters before between found tells are.1 is (omega (arith, less)) own)

bound_all : (i : ℕ) (parameters : List Variable) (before now : List (Option PortState))
    → BoundTo i parameters before now → length before ≤ i → length parameters ≡ length before
    → AreBound parameters before now
bound_all zero [] [] now are less many = subst (λ (now : List (Option PortState)). AreBound [] [] now) (sym are) tt
bound_all zero [] (told ∷ before) now are less many = absurd (omega (arith, less))
bound_all zero (found ∷ parameters) [] now are less many = absurd (omega (arith, many))
bound_all zero (found ∷ parameters) (told ∷ before) now are less many = absurd (omega (arith, less))
bound_all (suc i) [] before now are less many = absurd are
bound_all (suc i) (found ∷ parameters) [] now are less many = absurd are
bound_all (suc i) (found ∷ parameters) (told ∷ before) [] are less many = absurd are
bound_all (suc i) (found ∷ parameters) (told ∷ before) (tells ∷ now) are less many =
    (are.0, bound_all i parameters before now are.1 (omega (arith, less)) (omega (arith, many)))

-- a port that is bound holds what it held
own_holds : (name bytes : List ℕ) (others : List (List ℕ)) (told tells : Option PortState)
    (before now : List (Option PortState)) → WhereTold (Becomes (named_port name)) told tells
    → (Hold others before → Hold others now) → Hold (bytes ∷ others) (told ∷ before)
    → Hold (bytes ∷ others) (tells ∷ now)
own_holds name bytes others None tells before now own rest hold = absurd hold
own_holds name bytes others (Some told) None before now own rest hold = absurd own
own_holds name bytes others (Some told) (Some tells) before now own rest hold =
    (ap (λ (port : PortState). port.bytes) own ∙ hold.0, rest hold.1)

hold_bound : (i : ℕ) (parameters : List Variable) (before now : List (Option PortState)) (bytes : List (List ℕ))
    → BoundTo i parameters before now → Hold bytes before → Hold bytes now
hold_bound zero parameters before now bytes are hold = subst (Hold bytes) (sym are) hold
hold_bound (suc i) [] before now bytes are hold = absurd are
hold_bound (suc i) (found ∷ parameters) [] now bytes are hold = absurd are
hold_bound (suc i) (found ∷ parameters) (told ∷ before) [] bytes are hold = absurd are
hold_bound (suc i) (found ∷ parameters) (told ∷ before) (tells ∷ now) [] are hold = absurd hold
hold_bound (suc i) (found ∷ parameters) (told ∷ before) (tells ∷ now) (first ∷ bytes) are hold =
    own_holds found.name first bytes told tells before now are.0 (hold_bound i parameters before now bytes are.1) hold

-- a port that stays as it is holds what it held
hold_stays : (i : ℕ) (between : List (Option PortState)) (tells : Option PortState) (bytes : List (List ℕ))
    → i < length between → WhereTold Stays (slice_index_or between i tells) tells → Hold bytes between
    → Hold bytes (slice_set between i tells)
hold_stays i [] tells bytes less own hold = absurd (omega (arith, less))
hold_stays i (told ∷ between) tells [] less own hold = absurd hold
hold_stays zero (None ∷ between) tells (first ∷ bytes) less own hold = absurd hold
hold_stays zero (Some told ∷ between) None (first ∷ bytes) less own hold = absurd own
hold_stays zero (Some told ∷ between) (Some tells) (first ∷ bytes) less own hold =
    (ap (λ (port : PortState). port.bytes) own ∙ hold.0, hold.1)
hold_stays (suc i) (None ∷ between) tells (first ∷ bytes) less own hold = absurd hold
hold_stays (suc i) (Some told ∷ between) tells (first ∷ bytes) less own hold =
    (hold.0, hold_stays i between tells bytes (omega (arith, less)) own hold.1)

-- the failed calls of the one port are those of all
pub counts_of_one : (before now : List ℕ) (i count : ℕ) (failed : Bool) → i < length before
    → now ≡ slice_set before i count → CountsFailure failed (slice_index_or before i 0) count
    → CountsFailures failed before now
counts_of_one before now i count true less is rose = record {
  number = i;
  there = less;
  rose = subst (Rose (slice_index_or before i 0))
      (sym (ap (λ counts. slice_index_or counts i 0) is ∙ get_or-set_same before i count 0 less)) rose;
}
counts_of_one before now i count false less is same =
    is ∙ ap (slice_set before i) same ∙ set-get_or before i 0

-- the same of ports that tell and count so
module _ {P : Type 0} (told : P → Option PortState) (failures : P → ℕ) (parameters : List Variable)
    (initial : List P) (i : ℕ) (ports : List P) (old new : P) (less : i < length ports)
    (own : old ≡ slice_index_or ports i old) where
  told_at : slice_index_or (map told ports) i (told new) ≡ told old
  told_at = get_or-map told ports i old (told new) less ∙ ap told (sym own)

  failures_at : slice_index_or (map failures ports) i 0 ≡ failures old
  failures_at = get_or-map failures ports i old 0 less ∙ ap failures (sym own)

  pub bound_one : (found : Variable) (name : List ℕ) → slice_get parameters i ≡ Some found → name ≡ found.name
      → BoundTo i parameters (map told initial) (map told ports) → length ports ≡ length initial
      → WhereTold (Becomes (named_port name)) (told old) (told new)
      → BoundTo (i + 1) parameters (map told initial) (map told (slice_set ports i new))
  bound_one found name is named are many bound =
      let next : suc i ≡ i + 1 = omega arith in
      subst (λ (k : ℕ). BoundTo k parameters (map told initial) (map told (slice_set ports i new))) next
      (subst (BoundTo (suc i) parameters (map told initial)) (sym (map-set told ports i new))
      (bound_next i parameters (map told initial) (map told ports) found (told new) are is
      (omega (arith, less, many, length-map initial told))
      (subst₂ (λ (name : List ℕ) (before : Option PortState). WhereTold (Becomes (named_port name)) before (told new))
      named (sym told_at) bound)))

  pub hold_not_bound : (bytes : List (List ℕ)) → BoundTo i parameters (map told initial) (map told ports)
      → WhereTold Stays (told old) (told new) → Hold bytes (map told initial)
      → Hold bytes (map told (slice_set ports i new))
  hold_not_bound bytes are stays hold =
      subst (Hold bytes) (sym (map-set told ports i new))
      (hold_stays i (map told ports) (told new) bytes (omega (arith, less, length-map ports told))
      (subst (λ (before : Option PortState). WhereTold Stays before (told new)) (sym told_at) stays)
      (hold_bound i parameters (map told initial) (map told ports) bytes are hold))

  pub counts_at : (failed : Bool) → CountsFailure failed (failures old) (failures new)
      → CountsFailures failed (map failures ports) (map failures (slice_set ports i new))
  counts_at failed counts =
      counts_of_one (map failures ports) (map failures (slice_set ports i new)) i (failures new) failed
      (omega (arith, less, length-map ports failures)) (map-set failures ports i new)
      (subst (λ count. CountsFailure failed count (failures new)) (sym failures_at) counts)

pub as_many_ports : {P : Type 0} (failures : P → ℕ) (ports others : List P)
    → map failures ports ≡ map failures others → length ports ≡ length others
as_many_ports failures ports others same =
    omega (arith, ap length same, length-map ports failures, length-map others failures)

pub ports_bound : {P : Type 0} (told : P → Option PortState) (parameters : List Variable) (initial ports : List P)
    (i : ℕ) → BoundTo i parameters (map told initial) (map told ports) → length initial ≤ i
    → length parameters ≡ length initial → AreBound parameters (map told initial) (map told ports)
ports_bound told parameters initial ports i are less many =
    bound_all i parameters (map told initial) (map told ports) are (omega (arith, less, length-map initial told))
    (omega (arith, many, length-map initial told))

pub ports_hold : {P : Type 0} (told : P → Option PortState) (parameters : List Variable) (initial ports : List P)
    (i : ℕ) (bytes : List (List ℕ)) → BoundTo i parameters (map told initial) (map told ports)
    → Hold bytes (map told initial) → Hold bytes (map told ports)
ports_hold told parameters initial ports i bytes =
    hold_bound i parameters (map told initial) (map told ports) bytes

-- while items are moved into a list, the next one is one of all
pub next_of_all : {X Y : Type 0} (move : X → Y) (done rest all : List X) (next : X) (moved : List Y)
    → done ++ next ∷ rest ≡ all → moved ≡ map move done → length moved < length all
next_of_all move done rest all next moved same is =
    omega (arith, ap length same, length-append done (next ∷ rest), ap length is, length-map done move)

-- what is kept of a file at the start
abbrev state_by : Bool → FileState
state_by is_text = record { is_text = is_text; usage = Unused; ahead = Unknown; last = None; buffer = None }

pub started_as : (found : Variable) (is_text : Bool) (state : FileState) → state ≡ state_by is_text
    → is_text ≡ same_type found.type text → state ≡ state_at_start found
started_as found is_text state is same = is ∙ ap state_by same

-- and of one file more
pub states_grow : {R : Type 0} (state_of : R → FileState) (parameters : List Variable) (before now : List R) (new : R)
    (i : ℕ) (found : Variable) → now ≡ before ++ new ∷ [] → i ≡ length before → slice_get parameters i ≡ Some found
    → state_of new ≡ state_at_start found
    → map state_of before ≡ map state_at_start (take (length before) parameters)
    → map state_of now ≡ map state_at_start (take (length now) parameters)
states_grow state_of parameters before now new i found is same there started are =
    let long : length now ≡ i + 1 = omega (arith, ap length is, length-append before (new ∷ []), same) in
    let more : take (i + 1) parameters ≡ take i parameters ++ found ∷ [] =
    take_more parameters i found (slice_get_within parameters i found there)
    ∙ ap (λ (last : Variable). take i parameters ++ last ∷ []) (get_or_from_slice_get parameters i found found there) in
    ap (map state_of) is
    ∙ (map-append state_of before (new ∷ [])
    ∙ (ap (λ (states : List FileState). states ++ state_of new ∷ [])
    (are ∙ ap (λ (k : ℕ). map state_at_start (take k parameters)) (sym same))
    ∙ (ap (λ (last : FileState). map state_at_start (take i parameters) ++ last ∷ []) started
    ∙ (sym (map-append state_at_start (take i parameters) (found ∷ []))
    ∙ (ap (map state_at_start) (sym more)
    ∙ ap (λ (k : ℕ). map state_at_start (take k parameters)) (sym long))))))

-- what is kept of files that are over these ports
module _ {R P : Type 0} (kept_of : R → KeptFile) (port_of : R → P) (told : P → Option PortState) (failures : P → ℕ)
    (state_of : R → FileState) (tells : (file : R) → (kept_of file).told ≡ told (port_of file))
    (counts : (file : R) → (kept_of file).failures ≡ failures (port_of file))
    (stands : (file : R) → (kept_of file).state ≡ state_of file) where
  pub kept_told : (files : List R)
      → map (λ (kept : KeptFile). kept.told) (map kept_of files) ≡ map told (map port_of files)
  kept_told [] = refl
  kept_told (file ∷ files) =
      ap (λ (first : Option PortState). first ∷ map (λ (kept : KeptFile). kept.told) (map kept_of files)) (tells file)
      ∙ ap (λ more. told (port_of file) ∷ more) (kept_told files)

  pub kept_failures : (files : List R) → failures_of (map kept_of files) ≡ map failures (map port_of files)
  kept_failures [] = refl
  kept_failures (file ∷ files) =
      ap (λ (first : ℕ). first ∷ failures_of (map kept_of files)) (counts file)
      ∙ ap (λ more. failures (port_of file) ∷ more) (kept_failures files)

  pub kept_states : (files : List R)
      → map (λ (kept : KeptFile). kept.state) (map kept_of files) ≡ map state_of files
  kept_states [] = refl
  kept_states (file ∷ files) =
      ap (λ (first : FileState). first ∷ map (λ (kept : KeptFile). kept.state) (map kept_of files)) (stands file)
      ∙ ap (λ more. state_of file ∷ more) (kept_states files)

-- the failed calls of files are those of their ports; and there are as many of these
pub counts_as : (failed : Bool) (before now : List KeptFile) → CountFailures failed before now
    → CountsFailures failed (failures_of before) (failures_of now)
counts_as true before now counts = record {
  number = counts.number;
  there = omega (arith, counts.there, length-map before (λ (kept : KeptFile). kept.failures));
  rose = counts.rose;
}
counts_as false before now same = same

pub many_as : (failed : Bool) (before now : List KeptFile) → CountFailures failed before now
    → length now ≡ length before
many_as true before now counts = counts.many
many_as false before now same = as_many_files now before same

pub nothing_left : {X : Type 0} (items : List X) → length items ≡ 0 → items ≡ []
nothing_left [] none = refl
nothing_left (item ∷ items) none = absurd (omega (arith, none))
