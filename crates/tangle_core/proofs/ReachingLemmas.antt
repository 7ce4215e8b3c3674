-- Parts of the work that follow one another, and what each has to do with the work that is to be done.
use Rattle.std.proofs.Common.{◌≡◌, ◌≢◌, ◌∙◌, inl, inr, ℕ, List, [], ◌++◌, Bool, true, false, Option, Some, None}
use Rattle.std.proofs.Common.{length, MatchOption, IfSome, OnSome, take, option_map, refl, sym, ap, subst, cond}
use Rattle.std.specs.Bool.{Decides}
use Rattle.std.specs.Str.{bytes_eq}
use Rattle.std.proofs.lemmas.Slice.Eq.{bytes_eq-Decides}
use Rattle.wb_ports.specs.Held.{WhereTold, Gains}
use Rattle.wb_ports.specs.Files.{Files, SameFiles, Loads, KeepsLastFailure}
use Rattle.wb_ports.specs.PortState.{PortState}
use Rattle.wb_ports.specs.declared.shelf.FailedCall.{FailedCall}
use Rattle.wb_ports.specs.declared.shelf.ShelfCall.{ShelfCall}
use Rattle.wb_ports.specs.declared.shelf.ShelfCall.TheVariants.{Load, Create, Write, Close}
use Rattle.wb_ports.specs.declared.shelf.TheConstants.{LOAD_LIMIT}
use Rattle.wb_ports.proofs.HeldLemmas.{gains_nothing}
use Rattle.wb_ports.proofs.FilesLemmas.{same_files}
use Rattle.tangle_core.specs.Work.{Act, leaves, RunEnd, Play, Work, loads, asks, plays, does, ends, World, with_file}
use Rattle.tangle_core.specs.Work.{after, with_ports, IsNow, PlaysTo, OfLoaded, Cause, LeavesUnfinished, StopsLoad}
use Rattle.tangle_core.specs.Work.{StopsAct, StopsPlay, Ends, Stops}
use Rattle.tangle_core.specs.Job.{Reaches, world_of}
use Rattle.tangle_core.specs.inner.Writing.{LeavesFile, LeftBy}
use Rattle.tangle_core.proofs.WorkLemmas.{now_same, ends_along, stops_along}

pub reaches_same : (work : Work) (w : World) → Reaches work work w w
reaches_same work w = record { ends = λ status now e. e; stops = λ cause now s. s }

-- one part of the work after another
pub reaches_then : (work middle rest : Work) (u v w : World) → Reaches work middle u v → Reaches middle rest v w
    → Reaches work rest u w
reaches_then work middle rest u v w p q = record {
  ends = λ status now e. p.ends status now (q.ends status now e);
  stops = λ cause now s. p.stops cause now (q.stops cause now s);
}

-- the rest, under another name
pub rest_is : (work rest rest' : Work) (u v : World) → rest ≡ rest' → Reaches work rest u v → Reaches work rest' u v
rest_is work rest rest' u v is p = subst (λ (r : Work). Reaches work r u v) is p

-- the end of the work
pub ended : (work : Work) (done : ℕ) (u v : World) → Reaches work (ends done) u v → Ends work done u v
unfolding Ends
ended work done u v p = p.ends done v (refl, now_same v)

-- a part of the work that was stopped, after one that was done
pub stopped_then : (work middle : Work) (cause : Cause) (u v w : World) → Reaches work middle u v
    → Stops middle cause v w → Stops work cause u w
stopped_then work middle cause u v w p s = p.stops cause w s

-- an act that was done whole
pub act_done : (act : Act) (rest : Work) (before mid : World) → IsNow (after act before) mid
    → Reaches (does act rest) rest before mid
unfolding Ends Stops
act_done act rest before mid same = record {
  ends = λ status now e. ends_along rest status (after act before) mid now same e;
  stops = λ cause now s. inr (stops_along rest cause (after act before) mid now same s);
}

pub act_stopped : (act : Act) (rest : Work) (cause : Cause) (before now : World) → StopsAct act cause before now
    → Stops (does act rest) cause before now
unfolding Stops
act_stopped act rest cause before now s = inl s

-- the ports were counted
pub counted : (next : ℕ → Work) (w : World) → Reaches (asks next) (next (length w.ports)) w w
unfolding Ends Stops
counted next w = record { ends = λ status now e. e; stops = λ cause now s. s }

-- a run over the ports that ended
pub play_done : (count : ℕ) (play : List PortState → Play) (next : RunEnd → Work) (ending : RunEnd) (before mid : World)
    → PlaysTo count play before.ports ending mid.ports → IsNow (with_ports mid.ports before) mid
    → Reaches (plays count play next) (next ending) before mid
unfolding Ends Stops
play_done count play next ending before mid p same = record {
  ends = λ status now e. (
    ending,
    mid.ports,
    p,
    ends_along (next ending) status (with_ports mid.ports before) mid now same e,
  );
  stops = λ cause now s. inr (
    ending,
    mid.ports,
    p,
    stops_along (next ending) cause (with_ports mid.ports before) mid now same s,
  );
}

pub play_stopped : (count : ℕ) (play : List PortState → Play) (next : RunEnd → Work) (cause : Cause)
    (before now : World) → StopsPlay count play cause before now → Stops (plays count play next) cause before now
unfolding Stops
play_stopped count play next cause before now s = inl s

pub load_stopped : (name : List ℕ) (next : List ℕ → Work) (cause : Cause) (before now : World)
    → StopsLoad name cause before now → Stops (loads name next) cause before now
unfolding Stops
load_stopped name next cause before now s = inl s

-- a file that was loaded
match_as : (o : Option (List ℕ)) (text : List ℕ) (P : List ℕ → Type 0)
    → MatchOption o ⊥ (λ bytes. text ≡ take LOAD_LIMIT bytes) → P text
    → MatchOption o ⊥ (λ bytes. P (take LOAD_LIMIT bytes))
match_as None text P is p = absurd is
match_as (Some bytes) text P is p = subst P is p

loaded_as : (a : Option Files) (name text : List ℕ) (P : List ℕ → Type 0) → IfSome a (λ files. Loads files name text)
    → P text → OfLoaded a name P
loaded_as None name text P is p = (text, p)
loaded_as (Some files) name text P is p = match_as (files name) text P is p

pub load_done : (name text : List ℕ) (next : List ℕ → Work) (before mid : World)
    → IfSome before.files (λ files. Loads files name text) → IsNow before mid
    → Reaches (loads name next) (next text) before mid
unfolding Ends Stops
load_done name text next before mid is same = record {
  ends = λ status now e. loaded_as before.files name text (λ bytes. Ends (next bytes) status before now) is
      (ends_along (next text) status before mid now same e);
  stops = λ cause now s. inr (loaded_as before.files name text (λ bytes. Stops (next bytes) cause before now) is
      (stops_along (next text) cause before mid now same s));
}

pub files_now : (a b : Option Files) (console : Option (List ℕ)) (ports : List (Option PortState))
    → WhereTold SameFiles a b
    → IsNow (world_of a console ports) (world_of b console ports)
files_now a b console ports same = record { files = same; console = gains_nothing console; ports = refl }

pub console_now : (files : Option Files) (a b : Option (List ℕ)) (ports : List (Option PortState)) → Gains [] a b
    → IsNow (world_of files a ports) (world_of files b ports)
console_now files a b ports same = record { files = same_files files; console = same; ports = refl }

-- a call that failed is the last one, where the files are told
pub last_is : (a : Option Files) (call : ShelfCall) (name : List ℕ) (old last : Option FailedCall)
    → KeepsLastFailure a call name true old last → OnSome a (last ≡ Some (record { call = call; name = name }))
last_is None call name old last l = tt
last_is (Some files) call name old last l = l

-- a file that was written
with_file_at : (bytes : List ℕ) (before now : Files) (name other : List ℕ) (t : Bool) → Decides t (other ≡ name)
    → now name ≡ Some bytes → ((o : List ℕ) → o ≢ name → now o ≡ before o)
    → now other ≡ cond t (Some bytes) (before other)
with_file_at bytes before now name other true d is others = ap now (d.0 refl) ∙ is
with_file_at bytes before now name other false d is others =
    others other (λ same. let no : false ≡ true = d.1 same in cc)

file_left : (name bytes : List ℕ) (before now : Files) → LeavesFile name bytes before now
    → SameFiles (with_file name bytes before) now
file_left name bytes before now l other =
    with_file_at bytes before now name other (bytes_eq other name) (bytes_eq-Decides other name) l.holds l.others

pub left_told : (name bytes : List ℕ) (a b : Option Files) → WhereTold (LeavesFile name bytes) a b
    → WhereTold SameFiles (option_map (with_file name bytes) a) b
left_told name bytes None None l = tt
left_told name bytes None (Some now) l = absurd l
left_told name bytes (Some before) None l = absurd l
left_told name bytes (Some before) (Some now) l = file_left name bytes before now l

kept_at : (before now : Files) (name other : List ℕ) (t : Bool) → Decides t (other ≡ name) → now name ≡ before name
    → ((o : List ℕ) → o ≢ name → now o ≡ before o) → now other ≡ before other
kept_at before now name other true d is others = ap now (d.0 refl) ∙ is ∙ ap before (sym (d.0 refl))
kept_at before now name other false d is others =
    others other (λ same. let no : false ≡ true = d.1 same in cc)

pub unfinished_left : (name bytes : List ℕ) (call : ShelfCall) (x y : Files) (console : Option (List ℕ))
    (ports : List (Option PortState)) → LeftBy call name bytes x y
    → LeavesUnfinished call (leaves name bytes) (world_of (Some x) console ports) (world_of (Some y) console ports)
unfinished_left name bytes Load x y console ports l = absurd l
unfinished_left name bytes Create x y console ports l = elim l.empty_or_kept [
  | inl empty ↦ inr (files_now (Some (with_file name [] x)) (Some y) console ports
      (file_left name [] x y (record { holds = empty; others = l.others })))
  | inr kept ↦ inl (files_now (Some x) (Some y) console ports
      (λ other. kept_at x y name other (bytes_eq other name) (bytes_eq-Decides other name) kept l.others))
]
unfinished_left name bytes Write x y console ports (n, l) = (
  n,
  files_now (Some (with_file name (take n bytes) x)) (Some y) console ports
      (file_left name (take n bytes) x y l),
)
unfinished_left name bytes Close x y console ports (n, l) = (
  n,
  files_now (Some (with_file name (take n bytes) x)) (Some y) console ports
      (file_left name (take n bytes) x y l),
)
