-- Work goes on alike from worlds that hold the same.
use Rattle.std.proofs.Common.{◌≡◌, ◌∙◌, ◌⊎◌, inl, inr, ℕ, List, [], ◌++◌, length, Option, Some, None, MatchOption}
use Rattle.std.proofs.Common.{OnSome, take}
use Rattle.std.proofs.Common.{option_map, refl, sym, ap, subst, append-nil, cond}
use Rattle.std.specs.Str.{bytes_eq}
use Rattle.wb_ports.specs.Held.{WhereTold, Gains}
use Rattle.wb_ports.specs.Files.{Files, SameFiles}
use Rattle.wb_ports.specs.PortState.{PortState}
use Rattle.wb_ports.proofs.HeldLemmas.{gains_nothing, gains_on}
use Rattle.wb_ports.proofs.FilesLemmas.{same_files, same_files_then}
use Rattle.wb_ports.specs.declared.shelf.ShelfCall.{ShelfCall}
use Rattle.wb_ports.specs.declared.shelf.ShelfCall.TheVariants.{Load, Create, Write, Close}
use Rattle.wb_ports.specs.declared.shelf.TheConstants.{LOAD_LIMIT}
use Rattle.tangle_core.specs.Work.{Act, leaves, prints, RunEnd, Play, Work, loads, asks, plays, does, ends, unknown}
use Rattle.tangle_core.specs.Work.{World, with_file, after, with_ports, prefix, IsNow, PlaysTo, OfLoaded, Cause}
use Rattle.tangle_core.specs.Work.{by_shelf, by_console, by_port, by_memory, StopsLoad, LeavesPrefix}
use Rattle.tangle_core.specs.Work.{LeavesUnfinished, StopsAct, IsCutOff, StopsPlay, Ends, Stops}

with_file_same : (name bytes : List ℕ) (a b : Option Files) → WhereTold SameFiles a b
    → WhereTold SameFiles (option_map (with_file name bytes) a) (option_map (with_file name bytes) b)
with_file_same name bytes None None p = tt
with_file_same name bytes None (Some y) p = absurd p
with_file_same name bytes (Some x) None p = absurd p
with_file_same name bytes (Some x) (Some y) p =
    λ other. ap (λ (o : Option (List ℕ)). cond (bytes_eq other name) (Some bytes) o) (p other)

with_text_same : (text : List ℕ) (a b : Option (List ℕ)) → Gains [] a b
    → Gains [] (option_map (λ held. held ++ text) a) (option_map (λ held. held ++ text) b)
with_text_same text a None p = tt
with_text_same text None (Some y) p = absurd p
with_text_same text (Some x) (Some y) p =
    ap (λ (h : List ℕ). h ++ text) (p ∙ append-nil x) ∙ sym (append-nil (x ++ text))

pub now_trans : (w v u : World) → IsNow w v → IsNow v u → IsNow w u
now_trans w v u p q = record {
  files = same_files_then w.files v.files u.files p.files q.files;
  console = gains_on w.console v.console u.console [] [] p.console q.console;
  ports = q.ports ∙ p.ports;
}

pub now_same : (w : World) → IsNow w w
now_same w = record { files = same_files w.files; console = gains_nothing w.console; ports = refl }

after_same : (act : Act) (w v : World) → IsNow w v → IsNow (after act w) (after act v)
after_same (leaves name bytes) w v same =
    record {
      files = with_file_same name bytes w.files v.files same.files;
      console = same.console;
      ports = same.ports;
    }
after_same (prints text) w v same =
    record { files = same.files; console = with_text_same text w.console v.console same.console; ports = same.ports }

-- the same, with these ports
ports_along : (ports : List (Option PortState)) (w v : World) → IsNow w v → IsNow (with_ports ports w) (with_ports ports v)
ports_along ports w v same = record { files = same.files; console = same.console; ports = refl }

plays_along : (count : ℕ) (play : List PortState → Play) (ending : RunEnd) (ports : List (Option PortState))
    (w v : World) → IsNow w v → PlaysTo count play v.ports ending ports → PlaysTo count play w.ports ending ports
plays_along count play ending ports w v same p =
    subst (λ (before : List (Option PortState)). PlaysTo count play before ending ports) same.ports p

match_map : (o p : Option (List ℕ)) {P Q : List ℕ → Type 0} → p ≡ o → ((x : List ℕ) → P x → Q x)
    → MatchOption p ⊥ P → MatchOption o ⊥ Q
match_map None None is f m = absurd m
match_map None (Some y) is f m = absurd (cc)
match_map (Some x) None is f m = absurd m
match_map (Some x) (Some y) {P = P} is f m = let same : y ≡ x = cc in f x (subst P same m)

loaded_map : (a b : Option Files) (name : List ℕ) {P Q : List ℕ → Type 0} → WhereTold SameFiles a b
    → ((x : List ℕ) → P x → Q x) → OfLoaded b name P → OfLoaded a name Q
loaded_map None None name same f (bytes, m) = (bytes, f bytes m)
loaded_map None (Some y) name same f m = absurd same
loaded_map (Some x) None name same f m = absurd same
loaded_map (Some x) (Some y) name same f m =
    match_map (x name) (y name) (same name) (λ bytes. f (take LOAD_LIMIT bytes)) m

pub ends_along : (work : Work) (status : ℕ) (w v now : World) → IsNow w v → Ends work status v now
    → Ends work status w now
unfolding Ends
ends_along (loads name next) status w v now same e =
    loaded_map w.files v.files name same.files (λ bytes. ends_along (next bytes) status w v now same) e
ends_along (asks next) status w v now same e =
    ends_along (next (length w.ports)) status w v now same
    (subst (λ (ports : List (Option PortState)). Ends (next (length ports)) status v now) same.ports e)
ends_along (plays count play next) status w v now same (ending, ports, p, e) = (
  ending,
  ports,
  plays_along count play ending ports w v same p,
  ends_along (next ending) status (with_ports ports w) (with_ports ports v) now (ports_along ports w v same) e,
)
ends_along (does act next) status w v now same e =
    ends_along next status (after act w) (after act v) now (after_same act w v same) e
ends_along (ends done) status w v now same e = (e.0, now_trans w v now same e.1)
ends_along unknown status w v now same e = absurd e

-- a failed call is the same one
call_along : (a b : Option Files) (P : Type 0) → WhereTold SameFiles a b → OnSome b P → OnSome a P
call_along None b P same p = tt
call_along (Some x) None P same p = absurd same
call_along (Some x) (Some y) P same p = p

prefix_along : (act : Act) (w v now : World) → IsNow w v → LeavesPrefix act v now → LeavesPrefix act w now
prefix_along act w v now same (n, left) =
    (n, now_trans (after (prefix n act) w) (after (prefix n act) v) now (after_same (prefix n act) w v same) left)

unfinished_along : (call : ShelfCall) (act : Act) (w v now : World) → IsNow w v → LeavesUnfinished call act v now
    → LeavesUnfinished call act w now
unfinished_along Load act w v now same left = absurd left
unfinished_along Create act w v now same left = elim left [
  | inl kept ↦ inl (now_trans w v now same kept)
  | inr empty ↦ inr (now_trans (after (prefix 0 act) w) (after (prefix 0 act) v) now
      (after_same (prefix 0 act) w v same) empty)
]
unfinished_along Write act w v now same left = prefix_along act w v now same left
unfinished_along Close act w v now same left = prefix_along act w v now same left

load_along : (name : List ℕ) (cause : Cause) (w v now : World) → IsNow w v → StopsLoad name cause v now
    → StopsLoad name cause w now
load_along name (by_shelf last) w v now same s =
    (call_along w.files v.files _ same.files s.0, now_trans w v now same s.1)
load_along name by_console w v now same s = absurd s
load_along name by_port w v now same s = absurd s
load_along name by_memory w v now same s = now_trans w v now same s

act_along : (act : Act) (cause : Cause) (w v now : World) → IsNow w v → StopsAct act cause v now
    → StopsAct act cause w now
act_along (leaves name bytes) (by_shelf last) w v now same (call, is, left) =
    (call, call_along w.files v.files _ same.files is, unfinished_along call (leaves name bytes) w v now same left)
act_along (leaves name bytes) by_console w v now same s = absurd s
act_along (leaves name bytes) by_port w v now same s = absurd s
act_along (leaves name bytes) by_memory w v now same s = now_trans w v now same s
act_along (prints text) (by_shelf last) w v now same s = absurd s
act_along (prints text) by_console w v now same s = (s.0, prefix_along (prints text) w v now same s.1)
act_along (prints text) by_port w v now same s = absurd s
act_along (prints text) by_memory w v now same s = now_trans w v now same s

play_along : (count : ℕ) (play : List PortState → Play) (cause : Cause) (w v now : World) → IsNow w v
    → StopsPlay count play cause v now → StopsPlay count play cause w now
play_along count play (by_shelf last) w v now same s = absurd s
play_along count play by_console w v now same s = absurd s
play_along count play by_port w v now same s = (
  now_trans (with_ports now.ports w) (with_ports now.ports v) now (ports_along now.ports w v same) s.0,
  subst (λ (before : List (Option PortState)). IsCutOff count play before now.ports) same.ports s.1,
)
play_along count play by_memory w v now same s = (
  now_trans (with_ports now.ports w) (with_ports now.ports v) now (ports_along now.ports w v same) s.0,
  subst (λ (before : List (Option PortState)). (now.ports ≡ before) ⊎ (length now.ports ≡ count)) same.ports s.1,
)

pub stops_along : (work : Work) (cause : Cause) (w v now : World) → IsNow w v → Stops work cause v now
    → Stops work cause w now
unfolding Stops
stops_along (loads name next) cause w v now same s = elim s [
  | inl stop ↦ inl (load_along name cause w v now same stop)
  | inr later ↦ inr (loaded_map w.files v.files name same.files
      (λ bytes. stops_along (next bytes) cause w v now same) later)
]
stops_along (asks next) cause w v now same s =
    stops_along (next (length w.ports)) cause w v now same
    (subst (λ (ports : List (Option PortState)). Stops (next (length ports)) cause v now) same.ports s)
stops_along (plays count play next) cause w v now same s = elim s [
  | inl stop ↦ inl (play_along count play cause w v now same stop)
  | inr (ending, ports, p, later) ↦ inr (
    ending,
    ports,
    plays_along count play ending ports w v same p,
    stops_along (next ending) cause (with_ports ports w) (with_ports ports v) now (ports_along ports w v same) later,
  )
]
stops_along (does act next) cause w v now same s = elim s [
  | inl stop ↦ inl (act_along act cause w v now same stop)
  | inr later ↦ inr (stops_along next cause (after act w) (after act v) now (after_same act w v same) later)
]
stops_along (ends done) cause w v now same s = absurd s
stops_along unknown cause w v now same s = absurd s
