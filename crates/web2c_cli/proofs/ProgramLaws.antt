-- What follows from the definition of the program: a flat answer.
use Rattle.std.proofs.Common.{◌≡◌, ℕ, List, ◌++◌, Option, Some, None, MatchOption}
use Rattle.std.proofs.Common.{IfSome, take, option_map}
use Rattle.std.specs.Option.{option_and_then}
use Rattle.wb_ports.specs.Files.{Files}
use Rattle.wb_ports.specs.PortState.{PortState}
use Rattle.wb_ports.specs.declared.shelf.TheConstants.{LOAD_LIMIT}
use Rattle.tangle_core.specs.Work.{Act, leaves, prints, Work, loads, asks, plays, does, ends, unknown, World, with_file}
use Rattle.tangle_core.specs.Work.{after, IsNow, Ends}
use Rattle.tangle_core.specs.Job.{world_of}
use Rattle.web2c_cli.specs.inner.Answer.{Answer, with_act, answer_of, after_all}

-- a run ended with the status of this answer, and with the world after its acts
abbrev EndsBy : Answer → ℕ → World → World → Type 0
EndsBy answer status before now = (status ≡ answer.status) × IsNow (after_all answer.acts before) now

then_ends : (o : Option (List ℕ)) (f : List ℕ → Option Answer) (P : List ℕ → Type 0) (Q : Answer → Type 0)
    → ((bytes : List ℕ) → P bytes → IfSome (f bytes) Q) → MatchOption o ⊥ P → IfSome (option_and_then f o) Q
then_ends None f P Q each m = absurd m
then_ends (Some bytes) f P Q each m = each bytes m

acted : (o : Option Answer) (act : Act) (status : ℕ) (before now : World)
    → IfSome o (λ a. EndsBy a status (after act before) now)
    → IfSome (option_map (with_act act) o) (λ a. EndsBy a status before now)
acted None act status before now e = tt
acted (Some answer) act status before now e = e

-- where the files are told, a run that ended by itself did so by the flat answer over them, if there is one
pub ends_by_answer : (work : Work) (files : Files) (console : Option (List ℕ)) (ports : List (Option PortState))
    (status : ℕ) (now : World) → Ends work status (world_of (Some files) console ports) now
    → IfSome (answer_of work files) (λ a. EndsBy a status (world_of (Some files) console ports) now)
unfolding Ends answer_of
ends_by_answer (loads name next) files console ports status now e =
    then_ends (files name) (λ bytes. answer_of (next (take LOAD_LIMIT bytes)) files)
    (λ bytes. Ends (next (take LOAD_LIMIT bytes)) status (world_of (Some files) console ports) now)
    (λ a. EndsBy a status (world_of (Some files) console ports) now)
    (λ bytes. ends_by_answer (next (take LOAD_LIMIT bytes)) files console ports status now) e
ends_by_answer (asks next) files console ports status now e = tt
ends_by_answer (plays count play next) files console ports status now e = tt
ends_by_answer (does (leaves name bytes) next) files console ports status now e =
    acted (answer_of next (with_file name bytes files)) (leaves name bytes) status
    (world_of (Some files) console ports) now
    (ends_by_answer next (with_file name bytes files) console ports status now e)
ends_by_answer (does (prints text) next) files console ports status now e =
    acted (answer_of next files) (prints text) status (world_of (Some files) console ports) now
    (ends_by_answer next files (option_map (λ held. held ++ text) console) ports status now e)
ends_by_answer (ends done) files console ports status now e = e
ends_by_answer unknown files console ports status now e = tt
