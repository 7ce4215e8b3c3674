-- Work laid flat over the files of a shelf: the status that it ends with, and what it leaves.
use Rattle.std.specs.Prelude.{ℕ, List, [], ◌∷◌, take, Option, Some, None, option_map}
use Rattle.std.specs.Option.{option_and_then}
use Rattle.wb_ports.specs.Files.{Files}
use Rattle.wb_ports.specs.declared.shelf.TheConstants.{LOAD_LIMIT}
use Rattle.tangle_core.specs.Work.{Act, leaves, prints, Work, loads, asks, plays, does, ends, unknown, World, with_file}
use Rattle.tangle_core.specs.Work.{after}

-- the status, and the acts in their order
pub record Answer : Type 0 where
  pub status : ℕ
  pub acts : List Act

-- the answer with this act before its others
abbrev pub with_act : Act → Answer → Answer
with_act act answer = record answer { acts = act ∷ answer.acts }

-- the answer over these files; there is none where a file that is loaded is missing, and of work over ports
unfoldable pub answer_of : Work → Files → Option Answer
answer_of (loads name next) files =
    option_and_then (λ bytes. answer_of (next (take LOAD_LIMIT bytes)) files) (files name)
answer_of (asks next) files = None
answer_of (plays count play next) files = None
answer_of (does (leaves name bytes) next) files =
    option_map (with_act (leaves name bytes)) (answer_of next (with_file name bytes files))
answer_of (does (prints text) next) files = option_map (with_act (prints text)) (answer_of next files)
answer_of (ends status) files = Some (record { status = status; acts = [] })
answer_of unknown files = None

-- the world after these acts
abbrev pub after_all : List Act → World → World
after_all [] world = world
after_all (act ∷ acts) world = after_all acts (after act world)
