-- The program's definition at work: the status and the acts of `answer_of`. That a run which ends by itself (`Ends`)
-- does so by this answer is the lemma `ends_by_answer` of proofs/ProgramLaws; what tangling leaves of short webs is
-- shown in tangle_core's specs/OutcomeRows.
use Rattle.std.specs.Prelude.{◌≡◌, ℕ, List, [], ◌∷◌, ◌++◌, codes, Option, Some, None, if◌then◌else◌, refl}
use Rattle.std.specs.Str.{bytes_eq}
use Rattle.wb_base.specs.declared.places.FileTag.TheVariants.{Pool}
use Rattle.wb_base.specs.ConsoleLine.{console_line}
use Rattle.wb_base.specs.FaultAt.{fault_at}
use Rattle.wb_base.specs.declared.faults.TheConstants.{POOL_LINE_TOO_SHORT}
use Rattle.wb_ports.specs.Files.{Files}
use Rattle.web_pool.specs.PoolLines.{read_from}
use Rattle.web_pool.specs.Listing.{listing}
use Rattle.tangle_core.specs.Work.{Act, prints}
use Rattle.web2c_cli.specs.CommandLine.{parts_of, request_of, usage_line}
use Rattle.web2c_cli.specs.Program.{work_of}
use Rattle.web2c_cli.specs.inner.Answer.{Answer, answer_of}

-- a shelf that has nothing but this file
abbrev with_file : List ℕ → Files
with_file bytes name = if bytes_eq name (codes "t.pool") then Some bytes else None

-- the answer to these words
abbrev answer_to : List (List ℕ) → Files → Option Answer
answer_to words files = answer_of (work_of (λ text. None) (request_of words)) files

-- the answer to `pooltype t.pool`
abbrev listing_of : List ℕ → Option Answer
listing_of pool = answer_to (codes "pooltype" ∷ codes "t.pool" ∷ []) (with_file pool)

-- an answer of this status and these acts
abbrev gives : ℕ → List Act → Option Answer
gives status acts = Some (record { status = status; acts = acts })

-- no answer where the web is missing, and usage where no name is given
pub no_web :
    (answer_to (codes "tangle" ∷ codes "u.web" ∷ []) (with_file []) ≡ None)
    × (answer_to (codes "tangle" ∷ []) (with_file []) ≡ gives 2 (prints usage_line ∷ []))
unfolding answer_of request_of parts_of
no_web = (refl, refl)

-- the listing of a pool without a fault, and of one that is cut off
pub pool :
    (listing_of (codes "02ab\n*000000000\n") ≡ gives 0 (prints (listing (codes "02ab\n*000000000\n")).text ∷ []))
    × (listing_of (codes "02")
    ≡ gives 1 (prints (listing (codes "02")).text
    ∷ prints (console_line (fault_at POOL_LINE_TOO_SHORT (record { file = Pool; line = 1 })) (codes "t.pool")
    ++ 10 ∷ []) ∷ []))
unfolding answer_of request_of parts_of listing read_from
pool = (refl, refl)
