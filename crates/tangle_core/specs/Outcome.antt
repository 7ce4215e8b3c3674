-- What the whole of tangling comes to, from the bytes of a web and a change file: a fault before anything is written,
-- lines with a fault behind them, or all that TANGLE writes. The order of the faults is this project's own.
use Rattle.std.specs.Prelude.{ℕ, Bool, ◌==◌, List, length, Option, Some, None, Result, Ok, Err}
use Rattle.wb_base.specs.declared.options.Options.{Options}
use Rattle.wb_base.specs.declared.faults.Fault.{Fault}
use Rattle.wb_base.specs.Steps.{◌>>=◌}
use Rattle.change_merge.specs.Lines.{Line}
use Rattle.change_merge.specs.Changes.{changes_of}
use Rattle.change_merge.specs.Merge.{merge_of}
use Rattle.web_pool.specs.PoolText.{pool_text}
use Rattle.web_scan.specs.Scanned.{Scanned}
use Rattle.web_scan.specs.Scan.{scan_of}
use Rattle.macro_expand.specs.Expansion.{expansion_of}
use Rattle.tangle_core.specs.Tangled.{Tangled, tangled}

-- all that is written: the lines of the Pascal text, the text of the pool and the number of its strings; and whether no
-- output was specified, since the web has no Pascal text without a name
pub record Output : Type 0 where
  pub lines : List (List ℕ)
  pub pool : List ℕ
  pub strings : ℕ
  pub no_output : Bool

-- nothing is written, for this fault; or these lines, for this fault behind them; or all
pub data Outcome : Type 0 where
  refused : Fault → Outcome
  broken : List (List ℕ) → Fault → Outcome
  done : Output → Outcome

-- the lines of a web with a change file, or the first fault: one of the change file comes before one of the web's
-- lines, and then one of the merge
abbrev pub lines_with_changes : List ℕ → List ℕ → Result (List Line) Fault
lines_with_changes web change = do
  changes ← changes_of change
  merge_of web changes

-- the scan of a web with a change file, or the first fault: one of its lines comes before one of the merged web
abbrev pub web_of : List ℕ → List ℕ → Options → Result Scanned Fault
web_of web change options = do
  lines ← lines_with_changes web change
  scan_of options lines

-- what a web comes to whose lines are these, with this fault behind them or none
abbrev pub written : Scanned → List (List ℕ) → Option Fault → Outcome
written web lines (Some fault) = broken lines fault
written web lines None = done (record {
  lines = lines;
  pool = pool_text web.strings;
  strings = length web.strings;
  no_output = length web.unnamed == 0;
})

-- what a scanned web comes to, or its fault
abbrev pub outcome : Result Scanned Fault → Outcome
outcome (Err fault) = refused fault
outcome (Ok web) = let made = tangled (expansion_of web) in written web made.lines made.fault

-- what a web with a change file comes to
unfoldable pub outcome_of : List ℕ → List ℕ → Options → Outcome
outcome_of web change options = outcome (web_of web change options)
