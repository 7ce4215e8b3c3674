-- The scan of a web (STAN-CS-83-980): what its sections give, or the first fault.
use Rattle.std.specs.Prelude.{List, Result}
use Rattle.wb_base.specs.declared.faults.Fault.{Fault}
use Rattle.wb_base.specs.declared.options.Options.{Options}
use Rattle.change_merge.specs.Lines.{Line}
use Rattle.web_scan.specs.Scanned.{Scanned, scanning_of, code_found, most_tokens}
use Rattle.web_scan.specs.Sections.{sections}

-- the scan of these lines
unfoldable pub scan_of : Options → List Line → Result Scanned Fault
scan_of options lines =
    let begin = scanning_of options lines in
    let found = code_found begin in
    sections (most_tokens begin) found.0 found.1
