-- The scan of a web, by what its sections give after the first code.
use Rattle.std.proofs.Common.{◌≡◌, ℕ, ◌<◌, ◌≤◌, Result, List, length, sym, ap, ◌∙◌, arith}
use Rattle.wb_base.specs.declared.faults.Fault.{Fault}
use Rattle.wb_base.specs.declared.options.Options.{Options}
use Rattle.change_merge.specs.Lines.{Line}
use Rattle.web_lex.specs.declared.codes.Code.{Code}
use Rattle.web_scan.specs.Scanned.{Scanned, Scanning, scanning_of, code_found, most_tokens}
use Rattle.web_scan.specs.Sections.{sections}
use Rattle.web_scan.specs.Scan.{scan_of}

pub scan_of-sections :
    (options : Options) (lines : List Line) (begin after : Scanning) (first : Code) (answer : Result Scanned Fault)
    → begin ≡ scanning_of options lines → code_found begin ≡ (first, after)
    → length after.reading.rest ≤ length begin.reading.rest
    → ((most : ℕ) → length after.reading.rest < most → sections most first after ≡ answer)
    → scan_of options lines ≡ answer
unfolding scan_of
scan_of-sections options lines begin after first answer is found not_longer given =
    let found_first : code_found (scanning_of options lines) ≡ (first, after) =
    ap (λ (begin : Scanning). code_found begin) (sym is) ∙ found in
    let rest : length begin.reading.rest ≡ length (scanning_of options lines).reading.rest =
    ap (λ (begin : Scanning). length begin.reading.rest) is in
    let most = most_tokens (scanning_of options lines) in
    ap (λ (found : Code × Scanning). sections most found.0 found.1) found_first ∙ given most (omega arith)
