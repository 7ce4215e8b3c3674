use Rattle.std.proofs.Common.{Ok, Err, ◌∙◌, ap, sym}
use Rattle.web_scan.proofs.LawfulLemmas.{IsLawful-scanned}
use Rattle.web_scan.proofs.ResultLemmas.{handed_on}
use Rattle.web_scan.proofs.ScanLemmas.{scan_of-sections}
use Rattle.web_scan.proofs.scanning.scan.Goals as goal

pub returns-in_err-sections-clause-fault : goal.returns-in_err-sections-clause-fault
returns-in_err-sections-clause-fault c =
    handed_on (Unit {0}) c.from_residual.result c.in_err-sections.field-0.0 c.from_residual.ensures.1
    (λ fault. scan_of-sections c.args.options c.args.lines.now c.new-scanner.result c.skip_ahead-first.new.self
    c.skip_ahead-first.result (Err fault) c.new-scanner.ensures c.skip_ahead-first.ensures.found
    c.skip_ahead-first.ensures.not_longer)
    c.in_err-sections.ensures.fault

pub into_web-requires : goal.into_web-requires
into_web-requires c =
    IsLawful-scanned c.args.options c.args.lines.now c.sections.new.self.web
    (scan_of-sections c.args.options c.args.lines.now c.new-scanner.result c.skip_ahead-first.new.self
    c.skip_ahead-first.result (Ok c.sections.new.self.web) c.new-scanner.ensures c.skip_ahead-first.ensures.found
    c.skip_ahead-first.ensures.not_longer c.in_ok-sections.ensures.ok)

pub returns-clause-ok : goal.returns-clause-ok
returns-clause-ok c =
    scan_of-sections c.args.options c.args.lines.now c.new-scanner.result c.skip_ahead-first.new.self
    c.skip_ahead-first.result (Ok c.sections.new.self.web) c.new-scanner.ensures c.skip_ahead-first.ensures.found
    c.skip_ahead-first.ensures.not_longer c.in_ok-sections.ensures.ok
    ∙ ap Ok (sym c.into_web.ensures)
