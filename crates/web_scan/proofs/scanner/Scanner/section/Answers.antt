use Rattle.std.proofs.Common.{◌≢◌, length, ap, Ok, Err, arith}
use Rattle.web_lex.specs.declared.codes.Code.TheVariants as code
use Rattle.web_scan.specs.Scanned.{Scanning}
use Rattle.web_scan.proofs.ResultLemmas.{if_ok, if_ok_both, if_fault, handed_on}
use Rattle.web_scan.proofs.CodesLemmas.{section-is, section-refused, end_kept}
use Rattle.web_scan.proofs.scanner.Scanner.section.Goals as goal

pub returns-in_err-begin_section-clause-fault : goal.returns-in_err-begin_section-clause-fault
returns-in_err-begin_section-clause-fault c =
    handed_on (Unit {0}) c.from_residual.result c.in_err-begin_section.field-0.0 c.from_residual.ensures.1
    (λ fault. section-refused c.args.self.now c.self.inside.reader c.self.inside.parts c.place-place.result fault
    c.self.view_is c.place-place.ensures)
    c.in_err-begin_section.ensures.fault

pub returns-clause-ok : goal.returns-clause-ok
returns-clause-ok c =
    let rest = ap (λ (now : Scanning). length now.reading.rest) c.self.view_is in
    if_ok c.section_parts.result
    (λ code. section-is c.args.self.now c.skip_ahead-code.new.self c.self.inside.reader c.self.inside.parts
    c.begin_section.new.self c.place-place.result c.skip_ahead-code.result (Ok (code, c.section_parts.new.self))
    c.self.view_is c.place-place.ensures c.in_ok-begin_section.ensures.ok c.skip_ahead-code.ensures.found
    (omega arith))
    c.section_parts.ensures.ok

pub returns-clause-fault : goal.returns-clause-fault
returns-clause-fault c =
    let rest = ap (λ (now : Scanning). length now.reading.rest) c.self.view_is in
    if_fault c.section_parts.result
    (λ fault. section-is c.args.self.now c.skip_ahead-code.new.self c.self.inside.reader c.self.inside.parts
    c.begin_section.new.self c.place-place.result c.skip_ahead-code.result (Err fault)
    c.self.view_is c.place-place.ensures c.in_ok-begin_section.ensures.ok c.skip_ahead-code.ensures.found
    (omega arith))
    c.section_parts.ensures.fault

pub returns-clause-shorter : goal.returns-clause-shorter
returns-clause-shorter c =
    let rest = ap (λ (now : Scanning). length now.reading.rest) c.self.view_is in
    if_ok_both c.section_parts.result
    (λ ended is not_longer other.
    let found_other : c.skip_ahead-code.result ≢ code.End =
    λ end. other (end_kept c.skip_ahead-code.result ended c.skip_ahead-code.new.self c.section_parts.new.self is end)
    in
    let shorter = c.skip_ahead-code.ensures.shorter found_other in
    omega arith)
    c.section_parts.ensures.ok c.section_parts.ensures.not_longer
