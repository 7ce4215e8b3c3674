use Rattle.web_lex.specs.declared.section_names.SectionName.{SectionName}
use Rattle.web_scan.proofs.ResultLemmas.{if_ok, if_fault, handed_on}
use Rattle.web_scan.proofs.ScannerLemmas.{name_read-ok, name_read-refused, name_read-fault}
use Rattle.web_scan.proofs.scanner.Scanner.section_name.Goals as goal

pub returns-in_err-name-clause-fault : goal.returns-in_err-name-clause-fault
returns-in_err-name-clause-fault c =
    handed_on SectionName c.from_residual.result c.in_err-name.field-0.0 c.from_residual.ensures.1
    (λ fault. name_read-fault c.args.self.now c.self.inside.reader c.self.inside.parts fault c.self.view_is)
    c.in_err-name.ensures.fault

pub returns-clause-ok : goal.returns-clause-ok
returns-clause-ok c =
    if_ok c.find_section.result
    (λ number. name_read-ok c.args.self.now c.self.inside.reader c.section_name.new.self c.self.inside.parts
    c.find_section.new.self c.in_ok-name.name c.place-place.result number
    c.self.view_is c.in_ok-name.ensures.ok c.place-place.ensures)
    c.find_section.ensures.ok

pub returns-clause-fault : goal.returns-clause-fault
returns-clause-fault c =
    if_fault c.find_section.result
    (λ fault. name_read-refused c.args.self.now c.self.inside.reader c.section_name.new.self c.self.inside.parts
    c.in_ok-name.name c.place-place.result fault
    c.self.view_is c.in_ok-name.ensures.ok c.place-place.ensures)
    c.find_section.ensures.fault
