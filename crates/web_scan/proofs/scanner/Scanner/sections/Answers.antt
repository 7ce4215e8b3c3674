use Rattle.web_lex.specs.declared.codes.Code.{Code}
use Rattle.web_scan.proofs.ResultLemmas.{handed_on}
use Rattle.web_scan.proofs.CodesLemmas.{sections-section, sections-refused, sections-end, sections-passed}
use Rattle.web_scan.proofs.scanner.Scanner.sections.Goals as goal

pub returns-in-End-clause-ok : goal.returns-in-End-clause-ok
returns-in-End-clause-ok c =
    sections-end (c.args.first, c.args.self.now) c.loop-code.code c.loop-code.self c.loop-code.invariant c.in-End.is

pub returns-in_err-code-in-Section-clause-fault : goal.returns-in_err-code-in-Section-clause-fault
returns-in_err-code-in-Section-clause-fault c =
    handed_on Code c.from_residual.result c.in_err-code-in-Section.field-0.0 c.from_residual.ensures.1
    (λ fault. sections-refused (c.args.first, c.args.self.now) c.loop-code.code c.loop-code.self fault
    c.loop-code.invariant
    c.in-Section.is)
    c.in_err-code-in-Section.ensures.fault

pub loop-code-preserved-in-Section : goal.loop-code-preserved-in-Section
loop-code-preserved-in-Section c =
    sections-section (c.args.first, c.args.self.now) c.loop-code.code c.loop-code.self c.section.new.self
    c.in_ok-code-in-Section.code c.loop-code.invariant c.in-Section.is c.in_ok-code-in-Section.ensures.ok
    c.in_ok-code-in-Section.ensures.shorter

pub loop-code-preserved : goal.loop-code-preserved
loop-code-preserved c =
    sections-passed (c.args.first, c.args.self.now) c.loop-code.code c.loop-code.self c.skip_ahead-code.new.self
    c.skip_ahead-code.result c.loop-code.invariant c.in_default.not-End c.in_default.not-Section
    c.skip_ahead-code.ensures.found c.skip_ahead-code.ensures.shorter
