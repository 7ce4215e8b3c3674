use Rattle.std.proofs.Common.{ℕ, ◌∙◌, arith}
use Rattle.web_scan.specs.Scanned.{most_tokens}
use Rattle.web_scan.proofs.ResultLemmas.{if_ok, if_fault, handed_on}
use Rattle.web_scan.proofs.SectionsLemmas.{named_text-is, named_text-unnamed, named_text-headless}
use Rattle.web_scan.proofs.scanner.Scanner.named_text.Goals as goal

pub returns-in_err-name-clause-fault : goal.returns-in_err-name-clause-fault
returns-in_err-name-clause-fault c =
    handed_on ℕ c.from_residual.result c.in_err-name.field-0.0 c.from_residual.ensures.1
    (λ fault. named_text-unnamed c.args.self.now fault) c.in_err-name.ensures.fault

pub returns-in_err-head_signs-clause-fault : goal.returns-in_err-head_signs-clause-fault
returns-in_err-head_signs-clause-fault c =
    let named = c.section_name.new.self in
    handed_on (Unit {0}) c.from_residual-in_err-head_signs.result c.in_err-head_signs.field-0.0
    c.from_residual-in_err-head_signs.ensures.1
    (λ fault refuses. named_text-headless c.args.self.now named c.in_ok-name.name fault c.in_ok-name.ensures.ok
    (refuses (most_tokens named) (omega arith)))
    c.in_err-head_signs.ensures.fault

pub returns-clause-ok : goal.returns-clause-ok
returns-clause-ok c =
    let named = c.section_name.new.self in
    let begins = c.in_ok-head_signs.ensures.ok (most_tokens named) (omega arith) in
    if_ok c.pascal_text.result
    (λ code is. named_text-is c.args.self.now named c.head_signs.new.self c.in_ok-name.name c.in_ok-name.ensures.ok
    begins ∙ is)
    c.pascal_text.ensures.ok

pub returns-clause-fault : goal.returns-clause-fault
returns-clause-fault c =
    let named = c.section_name.new.self in
    let begins = c.in_ok-head_signs.ensures.ok (most_tokens named) (omega arith) in
    if_fault c.pascal_text.result
    (λ fault is. named_text-is c.args.self.now named c.head_signs.new.self c.in_ok-name.name c.in_ok-name.ensures.ok
    begins ∙ is)
    c.pascal_text.ensures.fault
