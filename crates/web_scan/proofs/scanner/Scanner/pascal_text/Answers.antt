use Rattle.std.proofs.Common.{◌∙◌, ap, drop, arith}
use Rattle.web_lex.specs.declared.codes.Code.{Code}
use Rattle.web_scan.specs.Scanned.{most_tokens}
use Rattle.web_scan.specs.Sections.{with_pascal_text}
use Rattle.web_scan.proofs.ResultLemmas.{handed_on}
use Rattle.web_scan.proofs.SectionsLemmas.{pascal_text-ok, pascal_text-fault}
use Rattle.web_scan.proofs.scanner.Scanner.pascal_text.Goals as goal

pub returns-in_err-code-clause-fault : goal.returns-in_err-code-clause-fault
returns-in_err-code-clause-fault c =
    let now = c.args.self.now in
    handed_on Code c.from_residual.result c.in_err-code.field-0.0 c.from_residual.ensures.1
    (λ fault refuses. pascal_text-fault c.args.name now c.begin_text-text.result.first fault
    c.begin_text-text.ensures.first
    (refuses (most_tokens now) (omega arith)))
    c.in_err-code.ensures.fault

pub returns-clause-ok : goal.returns-clause-ok
returns-clause-ok c =
    let now = c.args.self.now in
    let first = c.begin_text-text.result.first in
    let parts = c.self.inside.parts in
    pascal_text-ok c.args.name now c.section_text.new.self c.self.inside.reader parts c.add_piece.new.self first
    c.in_ok-code.code
    c.begin_text-text.ensures.first (c.in_ok-code.ensures.ok (most_tokens now) (omega arith)) c.self.view_is
    (c.in_ok-add_piece.ensures.ok
    ∙ ap (λ first. with_pascal_text c.args.name (drop first parts.tokens) parts) c.section_text.ensures.first)
