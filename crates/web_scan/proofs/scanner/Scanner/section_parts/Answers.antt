use Rattle.std.proofs.Common.{inl, inr, Ok, Err, arith}
use Rattle.web_lex.specs.declared.codes.Code.{Code}
use Rattle.web_scan.proofs.ResultLemmas.{if_ok, if_fault, handed_on}
use Rattle.web_scan.proofs.CodesLemmas.{parts-definition, parts-undefined, parts-pascal, parts-name, parts-section}
use Rattle.web_scan.proofs.CodesLemmas.{parts-end, parts-passed, IsPassed}
use Rattle.web_scan.proofs.scanner.Scanner.section_parts.Goals as goal

pub returns-in_err-code-in-Definition-clause-fault : goal.returns-in_err-code-in-Definition-clause-fault
returns-in_err-code-in-Definition-clause-fault c =
    handed_on Code c.from_residual.result c.in_err-code-in-Definition.field-0.0 c.from_residual.ensures.1
    (λ fault. parts-undefined (c.args.first, c.args.self.now) c.loop-code.code c.loop-code.self fault
    c.loop-code.invariant.still
    c.in-Definition.is)
    c.in_err-code-in-Definition.ensures.fault

pub loop-code-preserved-in-Definition : goal.loop-code-preserved-in-Definition
loop-code-preserved-in-Definition c =
    let shorter = c.in_ok-code-in-Definition.ensures.shorter in
    record {
      still = parts-definition (c.args.first, c.args.self.now) c.loop-code.code c.loop-code.self c.definition.new.self
          c.in_ok-code-in-Definition.code c.loop-code.invariant.still c.in-Definition.is
          c.in_ok-code-in-Definition.ensures.ok shorter;
      not_longer = omega arith;
    }

pub returns-in-Pascal-clause-ok : goal.returns-in-Pascal-clause-ok
returns-in-Pascal-clause-ok c =
    if_ok c.pascal_text.result
    (λ code. parts-pascal (c.args.first, c.args.self.now) c.loop-code.code c.loop-code.self
    (Ok (code, c.pascal_text.new.self))
    c.loop-code.invariant.still c.in-Pascal.is)
    c.pascal_text.ensures.ok

pub returns-in-Pascal-clause-fault : goal.returns-in-Pascal-clause-fault
returns-in-Pascal-clause-fault c =
    if_fault c.pascal_text.result
    (λ fault. parts-pascal (c.args.first, c.args.self.now) c.loop-code.code c.loop-code.self (Err fault)
    c.loop-code.invariant.still c.in-Pascal.is)
    c.pascal_text.ensures.fault

pub returns-in-Name-clause-ok : goal.returns-in-Name-clause-ok
returns-in-Name-clause-ok c =
    if_ok c.named_text.result
    (λ code. parts-name (c.args.first, c.args.self.now) c.loop-code.code c.loop-code.self
    (Ok (code, c.named_text.new.self))
    c.loop-code.invariant.still c.in-Name.is)
    c.named_text.ensures.ok

pub returns-in-Name-clause-fault : goal.returns-in-Name-clause-fault
returns-in-Name-clause-fault c =
    if_fault c.named_text.result
    (λ fault. parts-name (c.args.first, c.args.self.now) c.loop-code.code c.loop-code.self (Err fault)
    c.loop-code.invariant.still c.in-Name.is)
    c.named_text.ensures.fault

pub returns-in-Section-clause-ok : goal.returns-in-Section-clause-ok
returns-in-Section-clause-ok c =
    elim c.in-Section.is [
      | inl section ↦ parts-section (c.args.first, c.args.self.now) c.loop-code.code c.loop-code.self
          c.loop-code.invariant.still section
      | inr end ↦ parts-end (c.args.first, c.args.self.now) c.loop-code.code c.loop-code.self
          c.loop-code.invariant.still end
    ]

pub loop-code-preserved : goal.loop-code-preserved
loop-code-preserved c =
    let passed : IsPassed c.loop-code.code = record {
      not_definition = c.in_default.not-Definition;
      not_pascal = c.in_default.not-Pascal;
      not_name = c.in_default.not-Name;
      not_section = c.in_default.not-Section;
      not_end = c.in_default.not-End;
    } in
    record {
      still = parts-passed (c.args.first, c.args.self.now) c.loop-code.code c.loop-code.self c.skip_ahead-code.new.self
          c.skip_ahead-code.result c.loop-code.invariant.still passed c.skip_ahead-code.ensures.found
          c.skip_ahead-code.ensures.shorter;
      not_longer = omega arith;
    }
