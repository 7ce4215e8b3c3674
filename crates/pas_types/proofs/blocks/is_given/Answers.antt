use Rattle.std.proofs.Common.{sym, ap, Bool}
use Rattle.wb_base.specs.declared.faults.TheConstants.{RESULT_NEVER_ASSIGNED}
use Rattle.pas_tokens.specs.Cutting.{wrong}
use Rattle.pas_rules.specs.Marks.{unless}
use Rattle.pas_types.proofs.blocks.is_given.Goals as goal

pub returns-in-Function : goal.returns-in-Function
returns-in-Function c spellings =
    rw c.in-Function.is (ap (λ (b : Bool). unless b (wrong RESULT_NEVER_ASSIGNED))
    (sym (c.list_gives_result.ensures spellings)))
