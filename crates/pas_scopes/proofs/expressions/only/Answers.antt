use Rattle.std.proofs.Common.{sym, ap, ◌∙◌, Bool}
use Rattle.wb_base.specs.declared.faults.TheConstants.{WRONG_TYPE}
use Rattle.pas_typed.specs.Types.{PasType, is_of}
use Rattle.pas_typed.specs.TypeViews.{base_view, table_view}
use Rattle.pas_scopes.specs.Answers.{end_in, noted_end}
use Rattle.pas_scopes.proofs.expressions.only.Goals as goal

pub returns-clause-end : goal.returns-clause-end
returns-clause-end c =
    let spellings = c.args.scopes.now.spellings.now in
    let table = table_view spellings c.args.scopes.now.types in
    c.noted.ensures.end
    ∙ ap (λ (is : Bool). noted_end is WRONG_TYPE (end_in c.args.found.end))
    (sym (c.is_of-is_fit.ensures spellings)
    ∙ ap (λ (type : PasType). is_of (base_view c.args.base) table type) (sym c.pas_type.ensures))
