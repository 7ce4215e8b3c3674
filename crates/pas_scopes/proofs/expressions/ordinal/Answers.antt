use Rattle.std.proofs.Common.{sym, ap, ◌∙◌, Bool}
use Rattle.std.specs.Prelude.{is_some}
use Rattle.wb_base.specs.declared.faults.TheConstants.{WRONG_TYPE}
use Rattle.pas_typed.specs.Types.{PasType, base_of}
use Rattle.pas_typed.specs.TypeViews.{base_view, table_view}
use Rattle.pas_typed.proofs.TableLemmas.{is_some-option_map}
use Rattle.pas_scopes.specs.Answers.{end_in, noted_end}
use Rattle.pas_scopes.proofs.expressions.ordinal.Goals as goal

pub returns-clause-end : goal.returns-clause-end
returns-clause-end c =
    let spellings = c.args.scopes.now.spellings.now in
    let table = table_view spellings c.args.scopes.now.types in
    c.noted.ensures.end
    ∙ ap (λ (is : Bool). noted_end is WRONG_TYPE (end_in c.args.found.end))
    (c.is_some-is_ordinal.ensures ∙ sym (is_some-option_map base_view c.base_of.result)
    ∙ ap is_some (sym (c.base_of.ensures spellings))
    ∙ ap (λ (type : PasType). is_some (base_of table type)) (sym c.pas_type.ensures))
