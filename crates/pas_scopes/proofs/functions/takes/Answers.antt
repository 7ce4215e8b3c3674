use Rattle.std.proofs.Common.{sym, ap, ◌∙◌, Bool, Option}
use Rattle.std.specs.Prelude.{is_some}
use Rattle.wb_base.specs.declared.faults.TheConstants.{WRONG_TYPE}
use Rattle.pas_tokens.specs.Cutting.{wrong}
use Rattle.pas_typed.specs.declared.typed.Function.{Function as CodeFunction}
use Rattle.pas_typed.specs.Types.{Base, PasType, integer, base_of, is_of}
use Rattle.pas_typed.specs.TypeViews.{base_view, table_view}
use Rattle.pas_typed.specs.TypedViews.{function_view}
use Rattle.pas_typed.proofs.TableLemmas.{is_some-option_map}
use Rattle.pas_rules.specs.Marks.{unless}
use Rattle.pas_rules.specs.Expressions.{function_demand}
use Rattle.pas_scopes.proofs.FitLemmas.{other_function}
use Rattle.pas_scopes.proofs.functions.takes.Goals as goal

pub returns-in-Ord : goal.returns-in-Ord
returns-in-Ord c value same =
    let spellings = c.args.scopes.now.spellings.now in
    let table = table_view spellings c.args.scopes.now.types in
    ap (λ (found : CodeFunction). function_demand table (function_view found) value) c.in-Ord.is
    ∙ ap (λ (is : Bool). unless is (wrong WRONG_TYPE))
    (ap (λ (type : PasType). is_some (base_of table type)) same
    ∙ ap (λ (found : Option Base). is_some found) (c.base_of.ensures spellings)
    ∙ is_some-option_map base_view c.base_of.result ∙ sym c.is_some.ensures)

pub returns-in_default : goal.returns-in_default
returns-in_default c value same =
    let spellings = c.args.scopes.now.spellings.now in
    let table = table_view spellings c.args.scopes.now.types in
    other_function table c.args.function value c.in_default.not-Ord
    ∙ ap (λ (is : Bool). unless is (wrong WRONG_TYPE))
    (ap (λ (type : PasType). is_of integer table type) same ∙ c.is_of.ensures spellings)
