use Rattle.std.proofs.Common.{◌≡◌, sym, subst, List}
use Rattle.std.proofs.lemmas.Result.{err_from_is_err_and}
use Rattle.wb_base.specs.declared.faults.TheConstants.{FILE_RULE}
use Rattle.pas_tokens.specs.Cutting.{wrong}
use Rattle.pas_syntax.specs.ProgramViews.{argument_in}
use Rattle.pas_syntax.specs.Words.{Word, expr_words}
use Rattle.pas_typed.specs.declared.typed.Place as code_place
use Rattle.pas_typed.specs.Typed.{Value, read}
use Rattle.pas_typed.specs.TypedViews.{place_view}
use Rattle.pas_rules.specs.Marks.{Judged, checked, unless}
use Rattle.pas_rules.specs.Calls.{demand_on_file}
use Rattle.pas_rules.specs.Expressions.{Demand, value_of}
use Rattle.pas_scopes.specs.Answers.{Ending, end_in, StandsAs}
use Rattle.pas_types.specs.inner.Transfers.{extent_view}
use Rattle.pas_scopes.proofs.AnswerLemmas.{stands_stop}
use Rattle.pas_types.proofs.FileLemmas.{ruled_fails, ruled_stands}
use Rattle.pas_types.proofs.TransferLemmas.{widened, widened_words, widened_fails, width_fails, width_stands}
use Rattle.pas_types.proofs.transfers.file_only.Goals as goal

pub returns-in_err-stands : goal.returns-in_err-stands
returns-in_err-stands c scopes spellings n h =
    let argument = argument_in spellings c.args.argument.now in
    let words : List Word = expr_words n 0 argument.value in
    let demand : Demand = demand_on_file (extent_view c.args.extent) in
    let value : Judged Value = value_of scopes argument.value in
    let part : Judged Value = checked demand value in
    let whole : Value = read (place_view c.args.found.value) in
    let fine : demand whole ≡ unless c.is_on-has_lines.result (wrong FILE_RULE) =
    c.is_on-has_lines.ensures whole c.pas_type.ensures in
    let why = c.in_err-stands.field-0.0 in
    stands_stop (widened_words scopes n words part argument.width) (widened scopes n words part argument.width)
    (λ (place : code_place.Place). read (place_view place)) why c.from_residual.result
    (err_from_is_err_and _ c.from_residual.ensures.1)
    (widened_fails scopes n words part argument.width why
    (ruled_fails words demand value whole (end_in c.args.found.end) (end_in c.noted-found.result.end)
    c.is_on-has_lines.result fine c.noted-found.ensures.end h why c.in_err-stands.ensures))

pub returns-in_err-no_width : goal.returns-in_err-no_width
returns-in_err-no_width c scopes spellings n h =
    let argument = argument_in spellings c.args.argument.now in
    let words : List Word = expr_words n 0 argument.value in
    let demand : Demand = demand_on_file (extent_view c.args.extent) in
    let value : Judged Value = value_of scopes argument.value in
    let part : Judged Value = checked demand value in
    let whole : Value = read (place_view c.args.found.value) in
    let fine : demand whole ≡ unless c.is_on-has_lines.result (wrong FILE_RULE) =
    c.is_on-has_lines.ensures whole c.pas_type.ensures in
    let end : Ending = end_in c.noted-found.result.end in
    let why = c.in_err-no_width.field-0.0 in
    stands_stop (widened_words scopes n words part argument.width) (widened scopes n words part argument.width)
    (λ (place : code_place.Place). read (place_view place)) why c.from_residual-in_err-no_width.result
    (err_from_is_err_and _ c.from_residual-in_err-no_width.ensures.1)
    (width_fails scopes n words part argument.width whole end why
    (ruled_stands words demand value whole (end_in c.args.found.end) end c.is_on-has_lines.result fine
    c.noted-found.ensures.end h c.in_ok-stands.ensures)
    (c.in_err-no_width.ensures spellings))

pub returns : goal.returns
returns c scopes spellings n h =
    let argument = argument_in spellings c.args.argument.now in
    let words : List Word = expr_words n 0 argument.value in
    let demand : Demand = demand_on_file (extent_view c.args.extent) in
    let value : Judged Value = value_of scopes argument.value in
    let part : Judged Value = checked demand value in
    let whole : Value = read (place_view c.args.found.value) in
    let fine : demand whole ≡ unless c.is_on-has_lines.result (wrong FILE_RULE) =
    c.is_on-has_lines.ensures whole c.pas_type.ensures in
    let end : Ending = end_in c.noted-found.result.end in
    subst (λ (place : code_place.Place). StandsAs (widened_words scopes n words part argument.width)
    (widened scopes n words part argument.width) (read (place_view place)) end) (sym c.noted-found.ensures.value)
    (width_stands scopes n words part argument.width whole end
    (ruled_stands words demand value whole (end_in c.args.found.end) end c.is_on-has_lines.result fine
    c.noted-found.ensures.end h c.in_ok-stands.ensures)
    (c.in_ok-no_width.ensures spellings))
