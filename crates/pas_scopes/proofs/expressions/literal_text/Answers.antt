use Rattle.std.proofs.Common.{ap, ◌∙◌, [], ◌∷◌, List, SFits, w64, rules}
use Rattle.std.proofs.Math.Facts.{to_z-of_z}
use Rattle.std.proofs.lemmas.Result.{err_from_is_err_and}
use Rattle.pas_syntax.specs.Views.{quoted_in}
use Rattle.pas_syntax.specs.Words.{Word, text_at}
use Rattle.pas_typed.specs.Typed as typed
use Rattle.pas_typed.specs.Typed.{Value}
use Rattle.pas_typed.specs.TypeViews.{base_view}
use Rattle.pas_typed.specs.TypedViews.{value_view}
use Rattle.pas_typed.proofs.ValueViews.{value_view-Constant}
use Rattle.pas_rules.specs.Marks.{Judged}
use Rattle.pas_rules.specs.TypeForms.{ConstantValue, char_in, undoubled}
use Rattle.pas_scopes.specs.Answers.{lawful_end, end_in}
use Rattle.pas_scopes.specs.Constants.{ordinal_view}
use Rattle.pas_scopes.specs.inner.ExpressionAnswers.{char_value}
use Rattle.pas_scopes.proofs.AnswerLemmas.{answers_stop, ends_moved, made_ends, made_stops}
use Rattle.pas_scopes.proofs.expressions.literal_text.Goals as goal

abbrev constant_of : ConstantValue → Value
constant_of text = typed.constant text.base text.value

pub returns-in_err-found : goal.returns-in_err-found
returns-in_err-found c n =
    let quoted = quoted_in c.args.scopes.now.spellings.now c.args.quoted in
    let words : List Word = text_at n quoted ∷ [] in
    let part : Judged ConstantValue = char_in (undoubled quoted.text) in
    let why = c.in_err-found.field-0.0 in
    answers_stop words (char_value part) value_view why c.from_residual.result
    (err_from_is_err_and _ c.from_residual.ensures.1)
    (made_stops words constant_of part why ((c.in_err-found.ensures.tells n).0 tt))

pub returns : goal.returns
returns c n =
    let quoted = quoted_in c.args.scopes.now.spellings.now c.args.quoted in
    let words : List Word = text_at n quoted ∷ [] in
    let part : Judged ConstantValue = char_in (undoubled quoted.text) in
    let found = c.in_ok-found.found in
    let fits : SFits w64 found.value = search rules in
    ends_moved words (char_value part) (typed.constant (base_view found.base) found.value) _
    (lawful_end found.line) (end_in c.lawful.result.end)
    (ap value_view c.lawful.ensures.value ∙ value_view-Constant found.base _
    ∙ ap (typed.constant (base_view found.base)) (to_z-of_z fits)) c.lawful.ensures.end
    (made_ends words constant_of part (ordinal_view found) (lawful_end found.line) (c.in_ok-found.ensures.tells n))
