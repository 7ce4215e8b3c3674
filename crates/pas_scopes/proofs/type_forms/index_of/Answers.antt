use Rattle.std.proofs.Common.{refl, sym, ap, subst, ◌∙◌, List, Err}
use Rattle.std.proofs.lemmas.Result.{err_from_is_err_and}
use Rattle.pas_syntax.specs.Views.{simple_in}
use Rattle.pas_syntax.specs.Words.{Word, simple_words}
use Rattle.pas_typed.specs.Types.{Made}
use Rattle.pas_typed.specs.TypeViews.{table_view}
use Rattle.pas_rules.specs.Marks.{Judged, checked}
use Rattle.pas_rules.specs.TypeForms.{index_only, simple_of}
use Rattle.pas_scopes.specs.ScopeViews.{made_view, IsClear}
use Rattle.pas_scopes.specs.Answers.{Ending, EndsAs, StopsBy}
use Rattle.pas_scopes.specs.TypeAnswers.{IsIndex}
use Rattle.pas_scopes.proofs.AnswerLemmas.{checked_stops_by}
use Rattle.pas_scopes.proofs.TypePartLemmas.{no_ordinal_stops, integers_stop, index_means}
use Rattle.std.proofs.Common.{true}
use Rattle.wb_base.specs.declared.faults.TheConstants.{WRONG_TYPE, TOO_LARGE}
use Rattle.pas_tokens.specs.Cutting.{wrong}
use Rattle.pas_scopes.proofs.TypePartLemmas.{none_ordinal, some_ordinal}
use Rattle.pas_scopes.proofs.UnknownLemmas.{by_none, of_none, unknown_stop, none_checked, refused_checked}
use Rattle.pas_scopes.proofs.type_forms.index_of.Goals as goal

pub returns-in_err-index-clause-answers : goal.returns-in_err-index-clause-answers
returns-in_err-index-clause-answers c s same n =
    let spellings = c.args.scopes.now.spellings.now in
    let words : List Word = simple_words n (simple_in spellings c.args.simple) in
    let part : Judged Made =
    simple_of s (table_view spellings c.args.scopes.now.types) (simple_in spellings c.args.simple) in
    let why = c.in_err-index.field-0.0 in
    let is = err_from_is_err_and _ c.from_residual.ensures.1 in
    subst (IsIndex (IsClear s) words (checked index_only part)
    (table_view c.simple_of.new.scopes.spellings.now c.simple_of.new.scopes.types)) (sym (is.1 ∙ ap Err is.2))
    (λ clear. checked_stops_by words index_only part why (c.in_err-index.ensures.answers s same n clear))

pub returns-in-None-clause-answers : goal.returns-in-None-clause-answers
returns-in-None-clause-answers c s same n clear =
    let spellings = c.args.scopes.now.spellings.now in
    let words : List Word = simple_words n (simple_in spellings c.args.simple) in
    let part : Judged Made =
    simple_of s (table_view spellings c.args.scopes.now.types) (simple_in spellings c.args.simple) in
    let index = c.in_ok-index.index in
    let value : Made = made_view c.simple_of.new.scopes index.value in
    subst (StopsBy words (checked index_only part)) (sym c.fault.ensures)
    (no_ordinal_stops words part value index.end.line
    (subst (λ (end : Ending). EndsAs words part value end) c.in_ok-index.ensures.lawful
    (c.in_ok-index.ensures.answers s same n))
    (c.in-None.ensures c.simple_of.new.scopes.spellings.now))

pub returns-then-is_whole_integer-clause-answers :
    goal.returns-then-is_whole_integer-clause-answers
returns-then-is_whole_integer-clause-answers c s same n clear =
    let spellings = c.args.scopes.now.spellings.now in
    let words : List Word = simple_words n (simple_in spellings c.args.simple) in
    let part : Judged Made =
    simple_of s (table_view spellings c.args.scopes.now.types) (simple_in spellings c.args.simple) in
    let index = c.in_ok-index.index in
    let value : Made = made_view c.simple_of.new.scopes index.value in
    subst (StopsBy words (checked index_only part)) (sym c.fault-then-is_whole_integer.ensures)
    (integers_stop words part value index.end.line
    (subst (λ (end : Ending). EndsAs words part value end) c.in_ok-index.ensures.lawful
    (c.in_ok-index.ensures.answers s same n)) _
    (c.in-Some.ensures c.simple_of.new.scopes.spellings.now)
    (sym c.is_whole_integer.ensures ∙ c.if-is_whole_integer.true))

pub returns-else-is_whole_integer-clause-answers :
    goal.returns-else-is_whole_integer-clause-answers
returns-else-is_whole_integer-clause-answers c s same n =
    let spellings = c.args.scopes.now.spellings.now in
    let words : List Word = simple_words n (simple_in spellings c.args.simple) in
    let part : Judged Made =
    simple_of s (table_view spellings c.args.scopes.now.types) (simple_in spellings c.args.simple) in
    let index = c.in_ok-index.index in
    let value : Made = made_view c.simple_of.new.scopes index.value in (
      value,
      refl,
      c.in-Some.ensures c.simple_of.new.scopes.spellings.now,
      index_means words part value index.end.line
          (subst (λ (end : Ending). EndsAs words part value end) c.in_ok-index.ensures.lawful
          (c.in_ok-index.ensures.answers s same n)) _
          (c.in-Some.ensures c.simple_of.new.scopes.spellings.now)
          (sym c.is_whole_integer.ensures ∙ c.if-is_whole_integer.false),
    )

pub returns-in_err-index-clause-unknown : goal.returns-in_err-index-clause-unknown
returns-in_err-index-clause-unknown c s same =
    let spellings = c.args.scopes.now.spellings.now in
    let part : Judged Made =
    simple_of s (table_view spellings c.args.scopes.now.types) (simple_in spellings c.args.simple) in
    let why = c.in_err-index.field-0.0 in
    unknown_stop (checked index_only part) why c.from_residual.result
    (err_from_is_err_and _ c.from_residual.ensures.1)
    (of_none part (checked index_only part) why (none_checked index_only part) (c.in_err-index.ensures.unknown s same))

pub returns-in-None-clause-unknown : goal.returns-in-None-clause-unknown
returns-in-None-clause-unknown c s same =
    let spellings = c.args.scopes.now.spellings.now in
    let words : List Word = simple_words 0 (simple_in spellings c.args.simple) in
    let part : Judged Made =
    simple_of s (table_view spellings c.args.scopes.now.types) (simple_in spellings c.args.simple) in
    let index = c.in_ok-index.index in
    let value : Made = made_view c.simple_of.new.scopes index.value in
    let ends = subst (λ (end : Ending). EndsAs words part value end) c.in_ok-index.ensures.lawful
    (c.in_ok-index.ensures.answers s same 0) in
    by_none (checked index_only part) c.fault.result
    (refused_checked index_only part value (wrong WRONG_TYPE) ends.known
    (none_ordinal words part value index.end.line ends
    (c.in-None.ensures c.simple_of.new.scopes.spellings.now)))

pub returns-then-is_whole_integer-clause-unknown : goal.returns-then-is_whole_integer-clause-unknown
returns-then-is_whole_integer-clause-unknown c s same =
    let spellings = c.args.scopes.now.spellings.now in
    let words : List Word = simple_words 0 (simple_in spellings c.args.simple) in
    let part : Judged Made =
    simple_of s (table_view spellings c.args.scopes.now.types) (simple_in spellings c.args.simple) in
    let index = c.in_ok-index.index in
    let value : Made = made_view c.simple_of.new.scopes index.value in
    let ends = subst (λ (end : Ending). EndsAs words part value end) c.in_ok-index.ensures.lawful
    (c.in_ok-index.ensures.answers s same 0) in
    by_none (checked index_only part) c.fault-then-is_whole_integer.result
    (refused_checked index_only part value (wrong TOO_LARGE) ends.known
    (some_ordinal words part value index.end.line ends _ true
    (c.in-Some.ensures c.simple_of.new.scopes.spellings.now)
    (sym c.is_whole_integer.ensures ∙ c.if-is_whole_integer.true)))
