use Rattle.std.proofs.Common.{◌≡◌, sym, ap, subst, ◌∙◌, Ok, Err}
use Rattle.std.proofs.lemmas.Result.{err_from_is_err_and}
use Rattle.pas_syntax.specs.Tree.{Constant}
use Rattle.pas_syntax.specs.Views.{constant_in}
use Rattle.pas_syntax.specs.Words.{constant_words}
use Rattle.pas_typed.specs.Types.{Range, subrange, Made, made}
use Rattle.pas_typed.specs.TypeViews.{type_view, table_view}
use Rattle.pas_typed.specs.declared.types.PasType.{PasType as CodePasType}
use Rattle.pas_rules.specs.TypeForms.{range_between, constant_of, subrange_of}
use Rattle.pas_scopes.specs.ScopeViews.{scopes_view, made_view, IsClear}
use Rattle.pas_scopes.specs.Answers.{lawful_end, end_in, StopsBy}
use Rattle.pas_scopes.specs.Constants.{ordinal_view}
use Rattle.pas_scopes.specs.TypeAnswers.{AnswersIf}
use Rattle.pas_scopes.proofs.AnswerLemmas.{ends_moved}
use Rattle.pas_scopes.proofs.SubrangeLemmas.{tells_agrees, subrange_words, subrange_part, low_stops, high_stops}
use Rattle.pas_scopes.proofs.SubrangeLemmas.{bounds_stop, range_ends, shown_by}
use Rattle.pas_scopes.proofs.UnknownLemmas.{by_none, of_none, unknown_stop, low_unknown, high_unknown, bounds_unknown}
use Rattle.pas_scopes.proofs.simple_types.subrange_of.Goals as goal

pub returns-in_err-low-clause-answers : goal.returns-in_err-low-clause-answers
returns-in_err-low-clause-answers c s same n line =
    let spellings = c.args.scopes.now.spellings.now in
    let low : Constant = constant_in spellings c.args.low in
    let high : Constant = constant_in spellings c.args.high in
    let table = table_view spellings c.args.scopes.now.types in
    let why = c.in_err-low.field-0.0 in
    let is = err_from_is_err_and _ c.from_residual.ensures.1 in
    let told = tells_agrees s (scopes_view c.args.scopes.now) same (constant_words n low) low (Err why)
    (c.in_err-low.ensures.tells n) in
    subst (AnswersIf (IsClear s) (subrange_words s n line table low high) (subrange_part s n line table low high)
    (made_view c.args.scopes.now)) (sym (is.1 ∙ ap Err is.2))
    (λ clear. low_stops s n line table low high why (told.0 clear))

pub returns-in_err-high-clause-answers : goal.returns-in_err-high-clause-answers
returns-in_err-high-clause-answers c s same n line =
    let spellings = c.args.scopes.now.spellings.now in
    let low : Constant = constant_in spellings c.args.low in
    let high : Constant = constant_in spellings c.args.high in
    let table = table_view spellings c.args.scopes.now.types in
    let first = c.in_ok-low.low in
    let why = c.in_err-high.field-0.0 in
    let is = err_from_is_err_and _ c.from_residual-in_err-high.ensures.1 in
    let ends = tells_agrees s (scopes_view c.args.scopes.now) same (constant_words n low) low (Ok first)
    (c.in_ok-low.ensures.tells n) in
    let told = tells_agrees s (scopes_view c.args.scopes.now) same (constant_words n high) high (Err why)
    (c.in_err-high.ensures.tells n) in
    subst (AnswersIf (IsClear s) (subrange_words s n line table low high) (subrange_part s n line table low high)
    (made_view c.args.scopes.now)) (sym (is.1 ∙ ap Err is.2))
    (λ clear. high_stops s n line table low high (ordinal_view first) first.line why ends (told.0 clear))

pub returns-in_err-range-clause-answers : goal.returns-in_err-range-clause-answers
returns-in_err-range-clause-answers c s same n line =
    let spellings = c.args.scopes.now.spellings.now in
    let low : Constant = constant_in spellings c.args.low in
    let high : Constant = constant_in spellings c.args.high in
    let table = table_view spellings c.args.scopes.now.types in
    let first = c.in_ok-low.low in
    let second = c.in_ok-high.high in
    let why = c.in_err-range.field-0.0 in
    let is = err_from_is_err_and _ c.from_residual-in_err-range.ensures.1 in
    let ends = tells_agrees s (scopes_view c.args.scopes.now) same (constant_words n low) low (Ok first)
    (c.in_ok-low.ensures.tells n) in
    let ended = tells_agrees s (scopes_view c.args.scopes.now) same (constant_words n high) high (Ok second)
    (c.in_ok-high.ensures.tells n) in
    let shown = shown_by second.line _ why c.in_err-range.ensures in
    subst (AnswersIf (IsClear s) (subrange_words s n line table low high) (subrange_part s n line table low high)
    (made_view c.args.scopes.now)) (sym (is.1 ∙ ap Err is.2))
    (λ clear. subst (StopsBy (subrange_words s n line table low high) (subrange_part s n line table low high))
    (sym shown.2)
    (bounds_stop s n line table low high (ordinal_view first) (ordinal_view second) first.line second.line shown.0 ends
    ended shown.1))

pub returns-clause-answers : goal.returns-clause-answers
returns-clause-answers c s same n line =
    let spellings = c.args.scopes.now.spellings.now in
    let low : Constant = constant_in spellings c.args.low in
    let high : Constant = constant_in spellings c.args.high in
    let table = table_view spellings c.args.scopes.now.types in
    let first = c.in_ok-low.low in
    let second = c.in_ok-high.high in
    let ends = tells_agrees s (scopes_view c.args.scopes.now) same (constant_words n low) low (Ok first)
    (c.in_ok-low.ensures.tells n) in
    let ended = tells_agrees s (scopes_view c.args.scopes.now) same (constant_words n high) high (Ok second)
    (c.in_ok-high.ensures.tells n) in
    let value : Made = made table (subrange (range_between (ordinal_view first) (ordinal_view second))) in
    let found : Made = record {
      type = type_view c.lawful.result.value;
      table = table_view spellings c.make.new.self;
    } in
    let is : found ≡ value =
    ap (λ (type : CodePasType). record { type = type_view type; table = table_view spellings c.make.new.self })
    c.lawful.ensures.value
    ∙ sym (c.in_ok-pas_type.ensures.made spellings)
    ∙ ap (λ (range : Range). made table (subrange range)) c.in_ok-range.ensures.1 in
    ends_moved (subrange_words s n line table low high) (subrange_part s n line table low high) value found
    (lawful_end second.line) (end_in c.lawful.result.end) is c.lawful.ensures.end
    (range_ends s n line table low high (ordinal_view first) (ordinal_view second) first.line second.line ends ended
    c.in_ok-range.ensures.0)

pub returns-in_err-low-clause-unknown : goal.returns-in_err-low-clause-unknown
returns-in_err-low-clause-unknown c s same =
    let spellings = c.args.scopes.now.spellings.now in
    let low : Constant = constant_in spellings c.args.low in
    let high : Constant = constant_in spellings c.args.high in
    let table = table_view spellings c.args.scopes.now.types in
    let why = c.in_err-low.field-0.0 in
    let told = tells_agrees s (scopes_view c.args.scopes.now) same (constant_words 0 low) low (Err why)
    (c.in_err-low.ensures.tells 0) in
    unknown_stop (subrange_of table (constant_of s low) (constant_of s high)) why c.from_residual.result
    (err_from_is_err_and _ c.from_residual.ensures.1)
    (of_none (constant_of s low) (subrange_of table (constant_of s low) (constant_of s high)) why
    (low_unknown table (constant_of s low) (constant_of s high)) told.1)

pub returns-in_err-high-clause-unknown : goal.returns-in_err-high-clause-unknown
returns-in_err-high-clause-unknown c s same =
    let spellings = c.args.scopes.now.spellings.now in
    let low : Constant = constant_in spellings c.args.low in
    let high : Constant = constant_in spellings c.args.high in
    let table = table_view spellings c.args.scopes.now.types in
    let why = c.in_err-high.field-0.0 in
    let told = tells_agrees s (scopes_view c.args.scopes.now) same (constant_words 0 high) high (Err why)
    (c.in_err-high.ensures.tells 0) in
    unknown_stop (subrange_of table (constant_of s low) (constant_of s high)) why c.from_residual-in_err-high.result
    (err_from_is_err_and _ c.from_residual-in_err-high.ensures.1)
    (of_none (constant_of s high) (subrange_of table (constant_of s low) (constant_of s high)) why
    (high_unknown table (constant_of s low) (constant_of s high)) told.1)

pub returns-in_err-range-clause-unknown : goal.returns-in_err-range-clause-unknown
returns-in_err-range-clause-unknown c s same =
    let spellings = c.args.scopes.now.spellings.now in
    let low : Constant = constant_in spellings c.args.low in
    let high : Constant = constant_in spellings c.args.high in
    let table = table_view spellings c.args.scopes.now.types in
    let first = c.in_ok-low.low in
    let second = c.in_ok-high.high in
    let why = c.in_err-range.field-0.0 in
    let ends = tells_agrees s (scopes_view c.args.scopes.now) same (constant_words 0 low) low (Ok first)
    (c.in_ok-low.ensures.tells 0) in
    let ended = tells_agrees s (scopes_view c.args.scopes.now) same (constant_words 0 high) high (Ok second)
    (c.in_ok-high.ensures.tells 0) in
    let shown = shown_by second.line _ why c.in_err-range.ensures in
    let whole = subrange_of table (constant_of s low) (constant_of s high) in
    unknown_stop whole why c.from_residual-in_err-range.result
    (err_from_is_err_and _ c.from_residual-in_err-range.ensures.1)
    (by_none whole why (bounds_unknown table (constant_of s low) (constant_of s high) (ordinal_view first)
    (ordinal_view second) shown.0 ends.known ended.known shown.1))
