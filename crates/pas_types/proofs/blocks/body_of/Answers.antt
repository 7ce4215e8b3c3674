use Rattle.std.proofs.Common.{◌≡◌, sym, subst, ◌∙◌, ℕ, List, [], Some, Result, Ok}
use Rattle.std.specs.Prelude.{OnOk}
use Rattle.std.proofs.lemmas.List.{append-nil}
use Rattle.std.proofs.lemmas.Result.{err_from_is_err_and}
use Rattle.pas_syntax.specs.Tree.{Compound, Statements}
use Rattle.pas_syntax.specs.Words.{statements_words}
use Rattle.pas_syntax.specs.ProgramViews.{statements_in}
use Rattle.pas_typed.specs.declared.typed.Labelled as code_labelled
use Rattle.pas_typed.specs.TypedViews.{statements_view}
use Rattle.pas_types.specs.declared.flow.Flow.{Flow}
use Rattle.pas_scopes.specs.declared.scopes.Scopes.{Scopes as CodeScopes}
use Rattle.pas_scopes.specs.declared.stop.Stop.{Stop}
use Rattle.pas_rules.specs.Labels.{labels_in_list, labels_of_list}
use Rattle.pas_rules.specs.Statements.{statements_of}
use Rattle.wb_base.specs.declared.faults.TheConstants.{RESULT_NEVER_ASSIGNED}
use Rattle.pas_tokens.specs.Cutting.{wrong}
use Rattle.pas_rules.specs.Marks.{unless}
use Rattle.pas_rules.specs.Routines.{result_missing}
use Rattle.pas_scopes.specs.ScopeViews.{scopes_view}
use Rattle.pas_scopes.specs.Answers.{Settles}
use Rattle.pas_types.specs.inner.FlowViews.{IsFlow}
use Rattle.pas_types.specs.inner.RoutineAnswers.{sort_view}
use Rattle.pas_types.specs.inner.BlockAnswers.{IsBody}
use Rattle.pas_scopes.proofs.AnswerLemmas.{before_found}
use Rattle.pas_scopes.proofs.SettleLemmas.{found_means}
use Rattle.pas_scopes.proofs.LocalRowLemmas.{stopped}
use Rattle.pas_types.proofs.BlockLemmas.{flow_within, stands_within, list_fails, label_fails, result_fails, body_means}
use Rattle.pas_types.proofs.blocks.body_of.Goals as goal

pub returns-in_err-statements : goal.returns-in_err-statements
returns-in_err-statements c inner h labels_are program_is begin line =
    let old : CodeScopes = c.args.scopes.now in
    let scopes = scopes_view old in
    let list : Statements = statements_in old.spellings.now c.args.list.now in
    let view = statements_view old.spellings.now in
    let body : Compound = record { begin = begin; list = list; end = c.args.end } in
    let start : Flow = record { block = c.args.labels; program = Some c.args.program } in
    let flow = flow_within old inner h start labels_are program_is in
    let found = c.statements_of.result in
    let settles = subst (λ (around : List ℕ). Settles (statements_words 1 list) (statements_of scopes around [] list)
    view found) (append-nil (labels_of_list list)) (c.statements_of.ensures.means [] [] flow h.clear 1) in
    let why : Stop = c.in_err-statements.field-0.0 in
    stopped (IsBody scopes (sort_view c.args.sort) inner.labels body line view) why c.from_residual.result
    (err_from_is_err_and _ c.from_residual.ensures.1)
    (list_fails scopes (sort_view c.args.sort) inner.labels body line view why found c.in_err-statements.ensures
    settles)

pub returns-in_err-demand : goal.returns-in_err-demand
returns-in_err-demand c inner h labels_are program_is begin line =
    let old : CodeScopes = c.args.scopes.now in
    let scopes = scopes_view old in
    let list : Statements = statements_in old.spellings.now c.args.list.now in
    let view = statements_view old.spellings.now in
    let body : Compound = record { begin = begin; list = list; end = c.args.end } in
    let start : Flow = record { block = c.args.labels; program = Some c.args.program } in
    let flow = flow_within old inner h start labels_are program_is in
    let found = c.statements_of.result in
    let settles = subst (λ (around : List ℕ). Settles (statements_words 1 list) (statements_of scopes around [] list)
    view found) (append-nil (labels_of_list list)) (c.statements_of.ensures.means [] [] flow h.clear 1) in
    let value : List code_labelled.Labelled = c.in_ok-statements.statements in
    let is : Ok value ≡ found = before_found c.args.end value found c.in_ok-statements.ensures in
    let means = found_means (statements_words 1 list) (statements_of scopes (labels_of_list list) [] list) view
    c.args.end value found c.in_ok-statements.ensures settles in
    let behind : Flow = c.statements_of.new.flow in
    let goes : IsFlow scopes [] (labels_in_list list) behind =
    subst (λ (r : Result (List code_labelled.Labelled) Stop). OnOk r (IsFlow scopes [] (labels_in_list list) behind))
    (sym is) (c.statements_of.ensures.goes [] [] flow) in
    let same = c.all_stand.ensures ∙ stands_within old inner h behind (labels_in_list list) goes in
    let why : Stop = c.in_err-demand.field-0.0 in
    stopped (IsBody scopes (sort_view c.args.sort) inner.labels body line view) why c.from_residual-in_err-demand.result
    (err_from_is_err_and _ c.from_residual-in_err-demand.ensures.1)
    (label_fails scopes (sort_view c.args.sort) inner.labels body line view value c.all_stand.result why means same
    (sym c.in_err-demand.was ∙ c.demand.ensures))

pub returns-in_err-demand-2 : goal.returns-in_err-demand-2
returns-in_err-demand-2 c inner h labels_are program_is begin line =
    let old : CodeScopes = c.args.scopes.now in
    let scopes = scopes_view old in
    let list : Statements = statements_in old.spellings.now c.args.list.now in
    let view = statements_view old.spellings.now in
    let body : Compound = record { begin = begin; list = list; end = c.args.end } in
    let start : Flow = record { block = c.args.labels; program = Some c.args.program } in
    let flow = flow_within old inner h start labels_are program_is in
    let found = c.statements_of.result in
    let settles = subst (λ (around : List ℕ). Settles (statements_words 1 list) (statements_of scopes around [] list)
    view found) (append-nil (labels_of_list list)) (c.statements_of.ensures.means [] [] flow h.clear 1) in
    let value : List code_labelled.Labelled = c.in_ok-statements.statements in
    let is : Ok value ≡ found = before_found c.args.end value found c.in_ok-statements.ensures in
    let means = found_means (statements_words 1 list) (statements_of scopes (labels_of_list list) [] list) view
    c.args.end value found c.in_ok-statements.ensures settles in
    let behind : Flow = c.statements_of.new.flow in
    let goes : IsFlow scopes [] (labels_in_list list) behind =
    subst (λ (r : Result (List code_labelled.Labelled) Stop). OnOk r (IsFlow scopes [] (labels_in_list list) behind))
    (sym is) (c.statements_of.ensures.goes [] [] flow) in
    let same = c.all_stand.ensures ∙ stands_within old inner h behind (labels_in_list list) goes in
    let why : Stop = c.in_err-demand-2.field-0.0 in
    stopped (IsBody scopes (sort_view c.args.sort) inner.labels body line view) why
    c.from_residual-in_err-demand-2.result (err_from_is_err_and _ c.from_residual-in_err-demand-2.ensures.1)
    (result_fails scopes (sort_view c.args.sort) inner.labels body line view value c.all_stand.result
    c.is_given.result why means same (sym c.in_ok-demand.was ∙ c.demand.ensures)
    (subst (λ (all : List code_labelled.Labelled). result_missing (sort_view c.args.sort) (Some (view all))
    ≡ unless c.is_given.result (wrong RESULT_NEVER_ASSIGNED)) c.as_slice.ensures
    (c.is_given.ensures old.spellings.now))
    (sym c.in_err-demand-2.was ∙ c.demand-2.ensures))

pub returns : goal.returns
returns c inner h labels_are program_is begin line =
    let old : CodeScopes = c.args.scopes.now in
    let scopes = scopes_view old in
    let list : Statements = statements_in old.spellings.now c.args.list.now in
    let view = statements_view old.spellings.now in
    let body : Compound = record { begin = begin; list = list; end = c.args.end } in
    let start : Flow = record { block = c.args.labels; program = Some c.args.program } in
    let flow = flow_within old inner h start labels_are program_is in
    let found = c.statements_of.result in
    let settles = subst (λ (around : List ℕ). Settles (statements_words 1 list) (statements_of scopes around [] list)
    view found) (append-nil (labels_of_list list)) (c.statements_of.ensures.means [] [] flow h.clear 1) in
    let value : List code_labelled.Labelled = c.in_ok-statements.statements in
    let is : Ok value ≡ found = before_found c.args.end value found c.in_ok-statements.ensures in
    let means = found_means (statements_words 1 list) (statements_of scopes (labels_of_list list) [] list) view
    c.args.end value found c.in_ok-statements.ensures settles in
    let behind : Flow = c.statements_of.new.flow in
    let goes : IsFlow scopes [] (labels_in_list list) behind =
    subst (λ (r : Result (List code_labelled.Labelled) Stop). OnOk r (IsFlow scopes [] (labels_in_list list) behind))
    (sym is) (c.statements_of.ensures.goes [] [] flow) in
    let same = c.all_stand.ensures ∙ stands_within old inner h behind (labels_in_list list) goes in
    body_means scopes (sort_view c.args.sort) inner.labels body line view value c.all_stand.result
    c.is_given.result means same (sym c.in_ok-demand.was ∙ c.demand.ensures)
    (subst (λ (all : List code_labelled.Labelled). result_missing (sort_view c.args.sort) (Some (view all))
    ≡ unless c.is_given.result (wrong RESULT_NEVER_ASSIGNED)) c.as_slice.ensures
    (c.is_given.ensures old.spellings.now))
    (sym c.in_ok-demand-2.was ∙ c.demand-2.ensures)
