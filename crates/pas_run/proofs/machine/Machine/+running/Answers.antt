use Rattle.std.proofs.Common.{rules, ◌≡◌, ◌+◌, ◌*◌, suc, List, map, take, drop, Err, ℤ, refl, sym, ap, ap₂, ◌∙◌}
use Rattle.std.proofs.Common.{subst, Bool, true, false, Ok, to_z, of_z, w32, w64, subst₂, ◌++◌, ◌∷◌, [], length}
use Rattle.std.proofs.Common.{arith, ℕ, is_some, IsSome, Option, Some, None, option_map, pos}
use Rattle.std.specs.Prelude.{not, if◌then◌else◌}
use Rattle.std.proofs.lemmas.Result.{err_from_is_err_and}
use Rattle.pas_syntax.specs.declared.operators.Multiplying.{Multiplying}
use Rattle.pas_syntax.specs.declared.operators.Adding.{Adding}
use Rattle.pas_syntax.specs.Views.{in_turn, spelled_in}
use Rattle.pas_typed.specs.declared.typed.Part.TheViews.{out-Place, out-Call}
use Rattle.pas_typed.specs.Types.{PasType, whole, boolean, fields_of, cells_of, Range, range_of}
use Rattle.pas_typed.specs.TypeOf.{type_of_place, is_buffer, type_of}
use Rattle.pas_typed.specs.Lawful.{IsLawfulPlace, IsOrdinal, ArePassed, AreLawful, IsLawfulTarget, IsLawfulNumber}
use Rattle.pas_typed.specs.Lawful.{IsLawfulItem}
use Rattle.pas_typed.specs.Typed.{Value, Place, Variable, Passed, Body, Statement, Arms, Slot}
use Rattle.pas_typed.specs.TypedViews.{function_view, file_test_view, value_view, place_view, call_view, slot_view}
use Rattle.pas_typed.specs.TypedViews.{part_view, program_view, passed_view, passed_views, file_step_view, item_view}
use Rattle.pas_typed.specs.TypedViews.{statement_view, statements_view, arms_view, body_view}
use Rattle.pas_typed.specs.Texts.{undoubled}
use Rattle.pas_typed.specs.TypeViews.{base_view, range_view, type_view}
use Rattle.pas_typed.proofs.ValueViews.{part_view-Element, part_view-Field, part_view-Buffer, value_view-Read}
use Rattle.pas_typed.proofs.ValueViews.{value_view-Call, value_view-Applied, value_view-Tested}
use Rattle.pas_typed.proofs.ValueViews.{value_view-Parenthesized, value_view-Signed, value_view-Negated}
use Rattle.pas_typed.proofs.ValueViews.{value_view-Product, value_view-Addition, value_view-Comparison}
use Rattle.pas_typed.proofs.ValueViews.{value_view-Constant, passed_view-Value, passed_view-Reference}
use Rattle.pas_meaning.specs.Answers.{fine, wrong}
use Rattle.pas_meaning.specs.Outcome.{pure, ask, ◌>>=◌, answered, change, ◌>>◌, take_step, begin_call}
use Rattle.pas_meaning.specs.Store.{holds, fits, number_of}
use Rattle.pas_meaning.specs.Arithmetic.{within_maxint, truth, signed, multiplied, added, compared, function_at}
use Rattle.pas_meaning.specs.Operands.{operand, truth_of, element, byte_of}
use Rattle.pas_meaning.proofs.OnwardLemmas.{goes_pure, goes_if, goes_answered, goes_begin, goes_step, goes_then}
use Rattle.pas_meaning.proofs.OnwardLemmas.{goes_change, goes_bind, goes_append, goes_change_file, readln_keeps}
use Rattle.pas_run.specs.inner.Doings.{Same, IsNumber, Does, Answers, Any, is_port_failed, is_failure}
use Rattle.pas_run.specs.inner.Evaluating.{value_of, place_at, twice, Evaluates, MeansSpot, IsBehind, Selects}
use Rattle.pas_run.specs.inner.Evaluating.{IsElement}
use Rattle.pas_run.specs.inner.MachineState.{CountFailures}
use Rattle.pas_run.proofs.DoesLemmas.{does_early, does_pure, does_answered, counts_on, quiet_early, does_stop}
use Rattle.pas_run.proofs.DoesLemmas.{does_next, does_question}
use Rattle.pas_run.proofs.OperandLemmas.{operand_stop, operand_next, once_stop, once_next, twice_stop}
use Rattle.pas_run.proofs.OperandLemmas.{twice_stop_behind, twice_next, truth_stop, truth_next, as_number}
use Rattle.pas_run.proofs.OperandLemmas.{does_no_memory}
use Rattle.pas_run.specs.inner.Scenes.{IsSpot, IsFileSlot}
use Rattle.pas_run.proofs.PlaceLemmas.{read_stop, read_next, does_field, does_no_index, does_no_element, does_element}
use Rattle.pas_run.proofs.PlaceLemmas.{counted-product}
use Rattle.pas_run.proofs.TestLemmas.{place_out, file_slot}
use Rattle.pas_run.proofs.SelectorLemmas.{turned_at, turned_more, turned_all, before_lawful, all_stops, does_part}
use Rattle.pas_run.proofs.SelectorLemmas.{does_variable, buffer_stop, buffer_next, not_buffer, no_buffer}
use Rattle.pas_run.proofs.SelectorLemmas.{does_stopped}
use Rattle.pas_run.proofs.ValueLemmas.{goes_value_of, and_by, or_by, goes_and, goes_or, does_product, does_addition}
use Rattle.pas_run.proofs.ValueLemmas.{does_constant, none_and, none_or}
use Rattle.std.proofs.lemmas.List.{take_all}
use Rattle.pas_run.specs.declared.arguments.Argument.{Argument as CodeArgument}
use Rattle.pas_run.specs.declared.spots.Spot.{Spot as CodeSpot}
use Rattle.pas_run.specs.inner.Copying.{IsFound, AreCells, held_at, Copies, assignment_of}
use Rattle.pas_run.specs.inner.Calling.{AreGiven, IsOneGiven, arguments_of, PassesOne, IsResult, call_of, body_run_of}
use Rattle.pas_run.specs.inner.Calling.{kinds_inside, procedure_of}
use Rattle.pas_run.proofs.CopyLemmas.{whole_no_buffer, copy_stop, copy_next, whole_source, some_view, none_view}
use Rattle.pas_run.proofs.CopyLemmas.{assign_no_value, assign_no_place, assign_copied}
use Rattle.pas_run.proofs.ArgumentLemmas.{none_given, more_given, one_stops, passed_at, passed_long, parts_at}
use Rattle.pas_run.proofs.ArgumentLemmas.{more_at, value_stop, value_next, whole_stop, whole_next, place_stop}
use Rattle.pas_run.proofs.ArgumentLemmas.{place_next, number_lawful}
use Rattle.pas_run.proofs.CallLemmas.{call_is, function_no_arguments, function_stopped, function_answers}
use Rattle.pas_run.proofs.CallLemmas.{does_after_step, goes_behind_call_step, goes_body_run, does_close}
use Rattle.pas_run.proofs.CallLemmas.{body_not_opened, body_stopped, body_done, procedure_no_arguments}
use Rattle.pas_run.proofs.CallLemmas.{procedure_stopped, procedure_done}
use Rattle.std.proofs.Math.Facts.{to_z-of_z}
use Rattle.pas_typed.specs.declared.typed.Counted.{Counted as CodeCounted}
use Rattle.pas_typed.proofs.StatementViews.{statement_view-Empty, statement_view-Assigns, statement_view-SetsResult}
use Rattle.pas_typed.proofs.StatementViews.{statement_view-Calls, statement_view-Compound, statement_view-If}
use Rattle.pas_typed.proofs.StatementViews.{statement_view-IfElse, statement_view-Case, statement_view-CaseOthers}
use Rattle.pas_typed.proofs.StatementViews.{statement_view-While, statement_view-Repeat, statement_view-For}
use Rattle.pas_typed.proofs.StatementViews.{statement_view-Goto, statement_view-GotoLast, statement_view-Steps}
use Rattle.pas_typed.proofs.StatementViews.{statement_view-Reads, statement_view-ReadsLine, statement_view-Writes}
use Rattle.pas_typed.proofs.StatementViews.{statement_view-WritesLine, statement_view-WritesBytes}
use Rattle.pas_typed.proofs.StatementViews.{statement_view-Halts}
use Rattle.pas_meaning.specs.declared.errors.TheConstants.{CALL_LIMIT, NO_CASE_MATCHES, STATUS_OUT_OF_RANGE}
use Rattle.pas_meaning.specs.declared.errors.TheConstants.{OUT_OF_RANGE}
use Rattle.pas_meaning.specs.FileSteps.{change_file, append}
use Rattle.pas_meaning.specs.Run.{within, file_variable, on_file, store_at, with_result, components_of, window}
use Rattle.pas_meaning.specs.Run.{buffer_of, file_of}
use Rattle.pas_meaning.proofs.GoesLemmas.{goes_operand_alone, goes_operand, goes_on_file}
use Rattle.pas_run.specs.declared.ends.Flow.{Flow as CodeFlow}
use Rattle.pas_run.specs.inner.Running.{IsFlow, Runs, statement_of, list_of, next_behind, assigned_to, step_of}
use Rattle.pas_run.specs.inner.Running.{Chooses, reads_of, writes_of, bytes_of, flow_view, behind_of, entry_by}
use Rattle.pas_run.specs.inner.Running.{IsTurn, Turns, turning, turn_at, turn_of, loop_view, loop_of, looped_of}
use Rattle.pas_run.specs.inner.Running.{while_turn_of, repeat_turn_of, for_turn_of, until_of, counted_of, for_from_of}
use Rattle.pas_run.specs.inner.Running.{between_of, forgetting, read_item_of, write_byte_of, write_item_of, width_of}
use Rattle.pas_run.specs.inner.Running.{field_of, WritesItem}
use Rattle.pas_run.proofs.RunningLemmas.{does_behind_two, does_behind_three, found_stop, found_next, goes_of, arm_of}
use Rattle.pas_run.proofs.RunningLemmas.{goes_arm_of, leads_same, leads_on, goes_list_of, done_stop, done_next}
use Rattle.pas_run.proofs.RunningLemmas.{goes_looped_of}
use Rattle.pas_run.proofs.StatementLemmas.{runs_as, quiet_answer, does_halt, halts_stop, halts_wrong, halts_next}
use Rattle.pas_run.proofs.StatementLemmas.{store_stop, store_next, assign_stop, assign_next, result_stop}
use Rattle.pas_run.proofs.StatementLemmas.{result_wrong, result_next, takes_number, quiet_still, no_file_variable}
use Rattle.pas_run.proofs.StatementLemmas.{its_file_variable, goes_slot_step, goes_assigned_to, on_no_file}
use Rattle.pas_run.proofs.StatementLemmas.{on_its_file}
use Rattle.pas_run.proofs.ListLemmas.{item_seen, list_seen, item_next, item_over, item_stop, list_end, no_next}
use Rattle.pas_run.proofs.ListLemmas.{turn_again, turn_over, turn_stop, compound_from, goes_behind_of}
use Rattle.pas_run.specs.declared.loops.Turn.{Turn as CodeTurn}
use Rattle.pas_run.specs.declared.cells.Cell.{Cell}
use Rattle.pas_run.proofs.OpenLemmas.{routine_found, at_inside}
use Rattle.std.proofs.lemmas.Option.{slice_get-map}
use Rattle.pas_run.specs.declared.loops.Loop.{Loop as CodeLoop}
use Rattle.pas_run.proofs.LoopLemmas.{loop_from, goes_turn_of, goes_until_of, goes_counted_of, on_stop, on_next}
use Rattle.pas_run.proofs.LoopLemmas.{on_past, does_stored, ordinal_cell, goes_forget_of, goes_from_of}
use Rattle.pas_run.proofs.LoopLemmas.{between_no_low, between_no_high, between_next, from_past, from_between}
use Rattle.std.specs.List.{All}
use Rattle.pas_typed.specs.declared.typed.Item.{Item as CodeItem}
use Rattle.pas_run.proofs.TransferLemmas.{window_read, window_stored, first_stops, set_stops, set_next, each_next}
use Rattle.pas_run.proofs.TransferLemmas.{each_stop, each_end, seen_items, goes_read_item_of, goes_reads_of}
use Rattle.pas_run.proofs.TransferLemmas.{goes_write_byte_of, goes_bytes_of, first_and_more, goes_write_item_of}
use Rattle.pas_run.proofs.TransferLemmas.{goes_writes_of, goes_width_of, goes_field_of, as_operand}
use Rattle.std.specs.Option.{IfSome}
use Rattle.pas_run.specs.declared.ends.Stop.{Stop}
use Rattle.pas_syntax.specs.declared.operators.Multiplying.TheVariants as multiplying
use Rattle.pas_syntax.specs.declared.operators.Adding.TheVariants as adding
use Rattle.pas_typed.specs.declared.typed.Value as code_value
use Rattle.pas_typed.specs.declared.typed.Place as code_place
use Rattle.pas_typed.specs.declared.typed.Part as code_part
use Rattle.pas_typed.specs.Typed as typed
use Rattle.pas_meaning.specs.Run as meaning
use Rattle.pas_typed.specs.declared.typed.Passed as code_passed
use Rattle.pas_typed.specs.declared.typed.Statement as code_statement
use Rattle.pas_meaning.specs.Files as files
use Rattle.pas_run.specs.declared.ends.Flow.TheVariants as flow
use Rattle.pas_run.specs.declared.ends.Stop.TheVariants as stop
use Rattle.pas_typed.specs.declared.typed.Labelled as code_labelled
use Rattle.pas_run.proofs.machine.Machine.+running.Goals as goal

-- forms of values

pub number-returns-in-Constant-clause-does : goal.number-returns-in-Constant-clause-does
number-returns-in-Constant-clause-does g t c =
    let number : to_z w64 (of_z w64 c.in-Constant.found) ≡ c.in-Constant.found = search rules in
    subst (λ (found : Value). Evaluates c.args.scene found c.args.self.now c.args.self.now c.within_maxint.result)
    (sym (ap value_view c.in-Constant.is ∙ value_view-Constant _ _))
    (λ variables result kinds at is most. does_constant most kinds (base_view c.in-Constant.field-0)
    c.in-Constant.found c.args.self.now c.within_maxint.result is.0
    (subst (λ number. Answers Same (within_maxint number) c.within_maxint.result) number c.within_maxint.ensures))

pub number-returns-in-Read-clause-does : goal.number-returns-in-Read-clause-does
number-returns-in-Read-clause-does g t c =
    subst (λ (found : Value). Evaluates c.args.scene found c.args.self.now c.read.new.self c.read.result)
    (sym (ap value_view c.in-Read.is ∙ value_view-Read _ ∙ ap (λ (place : code_place.Place). typed.read (place_view
    place)) (sym c.get.ensures)))
    c.read.ensures.does

pub number-returns-in-Call-clause-does : goal.number-returns-in-Call-clause-does
number-returns-in-Call-clause-does g t c =
    subst (λ (found : Value). Evaluates c.args.scene found c.args.self.now c.function_result.new.self
    c.function_result.result)
    (sym (ap value_view c.in-Call.is ∙ value_view-Call _ ∙ ap call_view (sym c.get-in-Call.ensures)))
    c.function_result.ensures.does

pub number-returns-in-Applied-clause-does : goal.number-returns-in-Applied-clause-does
number-returns-in-Applied-clause-does g t c =
    subst (λ (found : Value). Evaluates c.args.scene found c.args.self.now c.applied.new.self c.applied.result)
    (sym (ap value_view c.in-Applied.is ∙ value_view-Applied _ _
    ∙ ap (λ (one : code_value.Value). typed.applied (function_view c.in-Applied.function) (value_view one))
    (sym c.get-in-Applied.ensures)))
    c.applied.ensures.does

pub number-returns-in-Tested-clause-does : goal.number-returns-in-Tested-clause-does
number-returns-in-Tested-clause-does g t c =
    subst (λ (found : Value). Evaluates c.args.scene found c.args.self.now c.tested.new.self c.tested.result)
    (sym (ap value_view c.in-Tested.is ∙ value_view-Tested _ _
    ∙ ap (λ (place : code_place.Place). typed.tested (file_test_view c.in-Tested.test) (place_view place))
    (sym c.get-in-Tested.ensures)))
    c.tested.ensures.does

pub number-returns-in-Parenthesized-clause-does : goal.number-returns-in-Parenthesized-clause-does
number-returns-in-Parenthesized-clause-does g t c =
    subst (λ (found : Value). Evaluates c.args.scene found c.args.self.now c.number.new.self c.number.result)
    (sym (ap value_view c.in-Parenthesized.is ∙ value_view-Parenthesized _
    ∙ ap (λ (one : code_value.Value). typed.parenthesized (value_view one)) (sym c.get-in-Parenthesized.ensures)))
    c.number.ensures.does

pub number-returns-in-Signed-clause-does : goal.number-returns-in-Signed-clause-does
number-returns-in-Signed-clause-does g t c =
    subst (λ (found : Value). Evaluates c.args.scene found c.args.self.now c.signed_value.new.self
    c.signed_value.result)
    (sym (ap value_view c.in-Signed.is ∙ value_view-Signed _ _
    ∙ ap (λ (one : code_value.Value). typed.signed c.in-Signed.sign (value_view one)) (sym c.get-in-Signed.ensures)))
    c.signed_value.ensures.does

pub number-returns-in-Negated-clause-does : goal.number-returns-in-Negated-clause-does
number-returns-in-Negated-clause-does g t c =
    subst (λ (found : Value). Evaluates c.args.scene found c.args.self.now c.negated.new.self c.negated.result)
    (sym (ap value_view c.in-Negated.is ∙ value_view-Negated _
    ∙ ap (λ (one : code_value.Value). typed.negated (value_view one)) (sym c.get-in-Negated.ensures)))
    c.negated.ensures.does

pub number-returns-in-Product-clause-does : goal.number-returns-in-Product-clause-does
number-returns-in-Product-clause-does g t c =
    subst (λ (found : Value). Evaluates c.args.scene found c.args.self.now c.product.new.self c.product.result)
    (sym (ap value_view c.in-Product.is ∙ value_view-Product _ _ _
    ∙ ap (λ (one : code_value.Value). typed.product (value_view one) c.in-Product.operator (value_view
    c.in-Product.right))
    (sym c.get-in-Product.ensures)
    ∙ ap (λ (other : code_value.Value). typed.product (value_view c.get-in-Product.result.now) c.in-Product.operator
    (value_view other)) (sym c.get-in-Product-2.ensures)))
    c.product.ensures.does

pub number-returns-in-Addition-clause-does : goal.number-returns-in-Addition-clause-does
number-returns-in-Addition-clause-does g t c =
    subst (λ (found : Value). Evaluates c.args.scene found c.args.self.now c.addition.new.self c.addition.result)
    (sym (ap value_view c.in-Addition.is ∙ value_view-Addition _ _ _
    ∙ ap (λ (one : code_value.Value). typed.addition (value_view one) c.in-Addition.operator (value_view
    c.in-Addition.right))
    (sym c.get-in-Addition.ensures)
    ∙ ap (λ (other : code_value.Value). typed.addition (value_view c.get-in-Addition.result.now) c.in-Addition.operator
    (value_view other)) (sym c.get-in-Addition-2.ensures)))
    c.addition.ensures.does

pub number-returns-in-Comparison-clause-does : goal.number-returns-in-Comparison-clause-does
number-returns-in-Comparison-clause-does g t c =
    subst (λ (found : Value). Evaluates c.args.scene found c.args.self.now c.comparison.new.self c.comparison.result)
    (sym (ap value_view c.in-Comparison.is ∙ value_view-Comparison _ _ _
    ∙ ap (λ (one : code_value.Value). typed.comparison (value_view one) c.in-Comparison.relation
    (value_view c.in-Comparison.right)) (sym c.get-in-Comparison.ensures)
    ∙ ap (λ (other : code_value.Value). typed.comparison (value_view c.get-in-Comparison.result.now)
    c.in-Comparison.relation (value_view other)) (sym c.get-in-Comparison-2.ensures)))
    (λ variables result kinds at is most.
    c.comparison.ensures.does variables result kinds at ((is.0.0, is.0.2), (is.0.1, is.0.3)) most)

-- an operand behind its check

pub truth-returns-in_err-found-clause-does : goal.truth-returns-in_err-found-clause-does
truth-returns-in_err-found-clause-does g t c variables result kinds at is most =
    let program = program_view c.args.scene.program.now in
    let one = value_of program most (value_view c.args.value.now) in
    does_early most kinds kinds Same (operand truth_of one) c.args.self.now c.number.new.self
    c.in_err-found.field-0.0 c.from_residual.result (err_from_is_err_and _ c.from_residual.ensures.1)
    (operand_stop most kinds Same truth_of one c.args.self.now c.number.new.self c.in_err-found.field-0.0
    (c.in_err-found.ensures.does variables result kinds at is most))

pub truth-returns-clause-does : goal.truth-returns-clause-does
truth-returns-clause-does g t c variables result kinds at is most =
    let program = program_view c.args.scene.program.now in
    let one = value_of program most (value_view c.args.value.now) in
    let found : to_z w32 (of_z w32 c.in_ok-found.found) ≡ c.in_ok-found.found = search rules in
    operand_next most kinds Same truth_of one c.args.self.now c.number.new.self c.in_ok-found.found
    c.truth_of.result (goes_value_of program most (value_view c.args.value.now))
    (c.in_ok-found.ensures.does variables result kinds at is most)
    (subst (λ number. Answers Same (truth_of (holds number)) c.truth_of.result) found
    c.truth_of.ensures)

pub boolean-returns-in_err-found-clause-does : goal.boolean-returns-in_err-found-clause-does
boolean-returns-in_err-found-clause-does g t c variables result kinds at is most =
    let program = program_view c.args.scene.program.now in
    let one = value_of program most (value_view c.args.value.now) in
    does_early most kinds kinds IsNumber (operand (fits program.types (whole boolean)) one) c.args.self.now
    c.number.new.self
    c.in_err-found.field-0.0 c.from_residual.result (err_from_is_err_and _ c.from_residual.ensures.1)
    (operand_stop most kinds IsNumber (fits program.types (whole boolean)) one c.args.self.now c.number.new.self
    c.in_err-found.field-0.0
    (c.in_err-found.ensures.does variables result kinds at is most))

pub boolean-returns-clause-does : goal.boolean-returns-clause-does
boolean-returns-clause-does g t c variables result kinds at is most =
    let program = program_view c.args.scene.program.now in
    let one = value_of program most (value_view c.args.value.now) in
    let found : to_z w32 (of_z w32 c.in_ok-found.found) ≡ c.in_ok-found.found = search rules in
    operand_next most kinds IsNumber (fits program.types (whole boolean)) one c.args.self.now c.number.new.self
    c.in_ok-found.found
    c.fits.result (goes_value_of program most (value_view c.args.value.now))
    (c.in_ok-found.ensures.does variables result kinds at is most)
    (subst (λ number. Answers IsNumber ((fits program.types (whole boolean)) (holds number)) c.fits.result) found
    c.fits.ensures.number)

-- one operand

pub applied-returns-in_err-found-clause-does : goal.applied-returns-in_err-found-clause-does
applied-returns-in_err-found-clause-does g t c variables result kinds at is most =
    let program = program_view c.args.scene.program.now in
    let one = value_view c.args.argument.now in
    does_early most kinds kinds IsNumber (value_of program most (typed.applied (function_view c.args.function) one))
    c.args.self.now
    c.number.new.self c.in_err-found.field-0.0 c.from_residual.result
    (err_from_is_err_and _ c.from_residual.ensures.1)
    (once_stop most kinds (function_at (function_view c.args.function)) (value_of program most one) c.args.self.now
    c.number.new.self
    c.in_err-found.field-0.0 (c.in_err-found.ensures.does variables result kinds at is.0 most))

pub applied-returns-clause-does : goal.applied-returns-clause-does
applied-returns-clause-does g t c variables result kinds at is most =
    let program = program_view c.args.scene.program.now in
    let one = value_view c.args.argument.now in
    let found : to_z w32 (of_z w32 c.in_ok-found.found) ≡ c.in_ok-found.found = search rules in
    once_next most kinds (function_at (function_view c.args.function)) (value_of program most one) c.args.self.now
    c.number.new.self
    c.in_ok-found.found c.function_at.result (goes_value_of program most one)
    (c.in_ok-found.ensures.does variables result kinds at is.0 most)
    (subst (λ number. Answers Same (function_at (function_view c.args.function) number) c.function_at.result) found
    c.function_at.ensures)

pub signed_value-returns-in_err-found-clause-does : goal.signed_value-returns-in_err-found-clause-does
signed_value-returns-in_err-found-clause-does g t c variables result kinds at is most =
    let program = program_view c.args.scene.program.now in
    let one = value_view c.args.argument.now in
    does_early most kinds kinds IsNumber (value_of program most (typed.signed c.args.sign one)) c.args.self.now
    c.number.new.self c.in_err-found.field-0.0 c.from_residual.result
    (err_from_is_err_and _ c.from_residual.ensures.1)
    (once_stop most kinds (signed c.args.sign) (value_of program most one) c.args.self.now c.number.new.self
    c.in_err-found.field-0.0 (c.in_err-found.ensures.does variables result kinds at is.0 most))

pub signed_value-returns-clause-does : goal.signed_value-returns-clause-does
signed_value-returns-clause-does g t c variables result kinds at is most =
    let program = program_view c.args.scene.program.now in
    let one = value_view c.args.argument.now in
    let found : to_z w32 (of_z w32 c.in_ok-found.found) ≡ c.in_ok-found.found = search rules in
    once_next most kinds (signed c.args.sign) (value_of program most one) c.args.self.now c.number.new.self
    c.in_ok-found.found c.signed.result (goes_value_of program most one)
    (c.in_ok-found.ensures.does variables result kinds at is.0 most)
    (subst (λ number. Answers Same (signed c.args.sign number) c.signed.result) found c.signed.ensures)

pub negated-returns-in_err-found-clause-does : goal.negated-returns-in_err-found-clause-does
negated-returns-in_err-found-clause-does g t c variables result kinds at is most =
    let program = program_view c.args.scene.program.now in
    let one = value_view c.args.argument.now in
    does_early most kinds kinds IsNumber (value_of program most (typed.negated one)) c.args.self.now
    c.truth.new.self c.in_err-found.field-0.0 c.from_residual.result
    (err_from_is_err_and _ c.from_residual.ensures.1)
    (truth_stop most kinds (value_of program most one) (λ found. pure (meaning.boolean (not found)))
    (λ found. goes_pure (meaning.boolean (not found))) c.args.self.now c.truth.new.self
    c.in_err-found.field-0.0 (c.in_err-found.ensures.does variables result kinds at is.0 most))

pub negated-returns-clause-does : goal.negated-returns-clause-does
negated-returns-clause-does g t c variables result kinds at is most =
    let program = program_view c.args.scene.program.now in
    let one = value_view c.args.argument.now in
    let number : to_z w32 (of_z w32 c.number_of.result) ≡ c.number_of.result = search rules in
    truth_next most kinds (value_of program most one) (λ found. pure (meaning.boolean (not found)))
    (λ found. goes_pure (meaning.boolean (not found))) c.args.self.now c.truth.new.self c.truth.new.self
    c.in_ok-found.found _ (goes_value_of program most one)
    (c.in_ok-found.ensures.does variables result kinds at is.0 most)
    (does_pure most kinds IsNumber _ (meaning.boolean (not c.in_ok-found.found)) c.truth.new.self
    (ap holds (sym (number ∙ c.number_of.ensures))))

-- two operands

pub multiplication-returns-in_err-first-clause-does : goal.multiplication-returns-in_err-first-clause-does
multiplication-returns-in_err-first-clause-does g t c variables result kinds at is most =
    let program = program_view c.args.scene.program.now in
    let one = value_of program most (value_view c.args.left.now) in
    let other = value_of program most (value_view c.args.right.now) in
    does_early most kinds kinds IsNumber (twice (multiplied c.args.operator) one other) c.args.self.now
    c.number.new.self
    c.in_err-first.field-0.0 c.from_residual.result (err_from_is_err_and _ c.from_residual.ensures.1)
    (twice_stop most kinds (multiplied c.args.operator) one other (goes_value_of program most (value_view
    c.args.right.now))
    c.args.self.now c.number.new.self c.in_err-first.field-0.0
    (c.in_err-first.ensures.does variables result kinds at is.0 most))

pub multiplication-returns-in_err-second-clause-does : goal.multiplication-returns-in_err-second-clause-does
multiplication-returns-in_err-second-clause-does g t c variables result kinds at is most =
    let program = program_view c.args.scene.program.now in
    let one = value_of program most (value_view c.args.left.now) in
    let other = value_of program most (value_view c.args.right.now) in
    does_early most kinds kinds IsNumber (twice (multiplied c.args.operator) one other) c.args.self.now
    c.number-2.new.self
    c.in_err-second.field-0.0 c.from_residual-in_err-second.result
    (err_from_is_err_and _ c.from_residual-in_err-second.ensures.1)
    (twice_stop_behind most kinds (multiplied c.args.operator) one other (goes_value_of program most (value_view
    c.args.right.now))
    c.args.self.now c.number.new.self c.number-2.new.self c.in_ok-first.first c.in_err-second.field-0.0
    (goes_value_of program most (value_view c.args.left.now))
    (c.in_ok-first.ensures.does variables result kinds at is.0 most)
    (c.in_err-second.ensures.does variables result kinds at is.1 most))

pub multiplication-returns-clause-does : goal.multiplication-returns-clause-does
multiplication-returns-clause-does g t c variables result kinds at is most =
    let program = program_view c.args.scene.program.now in
    let one = value_of program most (value_view c.args.left.now) in
    let other = value_of program most (value_view c.args.right.now) in
    let first : to_z w32 (of_z w32 c.in_ok-first.first) ≡ c.in_ok-first.first = search rules in
    let second : to_z w32 (of_z w32 c.in_ok-second.second) ≡ c.in_ok-second.second = search rules in
    twice_next most kinds (multiplied c.args.operator) one other (goes_value_of program most (value_view
    c.args.right.now))
    c.args.self.now c.number.new.self c.number-2.new.self c.in_ok-first.first c.in_ok-second.second
    c.multiplied.result (goes_value_of program most (value_view c.args.left.now))
    (c.in_ok-first.ensures.does variables result kinds at is.0 most)
    (c.in_ok-second.ensures.does variables result kinds at is.1 most)
    (subst (λ (second : ℤ). Answers Same (multiplied c.args.operator c.in_ok-first.first second) c.multiplied.result)
    second
    (subst (λ (first : ℤ). Answers Same (multiplied c.args.operator first (to_z w32 (of_z w32
    c.in_ok-second.second))) c.multiplied.result)
    first c.multiplied.ensures))

pub sum-returns-in_err-first-clause-does : goal.sum-returns-in_err-first-clause-does
sum-returns-in_err-first-clause-does g t c variables result kinds at is most =
    let program = program_view c.args.scene.program.now in
    let one = value_of program most (value_view c.args.left.now) in
    let other = value_of program most (value_view c.args.right.now) in
    does_early most kinds kinds IsNumber (twice (added c.args.operator) one other) c.args.self.now c.number.new.self
    c.in_err-first.field-0.0 c.from_residual.result (err_from_is_err_and _ c.from_residual.ensures.1)
    (twice_stop most kinds (added c.args.operator) one other (goes_value_of program most (value_view c.args.right.now))
    c.args.self.now c.number.new.self c.in_err-first.field-0.0
    (c.in_err-first.ensures.does variables result kinds at is.0 most))

pub sum-returns-in_err-second-clause-does : goal.sum-returns-in_err-second-clause-does
sum-returns-in_err-second-clause-does g t c variables result kinds at is most =
    let program = program_view c.args.scene.program.now in
    let one = value_of program most (value_view c.args.left.now) in
    let other = value_of program most (value_view c.args.right.now) in
    does_early most kinds kinds IsNumber (twice (added c.args.operator) one other) c.args.self.now c.number-2.new.self
    c.in_err-second.field-0.0 c.from_residual-in_err-second.result
    (err_from_is_err_and _ c.from_residual-in_err-second.ensures.1)
    (twice_stop_behind most kinds (added c.args.operator) one other (goes_value_of program most (value_view
    c.args.right.now))
    c.args.self.now c.number.new.self c.number-2.new.self c.in_ok-first.first c.in_err-second.field-0.0
    (goes_value_of program most (value_view c.args.left.now))
    (c.in_ok-first.ensures.does variables result kinds at is.0 most)
    (c.in_err-second.ensures.does variables result kinds at is.1 most))

pub sum-returns-clause-does : goal.sum-returns-clause-does
sum-returns-clause-does g t c variables result kinds at is most =
    let program = program_view c.args.scene.program.now in
    let one = value_of program most (value_view c.args.left.now) in
    let other = value_of program most (value_view c.args.right.now) in
    let first : to_z w32 (of_z w32 c.in_ok-first.first) ≡ c.in_ok-first.first = search rules in
    let second : to_z w32 (of_z w32 c.in_ok-second.second) ≡ c.in_ok-second.second = search rules in
    twice_next most kinds (added c.args.operator) one other (goes_value_of program most (value_view c.args.right.now))
    c.args.self.now c.number.new.self c.number-2.new.self c.in_ok-first.first c.in_ok-second.second
    c.added.result (goes_value_of program most (value_view c.args.left.now))
    (c.in_ok-first.ensures.does variables result kinds at is.0 most)
    (c.in_ok-second.ensures.does variables result kinds at is.1 most)
    (subst (λ (second : ℤ). Answers Same (added c.args.operator c.in_ok-first.first second) c.added.result) second
    (subst (λ (first : ℤ). Answers Same (added c.args.operator first (to_z w32 (of_z w32 c.in_ok-second.second)))
    c.added.result)
    first c.added.ensures))

pub comparison-returns-in_err-first-clause-does : goal.comparison-returns-in_err-first-clause-does
comparison-returns-in_err-first-clause-does g t c variables result kinds at is most =
    let program = program_view c.args.scene.program.now in
    let one = value_of program most (value_view c.args.left.now) in
    let other = value_of program most (value_view c.args.right.now) in
    does_early most kinds kinds IsNumber (twice (λ first second. fine (truth (compared c.args.relation first
    second))) one other) c.args.self.now c.number.new.self
    c.in_err-first.field-0.0 c.from_residual.result (err_from_is_err_and _ c.from_residual.ensures.1)
    (twice_stop most kinds (λ first second. fine (truth (compared c.args.relation first second))) one other
    (goes_value_of program most (value_view c.args.right.now))
    c.args.self.now c.number.new.self c.in_err-first.field-0.0
    (c.in_err-first.ensures.does variables result kinds at is.0 most))

pub comparison-returns-in_err-second-clause-does : goal.comparison-returns-in_err-second-clause-does
comparison-returns-in_err-second-clause-does g t c variables result kinds at is most =
    let program = program_view c.args.scene.program.now in
    let one = value_of program most (value_view c.args.left.now) in
    let other = value_of program most (value_view c.args.right.now) in
    does_early most kinds kinds IsNumber (twice (λ first second. fine (truth (compared c.args.relation first
    second))) one other) c.args.self.now c.number-2.new.self
    c.in_err-second.field-0.0 c.from_residual-in_err-second.result
    (err_from_is_err_and _ c.from_residual-in_err-second.ensures.1)
    (twice_stop_behind most kinds (λ first second. fine (truth (compared c.args.relation first second))) one other
    (goes_value_of program most (value_view c.args.right.now))
    c.args.self.now c.number.new.self c.number-2.new.self c.in_ok-first.first c.in_err-second.field-0.0
    (goes_value_of program most (value_view c.args.left.now))
    (c.in_ok-first.ensures.does variables result kinds at is.0 most)
    (c.in_err-second.ensures.does variables result kinds at is.1 most))

pub comparison-returns-clause-does : goal.comparison-returns-clause-does
comparison-returns-clause-does g t c variables result kinds at is most =
    let program = program_view c.args.scene.program.now in
    let one = value_of program most (value_view c.args.left.now) in
    let other = value_of program most (value_view c.args.right.now) in
    let first : to_z w32 (of_z w32 c.in_ok-first.first) ≡ c.in_ok-first.first = search rules in
    let second : to_z w32 (of_z w32 c.in_ok-second.second) ≡ c.in_ok-second.second = search rules in
    let number : to_z w32 (of_z w32 c.number_of.result) ≡ c.number_of.result = search rules in
    twice_next most kinds (λ first second. fine (truth (compared c.args.relation first second))) one other
    (goes_value_of program most (value_view c.args.right.now))
    c.args.self.now c.number.new.self c.number-2.new.self c.in_ok-first.first c.in_ok-second.second
    _ (goes_value_of program most (value_view c.args.left.now))
    (c.in_ok-first.ensures.does variables result kinds at is.0 most)
    (c.in_ok-second.ensures.does variables result kinds at is.1 most) (
      truth (compared c.args.relation c.in_ok-first.first c.in_ok-second.second),
      refl,
      number ∙ c.number_of.ensures ∙ ap truth c.compared.ensures
          ∙ ap₂ (λ (first second : ℤ). truth (compared c.args.relation first second)) first second,
    )

-- operators

pub product-returns-in-And-clause-does : goal.product-returns-in-And-clause-does
product-returns-in-And-clause-does g t c variables result kinds at is most =
    let program = program_view c.args.scene.program.now in
    subst (λ (op : Multiplying). Does most kinds kinds IsNumber
    (value_of program most (typed.product (value_view c.args.left.now) op (value_view c.args.right.now)))
    c.args.self.now c.conjunction.new.self c.conjunction.result) (sym c.in-And.is)
    (c.conjunction.ensures.does variables result kinds at (is.0, refl) most)

pub product-returns-in-Times : goal.product-returns-in-Times
product-returns-in-Times g t c = record {
  does = λ variables result kinds at is most.
      does_product (program_view c.args.scene.program.now) most kinds c.args.self.now c.multiplication.new.self
      c.multiplication.result (value_view c.args.left.now) (value_view c.args.right.now) c.args.operator
      (none_and c.args.operator c.in-Times.is)
      (c.multiplication.ensures.does variables result kinds at ((is.0.0, is.0.2), (is.0.1, is.0.3)) most);
  cause = c.multiplication.ensures.cause;
}

pub addition-returns-in-Or-clause-does : goal.addition-returns-in-Or-clause-does
addition-returns-in-Or-clause-does g t c variables result kinds at is most =
    let program = program_view c.args.scene.program.now in
    subst (λ (op : Adding). Does most kinds kinds IsNumber
    (value_of program most (typed.addition (value_view c.args.left.now) op (value_view c.args.right.now)))
    c.args.self.now c.disjunction.new.self c.disjunction.result) (sym c.in-Or.is)
    (c.disjunction.ensures.does variables result kinds at (is.0, refl) most)

pub addition-returns-in-Plus : goal.addition-returns-in-Plus
addition-returns-in-Plus g t c = record {
  does = λ variables result kinds at is most.
      does_addition (program_view c.args.scene.program.now) most kinds c.args.self.now c.sum.new.self
      c.sum.result (value_view c.args.left.now) (value_view c.args.right.now) c.args.operator
      (none_or c.args.operator c.in-Plus.is)
      (c.sum.ensures.does variables result kinds at ((is.0.0, is.0.2), (is.0.1, is.0.3)) most);
  cause = c.sum.ensures.cause;
}

pub conjunction-returns-in_err-decided-clause-does : goal.conjunction-returns-in_err-decided-clause-does
conjunction-returns-in_err-decided-clause-does g t c variables result kinds at is most =
    let program = program_view c.args.scene.program.now in
    let left = value_view c.args.left.now in
    let right = value_view c.args.right.now in
    does_early most kinds kinds IsNumber (value_of program most (typed.product left multiplying.And right))
    c.args.self.now
    c.truth.new.self c.in_err-decided.field-0.0 c.from_residual.result
    (err_from_is_err_and _ c.from_residual.ensures.1)
    (truth_stop most kinds (value_of program most left) (and_by program most right) (goes_and program most right)
    c.args.self.now c.truth.new.self c.in_err-decided.field-0.0
    (c.in_err-decided.ensures.does variables result kinds at (is.0.0, is.0.2) most))

pub conjunction-returns-then-decided-clause-does : goal.conjunction-returns-then-decided-clause-does
conjunction-returns-then-decided-clause-does g t c variables result kinds at is most =
    let program = program_view c.args.scene.program.now in
    let left = value_view c.args.left.now in
    let right = value_view c.args.right.now in
    truth_next most kinds (value_of program most left) (and_by program most right) (goes_and program most right)
    c.args.self.now c.truth.new.self c.boolean.new.self true
    c.boolean.result (goes_value_of program most left)
    (subst (λ (found : Bool). Does most kinds kinds Same (operand truth_of (value_of program most left))
    c.args.self.now c.truth.new.self (Ok found)) c.if-decided.true
    (c.in_ok-decided.ensures.does variables result kinds at (is.0.0, is.0.2) most))
    (c.boolean.ensures.does variables result kinds at (is.0.1, is.0.3) most)

pub conjunction-returns-else-decided-clause-does : goal.conjunction-returns-else-decided-clause-does
conjunction-returns-else-decided-clause-does g t c variables result kinds at is most =
    let program = program_view c.args.scene.program.now in
    let left = value_view c.args.left.now in
    let right = value_view c.args.right.now in
    truth_next most kinds (value_of program most left) (and_by program most right) (goes_and program most right)
    c.args.self.now c.truth.new.self c.truth.new.self false
    _ (goes_value_of program most left)
    (subst (λ (found : Bool). Does most kinds kinds Same (operand truth_of (value_of program most left))
    c.args.self.now c.truth.new.self (Ok found)) c.if-decided.false
    (c.in_ok-decided.ensures.does variables result kinds at (is.0.0, is.0.2) most))
    (does_pure most kinds IsNumber _ (meaning.boolean false) c.truth.new.self refl)

pub disjunction-returns-in_err-decided-clause-does : goal.disjunction-returns-in_err-decided-clause-does
disjunction-returns-in_err-decided-clause-does g t c variables result kinds at is most =
    let program = program_view c.args.scene.program.now in
    let left = value_view c.args.left.now in
    let right = value_view c.args.right.now in
    does_early most kinds kinds IsNumber (value_of program most (typed.addition left adding.Or right)) c.args.self.now
    c.truth.new.self c.in_err-decided.field-0.0 c.from_residual.result
    (err_from_is_err_and _ c.from_residual.ensures.1)
    (truth_stop most kinds (value_of program most left) (or_by program most right) (goes_or program most right)
    c.args.self.now c.truth.new.self c.in_err-decided.field-0.0
    (c.in_err-decided.ensures.does variables result kinds at (is.0.0, is.0.2) most))

pub disjunction-returns-then-decided-clause-does : goal.disjunction-returns-then-decided-clause-does
disjunction-returns-then-decided-clause-does g t c variables result kinds at is most =
    let program = program_view c.args.scene.program.now in
    let left = value_view c.args.left.now in
    let right = value_view c.args.right.now in
    truth_next most kinds (value_of program most left) (or_by program most right) (goes_or program most right)
    c.args.self.now c.truth.new.self c.truth.new.self true
    _ (goes_value_of program most left)
    (subst (λ (found : Bool). Does most kinds kinds Same (operand truth_of (value_of program most left))
    c.args.self.now c.truth.new.self (Ok found)) c.if-decided.true
    (c.in_ok-decided.ensures.does variables result kinds at (is.0.0, is.0.2) most))
    (does_pure most kinds IsNumber _ (meaning.boolean true) c.truth.new.self refl)

pub disjunction-returns-else-decided-clause-does : goal.disjunction-returns-else-decided-clause-does
disjunction-returns-else-decided-clause-does g t c variables result kinds at is most =
    let program = program_view c.args.scene.program.now in
    let left = value_view c.args.left.now in
    let right = value_view c.args.right.now in
    truth_next most kinds (value_of program most left) (or_by program most right) (goes_or program most right)
    c.args.self.now c.truth.new.self c.boolean.new.self false
    c.boolean.result (goes_value_of program most left)
    (subst (λ (found : Bool). Does most kinds kinds Same (operand truth_of (value_of program most left))
    c.args.self.now c.truth.new.self (Ok found)) c.if-decided.false
    (c.in_ok-decided.ensures.does variables result kinds at (is.0.0, is.0.2) most))
    (c.boolean.ensures.does variables result kinds at (is.0.1, is.0.3) most)

-- what a place holds

pub read-returns-in_err-spot-clause-does : goal.read-returns-in_err-spot-clause-does
read-returns-in_err-spot-clause-does g t c variables result kinds at is most =
    let program = program_view c.args.scene.program.now in
    let place = place_view c.args.place.now in
    does_early most kinds kinds IsNumber (value_of program most (typed.read place)) c.args.self.now
    c.spot_at.new.self c.in_err-spot.field-0.0 c.from_residual.result
    (err_from_is_err_and _ c.from_residual.ensures.1)
    (read_stop most kinds program variables place c.args.self.now c.spot_at.new.self c.in_err-spot.field-0.0
    (c.in_err-spot.ensures.does variables result kinds at is.0 most))

pub read-returns-clause-does : goal.read-returns-clause-does
read-returns-clause-does g t c variables result kinds at is most =
    let program = program_view c.args.scene.program.now in
    let place = place_view c.args.place.now in
    read_next most kinds program variables place c.args.self.now c.spot_at.new.self c.read_at.new.self
    c.in_ok-spot.spot c.read_at.result is.1 (c.in_ok-spot.ensures.does variables result kinds at is.0 most)
    (λ spot spot_is. subst (λ (type : PasType). IsSpot program variables type c.in_ok-spot.spot spot
    → Does most kinds kinds IsNumber (ask (meaning.read_at program.types type spot)) c.spot_at.new.self
    c.read_at.new.self c.read_at.result) (sym c.pas_type.ensures)
    (λ spot_is. c.read_at.ensures.does variables result kinds at spot spot_is most) spot_is)

-- where a place is

pub spot_at-returns-in_err-slot-clause-does : goal.spot_at-returns-in_err-slot-clause-does
spot_at-returns-in_err-slot-clause-does g t c variables result kinds at is most =
    let program = program_view c.args.scene.program.now in
    let place : Place = place_view c.args.place.now in
    does_early most kinds kinds (MeansSpot program variables (type_of_place place)) (place_at program most place)
    c.args.self.now c.args.self.now c.in_err-slot.field-0.0 c.from_residual.result
    (err_from_is_err_and _ c.from_residual.ensures.1)
    (buffer_stop program at.lawful variables most kinds c.args.self.now place c.in_err-slot.field-0.0
    (c.is_buffer.ensures ∙ c.if-is_buffer.true) c.in_err-slot.ensures.variable)

pub spot_at-returns-in_ok-slot-clause-does : goal.spot_at-returns-in_ok-slot-clause-does
spot_at-returns-in_ok-slot-clause-does g t c variables result kinds at is most =
    buffer_next (program_view c.args.scene.program.now) at.lawful variables most kinds c.args.self.now
    (place_view c.args.place.now) c.in_ok-slot.slot c.pas_type.result (c.is_buffer.ensures ∙ c.if-is_buffer.true) is
    c.pas_type.ensures c.in_ok-slot.ensures.variable

pub spot_at-returns-in_err-behind-clause-does : goal.spot_at-returns-in_err-behind-clause-does
spot_at-returns-in_err-behind-clause-does g t c variables result kinds at is most =
    let program = program_view c.args.scene.program.now in
    let place : Place = place_view c.args.place.now in
    does_early most kinds kinds (MeansSpot program variables (type_of_place place)) (place_at program most place)
    c.args.self.now c.part_at.new.self c.in_err-behind.field-0.0 c.from_residual-in_err-behind.result
    (err_from_is_err_and _ c.from_residual-in_err-behind.ensures.1)
    (does_stopped {T = ℕ} {U = CodeSpot} most kinds kinds
    (IsBehind program variables c.args.place.now.slot (type_of_place place))
    (MeansSpot program variables (type_of_place place)) (place_at program most place) c.args.self.now
    c.part_at.new.self c.in_err-behind.field-0.0
    (c.in_err-behind.ensures.does (c.is_buffer.ensures ∙ c.if-is_buffer.false) variables result kinds at is most))

pub spot_at-returns-in_ok-behind-clause-does : goal.spot_at-returns-in_ok-behind-clause-does
spot_at-returns-in_ok-behind-clause-does g t c variables result kinds at is most =
    does_part (program_view c.args.scene.program.now) at.lawful variables most kinds c.args.place.now.slot
    c.in_ok-behind.behind (place_view c.args.place.now) c.args.self.now c.part_at.new.self
    (c.in_ok-behind.ensures.does (c.is_buffer.ensures ∙ c.if-is_buffer.false) variables result kinds at is most)

pub part_at-loop-part-init : goal.part_at-loop-part-init
part_at-loop-part-init g t c = (
  refl,
  refl,
  λ other variables result kinds at is most.
      let program = program_view c.args.scene.program.now in
      does_variable program at.lawful variables most kinds c.args.place.now.slot c.args.self.now
      (before_lawful program at.lawful variables (out-Place c.args.place.now).parts
      (typed.slot (slot_view c.args.place.now.slot))
      (subst (IsLawfulPlace program variables) (sym (place_out c.args.place.now)) is)),
)

pub part_at-loop-part-preserved : goal.part_at-loop-part-preserved
part_at-loop-part-preserved g t c =
    let slot = c.args.place.now.slot in
    let first : Place = typed.slot (slot_view slot) in
    let items : List code_part.Part = c.as_slice-part-items.result.now in
    let i = c.loop-part.part-index in
    let so_far : Place = in_turn first (map part_view (take i items)) in
    let item : code_part.Part = c.part-item.result in
    let more : part_view item so_far ≡ in_turn first (map part_view (take (i + 1) items)) =
    turned_more first part_view items i item c.loop-part-test.true c.part-item.is in
    let all : in_turn (part_view item so_far) (map part_view (drop (suc i) items)) ≡ place_view c.args.place.now =
    turned_at first part_view items i item c.loop-part-test.true c.part-item.is
    ∙ ap (λ (parts : List code_part.Part). in_turn first (map part_view parts)) c.as_slice-part-items.ensures
    ∙ place_out c.args.place.now in (
      ap type_of_place (sym more) ∙ c.pas_type-whole.ensures so_far,
      c.in_ok-behind.ensures.cause ∙ c.loop-part.invariant.1,
      λ other variables result kinds at is most.
          let program = program_view c.args.scene.program.now in
          subst (λ (place : Place). Does most kinds kinds (IsBehind program variables slot (type_of_place place))
          (place_at program most place) c.args.self.now c.behind_part.new.self (Ok c.in_ok-behind.behind)) more
          (c.in_ok-behind.ensures.does variables result kinds at so_far
          (before_lawful program at.lawful variables (drop (suc i) items) (part_view item so_far)
          (subst (IsLawfulPlace program variables) (sym all) is))
          (not_buffer program at.lawful variables (drop (suc i) items) (part_view item so_far)
          (subst (λ (place : Place). is_buffer place ≡ false) (sym all) other)
          (subst (IsLawfulPlace program variables) (sym all) is)) c.loop-part.invariant.0 slot most c.args.self.now
          (subst (λ (type : PasType). Does most kinds kinds (IsBehind program variables slot type)
          (place_at program most so_far) c.args.self.now c.loop-part.self (Ok c.loop-part.behind))
          c.loop-part.invariant.0 (c.loop-part.invariant.2 other variables result kinds at is most))),
    )

pub part_at-returns-in_err-behind-clause-does : goal.part_at-returns-in_err-behind-clause-does
part_at-returns-in_err-behind-clause-does g t c other variables result kinds at is most =
    let program = program_view c.args.scene.program.now in
    let place : Place = place_view c.args.place.now in
    let slot = c.args.place.now.slot in
    let first : Place = typed.slot (slot_view slot) in
    let items : List code_part.Part = c.as_slice-part-items.result.now in
    let i = c.loop-part.part-index in
    let so_far : Place = in_turn first (map part_view (take i items)) in
    let item : code_part.Part = c.part-item.result in
    let all : in_turn (part_view item so_far) (map part_view (drop (suc i) items)) ≡ place =
    turned_at first part_view items i item c.loop-part-test.true c.part-item.is
    ∙ ap (λ (parts : List code_part.Part). in_turn first (map part_view parts)) c.as_slice-part-items.ensures
    ∙ place_out c.args.place.now in
    does_early most kinds kinds (IsBehind program variables slot (type_of_place place)) (place_at program most place)
    c.args.self.now c.behind_part.new.self c.in_err-behind.field-0.0 c.from_residual.result
    (err_from_is_err_and _ c.from_residual.ensures.1)
    (does_stopped {T = CodeSpot} {U = ℕ} most kinds kinds (MeansSpot program variables (type_of_place place))
    (IsBehind program variables slot (type_of_place place)) (place_at program most place) c.args.self.now
    c.behind_part.new.self c.in_err-behind.field-0.0
    (all_stops program at.lawful variables most kinds c.args.self.now c.behind_part.new.self
    c.in_err-behind.field-0.0 (IsBehind program variables slot (type_of_place (part_view item so_far)))
    (drop (suc i) items) (part_view item so_far) place all other is
    (c.in_err-behind.ensures.does variables result kinds at so_far
    (before_lawful program at.lawful variables (drop (suc i) items) (part_view item so_far)
    (subst (IsLawfulPlace program variables) (sym all) is))
    (not_buffer program at.lawful variables (drop (suc i) items) (part_view item so_far)
    (subst (λ (place : Place). is_buffer place ≡ false) (sym all) other)
    (subst (IsLawfulPlace program variables) (sym all) is)) c.loop-part.invariant.0 slot most c.args.self.now
    (subst (λ (type : PasType). Does most kinds kinds (IsBehind program variables slot type)
    (place_at program most so_far) c.args.self.now c.loop-part.self (Ok c.loop-part.behind))
    c.loop-part.invariant.0 (c.loop-part.invariant.2 other variables result kinds at is most)))))

pub part_at-returns-clause-does : goal.part_at-returns-clause-does
part_at-returns-clause-does g t c other variables result kinds at is most =
    let program = program_view c.args.scene.program.now in
    let slot = c.args.place.now.slot in
    let first : Place = typed.slot (slot_view slot) in
    let items : List code_part.Part = c.as_slice-part-items.result.now in
    let i = c.loop-part.part-index in
    let so_far : Place = in_turn first (map part_view (take i items)) in
    subst (λ (place : Place). Does most kinds kinds (IsBehind program variables slot (type_of_place place))
    (place_at program most place) c.args.self.now c.loop-part.self (Ok c.loop-part.behind))
    (turned_all first part_view items i c.loop-part-test.false
    ∙ ap (λ (parts : List code_part.Part). in_turn first (map part_view parts)) c.as_slice-part-items.ensures
    ∙ place_out c.args.place.now)
    (c.loop-part.invariant.2 other variables result kinds at is most)

pub behind_part-returns-in-Element-clause-does : goal.behind_part-returns-in-Element-clause-does
behind_part-returns-in-Element-clause-does g t c =
    subst (λ (select : Place → Place). Selects c.args.scene select (type_view c.args.whole) c.args.behind
    c.args.self.now c.behind_elements.new.self c.behind_elements.result)
    (sym (ap part_view c.in-Element.is ∙ part_view-Element _ _ _))
    (c.behind_elements.ensures.does (type_view c.args.whole))

pub behind_part-returns-in-Buffer-clause-does : goal.behind_part-returns-in-Buffer-clause-does
behind_part-returns-in-Buffer-clause-does g t c variables result kinds at place is other same slot most first does =
    absurd (no_buffer place (type_view c.in-Buffer.field-0)
    (subst (λ (select : Place → Place). is_buffer (select place) ≡ false)
    (ap part_view c.in-Buffer.is ∙ part_view-Buffer _) other))

pub behind_part-returns-in-Field-clause-does : goal.behind_part-returns-in-Field-clause-does
behind_part-returns-in-Field-clause-does g t c =
    let program = program_view c.args.scene.program.now in
    subst (λ (select : Place → Place). Selects c.args.scene select (type_view c.args.whole) c.args.behind
    c.args.self.now c.args.self.now c.behind_fields.result)
    (sym (ap part_view c.in-Field.is ∙ part_view-Field _ _))
    (λ variables result kinds at place is other same slot most first does.
    does_field most kinds program at.lawful variables slot place first c.args.self.now c.args.behind
    (subst (λ (type : PasType). Does most kinds kinds (IsBehind program variables slot type)
    (place_at program most place) first c.args.self.now (Ok c.args.behind)) (sym same) does) c.in-Field.number
    (type_view c.in-Field.field-1) c.behind_fields.result is
    (λ fields are. c.behind_fields.ensures.cells fields
    (ap (fields_of program.types) (sym same) ∙ are)))

pub behind_part-returns-in-Field-clause-cause : goal.behind_part-returns-in-Field-clause-cause
behind_part-returns-in-Field-clause-cause g t c =
    subst (λ failed. CountFailures failed c.args.self.now.files c.args.self.now.files)
    (sym c.behind_fields.ensures.quiet) refl

pub behind_elements-returns-in_err-found-clause-does : goal.behind_elements-returns-in_err-found-clause-does
behind_elements-returns-in_err-found-clause-does g t c of_whole variables result kinds at place is other same slot
    most first
    does =
    let program = program_view c.args.scene.program.now in
    let range = range_view c.args.range in
    let type = type_view c.args.of_element in
    let index = value_view c.args.index.now in
    does_early most kinds kinds (IsBehind program variables slot type)
    (place_at program most (typed.element place range type index)) first c.number.new.self
    c.in_err-found.field-0.0 c.from_residual.result (err_from_is_err_and _ c.from_residual.ensures.1)
    (does_no_index most kinds program at.lawful variables slot place first c.args.self.now c.args.behind
    (subst (λ (type : PasType). Does most kinds kinds (IsBehind program variables slot type)
    (place_at program most place) first c.args.self.now (Ok c.args.behind)) (sym same) does)
    range type index is c.number.new.self c.in_err-found.field-0.0
    (c.in_err-found.ensures.does variables result kinds at (is.1, is.3) most))

pub behind_elements-returns-in_err-number-clause-does : goal.behind_elements-returns-in_err-number-clause-does
behind_elements-returns-in_err-number-clause-does g t c of_whole variables result kinds at place is other same slot
    most first
    does =
    let program = program_view c.args.scene.program.now in
    let range = range_view c.args.range in
    let type = type_view c.args.of_element in
    let index = value_view c.args.index.now in
    let found : to_z w32 (of_z w32 c.in_ok-found.found) ≡ c.in_ok-found.found = search rules in
    does_early most kinds kinds (IsBehind program variables slot type)
    (place_at program most (typed.element place range type index)) first c.number.new.self
    c.in_err-number.field-0.0 c.from_residual-in_err-number.result
    (err_from_is_err_and _ c.from_residual-in_err-number.ensures.1)
    (does_no_element most kinds program at.lawful variables slot place first c.args.self.now c.args.behind
    (subst (λ (type : PasType). Does most kinds kinds (IsBehind program variables slot type)
    (place_at program most place) first c.args.self.now (Ok c.args.behind)) (sym same) does)
    range type index is c.number.new.self c.in_ok-found.found
    (c.in_ok-found.ensures.does variables result kinds at (is.1, is.3) most) c.in_err-number.field-0.0
    (subst (λ number. IsElement (element range (holds number)) (Err c.in_err-number.field-0.0)) found
    c.in_err-number.ensures.number))

pub behind_elements-returns-clause-does : goal.behind_elements-returns-clause-does
behind_elements-returns-clause-does g t c of_whole variables result kinds at place is other same slot most first does =
    let program = program_view c.args.scene.program.now in
    let range = range_view c.args.range in
    let type = type_view c.args.of_element in
    let index = value_view c.args.index.now in
    let found : to_z w32 (of_z w32 c.in_ok-found.found) ≡ c.in_ok-found.found = search rules in
    does_element most kinds program at.lawful variables slot place first c.args.self.now c.args.behind
    (subst (λ (type : PasType). Does most kinds kinds (IsBehind program variables slot type)
    (place_at program most place) first c.args.self.now (Ok c.args.behind)) (sym same) does)
    range type index is c.number.new.self c.in_ok-found.found
    (c.in_ok-found.ensures.does variables result kinds at (is.1, is.3) most) c.in_ok-number.number
    c.behind_cells.result
    (subst (λ number. IsElement (element range (holds number)) (Ok c.in_ok-number.number)) found
    c.in_ok-number.ensures.number)
    (c.behind_cells.ensures.count (cells_of program.types type * c.in_ok-number.number)
    (counted-product (cells_of program.types type) c.in_ok-number.number c.cells_of-each.result c.from.result
    c.saturating_mul.result (c.cells_of-each.ensures c.args.scene.program.now.spellings) c.from.ensures c.from.type_inv
    c.saturating_mul.ensures))

-- whole variables

pub copy_of-returns-in-Parenthesized-clause-does : goal.copy_of-returns-in-Parenthesized-clause-does
copy_of-returns-in-Parenthesized-clause-does g t c =
    subst (λ (found : Value). Copies c.args.scene found c.args.self.now c.copy_of.new.self c.copy_of.result)
    (sym (ap value_view c.in-Parenthesized.is ∙ value_view-Parenthesized _
    ∙ ap (λ (one : code_value.Value). typed.parenthesized (value_view one)) (sym c.get.ensures)))
    c.copy_of.ensures.does

pub copy_of-returns-in-Read-clause-does : goal.copy_of-returns-in-Read-clause-does
copy_of-returns-in-Read-clause-does g t c =
    subst (λ (found : Value). Copies c.args.scene found c.args.self.now c.copy_of_place.new.self
    c.copy_of_place.result)
    (sym (ap value_view c.in-Read.is ∙ value_view-Read _ ∙ ap (λ (place : code_place.Place). typed.read (place_view
    place)) (sym c.get-in-Read.ensures)))
    c.copy_of_place.ensures.does

pub copy_of_place-returns-in_err-behind-clause-does : goal.copy_of_place-returns-in_err-behind-clause-does
copy_of_place-returns-in_err-behind-clause-does g t c variables result kinds at is most =
    let program = program_view c.args.scene.program.now in
    let place = place_view c.args.place.now in
    does_early most kinds kinds (AreCells program.types (type_of_place place))
    (value_of program most (typed.read place)) c.args.self.now
    c.part_at.new.self c.in_err-behind.field-0.0 c.from_residual.result
    (err_from_is_err_and _ c.from_residual.ensures.1)
    (copy_stop most kinds program variables place c.args.place.now.slot c.args.self.now c.part_at.new.self
    c.in_err-behind.field-0.0
    (c.in_err-behind.ensures.does (whole_no_buffer program variables place at.lawful is.0 is.1) variables result kinds
    at is.0 most))

pub copy_of_place-returns-clause-does : goal.copy_of_place-returns-clause-does
copy_of_place-returns-clause-does g t c variables result kinds at is most =
    let program = program_view c.args.scene.program.now in
    let place = place_view c.args.place.now in
    let slot = c.args.place.now.slot in
    copy_next most kinds program variables place slot c.args.self.now c.part_at.new.self c.in_ok-behind.behind
    c.copy_part.result is.1
    (c.in_ok-behind.ensures.does (whole_no_buffer program variables place at.lawful is.0 is.1) variables result kinds
    at is.0 most)
    (λ spot spot_is ports run stands.
    subst (λ (type : PasType). IsBehind program variables slot type c.in_ok-behind.behind spot
    → IsFound (λ found. AreCells program.types type found (held_at spot run.store)) c.copy_part.result)
    (sym c.pas_type.ensures)
    (λ spot_is. c.copy_part.ensures.found variables result kinds at spot spot_is ports run stands) spot_is)

-- arguments

pub number_argument-returns-in_err-found-clause-does : goal.number_argument-returns-in_err-found-clause-does
number_argument-returns-in_err-found-clause-does g t c ordinal variables result kinds at parameter is most =
    let program = program_view c.args.scene.program.now in
    let type = type_view c.args.pas_type in
    let value = value_view c.args.value.now in
    does_early most kinds kinds (IsOneGiven program variables parameter)
    (arguments_of program most (typed.value type value typed.nothing)) c.args.self.now c.number.new.self
    c.in_err-found.field-0.0 c.from_residual.result (err_from_is_err_and _ c.from_residual.ensures.1)
    (value_stop program variables most kinds c.args.self.now parameter type value {T = ℤ} IsNumber c.number.new.self
    c.in_err-found.field-0.0
    (operand_stop {T = ℤ} most kinds IsNumber (fits program.types type) (value_of program most value) c.args.self.now
    c.number.new.self c.in_err-found.field-0.0
    (c.in_err-found.ensures.does variables result kinds at
    (number_lawful program variables type value parameter ordinal is) most)))

pub number_argument-returns-in_err-number-clause-does : goal.number_argument-returns-in_err-number-clause-does
number_argument-returns-in_err-number-clause-does g t c ordinal variables result kinds at parameter is most =
    let program = program_view c.args.scene.program.now in
    let type = type_view c.args.pas_type in
    let value = value_view c.args.value.now in
    let found : to_z w32 (of_z w32 c.in_ok-found.found) ≡ c.in_ok-found.found = search rules in
    does_early most kinds kinds (IsOneGiven program variables parameter)
    (arguments_of program most (typed.value type value typed.nothing)) c.args.self.now c.number.new.self
    c.in_err-number.field-0.0 c.from_residual-in_err-number.result
    (err_from_is_err_and _ c.from_residual-in_err-number.ensures.1)
    (value_stop program variables most kinds c.args.self.now parameter type value {T = ℤ} IsNumber c.number.new.self
    c.in_err-number.field-0.0
    (operand_next {T = ℤ} most kinds IsNumber (fits program.types type) (value_of program most value) c.args.self.now
    c.number.new.self c.in_ok-found.found (Err c.in_err-number.field-0.0) (goes_value_of program most value)
    (c.in_ok-found.ensures.does variables result kinds at
    (number_lawful program variables type value parameter ordinal is) most)
    (subst (λ (number : ℤ). Answers {T = ℤ} IsNumber (fits program.types type (holds number))
    (Err c.in_err-number.field-0.0)) found c.in_err-number.ensures.number)))

pub number_argument-returns-clause-does : goal.number_argument-returns-clause-does
number_argument-returns-clause-does g t c ordinal variables result kinds at parameter is most =
    let program = program_view c.args.scene.program.now in
    let type = type_view c.args.pas_type in
    let value = value_view c.args.value.now in
    let number : to_z w32 (of_z w32 c.in_ok-number.number) ≡ c.in_ok-number.number = search rules in
    let found : to_z w32 (of_z w32 c.in_ok-found.found) ≡ c.in_ok-found.found = search rules in
    value_next program variables most kinds c.args.self.now parameter type value IsNumber c.number.new.self
    c.in_ok-number.number _
    (operand_next {T = ℤ} most kinds IsNumber (fits program.types type) (value_of program most value) c.args.self.now
    c.number.new.self c.in_ok-found.found (Ok c.in_ok-number.number) (goes_value_of program most value)
    (c.in_ok-found.ensures.does variables result kinds at
    (number_lawful program variables type value parameter ordinal is) most)
    (subst (λ (number : ℤ). Answers {T = ℤ} IsNumber (fits program.types type (holds number))
    (Ok c.in_ok-number.number)) found c.in_ok-number.ensures.number))
    (λ datum datum_is. (is.0, subst (IsOrdinal program.types) (sym is.1) ordinal, datum_is ∙ ap holds (sym number)))

pub whole_argument-returns-in_err-copied-clause-does : goal.whole_argument-returns-in_err-copied-clause-does
whole_argument-returns-in_err-copied-clause-does g t c is_whole variables result kinds at parameter is most =
    let program = program_view c.args.scene.program.now in
    let type = type_view c.args.pas_type in
    let value = value_view c.args.value.now in
    does_early most kinds kinds (IsOneGiven program variables parameter)
    (arguments_of program most (typed.value type value typed.nothing)) c.args.self.now c.copy_of.new.self
    c.in_err-copied.field-0.0 c.from_residual.result (err_from_is_err_and _ c.from_residual.ensures.1)
    (whole_stop program variables most kinds c.args.self.now parameter type value c.copy_of.new.self
    c.in_err-copied.field-0.0
    (c.in_err-copied.ensures.does variables result kinds at
    (is.2, whole_source program.types type is_whole (type_of value) is.3) most))

pub whole_argument-returns-clause-does : goal.whole_argument-returns-clause-does
whole_argument-returns-clause-does g t c is_whole variables result kinds at parameter is most =
    let program = program_view c.args.scene.program.now in
    let type = type_view c.args.pas_type in
    let value = value_view c.args.value.now in
    value_next program variables most kinds c.args.self.now parameter type value (AreCells program.types type)
    c.copy_of.new.self c.in_ok-copied.copied _
    (whole_next program variables most kinds c.args.self.now parameter type value c.copy_of.new.self
    c.in_ok-copied.copied is_whole is.3
    (c.in_ok-copied.ensures.does variables result kinds at
    (is.2, whole_source program.types type is_whole (type_of value) is.3) most))
    (λ datum datum_is. (
      is.0,
      subst (λ (type : PasType). AreCells program.types type c.in_ok-copied.copied datum) (sym is.1) datum_is,
    ))

pub place_argument-returns-in_err-behind-clause-does : goal.place_argument-returns-in_err-behind-clause-does
place_argument-returns-in_err-behind-clause-does g t c variables result kinds at parameter is most =
    let program = program_view c.args.scene.program.now in
    let place = place_view c.args.place.now in
    does_early most kinds kinds (IsOneGiven program variables parameter)
    (arguments_of program most (typed.reference place typed.nothing)) c.args.self.now c.part_at.new.self
    c.in_err-behind.field-0.0 c.from_residual.result (err_from_is_err_and _ c.from_residual.ensures.1)
    (place_stop program variables most kinds c.args.self.now parameter place c.args.place.now.slot c.part_at.new.self
    c.in_err-behind.field-0.0 (c.in_err-behind.ensures.does is.3 variables result kinds at is.2 most))

pub place_argument-returns-clause-does : goal.place_argument-returns-clause-does
place_argument-returns-clause-does g t c variables result kinds at parameter is most =
    place_next (program_view c.args.scene.program.now) variables most kinds c.args.self.now parameter
    (place_view c.args.place.now) c.args.place.now.slot c.part_at.new.self c.in_ok-behind.behind is
    (c.in_ok-behind.ensures.does is.3 variables result kinds at is.2 most)

pub value_argument-returns-then-is_some-clause-does : goal.value_argument-returns-then-is_some-clause-does
value_argument-returns-then-is_some-clause-does g t c =
    c.number_argument.ensures.does
    (subst IsSome (sym (c.range_of.ensures c.args.scene.program.now.spellings))
    (some_view range_view c.range_of.result (sym c.is_some.ensures ∙ c.if-is_some.true)))

pub value_argument-returns-else-is_some-clause-does : goal.value_argument-returns-else-is_some-clause-does
value_argument-returns-else-is_some-clause-does g t c =
    c.whole_argument.ensures.does
    (c.range_of.ensures c.args.scene.program.now.spellings
    ∙ none_view range_view c.range_of.result (sym c.is_some.ensures ∙ c.if-is_some.false))

pub argument-returns-in-Value-clause-does : goal.argument-returns-in-Value-clause-does
argument-returns-in-Value-clause-does g t c =
    subst (λ (passed : Passed → Passed). PassesOne c.args.scene passed c.args.self.now c.value_argument.new.self
    c.value_argument.result)
    (sym (ap passed_view c.in-Value.is ∙ passed_view-Value _ _))
    c.value_argument.ensures.does

pub argument-returns-in-Reference-clause-does : goal.argument-returns-in-Reference-clause-does
argument-returns-in-Reference-clause-does g t c =
    subst (λ (passed : Passed → Passed). PassesOne c.args.scene passed c.args.self.now c.place_argument.new.self
    c.place_argument.result)
    (sym (ap passed_view c.in-Reference.is ∙ passed_view-Reference _))
    c.place_argument.ensures.does

pub arguments-loop-one-init : goal.arguments-loop-one-init
arguments-loop-one-init g t c = (
  refl,
  λ variables result kinds at parameters are most.
      subst (λ (founds : List CodeArgument). Does most kinds kinds
      (AreGiven (program_view c.args.scene.program.now) variables [])
      (arguments_of (program_view c.args.scene.program.now) most (passed_views [])) c.args.self.now c.args.self.now
      (Ok founds)) (sym c.new-arguments.ensures)
      (none_given (program_view c.args.scene.program.now) variables most kinds c.args.self.now),
)

pub arguments-loop-one-preserved : goal.arguments-loop-one-preserved
arguments-loop-one-preserved g t c =
    let items = c.as_slice-one-items.result.now in
    let i = c.loop-one.one-index in
    let item = c.one-item.result in (
      c.in_ok-argument.ensures.cause ∙ c.loop-one.invariant.0,
      λ variables result kinds at parameters are most.
          let program = program_view c.args.scene.program.now in
          let found = passed_at program variables items i item parameters c.loop-one-test.true c.one-item.is
          (subst (λ (passed : List code_passed.Passed). ArePassed program variables (passed_views passed) parameters)
          (sym c.as_slice-one-items.ensures) are) in
          subst₂ (λ (parameters : List Variable) (passed : List code_passed.Passed).
          Does most kinds kinds (AreGiven program variables parameters)
          (arguments_of program most (passed_views passed)) c.args.self.now c.argument.new.self (Ok c.push.new.self))
          (sym found.more)
          (sym (more_at items i item c.loop-one-test.true c.one-item.is))
          (subst (λ (founds : List CodeArgument). Does most kinds kinds
          (AreGiven program variables (take i parameters ++ found.parameter ∷ []))
          (arguments_of program most (passed_views (take i items ++ item ∷ [])))
          c.args.self.now c.argument.new.self (Ok founds)) (sym c.in_ok-push.ensures.ok)
          (more_given program variables most kinds (take i items) item (take i parameters) found.parameter
          c.loop-one.arguments c.args.self.now c.loop-one.self
          (c.loop-one.invariant.1 variables result kinds at parameters are most) c.argument.new.self
          c.in_ok-argument.argument
          (c.in_ok-argument.ensures.does variables result kinds at found.parameter found.passed most))),
    )

pub arguments-returns-in_err-argument-clause-does : goal.arguments-returns-in_err-argument-clause-does
arguments-returns-in_err-argument-clause-does g t c variables result kinds at parameters are most =
    let program = program_view c.args.scene.program.now in
    let items = c.as_slice-one-items.result.now in
    let i = c.loop-one.one-index in
    let item = c.one-item.result in
    let found = passed_at program variables items i item parameters c.loop-one-test.true c.one-item.is
    (subst (λ (passed : List code_passed.Passed). ArePassed program variables (passed_views passed) parameters)
    (sym c.as_slice-one-items.ensures) are) in
    does_early most kinds kinds (AreGiven program variables parameters)
    (arguments_of program most (passed_views c.args.passed.now)) c.args.self.now
    c.argument.new.self c.in_err-argument.field-0.0 c.from_residual.result
    (err_from_is_err_and _ c.from_residual.ensures.1)
    (subst (λ (passed : List code_passed.Passed). Does {T = List CodeArgument} most kinds kinds
    (AreGiven program variables parameters) (arguments_of program most (passed_views passed)) c.args.self.now
    c.argument.new.self (Err c.in_err-argument.field-0.0))
    (parts_at items i item c.loop-one-test.true c.one-item.is ∙ c.as_slice-one-items.ensures)
    (one_stops program variables most kinds (take i items) item (take i parameters) found.parameter
    c.loop-one.arguments c.args.self.now c.loop-one.self
    (c.loop-one.invariant.1 variables result kinds at parameters are most) (drop (suc i) items) parameters
    c.argument.new.self c.in_err-argument.field-0.0
    (c.in_err-argument.ensures.does variables result kinds at found.parameter found.passed most)))

pub arguments-returns-clause-does : goal.arguments-returns-clause-does
arguments-returns-clause-does g t c variables result kinds at parameters are most =
    let program = program_view c.args.scene.program.now in
    let items = c.as_slice-one-items.result.now in
    let i = c.loop-one.one-index in
    let long = passed_long program variables c.args.passed.now parameters are in
    subst₂ (λ (parameters : List Variable) (passed : List code_passed.Passed).
    Does most kinds kinds (AreGiven program variables parameters) (arguments_of program most (passed_views passed))
    c.args.self.now c.loop-one.self (Ok c.loop-one.arguments))
    (take_all i parameters (omega (arith, long, c.loop-one-test.false, ap length c.as_slice-one-items.ensures)))
    (take_all i items c.loop-one-test.false ∙ c.as_slice-one-items.ensures)
    (c.loop-one.invariant.1 variables result kinds at parameters are most)

-- calls

pub function_result-returns-in_err-arguments-clause-does : goal.function_result-returns-in_err-arguments-clause-does
function_result-returns-in_err-arguments-clause-does g t c =
    let call = out-Call c.args.call.now in
    let type = type_view call.pas_type in
    let passed = passed_views call.passed in
    subst (λ (found : Value). Evaluates c.args.scene found c.args.self.now c.arguments.new.self c.from_residual.result)
    (sym (call_is c.args.call.now))
    (λ variables result kinds at is most.
    let program = program_view c.args.scene.program.now in
    does_early most kinds kinds IsNumber (value_of program most (typed.call call.routine type passed)) c.args.self.now
    c.arguments.new.self c.in_err-arguments.field-0.0 c.from_residual.result
    (err_from_is_err_and _ c.from_residual.ensures.1)
    (function_no_arguments program most variables kinds call.routine is.0.0 passed c.args.self.now type
    c.arguments.new.self c.in_err-arguments.field-0.0
    (c.in_err-arguments.ensures.does variables result kinds at is.0.0.parameters is.0.3 most)))

pub function_result-returns-in_err-cell-clause-does : goal.function_result-returns-in_err-cell-clause-does
function_result-returns-in_err-cell-clause-does g t c =
    let call = out-Call c.args.call.now in
    let type = type_view call.pas_type in
    let passed = passed_views call.passed in
    subst (λ (found : Value). Evaluates c.args.scene found c.args.self.now c.call.new.self
    c.from_residual-in_err-cell.result) (sym (call_is c.args.call.now))
    (λ variables result kinds at is most.
    let program = program_view c.args.scene.program.now in
    does_early most kinds kinds IsNumber (value_of program most (typed.call call.routine type passed)) c.args.self.now
    c.call.new.self c.in_err-cell.field-0.0 c.from_residual-in_err-cell.result
    (err_from_is_err_and _ c.from_residual-in_err-cell.ensures.1)
    (function_stopped program most variables kinds call.routine is.0.0 passed c.args.self.now c.arguments.new.self
    c.in_ok-arguments.arguments
    (c.in_ok-arguments.ensures.does variables result kinds at is.0.0.parameters is.0.3 most) type c.call.new.self
    c.in_err-cell.field-0.0
    (λ values are. c.in_err-cell.ensures.does variables result kinds at is.0.0 is.0.1 values are most)))

pub function_result-returns-clause-does : goal.function_result-returns-clause-does
function_result-returns-clause-does g t c =
    let call = out-Call c.args.call.now in
    let type = type_view call.pas_type in
    let passed = passed_views call.passed in
    subst (λ (found : Value). Evaluates c.args.scene found c.args.self.now c.call.new.self c.result_in.result)
    (sym (call_is c.args.call.now))
    (λ variables result kinds at is most.
    function_answers (program_view c.args.scene.program.now) most variables kinds call.routine is.0.0 passed
    c.args.self.now c.arguments.new.self c.in_ok-arguments.arguments
    (c.in_ok-arguments.ensures.does variables result kinds at is.0.0.parameters is.0.3 most) type c.call.new.self
    c.in_ok-cell.cell c.result_in.result (ap is_some is.0.2)
    (λ values are. c.in_ok-cell.ensures.does variables result kinds at is.0.0 is.0.1 values are most)
    c.result_in.ensures.number)

-- statements

pub store-returns-in_err-spot-clause-does : goal.store-returns-in_err-spot-clause-does
store-returns-in_err-spot-clause-does g t c variables result kinds at is most =
    let program = program_view c.args.scene.program.now in
    let place : Place = place_view c.args.place.now in
    does_early most kinds kinds Any (assigned_to program most place (holds c.args.number)) c.args.self.now
    c.spot_at.new.self c.in_err-spot.field-0.0 c.from_residual.result
    (err_from_is_err_and _ c.from_residual.ensures.1)
    (store_stop program most kinds c.args.self.now variables place c.args.number c.spot_at.new.self
    c.in_err-spot.field-0.0
    (c.in_err-spot.ensures.does variables result kinds at is.0 most))

pub store-returns-clause-does : goal.store-returns-clause-does
store-returns-clause-does g t c variables result kinds at is most =
    let program = program_view c.args.scene.program.now in
    let place : Place = place_view c.args.place.now in
    let number : to_z w32 (of_z w32 c.args.number) ≡ c.args.number = to_z-of_z c.ranges.number in
    store_next program most kinds c.args.self.now variables place c.args.number c.spot_at.new.self c.store_at.new.self
    c.in_ok-spot.spot c.store_at.result is.1 (c.in_ok-spot.ensures.does variables result kinds at is.0 most)
    (λ spot spot_is. subst (λ (number : ℤ). Does most kinds kinds Any
    (store_at program.types (type_of_place place) spot (holds number)) c.spot_at.new.self c.store_at.new.self
    c.store_at.result) number
    (subst (λ (type : PasType). IsSpot program variables type c.in_ok-spot.spot spot
    → Does most kinds kinds Any (store_at program.types type spot (holds (to_z w32 (of_z w32 c.args.number))))
    c.spot_at.new.self c.store_at.new.self c.store_at.result) (sym c.pas_type.ensures)
    (λ spot_is. c.store_at.ensures.does variables result kinds at spot spot_is most) spot_is))

pub assign-returns-in-Some-clause-does : goal.assign-returns-in-Some-clause-does
assign-returns-in-Some-clause-does g t c variables result kinds at is most =
    let program = program_view c.args.scene.program.now in
    let place : Place = place_view c.args.place.now in
    let ordinal : IsOrdinal program.types (type_of_place place) =
    subst (λ (range : Option Range). IsSome range)
    (sym (ap (range_of program.types) c.pas_type.ensures ∙ c.range_of.ensures c.args.scene.program.now.spellings
    ∙ ap (option_map range_view) c.in-Some.is)) refl in
    c.assign_number.ensures.does variables result kinds at
    (takes_number program variables place (value_view c.args.right.now) ordinal is.0 is.1 is.2) most

pub assign-returns-in-None-clause-does : goal.assign-returns-in-None-clause-does
assign-returns-in-None-clause-does g t c variables result kinds at is most =
    let program = program_view c.args.scene.program.now in
    c.assign_whole.ensures.does
    (ap (range_of program.types) c.pas_type.ensures ∙ c.range_of.ensures c.args.scene.program.now.spellings
    ∙ ap (option_map range_view) c.in-None.is) variables result kinds at is most

pub assign_number-returns-in_err-number-clause-does : goal.assign_number-returns-in_err-number-clause-does
assign_number-returns-in_err-number-clause-does g t c variables result kinds at is most =
    let program = program_view c.args.scene.program.now in
    let place : Place = place_view c.args.place.now in
    let right = value_view c.args.right.now in
    does_early most kinds kinds Any (value_of program most right >>= assigned_to program most place) c.args.self.now
    c.number.new.self c.in_err-number.field-0.0 c.from_residual.result
    (err_from_is_err_and _ c.from_residual.ensures.1)
    (assign_stop program most kinds c.args.self.now place right c.number.new.self c.in_err-number.field-0.0
    (c.in_err-number.ensures.does variables result kinds at is.1 most))

pub assign_number-returns-clause-does : goal.assign_number-returns-clause-does
assign_number-returns-clause-does g t c variables result kinds at is most =
    let program = program_view c.args.scene.program.now in
    let place : Place = place_view c.args.place.now in
    let right = value_view c.args.right.now in
    let number : to_z w32 (of_z w32 c.in_ok-number.number) ≡ c.in_ok-number.number = search rules in
    assign_next program most kinds c.args.self.now place right c.number.new.self c.store.new.self c.in_ok-number.number
    c.store.result (c.in_ok-number.ensures.does variables result kinds at is.1 most)
    (subst (λ (number : ℤ). Does most kinds kinds Any (assigned_to program most place (holds number))
    c.number.new.self c.store.new.self c.store.result) number
    (c.store.ensures.does variables result kinds at is.0 most))

pub set_result-returns-in_err-found-clause-does : goal.set_result-returns-in_err-found-clause-does
set_result-returns-in_err-found-clause-does g t c cell variables result kinds at is most =
    let program = program_view c.args.scene.program.now in
    let type = type_view c.args.pas_type in
    let right = value_view c.args.right.now in
    does_early most kinds kinds Any (operand (fits program.types type) (value_of program most right) >>=
    (λ datum. change (with_result cell datum))) c.args.self.now c.number.new.self c.in_err-found.field-0.0
    c.from_residual.result
    (err_from_is_err_and _ c.from_residual.ensures.1)
    (result_stop program most kinds c.args.self.now type right (with_result cell) c.number.new.self
    c.in_err-found.field-0.0
    (c.in_err-found.ensures.does variables result kinds at is.2 most))

pub set_result-returns-in_err-checked-clause-does : goal.set_result-returns-in_err-checked-clause-does
set_result-returns-in_err-checked-clause-does g t c cell variables result kinds at is most =
    let program = program_view c.args.scene.program.now in
    let type = type_view c.args.pas_type in
    let right = value_view c.args.right.now in
    let found : to_z w32 (of_z w32 c.in_ok-found.found) ≡ c.in_ok-found.found = search rules in
    does_early most kinds kinds Any (operand (fits program.types type) (value_of program most right) >>=
    (λ datum. change (with_result cell datum))) c.args.self.now c.number.new.self c.in_err-checked.field-0.0
    c.from_residual-in_err-checked.result
    (err_from_is_err_and _ c.from_residual-in_err-checked.ensures.1)
    (result_wrong program most kinds c.args.self.now type right (with_result cell) c.number.new.self c.in_ok-found.found
    c.in_err-checked.field-0.0 (c.in_ok-found.ensures.does variables result kinds at is.2 most)
    (subst (λ number. Answers {T = ℤ} IsNumber (fits program.types type (holds number))
    (Err c.in_err-checked.field-0.0))
    found c.in_err-checked.ensures.number))

pub set_result-returns-clause-does : goal.set_result-returns-clause-does
set_result-returns-clause-does g t c cell variables result kinds at is most =
    let program = program_view c.args.scene.program.now in
    let type = type_view c.args.pas_type in
    let right = value_view c.args.right.now in
    let found : to_z w32 (of_z w32 c.in_ok-found.found) ≡ c.in_ok-found.found = search rules in
    let checked : to_z w32 (of_z w32 c.in_ok-checked.checked) ≡ c.in_ok-checked.checked = search rules in
    result_next program most kinds c.args.self.now type right (with_result cell) c.number.new.self
    c.set_result_cell.new.self c.in_ok-found.found c.in_ok-checked.checked
    (c.in_ok-found.ensures.does variables result kinds at is.2 most)
    (subst (λ number. Answers IsNumber (fits program.types type (holds number)) (Ok c.in_ok-checked.checked)) found
    c.in_ok-checked.ensures.number)
    (subst (λ (cell : ℕ). Does most kinds kinds Any (change (with_result cell (holds c.in_ok-checked.checked)))
    c.number.new.self c.set_result_cell.new.self (Ok (tt {0}))) (sym is.0)
    (c.set_result_cell.ensures.does variables result kinds at type is.1 most (holds c.in_ok-checked.checked) tt
    (ap Some (sym checked))))

pub halt-returns-in_err-found-clause-does : goal.halt-returns-in_err-found-clause-does
halt-returns-in_err-found-clause-does g t c variables result kinds at is most =
    let program = program_view c.args.scene.program.now in
    let status = value_view c.args.status.now in
    does_early most kinds kinds IsFlow (statement_of program most meaning.start (typed.halts status)) c.args.self.now
    c.number.new.self c.in_err-found.field-0.0 c.from_residual.result
    (err_from_is_err_and _ c.from_residual.ensures.1)
    (halts_stop program most kinds c.args.self.now status c.number.new.self c.in_err-found.field-0.0
    (c.in_err-found.ensures.does variables result kinds at is most))

pub halt-returns-in_err-status-clause-does : goal.halt-returns-in_err-status-clause-does
halt-returns-in_err-status-clause-does g t c variables result kinds at is most =
    let program = program_view c.args.scene.program.now in
    let status = value_view c.args.status.now in
    let found : to_z w32 (of_z w32 c.in_ok-found.found) ≡ c.in_ok-found.found = search rules in
    does_early most kinds kinds IsFlow (statement_of program most meaning.start (typed.halts status)) c.args.self.now
    c.number.new.self c.in_err-status.field-0.0 c.from_residual-in_err-status.result
    (err_from_is_err_and _ c.from_residual-in_err-status.ensures.1)
    (halts_wrong program most kinds c.args.self.now status c.number.new.self c.in_ok-found.found
    c.in_err-status.field-0.0
    (c.in_ok-found.ensures.does variables result kinds at is most)
    (subst (λ number. Answers {T = ℕ} Same (byte_of STATUS_OUT_OF_RANGE (holds number)) (Err c.in_err-status.field-0.0))
    found c.in_err-status.ensures))

pub halt-returns-in_err-status-clause-cause : goal.halt-returns-in_err-status-clause-cause
halt-returns-in_err-status-clause-cause g t c =
    counts_on (is_port_failed c.from_residual-in_err-status.result) c.args.self.now.files c.number.new.self.files
    c.number.new.self.files c.in_ok-found.ensures.cause
    (quiet_early c.number.new.self.files c.in_err-status.field-0.0 c.from_residual-in_err-status.result
    (err_from_is_err_and _ c.from_residual-in_err-status.ensures.1)
    (quiet_answer {T = ℕ} Same _ c.in_err-status.field-0.0 c.in_err-status.ensures))

pub halt-returns-clause-does : goal.halt-returns-clause-does
halt-returns-clause-does g t c variables result kinds at is most =
    let program = program_view c.args.scene.program.now in
    let status = value_view c.args.status.now in
    let found : to_z w32 (of_z w32 c.in_ok-found.found) ≡ c.in_ok-found.found = search rules in
    halts_next program most kinds c.args.self.now status c.number.new.self c.in_ok-found.found c.in_ok-status.status
    (c.in_ok-found.ensures.does variables result kinds at is most)
    (subst (λ number. Answers Same (byte_of STATUS_OUT_OF_RANGE (holds number)) (Ok c.in_ok-status.status)) found
    c.in_ok-status.ensures)

pub branch-returns-in_err-holds-clause-does : goal.branch-returns-in_err-holds-clause-does
branch-returns-in_err-holds-clause-does g t c variables result kinds at is most =
    let program = program_view c.args.scene.program.now in
    let test = value_view c.args.test.now in
    let first : Statement = statement_view c.args.scene.program.now.spellings c.args.first.now in
    does_early most kinds kinds IsFlow (statement_of program most meaning.start (typed.if_then test first))
    c.args.self.now c.truth.new.self c.in_err-holds.field-0.0 c.from_residual.result
    (err_from_is_err_and _ c.from_residual.ensures.1)
    (found_stop {T = CodeFlow} most kinds IsFlow (operand truth_of (value_of program most test))
    (λ (found : Bool). if found then statement_of program most meaning.start first else pure meaning.next)
    c.args.self.now
    c.truth.new.self c.in_err-holds.field-0.0 (λ (found : Bool). goes_if found
    (goes_of program most meaning.start first) (goes_pure meaning.next))
    (c.in_err-holds.ensures.does variables result kinds at is.0 most))

pub branch-returns-then-holds-clause-does : goal.branch-returns-then-holds-clause-does
branch-returns-then-holds-clause-does g t c variables result kinds at is most =
    let program = program_view c.args.scene.program.now in
    let test = value_view c.args.test.now in
    let first : Statement = statement_view c.args.scene.program.now.spellings c.args.first.now in
    found_next most kinds IsFlow (operand truth_of (value_of program most test))
    (λ (found : Bool). if found then statement_of program most meaning.start first else pure meaning.next)
    c.args.self.now
    c.truth.new.self c.statement.new.self true c.statement.result
    (goes_operand_alone truth_of (goes_value_of program most test))
    (subst (λ (found : Bool). Does most kinds kinds Same (operand truth_of (value_of program most test))
    c.args.self.now c.truth.new.self (Ok found)) c.if-holds.true
    (c.in_ok-holds.ensures.does variables result kinds at is.0 most))
    (c.statement.ensures.does variables result kinds at is.1 most)

pub branch-returns-else-holds-clause-does : goal.branch-returns-else-holds-clause-does
branch-returns-else-holds-clause-does g t c variables result kinds at is most =
    let program = program_view c.args.scene.program.now in
    let test = value_view c.args.test.now in
    let first : Statement = statement_view c.args.scene.program.now.spellings c.args.first.now in
    found_next most kinds IsFlow (operand truth_of (value_of program most test))
    (λ (found : Bool). if found then statement_of program most meaning.start first else pure meaning.next)
    c.args.self.now
    c.truth.new.self c.truth.new.self false (Ok flow.Next)
    (goes_operand_alone truth_of (goes_value_of program most test))
    (subst (λ (found : Bool). Does most kinds kinds Same (operand truth_of (value_of program most test))
    c.args.self.now c.truth.new.self (Ok found)) c.if-holds.false
    (c.in_ok-holds.ensures.does variables result kinds at is.0 most))
    (does_pure most kinds IsFlow flow.Next meaning.next c.truth.new.self refl)

pub choice-returns-in_err-holds-clause-does : goal.choice-returns-in_err-holds-clause-does
choice-returns-in_err-holds-clause-does g t c variables result kinds at is most =
    let program = program_view c.args.scene.program.now in
    let test = value_view c.args.test.now in
    let first : Statement = statement_view c.args.scene.program.now.spellings c.args.first.now in
    let second : Statement = statement_view c.args.scene.program.now.spellings c.args.second.now in
    does_early most kinds kinds IsFlow (statement_of program most meaning.start (typed.if_else test first second))
    c.args.self.now c.truth.new.self c.in_err-holds.field-0.0 c.from_residual.result
    (err_from_is_err_and _ c.from_residual.ensures.1)
    (found_stop {T = CodeFlow} most kinds IsFlow (operand truth_of (value_of program most test))
    (λ (found : Bool). if found then statement_of program most meaning.start first else statement_of program most
    meaning.start second) c.args.self.now
    c.truth.new.self c.in_err-holds.field-0.0 (λ (found : Bool). goes_if found
    (goes_of program most meaning.start first) (goes_of program most meaning.start second))
    (c.in_err-holds.ensures.does variables result kinds at is.0 most))

pub choice-returns-then-holds-clause-does : goal.choice-returns-then-holds-clause-does
choice-returns-then-holds-clause-does g t c variables result kinds at is most =
    let program = program_view c.args.scene.program.now in
    let test = value_view c.args.test.now in
    let first : Statement = statement_view c.args.scene.program.now.spellings c.args.first.now in
    let second : Statement = statement_view c.args.scene.program.now.spellings c.args.second.now in
    found_next most kinds IsFlow (operand truth_of (value_of program most test))
    (λ (found : Bool). if found then statement_of program most meaning.start first else statement_of program most
    meaning.start second) c.args.self.now
    c.truth.new.self c.statement.new.self true c.statement.result
    (goes_operand_alone truth_of (goes_value_of program most test))
    (subst (λ (found : Bool). Does most kinds kinds Same (operand truth_of (value_of program most test))
    c.args.self.now c.truth.new.self (Ok found)) c.if-holds.true
    (c.in_ok-holds.ensures.does variables result kinds at is.0 most))
    (c.statement.ensures.does variables result kinds at is.1 most)

pub choice-returns-else-holds-clause-does : goal.choice-returns-else-holds-clause-does
choice-returns-else-holds-clause-does g t c variables result kinds at is most =
    let program = program_view c.args.scene.program.now in
    let test = value_view c.args.test.now in
    let first : Statement = statement_view c.args.scene.program.now.spellings c.args.first.now in
    let second : Statement = statement_view c.args.scene.program.now.spellings c.args.second.now in
    found_next most kinds IsFlow (operand truth_of (value_of program most test))
    (λ (found : Bool). if found then statement_of program most meaning.start first else statement_of program most
    meaning.start second) c.args.self.now
    c.truth.new.self c.statement-else-holds.new.self false c.statement-else-holds.result
    (goes_operand_alone truth_of (goes_value_of program most test))
    (subst (λ (found : Bool). Does most kinds kinds Same (operand truth_of (value_of program most test))
    c.args.self.now c.truth.new.self (Ok found)) c.if-holds.false
    (c.in_ok-holds.ensures.does variables result kinds at is.0 most))
    (c.statement-else-holds.ensures.does variables result kinds at is.2 most)

pub case-returns-in_err-found-clause-does : goal.case-returns-in_err-found-clause-does
case-returns-in_err-found-clause-does g t c variables result kinds at is most =
    let program = program_view c.args.scene.program.now in
    let arms = arms_view c.args.scene.program.now.spellings c.args.arms.now in
    let selector = value_view c.args.selector.now in
    does_early most kinds kinds IsFlow (statement_of program most meaning.start (typed.case selector arms))
    c.args.self.now c.number.new.self c.in_err-found.field-0.0 c.from_residual.result
    (err_from_is_err_and _ c.from_residual.ensures.1)
    (found_stop {T = CodeFlow} most kinds IsFlow (operand number_of (value_of program most selector))
    (λ (found : ℤ). arm_of program most found arms (answered (wrong NO_CASE_MATCHES))) c.args.self.now
    c.number.new.self c.in_err-found.field-0.0
    (λ (found : ℤ). goes_arm_of program most found arms (goes_answered (wrong NO_CASE_MATCHES)))
    (operand_stop {T = ℤ} most kinds Same number_of (value_of program most selector) c.args.self.now c.number.new.self
    c.in_err-found.field-0.0 (c.in_err-found.ensures.does variables result kinds at is.0 most)))

pub case-returns-in-Some-clause-does : goal.case-returns-in-Some-clause-does
case-returns-in-Some-clause-does g t c variables result kinds at is most =
    let program = program_view c.args.scene.program.now in
    let arms = arms_view c.args.scene.program.now.spellings c.args.arms.now in
    let selector = value_view c.args.selector.now in
    let all : arms_view c.args.scene.program.now.spellings c.as_slice.result.now ≡ arms = ap
    (arms_view c.args.scene.program.now.spellings) c.as_slice.ensures in
    let number : to_z w32 (of_z w32 c.in_ok-found.found) ≡ c.in_ok-found.found = search rules in
    let chosen : Chooses c.in_ok-found.found arms (Some (statement_view c.args.scene.program.now.spellings
    c.in-Some.statement.now)) =
    subst (λ (number : ℤ). Chooses number arms (Some (statement_view c.args.scene.program.now.spellings
    c.in-Some.statement.now))) number
    (subst (λ (arms : Arms). Chooses (to_z w32 (of_z w32 c.in_ok-found.found)) arms
    (Some (statement_view c.args.scene.program.now.spellings c.in-Some.statement.now))) all
    (subst (λ (found : Option _). Chooses (to_z w32 (of_z w32 c.in_ok-found.found))
    (arms_view c.args.scene.program.now.spellings c.as_slice.result.now)
    (option_map (λ found. statement_view c.args.scene.program.now.spellings found.now) found)) c.in-Some.is
    (c.chosen.ensures c.args.scene.program.now.spellings))) in
    found_next most kinds IsFlow (operand number_of (value_of program most selector))
    (λ (found : ℤ). arm_of program most found arms (answered (wrong NO_CASE_MATCHES))) c.args.self.now
    c.number.new.self c.statement.new.self c.in_ok-found.found c.statement.result
    (goes_operand_alone number_of (goes_value_of program most selector))
    (as_number most kinds (value_of program most selector) c.args.self.now c.number.new.self c.in_ok-found.found
    (goes_value_of program most selector) (c.in_ok-found.ensures.does variables result kinds at is.0 most))
    (subst (λ doing. Does most kinds kinds IsFlow doing c.number.new.self c.statement.new.self c.statement.result)
    (sym (chosen.same program (within (Some CALL_LIMIT) program most) (answered (wrong NO_CASE_MATCHES))))
    (c.statement.ensures.does variables result kinds at (chosen.is_lawful program variables result is.1) most))

pub case-returns-in-None-clause-does : goal.case-returns-in-None-clause-does
case-returns-in-None-clause-does g t c variables result kinds at is most =
    let program = program_view c.args.scene.program.now in
    let arms = arms_view c.args.scene.program.now.spellings c.args.arms.now in
    let selector = value_view c.args.selector.now in
    let all : arms_view c.args.scene.program.now.spellings c.as_slice.result.now ≡ arms = ap
    (arms_view c.args.scene.program.now.spellings) c.as_slice.ensures in
    let number : to_z w32 (of_z w32 c.in_ok-found.found) ≡ c.in_ok-found.found = search rules in
    let chosen : Chooses c.in_ok-found.found arms None =
    subst (λ (number : ℤ). Chooses number arms None) number
    (subst (λ (arms : Arms). Chooses (to_z w32 (of_z w32 c.in_ok-found.found)) arms None) all
    (subst (λ (found : Option _). Chooses (to_z w32 (of_z w32 c.in_ok-found.found))
    (arms_view c.args.scene.program.now.spellings c.as_slice.result.now)
    (option_map (λ found. statement_view c.args.scene.program.now.spellings found.now) found)) c.in-None.is
    (c.chosen.ensures c.args.scene.program.now.spellings))) in
    found_next most kinds IsFlow (operand number_of (value_of program most selector))
    (λ (found : ℤ). arm_of program most found arms (answered (wrong NO_CASE_MATCHES))) c.args.self.now
    c.number.new.self c.number.new.self c.in_ok-found.found (Err (stop.Wrong NO_CASE_MATCHES))
    (goes_operand_alone number_of (goes_value_of program most selector))
    (as_number most kinds (value_of program most selector) c.args.self.now c.number.new.self c.in_ok-found.found
    (goes_value_of program most selector) (c.in_ok-found.ensures.does variables result kinds at is.0 most))
    (subst (λ doing. Does most kinds kinds IsFlow doing c.number.new.self c.number.new.self
    (Err (stop.Wrong NO_CASE_MATCHES)))
    (sym (chosen.same program (within (Some CALL_LIMIT) program most) (answered (wrong NO_CASE_MATCHES))))
    (does_answered {T = CodeFlow} most kinds IsFlow (wrong NO_CASE_MATCHES) c.number.new.self
    (Err (stop.Wrong NO_CASE_MATCHES)) refl))

pub case_others-returns-in_err-found-clause-does : goal.case_others-returns-in_err-found-clause-does
case_others-returns-in_err-found-clause-does g t c variables result kinds at is most =
    let program = program_view c.args.scene.program.now in
    let arms = arms_view c.args.scene.program.now.spellings c.args.arms.now in
    let selector = value_view c.args.selector.now in
    let others : Statement = statement_view c.args.scene.program.now.spellings c.args.others.now in
    does_early most kinds kinds IsFlow (statement_of program most meaning.start
    (typed.case_others selector arms others)) c.args.self.now c.number.new.self c.in_err-found.field-0.0
    c.from_residual.result
    (err_from_is_err_and _ c.from_residual.ensures.1)
    (found_stop {T = CodeFlow} most kinds IsFlow (operand number_of (value_of program most selector))
    (λ (found : ℤ). arm_of program most found arms (statement_of program most meaning.start others)) c.args.self.now
    c.number.new.self c.in_err-found.field-0.0
    (λ (found : ℤ). goes_arm_of program most found arms (goes_of program most meaning.start others))
    (operand_stop {T = ℤ} most kinds Same number_of (value_of program most selector) c.args.self.now c.number.new.self
    c.in_err-found.field-0.0 (c.in_err-found.ensures.does variables result kinds at is.0 most)))

pub case_others-returns-in-Some-clause-does : goal.case_others-returns-in-Some-clause-does
case_others-returns-in-Some-clause-does g t c variables result kinds at is most =
    let program = program_view c.args.scene.program.now in
    let arms = arms_view c.args.scene.program.now.spellings c.args.arms.now in
    let selector = value_view c.args.selector.now in
    let others : Statement = statement_view c.args.scene.program.now.spellings c.args.others.now in
    let all : arms_view c.args.scene.program.now.spellings c.as_slice.result.now ≡ arms = ap
    (arms_view c.args.scene.program.now.spellings) c.as_slice.ensures in
    let number : to_z w32 (of_z w32 c.in_ok-found.found) ≡ c.in_ok-found.found = search rules in
    let chosen : Chooses c.in_ok-found.found arms (Some (statement_view c.args.scene.program.now.spellings
    c.in-Some.statement.now)) =
    subst (λ (number : ℤ). Chooses number arms (Some (statement_view c.args.scene.program.now.spellings
    c.in-Some.statement.now))) number
    (subst (λ (arms : Arms). Chooses (to_z w32 (of_z w32 c.in_ok-found.found)) arms
    (Some (statement_view c.args.scene.program.now.spellings c.in-Some.statement.now))) all
    (subst (λ (found : Option _). Chooses (to_z w32 (of_z w32 c.in_ok-found.found))
    (arms_view c.args.scene.program.now.spellings c.as_slice.result.now)
    (option_map (λ found. statement_view c.args.scene.program.now.spellings found.now) found)) c.in-Some.is
    (c.chosen.ensures c.args.scene.program.now.spellings))) in
    found_next most kinds IsFlow (operand number_of (value_of program most selector))
    (λ (found : ℤ). arm_of program most found arms (statement_of program most meaning.start others)) c.args.self.now
    c.number.new.self c.statement.new.self c.in_ok-found.found c.statement.result
    (goes_operand_alone number_of (goes_value_of program most selector))
    (as_number most kinds (value_of program most selector) c.args.self.now c.number.new.self c.in_ok-found.found
    (goes_value_of program most selector) (c.in_ok-found.ensures.does variables result kinds at is.0 most))
    (subst (λ doing. Does most kinds kinds IsFlow doing c.number.new.self c.statement.new.self c.statement.result)
    (sym (chosen.same program (within (Some CALL_LIMIT) program most) (statement_of program most meaning.start others)))
    (c.statement.ensures.does variables result kinds at (chosen.is_lawful program variables result is.1) most))

pub case_others-returns-in-None-clause-does : goal.case_others-returns-in-None-clause-does
case_others-returns-in-None-clause-does g t c variables result kinds at is most =
    let program = program_view c.args.scene.program.now in
    let arms = arms_view c.args.scene.program.now.spellings c.args.arms.now in
    let selector = value_view c.args.selector.now in
    let others : Statement = statement_view c.args.scene.program.now.spellings c.args.others.now in
    let all : arms_view c.args.scene.program.now.spellings c.as_slice.result.now ≡ arms = ap
    (arms_view c.args.scene.program.now.spellings) c.as_slice.ensures in
    let number : to_z w32 (of_z w32 c.in_ok-found.found) ≡ c.in_ok-found.found = search rules in
    let chosen : Chooses c.in_ok-found.found arms None =
    subst (λ (number : ℤ). Chooses number arms None) number
    (subst (λ (arms : Arms). Chooses (to_z w32 (of_z w32 c.in_ok-found.found)) arms None) all
    (subst (λ (found : Option _). Chooses (to_z w32 (of_z w32 c.in_ok-found.found))
    (arms_view c.args.scene.program.now.spellings c.as_slice.result.now)
    (option_map (λ found. statement_view c.args.scene.program.now.spellings found.now) found)) c.in-None.is
    (c.chosen.ensures c.args.scene.program.now.spellings))) in
    found_next most kinds IsFlow (operand number_of (value_of program most selector))
    (λ (found : ℤ). arm_of program most found arms (statement_of program most meaning.start others)) c.args.self.now
    c.number.new.self c.statement-in-None.new.self c.in_ok-found.found c.statement-in-None.result
    (goes_operand_alone number_of (goes_value_of program most selector))
    (as_number most kinds (value_of program most selector) c.args.self.now c.number.new.self c.in_ok-found.found
    (goes_value_of program most selector) (c.in_ok-found.ensures.does variables result kinds at is.0 most))
    (subst (λ doing. Does most kinds kinds IsFlow doing c.number.new.self c.statement-in-None.new.self
    c.statement-in-None.result)
    (sym (chosen.same program (within (Some CALL_LIMIT) program most) (statement_of program most meaning.start others)))
    (c.statement-in-None.ensures.does variables result kinds at is.2 most))

pub statement-returns-in-Empty-clause-does : goal.statement-returns-in-Empty-clause-does
statement-returns-in-Empty-clause-does g t c =
    subst (λ (found : Statement). Runs c.args.scene found c.args.self.now c.args.self.now (Ok flow.Next))
    (sym (ap (statement_view c.args.scene.program.now.spellings) c.in-Empty.is ∙ statement_view-Empty
    c.args.scene.program.now.spellings))
    (λ variables result kinds at is most. does_pure most kinds IsFlow flow.Next meaning.next c.args.self.now refl)

pub statement-returns-in-Goto-clause-does : goal.statement-returns-in-Goto-clause-does
statement-returns-in-Goto-clause-does g t c =
    subst (λ (found : Statement). Runs c.args.scene found c.args.self.now c.args.self.now
    (Ok (flow.Jump c.in-Goto.label)))
    (sym (ap (statement_view c.args.scene.program.now.spellings) c.in-Goto.is ∙ statement_view-Goto
    c.args.scene.program.now.spellings _))
    (λ variables result kinds at is most. does_pure most kinds IsFlow (flow.Jump c.in-Goto.label)
    (meaning.jump c.in-Goto.label) c.args.self.now refl)

pub statement-returns-in-GotoLast-clause-does : goal.statement-returns-in-GotoLast-clause-does
statement-returns-in-GotoLast-clause-does g t c =
    subst (λ (found : Statement). Runs c.args.scene found c.args.self.now c.args.self.now
    (Err (stop.Halted c.in-GotoLast.status)))
    (sym (ap (statement_view c.args.scene.program.now.spellings) c.in-GotoLast.is ∙ statement_view-GotoLast
    c.args.scene.program.now.spellings _))
    (λ variables result kinds at is most. does_halt most kinds IsFlow c.in-GotoLast.status c.args.self.now)

pub statement-returns-in-Assigns-clause-does : goal.statement-returns-in-Assigns-clause-does
statement-returns-in-Assigns-clause-does g t c =
    let program = program_view c.args.scene.program.now in
    runs_as c.args.scene (statement_view c.args.scene.program.now.spellings c.args.statement.now) _ c.args.self.now
    c.assign.new.self c.next_behind.result
    (next_behind c.assign.result)
    (ap (statement_view c.args.scene.program.now.spellings) c.in-Assigns.is ∙ statement_view-Assigns
    c.args.scene.program.now.spellings _ _
    ∙ ap (λ (x0 : code_place.Place). typed.assigns (place_view x0) (value_view c.in-Assigns.right)) (sym c.get.ensures)
    ∙ ap (λ (x1 : code_value.Value). typed.assigns (place_view c.get.result.now) (value_view x1))
    (sym c.get-in-Assigns.ensures))
    c.next_behind.ensures
    (λ variables result kinds at is most. does_behind_two most kinds c.args.self.now c.assign.new.self
    (value_of program most (value_view c.get-in-Assigns.result.now))
    (assigned_to program most (place_view c.get.result.now))
    c.assign.result (c.assign.ensures.does variables result kinds at is most))

pub statement-returns-in-SetsResult-clause-does : goal.statement-returns-in-SetsResult-clause-does
statement-returns-in-SetsResult-clause-does g t c =
    let program = program_view c.args.scene.program.now in
    runs_as c.args.scene (statement_view c.args.scene.program.now.spellings c.args.statement.now) _ c.args.self.now
    c.set_result.new.self c.next_behind-in-SetsResult.result
    (next_behind c.set_result.result)
    (ap (statement_view c.args.scene.program.now.spellings) c.in-SetsResult.is ∙ statement_view-SetsResult
    c.args.scene.program.now.spellings _ _ _
    ∙ ap (λ (x0 : code_value.Value). typed.sets_result c.in-SetsResult.field-0 (type_view c.in-SetsResult.pas_type)
    (value_view x0)) (sym c.get-in-SetsResult.ensures))
    c.next_behind-in-SetsResult.ensures
    (λ variables result kinds at is most. does_behind_two most kinds c.args.self.now c.set_result.new.self
    (operand (fits program.types (type_view c.in-SetsResult.pas_type))
    (value_of program most (value_view c.get-in-SetsResult.result.now)))
    (λ datum. change (with_result c.in-SetsResult.field-0 datum)) c.set_result.result
    (c.set_result.ensures.does c.in-SetsResult.field-0 variables result kinds at is most))

pub statement-returns-in-Calls-clause-does : goal.statement-returns-in-Calls-clause-does
statement-returns-in-Calls-clause-does g t c =
    let program = program_view c.args.scene.program.now in
    runs_as c.args.scene (statement_view c.args.scene.program.now.spellings c.args.statement.now) _ c.args.self.now
    c.call_procedure.new.self c.next_behind-in-Calls.result
    (next_behind c.call_procedure.result)
    (ap (statement_view c.args.scene.program.now.spellings) c.in-Calls.is ∙ statement_view-Calls
    c.args.scene.program.now.spellings _ _)
    c.next_behind-in-Calls.ensures
    (λ variables result kinds at is most. does_behind_two most kinds c.args.self.now c.call_procedure.new.self
    (meaning.arguments_of (Some CALL_LIMIT) program (within (Some CALL_LIMIT) program most)
    (passed_views c.in-Calls.passed)) (meaning.call (Some CALL_LIMIT) program
    (within (Some CALL_LIMIT) program most) c.in-Calls.routine) c.call_procedure.result
    (c.call_procedure.ensures.does variables result kinds at is most))

pub statement-returns-in-Compound-clause-does : goal.statement-returns-in-Compound-clause-does
statement-returns-in-Compound-clause-does g t c =
    subst (λ (found : Statement). Runs c.args.scene found c.args.self.now c.compound.new.self c.compound.result)
    (sym (ap (statement_view c.args.scene.program.now.spellings) c.in-Compound.is ∙ statement_view-Compound
    c.args.scene.program.now.spellings _))
    c.compound.ensures.does

pub statement-returns-in-If-clause-does : goal.statement-returns-in-If-clause-does
statement-returns-in-If-clause-does g t c =
    subst (λ (found : Statement). Runs c.args.scene found c.args.self.now c.branch-self.new.self c.branch-self.result)
    (sym (ap (statement_view c.args.scene.program.now.spellings) c.in-If.is ∙ statement_view-If
    c.args.scene.program.now.spellings _ _
    ∙ ap (λ (x0 : code_value.Value). typed.if_then (value_view x0)
    (statement_view c.args.scene.program.now.spellings c.in-If.first)) (sym c.get-in-If.ensures)
    ∙ ap (λ (x1 : code_statement.Statement). typed.if_then (value_view c.get-in-If.result.now)
    (statement_view c.args.scene.program.now.spellings x1)) (sym c.get-in-If-2.ensures)))
    c.branch-self.ensures.does

pub statement-returns-in-IfElse-clause-does : goal.statement-returns-in-IfElse-clause-does
statement-returns-in-IfElse-clause-does g t c =
    subst (λ (found : Statement). Runs c.args.scene found c.args.self.now c.choice.new.self c.choice.result)
    (sym (ap (statement_view c.args.scene.program.now.spellings) c.in-IfElse.is ∙ statement_view-IfElse
    c.args.scene.program.now.spellings _ _ _
    ∙ ap (λ (x0 : code_value.Value). typed.if_else (value_view x0)
    (statement_view c.args.scene.program.now.spellings c.in-IfElse.first)
    (statement_view c.args.scene.program.now.spellings c.in-IfElse.second)) (sym c.get-in-IfElse.ensures)
    ∙ ap (λ (x1 : code_statement.Statement). typed.if_else (value_view c.get-in-IfElse.result.now)
    (statement_view c.args.scene.program.now.spellings x1) (statement_view c.args.scene.program.now.spellings
    c.in-IfElse.second)) (sym c.get-in-IfElse-2.ensures)
    ∙ ap (λ (x2 : code_statement.Statement). typed.if_else (value_view c.get-in-IfElse.result.now)
    (statement_view c.args.scene.program.now.spellings c.get-in-IfElse-2.result.now)
    (statement_view c.args.scene.program.now.spellings x2)) (sym c.get-in-IfElse-3.ensures)))
    c.choice.ensures.does

pub statement-returns-in-Case-clause-does : goal.statement-returns-in-Case-clause-does
statement-returns-in-Case-clause-does g t c =
    subst (λ (found : Statement). Runs c.args.scene found c.args.self.now c.case.new.self c.case.result)
    (sym (ap (statement_view c.args.scene.program.now.spellings) c.in-Case.is ∙ statement_view-Case
    c.args.scene.program.now.spellings _ _
    ∙ ap (λ (x0 : code_value.Value). typed.case (value_view x0)
    (arms_view c.args.scene.program.now.spellings c.in-Case.arms)) (sym c.get-in-Case.ensures)))
    c.case.ensures.does

pub statement-returns-in-CaseOthers-clause-does : goal.statement-returns-in-CaseOthers-clause-does
statement-returns-in-CaseOthers-clause-does g t c =
    subst (λ (found : Statement). Runs c.args.scene found c.args.self.now c.case_others.new.self c.case_others.result)
    (sym (ap (statement_view c.args.scene.program.now.spellings) c.in-CaseOthers.is ∙ statement_view-CaseOthers
    c.args.scene.program.now.spellings _ _ _
    ∙ ap (λ (x0 : code_value.Value). typed.case_others (value_view x0)
    (arms_view c.args.scene.program.now.spellings c.in-CaseOthers.arms)
    (statement_view c.args.scene.program.now.spellings c.in-CaseOthers.others)) (sym c.get-in-CaseOthers.ensures)
    ∙ ap (λ (x1 : code_statement.Statement). typed.case_others (value_view c.get-in-CaseOthers.result.now)
    (arms_view c.args.scene.program.now.spellings c.in-CaseOthers.arms)
    (statement_view c.args.scene.program.now.spellings x1)) (sym c.get-in-CaseOthers-2.ensures)))
    c.case_others.ensures.does

pub statement-returns-in-While-clause-does : goal.statement-returns-in-While-clause-does
statement-returns-in-While-clause-does g t c =
    subst (λ (found : Statement). Runs c.args.scene found c.args.self.now c.while_loop.new.self c.while_loop.result)
    (sym (ap (statement_view c.args.scene.program.now.spellings) c.in-While.is ∙ statement_view-While
    c.args.scene.program.now.spellings _ _
    ∙ ap (λ (x0 : code_value.Value). typed.while (value_view x0)
    (statements_view c.args.scene.program.now.spellings c.in-While.list)) (sym c.get-in-While.ensures)))
    c.while_loop.ensures.does

pub statement-returns-in-Repeat-clause-does : goal.statement-returns-in-Repeat-clause-does
statement-returns-in-Repeat-clause-does g t c =
    subst (λ (found : Statement). Runs c.args.scene found c.args.self.now c.repeat_loop.new.self c.repeat_loop.result)
    (sym (ap (statement_view c.args.scene.program.now.spellings) c.in-Repeat.is ∙ statement_view-Repeat
    c.args.scene.program.now.spellings _ _
    ∙ ap (λ (x0 : code_value.Value). typed.repeat (statements_view c.args.scene.program.now.spellings
    c.in-Repeat.list) (value_view x0)) (sym c.get-in-Repeat.ensures)))
    c.repeat_loop.ensures.does

pub statement-returns-in-For-clause-does : goal.statement-returns-in-For-clause-does
statement-returns-in-For-clause-does g t c =
    subst (λ (found : Statement). Runs c.args.scene found c.args.self.now c.for_loop.new.self c.for_loop.result)
    (sym (ap (statement_view c.args.scene.program.now.spellings) c.in-For.is ∙ statement_view-For
    c.args.scene.program.now.spellings _ _
    ∙ ap (λ (x0 : CodeCounted). typed.for (slot_view x0.slot) x0.way (value_view x0.first) (value_view x0.last)
    (statements_view c.args.scene.program.now.spellings c.in-For.list)) (sym c.get-in-For.ensures)))
    c.for_loop.ensures.does

pub statement-returns-in-Halts-clause-does : goal.statement-returns-in-Halts-clause-does
statement-returns-in-Halts-clause-does g t c =
    subst (λ (found : Statement). Runs c.args.scene found c.args.self.now c.halt.new.self c.halt.result)
    (sym (ap (statement_view c.args.scene.program.now.spellings) c.in-Halts.is ∙ statement_view-Halts
    c.args.scene.program.now.spellings _
    ∙ ap (λ (x0 : code_value.Value). typed.halts (value_view x0)) (sym c.get-in-Halts.ensures)))
    c.halt.ensures.does

pub statement-returns-in-Steps-clause-does : goal.statement-returns-in-Steps-clause-does
statement-returns-in-Steps-clause-does g t c =
    let program = program_view c.args.scene.program.now in
    runs_as c.args.scene (statement_view c.args.scene.program.now.spellings c.args.statement.now) _ c.args.self.now
    c.file_step.new.self c.next_behind-in-Steps.result
    (next_behind c.file_step.result)
    (ap (statement_view c.args.scene.program.now.spellings) c.in-Steps.is ∙ statement_view-Steps
    c.args.scene.program.now.spellings _ _
    ∙ ap (λ (x0 : code_place.Place). typed.file_step (file_step_view c.in-Steps.step) (place_view x0))
    (sym c.get-in-Steps.ensures))
    c.next_behind-in-Steps.ensures
    (λ variables result kinds at is most. does_behind_two most kinds c.args.self.now c.file_step.new.self
    (answered (file_variable (place_view c.get-in-Steps.result.now)))
    (λ file. on_file file (step_of program most (file_step_view c.in-Steps.step))) c.file_step.result
    (c.file_step.ensures.does variables result kinds at is most))

pub statement-returns-in-Reads-clause-does : goal.statement-returns-in-Reads-clause-does
statement-returns-in-Reads-clause-does g t c =
    let program = program_view c.args.scene.program.now in
    runs_as c.args.scene (statement_view c.args.scene.program.now.spellings c.args.statement.now) _ c.args.self.now
    c.reads.new.self c.next_behind-in-Reads.result
    (next_behind c.reads.result)
    (ap (statement_view c.args.scene.program.now.spellings) c.in-Reads.is ∙ statement_view-Reads
    c.args.scene.program.now.spellings _ _
    ∙ ap (λ (x0 : code_place.Place). typed.reads (place_view x0) (map place_view c.in-Reads.places))
    (sym c.get-in-Reads.ensures))
    c.next_behind-in-Reads.ensures
    (λ variables result kinds at is most. does_behind_two most kinds c.args.self.now c.reads.new.self
    (answered (file_variable (place_view c.get-in-Reads.result.now)))
    (λ file. reads_of program most (components_of program.types (place_view c.get-in-Reads.result.now)) file
    (map place_view c.in-Reads.places)) c.reads.result
    (c.reads.ensures.does variables result kinds at is most))

pub statement-returns-in-ReadsLine-clause-does : goal.statement-returns-in-ReadsLine-clause-does
statement-returns-in-ReadsLine-clause-does g t c =
    let program = program_view c.args.scene.program.now in
    runs_as c.args.scene (statement_view c.args.scene.program.now.spellings c.args.statement.now) _ c.args.self.now
    c.reads_line.new.self c.next_behind-in-ReadsLine.result
    (next_behind c.reads_line.result)
    (ap (statement_view c.args.scene.program.now.spellings) c.in-ReadsLine.is ∙ statement_view-ReadsLine
    c.args.scene.program.now.spellings _ _
    ∙ ap (λ (x0 : code_place.Place). typed.reads_line (place_view x0) (map place_view c.in-ReadsLine.places))
    (sym c.get-in-ReadsLine.ensures))
    c.next_behind-in-ReadsLine.ensures
    (λ variables result kinds at is most. does_behind_three most kinds c.args.self.now c.reads_line.new.self
    (answered (file_variable (place_view c.get-in-ReadsLine.result.now)))
    (λ file. reads_of program most (components_of program.types (place_view c.get-in-ReadsLine.result.now)) file
    (map place_view c.in-ReadsLine.places))
    (λ file. on_file file (λ number. change_file number files.readln)) c.reads_line.result
    (c.reads_line.ensures.does variables result kinds at is most))

pub statement-returns-in-Writes-clause-does : goal.statement-returns-in-Writes-clause-does
statement-returns-in-Writes-clause-does g t c =
    let program = program_view c.args.scene.program.now in
    runs_as c.args.scene (statement_view c.args.scene.program.now.spellings c.args.statement.now) _ c.args.self.now
    c.writes.new.self c.next_behind-in-Writes.result
    (next_behind c.writes.result)
    (ap (statement_view c.args.scene.program.now.spellings) c.in-Writes.is ∙ statement_view-Writes
    c.args.scene.program.now.spellings _ _
    ∙ ap (λ (x0 : code_place.Place). typed.writes (place_view x0)
    (map (item_view c.args.scene.program.now.spellings) c.in-Writes.items)) (sym c.get-in-Writes.ensures))
    c.next_behind-in-Writes.ensures
    (λ variables result kinds at is most. does_behind_two most kinds c.args.self.now c.writes.new.self
    (answered (file_variable (place_view c.get-in-Writes.result.now)))
    (λ file. writes_of program most file (map (item_view c.args.scene.program.now.spellings) c.in-Writes.items))
    c.writes.result
    (c.writes.ensures.does variables result kinds at is most))

pub statement-returns-in-WritesLine-clause-does : goal.statement-returns-in-WritesLine-clause-does
statement-returns-in-WritesLine-clause-does g t c =
    let program = program_view c.args.scene.program.now in
    runs_as c.args.scene (statement_view c.args.scene.program.now.spellings c.args.statement.now) _ c.args.self.now
    c.writes_line.new.self c.next_behind-in-WritesLine.result
    (next_behind c.writes_line.result)
    (ap (statement_view c.args.scene.program.now.spellings) c.in-WritesLine.is ∙ statement_view-WritesLine
    c.args.scene.program.now.spellings _ _
    ∙ ap (λ (x0 : code_place.Place). typed.writes_line (place_view x0)
    (map (item_view c.args.scene.program.now.spellings) c.in-WritesLine.items)) (sym c.get-in-WritesLine.ensures))
    c.next_behind-in-WritesLine.ensures
    (λ variables result kinds at is most. does_behind_three most kinds c.args.self.now c.writes_line.new.self
    (answered (file_variable (place_view c.get-in-WritesLine.result.now)))
    (λ file. writes_of program most file (map (item_view c.args.scene.program.now.spellings) c.in-WritesLine.items))
    (λ file. on_file file (λ number. append number files.writeln)) c.writes_line.result
    (c.writes_line.ensures.does variables result kinds at is most))

pub statement-returns-in-WritesBytes-clause-does : goal.statement-returns-in-WritesBytes-clause-does
statement-returns-in-WritesBytes-clause-does g t c =
    let program = program_view c.args.scene.program.now in
    runs_as c.args.scene (statement_view c.args.scene.program.now.spellings c.args.statement.now) _ c.args.self.now
    c.writes_bytes.new.self c.next_behind-in-WritesBytes.result
    (next_behind c.writes_bytes.result)
    (ap (statement_view c.args.scene.program.now.spellings) c.in-WritesBytes.is ∙ statement_view-WritesBytes
    c.args.scene.program.now.spellings _ _
    ∙ ap (λ (x0 : code_place.Place). typed.writes_bytes (place_view x0) (map value_view c.in-WritesBytes.items))
    (sym c.get-in-WritesBytes.ensures))
    c.next_behind-in-WritesBytes.ensures
    (λ variables result kinds at is most. does_behind_two most kinds c.args.self.now c.writes_bytes.new.self
    (answered (file_variable (place_view c.get-in-WritesBytes.result.now)))
    (λ file. bytes_of program most (components_of program.types (place_view c.get-in-WritesBytes.result.now)) file
    (map value_view c.in-WritesBytes.items)) c.writes_bytes.result
    (c.writes_bytes.ensures.does variables result kinds at is most))

-- lists

pub list-returns-clause-does : goal.list-returns-clause-does
list-returns-clause-does g t c variables result kinds at is most =
    let program = program_view c.args.scene.program.now in
    let from = c.list_from.ensures c.args.scene.program.now.spellings in
    subst (λ doing. Does most kinds kinds IsFlow doing c.args.self.now c.in_order.new.self c.in_order.result)
    (sym (from.same program most))
    (c.in_order.ensures.does variables result kinds at (from.are_lawful program variables result is) most)

pub in_order-loop-item-init : goal.in_order-loop-item-init
in_order-loop-item-init g t c = (
  refl,
  λ variables result kinds at is. (is, leads_same kinds IsFlow _ c.args.self.now),
)

pub in_order-loop-item-preserved : goal.in_order-loop-item-preserved
in_order-loop-item-preserved g t c = (
  c.in_ok-flow.ensures.cause ∙ c.loop-item.invariant.0,
  λ variables result kinds at is.
      let program = program_view c.args.scene.program.now in
      let so_far = c.loop-item.invariant.1 variables result kinds at is in
      let seen = item_seen c.args.scene.program.now.spellings c.args.list.now c.loop-item.item-index
      c.item-item.result c.loop-item-test.true
      c.item-item.is in
      let are = subst (AreLawful program variables result) seen so_far.0 in (
        are.1,
        leads_on so_far.1
            (item_next program kinds _ (statement_view c.args.scene.program.now.spellings
            c.item-item.result.statement) _ _ seen c.loop-item.self
            c.statement.new.self
            (λ most. subst (λ (found : CodeFlow). Does most kinds kinds IsFlow
            (statement_of program most meaning.start (statement_view c.args.scene.program.now.spellings
            c.item-item.result.statement)) c.loop-item.self c.statement.new.self (Ok found))
            c.in-Next.is (c.in_ok-flow.ensures.does variables result kinds at are.0 most))),
      ),
)

pub in_order-returns-in_err-flow-clause-does : goal.in_order-returns-in_err-flow-clause-does
in_order-returns-in_err-flow-clause-does g t c variables result kinds at is most =
    let program = program_view c.args.scene.program.now in
    let list = statements_view c.args.scene.program.now.spellings c.args.list.now in
    let so_far = c.loop-item.invariant.1 variables result kinds at is in
    let seen = item_seen c.args.scene.program.now.spellings c.args.list.now c.loop-item.item-index c.item-item.result
    c.loop-item-test.true
    c.item-item.is in
    let are = subst (AreLawful program variables result) seen so_far.0 in
    does_early most kinds kinds IsFlow (list_of program most None list) c.args.self.now c.statement.new.self
    c.in_err-flow.field-0.0 c.from_residual.result (err_from_is_err_and _ c.from_residual.ensures.1)
    (so_far.1.each c.statement.new.self (Err c.in_err-flow.field-0.0)
    (λ most. item_stop program kinds _ _ _ _ seen c.loop-item.self most c.statement.new.self
    c.in_err-flow.field-0.0 (c.in_err-flow.ensures.does variables result kinds at are.0 most)) most)

pub in_order-returns-in-Leaves : goal.in_order-returns-in-Leaves
in_order-returns-in-Leaves g t c = record {
  does = λ variables result kinds at is most.
      let program = program_view c.args.scene.program.now in
      let so_far = c.loop-item.invariant.1 variables result kinds at is in
      let seen = item_seen c.args.scene.program.now.spellings c.args.list.now c.loop-item.item-index
      c.item-item.result c.loop-item-test.true
      c.item-item.is in
      let are = subst (AreLawful program variables result) seen so_far.0 in
      so_far.1.each c.statement.new.self (Ok c.in_ok-flow.flow)
      (λ most. item_over program kinds _ _ _ _ seen c.loop-item.self most c.statement.new.self c.in_ok-flow.flow
      (no_next c.in_ok-flow.flow c.in-Leaves.is)
      (c.in_ok-flow.ensures.does variables result kinds at are.0 most)) most;
  cause = c.in_ok-flow.ensures.cause ∙ c.loop-item.invariant.0;
}

pub in_order-returns-clause-does : goal.in_order-returns-clause-does
in_order-returns-clause-does g t c variables result kinds at is most =
    let program = program_view c.args.scene.program.now in
    (c.loop-item.invariant.1 variables result kinds at is).1.each c.loop-item.self (Ok flow.Next)
    (list_end program kinds _ c.loop-item.self
    (list_seen c.args.scene.program.now.spellings c.args.list.now c.loop-item.item-index c.loop-item-test.false)) most

-- a compound

pub compound-returns-clause-does : goal.compound-returns-clause-does
compound-returns-clause-does g t c =
    subst (λ (list : List code_labelled.Labelled). Runs c.args.scene
    (typed.compound (statements_view c.args.scene.program.now.spellings list))
    c.args.self.now c.list_caught.new.self c.list_caught.result) c.as_slice.ensures c.list_caught.ensures.does

pub list_caught-loop-init : goal.list_caught-loop-init
list_caught-loop-init g t c = (refl, λ variables result kinds at is. leads_same kinds IsFlow _ c.args.self.now)

pub list_caught-loop-preserved : goal.list_caught-loop-preserved
list_caught-loop-preserved g t c = (
  c.in_ok-label.ensures.cause ∙ c.in_ok-flow.ensures.cause ∙ c.loop.invariant.0,
  λ variables result kinds at is.
      let program = program_view c.args.scene.program.now in
      let list = statements_view c.args.scene.program.now.spellings c.args.list.now in
      let around = typed.compound list in
      turn_again kinds (λ most. statement_of program most meaning.start around)
      (λ from most. statement_of program most (entry_by meaning.at meaning.start from) around)
      (λ from most. list_of program most from list) (λ most. behind_of program most list around)
      (compound_from program list) (λ from most. goes_list_of program most from list) c.args.self.now c.loop.self
      c.list.new.self c.loop.from (c.loop.invariant.1 variables result kinds at is) c.in_ok-flow.flow c.in-Again.label
      c.behind_list.new.self (λ most. c.in_ok-flow.ensures.does variables result kinds at is most)
      (subst (λ (turn : CodeTurn). IsTurn kinds
      (λ from most. statement_of program most (entry_by meaning.at meaning.start from) around)
      (λ most. behind_of program most list around (flow_view c.in_ok-flow.flow)) c.list.new.self c.behind_list.new.self
      (Ok turn)) c.in-Again.is (c.in_ok-label.ensures.does c.args.scene.program.now.spellings program kinds around)),
)

pub list_caught-returns-in_err-flow-clause-does : goal.list_caught-returns-in_err-flow-clause-does
list_caught-returns-in_err-flow-clause-does g t c variables result kinds at is most =
    let program = program_view c.args.scene.program.now in
    let list = statements_view c.args.scene.program.now.spellings c.args.list.now in
    let around = typed.compound list in
    does_early most kinds kinds IsFlow (statement_of program most meaning.start around) c.args.self.now c.list.new.self
    c.in_err-flow.field-0.0 c.from_residual.result (err_from_is_err_and _ c.from_residual.ensures.1)
    (turn_stop kinds (λ most. statement_of program most meaning.start around)
    (λ from most. statement_of program most (entry_by meaning.at meaning.start from) around)
    (λ from most. list_of program most from list) (λ most. behind_of program most list around)
    (compound_from program list) (λ from most. goes_list_of program most from list) c.args.self.now c.loop.self
    c.list.new.self c.loop.from (c.loop.invariant.1 variables result kinds at is) c.list.new.self
    c.in_err-flow.field-0.0 (λ most found. goes_behind_of program most list around found)
    (λ most. c.in_err-flow.ensures.does variables result kinds at is most) most)

pub list_caught-returns-in_err-label-clause-does : goal.list_caught-returns-in_err-label-clause-does
list_caught-returns-in_err-label-clause-does g t c variables result kinds at is most =
    let program = program_view c.args.scene.program.now in
    let list = statements_view c.args.scene.program.now.spellings c.args.list.now in
    let around = typed.compound list in
    does_early most kinds kinds IsFlow (statement_of program most meaning.start around) c.args.self.now
    c.behind_list.new.self
    c.in_err-label.field-0.0 c.from_residual-in_err-label.result
    (err_from_is_err_and _ c.from_residual-in_err-label.ensures.1)
    (turn_over kinds (λ most. statement_of program most meaning.start around)
    (λ from most. statement_of program most (entry_by meaning.at meaning.start from) around)
    (λ from most. list_of program most from list) (λ most. behind_of program most list around)
    (compound_from program list) (λ from most. goes_list_of program most from list) c.args.self.now c.loop.self
    c.list.new.self c.loop.from (c.loop.invariant.1 variables result kinds at is) c.in_ok-flow.flow
    c.behind_list.new.self
    (Err c.in_err-label.field-0.0) (λ most. c.in_ok-flow.ensures.does variables result kinds at is most)
    (c.in_err-label.ensures.does c.args.scene.program.now.spellings program kinds around) most)

pub list_caught-returns-in-Over-clause-does : goal.list_caught-returns-in-Over-clause-does
list_caught-returns-in-Over-clause-does g t c variables result kinds at is most =
    let program = program_view c.args.scene.program.now in
    let list = statements_view c.args.scene.program.now.spellings c.args.list.now in
    let around = typed.compound list in
    turn_over kinds (λ most. statement_of program most meaning.start around)
    (λ from most. statement_of program most (entry_by meaning.at meaning.start from) around)
    (λ from most. list_of program most from list) (λ most. behind_of program most list around)
    (compound_from program list) (λ from most. goes_list_of program most from list) c.args.self.now c.loop.self
    c.list.new.self c.loop.from (c.loop.invariant.1 variables result kinds at is) c.in_ok-flow.flow
    c.behind_list.new.self
    (Ok c.in-Over.flow) (λ most. c.in_ok-flow.ensures.does variables result kinds at is most)
    (subst (λ (turn : CodeTurn). IsTurn kinds
    (λ from most. statement_of program most (entry_by meaning.at meaning.start from) around)
    (λ most. behind_of program most list around (flow_view c.in_ok-flow.flow)) c.list.new.self c.behind_list.new.self
    (Ok turn)) c.in-Over.is (c.in_ok-label.ensures.does c.args.scene.program.now.spellings program kinds around)) most

pub assign_whole-returns-in_err-copied-clause-does : goal.assign_whole-returns-in_err-copied-clause-does
assign_whole-returns-in_err-copied-clause-does g t c is_whole variables result kinds at is most =
    let program = program_view c.args.scene.program.now in
    let place = place_view c.args.place.now in
    let right = value_view c.args.right.now in
    does_early most kinds kinds Any (assignment_of program most place right) c.args.self.now c.copy_of.new.self
    c.in_err-copied.field-0.0 c.from_residual.result (err_from_is_err_and _ c.from_residual.ensures.1)
    (assign_no_value most kinds program variables place c.args.place.now.slot right c.args.self.now c.copy_of.new.self
    c.in_err-copied.field-0.0
    (c.in_err-copied.ensures.does variables result kinds at
    (is.1, whole_source program.types (type_of_place place) is_whole (type_of right) is.2) most))

pub assign_whole-returns-in_err-behind-clause-does : goal.assign_whole-returns-in_err-behind-clause-does
assign_whole-returns-in_err-behind-clause-does g t c is_whole variables result kinds at is most =
    let program = program_view c.args.scene.program.now in
    let place = place_view c.args.place.now in
    let right = value_view c.args.right.now in
    does_early most kinds kinds Any (assignment_of program most place right) c.args.self.now c.part_at.new.self
    c.in_err-behind.field-0.0 c.from_residual-in_err-behind.result
    (err_from_is_err_and _ c.from_residual-in_err-behind.ensures.1)
    (assign_no_place most kinds program variables place c.args.place.now.slot right c.args.self.now c.copy_of.new.self
    c.in_ok-copied.copied
    (c.in_ok-copied.ensures.does variables result kinds at
    (is.1, whole_source program.types (type_of_place place) is_whole (type_of right) is.2) most) c.part_at.new.self
    c.in_err-behind.field-0.0
    (c.in_err-behind.ensures.does (whole_no_buffer program variables place at.lawful is.0 is_whole) variables result
    kinds at is.0 most))

pub assign_whole-returns-clause-does : goal.assign_whole-returns-clause-does
assign_whole-returns-clause-does g t c is_whole variables result kinds at is most =
    let program = program_view c.args.scene.program.now in
    let place = place_view c.args.place.now in
    let right = value_view c.args.right.now in
    assign_copied most kinds program variables place c.args.place.now.slot right c.args.self.now c.copy_of.new.self
    c.in_ok-copied.copied
    (c.in_ok-copied.ensures.does variables result kinds at
    (is.1, whole_source program.types (type_of_place place) is_whole (type_of right) is.2) most)
    c.part_at.new.self c.store_copy.new.self c.in_ok-behind.behind is_whole is.2
    (c.in_ok-behind.ensures.does (whole_no_buffer program variables place at.lawful is.0 is_whole) variables result
    kinds at is.0 most)
    (λ datum shaped same spot spot_is. c.store_copy.ensures.does variables result kinds at (type_of_place place) spot
    spot_is datum shaped (c.as_slice.ensures ∙ same) most)

pub call-returns-in_err-take_step-clause-does : goal.call-returns-in_err-take_step-clause-does
call-returns-in_err-take_step-clause-does g t c variables result kinds at heading there values are most =
    let program = program_view c.args.scene.program.now in
    does_early most kinds kinds (IsResult heading) (call_of program most c.args.routine values) c.args.self.now
    c.take_step.new.self c.in_err-take_step.field-0.0 c.from_residual.result
    (err_from_is_err_and _ c.from_residual.ensures.1)
    (does_stop {T = Unit {0}} {U = Cell} most kinds kinds kinds Any (IsResult heading) take_step
    (λ done. begin_call (Some CALL_LIMIT) >> meaning.body_run (Some CALL_LIMIT) program
    (meaning.within (Some CALL_LIMIT) program most) (meaning.body_of program c.args.routine) values) c.args.self.now
    c.take_step.new.self c.in_err-take_step.field-0.0
    (λ done. goes_behind_call_step program most (meaning.body_of program c.args.routine) values)
    (c.in_err-take_step.ensures.does most kinds))

pub call-returns-in_err-begin_call-clause-does : goal.call-returns-in_err-begin_call-clause-does
call-returns-in_err-begin_call-clause-does g t c variables result kinds at heading there values are most =
    let program = program_view c.args.scene.program.now in
    does_early most kinds kinds (IsResult heading) (call_of program most c.args.routine values) c.args.self.now
    c.begin_call.new.self c.in_err-begin_call.field-0.0 c.from_residual-in_err-begin_call.result
    (err_from_is_err_and _ c.from_residual-in_err-begin_call.ensures.1)
    (does_after_step {T = Cell} kinds kinds (IsResult heading) (λ most. begin_call (Some CALL_LIMIT)
    >> meaning.body_run (Some CALL_LIMIT) program (meaning.within (Some CALL_LIMIT) program most)
    (meaning.body_of program c.args.routine) values) c.args.self.now c.take_step.new.self c.begin_call.new.self
    (Err c.in_err-begin_call.field-0.0) (λ most. c.in_ok-take_step.ensures.does most kinds)
    c.in_ok-take_step.ensures.fewer
    (λ most. does_stop {T = Unit {0}} {U = Cell} most kinds kinds kinds Any (IsResult heading)
    (begin_call (Some CALL_LIMIT)) (λ done. meaning.body_run (Some CALL_LIMIT) program
    (meaning.within (Some CALL_LIMIT) program (suc most)) (meaning.body_of program c.args.routine) values)
    c.take_step.new.self c.begin_call.new.self c.in_err-begin_call.field-0.0
    (λ done. goes_body_run program (suc most) (meaning.body_of program c.args.routine) values)
    (c.in_err-begin_call.ensures.does most kinds)) most)

pub call-returns-clause-does : goal.call-returns-clause-does
call-returns-clause-does g t c variables result kinds at heading there values are most =
    let program = program_view c.args.scene.program.now in
    does_after_step {T = Cell} kinds kinds (IsResult heading) (λ most. begin_call (Some CALL_LIMIT)
    >> meaning.body_run (Some CALL_LIMIT) program (meaning.within (Some CALL_LIMIT) program most)
    (meaning.body_of program c.args.routine) values) c.args.self.now c.take_step.new.self c.body_run.new.self
    c.body_run.result (λ most. c.in_ok-take_step.ensures.does most kinds) c.in_ok-take_step.ensures.fewer
    (λ most. does_next {U = Cell} most kinds kinds kinds Any (IsResult heading)
    (begin_call (Some CALL_LIMIT)) (λ done. meaning.body_run (Some CALL_LIMIT) program
    (meaning.within (Some CALL_LIMIT) program (suc most)) (meaning.body_of program c.args.routine) values)
    c.take_step.new.self c.begin_call.new.self c.body_run.new.self (tt {0}) c.body_run.result
    (goes_begin (Some CALL_LIMIT)) (c.in_ok-begin_call.ensures.does most kinds)
    (λ done any. c.body_run.ensures.does variables result kinds at heading there values are most)) most

pub body_run-returns-clause-does : goal.body_run-returns-clause-does
body_run-returns-clause-does g t c variables result kinds at heading there values are most =
    let program = program_view c.args.scene.program.now in
    let spellings = c.args.scene.program.now.spellings in
    let found = routine_found program c.args.scene.layouts.now at.lawful at.all_laid c.args.routine heading there
    c.in-Some.number.now c.in-Some-get.layout.now (body_view spellings c.in-Some-get-2.body.now)
    (sym c.in-Some.ensures.value) (sym c.in-Some-get.ensures.value)
    (slice_get-map (body_view spellings) c.args.scene.program.now.bodies c.in-Some.number.now
    ∙ ap (option_map (body_view spellings)) (sym c.in-Some-get-2.ensures.value)) in
    subst (λ (body : Option Body). Does most kinds kinds (IsResult heading) (body_run_of program most body values)
    c.args.self.now c.run_body.new.self c.run_body.result) (sym found.1)
    (c.run_body.ensures.does variables result kinds at heading found.0 values are most)

pub run_body-returns-in_err-open-clause-does : goal.run_body-returns-in_err-open-clause-does
run_body-returns-in_err-open-clause-does g t c variables result kinds at heading is values are most =
    let program = program_view c.args.scene.program.now in
    let body = body_view c.args.scene.program.now.spellings c.args.body.now in
    does_early most kinds kinds (IsResult heading) (body_run_of program most (Some body) values) c.args.self.now
    c.open.new.self c.in_err-open.field-0.0 c.from_residual.result (err_from_is_err_and _ c.from_residual.ensures.1)
    (body_not_opened program c.args.scene.layouts.now c.args.scene.locals.now c.args.layout.now variables result kinds
    at heading body is most values c.args.self.now c.open.new.self c.in_err-open.field-0.0
    (c.in_err-open.ensures.does variables result kinds at heading is values are most))

pub run_body-returns-in_err-compound-clause-does : goal.run_body-returns-in_err-compound-clause-does
run_body-returns-in_err-compound-clause-does g t c variables result kinds at heading is values are most =
    let program = program_view c.args.scene.program.now in
    let body = body_view c.args.scene.program.now.spellings c.args.body.now in
    does_early most kinds kinds (IsResult heading) (body_run_of program most (Some body) values) c.args.self.now
    c.compound.new.self c.in_err-compound.field-0.0 c.from_residual-in_err-compound.result
    (err_from_is_err_and _ c.from_residual-in_err-compound.ensures.1)
    (body_stopped program c.args.scene.layouts.now c.args.scene.locals.now c.args.layout.now variables result kinds
    at heading body is most values c.args.self.now c.open.new.self
    (c.in_ok-open.ensures.does variables result kinds at heading is values are most) c.compound.new.self
    c.in_err-compound.field-0.0
    (c.in_err-compound.ensures.does body.variables is.is_body.heading.result (kinds_inside program kinds body)
    (at_inside program c.args.scene.layouts.now c.args.scene.locals.now c.args.layout.now variables result kinds at
    heading body is) is.is_body.statements most))

pub run_body-returns-clause-does : goal.run_body-returns-clause-does
run_body-returns-clause-does g t c variables result kinds at heading is values are most =
    let program = program_view c.args.scene.program.now in
    let body = body_view c.args.scene.program.now.spellings c.args.body.now in
    body_done program c.args.scene.layouts.now c.args.scene.locals.now c.args.layout.now variables result kinds
    at heading body is most values c.args.self.now c.open.new.self
    (c.in_ok-open.ensures.does variables result kinds at heading is values are most) c.compound.new.self
    c.close.new.self c.in_ok-compound.field-0 c.close.result
    (c.in_ok-compound.ensures.does body.variables is.is_body.heading.result (kinds_inside program kinds body)
    (at_inside program c.args.scene.layouts.now c.args.scene.locals.now c.args.layout.now variables result kinds at
    heading body is) is.is_body.statements most)
    (does_close program c.args.scene.layouts.now c.args.scene.locals.now c.args.layout.now variables result kinds at
    heading body is c.compound.new.self c.close.new.self c.close.result c.close.ensures.cell c.close.ensures.closed
    most)

pub call_procedure-returns-in_err-arguments-clause-does : goal.call_procedure-returns-in_err-arguments-clause-does
call_procedure-returns-in_err-arguments-clause-does g t c variables result kinds at is most =
    let program = program_view c.args.scene.program.now in
    let passed = passed_views c.args.passed.now in
    does_early most kinds kinds Any (procedure_of program most c.args.routine passed) c.args.self.now
    c.arguments.new.self c.in_err-arguments.field-0.0 c.from_residual.result
    (err_from_is_err_and _ c.from_residual.ensures.1)
    (procedure_no_arguments program most variables kinds c.args.routine is.0 passed c.args.self.now
    c.arguments.new.self c.in_err-arguments.field-0.0
    (c.in_err-arguments.ensures.does variables result kinds at is.0.parameters is.2 most))

pub call_procedure-returns-in_err-call-clause-does : goal.call_procedure-returns-in_err-call-clause-does
call_procedure-returns-in_err-call-clause-does g t c variables result kinds at is most =
    let program = program_view c.args.scene.program.now in
    let passed = passed_views c.args.passed.now in
    does_early most kinds kinds Any (procedure_of program most c.args.routine passed) c.args.self.now
    c.call.new.self c.in_err-call.field-0.0 c.from_residual-in_err-call.result
    (err_from_is_err_and _ c.from_residual-in_err-call.ensures.1)
    (procedure_stopped program most variables kinds c.args.routine is.0 passed c.args.self.now
    c.arguments.new.self c.in_ok-arguments.arguments
    (c.in_ok-arguments.ensures.does variables result kinds at is.0.parameters is.2 most) c.call.new.self
    c.in_err-call.field-0.0
    (λ values are. c.in_err-call.ensures.does variables result kinds at is.0 is.1 values are most))

pub call_procedure-returns-clause-does : goal.call_procedure-returns-clause-does
call_procedure-returns-clause-does g t c variables result kinds at is most =
    let program = program_view c.args.scene.program.now in
    let passed = passed_views c.args.passed.now in
    procedure_done program most variables kinds c.args.routine is.0 passed c.args.self.now
    c.arguments.new.self c.in_ok-arguments.arguments
    (c.in_ok-arguments.ensures.does variables result kinds at is.0.parameters is.2 most) c.call.new.self
    c.in_ok-call.field-0
    (λ values are. c.in_ok-call.ensures.does variables result kinds at is.0 is.1 values are most)

-- loops

pub while_loop-returns-clause-does : goal.while_loop-returns-clause-does
while_loop-returns-clause-does g t c =
    subst (λ (list : List code_labelled.Labelled). Runs c.args.scene
    (typed.while (value_view c.args.test.now) (statements_view c.args.scene.program.now.spellings list))
    c.args.self.now c.looped.new.self c.looped.result) c.as_slice.ensures c.looped.ensures.does

pub repeat_loop-returns-clause-does : goal.repeat_loop-returns-clause-does
repeat_loop-returns-clause-does g t c =
    subst (λ (list : List code_labelled.Labelled). Runs c.args.scene
    (typed.repeat (statements_view c.args.scene.program.now.spellings list) (value_view c.args.test.now))
    c.args.self.now c.looped.new.self c.looped.result) c.as_slice.ensures c.looped.ensures.does

pub for_loop-returns-clause-does : goal.for_loop-returns-clause-does
for_loop-returns-clause-does g t c =
    subst (λ (list : List code_labelled.Labelled). Runs c.args.scene
    (typed.for (slot_view c.args.head.now.slot) c.args.head.now.way (value_view c.args.head.now.first)
    (value_view c.args.head.now.last) (statements_view c.args.scene.program.now.spellings list))
    c.args.self.now c.for_list.new.self c.for_list.result) c.as_slice.ensures c.for_list.ensures.does

pub looped-returns-in_err-take_step-clause-does : goal.looped-returns-in_err-take_step-clause-does
looped-returns-in_err-take_step-clause-does g t c variables result kinds at is most =
    let program = program_view c.args.scene.program.now in
    let list = statements_view c.args.scene.program.now.spellings c.args.list.now in
    let kind : CodeLoop = c.args.kind in
    does_early most kinds kinds IsFlow (take_step >> loop_of program most kind list) c.args.self.now
    c.take_step.new.self c.in_err-take_step.field-0.0 c.from_residual.result
    (err_from_is_err_and _ c.from_residual.ensures.1)
    (done_stop most kinds IsFlow take_step (loop_of program most kind list) c.args.self.now c.take_step.new.self
    c.in_err-take_step.field-0.0 (goes_of program most (turning kind) (loop_view kind list))
    (c.in_err-take_step.ensures.does most kinds))

pub looped-returns-in_err-take_step-clause-cause : goal.looped-returns-in_err-take_step-clause-cause
looped-returns-in_err-take_step-clause-cause g t c =
    quiet_still (is_port_failed c.from_residual.result) c.args.self.now.files c.take_step.new.self.files
    c.in_err-take_step.ensures.files
    (quiet_early c.args.self.now.files c.in_err-take_step.field-0.0 c.from_residual.result
    (err_from_is_err_and _ c.from_residual.ensures.1) c.in_err-take_step.ensures.quiet)

pub looped-returns-clause-does : goal.looped-returns-clause-does
looped-returns-clause-does g t c variables result kinds at is most =
    let program = program_view c.args.scene.program.now in
    let list = statements_view c.args.scene.program.now.spellings c.args.list.now in
    let kind : CodeLoop = c.args.kind in
    done_next most kinds IsFlow take_step (loop_of program most kind list) c.args.self.now c.take_step.new.self
    c.turns.new.self c.turns.result goes_step (c.in_ok-take_step.ensures.does most kinds)
    (c.turns.ensures.does variables result kinds at is most)

pub turns-loop-init : goal.turns-loop-init
turns-loop-init g t c =
    (refl, λ variables result kinds at is. leads_same kinds IsFlow _ c.args.self.now)

pub turns-loop-preserved : goal.turns-loop-preserved
turns-loop-preserved g t c = (
  c.in_ok-label.ensures.cause ∙ c.in_ok-flow.ensures.cause ∙ c.loop.invariant.0,
  λ variables result kinds at is.
      let program = program_view c.args.scene.program.now in
      let list = statements_view c.args.scene.program.now.spellings c.args.list.now in
      let kind : CodeLoop = c.args.kind in
      let loop = loop_view kind list in
      turn_again kinds (λ most. statement_of program most (turning kind) loop)
      (λ from most. statement_of program most (entry_by (turn_at kind) (turning kind) from) loop)
      (λ from most. turn_of program most kind from list)
      (λ most. looped_of program most list (turn_at kind) (turning kind) loop)
      (loop_from program kind list) (λ from most. goes_turn_of program most kind from list) c.args.self.now c.loop.self
      c.turn.new.self c.loop.from (c.loop.invariant.1 variables result kinds at is) c.in_ok-flow.flow c.in-Again.label
      c.behind_turn.new.self (λ most. c.in_ok-flow.ensures.does variables result kinds at is most)
      (subst (λ (turn : CodeTurn). IsTurn kinds
      (λ from most. statement_of program most (entry_by (turn_at kind) (turning kind) from) loop)
      (λ most. looped_of program most list (turn_at kind) (turning kind) loop (flow_view c.in_ok-flow.flow))
      c.turn.new.self c.behind_turn.new.self (Ok turn)) c.in-Again.is
      (c.in_ok-label.ensures.does c.args.scene.program.now.spellings program kinds (turn_at kind) (turning kind) loop)),
)

pub turns-returns-in_err-flow-clause-does : goal.turns-returns-in_err-flow-clause-does
turns-returns-in_err-flow-clause-does g t c variables result kinds at is most =
    let program = program_view c.args.scene.program.now in
    let list = statements_view c.args.scene.program.now.spellings c.args.list.now in
    let kind : CodeLoop = c.args.kind in
    let loop = loop_view kind list in
    does_early most kinds kinds IsFlow (statement_of program most (turning kind) loop) c.args.self.now c.turn.new.self
    c.in_err-flow.field-0.0 c.from_residual.result
    (err_from_is_err_and _ c.from_residual.ensures.1)
    (turn_stop kinds (λ most. statement_of program most (turning kind) loop)
    (λ from most. statement_of program most (entry_by (turn_at kind) (turning kind) from) loop)
    (λ from most. turn_of program most kind from list)
    (λ most. looped_of program most list (turn_at kind) (turning kind) loop)
    (loop_from program kind list) (λ from most. goes_turn_of program most kind from list) c.args.self.now c.loop.self
    c.turn.new.self c.loop.from (c.loop.invariant.1 variables result kinds at is) c.turn.new.self
    c.in_err-flow.field-0.0 (λ most. goes_looped_of program most list (turn_at kind) (turning kind) loop)
    (λ most. c.in_err-flow.ensures.does variables result kinds at is most) most)

pub turns-returns-in_err-label-clause-does : goal.turns-returns-in_err-label-clause-does
turns-returns-in_err-label-clause-does g t c variables result kinds at is most =
    let program = program_view c.args.scene.program.now in
    let list = statements_view c.args.scene.program.now.spellings c.args.list.now in
    let kind : CodeLoop = c.args.kind in
    let loop = loop_view kind list in
    does_early most kinds kinds IsFlow (statement_of program most (turning kind) loop) c.args.self.now
    c.behind_turn.new.self c.in_err-label.field-0.0 c.from_residual-in_err-label.result
    (err_from_is_err_and _ c.from_residual-in_err-label.ensures.1)
    (turn_over kinds (λ most. statement_of program most (turning kind) loop)
    (λ from most. statement_of program most (entry_by (turn_at kind) (turning kind) from) loop)
    (λ from most. turn_of program most kind from list)
    (λ most. looped_of program most list (turn_at kind) (turning kind) loop)
    (loop_from program kind list) (λ from most. goes_turn_of program most kind from list) c.args.self.now c.loop.self
    c.turn.new.self c.loop.from (c.loop.invariant.1 variables result kinds at is) c.in_ok-flow.flow
    c.behind_turn.new.self
    (Err c.in_err-label.field-0.0) (λ most. c.in_ok-flow.ensures.does variables result kinds at is most)
    (c.in_err-label.ensures.does c.args.scene.program.now.spellings program kinds (turn_at kind) (turning kind) loop)
    most)

pub turns-returns-in-Over-clause-does : goal.turns-returns-in-Over-clause-does
turns-returns-in-Over-clause-does g t c variables result kinds at is most =
    let program = program_view c.args.scene.program.now in
    let list = statements_view c.args.scene.program.now.spellings c.args.list.now in
    let kind : CodeLoop = c.args.kind in
    let loop = loop_view kind list in
    turn_over kinds (λ most. statement_of program most (turning kind) loop)
    (λ from most. statement_of program most (entry_by (turn_at kind) (turning kind) from) loop)
    (λ from most. turn_of program most kind from list)
    (λ most. looped_of program most list (turn_at kind) (turning kind) loop)
    (loop_from program kind list) (λ from most. goes_turn_of program most kind from list) c.args.self.now c.loop.self
    c.turn.new.self c.loop.from (c.loop.invariant.1 variables result kinds at is) c.in_ok-flow.flow
    c.behind_turn.new.self
    (Ok c.in-Over.flow) (λ most. c.in_ok-flow.ensures.does variables result kinds at is most)
    (subst (λ (turn : CodeTurn). IsTurn kinds
    (λ from most. statement_of program most (entry_by (turn_at kind) (turning kind) from) loop)
    (λ most. looped_of program most list (turn_at kind) (turning kind) loop (flow_view c.in_ok-flow.flow))
    c.turn.new.self c.behind_turn.new.self (Ok turn)) c.in-Over.is
    (c.in_ok-label.ensures.does c.args.scene.program.now.spellings program kinds (turn_at kind) (turning kind) loop))
    most

pub turn-returns-in-While-clause-does : goal.turn-returns-in-While-clause-does
turn-returns-in-While-clause-does g t c =
    subst (λ (kind : CodeLoop). Turns c.args.scene kind c.args.from
    (statements_view c.args.scene.program.now.spellings c.args.list.now) c.args.self.now
    c.while_turn.new.self c.while_turn.result) (sym c.in-While.is)
    c.while_turn.ensures.does

pub turn-returns-in-Repeat-clause-does : goal.turn-returns-in-Repeat-clause-does
turn-returns-in-Repeat-clause-does g t c =
    subst (λ (kind : CodeLoop). Turns c.args.scene kind c.args.from
    (statements_view c.args.scene.program.now.spellings c.args.list.now) c.args.self.now
    c.repeat_turn.new.self c.repeat_turn.result) (sym c.in-Repeat.is)
    c.repeat_turn.ensures.does

pub turn-returns-in-For-clause-does : goal.turn-returns-in-For-clause-does
turn-returns-in-For-clause-does g t c =
    subst (λ (kind : CodeLoop). Turns c.args.scene kind c.args.from
    (statements_view c.args.scene.program.now.spellings c.args.list.now) c.args.self.now
    c.for_turn.new.self c.for_turn.result) (sym c.in-For.is)
    (λ variables result kinds at is most.
    let last : to_z w32 (of_z w32 c.in-For.last) ≡ c.in-For.last = search rules in
    subst (λ (number : ℤ). Does most kinds kinds IsFlow (for_turn_of (program_view c.args.scene.program.now) most
    (slot_view c.in-For.head.now.slot) c.in-For.head.now.way number c.args.from
    (statements_view c.args.scene.program.now.spellings c.args.list.now)) c.args.self.now
    c.for_turn.new.self c.for_turn.result) last
    (c.for_turn.ensures.does variables result kinds at (is.0, is.1, is.4) most))

pub while_turn-returns-in-Some-clause-does : goal.while_turn-returns-in-Some-clause-does
while_turn-returns-in-Some-clause-does g t c variables result kinds at is most =
    let program = program_view c.args.scene.program.now in
    let list = statements_view c.args.scene.program.now.spellings c.args.list.now in
    let test = value_view c.args.test.now in
    subst (λ (from : Option ℕ). Does most kinds kinds IsFlow (while_turn_of program most test from list) c.args.self.now
    c.list.new.self c.list.result) (sym c.in-Some.is)
    (c.list.ensures.does variables result kinds at is.1 most)

pub while_turn-returns-in-None-clause-does : goal.while_turn-returns-in-None-clause-does
while_turn-returns-in-None-clause-does g t c variables result kinds at is most =
    let program = program_view c.args.scene.program.now in
    let list = statements_view c.args.scene.program.now.spellings c.args.list.now in
    let test = value_view c.args.test.now in
    subst (λ (from : Option ℕ). Does most kinds kinds IsFlow (while_turn_of program most test from list) c.args.self.now
    c.tested_turn.new.self c.tested_turn.result) (sym c.in-None.is)
    (c.tested_turn.ensures.does variables result kinds at is most)

pub tested_turn-returns-in_err-holds-clause-does : goal.tested_turn-returns-in_err-holds-clause-does
tested_turn-returns-in_err-holds-clause-does g t c variables result kinds at is most =
    let program = program_view c.args.scene.program.now in
    let list = statements_view c.args.scene.program.now.spellings c.args.list.now in
    let test = value_view c.args.test.now in
    does_early most kinds kinds IsFlow (while_turn_of program most test None list) c.args.self.now c.truth.new.self
    c.in_err-holds.field-0.0 c.from_residual.result
    (err_from_is_err_and _ c.from_residual.ensures.1)
    (found_stop {T = CodeFlow} most kinds IsFlow (operand truth_of (value_of program most test))
    (λ (found : Bool). if found then list_of program most None list else pure meaning.leaves) c.args.self.now
    c.truth.new.self c.in_err-holds.field-0.0 (λ (found : Bool). goes_if found (goes_list_of program most None list)
    (goes_pure meaning.leaves))
    (c.in_err-holds.ensures.does variables result kinds at is.0 most))

pub tested_turn-returns-then-holds-clause-does : goal.tested_turn-returns-then-holds-clause-does
tested_turn-returns-then-holds-clause-does g t c variables result kinds at is most =
    let program = program_view c.args.scene.program.now in
    let list = statements_view c.args.scene.program.now.spellings c.args.list.now in
    let test = value_view c.args.test.now in
    found_next most kinds IsFlow (operand truth_of (value_of program most test))
    (λ (found : Bool). if found then list_of program most None list else pure meaning.leaves) c.args.self.now
    c.truth.new.self c.list.new.self true c.list.result
    (goes_operand_alone truth_of (goes_value_of program most test))
    (subst (λ (found : Bool). Does most kinds kinds Same (operand truth_of (value_of program most test))
    c.args.self.now c.truth.new.self (Ok found)) c.if-holds.true
    (c.in_ok-holds.ensures.does variables result kinds at is.0 most))
    (c.list.ensures.does variables result kinds at is.1 most)

pub tested_turn-returns-else-holds-clause-does : goal.tested_turn-returns-else-holds-clause-does
tested_turn-returns-else-holds-clause-does g t c variables result kinds at is most =
    let program = program_view c.args.scene.program.now in
    let list = statements_view c.args.scene.program.now.spellings c.args.list.now in
    let test = value_view c.args.test.now in
    found_next most kinds IsFlow (operand truth_of (value_of program most test))
    (λ (found : Bool). if found then list_of program most None list else pure meaning.leaves) c.args.self.now
    c.truth.new.self c.truth.new.self false (Ok flow.Leaves)
    (goes_operand_alone truth_of (goes_value_of program most test))
    (subst (λ (found : Bool). Does most kinds kinds Same (operand truth_of (value_of program most test))
    c.args.self.now c.truth.new.self (Ok found)) c.if-holds.false
    (c.in_ok-holds.ensures.does variables result kinds at is.0 most))
    (does_pure most kinds IsFlow flow.Leaves meaning.leaves c.truth.new.self refl)

pub until-returns-in_err-holds-clause-does : goal.until-returns-in_err-holds-clause-does
until-returns-in_err-holds-clause-does g t c variables result kinds at is most =
    let program = program_view c.args.scene.program.now in
    let test = value_view c.args.test.now in
    does_early most kinds kinds IsFlow (until_of program most test) c.args.self.now c.truth.new.self
    c.in_err-holds.field-0.0 c.from_residual.result
    (err_from_is_err_and _ c.from_residual.ensures.1)
    (found_stop {T = CodeFlow} most kinds IsFlow (operand truth_of (value_of program most test))
    (λ (found : Bool). if found then pure meaning.leaves else pure meaning.next) c.args.self.now
    c.truth.new.self c.in_err-holds.field-0.0 (λ (found : Bool). goes_if found (goes_pure meaning.leaves)
    (goes_pure meaning.next))
    (c.in_err-holds.ensures.does variables result kinds at is most))

pub until-returns-then-holds-clause-does : goal.until-returns-then-holds-clause-does
until-returns-then-holds-clause-does g t c variables result kinds at is most =
    let program = program_view c.args.scene.program.now in
    let test = value_view c.args.test.now in
    found_next most kinds IsFlow (operand truth_of (value_of program most test))
    (λ (found : Bool). if found then pure meaning.leaves else pure meaning.next) c.args.self.now
    c.truth.new.self c.truth.new.self true (Ok flow.Leaves)
    (goes_operand_alone truth_of (goes_value_of program most test))
    (subst (λ (found : Bool). Does most kinds kinds Same (operand truth_of (value_of program most test))
    c.args.self.now c.truth.new.self (Ok found)) c.if-holds.true
    (c.in_ok-holds.ensures.does variables result kinds at is most))
    (does_pure most kinds IsFlow flow.Leaves meaning.leaves c.truth.new.self refl)

pub until-returns-else-holds-clause-does : goal.until-returns-else-holds-clause-does
until-returns-else-holds-clause-does g t c variables result kinds at is most =
    let program = program_view c.args.scene.program.now in
    let test = value_view c.args.test.now in
    found_next most kinds IsFlow (operand truth_of (value_of program most test))
    (λ (found : Bool). if found then pure meaning.leaves else pure meaning.next) c.args.self.now
    c.truth.new.self c.truth.new.self false (Ok flow.Next)
    (goes_operand_alone truth_of (goes_value_of program most test))
    (subst (λ (found : Bool). Does most kinds kinds Same (operand truth_of (value_of program most test))
    c.args.self.now c.truth.new.self (Ok found)) c.if-holds.false
    (c.in_ok-holds.ensures.does variables result kinds at is most))
    (does_pure most kinds IsFlow flow.Next meaning.next c.truth.new.self refl)

pub repeat_turn-returns-in_err-flow-clause-does : goal.repeat_turn-returns-in_err-flow-clause-does
repeat_turn-returns-in_err-flow-clause-does g t c variables result kinds at is most =
    let program = program_view c.args.scene.program.now in
    let list = statements_view c.args.scene.program.now.spellings c.args.list.now in
    let test = value_view c.args.test.now in
    does_early most kinds kinds IsFlow (repeat_turn_of program most test c.args.from list) c.args.self.now
    c.list.new.self c.in_err-flow.field-0.0 c.from_residual.result
    (err_from_is_err_and _ c.from_residual.ensures.1)
    (on_stop most kinds (list_of program most c.args.from list) (until_of program most test)
    (goes_until_of program most test) c.args.self.now
    c.list.new.self c.in_err-flow.field-0.0 (c.in_err-flow.ensures.does variables result kinds at is.0 most))

pub repeat_turn-returns-in-Next-clause-does : goal.repeat_turn-returns-in-Next-clause-does
repeat_turn-returns-in-Next-clause-does g t c variables result kinds at is most =
    let program = program_view c.args.scene.program.now in
    let list = statements_view c.args.scene.program.now.spellings c.args.list.now in
    let test = value_view c.args.test.now in
    on_next most kinds (list_of program most c.args.from list) (until_of program most test)
    (goes_until_of program most test) c.args.self.now
    c.list.new.self c.until.new.self c.in_ok-flow.flow c.until.result (goes_list_of program most c.args.from list)
    c.in-Next.is
    (c.in_ok-flow.ensures.does variables result kinds at is.0 most)
    (c.until.ensures.does variables result kinds at is.1 most)

pub repeat_turn-returns-in-Leaves-clause-does : goal.repeat_turn-returns-in-Leaves-clause-does
repeat_turn-returns-in-Leaves-clause-does g t c variables result kinds at is most =
    let program = program_view c.args.scene.program.now in
    let list = statements_view c.args.scene.program.now.spellings c.args.list.now in
    let test = value_view c.args.test.now in
    on_past most kinds (list_of program most c.args.from list) (until_of program most test)
    (goes_until_of program most test) c.args.self.now
    c.list.new.self c.in_ok-flow.flow (goes_list_of program most c.args.from list)
    (no_next c.in_ok-flow.flow c.in-Leaves.is)
    (c.in_ok-flow.ensures.does variables result kinds at is.0 most)

pub for_turn-returns-in_err-flow-clause-does : goal.for_turn-returns-in_err-flow-clause-does
for_turn-returns-in_err-flow-clause-does g t c variables result kinds at is most =
    let program = program_view c.args.scene.program.now in
    let list = statements_view c.args.scene.program.now.spellings c.args.list.now in
    let slot = slot_view c.args.head.now.slot in
    let way = c.args.head.now.way in
    does_early most kinds kinds IsFlow (for_turn_of program most slot way c.args.last c.args.from list)
    c.args.self.now c.list.new.self c.in_err-flow.field-0.0 c.from_residual.result
    (err_from_is_err_and _ c.from_residual.ensures.1)
    (on_stop most kinds (list_of program most c.args.from list) (counted_of program most slot way c.args.last)
    (goes_counted_of program most slot way c.args.last) c.args.self.now
    c.list.new.self c.in_err-flow.field-0.0 (c.in_err-flow.ensures.does variables result kinds at is.2 most))

pub for_turn-returns-in-Next-clause-does : goal.for_turn-returns-in-Next-clause-does
for_turn-returns-in-Next-clause-does g t c variables result kinds at is most =
    let program = program_view c.args.scene.program.now in
    let list = statements_view c.args.scene.program.now.spellings c.args.list.now in
    let slot = slot_view c.args.head.now.slot in
    let way = c.args.head.now.way in
    on_next most kinds (list_of program most c.args.from list) (counted_of program most slot way c.args.last)
    (goes_counted_of program most slot way c.args.last) c.args.self.now
    c.list.new.self c.counted.new.self c.in_ok-flow.flow c.counted.result (goes_list_of program most c.args.from list)
    c.in-Next.is
    (c.in_ok-flow.ensures.does variables result kinds at is.2 most)
    (subst (λ (number : ℤ). Does most kinds kinds IsFlow (counted_of program most slot way number) c.list.new.self
    c.counted.new.self c.counted.result) (to_z-of_z c.ranges.last)
    (c.counted.ensures.does variables result kinds at (is.0, is.1) most))

pub for_turn-returns-in-Leaves-clause-does : goal.for_turn-returns-in-Leaves-clause-does
for_turn-returns-in-Leaves-clause-does g t c variables result kinds at is most =
    let program = program_view c.args.scene.program.now in
    let list = statements_view c.args.scene.program.now.spellings c.args.list.now in
    let slot = slot_view c.args.head.now.slot in
    let way = c.args.head.now.way in
    on_past most kinds (list_of program most c.args.from list) (counted_of program most slot way c.args.last)
    (goes_counted_of program most slot way c.args.last) c.args.self.now
    c.list.new.self c.in_ok-flow.flow (goes_list_of program most c.args.from list)
    (no_next c.in_ok-flow.flow c.in-Leaves.is)
    (c.in_ok-flow.ensures.does variables result kinds at is.2 most)

pub for_list-returns-in_err-first-clause-does : goal.for_list-returns-in_err-first-clause-does
for_list-returns-in_err-first-clause-does g t c variables result kinds at is most =
    let program = program_view c.args.scene.program.now in
    let list = statements_view c.args.scene.program.now.spellings c.args.list.now in
    let slot = slot_view c.args.head.now.slot in
    let way = c.args.head.now.way in
    let first = value_view c.args.head.now.first in
    let last = value_view c.args.head.now.last in
    let loop = typed.for slot way first last list in
    does_early most kinds kinds IsFlow (statement_of program most meaning.start loop) c.args.self.now
    c.number.new.self c.in_err-first.field-0.0 c.from_residual.result
    (err_from_is_err_and _ c.from_residual.ensures.1)
    (found_stop {T = CodeFlow} most kinds IsFlow (operand number_of (value_of program most first))
    (λ (low : ℤ). operand number_of (value_of program most last) >>=
    (λ (high : ℤ). for_from_of program most slot way low high
    (take_step >> statement_of program most (meaning.turn high) loop))) c.args.self.now
    c.number.new.self c.in_err-first.field-0.0
    (λ (low : ℤ). goes_operand number_of (goes_value_of program most last)
    (λ (high : ℤ). goes_from_of program most slot (take_step >> statement_of program most (meaning.turn high) loop)
    (goes_then goes_step (goes_of program most (meaning.turn high) loop)) way low high))
    (operand_stop {T = ℤ} most kinds Same number_of (value_of program most first) c.args.self.now c.number.new.self
    c.in_err-first.field-0.0 (c.in_err-first.ensures.does variables result kinds at is.2 most)))

pub for_list-returns-in_err-last-clause-does : goal.for_list-returns-in_err-last-clause-does
for_list-returns-in_err-last-clause-does g t c variables result kinds at is most =
    let program = program_view c.args.scene.program.now in
    let list = statements_view c.args.scene.program.now.spellings c.args.list.now in
    let slot = slot_view c.args.head.now.slot in
    let way = c.args.head.now.way in
    let first = value_view c.args.head.now.first in
    let last = value_view c.args.head.now.last in
    let loop = typed.for slot way first last list in
    does_early most kinds kinds IsFlow (statement_of program most meaning.start loop) c.args.self.now
    c.number-2.new.self c.in_err-last.field-0.0 c.from_residual-in_err-last.result
    (err_from_is_err_and _ c.from_residual-in_err-last.ensures.1)
    (found_next most kinds IsFlow (operand number_of (value_of program most first))
    (λ (low : ℤ). operand number_of (value_of program most last) >>=
    (λ (high : ℤ). for_from_of program most slot way low high
    (take_step >> statement_of program most (meaning.turn high) loop))) c.args.self.now
    c.number.new.self c.number-2.new.self c.in_ok-first.first (Err c.in_err-last.field-0.0)
    (goes_operand_alone number_of (goes_value_of program most first))
    (as_number most kinds (value_of program most first) c.args.self.now c.number.new.self c.in_ok-first.first
    (goes_value_of program most first) (c.in_ok-first.ensures.does variables result kinds at is.2 most))
    (found_stop {T = CodeFlow} most kinds IsFlow (operand number_of (value_of program most last))
    (λ (high : ℤ). for_from_of program most slot way c.in_ok-first.first high
    (take_step >> statement_of program most (meaning.turn high) loop)) c.number.new.self
    c.number-2.new.self c.in_err-last.field-0.0
    (λ (high : ℤ). goes_from_of program most slot (take_step >> statement_of program most (meaning.turn high) loop)
    (goes_then goes_step (goes_of program most (meaning.turn high) loop)) way c.in_ok-first.first high)
    (operand_stop {T = ℤ} most kinds Same number_of (value_of program most last) c.number.new.self c.number-2.new.self
    c.in_err-last.field-0.0 (c.in_err-last.ensures.does variables result kinds at is.3 most))))

pub for_list-returns-clause-does : goal.for_list-returns-clause-does
for_list-returns-clause-does g t c variables result kinds at is most =
    let program = program_view c.args.scene.program.now in
    let list = statements_view c.args.scene.program.now.spellings c.args.list.now in
    let slot = slot_view c.args.head.now.slot in
    let way = c.args.head.now.way in
    let first = value_view c.args.head.now.first in
    let last = value_view c.args.head.now.last in
    let loop = typed.for slot way first last list in
    let first_is : to_z w32 (of_z w32 c.in_ok-first.first) ≡ c.in_ok-first.first = search rules in
    let last_is : to_z w32 (of_z w32 c.in_ok-last.last) ≡ c.in_ok-last.last = search rules in
    found_next most kinds IsFlow (operand number_of (value_of program most first))
    (λ (low : ℤ). operand number_of (value_of program most last) >>=
    (λ (high : ℤ). for_from_of program most slot way low high
    (take_step >> statement_of program most (meaning.turn high) loop))) c.args.self.now
    c.number.new.self c.for_from.new.self c.in_ok-first.first c.for_from.result
    (goes_operand_alone number_of (goes_value_of program most first))
    (as_number most kinds (value_of program most first) c.args.self.now c.number.new.self c.in_ok-first.first
    (goes_value_of program most first) (c.in_ok-first.ensures.does variables result kinds at is.2 most))
    (found_next most kinds IsFlow (operand number_of (value_of program most last))
    (λ (high : ℤ). for_from_of program most slot way c.in_ok-first.first high
    (take_step >> statement_of program most (meaning.turn high) loop)) c.number.new.self
    c.number-2.new.self c.for_from.new.self c.in_ok-last.last c.for_from.result
    (goes_operand_alone number_of (goes_value_of program most last))
    (as_number most kinds (value_of program most last) c.number.new.self c.number-2.new.self c.in_ok-last.last
    (goes_value_of program most last) (c.in_ok-last.ensures.does variables result kinds at is.3 most))
    (subst (λ (number : ℤ). Does most kinds kinds IsFlow (for_from_of program most slot way number c.in_ok-last.last
    (take_step >> statement_of program most (meaning.turn c.in_ok-last.last) loop)) c.number-2.new.self
    c.for_from.new.self
    c.for_from.result) first_is
    (subst (λ (number : ℤ). Does most kinds kinds IsFlow (for_from_of program most slot way
    (to_z w32 (of_z w32 c.in_ok-first.first)) number
    (take_step >> statement_of program most (meaning.turn number) loop)) c.number-2.new.self c.for_from.new.self
    c.for_from.result) last_is
    (c.for_from.ensures.does variables result kinds at is most))))

pub for_from-returns-then-is_past-clause-does : goal.for_from-returns-then-is_past-clause-does
for_from-returns-then-is_past-clause-does g t c variables result kinds at is most =
    let program = program_view c.args.scene.program.now in
    let list = statements_view c.args.scene.program.now.spellings c.args.list.now in
    let slot = slot_view c.args.head.now.slot in
    let way = c.args.head.now.way in
    let loop = typed.for slot way (value_view c.args.head.now.first) (value_view c.args.head.now.last) list in
    let turns = take_step >> statement_of program most (meaning.turn c.args.last) loop in
    let goes_turns = goes_then goes_step (goes_of program most (meaning.turn c.args.last) loop) in
    let past : meaning.is_past way c.args.first c.args.last ≡ true =
    ap₂ (meaning.is_past way) (sym (to_z-of_z c.ranges.first)) (sym (to_z-of_z c.ranges.last))
    ∙ sym c.is_past.ensures ∙ c.if-is_past.true in
    from_past program most slot turns goes_turns kinds way c.args.first c.args.last c.args.self.now c.forget.new.self
    (Ok flow.Next) past
    (done_next most kinds IsFlow (change (meaning.forget slot)) (pure meaning.next) c.args.self.now c.forget.new.self
    c.forget.new.self (Ok flow.Next) (goes_change (meaning.forget slot))
    (c.forget.ensures.does variables result kinds at is.0 is.1 most)
    (does_pure most kinds IsFlow flow.Next meaning.next c.forget.new.self refl))

pub for_from-returns-else-is_past-clause-does : goal.for_from-returns-else-is_past-clause-does
for_from-returns-else-is_past-clause-does g t c variables result kinds at is most =
    let program = program_view c.args.scene.program.now in
    let list = statements_view c.args.scene.program.now.spellings c.args.list.now in
    let slot = slot_view c.args.head.now.slot in
    let way = c.args.head.now.way in
    let loop = typed.for slot way (value_view c.args.head.now.first) (value_view c.args.head.now.last) list in
    let turns = take_step >> statement_of program most (meaning.turn c.args.last) loop in
    let goes_turns = goes_then goes_step (goes_of program most (meaning.turn c.args.last) loop) in
    let past : meaning.is_past way c.args.first c.args.last ≡ false =
    ap₂ (meaning.is_past way) (sym (to_z-of_z c.ranges.first)) (sym (to_z-of_z c.ranges.last))
    ∙ sym c.is_past.ensures ∙ c.if-is_past.false in
    from_between program most slot turns goes_turns kinds way c.args.first c.args.last c.args.self.now
    c.for_between.new.self c.for_between.result past
    (subst (λ (number : ℤ). Does most kinds kinds IsFlow (between_of program slot number c.args.last
    (take_step >> statement_of program most (meaning.turn c.args.last) loop)) c.args.self.now
    c.for_between.new.self c.for_between.result) (to_z-of_z c.ranges.first)
    (subst (λ (number : ℤ). Does most kinds kinds IsFlow (between_of program slot (to_z w32 (of_z w32 c.args.first))
    number
    (take_step >> statement_of program most (meaning.turn number) loop)) c.args.self.now
    c.for_between.new.self c.for_between.result) (to_z-of_z c.ranges.last)
    (c.for_between.ensures.does variables result kinds at is most)))

pub for_between-returns-in_err-low-clause-does : goal.for_between-returns-in_err-low-clause-does
for_between-returns-in_err-low-clause-does g t c variables result kinds at is most =
    let program = program_view c.args.scene.program.now in
    let list = statements_view c.args.scene.program.now.spellings c.args.list.now in
    let slot = slot_view c.args.head.now.slot in
    let way = c.args.head.now.way in
    let loop = typed.for slot way (value_view c.args.head.now.first) (value_view c.args.head.now.last) list in
    let turns = take_step >> statement_of program most (meaning.turn c.args.last) loop in
    let goes_turns = goes_then goes_step (goes_of program most (meaning.turn c.args.last) loop) in
    does_early most kinds kinds IsFlow (between_of program slot c.args.first c.args.last turns) c.args.self.now
    c.args.self.now c.in_err-low.field-0.0 c.from_residual.result
    (err_from_is_err_and _ c.from_residual.ensures.1)
    (between_no_low program most slot turns goes_turns kinds c.args.first c.args.last c.args.self.now
    c.in_err-low.field-0.0 (subst (λ (number : ℤ). Answers {T = ℤ} IsNumber
    (fits program.types slot.type (holds number)) (Err c.in_err-low.field-0.0))
    (to_z-of_z c.ranges.first) c.in_err-low.ensures.number))

pub for_between-returns-in_err-fits-clause-does : goal.for_between-returns-in_err-fits-clause-does
for_between-returns-in_err-fits-clause-does g t c variables result kinds at is most =
    let program = program_view c.args.scene.program.now in
    let list = statements_view c.args.scene.program.now.spellings c.args.list.now in
    let slot = slot_view c.args.head.now.slot in
    let way = c.args.head.now.way in
    let loop = typed.for slot way (value_view c.args.head.now.first) (value_view c.args.head.now.last) list in
    let turns = take_step >> statement_of program most (meaning.turn c.args.last) loop in
    let goes_turns = goes_then goes_step (goes_of program most (meaning.turn c.args.last) loop) in
    does_early most kinds kinds IsFlow (between_of program slot c.args.first c.args.last turns) c.args.self.now
    c.args.self.now c.in_err-fits.field-0.0 c.from_residual-in_err-fits.result
    (err_from_is_err_and _ c.from_residual-in_err-fits.ensures.1)
    (between_no_high program most slot turns goes_turns kinds c.args.first c.args.last c.args.self.now c.in_ok-low.low
    (subst (λ (number : ℤ). Answers {T = ℤ} IsNumber (fits program.types slot.type (holds number)) (Ok c.in_ok-low.low))
    (to_z-of_z c.ranges.first) c.in_ok-low.ensures.number)
    c.in_err-fits.field-0.0 (subst (λ (number : ℤ). Answers {T = ℤ} IsNumber
    (fits program.types slot.type (holds number)) (Err c.in_err-fits.field-0.0))
    (to_z-of_z c.ranges.last) c.in_err-fits.ensures.number))

pub for_between-returns-clause-does : goal.for_between-returns-clause-does
for_between-returns-clause-does g t c variables result kinds at is most =
    let program = program_view c.args.scene.program.now in
    let list = statements_view c.args.scene.program.now.spellings c.args.list.now in
    let slot = slot_view c.args.head.now.slot in
    let way = c.args.head.now.way in
    let loop = typed.for slot way (value_view c.args.head.now.first) (value_view c.args.head.now.last) list in
    let turns = take_step >> statement_of program most (meaning.turn c.args.last) loop in
    let goes_turns = goes_then goes_step (goes_of program most (meaning.turn c.args.last) loop) in
    let low : to_z w32 (of_z w32 c.in_ok-low.low) ≡ c.in_ok-low.low = search rules in
    between_next program most slot turns goes_turns kinds c.args.first c.args.last c.args.self.now c.in_ok-low.low
    (subst (λ (number : ℤ). Answers {T = ℤ} IsNumber (fits program.types slot.type (holds number)) (Ok c.in_ok-low.low))
    (to_z-of_z c.ranges.first) c.in_ok-low.ensures.number)
    _ c.set_number.new.self c.for_turns.new.self c.for_turns.result
    (subst (λ (number : ℤ). Answers {T = ℤ} IsNumber (fits program.types slot.type (holds number))
    (Ok c.in_ok-fits.field-0))
    (to_z-of_z c.ranges.last) c.in_ok-fits.ensures.number)
    (does_stored most kinds slot (holds c.in_ok-low.low) c.args.self.now c.set_number.new.self
    (c.set_number.ensures.does variables result kinds at is.0 [] (ordinal_cell program slot at.lawful is.1) most
    (holds c.in_ok-low.low) tt (ap Some (sym low))))
    (subst (λ (number : ℤ). Does most kinds kinds IsFlow (forgetting slot (take_step >> statement_of program most
    (meaning.turn number) loop)) c.set_number.new.self c.for_turns.new.self c.for_turns.result)
    (to_z-of_z c.ranges.last) (c.for_turns.ensures.does variables result kinds at is most))

pub for_turns-returns-in_err-flow-clause-does : goal.for_turns-returns-in_err-flow-clause-does
for_turns-returns-in_err-flow-clause-does g t c variables result kinds at is most =
    let program = program_view c.args.scene.program.now in
    let list = statements_view c.args.scene.program.now.spellings c.args.list.now in
    let slot = slot_view c.args.head.now.slot in
    let way = c.args.head.now.way in
    let loop = typed.for slot way (value_view c.args.head.now.first) (value_view c.args.head.now.last) list in
    let turns = take_step >> statement_of program most (meaning.turn c.args.last) loop in
    let goes_turns = goes_then goes_step (goes_of program most (meaning.turn c.args.last) loop) in
    does_early most kinds kinds IsFlow (forgetting slot turns) c.args.self.now c.looped.new.self
    c.in_err-flow.field-0.0 c.from_residual.result
    (err_from_is_err_and _ c.from_residual.ensures.1)
    (on_stop most kinds turns (change (meaning.forget slot) >> pure meaning.next)
    (goes_forget_of program most slot turns goes_turns) c.args.self.now c.looped.new.self
    c.in_err-flow.field-0.0 (subst (λ (number : ℤ). Does most kinds kinds IsFlow
    (take_step >> statement_of program most (meaning.turn number) loop)
    c.args.self.now c.looped.new.self (Err c.in_err-flow.field-0.0)) (to_z-of_z c.ranges.last)
    (c.in_err-flow.ensures.does variables result kinds at is most)))

pub for_turns-returns-in-Next-clause-does : goal.for_turns-returns-in-Next-clause-does
for_turns-returns-in-Next-clause-does g t c variables result kinds at is most =
    let program = program_view c.args.scene.program.now in
    let list = statements_view c.args.scene.program.now.spellings c.args.list.now in
    let slot = slot_view c.args.head.now.slot in
    let way = c.args.head.now.way in
    let loop = typed.for slot way (value_view c.args.head.now.first) (value_view c.args.head.now.last) list in
    let turns = take_step >> statement_of program most (meaning.turn c.args.last) loop in
    let goes_turns = goes_then goes_step (goes_of program most (meaning.turn c.args.last) loop) in
    on_next most kinds turns (change (meaning.forget slot) >> pure meaning.next)
    (goes_forget_of program most slot turns goes_turns) c.args.self.now c.looped.new.self c.forget.new.self
    c.in_ok-flow.flow (Ok flow.Next) goes_turns c.in-Next.is (subst
    (λ (number : ℤ). Does most kinds kinds IsFlow (take_step >> statement_of program most (meaning.turn number) loop)
    c.args.self.now c.looped.new.self (Ok c.in_ok-flow.flow)) (to_z-of_z c.ranges.last)
    (c.in_ok-flow.ensures.does variables result kinds at is most))
    (done_next most kinds IsFlow (change (meaning.forget slot)) (pure meaning.next) c.looped.new.self c.forget.new.self
    c.forget.new.self (Ok flow.Next) (goes_change (meaning.forget slot))
    (c.forget.ensures.does variables result kinds at is.0 is.1 most)
    (does_pure most kinds IsFlow flow.Next meaning.next c.forget.new.self refl))

pub for_turns-returns-in-Leaves-clause-does : goal.for_turns-returns-in-Leaves-clause-does
for_turns-returns-in-Leaves-clause-does g t c variables result kinds at is most =
    let program = program_view c.args.scene.program.now in
    let list = statements_view c.args.scene.program.now.spellings c.args.list.now in
    let slot = slot_view c.args.head.now.slot in
    let way = c.args.head.now.way in
    let loop = typed.for slot way (value_view c.args.head.now.first) (value_view c.args.head.now.last) list in
    let turns = take_step >> statement_of program most (meaning.turn c.args.last) loop in
    let goes_turns = goes_then goes_step (goes_of program most (meaning.turn c.args.last) loop) in
    on_past most kinds turns (change (meaning.forget slot) >> pure meaning.next)
    (goes_forget_of program most slot turns goes_turns) c.args.self.now c.looped.new.self
    c.in_ok-flow.flow goes_turns (no_next c.in_ok-flow.flow c.in-Leaves.is)
    (subst (λ (number : ℤ). Does most kinds kinds IsFlow (take_step >> statement_of program most (meaning.turn number)
    loop)
    c.args.self.now c.looped.new.self (Ok c.in_ok-flow.flow)) (to_z-of_z c.ranges.last)
    (c.in_ok-flow.ensures.does variables result kinds at is most))

-- transfers

pub reads-returns-in_err-slot-clause-does : goal.reads-returns-in_err-slot-clause-does
reads-returns-in_err-slot-clause-does g t c variables result kinds at is most =
    let program = program_view c.args.scene.program.now in
    let place = place_view c.args.place.now in
    let items = map place_view c.args.places.now in
    does_early most kinds kinds Any (answered (file_variable place) >>=
    (λ (file : Slot). reads_of program most (components_of program.types place) file items)) c.args.self.now
    c.args.self.now c.in_err-slot.field-0.0 c.from_residual.result
    (err_from_is_err_and _ c.from_residual.ensures.1)
    (no_file_variable most kinds place (λ (file : Slot). reads_of program most (components_of program.types place)
    file items) c.args.self.now
    c.in_err-slot.field-0.0 (λ (file : Slot). goes_reads_of program most (components_of program.types place) file
    items) c.in_err-slot.ensures.variable)

pub reads-returns-clause-does : goal.reads-returns-clause-does
reads-returns-clause-does g t c variables result kinds at is most =
    let program = program_view c.args.scene.program.now in
    let place = place_view c.args.place.now in
    let items = map place_view c.args.places.now in
    let file_is : IsFileSlot program variables (slot_view c.in_ok-slot.slot) =
    subst (IsFileSlot program variables) (sym c.in_ok-slot.ensures.variable.2)
    (file_slot program variables place c.in_ok-slot.ensures.variable.0 c.in_ok-slot.ensures.variable.1 is.0) in
    its_file_variable most kinds place (λ (file : Slot). reads_of program most (components_of program.types place)
    file items) c.args.self.now
    c.read_items.new.self c.in_ok-slot.slot c.read_items.result c.in_ok-slot.ensures.variable
    (λ found same. subst (λ (file : Slot). Does most kinds kinds Any
    (reads_of program most (components_of program.types place) file items) c.args.self.now
    c.read_items.new.self c.read_items.result) same
    (subst (λ (xs : List code_place.Place). Does most kinds kinds Any
    (reads_of program most (components_of program.types place) (slot_view c.in_ok-slot.slot) (map place_view xs))
    c.args.self.now c.read_items.new.self
    c.read_items.result) c.as_slice.ensures
    (subst (λ (type : PasType). Does most kinds kinds Any (reads_of program most type (slot_view c.in_ok-slot.slot)
    (map place_view c.as_slice.result.now)) c.args.self.now
    c.read_items.new.self c.read_items.result) c.components_of.ensures
    (c.read_items.ensures.does variables result kinds at (
      file_is,
      subst (λ (xs : List code_place.Place). All (IsLawfulTarget program variables) (map place_view xs))
          (sym c.as_slice.ensures) is.1,
    ) most))))

pub writes_bytes-returns-in_err-slot-clause-does : goal.writes_bytes-returns-in_err-slot-clause-does
writes_bytes-returns-in_err-slot-clause-does g t c variables result kinds at is most =
    let program = program_view c.args.scene.program.now in
    let place = place_view c.args.place.now in
    let items = map value_view c.args.items.now in
    does_early most kinds kinds Any (answered (file_variable place) >>=
    (λ (file : Slot). bytes_of program most (components_of program.types place) file items)) c.args.self.now
    c.args.self.now c.in_err-slot.field-0.0 c.from_residual.result
    (err_from_is_err_and _ c.from_residual.ensures.1)
    (no_file_variable most kinds place (λ (file : Slot). bytes_of program most (components_of program.types place)
    file items) c.args.self.now
    c.in_err-slot.field-0.0 (λ (file : Slot). goes_bytes_of program most (components_of program.types place) file
    items) c.in_err-slot.ensures.variable)

pub writes_bytes-returns-clause-does : goal.writes_bytes-returns-clause-does
writes_bytes-returns-clause-does g t c variables result kinds at is most =
    let program = program_view c.args.scene.program.now in
    let place = place_view c.args.place.now in
    let items = map value_view c.args.items.now in
    let file_is : IsFileSlot program variables (slot_view c.in_ok-slot.slot) =
    subst (IsFileSlot program variables) (sym c.in_ok-slot.ensures.variable.2)
    (file_slot program variables place c.in_ok-slot.ensures.variable.0 c.in_ok-slot.ensures.variable.1 is.0) in
    its_file_variable most kinds place (λ (file : Slot). bytes_of program most (components_of program.types place)
    file items) c.args.self.now
    c.write_bytes.new.self c.in_ok-slot.slot c.write_bytes.result c.in_ok-slot.ensures.variable
    (λ found same. subst (λ (file : Slot). Does most kinds kinds Any
    (bytes_of program most (components_of program.types place) file items) c.args.self.now
    c.write_bytes.new.self c.write_bytes.result) same
    (subst (λ (xs : List code_value.Value). Does most kinds kinds Any
    (bytes_of program most (components_of program.types place) (slot_view c.in_ok-slot.slot) (map value_view xs))
    c.args.self.now c.write_bytes.new.self
    c.write_bytes.result) c.as_slice.ensures
    (subst (λ (type : PasType). Does most kinds kinds Any (bytes_of program most type (slot_view c.in_ok-slot.slot)
    (map value_view c.as_slice.result.now)) c.args.self.now
    c.write_bytes.new.self c.write_bytes.result) c.components_of.ensures
    (c.write_bytes.ensures.does variables result kinds at (
      file_is,
      subst (λ (xs : List code_value.Value). All (IsLawfulNumber program variables) (map value_view xs))
          (sym c.as_slice.ensures) is.1,
    ) most))))

pub read_items-loop-place-init : goal.read_items-loop-place-init
read_items-loop-place-init g t c =
    (refl, λ variables result kinds at is. (is.1, leads_same {T = Unit {0}} kinds Any _ c.args.self.now))

pub read_items-loop-place-preserved : goal.read_items-loop-place-preserved
read_items-loop-place-preserved g t c = (
  c.in_ok-read_item.ensures.cause ∙ c.loop-place.invariant.0,
  λ variables result kinds at is.
      let program = program_view c.args.scene.program.now in
      let slot = slot_view c.args.slot in
      let type = type_view c.args.component in
      let seen = seen_items place_view c.args.places.now c.loop-place.place-index c.place-item.result
      c.loop-place-test.true c.place-item.is in
      let so_far = c.loop-place.invariant.1 variables result kinds at is in
      let are = first_and_more (IsLawfulTarget program variables) (place_view c.place-item.result)
      (map place_view (drop (c.loop-place.place-index + 1) c.args.places.now))
      (subst (All (IsLawfulTarget program variables)) seen so_far.0) in (
        are.1,
        leads_on {T = Unit {0}} so_far.1
            (each_next {X = code_place.Place} kinds (λ most (xs : List code_place.Place). reads_of program most type
            slot (map place_view xs))
            (λ most (x : code_place.Place). read_item_of program most type slot (place_view x))
            (λ most x xs. refl) (λ most. refl) (λ most (x : code_place.Place). goes_read_item_of program most type
            slot (place_view x))
            (λ most (xs : List code_place.Place). goes_reads_of program most type slot (map place_view xs))
            c.args.places.now c.loop-place.place-index c.place-item.result
            c.loop-place-test.true c.place-item.is c.loop-place.self c.read_item.new.self
            (λ most. (c.in_ok-read_item.ensures.does variables result kinds at (is.0, are.0) most))),
      ),
)

pub read_items-returns-in_err-read_item-clause-does : goal.read_items-returns-in_err-read_item-clause-does
read_items-returns-in_err-read_item-clause-does g t c variables result kinds at is most =
    let program = program_view c.args.scene.program.now in
    let slot = slot_view c.args.slot in
    let type = type_view c.args.component in
    let seen = seen_items place_view c.args.places.now c.loop-place.place-index c.place-item.result
    c.loop-place-test.true c.place-item.is in
    let so_far = c.loop-place.invariant.1 variables result kinds at is in
    let are = first_and_more (IsLawfulTarget program variables) (place_view c.place-item.result)
    (map place_view (drop (c.loop-place.place-index + 1) c.args.places.now))
    (subst (All (IsLawfulTarget program variables)) seen so_far.0) in
    does_early most kinds kinds Any (reads_of program most type slot (map place_view c.args.places.now))
    c.args.self.now c.read_item.new.self c.in_err-read_item.field-0.0 c.from_residual.result
    (err_from_is_err_and _ c.from_residual.ensures.1)
    (so_far.1.each c.read_item.new.self (Err c.in_err-read_item.field-0.0)
    (λ most. each_stop {X = code_place.Place} kinds (λ most (xs : List code_place.Place). reads_of program most type
    slot (map place_view xs))
    (λ most (x : code_place.Place). read_item_of program most type slot (place_view x))
    (λ most x xs. refl) (λ most. refl) (λ most (x : code_place.Place). goes_read_item_of program most type slot
    (place_view x))
    (λ most (xs : List code_place.Place). goes_reads_of program most type slot (map place_view xs)) c.args.places.now
    c.loop-place.place-index c.place-item.result
    c.loop-place-test.true c.place-item.is c.loop-place.self c.read_item.new.self c.in_err-read_item.field-0.0 most
    (c.in_err-read_item.ensures.does variables result kinds at (is.0, are.0) most)) most)

pub read_items-returns-clause-does : goal.read_items-returns-clause-does
read_items-returns-clause-does g t c variables result kinds at is most =
    let program = program_view c.args.scene.program.now in
    let slot = slot_view c.args.slot in
    let type = type_view c.args.component in
    (c.loop-place.invariant.1 variables result kinds at is).1.each c.loop-place.self (Ok (tt {0}))
    (each_end {X = code_place.Place} kinds (λ most (xs : List code_place.Place). reads_of program most type slot
    (map place_view xs))
    (λ most (x : code_place.Place). read_item_of program most type slot (place_view x))
    (λ most x xs. refl) (λ most. refl) (λ most (x : code_place.Place). goes_read_item_of program most type slot
    (place_view x))
    (λ most (xs : List code_place.Place). goes_reads_of program most type slot (map place_view xs)) c.args.places.now
    c.loop-place.place-index c.loop-place.self c.loop-place-test.false) most

pub write_bytes-loop-item-init : goal.write_bytes-loop-item-init
write_bytes-loop-item-init g t c =
    (refl, λ variables result kinds at is. (is.1, leads_same {T = Unit {0}} kinds Any _ c.args.self.now))

pub write_bytes-loop-item-preserved : goal.write_bytes-loop-item-preserved
write_bytes-loop-item-preserved g t c = (
  c.in_ok-write_byte.ensures.cause ∙ c.loop-item.invariant.0,
  λ variables result kinds at is.
      let program = program_view c.args.scene.program.now in
      let slot = slot_view c.args.slot in
      let type = type_view c.args.component in
      let seen = seen_items value_view c.args.items.now c.loop-item.item-index c.item-item.result
      c.loop-item-test.true c.item-item.is in
      let so_far = c.loop-item.invariant.1 variables result kinds at is in
      let are = first_and_more (IsLawfulNumber program variables) (value_view c.item-item.result)
      (map value_view (drop (c.loop-item.item-index + 1) c.args.items.now))
      (subst (All (IsLawfulNumber program variables)) seen so_far.0) in (
        are.1,
        leads_on {T = Unit {0}} so_far.1
            (each_next {X = code_value.Value} kinds (λ most (xs : List code_value.Value). bytes_of program most type
            slot (map value_view xs))
            (λ most (x : code_value.Value). write_byte_of program most type slot (value_view x))
            (λ most x xs. refl) (λ most. refl) (λ most (x : code_value.Value). goes_write_byte_of program most type
            slot (value_view x))
            (λ most (xs : List code_value.Value). goes_bytes_of program most type slot (map value_view xs))
            c.args.items.now c.loop-item.item-index c.item-item.result
            c.loop-item-test.true c.item-item.is c.loop-item.self c.write_byte.new.self
            (λ most. (c.in_ok-write_byte.ensures.does variables result kinds at (is.0, are.0) most))),
      ),
)

pub write_bytes-returns-in_err-write_byte-clause-does : goal.write_bytes-returns-in_err-write_byte-clause-does
write_bytes-returns-in_err-write_byte-clause-does g t c variables result kinds at is most =
    let program = program_view c.args.scene.program.now in
    let slot = slot_view c.args.slot in
    let type = type_view c.args.component in
    let seen = seen_items value_view c.args.items.now c.loop-item.item-index c.item-item.result c.loop-item-test.true
    c.item-item.is in
    let so_far = c.loop-item.invariant.1 variables result kinds at is in
    let are = first_and_more (IsLawfulNumber program variables) (value_view c.item-item.result)
    (map value_view (drop (c.loop-item.item-index + 1) c.args.items.now))
    (subst (All (IsLawfulNumber program variables)) seen so_far.0) in
    does_early most kinds kinds Any (bytes_of program most type slot (map value_view c.args.items.now))
    c.args.self.now c.write_byte.new.self c.in_err-write_byte.field-0.0 c.from_residual.result
    (err_from_is_err_and _ c.from_residual.ensures.1)
    (so_far.1.each c.write_byte.new.self (Err c.in_err-write_byte.field-0.0)
    (λ most. each_stop {X = code_value.Value} kinds (λ most (xs : List code_value.Value). bytes_of program most type
    slot (map value_view xs))
    (λ most (x : code_value.Value). write_byte_of program most type slot (value_view x))
    (λ most x xs. refl) (λ most. refl) (λ most (x : code_value.Value). goes_write_byte_of program most type slot
    (value_view x))
    (λ most (xs : List code_value.Value). goes_bytes_of program most type slot (map value_view xs)) c.args.items.now
    c.loop-item.item-index c.item-item.result
    c.loop-item-test.true c.item-item.is c.loop-item.self c.write_byte.new.self c.in_err-write_byte.field-0.0 most
    (c.in_err-write_byte.ensures.does variables result kinds at (is.0, are.0) most)) most)

pub write_bytes-returns-clause-does : goal.write_bytes-returns-clause-does
write_bytes-returns-clause-does g t c variables result kinds at is most =
    let program = program_view c.args.scene.program.now in
    let slot = slot_view c.args.slot in
    let type = type_view c.args.component in
    (c.loop-item.invariant.1 variables result kinds at is).1.each c.loop-item.self (Ok (tt {0}))
    (each_end {X = code_value.Value} kinds (λ most (xs : List code_value.Value). bytes_of program most type slot
    (map value_view xs))
    (λ most (x : code_value.Value). write_byte_of program most type slot (value_view x))
    (λ most x xs. refl) (λ most. refl) (λ most (x : code_value.Value). goes_write_byte_of program most type slot
    (value_view x))
    (λ most (xs : List code_value.Value). goes_bytes_of program most type slot (map value_view xs)) c.args.items.now
    c.loop-item.item-index c.loop-item.self c.loop-item-test.false) most

pub read_item-returns-in_err-number-clause-does : goal.read_item-returns-in_err-number-clause-does
read_item-returns-in_err-number-clause-does g t c variables result kinds at is most =
    let program = program_view c.args.scene.program.now in
    let slot = slot_view c.args.slot in
    let type = type_view c.args.component in
    let place : Place = place_view c.args.place.now in
    does_early most kinds kinds Any (read_item_of program most type slot place) c.args.self.now c.read_window.new.self
    c.in_err-number.field-0.0 c.from_residual.result
    (err_from_is_err_and _ c.from_residual.ensures.1)
    (first_stops most kinds (value_of program most (typed.read (buffer_of slot type)))
    (assigned_to program most place) (on_file slot (step_of program most typed.get))
    (goes_value_of program most (typed.read (buffer_of slot type)))
    (goes_assigned_to program most kinds c.args.self.now place) (goes_slot_step program most typed.get slot)
    c.args.self.now
    c.read_window.new.self c.in_err-number.field-0.0 (window_read program most kinds type slot c.args.self.now
    c.read_window.new.self (Err c.in_err-number.field-0.0)
    (c.in_err-number.ensures.does variables result kinds at is.0 type most)))

pub read_item-returns-in_err-store-clause-does : goal.read_item-returns-in_err-store-clause-does
read_item-returns-in_err-store-clause-does g t c variables result kinds at is most =
    let program = program_view c.args.scene.program.now in
    let slot = slot_view c.args.slot in
    let type = type_view c.args.component in
    let place : Place = place_view c.args.place.now in
    let found : to_z w32 (of_z w32 c.in_ok-number.number) ≡ c.in_ok-number.number = search rules in
    does_early most kinds kinds Any (read_item_of program most type slot place) c.args.self.now c.store.new.self
    c.in_err-store.field-0.0 c.from_residual-in_err-store.result
    (err_from_is_err_and _ c.from_residual-in_err-store.ensures.1)
    (set_stops most kinds (value_of program most (typed.read (buffer_of slot type)))
    (assigned_to program most place) (on_file slot (step_of program most typed.get))
    (goes_value_of program most (typed.read (buffer_of slot type)))
    (goes_assigned_to program most kinds c.args.self.now place) (goes_slot_step program most typed.get slot)
    c.args.self.now
    c.read_window.new.self c.in_ok-number.number (window_read program most kinds type slot c.args.self.now
    c.read_window.new.self (Ok c.in_ok-number.number)
    (c.in_ok-number.ensures.does variables result kinds at is.0 type most))
    c.store.new.self c.in_err-store.field-0.0 (subst (λ (number : ℤ). Does {T = Unit {0}} most kinds kinds Any
    (assigned_to program most place (holds number))
    c.read_window.new.self c.store.new.self (Err c.in_err-store.field-0.0)) found
    (c.in_err-store.ensures.does variables result kinds at is.1 most)))

pub read_item-returns-clause-does : goal.read_item-returns-clause-does
read_item-returns-clause-does g t c variables result kinds at is most =
    let program = program_view c.args.scene.program.now in
    let slot = slot_view c.args.slot in
    let type = type_view c.args.component in
    let place : Place = place_view c.args.place.now in
    let found : to_z w32 (of_z w32 c.in_ok-number.number) ≡ c.in_ok-number.number = search rules in
    set_next most kinds (value_of program most (typed.read (buffer_of slot type)))
    (assigned_to program most place) (on_file slot (step_of program most typed.get))
    (goes_value_of program most (typed.read (buffer_of slot type)))
    (goes_assigned_to program most kinds c.args.self.now place) (goes_slot_step program most typed.get slot)
    c.args.self.now
    c.read_window.new.self c.in_ok-number.number (window_read program most kinds type slot c.args.self.now
    c.read_window.new.self (Ok c.in_ok-number.number)
    (c.in_ok-number.ensures.does variables result kinds at is.0 type most))
    c.store.new.self c.slot_step.new.self c.slot_step.result (subst
    (λ (number : ℤ). Does {T = Unit {0}} most kinds kinds Any (assigned_to program most place (holds number))
    c.read_window.new.self c.store.new.self (Ok (tt {0}))) found
    (c.in_ok-store.ensures.does variables result kinds at is.1 most))
    (c.slot_step.ensures.does variables result kinds at is.0 most)

pub write_byte-returns-in_err-number-clause-does : goal.write_byte-returns-in_err-number-clause-does
write_byte-returns-in_err-number-clause-does g t c variables result kinds at is most =
    let program = program_view c.args.scene.program.now in
    let slot = slot_view c.args.slot in
    let type = type_view c.args.component in
    let item = value_view c.args.item.now in
    does_early most kinds kinds Any (write_byte_of program most type slot item) c.args.self.now c.number.new.self
    c.in_err-number.field-0.0 c.from_residual.result
    (err_from_is_err_and _ c.from_residual.ensures.1)
    (first_stops most kinds (value_of program most item)
    (assigned_to program most (buffer_of slot type)) (on_file slot (step_of program most typed.put))
    (goes_value_of program most item) (goes_assigned_to program most kinds c.args.self.now (buffer_of slot type))
    (goes_slot_step program most typed.put slot) c.args.self.now
    c.number.new.self c.in_err-number.field-0.0 (c.in_err-number.ensures.does variables result kinds at is.1 most))

pub write_byte-returns-in_err-store_window-clause-does : goal.write_byte-returns-in_err-store_window-clause-does
write_byte-returns-in_err-store_window-clause-does g t c variables result kinds at is most =
    let program = program_view c.args.scene.program.now in
    let slot = slot_view c.args.slot in
    let type = type_view c.args.component in
    let item = value_view c.args.item.now in
    let found : to_z w32 (of_z w32 c.in_ok-number.number) ≡ c.in_ok-number.number = search rules in
    does_early most kinds kinds Any (write_byte_of program most type slot item) c.args.self.now
    c.store_window.new.self c.in_err-store_window.field-0.0 c.from_residual-in_err-store_window.result
    (err_from_is_err_and _ c.from_residual-in_err-store_window.ensures.1)
    (set_stops most kinds (value_of program most item)
    (assigned_to program most (buffer_of slot type)) (on_file slot (step_of program most typed.put))
    (goes_value_of program most item) (goes_assigned_to program most kinds c.args.self.now (buffer_of slot type))
    (goes_slot_step program most typed.put slot) c.args.self.now
    c.number.new.self c.in_ok-number.number (c.in_ok-number.ensures.does variables result kinds at is.1 most)
    c.store_window.new.self c.in_err-store_window.field-0.0 (window_stored program most kinds type slot
    c.number.new.self c.store_window.new.self (holds c.in_ok-number.number) (Err c.in_err-store_window.field-0.0)
    (subst (λ (number : ℤ). Does {T = Unit {0}} most kinds kinds Any
    (store_at program.types type (window slot type) (holds number))
    c.number.new.self c.store_window.new.self (Err c.in_err-store_window.field-0.0)) found
    (c.in_err-store_window.ensures.does variables result kinds at is.0 type most))))

pub write_byte-returns-clause-does : goal.write_byte-returns-clause-does
write_byte-returns-clause-does g t c variables result kinds at is most =
    let program = program_view c.args.scene.program.now in
    let slot = slot_view c.args.slot in
    let type = type_view c.args.component in
    let item = value_view c.args.item.now in
    let found : to_z w32 (of_z w32 c.in_ok-number.number) ≡ c.in_ok-number.number = search rules in
    set_next most kinds (value_of program most item)
    (assigned_to program most (buffer_of slot type)) (on_file slot (step_of program most typed.put))
    (goes_value_of program most item) (goes_assigned_to program most kinds c.args.self.now (buffer_of slot type))
    (goes_slot_step program most typed.put slot) c.args.self.now
    c.number.new.self c.in_ok-number.number (c.in_ok-number.ensures.does variables result kinds at is.1 most)
    c.store_window.new.self c.slot_step.new.self c.slot_step.result
    (window_stored program most kinds type slot c.number.new.self c.store_window.new.self
    (holds c.in_ok-number.number) (Ok (tt {0}))
    (subst (λ (number : ℤ). Does {T = Unit {0}} most kinds kinds Any
    (store_at program.types type (window slot type) (holds number))
    c.number.new.self c.store_window.new.self (Ok (tt {0}))) found
    (c.in_ok-store_window.ensures.does variables result kinds at is.0 type most)))
    (c.slot_step.ensures.does variables result kinds at is.0 most)

-- what is written on texts, and lines

pub writes-returns-in_err-slot-clause-does : goal.writes-returns-in_err-slot-clause-does
writes-returns-in_err-slot-clause-does g t c variables result kinds at is most =
    let program = program_view c.args.scene.program.now in
    let place = place_view c.args.place.now in
    let items = map (item_view c.args.scene.program.now.spellings) c.args.items.now in
    does_early most kinds kinds Any (answered (file_variable place) >>=
    (λ (file : Slot). writes_of program most file items)) c.args.self.now c.args.self.now c.in_err-slot.field-0.0
    c.from_residual.result
    (err_from_is_err_and _ c.from_residual.ensures.1)
    (no_file_variable most kinds place (λ (file : Slot). writes_of program most file items) c.args.self.now
    c.in_err-slot.field-0.0 (λ (file : Slot). goes_writes_of program most file items) c.in_err-slot.ensures.variable)

pub writes-returns-clause-does : goal.writes-returns-clause-does
writes-returns-clause-does g t c variables result kinds at is most =
    let program = program_view c.args.scene.program.now in
    let place = place_view c.args.place.now in
    let items = map (item_view c.args.scene.program.now.spellings) c.args.items.now in
    let file_is : IsFileSlot program variables (slot_view c.in_ok-slot.slot) =
    subst (IsFileSlot program variables) (sym c.in_ok-slot.ensures.variable.2)
    (file_slot program variables place c.in_ok-slot.ensures.variable.0 c.in_ok-slot.ensures.variable.1 is.0) in
    its_file_variable most kinds place (λ (file : Slot). writes_of program most file items) c.args.self.now
    c.write_items.new.self c.in_ok-slot.slot c.write_items.result c.in_ok-slot.ensures.variable
    (λ found same. subst (λ (file : Slot). Does most kinds kinds Any (writes_of program most file items) c.args.self.now
    c.write_items.new.self c.write_items.result) same
    (subst (λ (xs : List CodeItem). Does most kinds kinds Any
    (writes_of program most (slot_view c.in_ok-slot.slot) (map (item_view c.args.scene.program.now.spellings) xs))
    c.args.self.now c.write_items.new.self
    c.write_items.result) c.as_slice.ensures
    (c.write_items.ensures.does variables result kinds at (
      file_is,
      subst (λ (xs : List CodeItem). All (IsLawfulItem program variables)
          (map (item_view c.args.scene.program.now.spellings) xs))
          (sym c.as_slice.ensures) is.1,
    ) most)))

pub write_items-loop-item-init : goal.write_items-loop-item-init
write_items-loop-item-init g t c =
    (refl, λ variables result kinds at is. (is.1, leads_same {T = Unit {0}} kinds Any _ c.args.self.now))

pub write_items-loop-item-preserved : goal.write_items-loop-item-preserved
write_items-loop-item-preserved g t c = (
  c.in_ok-write_item.ensures.cause ∙ c.loop-item.invariant.0,
  λ variables result kinds at is.
      let program = program_view c.args.scene.program.now in
      let slot = slot_view c.args.slot in
      let seen = seen_items (item_view c.args.scene.program.now.spellings) c.args.items.now c.loop-item.item-index
      c.item-item.result c.loop-item-test.true c.item-item.is in
      let so_far = c.loop-item.invariant.1 variables result kinds at is in
      let are = first_and_more (IsLawfulItem program variables)
      ((item_view c.args.scene.program.now.spellings) c.item-item.result)
      (map (item_view c.args.scene.program.now.spellings) (drop (c.loop-item.item-index + 1) c.args.items.now))
      (subst (All (IsLawfulItem program variables)) seen so_far.0) in (
        are.1,
        leads_on {T = Unit {0}} so_far.1
            (each_next {X = CodeItem} kinds (λ most (xs : List CodeItem). writes_of program most slot
            (map (item_view c.args.scene.program.now.spellings) xs))
            (λ most (x : CodeItem). write_item_of program most slot ((item_view c.args.scene.program.now.spellings) x))
            (λ most x xs. refl) (λ most. refl) (λ most (x : CodeItem). goes_write_item_of program most slot
            ((item_view c.args.scene.program.now.spellings) x))
            (λ most (xs : List CodeItem). goes_writes_of program most slot
            (map (item_view c.args.scene.program.now.spellings) xs)) c.args.items.now c.loop-item.item-index
            c.item-item.result
            c.loop-item-test.true c.item-item.is c.loop-item.self c.write_item.new.self
            (λ most. (c.in_ok-write_item.ensures.does variables result kinds at (is.0, are.0) most))),
      ),
)

pub write_items-returns-in_err-write_item-clause-does : goal.write_items-returns-in_err-write_item-clause-does
write_items-returns-in_err-write_item-clause-does g t c variables result kinds at is most =
    let program = program_view c.args.scene.program.now in
    let slot = slot_view c.args.slot in
    let seen = seen_items (item_view c.args.scene.program.now.spellings) c.args.items.now c.loop-item.item-index
    c.item-item.result c.loop-item-test.true c.item-item.is in
    let so_far = c.loop-item.invariant.1 variables result kinds at is in
    let are = first_and_more (IsLawfulItem program variables)
    ((item_view c.args.scene.program.now.spellings) c.item-item.result)
    (map (item_view c.args.scene.program.now.spellings) (drop (c.loop-item.item-index + 1) c.args.items.now))
    (subst (All (IsLawfulItem program variables)) seen so_far.0) in
    does_early most kinds kinds Any (writes_of program most slot
    (map (item_view c.args.scene.program.now.spellings) c.args.items.now)) c.args.self.now c.write_item.new.self
    c.in_err-write_item.field-0.0 c.from_residual.result
    (err_from_is_err_and _ c.from_residual.ensures.1)
    (so_far.1.each c.write_item.new.self (Err c.in_err-write_item.field-0.0)
    (λ most. each_stop {X = CodeItem} kinds (λ most (xs : List CodeItem). writes_of program most slot
    (map (item_view c.args.scene.program.now.spellings) xs))
    (λ most (x : CodeItem). write_item_of program most slot ((item_view c.args.scene.program.now.spellings) x))
    (λ most x xs. refl) (λ most. refl) (λ most (x : CodeItem). goes_write_item_of program most slot
    ((item_view c.args.scene.program.now.spellings) x))
    (λ most (xs : List CodeItem). goes_writes_of program most slot
    (map (item_view c.args.scene.program.now.spellings) xs)) c.args.items.now c.loop-item.item-index c.item-item.result
    c.loop-item-test.true c.item-item.is c.loop-item.self c.write_item.new.self c.in_err-write_item.field-0.0 most
    (c.in_err-write_item.ensures.does variables result kinds at (is.0, are.0) most)) most)

pub write_items-returns-clause-does : goal.write_items-returns-clause-does
write_items-returns-clause-does g t c variables result kinds at is most =
    let program = program_view c.args.scene.program.now in
    let slot = slot_view c.args.slot in
    (c.loop-item.invariant.1 variables result kinds at is).1.each c.loop-item.self (Ok (tt {0}))
    (each_end {X = CodeItem} kinds (λ most (xs : List CodeItem). writes_of program most slot
    (map (item_view c.args.scene.program.now.spellings) xs))
    (λ most (x : CodeItem). write_item_of program most slot ((item_view c.args.scene.program.now.spellings) x))
    (λ most x xs. refl) (λ most. refl) (λ most (x : CodeItem). goes_write_item_of program most slot
    ((item_view c.args.scene.program.now.spellings) x))
    (λ most (xs : List CodeItem). goes_writes_of program most slot
    (map (item_view c.args.scene.program.now.spellings) xs)) c.args.items.now c.loop-item.item-index c.loop-item.self
    c.loop-item-test.false) most

pub write_item-returns-in-Number-clause-does : goal.write_item-returns-in-Number-clause-does
write_item-returns-in-Number-clause-does g t c =
    subst (λ (item : CodeItem). WritesItem c.args.scene (slot_view c.args.slot)
    (item_view c.args.scene.program.now.spellings item) c.args.self.now
    c.write_number_item.new.self c.write_number_item.result) (sym c.in-Number.is) c.write_number_item.ensures.does

pub write_item-returns-in-Char-clause-does : goal.write_item-returns-in-Char-clause-does
write_item-returns-in-Char-clause-does g t c =
    subst (λ (item : CodeItem). WritesItem c.args.scene (slot_view c.args.slot)
    (item_view c.args.scene.program.now.spellings item) c.args.self.now
    c.write_char_item.new.self c.write_char_item.result) (sym c.in-Char.is) c.write_char_item.ensures.does

pub write_item-returns-in-Text-clause-does : goal.write_item-returns-in-Text-clause-does
write_item-returns-in-Text-clause-does g t c =
    subst (λ (item : CodeItem). WritesItem c.args.scene (slot_view c.args.slot)
    (item_view c.args.scene.program.now.spellings item) c.args.self.now
    c.write_text_item.new.self c.write_text_item.result) (sym c.in-Text.is) c.write_text_item.ensures.does

pub width_or-returns-in-Some-clause-does : goal.width_or-returns-in-Some-clause-does
width_or-returns-in-Some-clause-does g t c own same variables result kinds at is most =
    let program = program_view c.args.scene.program.now in
    let value = value_view c.in-Some.value in
    subst (λ (given : Option code_value.Value). IfSome (option_map value_view given) (IsLawfulNumber program variables)
    → Does most kinds kinds Same (width_of program most own (option_map value_view given)) c.args.self.now
    c.number.new.self c.number.result) (sym c.in-Some.is)
    (λ is. as_operand most kinds (value_of program most value) c.args.self.now c.number.new.self c.number.result
    (goes_value_of program most value) (c.number.ensures.does variables result kinds at is most)) is

pub width_or-returns-in-None-clause-does : goal.width_or-returns-in-None-clause-does
width_or-returns-in-None-clause-does g t c own same variables result kinds at is most =
    let program = program_view c.args.scene.program.now in
    subst (λ (given : Option code_value.Value). Does most kinds kinds Same
    (width_of program most own (option_map value_view given)) c.args.self.now c.args.self.now
    (Ok (to_z w32 (of_z w32 c.args.width)))) (sym c.in-None.is)
    (does_pure most kinds Same (to_z w32 (of_z w32 c.args.width)) (pos own) c.args.self.now
    (to_z-of_z c.ranges.width ∙ sym same))

pub byte-returns-in_err-number-clause-does : goal.byte-returns-in_err-number-clause-does
byte-returns-in_err-number-clause-does g t c variables result kinds at is most =
    let program = program_view c.args.scene.program.now in
    let value = value_view c.args.value.now in
    does_early most kinds kinds Same (operand (byte_of OUT_OF_RANGE) (value_of program most value)) c.args.self.now
    c.number.new.self c.in_err-number.field-0.0 c.from_residual.result
    (err_from_is_err_and _ c.from_residual.ensures.1)
    (operand_stop {T = ℕ} most kinds Same (byte_of OUT_OF_RANGE) (value_of program most value) c.args.self.now
    c.number.new.self
    c.in_err-number.field-0.0 (c.in_err-number.ensures.does variables result kinds at is most))

pub byte-returns-clause-does : goal.byte-returns-clause-does
byte-returns-clause-does g t c variables result kinds at is most =
    let program = program_view c.args.scene.program.now in
    let value = value_view c.args.value.now in
    let found : to_z w32 (of_z w32 c.in_ok-number.number) ≡ c.in_ok-number.number = search rules in
    operand_next most kinds Same (byte_of OUT_OF_RANGE) (value_of program most value) c.args.self.now c.number.new.self
    c.in_ok-number.number c.byte_of.result (goes_value_of program most value)
    (c.in_ok-number.ensures.does variables result kinds at is most)
    (subst (λ number. Answers Same (byte_of OUT_OF_RANGE (holds number)) c.byte_of.result) found c.byte_of.ensures)

pub write_number_item-returns-in_err-number-clause-does : goal.write_number_item-returns-in_err-number-clause-does
write_number_item-returns-in_err-number-clause-does g t c variables result kinds at is most =
    let program = program_view c.args.scene.program.now in
    let slot = slot_view c.args.slot in
    let given = option_map value_view c.args.given.now in
    let value = value_view c.args.value.now in
    let item = typed.number_item value given in
    does_early most kinds kinds Any (write_item_of program most slot item) c.args.self.now c.number.new.self
    c.in_err-number.field-0.0 c.from_residual.result
    (err_from_is_err_and _ c.from_residual.ensures.1)
    (found_stop {T = Unit {0}} most kinds Any (operand number_of (value_of program most value))
    (λ found. width_of program most 1 given >>= (λ width. field_of program most slot
    (λ field. files.number_in_field field found) width)) c.args.self.now c.number.new.self
    c.in_err-number.field-0.0 (λ found. goes_bind (goes_width_of program most 1 given)
    (λ width. goes_field_of program most slot (λ field. files.number_in_field field found) width))
    (operand_stop {T = ℤ} most kinds Same number_of (value_of program most value) c.args.self.now c.number.new.self
    c.in_err-number.field-0.0 (c.in_err-number.ensures.does variables result kinds at is.1.0 most)))

pub write_number_item-returns-in_err-width-clause-does : goal.write_number_item-returns-in_err-width-clause-does
write_number_item-returns-in_err-width-clause-does g t c variables result kinds at is most =
    let program = program_view c.args.scene.program.now in
    let slot = slot_view c.args.slot in
    let given = option_map value_view c.args.given.now in
    let value = value_view c.args.value.now in
    let item = typed.number_item value given in
    does_early most kinds kinds Any (write_item_of program most slot item) c.args.self.now c.width_or.new.self
    c.in_err-width.field-0.0 c.from_residual-in_err-width.result
    (err_from_is_err_and _ c.from_residual-in_err-width.ensures.1)
    (found_next most kinds Any (operand number_of (value_of program most value))
    (λ found. width_of program most 1 given >>= (λ width. field_of program most slot
    (λ field. files.number_in_field field found) width)) c.args.self.now c.number.new.self c.width_or.new.self
    c.in_ok-number.number (Err c.in_err-width.field-0.0) (goes_operand_alone number_of
    (goes_value_of program most value)) (as_number most kinds (value_of program most value) c.args.self.now
    c.number.new.self c.in_ok-number.number
    (goes_value_of program most value) (c.in_ok-number.ensures.does variables result kinds at is.1.0 most))
    (found_stop {T = Unit {0}} most kinds Any (width_of program most 1 given)
    (λ width. field_of program most slot (λ field. files.number_in_field field c.in_ok-number.number) width)
    c.number.new.self c.width_or.new.self
    c.in_err-width.field-0.0 (λ width. goes_field_of program most slot
    (λ field. files.number_in_field field c.in_ok-number.number) width)
    (c.in_err-width.ensures.does 1 refl variables result kinds at is.1.1 most)))

pub write_number_item-returns-in_err-file-clause-does : goal.write_number_item-returns-in_err-file-clause-does
write_number_item-returns-in_err-file-clause-does g t c variables result kinds at is most =
    let program = program_view c.args.scene.program.now in
    let slot = slot_view c.args.slot in
    let given = option_map value_view c.args.given.now in
    let value = value_view c.args.value.now in
    let item = typed.number_item value given in
    does_early most kinds kinds Any (write_item_of program most slot item) c.args.self.now c.width_or.new.self
    c.in_err-file.field-0.0 c.from_residual-in_err-file.result
    (err_from_is_err_and _ c.from_residual-in_err-file.ensures.1)
    (found_next most kinds Any (operand number_of (value_of program most value))
    (λ found. width_of program most 1 given >>= (λ width. field_of program most slot
    (λ field. files.number_in_field field found) width)) c.args.self.now c.number.new.self c.width_or.new.self
    c.in_ok-number.number (Err c.in_err-file.field-0.0) (goes_operand_alone number_of
    (goes_value_of program most value)) (as_number most kinds (value_of program most value) c.args.self.now
    c.number.new.self c.in_ok-number.number
    (goes_value_of program most value) (c.in_ok-number.ensures.does variables result kinds at is.1.0 most))
    (found_next most kinds Any (width_of program most 1 given)
    (λ width. field_of program most slot (λ field. files.number_in_field field c.in_ok-number.number) width)
    c.number.new.self c.width_or.new.self c.width_or.new.self c.in_ok-width.width (Err c.in_err-file.field-0.0)
    (goes_width_of program most 1 given) (c.in_ok-width.ensures.does 1 refl variables result kinds at is.1.1 most)
    (on_no_file most kinds slot (λ number. append number (files.written
    (λ field. files.number_in_field field c.in_ok-number.number) c.in_ok-width.width))
    (λ number. goes_append number (files.written (λ field. files.number_in_field field c.in_ok-number.number)
    c.in_ok-width.width)) c.width_or.new.self c.in_err-file.field-0.0
    (does_question most kinds Same (file_of slot) c.width_or.new.self _
    (c.in_err-file.ensures.file variables result kinds at is.0)))))

pub write_number_item-returns-clause-does : goal.write_number_item-returns-clause-does
write_number_item-returns-clause-does g t c variables result kinds at is most =
    let program = program_view c.args.scene.program.now in
    let slot = slot_view c.args.slot in
    let given = option_map value_view c.args.given.now in
    let value = value_view c.args.value.now in
    let item = typed.number_item value given in
    let found : to_z w32 (of_z w32 c.in_ok-number.number) ≡ c.in_ok-number.number = search rules in
    let width : to_z w32 (of_z w32 c.in_ok-width.width) ≡ c.in_ok-width.width = search rules in
    found_next most kinds Any (operand number_of (value_of program most value))
    (λ found. width_of program most 1 given >>= (λ width. field_of program most slot
    (λ field. files.number_in_field field found) width)) c.args.self.now c.number.new.self c.write_number.new.self
    c.in_ok-number.number c.write_number.result (goes_operand_alone number_of (goes_value_of program most value))
    (as_number most kinds (value_of program most value) c.args.self.now c.number.new.self c.in_ok-number.number
    (goes_value_of program most value) (c.in_ok-number.ensures.does variables result kinds at is.1.0 most))
    (found_next most kinds Any (width_of program most 1 given)
    (λ width. field_of program most slot (λ field. files.number_in_field field c.in_ok-number.number) width)
    c.number.new.self c.width_or.new.self c.write_number.new.self c.in_ok-width.width c.write_number.result
    (goes_width_of program most 1 given) (c.in_ok-width.ensures.does 1 refl variables result kinds at is.1.1 most)
    (on_its_file most kinds slot (λ number. append number (files.written
    (λ field. files.number_in_field field c.in_ok-number.number) c.in_ok-width.width))
    (λ number. goes_append number (files.written (λ field. files.number_in_field field c.in_ok-number.number)
    c.in_ok-width.width)) c.width_or.new.self
    c.write_number.new.self c.in_ok-file.file c.write_number.result
    (does_question most kinds Same (file_of slot) c.width_or.new.self _
    (c.in_ok-file.ensures.file variables result kinds at is.0))
    (subst (λ (number : ℤ). Does most kinds kinds Any (append c.in_ok-file.file
    (files.written (λ field. files.number_in_field field number)
    c.in_ok-width.width)) c.width_or.new.self c.write_number.new.self c.write_number.result) found
    (subst (λ (width : ℤ). Does most kinds kinds Any (append c.in_ok-file.file (files.written
    (λ field. files.number_in_field field (to_z w32 (of_z w32 c.in_ok-number.number))) width)) c.width_or.new.self
    c.write_number.new.self c.write_number.result) width (c.write_number.ensures.does most kinds)))))

pub write_char_item-returns-in_err-byte-clause-does : goal.write_char_item-returns-in_err-byte-clause-does
write_char_item-returns-in_err-byte-clause-does g t c variables result kinds at is most =
    let program = program_view c.args.scene.program.now in
    let slot = slot_view c.args.slot in
    let given = option_map value_view c.args.given.now in
    let value = value_view c.args.value.now in
    let item = typed.char_item value given in
    does_early most kinds kinds Any (write_item_of program most slot item) c.args.self.now c.byte.new.self
    c.in_err-byte.field-0.0 c.from_residual.result
    (err_from_is_err_and _ c.from_residual.ensures.1)
    (found_stop {T = Unit {0}} most kinds Any (operand (byte_of OUT_OF_RANGE) (value_of program most value))
    (λ found. width_of program most 1 given >>= (λ width. field_of program most slot
    (λ field. files.char_in_field field found) width)) c.args.self.now c.byte.new.self
    c.in_err-byte.field-0.0 (λ found. goes_bind (goes_width_of program most 1 given)
    (λ width. goes_field_of program most slot (λ field. files.char_in_field field found) width))
    (c.in_err-byte.ensures.does variables result kinds at is.1.0 most))

pub write_char_item-returns-in_err-width-clause-does : goal.write_char_item-returns-in_err-width-clause-does
write_char_item-returns-in_err-width-clause-does g t c variables result kinds at is most =
    let program = program_view c.args.scene.program.now in
    let slot = slot_view c.args.slot in
    let given = option_map value_view c.args.given.now in
    let value = value_view c.args.value.now in
    let item = typed.char_item value given in
    does_early most kinds kinds Any (write_item_of program most slot item) c.args.self.now c.width_or.new.self
    c.in_err-width.field-0.0 c.from_residual-in_err-width.result
    (err_from_is_err_and _ c.from_residual-in_err-width.ensures.1)
    (found_next most kinds Any (operand (byte_of OUT_OF_RANGE) (value_of program most value))
    (λ found. width_of program most 1 given >>= (λ width. field_of program most slot
    (λ field. files.char_in_field field found) width)) c.args.self.now c.byte.new.self c.width_or.new.self
    c.in_ok-byte.byte (Err c.in_err-width.field-0.0) (goes_operand_alone (byte_of OUT_OF_RANGE)
    (goes_value_of program most value)) (c.in_ok-byte.ensures.does variables result kinds at is.1.0 most)
    (found_stop {T = Unit {0}} most kinds Any (width_of program most 1 given)
    (λ width. field_of program most slot (λ field. files.char_in_field field c.in_ok-byte.byte) width) c.byte.new.self
    c.width_or.new.self
    c.in_err-width.field-0.0 (λ width. goes_field_of program most slot
    (λ field. files.char_in_field field c.in_ok-byte.byte) width)
    (c.in_err-width.ensures.does 1 refl variables result kinds at is.1.1 most)))

pub write_char_item-returns-in_err-file-clause-does : goal.write_char_item-returns-in_err-file-clause-does
write_char_item-returns-in_err-file-clause-does g t c variables result kinds at is most =
    let program = program_view c.args.scene.program.now in
    let slot = slot_view c.args.slot in
    let given = option_map value_view c.args.given.now in
    let value = value_view c.args.value.now in
    let item = typed.char_item value given in
    does_early most kinds kinds Any (write_item_of program most slot item) c.args.self.now c.width_or.new.self
    c.in_err-file.field-0.0 c.from_residual-in_err-file.result
    (err_from_is_err_and _ c.from_residual-in_err-file.ensures.1)
    (found_next most kinds Any (operand (byte_of OUT_OF_RANGE) (value_of program most value))
    (λ found. width_of program most 1 given >>= (λ width. field_of program most slot
    (λ field. files.char_in_field field found) width)) c.args.self.now c.byte.new.self c.width_or.new.self
    c.in_ok-byte.byte (Err c.in_err-file.field-0.0) (goes_operand_alone (byte_of OUT_OF_RANGE)
    (goes_value_of program most value)) (c.in_ok-byte.ensures.does variables result kinds at is.1.0 most)
    (found_next most kinds Any (width_of program most 1 given)
    (λ width. field_of program most slot (λ field. files.char_in_field field c.in_ok-byte.byte) width) c.byte.new.self
    c.width_or.new.self c.width_or.new.self c.in_ok-width.width (Err c.in_err-file.field-0.0)
    (goes_width_of program most 1 given) (c.in_ok-width.ensures.does 1 refl variables result kinds at is.1.1 most)
    (on_no_file most kinds slot (λ number. append number (files.written
    (λ field. files.char_in_field field c.in_ok-byte.byte) c.in_ok-width.width))
    (λ number. goes_append number (files.written (λ field. files.char_in_field field c.in_ok-byte.byte)
    c.in_ok-width.width)) c.width_or.new.self c.in_err-file.field-0.0
    (does_question most kinds Same (file_of slot) c.width_or.new.self _
    (c.in_err-file.ensures.file variables result kinds at is.0)))))

pub write_char_item-returns-clause-does : goal.write_char_item-returns-clause-does
write_char_item-returns-clause-does g t c variables result kinds at is most =
    let program = program_view c.args.scene.program.now in
    let slot = slot_view c.args.slot in
    let given = option_map value_view c.args.given.now in
    let value = value_view c.args.value.now in
    let item = typed.char_item value given in
    let width : to_z w32 (of_z w32 c.in_ok-width.width) ≡ c.in_ok-width.width = search rules in
    found_next most kinds Any (operand (byte_of OUT_OF_RANGE) (value_of program most value))
    (λ found. width_of program most 1 given >>= (λ width. field_of program most slot
    (λ field. files.char_in_field field found) width)) c.args.self.now c.byte.new.self c.write_char.new.self
    c.in_ok-byte.byte c.write_char.result (goes_operand_alone (byte_of OUT_OF_RANGE)
    (goes_value_of program most value)) (c.in_ok-byte.ensures.does variables result kinds at is.1.0 most)
    (found_next most kinds Any (width_of program most 1 given)
    (λ width. field_of program most slot (λ field. files.char_in_field field c.in_ok-byte.byte) width) c.byte.new.self
    c.width_or.new.self c.write_char.new.self c.in_ok-width.width c.write_char.result
    (goes_width_of program most 1 given) (c.in_ok-width.ensures.does 1 refl variables result kinds at is.1.1 most)
    (on_its_file most kinds slot (λ number. append number (files.written
    (λ field. files.char_in_field field c.in_ok-byte.byte) c.in_ok-width.width))
    (λ number. goes_append number (files.written (λ field. files.char_in_field field c.in_ok-byte.byte)
    c.in_ok-width.width)) c.width_or.new.self
    c.write_char.new.self c.in_ok-file.file c.write_char.result
    (does_question most kinds Same (file_of slot) c.width_or.new.self _
    (c.in_ok-file.ensures.file variables result kinds at is.0))
    (subst (λ (width : ℤ). Does most kinds kinds Any (append c.in_ok-file.file (files.written
    (λ field. files.char_in_field field c.in_ok-byte.byte) width)) c.width_or.new.self
    c.write_char.new.self c.write_char.result) width (c.write_char.ensures.does most kinds))))

pub write_text_item-returns-in_err-width-clause-does : goal.write_text_item-returns-in_err-width-clause-does
write_text_item-returns-in_err-width-clause-does g t c variables result kinds at is most =
    let program = program_view c.args.scene.program.now in
    let slot = slot_view c.args.slot in
    let given = option_map value_view c.args.given.now in
    let bytes = undoubled (spelled_in c.args.scene.program.now.spellings c.args.text) in
    let item = typed.string_item bytes given in
    let own : to_z w32 (of_z w32 c.in_ok-own.own) ≡ c.in_ok-own.own = search rules in
    does_early most kinds kinds Any (write_item_of program most slot item) c.args.self.now c.width_or.new.self
    c.in_err-width.field-0.0 c.from_residual-in_err-width.result
    (err_from_is_err_and _ c.from_residual-in_err-width.ensures.1)
    (found_stop {T = Unit {0}} most kinds Any (width_of program most (length bytes) given)
    (λ width. field_of program most slot (λ field. files.string_in_field field bytes) width) c.args.self.now
    c.width_or.new.self
    c.in_err-width.field-0.0 (λ width. goes_field_of program most slot (λ field. files.string_in_field field bytes)
    width) (c.in_err-width.ensures.does (length bytes) (ap (λ (spelled : List ℕ). pos (length (undoubled spelled)))
    (sym c.spelled-bytes.ensures) ∙ c.in_ok-own.ensures.width ∙ sym own) variables result kinds at is.1 most))

pub write_text_item-returns-in_err-file-clause-does : goal.write_text_item-returns-in_err-file-clause-does
write_text_item-returns-in_err-file-clause-does g t c variables result kinds at is most =
    let program = program_view c.args.scene.program.now in
    let slot = slot_view c.args.slot in
    let given = option_map value_view c.args.given.now in
    let bytes = undoubled (spelled_in c.args.scene.program.now.spellings c.args.text) in
    let item = typed.string_item bytes given in
    let own : to_z w32 (of_z w32 c.in_ok-own.own) ≡ c.in_ok-own.own = search rules in
    does_early most kinds kinds Any (write_item_of program most slot item) c.args.self.now c.width_or.new.self
    c.in_err-file.field-0.0 c.from_residual-in_err-file.result
    (err_from_is_err_and _ c.from_residual-in_err-file.ensures.1)
    (found_next most kinds Any (width_of program most (length bytes) given)
    (λ width. field_of program most slot (λ field. files.string_in_field field bytes) width) c.args.self.now
    c.width_or.new.self c.width_or.new.self c.in_ok-width.width (Err c.in_err-file.field-0.0)
    (goes_width_of program most (length bytes) given) (c.in_ok-width.ensures.does (length bytes)
    (ap (λ (spelled : List ℕ). pos (length (undoubled spelled))) (sym c.spelled-bytes.ensures)
    ∙ c.in_ok-own.ensures.width ∙ sym own)
    variables result kinds at is.1 most)
    (on_no_file most kinds slot (λ number. append number (files.written (λ field. files.string_in_field field bytes)
    c.in_ok-width.width))
    (λ number. goes_append number (files.written (λ field. files.string_in_field field bytes) c.in_ok-width.width))
    c.width_or.new.self c.in_err-file.field-0.0
    (does_question most kinds Same (file_of slot) c.width_or.new.self _
    (c.in_err-file.ensures.file variables result kinds at is.0))))

pub write_text_item-returns-clause-does : goal.write_text_item-returns-clause-does
write_text_item-returns-clause-does g t c variables result kinds at is most =
    let program = program_view c.args.scene.program.now in
    let slot = slot_view c.args.slot in
    let given = option_map value_view c.args.given.now in
    let bytes = undoubled (spelled_in c.args.scene.program.now.spellings c.args.text) in
    let item = typed.string_item bytes given in
    let own : to_z w32 (of_z w32 c.in_ok-own.own) ≡ c.in_ok-own.own = search rules in
    let width : to_z w32 (of_z w32 c.in_ok-width.width) ≡ c.in_ok-width.width = search rules in
    found_next most kinds Any (width_of program most (length bytes) given)
    (λ width. field_of program most slot (λ field. files.string_in_field field bytes) width) c.args.self.now
    c.width_or.new.self c.write_quoted.new.self c.in_ok-width.width c.write_quoted.result
    (goes_width_of program most (length bytes) given) (c.in_ok-width.ensures.does (length bytes)
    (ap (λ (spelled : List ℕ). pos (length (undoubled spelled))) (sym c.spelled-bytes.ensures)
    ∙ c.in_ok-own.ensures.width ∙ sym own)
    variables result kinds at is.1 most)
    (on_its_file most kinds slot (λ number. append number (files.written (λ field. files.string_in_field field bytes)
    c.in_ok-width.width))
    (λ number. goes_append number (files.written (λ field. files.string_in_field field bytes) c.in_ok-width.width))
    c.width_or.new.self
    c.write_quoted.new.self c.in_ok-file.file c.write_quoted.result
    (does_question most kinds Same (file_of slot) c.width_or.new.self _
    (c.in_ok-file.ensures.file variables result kinds at is.0))
    (subst (λ (spelled : List ℕ). Does most kinds kinds Any (append c.in_ok-file.file
    (files.written (λ field. files.string_in_field field (undoubled spelled))
    c.in_ok-width.width)) c.width_or.new.self c.write_quoted.new.self c.write_quoted.result) c.spelled-bytes.ensures
    (subst (λ (width : ℤ). Does most kinds kinds Any (append c.in_ok-file.file (files.written
    (λ field. files.string_in_field field (undoubled c.spelled-bytes.result.now)) width)) c.width_or.new.self
    c.write_quoted.new.self c.write_quoted.result) width (c.write_quoted.ensures.does most kinds))))

pub write_text_item-returns-in_err-own-clause-does : goal.write_text_item-returns-in_err-own-clause-does
write_text_item-returns-in_err-own-clause-does g t c variables result kinds at is most =
    let program = program_view c.args.scene.program.now in
    let slot = slot_view c.args.slot in
    let given = option_map value_view c.args.given.now in
    let bytes = undoubled (spelled_in c.args.scene.program.now.spellings c.args.text) in
    let item = typed.string_item bytes given in
    does_early most kinds kinds Any (write_item_of program most slot item) c.args.self.now c.args.self.now
    c.in_err-own.field-0.0 c.from_residual.result
    (err_from_is_err_and _ c.from_residual.ensures.1)
    (subst (λ (why : Stop). Does {T = Unit {0}} most kinds kinds Any (write_item_of program most slot item)
    c.args.self.now c.args.self.now
    (Err why)) (sym c.in_err-own.ensures.memory)
    (does_no_memory {T = Unit {0}} most kinds kinds Any (write_item_of program most slot item) c.args.self.now
    c.args.self.now))

pub write_text_item-returns-in_err-own-clause-cause : goal.write_text_item-returns-in_err-own-clause-cause
write_text_item-returns-in_err-own-clause-cause g t c =
    quiet_early c.args.self.now.files c.in_err-own.field-0.0 c.from_residual.result
    (err_from_is_err_and _ c.from_residual.ensures.1) (ap is_failure c.in_err-own.ensures.memory)

pub reads_line-returns-in_err-slot-clause-does : goal.reads_line-returns-in_err-slot-clause-does
reads_line-returns-in_err-slot-clause-does g t c variables result kinds at is most =
    let program = program_view c.args.scene.program.now in
    let place = place_view c.args.place.now in
    let items = map place_view c.args.places.now in
    does_early most kinds kinds Any (answered (file_variable place) >>=
    (λ (file : Slot). reads_of program most (components_of program.types place) file items >> on_file file
    (λ number. change_file number files.readln))) c.args.self.now c.args.self.now c.in_err-slot.field-0.0
    c.from_residual.result
    (err_from_is_err_and _ c.from_residual.ensures.1)
    (no_file_variable most kinds place (λ (file : Slot). reads_of program most (components_of program.types place)
    file items >> on_file file (λ number. change_file number files.readln)) c.args.self.now
    c.in_err-slot.field-0.0 (λ (file : Slot). goes_then (goes_reads_of program most
    (components_of program.types place) file items)
    (goes_on_file file (λ number. change_file number files.readln)
    (λ number. goes_change_file number files.readln readln_keeps))) c.in_err-slot.ensures.variable)

pub reads_line-returns-clause-does : goal.reads_line-returns-clause-does
reads_line-returns-clause-does g t c variables result kinds at is most =
    let program = program_view c.args.scene.program.now in
    let place = place_view c.args.place.now in
    let items = map place_view c.args.places.now in
    let file_is : IsFileSlot program variables (slot_view c.in_ok-slot.slot) =
    subst (IsFileSlot program variables) (sym c.in_ok-slot.ensures.variable.2)
    (file_slot program variables place c.in_ok-slot.ensures.variable.0 c.in_ok-slot.ensures.variable.1 is.0) in
    its_file_variable most kinds place (λ (file : Slot). reads_of program most (components_of program.types place)
    file items >> on_file file (λ number. change_file number files.readln)) c.args.self.now
    c.read_line.new.self c.in_ok-slot.slot c.read_line.result c.in_ok-slot.ensures.variable
    (λ found same. subst (λ (file : Slot). Does most kinds kinds Any
    (reads_of program most (components_of program.types place) file items >> on_file file
    (λ number. change_file number files.readln)) c.args.self.now
    c.read_line.new.self c.read_line.result) same
    (subst (λ (xs : List code_place.Place). Does most kinds kinds Any
    (reads_of program most (components_of program.types place) (slot_view c.in_ok-slot.slot) (map place_view xs) >>
    on_file (slot_view c.in_ok-slot.slot) (λ number. change_file number files.readln)) c.args.self.now
    c.read_line.new.self
    c.read_line.result) c.as_slice.ensures
    (subst (λ (type : PasType). Does most kinds kinds Any (reads_of program most type (slot_view c.in_ok-slot.slot)
    (map place_view c.as_slice.result.now) >> on_file (slot_view c.in_ok-slot.slot)
    (λ number. change_file number files.readln)) c.args.self.now
    c.read_line.new.self c.read_line.result) c.components_of.ensures
    (c.read_line.ensures.does variables result kinds at (
      file_is,
      subst (λ (xs : List code_place.Place). All (IsLawfulTarget program variables) (map place_view xs))
          (sym c.as_slice.ensures) is.1,
    ) most))))

pub writes_line-returns-in_err-slot-clause-does : goal.writes_line-returns-in_err-slot-clause-does
writes_line-returns-in_err-slot-clause-does g t c variables result kinds at is most =
    let program = program_view c.args.scene.program.now in
    let place = place_view c.args.place.now in
    let items = map (item_view c.args.scene.program.now.spellings) c.args.items.now in
    does_early most kinds kinds Any (answered (file_variable place) >>=
    (λ (file : Slot). writes_of program most file items >> on_file file (λ number. append number files.writeln)))
    c.args.self.now c.args.self.now c.in_err-slot.field-0.0 c.from_residual.result
    (err_from_is_err_and _ c.from_residual.ensures.1)
    (no_file_variable most kinds place (λ (file : Slot). writes_of program most file items >> on_file file
    (λ number. append number files.writeln)) c.args.self.now
    c.in_err-slot.field-0.0 (λ (file : Slot). goes_then (goes_writes_of program most file items)
    (goes_on_file file (λ number. append number files.writeln) (λ number. goes_append number files.writeln)))
    c.in_err-slot.ensures.variable)

pub writes_line-returns-clause-does : goal.writes_line-returns-clause-does
writes_line-returns-clause-does g t c variables result kinds at is most =
    let program = program_view c.args.scene.program.now in
    let place = place_view c.args.place.now in
    let items = map (item_view c.args.scene.program.now.spellings) c.args.items.now in
    let file_is : IsFileSlot program variables (slot_view c.in_ok-slot.slot) =
    subst (IsFileSlot program variables) (sym c.in_ok-slot.ensures.variable.2)
    (file_slot program variables place c.in_ok-slot.ensures.variable.0 c.in_ok-slot.ensures.variable.1 is.0) in
    its_file_variable most kinds place (λ (file : Slot). writes_of program most file items >> on_file file
    (λ number. append number files.writeln)) c.args.self.now
    c.write_line.new.self c.in_ok-slot.slot c.write_line.result c.in_ok-slot.ensures.variable
    (λ found same. subst (λ (file : Slot). Does most kinds kinds Any
    (writes_of program most file items >> on_file file (λ number. append number files.writeln)) c.args.self.now
    c.write_line.new.self c.write_line.result) same
    (subst (λ (xs : List CodeItem). Does most kinds kinds Any
    (writes_of program most (slot_view c.in_ok-slot.slot) (map (item_view c.args.scene.program.now.spellings) xs) >>
    on_file (slot_view c.in_ok-slot.slot) (λ number. append number files.writeln)) c.args.self.now c.write_line.new.self
    c.write_line.result) c.as_slice.ensures
    (c.write_line.ensures.does variables result kinds at (
      file_is,
      subst (λ (xs : List CodeItem). All (IsLawfulItem program variables)
          (map (item_view c.args.scene.program.now.spellings) xs))
          (sym c.as_slice.ensures) is.1,
    ) most)))

pub read_line-returns-in_err-read_items-clause-does : goal.read_line-returns-in_err-read_items-clause-does
read_line-returns-in_err-read_items-clause-does g t c variables result kinds at is most =
    let program = program_view c.args.scene.program.now in
    let slot = slot_view c.args.slot in
    let type = type_view c.args.component in
    let items = map place_view c.args.places.now in
    does_early most kinds kinds Any (reads_of program most type slot items >> on_file slot
    (λ number. change_file number files.readln)) c.args.self.now c.read_items.new.self c.in_err-read_items.field-0.0
    c.from_residual.result
    (err_from_is_err_and _ c.from_residual.ensures.1)
    (done_stop {T = Unit {0}} most kinds Any (reads_of program most type slot items)
    (on_file slot (λ number. change_file number files.readln)) c.args.self.now c.read_items.new.self
    c.in_err-read_items.field-0.0
    (goes_on_file slot (λ number. change_file number files.readln)
    (λ number. goes_change_file number files.readln readln_keeps))
    (c.in_err-read_items.ensures.does variables result kinds at is most))

pub read_line-returns-clause-does : goal.read_line-returns-clause-does
read_line-returns-clause-does g t c variables result kinds at is most =
    let program = program_view c.args.scene.program.now in
    let slot = slot_view c.args.slot in
    let type = type_view c.args.component in
    let items = map place_view c.args.places.now in
    done_next most kinds Any (reads_of program most type slot items)
    (on_file slot (λ number. change_file number files.readln)) c.args.self.now c.read_items.new.self
    c.pass_line.new.self c.pass_line.result
    (goes_reads_of program most type slot items) (c.in_ok-read_items.ensures.does variables result kinds at is most)
    (c.pass_line.ensures.does variables result kinds at is.0 most)

pub write_line-returns-in_err-write_items-clause-does : goal.write_line-returns-in_err-write_items-clause-does
write_line-returns-in_err-write_items-clause-does g t c variables result kinds at is most =
    let program = program_view c.args.scene.program.now in
    let slot = slot_view c.args.slot in
    let items = map (item_view c.args.scene.program.now.spellings) c.args.items.now in
    does_early most kinds kinds Any (writes_of program most slot items >> on_file slot
    (λ number. append number files.writeln)) c.args.self.now c.write_items.new.self c.in_err-write_items.field-0.0
    c.from_residual.result
    (err_from_is_err_and _ c.from_residual.ensures.1)
    (done_stop {T = Unit {0}} most kinds Any (writes_of program most slot items)
    (on_file slot (λ number. append number files.writeln)) c.args.self.now c.write_items.new.self
    c.in_err-write_items.field-0.0
    (goes_on_file slot (λ number. append number files.writeln) (λ number. goes_append number files.writeln))
    (c.in_err-write_items.ensures.does variables result kinds at is most))

pub write_line-returns-clause-does : goal.write_line-returns-clause-does
write_line-returns-clause-does g t c variables result kinds at is most =
    let program = program_view c.args.scene.program.now in
    let slot = slot_view c.args.slot in
    let items = map (item_view c.args.scene.program.now.spellings) c.args.items.now in
    done_next most kinds Any (writes_of program most slot items)
    (on_file slot (λ number. append number files.writeln)) c.args.self.now c.write_items.new.self c.end_line.new.self
    c.end_line.result
    (goes_writes_of program most slot items) (c.in_ok-write_items.ensures.does variables result kinds at is most)
    (c.end_line.ensures.does variables result kinds at is.0 most)
