use Rattle.std.proofs.Common.{sym, ap, subst, ◌∙◌, List, ℕ, [], ◌∷◌, ◌++◌, ◌+◌, take, get_or, Ok, Err}
use Rattle.std.proofs.lemmas.Result.{err_from_is_err_and}
use Rattle.pas_tokens.specs.declared.kinds.Kind.TheVariants as k
use Rattle.pas_syntax.specs.declared.tree.Behind.{Behind as CodeBehind}
use Rattle.pas_syntax.specs.declared.tree.Simple.{Simple as CodeSimple}
use Rattle.pas_syntax.specs.declared.tree.Simple.TheVariants as simple
use Rattle.pas_syntax.specs.Tree.{Simple}
use Rattle.pas_syntax.specs.Views.{simple_in, separated_in}
use Rattle.pas_syntax.specs.Words.{separated, simple_words}
use Rattle.pas_typed.specs.declared.types.Range.{Range as CodeRange}
use Rattle.pas_typed.specs.Types.{Table}
use Rattle.pas_typed.specs.TypeViews.{table_view}
use Rattle.pas_scopes.specs.declared.scopes.Scopes.{Scopes as CodeScopes}
use Rattle.pas_rules.specs.Marks.{checked}
use Rattle.pas_rules.specs.TypeForms.{index_only, simple_of, indexes_of}
use Rattle.pas_scopes.specs.ScopeViews.{IsClear}
use Rattle.pas_scopes.specs.Answers.{FailsBy, Means}
use Rattle.pas_scopes.specs.TypeAnswers.{IsIndex}
use Rattle.pas_scopes.specs.FormAnswers.{indexes_view}
use Rattle.pas_scopes.proofs.KeptLemmas.{spellings_kept, agrees_kept}
use Rattle.pas_scopes.proofs.SequenceLemmas.{settles_if_stop}
use Rattle.pas_scopes.proofs.IndexLemmas.{SoFar, first_means, first_fails, seen_behind, all_indexes, index_more}
use Rattle.pas_scopes.proofs.IndexLemmas.{index_stopped, indexes_mean}
use Rattle.std.proofs.Common.{Option}
use Rattle.std.specs.Prelude.{unwrap_or, option_map}
use Rattle.pas_rules.specs.TypeForms.{Indexes}
use Rattle.pas_scopes.specs.Constants.{IsUnknownBy}
use Rattle.pas_scopes.proofs.UnknownLemmas.{of_none, unknown_stop, first_unknown, index_unknown}
use Rattle.pas_scopes.proofs.GrowthLemmas.{grows_on}
use Rattle.pas_scopes.proofs.type_forms.indexes_of.Goals as goal

abbrev no_index : CodeBehind CodeSimple
no_index =
    record { line = 0; item = simple.Named (record { span = record { first = 0; count = 0 }; line = 0 }) }

pub returns-in_err-index_of-clause-answers : goal.returns-in_err-index_of-clause-answers
returns-in_err-index_of-clause-answers c s same n =
    let spellings = c.args.scopes.now.spellings.now in
    let table : Table = table_view spellings c.args.scopes.now.types in
    let all = separated_in (simple_in spellings) c.args.head.now.indexes in
    settles_if_stop (IsClear s) (separated n k.Comma (simple_words n) all) (indexes_of s table all)
    (indexes_view (table_view c.index_of.new.scopes.spellings.now c.index_of.new.scopes.types))
    c.in_err-index_of.field-0.0 c.from_residual.result (err_from_is_err_and _ c.from_residual.ensures.1)
    (λ clear. first_fails s table n (simple_in spellings c.args.head.now.indexes.first)
    (seen_behind spellings c.args.head.now.indexes.more) c.in_err-index_of.field-0.0
    (c.in_err-index_of.ensures.answers s same n clear))

pub loop-behind-init : goal.loop-behind-init
loop-behind-init c = record {
  kept = c.in_ok-index_of.ensures.kept;
  grows = c.in_ok-index_of.ensures.grows;
  means = λ s same n.
      let spellings = c.args.scopes.now.spellings.now in
      let table : Table = table_view spellings c.args.scopes.now.types in
      let first : Simple = simple_in spellings c.args.head.now.indexes.first in
      let next : Table = table_view c.index_of.new.scopes.spellings.now c.index_of.new.scopes.types in
      subst (λ (ranges : List CodeRange). SoFar s table n first [] ranges next)
      (sym (c.in_ok-push.ensures.ok ∙ ap (λ (ranges : List CodeRange). ranges ++ c.in_ok-index_of.field-0 ∷ [])
      c.new-ranges.ensures))
      (first_means s table n first next c.in_ok-index_of.field-0 (c.in_ok-index_of.ensures.answers s same n));
}

pub returns-in_err-index_of-2-clause-answers : goal.returns-in_err-index_of-2-clause-answers
returns-in_err-index_of-2-clause-answers c s same n =
    let spellings = c.args.scopes.now.spellings.now in
    let table : Table = table_view spellings c.args.scopes.now.types in
    let first : Simple = simple_in spellings c.args.head.now.indexes.first in
    let all = separated_in (simple_in spellings) c.args.head.now.indexes in
    let now : Table = table_view c.loop-behind.scopes.spellings.now c.loop-behind.scopes.types in
    let why = c.in_err-index_of-2.field-0.0 in
    let items = c.as_slice-behind-items.result.now in
    settles_if_stop (IsClear s) (separated n k.Comma (simple_words n) all) (indexes_of s table all)
    (indexes_view (table_view c.index_of-in-loop-behind.new.scopes.spellings.now
    c.index_of-in-loop-behind.new.scopes.types))
    why c.from_residual-in_err-index_of-2.result
    (err_from_is_err_and _ c.from_residual-in_err-index_of-2.ensures.1)
    (subst (λ (more : List (CodeBehind CodeSimple)). IsClear s
    → FailsBy (separated n k.Comma (simple_words n) (all_indexes first (seen_behind spellings more)))
    (indexes_of s table (all_indexes first (seen_behind spellings more))).marks why) c.as_slice-behind-items.ensures
    (index_stopped (IsClear s) s table n first spellings items c.loop-behind.behind-index no_index
    c.loop-behind.ranges now (c.loop-behind.invariant.means s same n) c.loop-behind-test.true why
    (subst (λ (seen : List ℕ). IsIndex (IsClear s) (simple_words n (simple_in seen (get_or items
    c.loop-behind.behind-index no_index).item))
    (checked index_only (simple_of s now (simple_in seen (get_or items c.loop-behind.behind-index no_index).item)))
    now (Err why))
    (spellings_kept c.args.scopes.now c.loop-behind.scopes c.loop-behind.invariant.kept)
    (c.in_err-index_of-2.ensures.answers s (agrees_kept c.args.scopes.now c.loop-behind.scopes
    c.loop-behind.invariant.kept s same) n))))

pub loop-behind-preserved : goal.loop-behind-preserved
loop-behind-preserved c = record {
  kept = c.in_ok-index_of-2.ensures.kept
      ∙ ap (λ (scopes : CodeScopes). record scopes { types = c.index_of-in-loop-behind.new.scopes.types })
      c.loop-behind.invariant.kept;
  grows = grows_on c.args.scopes.now.types c.loop-behind.scopes.types c.index_of-in-loop-behind.new.scopes.types
      c.loop-behind.invariant.grows c.in_ok-index_of-2.ensures.grows;
  means = λ s same n.
      let spellings = c.args.scopes.now.spellings.now in
      let table : Table = table_view spellings c.args.scopes.now.types in
      let first : Simple = simple_in spellings c.args.head.now.indexes.first in
      let items = c.as_slice-behind-items.result.now in
      let now : Table = table_view c.loop-behind.scopes.spellings.now c.loop-behind.scopes.types in
      let next : Table =
      table_view c.index_of-in-loop-behind.new.scopes.spellings.now c.index_of-in-loop-behind.new.scopes.types in
      subst (λ (ranges : List CodeRange). SoFar s table n first
      (seen_behind spellings (take (c.loop-behind.behind-index + 1) items)) ranges next)
      (sym c.in_ok-push-2.ensures.ok)
      (index_more (IsClear s) s table n first spellings items c.loop-behind.behind-index no_index c.loop-behind.ranges
      now (c.loop-behind.invariant.means s same n) c.loop-behind-test.true next c.in_ok-index_of-2.field-0
      (subst (λ (seen : List ℕ). IsIndex (IsClear s) (simple_words n (simple_in seen (get_or items
      c.loop-behind.behind-index no_index).item))
      (checked index_only (simple_of s now (simple_in seen (get_or items c.loop-behind.behind-index
      no_index).item))) next (Ok c.in_ok-index_of-2.field-0))
      (spellings_kept c.args.scopes.now c.loop-behind.scopes c.loop-behind.invariant.kept)
      (c.in_ok-index_of-2.ensures.answers s (agrees_kept c.args.scopes.now c.loop-behind.scopes
      c.loop-behind.invariant.kept s same) n)));
}

pub returns-clause-answers : goal.returns-clause-answers
returns-clause-answers c s same n =
    let spellings = c.args.scopes.now.spellings.now in
    let table : Table = table_view spellings c.args.scopes.now.types in
    let first : Simple = simple_in spellings c.args.head.now.indexes.first in
    let now : Table = table_view c.loop-behind.scopes.spellings.now c.loop-behind.scopes.types in
    subst (λ (more : List (CodeBehind CodeSimple)).
    Means (separated n k.Comma (simple_words n) (all_indexes first (seen_behind spellings more)))
    (indexes_of s table (all_indexes first (seen_behind spellings more))) (indexes_view now c.loop-behind.ranges))
    c.as_slice-behind-items.ensures
    (indexes_mean (IsClear s) s table n first spellings c.as_slice-behind-items.result.now c.loop-behind.behind-index
    no_index c.loop-behind.ranges now (c.loop-behind.invariant.means s same n) c.loop-behind-test.false)

pub returns-in_err-index_of-clause-unknown : goal.returns-in_err-index_of-clause-unknown
returns-in_err-index_of-clause-unknown c s same =
    let spellings = c.args.scopes.now.spellings.now in
    let table : Table = table_view spellings c.args.scopes.now.types in
    let first : Simple = simple_in spellings c.args.head.now.indexes.first in
    let all = separated_in (simple_in spellings) c.args.head.now.indexes in
    let why = c.in_err-index_of.field-0.0 in
    unknown_stop (indexes_of s table all) why c.from_residual.result
    (err_from_is_err_and _ c.from_residual.ensures.1)
    (of_none (checked index_only (simple_of s table first)) (indexes_of s table all) why
    (first_unknown s table first (seen_behind spellings c.args.head.now.indexes.more))
    (c.in_err-index_of.ensures.unknown s same))

pub returns-in_err-index_of-2-clause-unknown : goal.returns-in_err-index_of-2-clause-unknown
returns-in_err-index_of-2-clause-unknown c s same =
    let spellings = c.args.scopes.now.spellings.now in
    let table : Table = table_view spellings c.args.scopes.now.types in
    let first : Simple = simple_in spellings c.args.head.now.indexes.first in
    let all = separated_in (simple_in spellings) c.args.head.now.indexes in
    let now : Table = table_view c.loop-behind.scopes.spellings.now c.loop-behind.scopes.types in
    let why = c.in_err-index_of-2.field-0.0 in
    let items = c.as_slice-behind-items.result.now in
    let item : Simple = simple_in spellings (get_or items c.loop-behind.behind-index no_index).item in
    unknown_stop (indexes_of s table all) why c.from_residual-in_err-index_of-2.result
    (err_from_is_err_and _ c.from_residual-in_err-index_of-2.ensures.1)
    (of_none (checked index_only (simple_of s now item)) (indexes_of s table all) why
    (λ none. ap (λ (more : List (CodeBehind CodeSimple)).
    (indexes_of s table (all_indexes first (seen_behind spellings more))).value) (sym c.as_slice-behind-items.ensures)
    ∙ index_unknown s table first spellings items c.loop-behind.behind-index no_index now c.loop-behind-test.true
    (ap (λ (value : Option Indexes). unwrap_or (option_map (λ (indexes : Indexes). indexes.table) value) table)
    (c.loop-behind.invariant.means s same 0).known) none)
    (subst (λ (seen : List ℕ). IsUnknownBy (checked index_only (simple_of s now (simple_in seen
    (get_or items c.loop-behind.behind-index no_index).item))) why)
    (spellings_kept c.args.scopes.now c.loop-behind.scopes c.loop-behind.invariant.kept)
    (c.in_err-index_of-2.ensures.unknown s
    (agrees_kept c.args.scopes.now c.loop-behind.scopes c.loop-behind.invariant.kept s same))))

pub returns-in_err-index_of-2-clause-grows : goal.returns-in_err-index_of-2-clause-grows
returns-in_err-index_of-2-clause-grows c =
    grows_on c.args.scopes.now.types c.loop-behind.scopes.types c.index_of-in-loop-behind.new.scopes.types
    c.loop-behind.invariant.grows c.in_err-index_of-2.ensures.grows

pub returns-in_err-push-2-clause-grows : goal.returns-in_err-push-2-clause-grows
returns-in_err-push-2-clause-grows c =
    grows_on c.args.scopes.now.types c.loop-behind.scopes.types c.index_of-in-loop-behind.new.scopes.types
    c.loop-behind.invariant.grows c.in_ok-index_of-2.ensures.grows
