use Rattle.std.proofs.Common.{rules, ◌≡◌, sym, ap, subst, ◌∙◌, suc, ◌+◌, List, [], ◌∷◌, ◌++◌, map, take, drop}
use Rattle.std.proofs.Common.{get_or, Some, None}
use Rattle.std.specs.Prelude.{ℤ}
use Rattle.std.proofs.lemmas.List.{append_assoc}
use Rattle.std.proofs.lemmas.Result.{err_from_is_err_and}
use Rattle.pas_tokens.specs.declared.kinds.Kind.TheVariants as kind
use Rattle.pas_syntax.specs.declared.tree.Behind.{Behind as CodeBehind}
use Rattle.pas_syntax.specs.declared.tree.Constant.{Constant as CodeConstant}
use Rattle.pas_syntax.specs.declared.tree.Constant.TheVariants as code
use Rattle.pas_syntax.specs.Tree.{Behind, Separated, Constant}
use Rattle.pas_syntax.specs.Views.{constant_in, behind_in, separated_in}
use Rattle.pas_syntax.specs.Words.{constant_words, separated}
use Rattle.pas_typed.specs.Types.{Base}
use Rattle.pas_typed.specs.TypeViews.{base_view}
use Rattle.pas_rules.specs.Scopes.{Scopes}
use Rattle.pas_rules.specs.Statements.{constants_of}
use Rattle.pas_scopes.specs.ScopeViews.{scopes_view}
use Rattle.pas_scopes.specs.Answers.{Means, FailsBy}
use Rattle.pas_types.specs.inner.CaseViews.{choice_part}
use Rattle.pas_scopes.proofs.LabelSeen.{taken_all}
use Rattle.pas_types.proofs.CaseLemmas.{holds_stop, AreChosen, first_chosen, next_chosen, first_fails, next_fails}
use Rattle.pas_types.proofs.CaseLemmas.{one_seen, around_one, more_words, behind_first, first_part}
use Rattle.pas_types.proofs.cases.constants_of.Goals as goal

pub returns-in_err-choice_of-clause-means : goal.returns-in_err-choice_of-clause-means
returns-in_err-choice_of-clause-means c clear n =
    let view = constant_in c.args.scopes.now.spellings.now in
    let s : Scopes = scopes_view c.args.scopes.now in
    let base : Base = base_view c.args.base in
    let before : List ℤ = c.args.taken.now.keys in
    let whole : Separated Constant = separated_in view c.args.constants.now in
    let why = c.in_err-choice_of.field-0.0 in
    holds_stop (separated n kind.Comma (constant_words n) whole) (constants_of s (Some base) before whole)
    (λ (values : List ℤ). values) why c.from_residual.result (err_from_is_err_and _ c.from_residual.ensures.1)
    (first_fails s base before n (view c.args.constants.now.first)
    (map (behind_in view) c.args.constants.now.more) why (c.in_err-choice_of.ensures.means clear n))

pub loop-behind-init : goal.loop-behind-init
loop-behind-init c =
    let view = constant_in c.args.scopes.now.spellings.now in
    let s : Scopes = scopes_view c.args.scopes.now in
    let base : Base = base_view c.args.base in
    let before : List ℤ = c.args.taken.now.keys in
    let value = c.in_ok-choice_of.field-0 in
    let one : c.push.new.self ≡ value ∷ [] =
    c.in_ok-push.ensures.ok ∙ search rules in
    record {
      chosen = λ clear n.
          subst (λ (values : List ℤ). AreChosen s base before n (view c.args.constants.now.first) [] values) (sym one)
          (first_chosen s base before n (view c.args.constants.now.first) value
          (c.in_ok-choice_of.ensures.means clear n));
      taken = c.in_ok-choice_of.ensures.taken ∙ ap (λ (values : List ℤ). before ++ values) (sym one);
    }

-- what stands for an item where there is none
abbrev nothing : CodeBehind CodeConstant
nothing = record { line = 0; item = code.Number None (record { value = 0; line = 0 }) }

pub returns-in_err-choice_of-2-clause-means : goal.returns-in_err-choice_of-2-clause-means
returns-in_err-choice_of-2-clause-means c clear n =
    let view = constant_in c.args.scopes.now.spellings.now in
    let s : Scopes = scopes_view c.args.scopes.now in
    let base : Base = base_view c.args.base in
    let before : List ℤ = c.args.taken.now.keys in
    let first : Constant = view c.args.constants.now.first in
    let whole : Separated Constant = separated_in view c.args.constants.now in
    let items : List (CodeBehind CodeConstant) = c.as_slice-behind-items.result.now in
    let index = c.loop-behind.behind-index in
    let next : CodeBehind CodeConstant = get_or items index nothing in
    let more : List (Behind Constant) = map (behind_in view) (take index items) in
    let others : List (Behind Constant) = map (behind_in view) (drop (suc index) items) in
    let why = c.in_err-choice_of-2.field-0.0 in
    let is : map (behind_in view) c.args.constants.now.more ≡ more ++ behind_in view next ∷ others =
    ap (map (behind_in view)) (sym c.as_slice-behind-items.ensures)
    ∙ around_one (behind_in view) items index nothing c.loop-behind-test.true in
    holds_stop (separated n kind.Comma (constant_words n) whole) (constants_of s (Some base) before whole)
    (λ (values : List ℤ). values) why c.from_residual-in_err-choice_of-2.result
    (err_from_is_err_and _ c.from_residual-in_err-choice_of-2.ensures.1)
    (subst (λ (all : List (Behind Constant)). FailsBy (constant_words n first ++ more_words s base before n all)
    (behind_first s base before n (first_part s base before n first) all).marks why) (sym is)
    (next_fails s base before n first more (behind_in view next) others c.loop-behind.values why
    (c.loop-behind.invariant.chosen clear n)
    (subst (λ (taken : List ℤ). FailsBy (constant_words n (view next.item))
    (choice_part s base taken (view next.item)).marks why) c.loop-behind.invariant.taken
    (c.in_err-choice_of-2.ensures.means clear n))))

pub loop-behind-preserved : goal.loop-behind-preserved
loop-behind-preserved c =
    let view = constant_in c.args.scopes.now.spellings.now in
    let s : Scopes = scopes_view c.args.scopes.now in
    let base : Base = base_view c.args.base in
    let before : List ℤ = c.args.taken.now.keys in
    let first : Constant = view c.args.constants.now.first in
    let items : List (CodeBehind CodeConstant) = c.as_slice-behind-items.result.now in
    let index = c.loop-behind.behind-index in
    let next : CodeBehind CodeConstant = get_or items index nothing in
    let more : List (Behind Constant) = map (behind_in view) (take index items) in
    let values : List ℤ = c.loop-behind.values in
    let value = c.in_ok-choice_of-2.field-0 in
    let pushed : c.push-in-loop-behind.new.self ≡ values ++ value ∷ [] = c.in_ok-push-2.ensures.ok ∙ search rules in
    record {
      chosen = λ clear n.
          subst (λ (values : List ℤ). AreChosen s base before n first (map (behind_in view) (take (index + 1) items))
          values) (sym pushed)
          (subst (λ (all : List (Behind Constant)). AreChosen s base before n first all (values ++ value ∷ []))
          (sym (one_seen (behind_in view) items index nothing c.loop-behind-test.true))
          (next_chosen s base before n first more (behind_in view next) values value
          (c.loop-behind.invariant.chosen clear n)
          (subst (λ (taken : List ℤ). Means (constant_words n (view next.item))
          (choice_part s base taken (view next.item)) value) c.loop-behind.invariant.taken
          (c.in_ok-choice_of-2.ensures.means clear n))));
      taken = c.in_ok-choice_of-2.ensures.taken
          ∙ (ap (λ (taken : List ℤ). taken ++ value ∷ []) c.loop-behind.invariant.taken
          ∙ (append_assoc before values (value ∷ [])
          ∙ ap (λ (all : List ℤ). before ++ all) (sym pushed)));
    }

pub returns-clause-means : goal.returns-clause-means
returns-clause-means c clear n =
    let view = constant_in c.args.scopes.now.spellings.now in
    let s : Scopes = scopes_view c.args.scopes.now in
    let base : Base = base_view c.args.base in
    let before : List ℤ = c.args.taken.now.keys in
    let first : Constant = view c.args.constants.now.first in
    let items : List (CodeBehind CodeConstant) = c.as_slice-behind-items.result.now in
    let is : take c.loop-behind.behind-index items ≡ c.args.constants.now.more =
    taken_all items c.loop-behind.behind-index c.loop-behind-test.false ∙ c.as_slice-behind-items.ensures in
    (subst (λ (more : List (CodeBehind CodeConstant)). AreChosen s base before n first (map (behind_in view) more)
    c.loop-behind.values) is (c.loop-behind.invariant.chosen clear n)).means
