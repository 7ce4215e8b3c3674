-- The labels of the code's lists, as the definition has them.
use Rattle.std.proofs.Common.{◌≡◌, refl, sym, ap, ◌∙◌, ℕ, ◌+◌, ◌<◌, ◌≤◌, List, [], ◌∷◌, ◌++◌, map, length, take, get_or}
use Rattle.std.proofs.lemmas.List.{take_more, take_all}
use Rattle.std.proofs.Common.{suc, ◌-◌, zero, arith, Some, None}
use Rattle.std.specs.Prelude.{option_to_list, slice_get}
use Rattle.pas_syntax.specs.declared.tree.Statements as code_statements
use Rattle.pas_syntax.specs.declared.tree.MoreStatement as code_more_statement
use Rattle.pas_syntax.specs.declared.tree.Others.TheViews.{out-Statements, out-MoreStatement}
use Rattle.pas_syntax.specs.declared.tree.Others.TheFolds.{fold_out-Statements, fold_out-MoreStatement}
use Rattle.pas_syntax.specs.Tree as tree
use Rattle.pas_syntax.specs.Tree.{Plain, Statement, Statements, Compound, Elements, Others}
use Rattle.pas_syntax.specs.Views.{in_turn}
use Rattle.pas_syntax.specs.ProgramViews.{Arm, plain_step, others_step, statement_step, compound_step, element_step}
use Rattle.pas_syntax.specs.ProgramViews.{elements_step, more_element_step, more_statement_step, statements_step}
use Rattle.pas_syntax.specs.ProgramViews.{statement_in, statements_in, more_statement_in}
use Rattle.pas_rules.specs.Labels.{own_label, labels_of_list, label_on_empty, label_at_end}
use Rattle.pas_rules.specs.Statements.{label_of}

pub own_is : (s : Statement) → option_to_list (label_of s) ≡ own_label s
own_is (tree.unlabelled s) = refl
own_is (tree.labelled numeral colon s) = refl

module _ (spellings : List ℕ) where
  pub list_seen : (list : code_statements.Statements)
      → statements_in spellings list
      ≡ in_turn (tree.first_statement (statement_in spellings (out-Statements list).first))
      (map (more_statement_in spellings) (out-Statements list).more)
  list_seen =
      fold_out-Statements Others Plain Statement Compound Arm Elements (Elements → Elements) (Statements → Statements)
      Statements (others_step spellings) (plain_step spellings) (statement_step spellings) (compound_step spellings)
      (element_step spellings) (elements_step spellings) (more_element_step spellings) (more_statement_step spellings)
      (statements_step spellings)

  pub more_seen : (more : code_more_statement.MoreStatement)
      → more_statement_in spellings more
      ≡ (λ list. tree.more_statements list (out-MoreStatement more).line
      (statement_in spellings (out-MoreStatement more).statement))
  more_seen =
      fold_out-MoreStatement Others Plain Statement Compound Arm Elements (Elements → Elements)
      (Statements → Statements)
      Statements (others_step spellings) (plain_step spellings) (statement_step spellings) (compound_step spellings)
      (element_step spellings) (elements_step spellings) (more_element_step spellings) (more_statement_step spellings)
      (statements_step spellings)

  -- the labels of a statement and of so many behind it
  abbrev pub labels_so_far : Statement → List code_more_statement.MoreStatement → List ℕ
  labels_so_far first more =
      labels_of_list (in_turn (tree.first_statement first) (map (more_statement_in spellings) more))

  pub turned_push : {A : Type 0} (start : A) (steps : List (A → A)) (step : A → A)
      → in_turn start (steps ++ step ∷ []) ≡ step (in_turn start steps)
  turned_push start [] step = refl
  turned_push start (first ∷ steps) step = turned_push (first start) steps step

  pub map_push : {A B : Type 0} (f : A → B) (xs : List A) (x : A) → map f (xs ++ x ∷ []) ≡ map f xs ++ f x ∷ []
  map_push f [] x = refl
  map_push f (first ∷ xs) x = ap (λ rest. f first ∷ rest) (map_push f xs x)

  pub one_label_more : (first : Statement) (more : List code_more_statement.MoreStatement)
      (next : code_more_statement.MoreStatement)
      → labels_so_far first (more ++ next ∷ [])
      ≡ labels_so_far first more
      ++ option_to_list (label_of (statement_in spellings (out-MoreStatement next).statement))
  one_label_more first more next =
      ap (λ steps. labels_of_list (in_turn (tree.first_statement first) steps))
      (map_push (more_statement_in spellings) more next)
      ∙ (ap labels_of_list (turned_push (tree.first_statement first) (map (more_statement_in spellings) more)
      (more_statement_in spellings next))
      ∙ (ap (λ (step : Statements → Statements). labels_of_list (step (in_turn (tree.first_statement first)
      (map (more_statement_in spellings) more)))) (more_seen next)
      ∙ ap (λ own. labels_so_far first more ++ own)
      (sym (own_is (statement_in spellings (out-MoreStatement next).statement)))))

-- one item more, and all of them
pub taken_more : {A : Type 0} (xs : List A) (i : ℕ) (x : A) → i < length xs → x ≡ get_or xs i x
    → take (i + 1) xs ≡ take i xs ++ x ∷ []
taken_more xs i x within is = take_more xs i x within ∙ ap (λ item. take i xs ++ item ∷ []) (sym is)

pub taken_all : {A : Type 0} (xs : List A) (i : ℕ) → length xs ≤ i → take i xs ≡ xs
taken_all xs i h = take_all i xs h

-- the label at the end of a list
module _ (spellings : List ℕ) where
  last_seen : (start : Statements) (more : List code_more_statement.MoreStatement) (i : ℕ)
      (last : code_more_statement.MoreStatement) → i + 1 ≡ length more → Some last ≡ slice_get more i
      → label_at_end (in_turn start (map (more_statement_in spellings) more))
      ≡ label_on_empty (statement_in spellings (out-MoreStatement last).statement)
  last_seen start [] i last end is = absurd (omega (arith, end))
  last_seen start (first ∷ []) zero last end is =
      let same : first ≡ last = cc in
      ap (λ (step : Statements → Statements). label_at_end (step start)) (more_seen spellings first)
      ∙ ap (λ (next : code_more_statement.MoreStatement).
      label_on_empty (statement_in spellings (out-MoreStatement next).statement)) same
  last_seen start (first ∷ []) (suc i) last end is = absurd (omega (arith, end))
  last_seen start (first ∷ (second ∷ more)) zero last end is = absurd (omega (arith, end))
  last_seen start (first ∷ (second ∷ more)) (suc i) last end is =
      last_seen (more_statement_in spellings first start) (second ∷ more) i last (omega (arith, end)) is

  pub end_seen : (list : code_statements.Statements) (last : code_more_statement.MoreStatement)
      → Some last ≡ slice_get (out-Statements list).more (length (out-Statements list).more - 1)
      → label_at_end (statements_in spellings list)
      ≡ label_on_empty (statement_in spellings (out-MoreStatement last).statement)
  end_seen list last is =
      ap label_at_end (list_seen spellings list)
      ∙ last_seen (tree.first_statement (statement_in spellings (out-Statements list).first))
      (out-Statements list).more (length (out-Statements list).more - 1) last
      (some_last (out-Statements list).more last is) is
    where
      some_last : (xs : List code_more_statement.MoreStatement) (last : code_more_statement.MoreStatement)
          → Some last ≡ slice_get xs (length xs - 1) → length xs - 1 + 1 ≡ length xs
      some_last [] last is = absurd (some_not_none is)
        where
          some_not_none : Some last ≡ None → ⊥
          some_not_none e = cc
      some_last (x ∷ xs) last is = omega arith

  pub end_seen_first : (list : code_statements.Statements)
      → None ≡ slice_get (out-Statements list).more (length (out-Statements list).more - 1)
      → label_at_end (statements_in spellings list)
      ≡ label_on_empty (statement_in spellings (out-Statements list).first)
  end_seen_first list is =
      ap label_at_end (list_seen spellings list)
      ∙ ap (λ (more : List code_more_statement.MoreStatement).
      label_at_end (in_turn (tree.first_statement (statement_in spellings (out-Statements list).first))
      (map (more_statement_in spellings) more))) (no_last (out-Statements list).more is)
    where
      at_least : (xs : List code_more_statement.MoreStatement) (i : ℕ) → i < length xs → None ≡ slice_get xs i → ⊥
      at_least [] i h e = omega (arith, h)
      at_least (x ∷ xs) zero h e = cc
      at_least (x ∷ xs) (suc i) h e = at_least xs i (omega (arith, h)) e

      no_last : (xs : List code_more_statement.MoreStatement) → None ≡ slice_get xs (length xs - 1) → xs ≡ []
      no_last [] e = refl
      no_last (x ∷ xs) e = absurd (at_least (x ∷ xs) (length (x ∷ xs) - 1) (omega arith) e)
