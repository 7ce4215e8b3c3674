-- The body of a loop that is no compound.
use Rattle.std.proofs.Common.{◌≡◌, refl, sym, ap, subst, ◌∙◌, ℕ, List, None}
use Rattle.pas_typed.specs.declared.typed.Statement as code_statement
use Rattle.pas_typed.specs.declared.typed.Statement.TheVariants as statement
use Rattle.pas_typed.specs.declared.typed.Statement.TheVariants.{rolls-Empty, rolls-Assigns, rolls-SetsResult}
use Rattle.pas_typed.specs.declared.typed.Statement.TheVariants.{rolls-Calls, rolls-Compound, rolls-If, rolls-IfElse}
use Rattle.pas_typed.specs.declared.typed.Statement.TheVariants.{rolls-Case, rolls-CaseOthers, rolls-While}
use Rattle.pas_typed.specs.declared.typed.Statement.TheVariants.{rolls-Repeat, rolls-For, rolls-Goto, rolls-GotoLast}
use Rattle.pas_typed.specs.declared.typed.Statement.TheVariants.{rolls-Steps, rolls-Reads, rolls-ReadsLine}
use Rattle.pas_typed.specs.declared.typed.Statement.TheVariants.{rolls-Writes, rolls-WritesLine, rolls-WritesBytes}
use Rattle.pas_typed.specs.declared.typed.Statement.TheVariants.{rolls-Halts}
use Rattle.pas_typed.specs.declared.typed.Labelled as code_labelled
use Rattle.pas_typed.specs.declared.typed.Arm as code_arm
use Rattle.pas_typed.specs.declared.typed.Statement.TheOpen.{Statement-F}
use Rattle.pas_typed.specs.declared.typed.Statement.TheViews.{out-Statement, roll-Statement, roll-out-Statement}
use Rattle.pas_typed.specs.Typed as typed
use Rattle.pas_typed.specs.TypedViews.{statement_view}
use Rattle.pas_typed.proofs.StatementViews.{statement_view-Empty, statement_view-Assigns, statement_view-SetsResult}
use Rattle.pas_typed.proofs.StatementViews.{statement_view-Calls, statement_view-If, statement_view-IfElse}
use Rattle.pas_typed.proofs.StatementViews.{statement_view-Case, statement_view-CaseOthers, statement_view-While}
use Rattle.pas_typed.proofs.StatementViews.{statement_view-Repeat, statement_view-For, statement_view-Goto}
use Rattle.pas_typed.proofs.StatementViews.{statement_view-GotoLast, statement_view-Steps, statement_view-Reads}
use Rattle.pas_typed.proofs.StatementViews.{statement_view-ReadsLine, statement_view-Writes, statement_view-WritesLine}
use Rattle.pas_typed.proofs.StatementViews.{statement_view-WritesBytes, statement_view-Halts}
use Rattle.pas_rules.specs.Statements.{list_of}

-- a statement as a list by itself
abbrev alone : typed.Statement → typed.Statements
alone s = typed.item None s typed.no_statements

module _ (spellings : List ℕ) (s : code_statement.Statement) where
  seen : (other : code_statement.Statement) (found : typed.Statement) → s ≡ other
      → statement_view spellings other ≡ found → list_of found ≡ alone found
      → list_of (statement_view spellings s) ≡ alone (statement_view spellings s)
  seen other found is sees h =
      subst (λ (it : typed.Statement). list_of it ≡ alone it) (sym (ap (statement_view spellings) is ∙ sees)) h

  abbrev Layer : Type 0
  Layer = Statement-F code_statement.Statement code_arm.Arm code_labelled.Labelled

  rolled : (layer : Layer) → out-Statement s ≡ layer → s ≡ roll-Statement layer
  rolled layer is = sym (roll-out-Statement s) ∙ ap roll-Statement is

  by_layer : ((list : List code_labelled.Labelled) → s ≡ statement.Compound list → ⊥) → (layer : Layer)
      → out-Statement s ≡ layer → list_of (statement_view spellings s) ≡ alone (statement_view spellings s)
  by_layer other_than Statement-F.Empty is =
      seen statement.Empty _ (rolled Statement-F.Empty is ∙ rolls-Empty) (statement_view-Empty spellings) refl
  by_layer other_than (Statement-F.Assigns a b) is =
      seen (statement.Assigns a b) _ (rolled (Statement-F.Assigns a b) is ∙ rolls-Assigns a b)
      (statement_view-Assigns spellings a b) refl
  by_layer other_than (Statement-F.SetsResult a b d) is =
      seen (statement.SetsResult a b d) _ (rolled (Statement-F.SetsResult a b d) is ∙ rolls-SetsResult a b d)
      (statement_view-SetsResult spellings a b d) refl
  by_layer other_than (Statement-F.Calls a b) is =
      seen (statement.Calls a b) _ (rolled (Statement-F.Calls a b) is ∙ rolls-Calls a b)
      (statement_view-Calls spellings a b) refl
  by_layer other_than (Statement-F.Compound list) is =
      absurd (other_than list (rolled (Statement-F.Compound list) is ∙ rolls-Compound list))
  by_layer other_than (Statement-F.If a b) is =
      seen (statement.If a b) _ (rolled (Statement-F.If a b) is ∙ rolls-If a b) (statement_view-If spellings a b) refl
  by_layer other_than (Statement-F.IfElse a b d) is =
      seen (statement.IfElse a b d) _ (rolled (Statement-F.IfElse a b d) is ∙ rolls-IfElse a b d)
      (statement_view-IfElse spellings a b d) refl
  by_layer other_than (Statement-F.Case a b) is =
      seen (statement.Case a b) _ (rolled (Statement-F.Case a b) is ∙ rolls-Case a b)
      (statement_view-Case spellings a b) refl
  by_layer other_than (Statement-F.CaseOthers a b d) is =
      seen (statement.CaseOthers a b d) _ (rolled (Statement-F.CaseOthers a b d) is ∙ rolls-CaseOthers a b d)
      (statement_view-CaseOthers spellings a b d) refl
  by_layer other_than (Statement-F.While a b) is =
      seen (statement.While a b) _ (rolled (Statement-F.While a b) is ∙ rolls-While a b)
      (statement_view-While spellings a b) refl
  by_layer other_than (Statement-F.Repeat a b) is =
      seen (statement.Repeat a b) _ (rolled (Statement-F.Repeat a b) is ∙ rolls-Repeat a b)
      (statement_view-Repeat spellings a b) refl
  by_layer other_than (Statement-F.For a b) is =
      seen (statement.For a b) _ (rolled (Statement-F.For a b) is ∙ rolls-For a b)
      (statement_view-For spellings a b) refl
  by_layer other_than (Statement-F.Goto a) is =
      seen (statement.Goto a) _ (rolled (Statement-F.Goto a) is ∙ rolls-Goto a) (statement_view-Goto spellings a) refl
  by_layer other_than (Statement-F.GotoLast a) is =
      seen (statement.GotoLast a) _ (rolled (Statement-F.GotoLast a) is ∙ rolls-GotoLast a)
      (statement_view-GotoLast spellings a) refl
  by_layer other_than (Statement-F.Steps a b) is =
      seen (statement.Steps a b) _ (rolled (Statement-F.Steps a b) is ∙ rolls-Steps a b)
      (statement_view-Steps spellings a b) refl
  by_layer other_than (Statement-F.Reads a b) is =
      seen (statement.Reads a b) _ (rolled (Statement-F.Reads a b) is ∙ rolls-Reads a b)
      (statement_view-Reads spellings a b) refl
  by_layer other_than (Statement-F.ReadsLine a b) is =
      seen (statement.ReadsLine a b) _ (rolled (Statement-F.ReadsLine a b) is ∙ rolls-ReadsLine a b)
      (statement_view-ReadsLine spellings a b) refl
  by_layer other_than (Statement-F.Writes a b) is =
      seen (statement.Writes a b) _ (rolled (Statement-F.Writes a b) is ∙ rolls-Writes a b)
      (statement_view-Writes spellings a b) refl
  by_layer other_than (Statement-F.WritesLine a b) is =
      seen (statement.WritesLine a b) _ (rolled (Statement-F.WritesLine a b) is ∙ rolls-WritesLine a b)
      (statement_view-WritesLine spellings a b) refl
  by_layer other_than (Statement-F.WritesBytes a b) is =
      seen (statement.WritesBytes a b) _ (rolled (Statement-F.WritesBytes a b) is ∙ rolls-WritesBytes a b)
      (statement_view-WritesBytes spellings a b) refl
  by_layer other_than (Statement-F.Halts a) is =
      seen (statement.Halts a) _ (rolled (Statement-F.Halts a) is ∙ rolls-Halts a) (statement_view-Halts spellings a)
      refl

  pub stands_alone : ((list : List code_labelled.Labelled) → s ≡ statement.Compound list → ⊥)
      → list_of (statement_view spellings s) ≡ alone (statement_view spellings s)
  stands_alone other_than = by_layer other_than (out-Statement s) refl
