-- The code's statements, a variant at a time, as those of the definition.
use Rattle.std.proofs.Common.{◌≡◌, ℕ, List}
use Rattle.pas_syntax.specs.declared.tree.Behind.{Behind as CodeBehind}
use Rattle.pas_syntax.specs.declared.tree.Guard.{Guard}
use Rattle.pas_syntax.specs.declared.tree.ForHead.{ForHead}
use Rattle.pas_syntax.specs.declared.tree.LabelHere.{LabelHere}
use Rattle.pas_syntax.specs.declared.tree.ProcedureCall.{ProcedureCall}
use Rattle.pas_syntax.specs.declared.tree.Expr as code_expr
use Rattle.pas_syntax.specs.declared.tree.Plain as code_plain
use Rattle.pas_syntax.specs.declared.tree.Statement as code_statement
use Rattle.pas_syntax.specs.declared.tree.Statements as code_statements
use Rattle.pas_syntax.specs.declared.tree.Compound as code_compound
use Rattle.pas_syntax.specs.declared.tree.Elements as code_elements
use Rattle.pas_syntax.specs.declared.tree.Others as code_others
use Rattle.pas_syntax.specs.declared.tree.Plain.TheVariants as plain
use Rattle.pas_syntax.specs.declared.tree.Statement.TheVariants as statement
use Rattle.pas_syntax.specs.declared.tree.Others.TheOpen.{Plain-F, Statement-F}
use Rattle.pas_syntax.specs.declared.tree.Others.TheViews.{out-Compound}
use Rattle.pas_syntax.specs.declared.tree.Others.TheFolds.{fold-roll-Plain, fold-roll-Statement, fold_out-Compound}
use Rattle.pas_syntax.specs.Tree as tree
use Rattle.pas_syntax.specs.Tree.{Plain, Statement, Statements, Compound, Elements, Others}
use Rattle.pas_syntax.specs.Views.{ident_in, numeral_in, lined_in, if_there, expr_in}
use Rattle.pas_syntax.specs.ProgramViews.{Arm, plain_step, others_step, statement_step, compound_step, element_step}
use Rattle.pas_syntax.specs.ProgramViews.{elements_step, more_element_step, more_statement_step, statements_step}
use Rattle.pas_syntax.specs.ProgramViews.{arguments_in, plain_in, statement_in, statements_in, compound_in}
use Rattle.pas_syntax.specs.ProgramViews.{elements_in, others_in}

module _ (spellings : List ℕ) where
  pub called_seen : (call : ProcedureCall)
      → plain_in spellings (plain.Call call)
      ≡ tree.procedure_call (ident_in spellings call.name) (if_there (arguments_in spellings) call.arguments)
  unfolding code_plain.roll-Plain denote.Hole.Carrier.roll
  called_seen call =
      fold-roll-Plain Others Plain Statement Compound Arm Elements (Elements → Elements) (Statements → Statements)
      Statements (others_step spellings) (plain_step spellings) (statement_step spellings) (compound_step spellings)
      (element_step spellings) (elements_step spellings) (more_element_step spellings) (more_statement_step spellings)
      (statements_step spellings) (Plain-F.Call call)

  pub if_seen : (guard : Guard) (s : code_statement.Statement)
      → plain_in spellings (plain.If guard s)
      ≡ tree.if_then guard.line (expr_in spellings guard.value) guard.behind (statement_in spellings s)
  unfolding code_plain.roll-Plain denote.Hole.Carrier.roll
  if_seen guard s =
      fold-roll-Plain Others Plain Statement Compound Arm Elements (Elements → Elements) (Statements → Statements)
      Statements (others_step spellings) (plain_step spellings) (statement_step spellings) (compound_step spellings)
      (element_step spellings) (elements_step spellings) (more_element_step spellings) (more_statement_step spellings)
      (statements_step spellings) (Plain-F.If guard s)

  pub if_else_seen : (guard : Guard) (s : code_statement.Statement) (line : ℕ) (t : code_statement.Statement)
      → plain_in spellings (plain.IfElse guard s line t)
      ≡ tree.if_else guard.line (expr_in spellings guard.value) guard.behind (statement_in spellings s) line
      (statement_in spellings t)
  unfolding code_plain.roll-Plain denote.Hole.Carrier.roll
  if_else_seen guard s line t =
      fold-roll-Plain Others Plain Statement Compound Arm Elements (Elements → Elements) (Statements → Statements)
      Statements (others_step spellings) (plain_step spellings) (statement_step spellings) (compound_step spellings)
      (element_step spellings) (elements_step spellings) (more_element_step spellings) (more_statement_step spellings)
      (statements_step spellings) (Plain-F.IfElse guard s line t)

  pub case_seen : (guard : Guard) (elements : code_elements.Elements) (tail : code_others.Others) (end : ℕ)
      → plain_in spellings (plain.Case guard elements tail end)
      ≡ tree.case guard.line (expr_in spellings guard.value) guard.behind (elements_in spellings elements)
      (others_in spellings tail) end
  unfolding code_plain.roll-Plain denote.Hole.Carrier.roll
  case_seen guard elements tail end =
      fold-roll-Plain Others Plain Statement Compound Arm Elements (Elements → Elements) (Statements → Statements)
      Statements (others_step spellings) (plain_step spellings) (statement_step spellings) (compound_step spellings)
      (element_step spellings) (elements_step spellings) (more_element_step spellings) (more_statement_step spellings)
      (statements_step spellings) (Plain-F.Case guard elements tail end)

  pub while_seen : (guard : Guard) (s : code_statement.Statement)
      → plain_in spellings (plain.While guard s)
      ≡ tree.while guard.line (expr_in spellings guard.value) guard.behind (statement_in spellings s)
  unfolding code_plain.roll-Plain denote.Hole.Carrier.roll
  while_seen guard s =
      fold-roll-Plain Others Plain Statement Compound Arm Elements (Elements → Elements) (Statements → Statements)
      Statements (others_step spellings) (plain_step spellings) (statement_step spellings) (compound_step spellings)
      (element_step spellings) (elements_step spellings) (more_element_step spellings) (more_statement_step spellings)
      (statements_step spellings) (Plain-F.While guard s)

  pub repeat_seen : (line : ℕ) (list : code_statements.Statements) (until : CodeBehind code_expr.Expr)
      → plain_in spellings (plain.Repeat line list until)
      ≡ tree.repeat line (statements_in spellings list) until.line (expr_in spellings until.item)
  unfolding code_plain.roll-Plain denote.Hole.Carrier.roll
  repeat_seen line list until =
      fold-roll-Plain Others Plain Statement Compound Arm Elements (Elements → Elements) (Statements → Statements)
      Statements (others_step spellings) (plain_step spellings) (statement_step spellings) (compound_step spellings)
      (element_step spellings) (elements_step spellings) (more_element_step spellings) (more_statement_step spellings)
      (statements_step spellings) (Plain-F.Repeat line list until)

  pub for_seen : (head : ForHead) (s : code_statement.Statement)
      → plain_in spellings (plain.For head s)
      ≡ tree.for head.line (ident_in spellings head.name) head.becomes (expr_in spellings head.first)
      (lined_in head.way) (expr_in spellings head.last) head.do_line (statement_in spellings s)
  unfolding code_plain.roll-Plain denote.Hole.Carrier.roll
  for_seen head s =
      fold-roll-Plain Others Plain Statement Compound Arm Elements (Elements → Elements) (Statements → Statements)
      Statements (others_step spellings) (plain_step spellings) (statement_step spellings) (compound_step spellings)
      (element_step spellings) (elements_step spellings) (more_element_step spellings) (more_statement_step spellings)
      (statements_step spellings) (Plain-F.For head s)

  pub labelled_statement_seen : (label : LabelHere) (s : code_plain.Plain)
      → statement_in spellings (statement.Labelled label s)
      ≡ tree.labelled (numeral_in label.numeral) label.colon (plain_in spellings s)
  unfolding code_statement.roll-Statement denote.Hole.Carrier.roll
  labelled_statement_seen label s =
      fold-roll-Statement Others Plain Statement Compound Arm Elements (Elements → Elements) (Statements → Statements)
      Statements (others_step spellings) (plain_step spellings) (statement_step spellings) (compound_step spellings)
      (element_step spellings) (elements_step spellings) (more_element_step spellings) (more_statement_step spellings)
      (statements_step spellings) (Statement-F.Labelled label s)

  pub body_seen : (body : code_compound.Compound)
      → compound_in spellings body
      ≡ record {
        begin = (out-Compound body).begin;
        list = statements_in spellings (out-Compound body).list;
        end = (out-Compound body).end;
      }
  body_seen =
      fold_out-Compound Others Plain Statement Compound Arm Elements (Elements → Elements) (Statements → Statements)
      Statements (others_step spellings) (plain_step spellings) (statement_step spellings) (compound_step spellings)
      (element_step spellings) (elements_step spellings) (more_element_step spellings) (more_statement_step spellings)
      (statements_step spellings)
