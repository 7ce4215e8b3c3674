-- The parts of statements of the code as those of the readers.
use Rattle.std.specs.Prelude.{ℕ, List, Option, None}
use Rattle.pas_tokens.specs.declared.kinds.Kind.{Kind}
use Rattle.pas_tokens.specs.declared.kinds.Kind.TheVariants as k
use Rattle.pas_syntax.specs.declared.cases.Arm.{Arm as CodeArm}
use Rattle.pas_syntax.specs.declared.cases.Arm.TheVariants as arm
use Rattle.pas_syntax.specs.declared.cases.Arms.{Arms as CodeArms}
use Rattle.pas_syntax.specs.declared.tree.Assignment.{Assignment}
use Rattle.pas_syntax.specs.declared.tree.Behind.{Behind as CodeBehind}
use Rattle.pas_syntax.specs.declared.tree.Expr as code_expr
use Rattle.pas_syntax.specs.declared.tree.Element as code_element
use Rattle.pas_syntax.specs.declared.tree.Guard.{Guard as CodeGuard}
use Rattle.pas_syntax.specs.declared.tree.ForHead.{ForHead as CodeForHead}
use Rattle.pas_syntax.specs.Tree as tree
use Rattle.pas_syntax.specs.Tree.{Behind, Separated, Constant, Expr, Plain}
use Rattle.pas_syntax.specs.Views.{ident_in, lined_in, behind_in, if_there, expr_in, variable_in}
use Rattle.pas_syntax.specs.ProgramViews.{element_in, elements_in, others_in}
use Rattle.pas_syntax.specs.inner.StatementReaders.{Guard, ForHead, Element, Arm, one_more, tail, Arms}
use Rattle.pas_syntax.specs.inner.StatementReaders.{others_line}

module _ (spellings : List ℕ) where
  abbrev pub guard_in : CodeGuard → Guard
  guard_in guard = record { line = guard.line; value = expr_in spellings guard.value; behind = guard.behind }

  abbrev pub for_head_in : CodeForHead → ForHead
  for_head_in head =
      record {
        line = head.line;
        name = ident_in spellings head.name;
        becomes = head.becomes;
        first = expr_in spellings head.first;
        toward = lined_in head.way;
        last = expr_in spellings head.last;
        do_line = head.do_line;
      }

  abbrev pub assignment_in : Assignment → Plain
  assignment_in assigned =
      tree.assignment (variable_in spellings assigned.target) assigned.becomes (expr_in spellings assigned.value)

  abbrev pub width_in : Option (CodeBehind code_expr.Expr) → Option (Behind Expr)
  width_in width = if_there (behind_in (expr_in spellings)) width

  -- an element, and what stands behind a semicolon
  abbrev pub an_element_in : code_element.Element → Element
  an_element_in element =
      let arm = element_in spellings element in
      record { constants = arm.constants; colon = arm.colon; statement = arm.statement }

  abbrev pub arm_in : CodeArm → Arm
  arm_in (arm.Element element) = one_more (an_element_in element)
  arm_in (arm.Others others) = tail (others_in spellings others)

  abbrev pub arms_in : CodeArms → Arms
  arms_in arms = record { elements = elements_in spellings arms.elements; others = others_in spellings arms.others }

-- the line of `others`, where a colon comes next and constants are that name alone
abbrev pub others_before_colon : Kind → Separated Constant → Option ℕ
others_before_colon k.Colon constants = others_line constants
others_before_colon kind constants = None
