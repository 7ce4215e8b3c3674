-- The code's statements, a variant at a time, as those of the definition.
use Rattle.std.proofs.Common.{◌≡◌, ℕ, List, map, Option}
use Rattle.pas_syntax.specs.declared.tree.Numeral.{Numeral as CodeNumeral}
use Rattle.pas_syntax.specs.declared.tree.OthersHead.{OthersHead}
use Rattle.pas_syntax.specs.declared.tree.Assignment.{Assignment}
use Rattle.pas_syntax.specs.declared.tree.Plain as code_plain
use Rattle.pas_syntax.specs.declared.tree.Statement as code_statement
use Rattle.pas_syntax.specs.declared.tree.Statements as code_statements
use Rattle.pas_syntax.specs.declared.tree.MoreStatement as code_more_statement
use Rattle.pas_syntax.specs.declared.tree.Compound as code_compound
use Rattle.pas_syntax.specs.declared.tree.Element as code_element
use Rattle.pas_syntax.specs.declared.tree.Elements as code_elements
use Rattle.pas_syntax.specs.declared.tree.MoreElement as code_more_element
use Rattle.pas_syntax.specs.declared.tree.Others as code_others
use Rattle.pas_syntax.specs.declared.tree.Plain.TheVariants as plain
use Rattle.pas_syntax.specs.declared.tree.Statement.TheVariants as statement
use Rattle.pas_syntax.specs.declared.tree.Others.TheVariants as others
use Rattle.pas_syntax.specs.declared.tree.Others.TheOpen.{Others-F, Plain-F, Statement-F, Compound-F, Element-F}
use Rattle.pas_syntax.specs.declared.tree.Others.TheOpen.{Elements-F, MoreElement-F, MoreStatement-F, Statements-F}
use Rattle.pas_syntax.specs.declared.tree.Others.TheViews.{roll-Compound, roll-Element, roll-Elements}
use Rattle.pas_syntax.specs.declared.tree.Others.TheViews.{roll-MoreElement}
use Rattle.pas_syntax.specs.declared.tree.Others.TheViews.{roll-MoreStatement, roll-Statements}
use Rattle.pas_syntax.specs.declared.tree.Others.TheFolds.{fold-roll-Plain, fold-roll-Statement, fold-roll-Others}
use Rattle.pas_syntax.specs.declared.tree.Others.TheFolds.{fold-roll-Compound, fold-roll-Element, fold-roll-Elements}
use Rattle.pas_syntax.specs.declared.tree.Others.TheFolds.{fold-roll-MoreElement, fold-roll-MoreStatement}
use Rattle.pas_syntax.specs.declared.tree.Others.TheFolds.{fold-roll-Statements}
use Rattle.pas_syntax.specs.Tree as tree
use Rattle.pas_syntax.specs.Tree.{Plain, Statement, Statements, Compound, Elements, Others}
use Rattle.pas_syntax.specs.Views.{numeral_in, separated_in, in_turn, constant_in}
use Rattle.pas_syntax.specs.ProgramViews.{Arm, plain_step, others_step, statement_step, compound_step, element_step}
use Rattle.pas_syntax.specs.ProgramViews.{elements_step, more_element_step, more_statement_step, statements_step}
use Rattle.pas_syntax.specs.ProgramViews.{plain_in, statement_in, statements_in, more_statement_in, compound_in}
use Rattle.pas_syntax.specs.ProgramViews.{element_in, elements_in, more_element_in, others_in}
use Rattle.pas_syntax.specs.inner.StatementViews.{assignment_in}

-- a layer of the code's statements over those of the code
abbrev Inside : (Type 0 → Type 0 → Type 0 → Type 0 → Type 0 → Type 0 → Type 0 → Type 0 → Type 0 → Type 0) → Type 0
Inside Layer =
    Layer code_others.Others code_plain.Plain code_statement.Statement code_compound.Compound code_element.Element
    code_elements.Elements code_more_element.MoreElement code_more_statement.MoreStatement code_statements.Statements

module _ (spellings : List ℕ) where
  pub unlabelled_seen : (s : code_plain.Plain)
      → statement_in spellings (statement.Unlabelled s) ≡ tree.unlabelled (plain_in spellings s)
  unfolding code_statement.roll-Statement denote.Hole.Carrier.roll
  unlabelled_seen s =
      fold-roll-Statement Others Plain Statement Compound Arm Elements (Elements → Elements) (Statements → Statements)
      Statements (others_step spellings) (plain_step spellings) (statement_step spellings) (compound_step spellings)
      (element_step spellings) (elements_step spellings) (more_element_step spellings) (more_statement_step spellings)
      (statements_step spellings) (Statement-F.Unlabelled s)

  pub empty_seen : plain_in spellings plain.Empty ≡ tree.empty
  unfolding code_plain.roll-Plain denote.Hole.Carrier.roll
  empty_seen =
      fold-roll-Plain Others Plain Statement Compound Arm Elements (Elements → Elements) (Statements → Statements)
      Statements (others_step spellings) (plain_step spellings) (statement_step spellings) (compound_step spellings)
      (element_step spellings) (elements_step spellings) (more_element_step spellings) (more_statement_step spellings)
      (statements_step spellings) Plain-F.Empty

  pub goto_seen : (line : ℕ) (label : CodeNumeral)
      → plain_in spellings (plain.Goto line label) ≡ tree.goto line (numeral_in label)
  unfolding code_plain.roll-Plain denote.Hole.Carrier.roll
  goto_seen line label =
      fold-roll-Plain Others Plain Statement Compound Arm Elements (Elements → Elements) (Statements → Statements)
      Statements (others_step spellings) (plain_step spellings) (statement_step spellings) (compound_step spellings)
      (element_step spellings) (elements_step spellings) (more_element_step spellings) (more_statement_step spellings)
      (statements_step spellings) (Plain-F.Goto line label)

  pub assignment_seen : (assigned : Assignment)
      → plain_in spellings (plain.Assignment assigned) ≡ assignment_in spellings assigned
  unfolding code_plain.roll-Plain denote.Hole.Carrier.roll
  assignment_seen assigned =
      fold-roll-Plain Others Plain Statement Compound Arm Elements (Elements → Elements) (Statements → Statements)
      Statements (others_step spellings) (plain_step spellings) (statement_step spellings) (compound_step spellings)
      (element_step spellings) (elements_step spellings) (more_element_step spellings) (more_statement_step spellings)
      (statements_step spellings) (Plain-F.Assignment assigned)

  pub compound_seen : (x : Inside Compound-F)
      → compound_in spellings (roll-Compound x)
      ≡ record { begin = x.begin; list = statements_in spellings x.list; end = x.end }
  compound_seen x =
      fold-roll-Compound Others Plain Statement Compound Arm Elements (Elements → Elements) (Statements → Statements)
      Statements (others_step spellings) (plain_step spellings) (statement_step spellings) (compound_step spellings)
      (element_step spellings) (elements_step spellings) (more_element_step spellings) (more_statement_step spellings)
      (statements_step spellings) x

  pub plain_compound_seen : (body : code_compound.Compound)
      → plain_in spellings (plain.Compound body)
      ≡ tree.compound (compound_in spellings body).begin (compound_in spellings body).list
      (compound_in spellings body).end
  unfolding code_plain.roll-Plain denote.Hole.Carrier.roll
  plain_compound_seen body =
      fold-roll-Plain Others Plain Statement Compound Arm Elements (Elements → Elements) (Statements → Statements)
      Statements (others_step spellings) (plain_step spellings) (statement_step spellings) (compound_step spellings)
      (element_step spellings) (elements_step spellings) (more_element_step spellings) (more_statement_step spellings)
      (statements_step spellings) (Plain-F.Compound body)

  pub statements_seen : (x : Inside Statements-F)
      → statements_in spellings (roll-Statements x)
      ≡ in_turn (tree.first_statement (statement_in spellings x.first)) (map (more_statement_in spellings) x.more)
  statements_seen x =
      fold-roll-Statements Others Plain Statement Compound Arm Elements (Elements → Elements) (Statements → Statements)
      Statements (others_step spellings) (plain_step spellings) (statement_step spellings) (compound_step spellings)
      (element_step spellings) (elements_step spellings) (more_element_step spellings) (more_statement_step spellings)
      (statements_step spellings) x

  pub more_statement_seen : (x : Inside MoreStatement-F)
      → more_statement_in spellings (roll-MoreStatement x)
      ≡ (λ list. tree.more_statements list x.line (statement_in spellings x.statement))
  more_statement_seen x =
      fold-roll-MoreStatement Others Plain Statement Compound Arm Elements (Elements → Elements)
      (Statements → Statements)
      Statements (others_step spellings) (plain_step spellings) (statement_step spellings) (compound_step spellings)
      (element_step spellings) (elements_step spellings) (more_element_step spellings) (more_statement_step spellings)
      (statements_step spellings) x

  pub element_seen : (x : Inside Element-F)
      → element_in spellings (roll-Element x)
      ≡ record {
        constants = separated_in (constant_in spellings) x.constants;
        colon = x.colon;
        statement = statement_in spellings x.statement;
      }
  element_seen x =
      fold-roll-Element Others Plain Statement Compound Arm Elements (Elements → Elements) (Statements → Statements)
      Statements (others_step spellings) (plain_step spellings) (statement_step spellings) (compound_step spellings)
      (element_step spellings) (elements_step spellings) (more_element_step spellings) (more_statement_step spellings)
      (statements_step spellings) x

  pub elements_seen : (x : Inside Elements-F)
      → elements_in spellings (roll-Elements x)
      ≡ in_turn (tree.first_element (element_in spellings x.first).constants (element_in spellings x.first).colon
      (element_in spellings x.first).statement) (map (more_element_in spellings) x.more)
  elements_seen x =
      fold-roll-Elements Others Plain Statement Compound Arm Elements (Elements → Elements) (Statements → Statements)
      Statements (others_step spellings) (plain_step spellings) (statement_step spellings) (compound_step spellings)
      (element_step spellings) (elements_step spellings) (more_element_step spellings) (more_statement_step spellings)
      (statements_step spellings) x

  pub more_element_seen : (x : Inside MoreElement-F)
      → more_element_in spellings (roll-MoreElement x)
      ≡ (λ elements. tree.more_elements elements x.line (element_in spellings x.element).constants
      (element_in spellings x.element).colon (element_in spellings x.element).statement)
  more_element_seen x =
      fold-roll-MoreElement Others Plain Statement Compound Arm Elements (Elements → Elements)
      (Statements → Statements)
      Statements (others_step spellings) (plain_step spellings) (statement_step spellings) (compound_step spellings)
      (element_step spellings) (elements_step spellings) (more_element_step spellings) (more_statement_step spellings)
      (statements_step spellings) x

  pub nothing_seen : others_in spellings others.Nothing ≡ tree.no_others
  unfolding code_others.roll-Others denote.Hole.Carrier.roll
  nothing_seen =
      fold-roll-Others Others Plain Statement Compound Arm Elements (Elements → Elements) (Statements → Statements)
      Statements (others_step spellings) (plain_step spellings) (statement_step spellings) (compound_step spellings)
      (element_step spellings) (elements_step spellings) (more_element_step spellings) (more_statement_step spellings)
      (statements_step spellings) Others-F.Nothing

  pub semicolon_seen : (line : ℕ) → others_in spellings (others.Semicolon line) ≡ tree.semicolon line
  unfolding code_others.roll-Others denote.Hole.Carrier.roll
  semicolon_seen line =
      fold-roll-Others Others Plain Statement Compound Arm Elements (Elements → Elements) (Statements → Statements)
      Statements (others_step spellings) (plain_step spellings) (statement_step spellings) (compound_step spellings)
      (element_step spellings) (elements_step spellings) (more_element_step spellings) (more_statement_step spellings)
      (statements_step spellings) (Others-F.Semicolon line)

  pub others_seen : (head : OthersHead) (s : code_statement.Statement) (end : Option ℕ)
      → others_in spellings (others.Others head s end)
      ≡ tree.others head.semicolon head.line head.colon (statement_in spellings s) end
  unfolding code_others.roll-Others denote.Hole.Carrier.roll
  others_seen head s end =
      fold-roll-Others Others Plain Statement Compound Arm Elements (Elements → Elements) (Statements → Statements)
      Statements (others_step spellings) (plain_step spellings) (statement_step spellings) (compound_step spellings)
      (element_step spellings) (elements_step spellings) (more_element_step spellings) (more_statement_step spellings)
      (statements_step spellings) (Others-F.Others head s end)
