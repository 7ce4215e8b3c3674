-- The readers of statements, as the code goes. A number of turns bounds each loop and each recursion.
use Rattle.std.specs.Prelude.{ℕ, zero, suc, ◌+◌, Bool, true, false, if◌then◌else◌, List, []}
use Rattle.std.specs.Prelude.{Option, Some, None}
use Rattle.std.specs.Str.{bytes_eq}
use Rattle.wb_base.specs.declared.faults.TheConstants.{WITH_STATEMENTS}
use Rattle.pas_tokens.specs.declared.kinds.Kind.{Kind}
use Rattle.pas_tokens.specs.declared.kinds.Kind.TheVariants as k
use Rattle.pas_tokens.specs.Cutting.{Payload, nothing, value, spelling}
use Rattle.pas_syntax.specs.declared.operators.Way.{Way}
use Rattle.pas_syntax.specs.declared.operators.Way.TheVariants as way
use Rattle.pas_syntax.specs.Tree as tree
use Rattle.pas_syntax.specs.Tree.{Ident, Numeral, Behind, Lined, Separated, Constant, Expr, Argument, Arguments}
use Rattle.pas_syntax.specs.Tree.{Plain, Statement, Statements, Elements, Others, Compound, others_name}
use Rattle.pas_syntax.specs.Nearest.{last_item}
use Rattle.pas_syntax.specs.inner.Prog.{Prog, done, fail, look, skip, bind, misplaced, shown, spent, Next, more, ends}
use Rattle.pas_syntax.specs.inner.Prog.{turns}
use Rattle.pas_syntax.specs.inner.Readers.{in_form, ident, expr, variable}
use Rattle.pas_syntax.specs.inner.TypeReaders.{items_by, constant}
use Rattle.pas_syntax.specs.inner.Marks.{mark, maybe_mark}

-- a number; its line
abbrev pub numeral_at : Kind → Payload → ℕ → Prog Numeral
numeral_at k.Number (value number) line = skip (done (record { value = number; line = line }))
numeral_at kind payload line = fail misplaced

abbrev pub numeral : Prog Numeral
numeral = look numeral_at

-- `("if"|"while"|"case") expr` and the word behind it
pub record Guard : Type 0 where
  pub line : ℕ
  pub value : Expr
  pub behind : ℕ

-- `"for" id ":=" expr ("to"|"downto") expr "do"`
pub record ForHead : Type 0 where
  pub line : ℕ
  pub name : Ident
  pub becomes : ℕ
  pub first : Expr
  pub toward : Lined Way
  pub last : Expr
  pub do_line : ℕ

abbrev pub way_at : Kind → Payload → ℕ → Prog (Lined Way)
way_at k.To nothing line = skip (done (record { item = way.Up; line = line }))
way_at k.Downto nothing line = skip (done (record { item = way.Down; line = line }))
way_at kind payload line = fail misplaced

module _ (most : ℕ) where
  -- the expression behind the first word, and the word behind it
  abbrev pub guard_by : ℕ → Kind → ℕ → Prog Guard
  guard_by n word line =
      bind (expr most n 0) (λ e. bind (mark word)
      (λ behind. done (record { line = line; value = e; behind = behind })))

  abbrev pub for_head_by : ℕ → ℕ → Prog ForHead
  for_head_by n line =
      bind ident (λ name. bind (mark k.Becomes) (λ becomes. bind (expr most n 0) (λ first. bind (look way_at)
      (λ toward. bind (expr most n 0) (λ last. bind (mark k.Do) (λ do_line. done (record {
        line = line;
        name = name;
        becomes = becomes;
        first = first;
        toward = toward;
        last = last;
        do_line = do_line;
      })))))))

  -- arg = expr [":" expr]
  abbrev pub width_at : ℕ → Kind → Payload → ℕ → Prog (Option (Behind Expr))
  width_at n k.Colon nothing line =
      skip (bind (expr most n 0) (λ e. done (Some (record { line = line; item = e }))))
  width_at n kind payload line = done None

  abbrev pub argument_by : ℕ → Prog Argument
  argument_by n =
      bind (expr most n 0) (λ e. bind (look (width_at n)) (λ width. done (record { value = e; width = width })))

  -- "(" arg {"," arg} ")"
  abbrev pub arguments_by : ℕ → ℕ → Prog Arguments
  arguments_by n line =
      in_form (n + 1) (skip (bind (items_by (argument_by (n + 1)) most) (λ items. bind (mark k.RightParenthesis)
      (λ closed. done (record { opened = line; items = items; closed = closed })))))

  -- var ":=" expr | id ["(" arg {"," arg} ")"]
  abbrev pub assignment_by : ℕ → Ident → Prog Plain
  assignment_by n name =
      bind (variable most n 0 name) (λ v. bind (mark k.Becomes) (λ line. bind (expr most n 0)
      (λ e. done (tree.assignment v line e))))

  abbrev pub behind_statement_name : ℕ → Ident → Kind → Payload → ℕ → Prog Plain
  behind_statement_name n name k.LeftParenthesis nothing line =
      bind (arguments_by n line) (λ arguments. done (tree.procedure_call name (Some arguments)))
  behind_statement_name n name k.LeftBracket payload line = assignment_by n name
  behind_statement_name n name k.Dot payload line = assignment_by n name
  behind_statement_name n name k.Caret payload line = assignment_by n name
  behind_statement_name n name k.Becomes payload line = assignment_by n name
  behind_statement_name n name kind payload line = done (tree.procedure_call name None)

-- the constants, the line of the colon and the statement of an element
pub record Element : Type 0 where
  pub constants : Separated Constant
  pub colon : ℕ
  pub statement : Statement

-- what stands behind a semicolon in a case: an element more, or what ends the elements
pub data Arm : Type 0 where
  one_more : Element → Arm
  tail : Others → Arm

pub record Arms : Type 0 where
  pub elements : Elements
  pub others : Others

-- the arms behind elements, where the next one stands behind a semicolon in this line
abbrev pub with_arm : Elements → ℕ → Arm → Arms
with_arm elements line (one_more element) =
    record {
      elements = tree.more_elements elements line element.constants element.colon element.statement;
      others = tree.no_others;
    }
with_arm elements line (tail end) = record { elements = elements; others = end }

-- whether a constant is the name `others`
abbrev pub is_others : Constant → Bool
is_others (tree.named lead name) = bytes_eq name.name others_name
is_others other = false

-- the line of `others`, where constants before a colon are that name alone
abbrev pub others_line_by : Constant → List (Behind Constant) → Option ℕ
others_line_by (tree.named None name) [] = if bytes_eq name.name others_name then Some name.line else None
others_line_by first rest = None

abbrev pub others_line : Separated Constant → Option ℕ
others_line constants = others_line_by constants.first constants.more

-- a reader behind constants of which the last is not the name `others`
abbrev pub unless_others : {A : Type 0} → Bool → Prog A → Prog A
unless_others true reader = fail misplaced
unless_others false reader = reader

module _ (statement : ℕ → Prog Statement) (most : ℕ) where
  -- list = stmt {";" stmt}
  abbrev pub behind_statement : ℕ → Statements → Kind → Payload → ℕ → Next Statements
  behind_statement n list k.Semicolon nothing line =
      more (bind (statement n) (λ s. done (tree.more_statements list line s)))
  behind_statement n list kind payload line = ends

  abbrev pub statements_by : ℕ → Prog Statements
  statements_by n =
      bind (statement n) (λ first. turns (behind_statement n) most (tree.first_statement first))

  -- "begin" list "end"
  abbrev pub compound_by : ℕ → ℕ → Prog Compound
  compound_by n line =
      in_form (n + 1) (skip (bind (statements_by (n + 1)) (λ list. bind (mark k.End)
      (λ end. done (record { begin = line; list = list; end = end })))))

  -- "if" expr "then" stmt ["else" stmt]
  abbrev pub else_at : ℕ → Guard → Statement → Kind → Payload → ℕ → Prog Plain
  else_at n head s k.Else nothing line =
      skip (bind (statement n) (λ t. done (tree.if_else head.line head.value head.behind s line t)))
  else_at n head s k.Else payload line = fail misplaced
  else_at n head s kind payload line = done (tree.if_then head.line head.value head.behind s)

  abbrev pub if_by : ℕ → ℕ → Prog Plain
  if_by n line =
      in_form (n + 1) (skip (bind (guard_by most (n + 1) k.Then line) (λ head. bind (statement (n + 1))
      (λ s. look (else_at (n + 1) head s)))))

  -- "while" expr "do" stmt
  abbrev pub while_by : ℕ → ℕ → Prog Plain
  while_by n line =
      in_form (n + 1) (skip (bind (guard_by most (n + 1) k.Do line) (λ head. bind (statement (n + 1))
      (λ s. done (tree.while head.line head.value head.behind s)))))

  -- "repeat" list "until" expr
  abbrev pub repeat_by : ℕ → ℕ → Prog Plain
  repeat_by n line =
      in_form (n + 1) (skip (bind (statements_by (n + 1)) (λ list. bind (mark k.Until) (λ until. bind
      (expr most (n + 1) 0) (λ e. done (tree.repeat line list until e))))))

  -- "for" id ":=" expr ("to"|"downto") expr "do" stmt
  abbrev pub for_by : ℕ → ℕ → Prog Plain
  for_by n line =
      in_form (n + 1) (skip (bind (for_head_by most (n + 1) line) (λ head. bind (statement (n + 1))
      (λ s. done (tree.for head.line head.name head.becomes head.first head.toward head.last head.do_line s)))))

  -- elem = const {"," const} ":" stmt, behind its constants
  abbrev pub element_by : ℕ → Separated Constant → Prog Element
  element_by n constants =
      unless_others (is_others (last_item constants)) (bind (mark k.Colon) (λ colon. bind (statement n)
      (λ s. done (record { constants = constants; colon = colon; statement = s }))))

  -- "others" ":" stmt [";"], behind the name
  abbrev pub others_by : ℕ → ℕ → ℕ → ℕ → Prog Arm
  others_by n semicolon line colon =
      skip (bind (statement n) (λ s. bind (maybe_mark k.Semicolon)
      (λ end. done (tail (tree.others semicolon line colon s end)))))

  abbrev pub colon_behind : ℕ → ℕ → Separated Constant → ℕ → Option ℕ → Prog Arm
  colon_behind n semicolon constants colon (Some line) = others_by n semicolon line colon
  colon_behind n semicolon constants colon None =
      bind (element_by n constants) (λ element. done (one_more element))

  abbrev pub behind_constants : ℕ → ℕ → Separated Constant → Kind → Payload → ℕ → Prog Arm
  behind_constants n semicolon constants k.Colon nothing line =
      colon_behind n semicolon constants line (others_line constants)
  behind_constants n semicolon constants kind payload line =
      bind (element_by n constants) (λ element. done (one_more element))

  abbrev pub next_arm_at : ℕ → ℕ → Kind → Payload → ℕ → Prog Arm
  next_arm_at n semicolon k.End payload line = done (tail (tree.semicolon semicolon))
  next_arm_at n semicolon kind payload line =
      bind (items_by constant most) (λ constants. look (behind_constants n semicolon constants))

  -- elem {";" elem} [";" ["others" ":" stmt [";"]]]
  abbrev pub behind_arm_by : ℕ → Elements → Others → Kind → Payload → ℕ → Next Arms
  behind_arm_by n elements tree.no_others k.Semicolon nothing line =
      more (bind (look (next_arm_at n line)) (λ arm. done (with_arm elements line arm)))
  behind_arm_by n elements end kind payload line = ends

  abbrev pub behind_arm : ℕ → Arms → Kind → Payload → ℕ → Next Arms
  behind_arm n arms kind payload line = behind_arm_by n arms.elements arms.others kind payload line

  abbrev pub first_arm : Element → Arms
  first_arm element =
      record {
        elements = tree.first_element element.constants element.colon element.statement;
        others = tree.no_others;
      }

  abbrev pub arms_by : ℕ → Prog Arms
  arms_by n =
      bind (items_by constant most) (λ constants. bind (element_by n constants)
      (λ first. turns (behind_arm n) most (first_arm first)))

  -- "case" expr "of" elem {";" elem} [";" ["others" ":" stmt [";"]]] "end"
  abbrev pub case_by : ℕ → ℕ → Prog Plain
  case_by n line =
      in_form (n + 1) (skip (bind (guard_by most (n + 1) k.Of line) (λ head. bind (arms_by (n + 1))
      (λ arms. bind (mark k.End)
      (λ end. done (tree.case head.line head.value head.behind arms.elements arms.others end))))))

  -- plain
  abbrev pub plain_at : ℕ → Kind → Payload → ℕ → Prog Plain
  plain_at n k.Name (spelling name) line =
      skip (look (behind_statement_name most n (record { name = name; line = line })))
  plain_at n k.Begin nothing line =
      bind (compound_by n line) (λ body. done (tree.compound body.begin body.list body.end))
  plain_at n k.If nothing line = if_by n line
  plain_at n k.Case nothing line = case_by n line
  plain_at n k.While nothing line = while_by n line
  plain_at n k.Repeat nothing line = repeat_by n line
  plain_at n k.For nothing line = for_by n line
  plain_at n k.Goto nothing line = skip (bind numeral (λ label. done (tree.goto line label)))
  plain_at n k.With nothing line = fail (shown WITH_STATEMENTS)
  plain_at n kind payload line = done tree.empty

  -- stmt = [number ":"] plain
  abbrev pub labelled_by : ℕ → Numeral → Prog Statement
  labelled_by n label =
      bind (mark k.Colon) (λ colon. bind (look (plain_at n)) (λ s. done (tree.labelled label colon s)))

  abbrev pub statement_at : ℕ → Kind → Payload → ℕ → Prog Statement
  statement_at n k.Number (value number) line = skip (labelled_by n (record { value = number; line = line }))
  statement_at n kind payload line = bind (look (plain_at n)) (λ s. done (tree.unlabelled s))

-- a statement, where so many turns may be taken
unfoldable pub statement : ℕ → ℕ → Prog Statement
statement zero n = fail spent
statement (suc most) n = look (statement_at (statement most) most n)

-- a compound statement, which begins where `begin` comes next
abbrev pub compound_at : ℕ → ℕ → Kind → Payload → ℕ → Prog Compound
compound_at most n k.Begin nothing line = compound_by (statement most) most n line
compound_at most n kind payload line = fail misplaced

unfoldable pub compound : ℕ → ℕ → Prog Compound
compound most n = look (compound_at most n)

-- parts of statements, where so many turns may be taken in each statement that stands in them
abbrev pub plain : ℕ → ℕ → Prog Plain
plain most n = look (plain_at (statement most) most n)

abbrev pub statements : ℕ → ℕ → Prog Statements
statements most n = statements_by (statement most) most n

abbrev pub arms : ℕ → ℕ → Prog Arms
arms most n = arms_by (statement most) most n

abbrev pub next_arm : ℕ → ℕ → ℕ → Prog Arm
next_arm most n semicolon = look (next_arm_at (statement most) most n semicolon)

abbrev pub element : ℕ → ℕ → Separated Constant → Prog Element
element most n constants = element_by (statement most) most n constants

-- a reader that is told the line of the token that comes next
abbrev pub with_line : {A : Type 0} → (ℕ → Prog A) → Prog A
with_line reader = look (λ kind payload line. reader line)
