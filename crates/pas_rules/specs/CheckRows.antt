-- The rules at work: small programs, with the fault of each or what it means.
use Rattle.std.specs.Prelude.{◌≡◌, ℕ, pos, List, [], ◌∷◌, codes, Option, Some, None, option_map, refl}
use Rattle.wb_base.specs.declared.faults.Fault.{Fault}
use Rattle.wb_base.specs.declared.faults.TheConstants.{UNKNOWN_NAME, WRONG_TYPE, CONSTANT_OUT_OF_RANGE, WRONG_LABEL}
use Rattle.wb_base.specs.declared.faults.TheConstants.{RESULT_NEVER_ASSIGNED, FILE_RULE, DUPLICATE_NAME, TOO_LARGE}
use Rattle.wb_base.specs.declared.faults.TheConstants.{READING_NUMBERS}
use Rattle.pas_tokens.specs.Cutting.{wrong}
use Rattle.pas_tokens.specs.Tokens.{fault_in}
use Rattle.pas_syntax.specs.declared.operators.Adding.TheVariants as adding
use Rattle.pas_syntax.specs.Tree as tree
use Rattle.pas_syntax.specs.Tree.{Ident, Numeral, Lined, Separated, TypeForm, Expr, Factor, Plain}
use Rattle.pas_syntax.specs.Tree.{Statements, Compound, Rows, VariableRow, Program}
use Rattle.pas_syntax.specs.Parse.{left_out}
use Rattle.pas_syntax.specs.Words.{program_words}
use Rattle.pas_typed.specs.Types as types
use Rattle.pas_typed.specs.Typed as typed
use Rattle.pas_rules.specs.Check.{checked_of, fault_of}

-- names, numbers and what is made of them, all in line 1
abbrev name_of : List ℕ → Ident
name_of bytes = record { name = bytes; line = 1 }

abbrev number_of : ℕ → Numeral
number_of value = record { value = value; line = 1 }

abbrev alone : {A : Type 0} → A → Separated A
alone item = record { first = item; more = [] }

abbrev the : {A : Type 0} → A → Lined A
the item = record { item = item; line = 1 }

abbrev only : {A : Type 0} → A → Option (Rows A)
only row = Some (record { line = 1; first = row; more = [] })

abbrev expr_of : Factor → Expr
expr_of factor = tree.sum (tree.first_term (tree.first_factor factor))

abbrev variable_named : List ℕ → Factor
variable_named bytes = tree.variable (tree.whole (name_of bytes))

abbrev named : List ℕ → Expr
named bytes = expr_of (variable_named bytes)

abbrev one : Plain → Statements
one plain = tree.first_statement (tree.unlabelled plain)

abbrev body_of : Statements → Compound
body_of list = record { begin = 1; list = list; end = 1 }

-- program t;begin LIST end.
abbrev program_of : Statements → Program
program_of list = record {
  line = 1;
  name = name_of (codes "t");
  parameters = None;
  behind_heading = 1;
  labels = None;
  constants = None;
  types = None;
  variables = None;
  routines = [];
  body = body_of list;
  dot = 1;
  end = 1;
}

-- NAME:FORM;
abbrev variable_row : List ℕ → TypeForm → VariableRow
variable_row bytes form = record { names = alone (name_of bytes); colon = 1; form = form; end = 1 }

abbrev fault_shown : ℕ → Option Fault
fault_shown code = Some (fault_in 1 (wrong code))

-- the statements of what a program means
abbrev meaning_of : Program → Option typed.Statements
meaning_of program = option_map (λ found. found.statements) (checked_of program).meaning

-- begin if true then else end.
abbrev if_true : Program
if_true = program_of (one (tree.if_else 1 (named (codes "true")) 1 (tree.unlabelled tree.empty) 1
    (tree.unlabelled tree.empty)))

pub if_true_shows_none : fault_of if_true ≡ None
unfolding checked_of program_words
if_true_shows_none = refl

pub if_true_means : meaning_of if_true
    ≡ Some (typed.item None (typed.if_else (typed.constant types.boolean (pos 1)) typed.empty typed.empty)
    typed.no_statements)
unfolding checked_of
if_true_means = refl

-- label 5;begin 5: end., and the same without its statement
abbrev with_label : Statements → Program
with_label list =
    record (program_of list) { labels = Some (record { line = 1; numbers = alone (number_of 5); end = 1 }) }

pub label_stands : fault_of (with_label (tree.first_statement (tree.labelled (number_of 5) 1 tree.empty))) ≡ None
unfolding checked_of program_words
label_stands = refl

pub label_does_not_stand : fault_of (with_label (one tree.empty)) ≡ fault_shown WRONG_LABEL
unfolding checked_of program_words
label_does_not_stand = refl

-- var a:array[3..1] of char;begin end.
abbrev array_form : ℕ → ℕ → TypeForm
array_form low high =
    tree.array None 1 1
    (alone (tree.range (tree.number None (number_of low)) 1 (tree.number None (number_of high)))) 1 1
    (tree.simple (tree.simple_named (name_of (codes "char"))))

abbrev with_variable : TypeForm → Statements → Program
with_variable form list = record (program_of list) { variables = only (variable_row (codes "a") form) }

pub bounds_in_the_wrong_order : fault_of (with_variable (array_form 3 1) (one tree.empty))
    ≡ fault_shown CONSTANT_OUT_OF_RANGE
unfolding checked_of program_words
bounds_in_the_wrong_order = refl

-- var a:array[1..3] of char;begin a[2]:='x' end.
abbrev element_assigned : Program
element_assigned = with_variable (array_form 1 3) (one (tree.assignment
    (tree.indexed (tree.whole (name_of (codes "a"))) 1 (tree.first_expr (expr_of (tree.literal (number_of 2)))) 1) 1
    (expr_of (tree.literal_text (record { text = codes "x"; line = 1 })))))

pub element_assigned_means : meaning_of element_assigned ≡ Some (typed.item None (typed.assigns
    (typed.element (typed.slot (record {
      home = typed.global;
      number = 0;
      mode = typed.declared;
      type = types.row 1;
    })) (record { base = types.integer; low = pos 1; high = pos 3 }) (types.whole types.char)
    (typed.constant types.integer (pos 2)))
    (typed.constant types.char (pos 120))) typed.no_statements)
unfolding checked_of
element_assigned_means = refl

-- an index of another base, and one too many
pub index_of_another_base : fault_of (with_variable (array_form 1 3) (one (tree.assignment
    (tree.indexed (tree.whole (name_of (codes "a"))) 1 (tree.first_expr (named (codes "true"))) 1) 1
    (named (codes "true"))))) ≡ fault_shown WRONG_TYPE
unfolding checked_of program_words
index_of_another_base = refl

-- function f:integer;begin end;begin end., and with f:=1
abbrev with_function : Statements → Program
with_function list = record (program_of (one tree.empty)) {
  routines = record {
    heading = tree.function 1 (name_of (codes "f")) None
        (Some (record { line = 1; item = tree.type_named (name_of (codes "integer")) }));
    behind_heading = 1;
    body = tree.block None None (body_of list);
    end = 1;
  } ∷ [];
}

pub no_result : fault_of (with_function (one tree.empty)) ≡ fault_shown RESULT_NEVER_ASSIGNED
unfolding checked_of program_words
no_result = refl

pub with_result : fault_of (with_function (one (tree.assignment (tree.whole (name_of (codes "f"))) 1
    (expr_of (tree.literal (number_of 1)))))) ≡ None
unfolding checked_of program_words
with_result = refl

-- begin goto 7 end. and begin x:=1 end.
pub goto_nowhere : fault_of (program_of (one (tree.goto 1 (number_of 7)))) ≡ fault_shown WRONG_LABEL
unfolding checked_of program_words
goto_nowhere = refl

pub name_unknown : fault_of (program_of (one (tree.assignment (tree.whole (name_of (codes "x"))) 1
    (expr_of (tree.literal (number_of 1)))))) ≡ fault_shown UNKNOWN_NAME
unfolding checked_of program_words
name_unknown = refl

-- begin write end.: without `output` among the parameters, and with it
pub no_output : fault_of (program_of (one (tree.procedure_call (name_of (codes "write")) None))) ≡ fault_shown FILE_RULE
unfolding checked_of program_words
no_output = refl

abbrev with_parameter : List ℕ → Program → Program
with_parameter bytes program = record program {
  parameters = Some (record { opened = 1; names = alone (name_of bytes); closed = 1 });
}

pub nothing_written : fault_of (with_parameter (codes "output")
    (program_of (one (tree.procedure_call (name_of (codes "write")) None)))) ≡ fault_shown WRONG_TYPE
unfolding checked_of program_words
nothing_written = refl

-- a parameter that is not declared, and one that is no file
pub parameter_unknown : fault_of (with_parameter (codes "a") (program_of (one tree.empty))) ≡ fault_shown UNKNOWN_NAME
unfolding checked_of program_words
parameter_unknown = refl

pub parameter_no_file : fault_of (with_parameter (codes "a") (with_variable (array_form 1 3) (one tree.empty)))
    ≡ fault_shown FILE_RULE
unfolding checked_of program_words
parameter_no_file = refl

-- `output` is declared by nothing else
pub output_declared : fault_of (record (program_of (one tree.empty))
    { variables = only (variable_row (codes "output") (tree.simple (tree.simple_named (name_of (codes "char"))))) })
    ≡ fault_shown DUPLICATE_NAME
unfolding checked_of program_words
output_declared = refl

-- var a:array[1..3] of text;begin end., and with more elements than the limit: the lower of two faults of a token
abbrev array_of_text : ℕ → TypeForm
array_of_text high =
    tree.array None 1 1
    (alone (tree.range (tree.number None (number_of 1)) 1 (tree.number None (number_of high)))) 1 1
    (tree.simple (tree.simple_named (name_of (codes "text"))))

pub array_of_files : fault_of (with_variable (array_of_text 3) (one tree.empty)) ≡ fault_shown FILE_RULE
unfolding checked_of program_words
array_of_files = refl

pub too_many_files : fault_of (with_variable (array_of_text 4194305) (one tree.empty)) ≡ fault_shown TOO_LARGE
unfolding checked_of program_words
too_many_files = refl

-- var a:char;begin a:=eof end. without `input`: of the two faults of a token the lower one
pub eof_misplaced : fault_of (with_variable (tree.simple (tree.simple_named (name_of (codes "char"))))
    (one (tree.assignment (tree.whole (name_of (codes "a"))) 1 (named (codes "eof"))))) ≡ fault_shown WRONG_TYPE
unfolding checked_of program_words
eof_misplaced = refl

-- program t(input);begin read(1+true) end.
pub sum_read : fault_of (with_parameter (codes "input") (program_of (one (tree.procedure_call (name_of (codes "read"))
    (Some (record {
      opened = 1;
      items = alone (record {
        value = tree.sum (tree.more_terms (tree.first_term (tree.first_factor (tree.literal (number_of 1))))
            (the adding.Plus) (tree.first_factor (variable_named (codes "true"))));
        width = None;
      });
      closed = 1;
    })))))) ≡ Some (fault_in 1 (left_out READING_NUMBERS))
unfolding checked_of program_words
sum_read = refl
