-- The grammar at work: texts, and the trees that they mean.
use Rattle.std.specs.Prelude.{◌≡◌, ℕ, List, [], ◌∷◌, ◌++◌, codes, Some, None, Ok, refl}
use Rattle.wb_base.specs.declared.faults.TheConstants.{VARIANT_RECORDS, NESTED_ROUTINES, LOCAL_CONSTANTS_AND_TYPES}
use Rattle.pas_tokens.specs.declared.kinds.Kind.TheVariants as k
use Rattle.pas_tokens.specs.Cutting.{nothing, spelling}
use Rattle.pas_tokens.specs.Tokens.{Token, tokens_of, tokens_from}
use Rattle.pas_syntax.specs.declared.operators.Sign.TheVariants as sign
use Rattle.pas_syntax.specs.declared.operators.Adding.TheVariants as adding
use Rattle.pas_syntax.specs.declared.operators.Multiplying.TheVariants as multiplying
use Rattle.pas_tokens.specs.declared.kinds.Kind.{Kind}
use Rattle.pas_syntax.specs.Tree.{Ident, Numeral, Lined, Expr, Factor, Plain, Statements, Program}
use Rattle.pas_syntax.specs.Tree.{sum, first_term, signed_term, more_terms, first_factor, more_factors, literal}
use Rattle.pas_syntax.specs.Tree.{variable, whole, indexed, field_of, buffer_of, first_expr, more_exprs, empty}
use Rattle.pas_syntax.specs.Tree.{assignment, procedure_call, if_else, unlabelled, labelled, first_statement}
use Rattle.pas_syntax.specs.Tree.{more_statements}
use Rattle.pas_syntax.specs.Words.{program_words}
use Rattle.pas_syntax.specs.Regions.{part_behind}
use Rattle.pas_syntax.specs.Parse.{tokens_in}

-- the text has exactly the tokens of the tree
abbrev HasTokens : List ℕ → Program → Type 0
HasTokens text program = tokens_of text ≡ Ok (tokens_in (program_words program))

-- a name and a number in line 1
abbrev name_of : List ℕ → Ident
name_of bytes = record { name = bytes; line = 1 }

abbrev number_of : ℕ → Numeral
number_of value = record { value = value; line = 1 }

abbrev the : {A : Type 0} → A → Lined A
the item = record { item = item; line = 1 }

-- a variable, a number and a term of them
abbrev variable_named : List ℕ → Factor
variable_named bytes = variable (whole (name_of bytes))

abbrev expr_of : Factor → Expr
expr_of factor = sum (first_term (first_factor factor))

-- a program `t` without declarations, with this statement between `begin` and `end`
abbrev program_of : Statements → Program
program_of list = record {
  line = 1;
  name = name_of (codes "t");
  parameters = None;
  behind_heading = 1;
  labels = None;
  constants = None;
  types = None;
  variables = None;
  routines = [];
  body = record { begin = 1; list = list; end = 1 };
  dot = 1;
  end = 1;
}

abbrev one : Plain → Statements
one plain = first_statement (unlabelled plain)

pub if_and_else : HasTokens (codes "program t;begin if true then else end.")
    (program_of (one (if_else 1 (expr_of (variable_named (codes "true"))) 1 (unlabelled empty) 1 (unlabelled empty))))
unfolding tokens_of tokens_from program_words
if_and_else = refl

pub operators : HasTokens (codes "program t;begin x:=-a+b*2 end.")
    (program_of (one (assignment (whole (name_of (codes "x"))) 1 (sum (more_terms
    (signed_term (the sign.Minus) (first_factor (variable_named (codes "a")))) (the adding.Plus)
    (more_factors (first_factor (variable_named (codes "b"))) (the multiplying.Times) (literal (number_of 2))))))))
unfolding tokens_of tokens_from program_words
operators = refl

pub index_lists : HasTokens (codes "program t;begin 5:p(a[1,i][2].f^,x:3);; end.")
    (program_of (more_statements (more_statements (first_statement (labelled (number_of 5) 1 (procedure_call
    (name_of (codes "p")) (Some (record {
      opened = 1;
      items = record {
        first = record {
          value = expr_of (variable (buffer_of (field_of (indexed (indexed (whole (name_of (codes "a"))) 1
              (more_exprs (first_expr (expr_of (literal (number_of 1)))) 1 (expr_of (variable_named (codes "i")))) 1) 1
              (first_expr (expr_of (literal (number_of 2)))) 1) 1 (name_of (codes "f"))) 1));
          width = None;
        };
        more = record {
          line = 1;
          item = record {
            value = expr_of (variable_named (codes "x"));
            width = Some (record { line = 1; item = expr_of (literal (number_of 3)) });
          };
        } ∷ [];
      };
      closed = 1;
    }))))) 1 (unlabelled empty)) 1 (unlabelled empty)))
unfolding tokens_of tokens_from program_words
index_lists = refl

-- tokens of a kind, and a name
abbrev token : Kind → Token
token kind = record { kind = kind; payload = nothing; line = 1 }

abbrev a_name : List ℕ → Token
a_name bytes = record { kind = k.Name; payload = spelling bytes; line = 1 }

-- in a record, and behind it
pub in_a_record : part_behind (token k.Var ∷ a_name (codes "r") ∷ token k.Colon ∷ token k.Record ∷ []) k.Case
    ≡ Some VARIANT_RECORDS
in_a_record = refl

pub behind_a_record : part_behind (token k.Record ∷ a_name (codes "x") ∷ token k.End ∷ []) k.Case ≡ None
behind_a_record = refl

-- in the heading, behind its semicolon, in the declarations, behind `forward`, and in the body
abbrev heading : List Token
heading = token k.Procedure ∷ a_name (codes "p") ∷ token k.LeftParenthesis ∷ a_name (codes "a") ∷ token k.Semicolon
    ∷ token k.RightParenthesis ∷ []

pub in_a_heading : part_behind heading k.Procedure ≡ None
in_a_heading = refl

pub behind_a_heading : part_behind (heading ++ token k.Semicolon ∷ []) k.Procedure ≡ Some NESTED_ROUTINES
behind_a_heading = refl

pub in_declarations_of_a_routine : part_behind (heading ++ token k.Semicolon ∷ (token k.Var ∷ [])) k.Const
    ≡ Some LOCAL_CONSTANTS_AND_TYPES
in_declarations_of_a_routine = refl

pub behind_forward : part_behind (heading ++ token k.Semicolon ∷ (a_name (codes "forward") ∷ [])) k.Type ≡ None
behind_forward = refl

pub in_a_body : part_behind (heading ++ token k.Semicolon ∷ (token k.Begin ∷ [])) k.Type ≡ None
in_a_body = refl
