-- The meaning at work: small programs, and what they write.
use Rattle.std.specs.Prelude.{◌≡◌, ℕ, pos, List, [], ◌∷◌, codes, Option, Some, None, map, refl}
use Rattle.pas_syntax.specs.declared.operators.Sign.TheVariants as sign
use Rattle.pas_syntax.specs.declared.operators.Multiplying.TheVariants as multiplying
use Rattle.pas_syntax.specs.declared.operators.Adding.TheVariants as adding
use Rattle.pas_syntax.specs.declared.operators.Way.TheVariants as way
use Rattle.pas_typed.specs.Types.{Range, whole, integer, char, text, row, array}
use Rattle.pas_typed.specs.Typed as typed
use Rattle.pas_typed.specs.Typed.{Variable, Slot, Value, Place, Statement, Statements, Heading, Body, TypedProgram}
use Rattle.pas_meaning.specs.declared.errors.TheConstants.{UNDEFINED_VALUE}
use Rattle.pas_meaning.specs.Outcome.{halted, going}
use Rattle.pas_meaning.specs.Trial.{Ending, ended, error, Result, pascal_trial}

-- what a trial is told by: its end, and the bytes of its files
pub record Shown : Type 0 where
  pub ending : Ending
  pub bytes : List (List ℕ)

abbrev shown : Result → Shown
shown result = record { ending = result.ending; bytes = map (λ file. file.bytes) result.world.files }

-- program t(output);var i:integer;begin S end.
abbrev output : Variable
output = record { name = codes "output"; mode = typed.declared; type = text }

abbrev i : Variable
i = record { name = codes "i"; mode = typed.declared; type = whole integer }

abbrev the_output : Place
the_output = typed.slot (record { home = typed.global; number = 0; mode = typed.declared; type = text })

abbrev slot_i : Slot
slot_i = record { home = typed.global; number = 1; mode = typed.declared; type = whole integer }

abbrev program_of : Statements → TypedProgram
program_of list = record {
  types = [];
  globals = output ∷ i ∷ [];
  files = 0 ∷ [];
  headings = [];
  bodies = [];
  labels = [];
  statements = list;
}

-- one statement
abbrev only : Statement → Statements
only s = typed.item None s typed.no_statements

abbrev number : ℕ → Value
number value = typed.constant integer (pos value)

abbrev letter : ℕ → Value
letter byte = typed.constant char (pos byte)

abbrev written : Value → Option Value → Statement
written value width = typed.writes the_output (typed.char_item value width ∷ [])

-- the char of a digit: chr(VALUE+48)
abbrev digit : Value → Value
digit value = typed.applied typed.chr (typed.addition value adding.Plus (number 48))

-- for i:=2147483646 to 2147483647 do writeln(output,chr(i mod 10+48))
abbrev counting : TypedProgram
counting = program_of (only (typed.for slot_i way.Up (number 2147483646) (number 2147483647)
    (only (typed.writes_line the_output (typed.char_item
    (digit (typed.product (typed.read (typed.slot slot_i)) multiplying.Mod (number 10))) None ∷ [])))))

pub two_steps_are_enough : shown (pascal_trial counting ([] ∷ []) 2)
    ≡ record { ending = ended (halted 0); bytes = (codes "6\n7\n") ∷ [] }
unfolding pascal_trial
two_steps_are_enough = refl

pub one_step_is_not : shown (pascal_trial counting ([] ∷ []) 1)
    ≡ record { ending = ended going; bytes = (codes "6\n") ∷ [] }
unfolding pascal_trial
one_step_is_not = refl

-- write(output,chr((-7) mod 3+48),chr((-7) div 2+3+48):3)
abbrev minus : ℕ → Value
minus value = typed.parenthesized (typed.signed sign.Minus (number value))

abbrev quotients : TypedProgram
quotients = program_of (only (typed.writes the_output
    (typed.char_item (digit (typed.product (minus 7) multiplying.Mod (number 3))) None
    ∷ typed.char_item (digit (typed.addition (typed.product (minus 7) multiplying.Div (number 2)) adding.Plus
    (number 3))) (Some (number 3)) ∷ [])))

pub quotients_written : shown (pascal_trial quotients ([] ∷ []) 0)
    ≡ record { ending = ended (halted 0); bytes = codes "2  0" ∷ [] }
unfolding pascal_trial
quotients_written = refl

-- a `while` of which the test is always true, and which writes a byte a turn
abbrev forever : TypedProgram
forever = program_of (only (typed.while (number 1) (only (written (letter 49) None))))

pub no_turn : shown (pascal_trial forever ([] ∷ []) 0) ≡ record { ending = ended going; bytes = [] ∷ [] }
unfolding pascal_trial
no_turn = refl

pub three_turns : shown (pascal_trial forever ([] ∷ []) 3)
    ≡ record { ending = ended going; bytes = codes "111" ∷ [] }
unfolding pascal_trial
three_turns = refl

-- write(output,chr(i+48)), where i is undefined
pub undefined_written : shown (pascal_trial
    (program_of (only (written (digit (typed.read (typed.slot slot_i))) None))) ([] ∷ []) 0)
    ≡ record { ending = error UNDEFINED_VALUE; bytes = [] ∷ [] }
unfolding pascal_trial
undefined_written = refl

-- begin 5: write(output,'1'); goto 5 end at 2 steps: a step is taken where a goto lands
pub goto_takes_a_step : shown (pascal_trial (program_of (typed.item (Some 5) (written (letter 49) None) (only
    (typed.goto 5)))) ([] ∷ []) 2) ≡ record { ending = ended going; bytes = codes "111" ∷ [] }
unfolding pascal_trial
goto_takes_a_step = refl

-- program t(output);var i:integer;a:array[1..2] of integer;
-- function f(var x:integer):integer;begin x:=x+1;f:=7 end;
-- begin i:=1;a[1]:=0;a[2]:=0;a[i]:=f(i);write(output,chr(a[1]+48),chr(a[2]+48)) end.
abbrev one_to_two : Range
one_to_two = record { base = integer; low = pos 1; high = pos 2 }

abbrev a : Variable
a = record { name = codes "a"; mode = typed.declared; type = row 0 }

abbrev element_at : Value → Place
element_at index =
    typed.element (typed.slot (record { home = typed.global; number = 2; mode = typed.declared; type = row 0 }))
    one_to_two (whole integer) index

abbrev x : Variable
x = record { name = codes "x"; mode = typed.by_name; type = whole integer }

abbrev the_x : Place
the_x = typed.slot (record { home = typed.local; number = 0; mode = typed.by_name; type = whole integer })

abbrev list_of : List Statement → Statements
list_of [] = typed.no_statements
list_of (s ∷ statements) = typed.item None s (list_of statements)

abbrev pub index_behind_right_side : TypedProgram
index_behind_right_side = record (program_of (list_of (
    typed.assigns (typed.slot slot_i) (number 1)
    ∷ typed.assigns (element_at (number 1)) (number 0)
    ∷ typed.assigns (element_at (number 2)) (number 0)
    ∷ typed.assigns (element_at (typed.read (typed.slot slot_i)))
    (typed.call 0 (whole integer) (typed.reference (typed.slot slot_i) typed.nothing))
    ∷ written (digit (typed.read (element_at (number 1)))) None
    ∷ written (digit (typed.read (element_at (number 2)))) None ∷ []))) {
      types = record { structure = array one_to_two (whole integer); cells = 2 } ∷ [];
      globals = output ∷ i ∷ a ∷ [];
      headings = record { name = codes "f"; result = Some (whole integer); parameters = x ∷ [] } ∷ [];
      bodies = record {
        routine = 0;
        variables = x ∷ [];
        labels = [];
        statements = list_of (typed.assigns the_x (typed.addition (typed.read the_x) adding.Plus (number 1))
            ∷ typed.sets_result 1 (whole integer) (number 7) ∷ []);
      } ∷ [];
    }

pub index_is_evaluated_last : shown (pascal_trial index_behind_right_side ([] ∷ []) 1)
    ≡ record { ending = ended (halted 0); bytes = codes "07" ∷ [] }
unfolding pascal_trial
index_is_evaluated_last = refl

-- program t(input,output);var c:char; while not eof(input) do begin read(input,c);write(output,c) end
abbrev input : Variable
input = record { name = codes "input"; mode = typed.declared; type = text }

abbrev c : Variable
c = record { name = codes "c"; mode = typed.declared; type = whole char }

abbrev the_input : Place
the_input = typed.slot (record { home = typed.global; number = 0; mode = typed.declared; type = text })

abbrev the_second_output : Place
the_second_output = typed.slot (record { home = typed.global; number = 1; mode = typed.declared; type = text })

abbrev the_c : Place
the_c = typed.slot (record { home = typed.global; number = 2; mode = typed.declared; type = whole char })

abbrev pub copying : TypedProgram
copying = record (program_of (only (typed.while (typed.negated (typed.tested typed.eof the_input)) (list_of (
    typed.reads the_input (the_c ∷ [])
    ∷ typed.writes the_second_output (typed.char_item (typed.read the_c) None ∷ []) ∷ []))))) {
      globals = input ∷ output ∷ c ∷ [];
      files = 0 ∷ 1 ∷ [];
    }

pub text_is_copied : shown (pascal_trial copying (codes "ab" ∷ [] ∷ []) 4)
    ≡ record { ending = ended (halted 0); bytes = codes "ab" ∷ codes "ab " ∷ [] }
unfolding pascal_trial
text_is_copied = refl
