-- How the readers of statements go at the token that comes next.
use Rattle.std.proofs.Common.{◌≡◌, refl, sym, ap, subst, ℕ, zero, suc, ◌≤◌, arith, List, length}
use Rattle.std.proofs.Common.{Result, Ok, None}
use Rattle.std.specs.Prelude.{⊤}
use Rattle.pas_tokens.specs.declared.kinds.Kind.{Kind}
use Rattle.pas_tokens.specs.declared.kinds.Kind.TheVariants as k
use Rattle.pas_tokens.specs.Cutting.{Payload, nothing, value, spelling}
use Rattle.pas_tokens.specs.Tokens.{Token}
use Rattle.pas_syntax.specs.declared.stop.Stop.{Stop}
use Rattle.pas_syntax.specs.declared.tree.Ident.{Ident as CodeIdent}
use Rattle.pas_syntax.specs.Tree as tree
use Rattle.pas_syntax.specs.Tree.{Ident, Plain, Statement}
use Rattle.pas_syntax.specs.inner.Prog.{Prog, done, look, bind, run, head}
use Rattle.pas_syntax.specs.inner.Readers.{ident_at, ident}
use Rattle.pas_syntax.specs.inner.Places.{Place, Fits, Parses, ParsesIn, Gives}
use Rattle.pas_syntax.specs.Views.{ident_in}
use Rattle.pas_syntax.specs.inner.StatementReaders.{assignment_by}
use Rattle.pas_syntax.specs.inner.StatementReaders.{Guard, numeral_at, numeral, behind_statement_name, else_at}
use Rattle.pas_syntax.specs.inner.StatementReaders.{plain_at, labelled_by}
use Rattle.pas_syntax.specs.inner.StatementReaders.{statement_at, statement}
use Rattle.pas_syntax.proofs.PlaceLemmas.{goes_on, goes_as, with_more, any_turns, ident_further}

-- a label comes next
number_at_kind : (s : ℕ → Prog Statement) (m n : ℕ) (ts : List Token) (kind : Kind) (payload : Payload) (line : ℕ)
    → k.Number ≡ kind → Fits kind payload
    → run (statement_at s m n kind payload line) ts ≡ run (bind (numeral_at kind payload line) (labelled_by s m n)) ts
number_at_kind s m n ts k.Number (value number) line is fits = refl
number_at_kind s m n ts k.Number nothing line is fits = absurd fits
number_at_kind s m n ts k.Number (spelling bytes) line is fits = absurd fits
number_at_kind s m n ts kind payload line is fits = cc

pub number_comes : (s : ℕ → Prog Statement) (m n : ℕ) (ts : List Token) → k.Number ≡ (head ts).kind
    → Fits (head ts).kind (head ts).payload
    → run (look (statement_at s m n)) ts ≡ run (bind numeral (labelled_by s m n)) ts
number_comes s m n ts is fits = number_at_kind s m n ts (head ts).kind (head ts).payload (head ts).line is fits

no_number_at : (s : ℕ → Prog Statement) (m n : ℕ) (kind : Kind) (payload : Payload) (line : ℕ) → (k.Number ≡ kind → ⊥)
    → statement_at s m n kind payload line ≡ bind (look (plain_at s m n)) (λ x. done (tree.unlabelled x))
no_number_at s m n k.Number payload line other = absurd (other refl)
no_number_at s m n kind payload line other = refl

pub no_number_comes : (s : ℕ → Prog Statement) (m n : ℕ) (ts : List Token) → (k.Number ≡ (head ts).kind → ⊥)
    → run (look (statement_at s m n)) ts ≡ run (bind (look (plain_at s m n)) (λ x. done (tree.unlabelled x))) ts
no_number_comes s m n ts other =
    ap (λ q. run q ts) (no_number_at s m n (head ts).kind (head ts).payload (head ts).line other)

-- a name comes next
name_at_kind : (s : ℕ → Prog Statement) (m n : ℕ) (ts : List Token) (kind : Kind) (payload : Payload) (line : ℕ)
    → k.Name ≡ kind → Fits kind payload
    → run (plain_at s m n kind payload line) ts
    ≡ run (bind (ident_at kind payload line) (λ name. look (behind_statement_name m n name))) ts
name_at_kind s m n ts k.Name (spelling name) line is fits = refl
name_at_kind s m n ts k.Name nothing line is fits = absurd fits
name_at_kind s m n ts k.Name (value number) line is fits = absurd fits
name_at_kind s m n ts kind payload line is fits = cc

pub name_comes : (s : ℕ → Prog Statement) (m n : ℕ) (ts : List Token) → k.Name ≡ (head ts).kind
    → Fits (head ts).kind (head ts).payload
    → run (look (plain_at s m n)) ts ≡ run (bind ident (λ name. look (behind_statement_name m n name))) ts
name_comes s m n ts is fits = name_at_kind s m n ts (head ts).kind (head ts).payload (head ts).line is fits

-- no statement comes next
pub nothing_comes : (s : ℕ → Prog Statement) (m n : ℕ) (kind : Kind) (payload : Payload) (line : ℕ)
    → (k.Name ≡ kind → ⊥) → (k.Begin ≡ kind → ⊥) → (k.If ≡ kind → ⊥) → (k.Case ≡ kind → ⊥) → (k.While ≡ kind → ⊥)
    → (k.Repeat ≡ kind → ⊥) → (k.For ≡ kind → ⊥) → (k.Goto ≡ kind → ⊥) → (k.With ≡ kind → ⊥)
    → plain_at s m n kind payload line ≡ done tree.empty
nothing_comes s m n k.Name payload line a b c d e f g h i = absurd (a refl)
nothing_comes s m n k.Begin payload line a b c d e f g h i = absurd (b refl)
nothing_comes s m n k.If payload line a b c d e f g h i = absurd (c refl)
nothing_comes s m n k.Case payload line a b c d e f g h i = absurd (d refl)
nothing_comes s m n k.While payload line a b c d e f g h i = absurd (e refl)
nothing_comes s m n k.Repeat payload line a b c d e f g h i = absurd (f refl)
nothing_comes s m n k.For payload line a b c d e f g h i = absurd (g refl)
nothing_comes s m n k.Goto payload line a b c d e f g h i = absurd (h refl)
nothing_comes s m n k.With payload line a b c d e f g h i = absurd (i refl)
nothing_comes s m n kind payload line a b c d e f g h i = refl

-- no `else` comes next
no_else_at : (s : ℕ → Prog Statement) (m n : ℕ) (g : Guard) (x : Statement) (kind : Kind) (payload : Payload) (line : ℕ)
    → (k.Else ≡ kind → ⊥)
    → else_at s m n g x kind payload line ≡ done (tree.if_then g.line g.value g.behind x)
no_else_at s m n g x k.Else payload line other = absurd (other refl)
no_else_at s m n g x kind payload line other = refl

pub no_else_comes : (s : ℕ → Prog Statement) (m n : ℕ) (g : Guard) (x : Statement) (ts : List Token)
    → (k.Else ≡ (head ts).kind → ⊥)
    → run (look (else_at s m n g x)) ts ≡ run (done (tree.if_then g.line g.value g.behind x)) ts
no_else_comes s m n g x ts other =
    ap (λ q. run q ts) (no_else_at s m n g x (head ts).kind (head ts).payload (head ts).line other)

some_turn : (n m : ℕ) → suc n ≤ m → (j : ℕ) × (m ≡ suc j)
some_turn n zero h = absurd (omega (arith, h))
some_turn n (suc j) h = (j, refl)

-- a statement takes a turn
pub statement_takes : {X : Type 0} {view : List ℕ → X → Statement} {old new : Place} {result : Result X Stop} (n : ℕ)
    → ParsesIn (length old.tokens) (λ m. look (statement_at (statement m) m n)) view old result new
    → Parses (λ m. statement m n) view old result new
unfolding statement
statement_takes {view = view} {old = old} {new = new} {result = result} n h =
    record {
      gives = λ most enough.
          let j = some_turn (length old.tokens) most enough in
          subst (λ m. Gives (view old.spellings) result new.tokens (run (statement m n) old.tokens)) (sym j.1)
          (h.gives j.0 (omega (arith, enough, j.1)));
      shorter = h.shorter;
      taken = h.taken;
      spellings = h.spellings;
    }

-- an assignment comes next, behind the name of its variable
abbrev pub BeginsAssignment : Kind → Type 0
BeginsAssignment k.LeftBracket = ⊤
BeginsAssignment k.Dot = ⊤
BeginsAssignment k.Caret = ⊤
BeginsAssignment k.Becomes = ⊤
BeginsAssignment kind = ⊥

assignment_at : (m n : ℕ) (name : Ident) (kind : Kind) (payload : Payload) (line : ℕ) → BeginsAssignment kind
    → behind_statement_name m n name kind payload line ≡ assignment_by m n name
assignment_at m n name k.LeftBracket payload line begins = refl
assignment_at m n name k.Dot payload line begins = refl
assignment_at m n name k.Caret payload line begins = refl
assignment_at m n name k.Becomes payload line begins = refl
assignment_at m n name kind payload line begins = absurd begins

-- and it is read
pub assigned : {X : Type 0} {view : List ℕ → X → Plain} {old middle new : Place} {name : CodeIdent}
    {result : Result X Stop} (n : ℕ) → Parses (λ m. ident) ident_in old (Ok name) middle
    → BeginsAssignment (head middle.tokens).kind
    → Parses (λ m. assignment_by m n (ident_in middle.spellings name)) view middle result new
    → ParsesIn (length old.tokens) (λ m. bind ident (λ name. look (behind_statement_name m n name))) view old result new
assigned {view = view} {middle = middle} {new = new} {name = name} {result = result} n named begins read =
    let t = head middle.tokens in
    goes_on (λ m name. look (behind_statement_name m n name)) (any_turns ident named) (with_more (ident_further named)
    (goes_as (λ m. ap (λ q. run q middle.tokens) (assignment_at m n _ t.kind t.payload t.line begins))
    (subst (λ s. Parses (λ m. assignment_by m n (ident_in s name)) view middle result new) named.spellings read)))

-- nothing comes next that stands behind the name of a procedure or of a variable
pub no_more_comes : (m n : ℕ) (name : Ident) (kind : Kind) (payload : Payload) (line : ℕ)
    → (k.LeftParenthesis ≡ kind → ⊥) → (k.LeftBracket ≡ kind → ⊥) → (k.Dot ≡ kind → ⊥) → (k.Caret ≡ kind → ⊥)
    → (k.Becomes ≡ kind → ⊥) → behind_statement_name m n name kind payload line ≡ done (tree.procedure_call name None)
no_more_comes m n name k.LeftParenthesis payload line a b c d e = absurd (a refl)
no_more_comes m n name k.LeftBracket payload line a b c d e = absurd (b refl)
no_more_comes m n name k.Dot payload line a b c d e = absurd (c refl)
no_more_comes m n name k.Caret payload line a b c d e = absurd (d refl)
no_more_comes m n name k.Becomes payload line a b c d e = absurd (e refl)
no_more_comes m n name kind payload line a b c d e = refl
