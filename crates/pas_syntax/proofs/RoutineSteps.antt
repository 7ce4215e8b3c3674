-- How the readers of routines and programs go at each kind of token, and a row of readers read as one.
use Rattle.std.proofs.Common.{◌≡◌, refl, sym, ap, subst, ◌∙◌, ℕ, suc, ◌<◌, arith, List, [], ◌∷◌, ◌++◌, map}
use Rattle.std.proofs.Common.{Bool, true, false, length, Some, None, Result, Ok, Err, ◌⊎◌, inl, inr}
use Rattle.std.specs.Str.{bytes_eq}
use Rattle.std.proofs.lemmas.List.{map-append}
use Rattle.wb_base.specs.declared.faults.TheConstants.{ROUTINES_AS_PARAMETERS}
use Rattle.pas_tokens.specs.declared.kinds.Kind.{Kind}
use Rattle.pas_tokens.specs.declared.kinds.Kind.TheVariants as k
use Rattle.pas_tokens.specs.Cutting.{Payload, nothing, spelling}
use Rattle.pas_tokens.specs.Tokens.{Token}
use Rattle.pas_syntax.specs.declared.stop.Stop.{Stop}
use Rattle.pas_syntax.specs.declared.stop.Stop.TheVariants as stop
use Rattle.pas_syntax.specs.declared.tree.Body.TheVariants as code_body
use Rattle.pas_syntax.specs.declared.tree.Block.{Block}
use Rattle.pas_syntax.specs.declared.tree.Routine.{Routine as CodeRoutine}
use Rattle.pas_syntax.specs.declared.tree.Compound.{Compound as CodeCompound}
use Rattle.pas_syntax.specs.Tree as tree
use Rattle.pas_syntax.specs.Tree.{Parameter, Body, Compound, Routine, Program, TypeName, forward_name}
use Rattle.pas_syntax.specs.ProgramViews.{body_in, compound_in, routine_in}
use Rattle.pas_syntax.specs.inner.Prog.{Prog, done, fail, look, skip, bind, Out, run, head, and_then, misplaced, shown}
use Rattle.pas_syntax.specs.inner.Prog.{ends, turn_of, a_turn}
use Rattle.pas_syntax.specs.inner.Places.{Place, Fits, Passes, ParsesIn, Parses, spelled_by, same}
use Rattle.pas_syntax.specs.inner.Readers.{ident, ident_at}
use Rattle.pas_syntax.specs.inner.Marks.{mark, mark_at}
use Rattle.pas_syntax.specs.inner.TypeViews.{left_out_type}
use Rattle.pas_syntax.specs.inner.StatementReaders.{compound, compound_at, compound_by, statement, with_line}
use Rattle.pas_syntax.specs.inner.DeclarationReaders.{type_name, type_name_at, parameter, parameter_at, parameter_by}
use Rattle.pas_syntax.specs.inner.DeclarationReaders.{procedure_behind, function_behind, body, body_at, block_by}
use Rattle.pas_syntax.specs.inner.DeclarationReaders.{forward_if, routine_by, routines, behind_routine, program_head}
use Rattle.pas_syntax.specs.inner.DeclarationReaders.{declarations, Front}
use Rattle.pas_syntax.specs.inner.DeclarationReaders.{program_of, end_at, program, Declarations, ProgramHead}
use Rattle.pas_syntax.specs.inner.DeclarationViews.{heading, heading_at, forward_line, forward_line_if}
use Rattle.pas_syntax.specs.inner.DeclarationViews.{forward_line_at}
use Rattle.pas_syntax.specs.inner.DeclarationViews.{end_line, block_in}
use Rattle.pas_syntax.proofs.ProgLemmas.{run_bind, run_assoc}
use Rattle.pas_syntax.proofs.PlaceLemmas.{answers, stops, goes_as, goes_on, with_more, skips, line_of_head}
use Rattle.pas_syntax.proofs.PlaceLemmas.{is_misplaced}
use Rattle.pas_syntax.proofs.PlaceSteps.{looks_at, shorter_by}
use Rattle.pas_syntax.proofs.SoFar.{SoFar, begun, turned, turn_stops, loop_ends}

-- the same behind the same
run_same : {A B : Type 0} (p : Prog A) (f g : A → Prog B) (ts : List Token)
    → ((a : A) (rest : List Token) → run (f a) rest ≡ run (g a) rest) → run (bind p f) ts ≡ run (bind p g) ts
run_same {A = A} p f g ts agree = run_bind p f ts ∙ by_answer (run p ts) ∙ sym (run_bind p g ts)
  where
    by_answer : (r : Out A) → and_then r f ≡ and_then r g
    by_answer (Ok read) = agree read.0 read.1
    by_answer (Err stopped) = refl

then_same : {A B C : Type 0} (p : Prog A) (f : A → Prog B) (g : B → Prog C) (h : A → Prog C) (ts : List Token)
    → ((a : A) (rest : List Token) → run (bind (f a) g) rest ≡ run (h a) rest)
    → run (bind (bind p f) g) ts ≡ run (bind p h) ts
then_same p f g h ts agree = run_assoc p f g ts ∙ run_same p (λ a. bind (f a) g) h ts agree

-- the name of a type
pub type_named_goes : (ts : List Token) → k.Name ≡ (head ts).kind
    → run type_name ts ≡ run (bind ident (λ name. done (tree.type_named name))) ts
type_named_goes ts is =
    sym (ap (λ kind. run (type_name_at kind (head ts).payload (head ts).line) ts) is)

left_out_type_at : (kind : Kind) (payload : Payload) (line part : ℕ) → Fits kind payload
    → left_out_type kind ≡ Some part → type_name_at kind payload line ≡ fail (shown part)
left_out_type_at k.LeftParenthesis nothing line part fits e = cc
left_out_type_at k.LeftParenthesis payload line part fits e = absurd fits
left_out_type_at k.Set nothing line part fits e = cc
left_out_type_at k.Set payload line part fits e = absurd fits
left_out_type_at k.Caret nothing line part fits e = cc
left_out_type_at k.Caret payload line part fits e = absurd fits
left_out_type_at kind payload line part fits e = absurd cc

pub left_out_type_goes : (ts : List Token) (part : ℕ) → Fits (head ts).kind (head ts).payload
    → left_out_type (head ts).kind ≡ Some part → run type_name ts ≡ run {A = TypeName} (fail (shown part)) ts
left_out_type_goes ts part fits e =
    ap (λ q. run q ts) (left_out_type_at (head ts).kind (head ts).payload (head ts).line part fits e)

named_type_at : (kind : Kind) (payload : Payload) (line : ℕ) → left_out_type kind ≡ None
    → type_name_at kind payload line ≡ bind ident (λ name. done (tree.type_named name))
named_type_at k.LeftParenthesis payload line none = absurd cc
named_type_at k.Set payload line none = absurd cc
named_type_at k.Caret payload line none = absurd cc
named_type_at kind payload line none = refl

no_name_at : (ts : List Token) (kind : Kind) (payload : Payload) (line : ℕ) → (k.Name ≡ kind → ⊥)
    → run (bind (ident_at kind payload line) (λ name. done (tree.type_named name))) ts
    ≡ run {A = TypeName} (fail misplaced) ts
no_name_at ts k.Name payload line not = absurd (not refl)
no_name_at ts kind payload line not = refl

pub no_type_goes : (ts : List Token) → (k.Name ≡ (head ts).kind → ⊥) → left_out_type (head ts).kind ≡ None
    → run type_name ts ≡ run {A = TypeName} (fail misplaced) ts
no_type_goes ts not none =
    ap (λ q. run q ts) (named_type_at (head ts).kind (head ts).payload (head ts).line none)
    ∙ no_name_at ts (head ts).kind (head ts).payload (head ts).line not

-- parameters that are no routines
parameter_at_goes : (m : ℕ) (kind : Kind) (payload : Payload) (line : ℕ) → (k.Procedure ≡ kind → ⊥)
    → (k.Function ≡ kind → ⊥) → parameter_at m kind payload line ≡ parameter_by m
parameter_at_goes m k.Procedure payload line one other = absurd (one refl)
parameter_at_goes m k.Function payload line one other = absurd (other refl)
parameter_at_goes m kind payload line one other = refl

pub parameter_goes : (m : ℕ) (ts : List Token) → (k.Procedure ≡ (head ts).kind → ⊥)
    → (k.Function ≡ (head ts).kind → ⊥) → run (parameter m) ts ≡ run (parameter_by m) ts
parameter_goes m ts one other =
    ap (λ q. run q ts) (parameter_at_goes m (head ts).kind (head ts).payload (head ts).line one other)

routine_parameter_at : (m : ℕ) (kind : Kind) (payload : Payload) (line : ℕ)
    → ((k.Procedure ≡ kind) ⊎ (k.Function ≡ kind)) → Fits kind payload
    → parameter_at m kind payload line ≡ fail (shown ROUTINES_AS_PARAMETERS)
routine_parameter_at m k.Procedure nothing line is fits = refl
routine_parameter_at m k.Procedure payload line is fits = absurd fits
routine_parameter_at m k.Function nothing line is fits = refl
routine_parameter_at m k.Function payload line is fits = absurd fits
routine_parameter_at m kind payload line (inl is) fits = absurd cc
routine_parameter_at m kind payload line (inr is) fits = absurd cc

pub routine_parameter : (m : ℕ) (ts : List Token) → ((k.Procedure ≡ (head ts).kind) ⊎ (k.Function ≡ (head ts).kind))
    → Fits (head ts).kind (head ts).payload
    → run (parameter m) ts ≡ run {A = Parameter} (fail (shown ROUTINES_AS_PARAMETERS)) ts
routine_parameter m ts is fits =
    ap (λ q. run q ts) (routine_parameter_at m (head ts).kind (head ts).payload (head ts).line is fits)

-- a heading that begins with no `procedure`
pub function_goes : (m : ℕ) (ts : List Token) → (k.Procedure ≡ (head ts).kind → ⊥)
    → run (heading m) ts ≡ run (bind (mark k.Function) (function_behind m)) ts
function_goes m ts not = goes (head ts).kind (head ts).payload (head ts).line not
  where
    goes : (kind : Kind) (payload : Payload) (line : ℕ) → (k.Procedure ≡ kind → ⊥)
        → run (heading_at m kind payload line) ts
        ≡ run (bind (mark_at k.Function kind payload line) (function_behind m)) ts
    goes k.Procedure payload line not = absurd (not refl)
    goes k.Function nothing line not = refl
    goes k.Function payload line not = refl
    goes kind payload line not = refl

-- a body that begins with a name
pub forward_goes : (m : ℕ) (ts : List Token) → k.Name ≡ (head ts).kind → Fits (head ts).kind (head ts).payload
    → run (body m) ts ≡ run (bind forward_line (λ line. done (tree.forward line))) ts
forward_goes m ts is fits = goes (head ts).kind (head ts).payload (head ts).line is fits
  where
    by_name : (b : Bool) (line : ℕ) → run (forward_if b line) ts
        ≡ run (bind (forward_line_if b line) (λ line. done (tree.forward line))) ts
    by_name true line = refl
    by_name false line = refl

    goes : (kind : Kind) (payload : Payload) (line : ℕ) → k.Name ≡ kind → Fits kind payload
        → run (body_at m kind payload line) ts
        ≡ run (bind (forward_line_at kind payload line) (λ line. done (tree.forward line))) ts
    goes k.Name (spelling name) line is fits = by_name (bytes_eq name forward_name) line
    goes k.Name payload line is fits = absurd fits
    goes kind payload line is fits = absurd cc

block_at : (m : ℕ) (kind : Kind) (payload : Payload) (line : ℕ) → (k.Name ≡ kind → ⊥)
    → body_at m kind payload line ≡ block_by m
block_at m k.Name payload line not = absurd (not refl)
block_at m kind payload line not = refl

pub block_goes : (m : ℕ) (ts : List Token) → (k.Name ≡ (head ts).kind → ⊥)
    → run (body m) ts ≡ run (block_by m) ts
block_goes m ts not = ap (λ q. run q ts) (block_at m (head ts).kind (head ts).payload (head ts).line not)

-- no compound
no_compound_at : (m : ℕ) (kind : Kind) (payload : Payload) (line : ℕ) → (k.Begin ≡ kind → ⊥)
    → compound_at m 0 kind payload line ≡ fail misplaced
no_compound_at m k.Begin payload line not = absurd (not refl)
no_compound_at m kind payload line not = refl

pub no_compound : (m : ℕ) (ts : List Token) → (k.Begin ≡ (head ts).kind → ⊥)
    → run (compound m 0) ts ≡ run {A = Compound} (fail misplaced) ts
unfolding compound
no_compound m ts not =
    ap (λ q. run q ts) (no_compound_at m (head ts).kind (head ts).payload (head ts).line not)

-- a turn of the loop of routines
pub routine_goes : (m : ℕ) (found : List Routine) (ts : List Token)
    → ((k.Procedure ≡ (head ts).kind) ⊎ (k.Function ≡ (head ts).kind)) → Fits (head ts).kind (head ts).payload
    → run (a_turn (behind_routine m) found) ts
    ≡ run (bind (routine_by m (heading m)) (λ next. done (found ++ next ∷ []))) ts
routine_goes m found ts is fits = goes (head ts).kind (head ts).payload (head ts).line is fits
  where
    goes : (kind : Kind) (payload : Payload) (line : ℕ) → ((k.Procedure ≡ kind) ⊎ (k.Function ≡ kind))
        → Fits kind payload → run (turn_of (behind_routine m found kind payload line)) ts
        ≡ run (bind (routine_by m (heading_at m kind payload line)) (λ next. done (found ++ next ∷ []))) ts
    goes k.Procedure nothing line is fits = refl
    goes k.Procedure payload line is fits = absurd fits
    goes k.Function nothing line is fits = refl
    goes k.Function payload line is fits = absurd fits
    goes kind payload line (inl is) fits = absurd cc
    goes kind payload line (inr is) fits = absurd cc

pub no_routine : (m : ℕ) (found : List Routine) (kind : Kind) (payload : Payload) (line : ℕ)
    → (k.Procedure ≡ kind → ⊥) → (k.Function ≡ kind → ⊥) → behind_routine m found kind payload line ≡ ends
no_routine m found k.Procedure payload line one other = absurd (one refl)
no_routine m found k.Function payload line one other = absurd (other refl)
no_routine m found kind payload line one other = refl

-- a program as a row of readers
end_goes : (f : Front) (ts : List Token) → run (look (end_at f)) ts
    ≡ run (bind (look end_line) (λ end. done (program_of f end))) ts
end_goes f ts = goes (head ts).kind (head ts).payload (head ts).line
  where
    goes : (kind : Kind) (payload : Payload) (line : ℕ) → run (end_at f kind payload line) ts
        ≡ run (bind (end_line kind payload line) (λ end. done (program_of f end))) ts
    goes k.EndOfText payload line = refl
    goes kind payload line = refl

abbrev front_of : ProgramHead → Declarations → Compound → ℕ → Front
front_of head all body dot = record { head = head; declarations = all; body = body; dot = dot }

abbrev pub program_made : ProgramHead → Declarations → Compound → ℕ → ℕ → Prog Program
program_made head all body dot end = done (program_of (front_of head all body dot) end)

abbrev pub behind_dot : ProgramHead → Declarations → Compound → ℕ → Prog Program
behind_dot head all body dot = bind (look end_line) (program_made head all body dot)

abbrev pub behind_compound : ProgramHead → Declarations → Compound → Prog Program
behind_compound head all body = bind (mark k.Dot) (behind_dot head all body)

abbrev pub behind_declarations : ProgramHead → ℕ → Declarations → Prog Program
behind_declarations head m all = bind (compound m 0) (behind_compound head all)

abbrev pub behind_program_head : ℕ → ProgramHead → Prog Program
behind_program_head m head = bind (declarations m) (behind_declarations head m)

pub program_goes : (m : ℕ) (ts : List Token)
    → run (program m) ts ≡ run (bind (program_head m) (behind_program_head m)) ts
unfolding program
program_goes m ts =
    then_same (program_head m) (λ head. bind (declarations m) (λ all. bind (compound m 0) (λ body. bind (mark k.Dot)
    (λ dot. done (front_of head all body dot))))) (λ f. look (end_at f)) (behind_program_head m) ts
    (λ head ts. then_same (declarations m) (λ all. bind (compound m 0) (λ body. bind (mark k.Dot)
    (λ dot. done (front_of head all body dot)))) (λ f. look (end_at f)) (behind_declarations head m) ts
    (λ all ts. then_same (compound m 0) (λ body. bind (mark k.Dot) (λ dot. done (front_of head all body dot)))
    (λ f. look (end_at f)) (behind_compound head all) ts
    (λ body ts. then_same (mark k.Dot) (λ dot. done (front_of head all body dot)) (λ f. look (end_at f))
    (behind_dot head all body) ts (λ dot ts. end_goes (front_of head all body dot) ts))))

-- what is made of what is read
pub made_of : {A B X : Type 0} {view : List ℕ → X → A} {p : ℕ → Prog A} {least : ℕ} {old new : Place}
    {result : Result X Stop} (make : A → B) → ParsesIn least p view old result new
    → ParsesIn least (λ m. bind (p m) (λ a. done (make a))) (λ s x. make (view s x)) old result new
made_of {view = view} {result = Ok found} make h =
    goes_on (λ m a. done (make a)) h (answers (ap (λ s. make (view s found)) (sym h.spellings)))
made_of {result = Err why} make h = stops (λ m a. done (make a)) h

-- declarations and statements as a body
pub block_seen : {least : ℕ} {p : ℕ → Prog Body} {old new : Place} {block : Block}
    → ParsesIn least p block_in old (Ok block) new → ParsesIn least p body_in old (Ok (code_body.Block block)) new
block_seen h = record { gives = h.gives; shorter = h.shorter; taken = h.taken; spellings = h.spellings }

-- a compound statement that begins here
pub compound_goes : {old new : Place} {result : Result CodeCompound Stop} → k.Begin ≡ (head old.tokens).kind
    → Fits (head old.tokens).kind (head old.tokens).payload
    → ParsesIn (length old.tokens) (λ m. with_line (compound_by (statement m) m 0)) compound_in old result new
    → Parses (λ m. compound m 0) compound_in old result new
unfolding compound
compound_goes is fits h =
    with_more (omega arith) (looks_at (λ m. compound_at m 0) k.Begin tt (sym is) fits h)

-- routines so far
abbrev pub routines_so_far : Place → Place → List CodeRoutine → Type 0
routines_so_far old now all = SoFar routines (λ m. behind_routine m) old now (map (routine_in old.spellings) all)

pub routines_begin : {old : Place} (all : List CodeRoutine) → all ≡ [] → routines_so_far old old all
routines_begin {old = old} all none =
    subst (λ all. SoFar routines (λ m. behind_routine m) old old (map (routine_in old.spellings) all)) (sym none) begun

pub routine_stops : {old now new : Place} {why : Stop} (all : List CodeRoutine) → routines_so_far old now all
    → ((k.Procedure ≡ (head now.tokens).kind) ⊎ (k.Function ≡ (head now.tokens).kind))
    → Fits (head now.tokens).kind (head now.tokens).payload
    → Parses (λ m. routine_by m (heading m)) routine_in now (Err why) new
    → Parses routines (λ s. map (routine_in s)) old (Err why) new
routine_stops {old = old} {now = now} all so is fits h =
    let found = map (routine_in old.spellings) all in
    turn_stops {view = λ s x. found ++ routine_in s x ∷ []} so
    (goes_as (λ m. routine_goes m found now.tokens is fits) (stops (λ m next. done (found ++ next ∷ [])) h))

headed_further : (m : ℕ) (t : Token) (ts : List Token) (r : Routine) (rest : List Token) (kind : Kind)
    (payload : Payload) (line : ℕ) → run (routine_by m (heading_at m kind payload line)) (t ∷ ts) ≡ Ok (r, rest)
    → length rest < length (t ∷ ts)
headed_further m t ts r rest k.Procedure nothing line e =
    omega (arith, shorter_by (routine_by m (procedure_behind m line)) ts r rest e)
headed_further m t ts r rest k.Function nothing line e =
    omega (arith, shorter_by (routine_by m (function_behind m line)) ts r rest e)
headed_further m t ts r rest kind payload line e = absurd cc

further_by : (m : ℕ) (ts : List Token) (r : Routine) (rest : List Token)
    → run (routine_by m (heading m)) ts ≡ Ok (r, rest) → length rest < length ts
further_by m [] r rest e = absurd cc
further_by m (t ∷ ts) r rest e = headed_further m t ts r rest t.kind t.payload t.line e

pub routine_further : {now new : Place} {x : CodeRoutine}
    → Parses (λ m. routine_by m (heading m)) routine_in now (Ok x) new → length new.tokens < length now.tokens
routine_further {now = now} {new = new} {x = x} h =
    further_by (suc (length now.tokens)) now.tokens (routine_in now.spellings x) new.tokens
    (h.gives (suc (length now.tokens)) (omega arith))

pub one_routine_more : {old now new : Place} {x : CodeRoutine} (all longer : List CodeRoutine)
    → routines_so_far old now all
    → ((k.Procedure ≡ (head now.tokens).kind) ⊎ (k.Function ≡ (head now.tokens).kind))
    → Fits (head now.tokens).kind (head now.tokens).payload
    → Parses (λ m. routine_by m (heading m)) routine_in now (Ok x) new → longer ≡ all ++ x ∷ []
    → routines_so_far old new longer
one_routine_more {old = old} {now = now} {new = new} {x = x} all longer so is fits h push =
    let s = old.spellings in
    let found = map (routine_in s) all in
    let mapped : map (routine_in s) longer ≡ found ++ routine_in s x ∷ [] =
    ap (map (routine_in s)) push ∙ map-append (routine_in s) all (x ∷ []) in
    subst (λ xs. SoFar routines (λ m. behind_routine m) old new xs) (sym mapped)
    (turned {view = λ s x. found ++ routine_in s x ∷ []} {x = x} so
    (goes_as (λ m. routine_goes m found now.tokens is fits) (goes_on (λ m next. done (found ++ next ∷ [])) h
    (answers (ap (λ s. found ++ routine_in s x ∷ []) (sym h.spellings))))) (routine_further h))

pub routines_end : {old now : Place} (all : List CodeRoutine) → routines_so_far old now all
    → (k.Procedure ≡ (head now.tokens).kind → ⊥) → (k.Function ≡ (head now.tokens).kind → ⊥)
    → Parses routines (λ s. map (routine_in s)) old (Ok all) now
routines_end all so one other = loop_ends so (λ m. no_routine m _ _ _ _ one other) refl

-- a name, which is `forward` or not
pub forward_there : (b : Bool) (ts : List Token) → k.Name ≡ (head ts).kind → Fits (head ts).kind (head ts).payload
    → b ≡ bytes_eq (spelled_by (head ts).payload) forward_name
    → run forward_line ts ≡ run (forward_line_if b (head ts).line) ts
forward_there b ts is fits same = goes (head ts).kind (head ts).payload (head ts).line is fits same
  where
    goes : (kind : Kind) (payload : Payload) (line : ℕ) → k.Name ≡ kind → Fits kind payload
        → b ≡ bytes_eq (spelled_by payload) forward_name
        → run (forward_line_at kind payload line) ts ≡ run (forward_line_if b line) ts
    goes k.Name (spelling name) line is fits same = ap (λ b. run (forward_line_if b line) ts) (sym same)
    goes k.Name payload line is fits same = absurd fits
    goes kind payload line is fits same = absurd cc

pub forward_passed : {old new : Place} {line : ℕ} → k.Name ≡ (head old.tokens).kind
    → Fits (head old.tokens).kind (head old.tokens).payload
    → true ≡ bytes_eq (spelled_by (head old.tokens).payload) forward_name → Passes old line new
    → Parses (λ m. forward_line) same old (Ok line) new
forward_passed {old = old} {line = line} is fits same_name passed =
    goes_as (λ m. forward_there true old.tokens is fits same_name
    ∙ ap (λ line. run (skip (done line)) old.tokens) (sym (line_of_head passed)))
    (skips passed (omega arith) (answers refl))

pub no_forward : {old : Place} → k.Name ≡ (head old.tokens).kind → Fits (head old.tokens).kind (head old.tokens).payload
    → false ≡ bytes_eq (spelled_by (head old.tokens).payload) forward_name
    → Parses (λ m. forward_line) same old (Err stop.Misplaced) old
no_forward {old = old} is fits other = goes_as (λ m. forward_there false old.tokens is fits other) is_misplaced

-- the end of the text, or another token
pub ends_here : {old : Place} (t : Token) → t ≡ head old.tokens → t.kind ≡ k.EndOfText
    → Parses (λ m. look end_line) same old (Ok t.line) old
ends_here {old = old} t at_head is =
    goes_as (λ m. ap (λ t. run (end_line t.kind t.payload t.line) old.tokens) (sym at_head)
    ∙ ap (λ kind. run (end_line kind t.payload t.line) old.tokens) is) (answers refl)

no_end_line : (kind : Kind) (payload : Payload) (line : ℕ) → (kind ≡ k.EndOfText → ⊥)
    → end_line kind payload line ≡ fail misplaced
no_end_line k.EndOfText payload line not = absurd (not refl)
no_end_line kind payload line not = refl

pub no_end_here : {old : Place} (t : Token) → t ≡ head old.tokens → (t.kind ≡ k.EndOfText → ⊥)
    → Parses (λ m. look end_line) same old (Err stop.Misplaced) old
no_end_here {old = old} t at_head not =
    goes_as (λ m. ap (λ t. run (end_line t.kind t.payload t.line) old.tokens) (sym at_head)
    ∙ ap (λ q. run q old.tokens) (no_end_line t.kind t.payload t.line not)) is_misplaced
