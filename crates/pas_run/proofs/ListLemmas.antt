-- The statements of a list in order, and what catches the jumps to its labels.
use Rattle.std.proofs.Common.{◌≡◌, ℕ, suc, ◌+◌, ◌<◌, ◌≤◌, ℤ, List, ◌∷◌, length, drop, get_or, drop-cons}
use Rattle.std.proofs.Common.{refl, sym, ap, ap₂, ◌∙◌, subst, arith, Option, Some, None, Bool, Result, Ok, Err}
use Rattle.std.proofs.Common.{true, false, ◌⊎◌, inl, inr}
use Rattle.std.specs.Prelude.{if◌then◌else◌, ◌||◌}
use Rattle.std.specs.List.{list_any}
use Rattle.std.proofs.lemmas.List.{drop_all}
use Rattle.pas_typed.specs.declared.typed.Labelled as code_labelled
use Rattle.pas_typed.specs.declared.typed.Arm as code_arm
use Rattle.pas_typed.specs.declared.typed.Statement.TheViews.{out-Labelled, out-Arm}
use Rattle.pas_typed.specs.declared.typed.Statement.TheFolds.{fold_out-Labelled, fold_out-Arm}
use Rattle.pas_typed.specs.Types.{PasType}
use Rattle.pas_typed.specs.Typed as typed
use Rattle.pas_typed.specs.Typed.{Variable, Statement, Statements, Arms, TypedProgram}
use Rattle.pas_typed.specs.TypedViews.{statement_step, arm_step, labelled_step, statement_view, arm_view}
use Rattle.pas_typed.specs.TypedViews.{labelled_view, statements_view, arms_view}
use Rattle.pas_typed.specs.Lawful.{AreLawful, AreLawfulArms}
use Rattle.pas_meaning.specs.declared.errors.TheConstants.{CALL_LIMIT}
use Rattle.pas_meaning.specs.Outcome.{Doing, pure, ◌>>=◌, ◌>>◌, take_step}
use Rattle.pas_meaning.specs.Store.{Store}
use Rattle.pas_meaning.specs.Arithmetic.{is_same}
use Rattle.pas_meaning.specs.Run as meaning
use Rattle.pas_meaning.specs.Run.{Flow, Entry, Doings, within}
use Rattle.pas_meaning.specs.Laws.{Goes}
use Rattle.pas_meaning.specs.Standing.{Kinds}
use Rattle.pas_meaning.proofs.GoesLemmas.{goes_on, goes_behind_list}
use Rattle.pas_run.specs.declared.ends.Flow.{Flow as CodeFlow}
use Rattle.pas_run.specs.declared.ends.Flow.TheVariants as flow
use Rattle.pas_run.specs.declared.ends.Stop.{Stop}
use Rattle.pas_run.specs.inner.MachineState.{MachineState}
use Rattle.pas_run.specs.inner.Doings.{Any, Does}
use Rattle.pas_run.specs.inner.Running.{flow_view, IsFlow, statement_of, list_of, LeadsTo, IsFrom, ChoosesNone}
use Rattle.pas_run.specs.declared.loops.Turn.{Turn as CodeTurn}
use Rattle.pas_run.specs.inner.Running.{ChoosesOne, entered_of, behind_of, looped_of, entry_by, IsTurn}
use Rattle.pas_run.proofs.DoesLemmas.{does_stop, does_next, does_pure}
use Rattle.pas_run.proofs.RunningLemmas.{leads_on, leads_next, leads_step, goes_of, goes_list_of, goes_below, go_over}
use Rattle.pas_run.proofs.RunningLemmas.{done_stop}

-- a list from an item on
pub from_item : {X : Type 0} (xs : List X) (i : ℕ) (x : X) → i < length xs → x ≡ get_or xs i x
    → drop i xs ≡ x ∷ drop (i + 1) xs
from_item xs i x within is =
    let more : suc i ≡ i + 1 = omega arith in
    drop-cons xs i x within ∙ ap₂ (λ (x : _) (n : ℕ). x ∷ drop n xs) (sym is) more

-- statements as they are seen, one after another
module _ (spellings : List ℕ) where
  labelled_is : (item : code_labelled.Labelled) (others : Statements) → labelled_view spellings item others
      ≡ typed.item (out-Labelled item).label (statement_view spellings (out-Labelled item).statement) others
  labelled_is item others =
      ap (λ (step : Statements → Statements). step others)
      (fold_out-Labelled Statement (Arms → Arms) (Statements → Statements) (statement_step spellings) arm_step
      labelled_step item)

  pub item_seen : (list : List code_labelled.Labelled) (i : ℕ) (item : code_labelled.Labelled) → i < length list
      → item ≡ get_or list i item
      → statements_view spellings (drop i list)
      ≡ typed.item (out-Labelled item).label (statement_view spellings (out-Labelled item).statement)
      (statements_view spellings (drop (i + 1) list))
  item_seen list i item within is =
      ap (statements_view spellings) (from_item list i item within is) ∙ labelled_is item _

  pub list_seen : (list : List code_labelled.Labelled) (i : ℕ) → length list ≤ i
      → statements_view spellings (drop i list) ≡ typed.no_statements
  list_seen list i h = ap (statements_view spellings) (drop_all i list h)

  arm_is : (arm : code_arm.Arm) (others : Arms) → arm_view spellings arm others
      ≡ typed.arm (out-Arm arm).constants (statement_view spellings (out-Arm arm).statement) others
  arm_is arm others =
      ap (λ (step : Arms → Arms). step others)
      (fold_out-Arm Statement (Arms → Arms) (Statements → Statements) (statement_step spellings) arm_step labelled_step
      arm)

  pub arm_seen : (arms : List code_arm.Arm) (i : ℕ) (arm : code_arm.Arm) → i < length arms → arm ≡ get_or arms i arm
      → arms_view spellings (drop i arms)
      ≡ typed.arm (out-Arm arm).constants (statement_view spellings (out-Arm arm).statement)
      (arms_view spellings (drop (i + 1) arms))
  arm_seen arms i arm within is = ap (arms_view spellings) (from_item arms i arm within is) ∙ arm_is arm _

  pub arms_seen : (arms : List code_arm.Arm) (i : ℕ) → length arms ≤ i
      → arms_view spellings (drop i arms) ≡ typed.no_arms
  arms_seen arms i h = ap (arms_view spellings) (drop_all i arms h)

-- what is chosen later is chosen of the whole
pub record IsLaterArms (number : ℤ) (arms rest : Arms) : Type 0 where
  pub same : (program : TypedProgram) (below : Doings) (otherwise : Doing Store Flow)
      → meaning.arm (Some CALL_LIMIT) program below number arms otherwise
      ≡ meaning.arm (Some CALL_LIMIT) program below number rest otherwise
  pub are_lawful : (program : TypedProgram) (variables : List Variable) (result : Option PasType)
      → AreLawfulArms program variables result arms → AreLawfulArms program variables result rest

pub all_arms : (number : ℤ) (arms : Arms) → IsLaterArms number arms arms
all_arms number arms = record {
  same = λ program below otherwise. refl;
  are_lawful = λ program variables result are. are;
}

module _ (number : ℤ) (arms : Arms) where
  pub other_arm : (rest more : Arms) (values : List ℤ) (s : Statement) → IsLaterArms number arms rest
      → rest ≡ typed.arm values s more → list_any (is_same number) values ≡ false → IsLaterArms number arms more
  other_arm rest more values s later is other = record {
    same = λ program below otherwise. later.same program below otherwise
        ∙ ap (λ (rest : Arms). meaning.arm (Some CALL_LIMIT) program below number rest otherwise) is
        ∙ ap (λ (found : Bool). if found then meaning.statement (Some CALL_LIMIT) program below meaning.start s
        else meaning.arm (Some CALL_LIMIT) program below number more otherwise) other;
    are_lawful = λ program variables result are.
        (subst (AreLawfulArms program variables result) is (later.are_lawful program variables result are)).1;
  }

  pub this_arm : (rest more : Arms) (values : List ℤ) (s : Statement) → IsLaterArms number arms rest
      → rest ≡ typed.arm values s more → list_any (is_same number) values ≡ true → ChoosesOne number arms s
  this_arm rest more values s later is this = record {
    same = λ program below otherwise. later.same program below otherwise
        ∙ ap (λ (rest : Arms). meaning.arm (Some CALL_LIMIT) program below number rest otherwise) is
        ∙ ap (λ (found : Bool). if found then meaning.statement (Some CALL_LIMIT) program below meaning.start s
        else meaning.arm (Some CALL_LIMIT) program below number more otherwise) this;
    is_lawful = λ program variables result are.
        (subst (AreLawfulArms program variables result) is (later.are_lawful program variables result are)).0;
  }

  pub no_arm : (rest : Arms) → IsLaterArms number arms rest → rest ≡ typed.no_arms → ChoosesNone number arms
  no_arm rest later is = record {
    same = λ program below otherwise. later.same program below otherwise
        ∙ ap (λ (rest : Arms). meaning.arm (Some CALL_LIMIT) program below number rest otherwise) is;
  }

-- a list from a label on
pub record IsLater (label : ℕ) (list rest : Statements) : Type 0 where
  pub same : (program : TypedProgram) (most : ℕ)
      → list_of program most (Some label) list ≡ list_of program most (Some label) rest
  pub are_lawful : (program : TypedProgram) (variables : List Variable) (result : Option PasType)
      → AreLawful program variables result list → AreLawful program variables result rest

pub all_later : (label : ℕ) (list : Statements) → IsLater label list list
all_later label list = record {
  same = λ program most. refl;
  are_lawful = λ program variables result are. are;
}

pub from_begin : (list : Statements) → IsFrom None list list
from_begin list = record {
  same = λ program most. refl;
  are_lawful = λ program variables result are. are;
}

module _ (wanted : ℕ) (list : Statements) where
  from_here : TypedProgram → ℕ → Option ℕ → Statement → Statements → Bool → Doing Store Flow
  from_here program most label s more found =
      if found then statement_of program most meaning.start s
      >>= (λ flow. meaning.go_on flow (list_of program most None more)) else list_of program most (Some wanted) more

  pub other_item : (rest more : Statements) (label : Option ℕ) (s : Statement) → IsLater wanted list rest
      → rest ≡ typed.item label s more → meaning.has label wanted ≡ false → IsLater wanted list more
  unfolding from_here
  other_item rest more label s later is other = record {
    same = λ program most. later.same program most ∙ ap (list_of program most (Some wanted)) is
        ∙ ap (from_here program most label s more) other;
    are_lawful = λ program variables result are.
        (subst (AreLawful program variables result) is (later.are_lawful program variables result are)).1;
  }

  pub this_item : (rest more : Statements) (label : Option ℕ) (s : Statement) → IsLater wanted list rest
      → rest ≡ typed.item label s more → meaning.has label wanted ≡ true → IsFrom (Some wanted) list rest
  unfolding from_here
  this_item rest more label s later is this = record {
    same = λ program most. later.same program most ∙ ap (list_of program most (Some wanted)) is
        ∙ ap (from_here program most label s more) this ∙ ap (list_of program most None) (sym is);
    are_lawful = later.are_lawful;
  }

  pub no_item : (rest : Statements) → IsLater wanted list rest → rest ≡ typed.no_statements
      → IsFrom (Some wanted) list typed.no_statements
  no_item rest later is = record {
    same = λ program most. later.same program most ∙ ap (list_of program most (Some wanted)) is;
    are_lawful = λ program variables result are. tt;
  }

-- whether a list has a label
pub label_here : (list more : Statements) (label : Option ℕ) (s : Statement) (wanted : ℕ)
    → list ≡ typed.item label s more → meaning.has label wanted ≡ true → meaning.has_label list wanted ≡ true
label_here list more label s wanted is this =
    ap (λ (list : Statements). meaning.has_label list wanted) is
    ∙ ap (λ (found : Bool). found || meaning.has_label more wanted) this

pub label_later : (list more : Statements) (label : Option ℕ) (s : Statement) (wanted : ℕ)
    → list ≡ typed.item label s more → meaning.has label wanted ≡ false
    → meaning.has_label list wanted ≡ meaning.has_label more wanted
label_later list more label s wanted is other =
    ap (λ (list : Statements). meaning.has_label list wanted) is
    ∙ ap (λ (found : Bool). found || meaning.has_label more wanted) other

-- an item of a list, and those behind it
module _ (program : TypedProgram) (kinds : Kinds) (label : Option ℕ) (s : Statement) (list more : Statements)
    (is : list ≡ typed.item label s more) (before : MachineState) where
  abbrev behind : ℕ → Flow → Doing Store Flow
  behind most found = meaning.go_on found (list_of program most None more)

  goes_behind : (most : ℕ) (found : Flow) → Goes (behind most found)
  goes_behind most found = goes_on found (goes_list_of program most None more)

  so_does : (most : ℕ) (now : MachineState) (result : Result CodeFlow Stop)
      → Does most kinds kinds IsFlow (statement_of program most meaning.start s >>= behind most) before now result
      → Does most kinds kinds IsFlow (list_of program most None list) before now result
  so_does most now result does =
      subst (λ (list : Statements). Does most kinds kinds IsFlow (list_of program most None list) before now result)
      (sym is) does

  pub item_next : (between : MachineState)
      → ((most : ℕ) → Does most kinds kinds IsFlow (statement_of program most meaning.start s) before between
      (Ok flow.Next))
      → LeadsTo kinds IsFlow (λ most. list_of program most None list) (λ most. list_of program most None more) before
      between
  item_next between does = record {
    each = λ end result then_does most. so_does most end result
        ((leads_next kinds IsFlow IsFlow (λ most. statement_of program most meaning.start s) behind
        (λ most. list_of program most None more) before between flow.Next (λ most. goes_of program most meaning.start s)
        does (λ most value is. ap (behind most) is)).each end result then_does most);
  }

  pub item_over : (most : ℕ) (now : MachineState) (found : CodeFlow) → (found ≡ flow.Next → ⊥)
      → Does most kinds kinds IsFlow (statement_of program most meaning.start s) before now (Ok found)
      → Does most kinds kinds IsFlow (list_of program most None list) before now (Ok found)
  item_over most now found other does =
      so_does most now (Ok found)
      (does_next most kinds kinds kinds IsFlow IsFlow (statement_of program most meaning.start s) (behind most) before
      now now found (Ok found) (goes_of program most meaning.start s) does
      (λ value is. subst (λ doing. Does most kinds kinds IsFlow doing now now (Ok found))
      (sym (ap (behind most) is ∙ go_over found (list_of program most None more) other))
      (does_pure most kinds IsFlow found (flow_view found) now refl)))

  pub item_stop : (most : ℕ) (now : MachineState) (why : Stop)
      → Does {T = CodeFlow} most kinds kinds IsFlow (statement_of program most meaning.start s) before now (Err why)
      → Does {T = CodeFlow} most kinds kinds IsFlow (list_of program most None list) before now (Err why)
  item_stop most now why does =
      so_does most now (Err why)
      (does_stop {T = CodeFlow} most kinds kinds kinds IsFlow IsFlow (statement_of program most meaning.start s)
      (behind most) before now why (goes_behind most) does)

pub list_end : (program : TypedProgram) (kinds : Kinds) (list : Statements) (machine : MachineState)
    → list ≡ typed.no_statements → (most : ℕ)
    → Does most kinds kinds IsFlow (list_of program most None list) machine machine (Ok flow.Next)
list_end program kinds list machine is most =
    subst (λ (list : Statements). Does most kinds kinds IsFlow (list_of program most None list) machine machine
    (Ok flow.Next)) (sym is) (does_pure most kinds IsFlow flow.Next meaning.next machine refl)

-- a jump to a label of a list, or past it
module _ (program : TypedProgram) (kinds : Kinds) (list : Statements) (entry : ℕ → Entry) (around : Statement)
    (label : ℕ) (before : MachineState) where
  entered_by : ℕ → Bool → Doing Store Flow
  entered_by most found =
      if found then take_step >> within (Some CALL_LIMIT) program most (entry label) around
      else pure (meaning.jump label)

  pub jump_caught : (between : MachineState) → meaning.has_label list label ≡ true → between.steps + 1 ≡ before.steps
      → ((most : ℕ) → Does most kinds kinds Any (take_step {S = Store}) before between (Ok (tt {0})))
      → LeadsTo kinds IsFlow (λ most. entered_of program most list entry around label)
      (λ most. statement_of program most (entry label) around) before between
  unfolding entered_by
  jump_caught between is fewer step = record {
    each = λ end result does most.
        subst (λ (found : Bool). Does most kinds kinds IsFlow (entered_by most found) before end result) (sym is)
        ((leads_step program kinds before between (entry label) around fewer step).each end result does most);
  }

  pub jump_stop : (now : MachineState) (why : Stop) → meaning.has_label list label ≡ true → (most : ℕ)
      → Does {T = Unit {0}} most kinds kinds Any (take_step {S = Store}) before now (Err why)
      → Does {T = CodeFlow} most kinds kinds IsFlow (entered_of program most list entry around label) before now
      (Err why)
  unfolding entered_by
  jump_stop now why is most does =
      subst (λ (found : Bool). Does {T = CodeFlow} most kinds kinds IsFlow (entered_by most found) before now (Err why))
      (sym is)
      (done_stop most kinds IsFlow take_step (within (Some CALL_LIMIT) program most (entry label) around) before now why
      (goes_below program most (entry label) around) does)

  pub jump_past : meaning.has_label list label ≡ false → (most : ℕ)
      → Does most kinds kinds IsFlow (entered_of program most list entry around label) before before
      (Ok (flow.Jump label))
  unfolding entered_by
  jump_past is most =
      subst (λ (found : Bool). Does most kinds kinds IsFlow (entered_by most found) before before
      (Ok (flow.Jump label)))
      (sym is) (does_pure most kinds IsFlow (flow.Jump label) (meaning.jump label) before refl)

-- behind the list of a compound what is no jump is passed on
pub flow_past : (program : TypedProgram) (kinds : Kinds) (list : Statements) (around : Statement) (found : CodeFlow)
    (machine : MachineState) → ((label : ℕ) → found ≡ flow.Jump label → ⊥) → (most : ℕ)
    → Does most kinds kinds IsFlow (behind_of program most list around (flow_view found)) machine machine (Ok found)
flow_past program kinds list around flow.Next machine other most =
    does_pure most kinds IsFlow flow.Next meaning.next machine refl
flow_past program kinds list around flow.Leaves machine other most =
    does_pure most kinds IsFlow flow.Leaves meaning.leaves machine refl
flow_past program kinds list around (flow.Jump label) machine other most = absurd (other label refl)

-- what comes behind something that a list does: a list that is caught by `behind`
module _ (kinds : Kinds) (first : ℕ → Doing Store Flow) (behind : ℕ → Flow → Doing Store Flow)
    (goes : (most : ℕ) → Goes (first most)) (before between : MachineState) (found : CodeFlow)
    (does : (most : ℕ) → Does most kinds kinds IsFlow (first most) before between (Ok found)) where
  pub caught_next : (rest : ℕ → Doing Store Flow) (now : MachineState)
      → LeadsTo kinds IsFlow (λ most. behind most (flow_view found)) rest between now
      → LeadsTo kinds IsFlow (λ most. first most >>= behind most) rest before now
  caught_next rest now then_leads =
      leads_on (leads_next kinds IsFlow IsFlow first behind (λ most. behind most (flow_view found)) before between found
      goes does (λ most value is. ap (behind most) is)) then_leads

  pub caught_end : (now : MachineState) (result : Result CodeFlow Stop) (most : ℕ)
      → Does most kinds kinds IsFlow (behind most (flow_view found)) between now result
      → Does most kinds kinds IsFlow (first most >>= behind most) before now result
  caught_end now result most then_does =
      does_next most kinds kinds kinds IsFlow IsFlow (first most) (behind most) before between now found result
      (goes most) (does most)
      (λ value is. subst (λ value. Does most kinds kinds IsFlow (behind most value) between now result) (sym is)
      then_does)

-- a list that is entered again and again: each time it does something first, and `behind` tells what comes then
module _ (kinds : Kinds) (whole : ℕ → Doing Store Flow) (enter first : Option ℕ → ℕ → Doing Store Flow)
    (behind : ℕ → Flow → Doing Store Flow)
    (same : (from : Option ℕ) (most : ℕ) → enter from most ≡ first from most >>= behind most)
    (goes : (from : Option ℕ) (most : ℕ) → Goes (first from most))
    (start before between : MachineState) (from : Option ℕ)
    (so_far : LeadsTo kinds IsFlow whole (enter from) start before) where
  so_entered : (now : MachineState) (result : Result CodeFlow Stop) (most : ℕ)
      → Does most kinds kinds IsFlow (first from most >>= behind most) before now result
      → Does most kinds kinds IsFlow (enter from most) before now result
  so_entered now result most does =
      subst (λ doing. Does most kinds kinds IsFlow doing before now result) (sym (same from most)) does

  pub turn_again : (found : CodeFlow) (again : Option ℕ) (now : MachineState)
      → ((most : ℕ) → Does most kinds kinds IsFlow (first from most) before between (Ok found))
      → LeadsTo kinds IsFlow (λ most. behind most (flow_view found)) (enter again) between now
      → LeadsTo kinds IsFlow whole (enter again) start now
  turn_again found again now does leads =
      leads_on so_far (record {
        each = λ end result then_does most. so_entered end result most
            ((caught_next kinds (first from) behind (goes from) before between found does (enter again) now
            leads).each end result then_does most);
      })

  pub turn_over : (found : CodeFlow) (now : MachineState) (result : Result CodeFlow Stop)
      → ((most : ℕ) → Does most kinds kinds IsFlow (first from most) before between (Ok found))
      → ((most : ℕ) → Does most kinds kinds IsFlow (behind most (flow_view found)) between now result)
      → (most : ℕ) → Does most kinds kinds IsFlow (whole most) start now result
  turn_over found now result does then_does =
      so_far.each now result (λ most. so_entered now result most
      (caught_end kinds (first from) behind (goes from) before between found does now result most (then_does most)))

  pub turn_stop : (now : MachineState) (why : Stop) → ((most : ℕ) (found : Flow) → Goes (behind most found))
      → ((most : ℕ) → Does {T = CodeFlow} most kinds kinds IsFlow (first from most) before now (Err why))
      → (most : ℕ) → Does {T = CodeFlow} most kinds kinds IsFlow (whole most) start now (Err why)
  turn_stop now why goes_behind does =
      so_far.each now (Err why) (λ most. so_entered now (Err why) most
      (does_stop {T = CodeFlow} most kinds kinds kinds IsFlow IsFlow (first from most) (behind most) before now why
      (goes_behind most) (does most)))

-- a compound, by where it is entered
pub compound_from : (program : TypedProgram) (list : Statements) (from : Option ℕ) (most : ℕ)
    → statement_of program most (entry_by meaning.at meaning.start from) (typed.compound list)
    ≡ list_of program most from list >>= behind_of program most list (typed.compound list)
compound_from program list None most = refl
compound_from program list (Some label) most = refl

-- where a step is not taken
pub turn_early : (kinds : Kinds) (again : Option ℕ → ℕ → Doing Store Flow) (behind : ℕ → Doing Store Flow)
    (before now : MachineState) (why : Stop) (result : Result CodeTurn Stop)
    → ((found : Stop) × (result ≡ Err found) × (found ≡ why))
    → ((most : ℕ) → Does {T = CodeFlow} most kinds kinds IsFlow (behind most) before now (Err why))
    → IsTurn kinds again behind before now result
turn_early kinds again behind before now why result is does =
    subst (IsTurn kinds again behind before now) (sym (is.1 ∙ ap Err is.2)) does

pub next_stop : (program : TypedProgram) (kinds : Kinds) (list : Statements) (entry : ℕ → Entry) (turning : Entry)
    (loop : Statement) (before now : MachineState) (why : Stop) (most : ℕ)
    → Does {T = Unit {0}} most kinds kinds Any (take_step {S = Store}) before now (Err why)
    → Does {T = CodeFlow} most kinds kinds IsFlow (looped_of program most list entry turning loop meaning.next) before
    now (Err why)
next_stop program kinds list entry turning loop before now why most does =
    done_stop most kinds IsFlow take_step (within (Some CALL_LIMIT) program most turning loop) before now why
    (goes_below program most turning loop) does

-- what is no normal end
pub no_next : (found : CodeFlow) → (found ≡ flow.Leaves) ⊎ ((label : ℕ) × (found ≡ flow.Jump label))
    → found ≡ flow.Next → ⊥
no_next found (inl is) next = cc
no_next found (inr is) next = let jump : found ≡ flow.Jump is.0 = is.1 in cc

pub no_jump : (found : CodeFlow) → (found ≡ flow.Next) ⊎ (found ≡ flow.Leaves) → (label : ℕ)
    → found ≡ flow.Jump label → ⊥
no_jump found (inl is) label jump = cc
no_jump found (inr is) label jump = cc

pub goes_behind_of : (program : TypedProgram) (most : ℕ) (list : Statements) (around : Statement) (found : Flow)
    → Goes (behind_of program most list around found)
goes_behind_of program most =
    goes_behind_list (Some CALL_LIMIT) program (within (Some CALL_LIMIT) program most) (goes_below program most)
