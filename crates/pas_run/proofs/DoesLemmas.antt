-- What a machine does, one thing behind another.
use Rattle.std.proofs.Common.{◌≡◌, ℕ, arith, List, refl, sym, ap, ◌∙◌, subst, Result, Ok, Err}
use Rattle.std.proofs.Common.{◌+◌, suc, Bool, true, false, length, slice_index_or}
use Rattle.std.proofs.lemmas.List.{length-map}
use Rattle.wb_ports.specs.PortState.{PortState}
use Rattle.pas_meaning.specs.Answers.{Answer, fine, wrong, then_answer}
use Rattle.pas_meaning.specs.Outcome.{World, Run, Outcome, gives, ends, errs, Doing, pure}
use Rattle.pas_meaning.specs.Outcome.{and_then, ◌>>=◌, ◌>>◌, answered, ask, take_step}
use Rattle.pas_meaning.specs.Store.{Store}
use Rattle.pas_meaning.specs.Standing.{Kinds}
use Rattle.pas_meaning.specs.Laws.{Extends, Onward, Goes, world_of}
use Rattle.pas_meaning.proofs.OnwardLemmas.{extends_on, goes_step}
use Rattle.pas_run.specs.declared.ends.Stop.{Stop}
use Rattle.pas_run.specs.declared.ends.Stop.TheVariants as stop
use Rattle.wb_ports.specs.Counts.{Rose}
use Rattle.pas_run.specs.inner.MachineState.{KeptFile, MachineState, IsRun, failures_of, CountFailures}
use Rattle.pas_run.specs.inner.Doings.{Any, is_failure, is_port_failed, IsMoment, StopsBy, Done, Does, Answers}

-- a moment stays one where the run goes on, and where it began earlier
onward_end : {A B : Type 0} (outcome : Outcome Store A) (next : A → Doing Store B) → ((value : A) → Goes (next value))
    → Extends (world_of outcome).trail (world_of (and_then outcome next)).trail
onward_end (gives value run) next goes = ((goes value).each run).trail
onward_end (ends end world) next goes = Extends.as_it_was
onward_end (errs kind world) next goes = Extends.as_it_was

pub moment_on : (files : List KeptFile) (before later last : World) → Extends later.trail last.trail
    → IsMoment files before later → IsMoment files before last
moment_on files before later last more moment = record {
  trail = moment.trail;
  from = moment.from;
  until = extends_on moment.until more;
  shown = moment.shown;
}

moment_earlier : (files : List KeptFile) (first before later : World) → Onward first before
    → IsMoment files before later → IsMoment files first later
moment_earlier files first before later onward moment = record {
  trail = moment.trail;
  from = extends_on onward.trail moment.from;
  until = moment.until;
  shown = λ given was. moment.shown given (onward.files given was);
}

-- what stops the first thing stops the whole
module _ {A B T U : Type 0} (middle later : Kinds) (ports : List PortState) (Is : T → A → Type 0)
    (IsThen : U → B → Type 0) (before : World) (outcome : Outcome Store A) (next : A → Doing Store B)
    (goes : (value : A) → Goes (next value)) (now : MachineState) where
  pub stops_whole : (why : Stop) → StopsBy middle ports Is before outcome now why
      → StopsBy later ports IsThen before (and_then outcome next) now why
  stops_whole (stop.Halted status) h =
      (h.0, record { same = ap (λ outcome. and_then outcome next) h.1.same; stands = h.1.stands })
  stops_whole stop.Going h =
      (h.0, record { same = ap (λ outcome. and_then outcome next) h.1.same; stands = h.1.stands })
  stops_whole (stop.Wrong kind) h =
      (h.0, record { same = ap (λ outcome. and_then outcome next) h.1.same; stands = h.1.stands })
  stops_whole stop.TooDeep h =
      (h.0, record { same = ap (λ outcome. and_then outcome next) h.1.same; stands = h.1.stands })
  stops_whole stop.PortFailed h =
      moment_on now.files before (world_of outcome) (world_of (and_then outcome next))
      (onward_end outcome next goes) h
  stops_whole stop.OutOfMemory h = tt

-- what is done from a later world of a run
module _ {A T : Type 0} (later : Kinds) (ports : List PortState) (Is : T → A → Type 0) (first before : World)
    (onward : Onward first before) (outcome : Outcome Store A) (now : MachineState) where
  stops_earlier : (why : Stop) → StopsBy later ports Is before outcome now why
      → StopsBy later ports Is first outcome now why
  stops_earlier (stop.Halted status) h = (h.0, record { same = h.1.same; stands = h.1.stands })
  stops_earlier stop.Going h = (h.0, record { same = h.1.same; stands = h.1.stands })
  stops_earlier (stop.Wrong kind) h = (h.0, record { same = h.1.same; stands = h.1.stands })
  stops_earlier stop.TooDeep h = (h.0, record { same = h.1.same; stands = h.1.stands })
  stops_earlier stop.PortFailed h = moment_earlier now.files first before (world_of outcome) onward h
  stops_earlier stop.OutOfMemory h = tt

  pub done_earlier : (result : Result T Stop) → Done later ports Is before outcome now result
      → Done later ports Is first outcome now result
  done_earlier (Ok found) h =
      record { value = h.value; run = h.run; same = h.same; is = h.is; stands = h.stands }
  done_earlier (Err why) h = stops_earlier why h

-- one thing behind another
module _ {A B T U : Type 0} (most : ℕ) (kinds middle later : Kinds) (Is : T → A → Type 0)
    (IsThen : U → B → Type 0) (first : Doing Store A) (next : A → Doing Store B) (before : MachineState) where
  pub does_stop : (now : MachineState) (why : Stop) → ((value : A) → Goes (next value))
      → Does most kinds middle Is first before now (Err why)
      → Does most kinds later IsThen (first >>= next) before now (Err why)
  does_stop now why goes does = record {
    each = λ ports run stands within. stops_whole middle later ports Is IsThen run.world (first run) next goes now why
        (does.each ports run stands within);
  }

  pub does_next : (between now : MachineState) (found : T) (result : Result U Stop) → Goes first
      → Does most kinds middle Is first before between (Ok found)
      → ((value : A) → Is found value → Does most middle later IsThen (next value) between now result)
      → Does most kinds later IsThen (first >>= next) before now result
  does_next between now found result goes does then_does = record {
    each = λ ports run stands within.
        let given = does.each ports run stands within in
        let onward : Onward run.world given.run.world =
        subst (λ outcome. Onward run.world (world_of outcome)) given.same (goes.each run) in
        subst (λ outcome. Done later ports IsThen run.world (and_then outcome next) now result) (sym given.same)
        (done_earlier later ports IsThen run.world given.run.world onward (next given.value given.run) now result
        ((then_does given.value given.is).each ports given.run given.stands
        (omega (arith, onward.steps, within))));
  }

-- what takes nothing of the machine: a value, and an answer
pub does_pure : {A T : Type 0} (most : ℕ) (kinds : Kinds) (Is : T → A → Type 0) (found : T) (value : A)
    (machine : MachineState)
    → Is found value → Does most kinds kinds Is (pure value) machine machine (Ok found)
does_pure most kinds Is found value machine is = record {
  each = λ ports run stands within. record { value = value; run = run; same = refl; is = is; stands = stands };
}

pub does_answered : {A T : Type 0} (most : ℕ) (kinds : Kinds) (Is : T → A → Type 0) (answer : Answer A)
    (machine : MachineState) (result : Result T Stop) → Answers Is answer result
    → Does most kinds kinds Is (answered answer) machine machine result
does_answered most kinds Is answer machine (Ok found) h = record {
  each = λ ports run stands within. record {
    value = h.0;
    run = run;
    same = ap (λ answer. answered answer run) h.1;
    is = h.2;
    stands = stands;
  };
}
does_answered most kinds Is answer machine (Err (stop.Wrong kind)) h = record {
  each = λ ports run stands within.
      (run.world, record { same = ap (λ answer. answered answer run) h; stands = stands.world });
}
does_answered most kinds Is answer machine (Err (stop.Halted status)) h = absurd h
does_answered most kinds Is answer machine (Err stop.Going) h = absurd h
does_answered most kinds Is answer machine (Err stop.TooDeep) h = absurd h
does_answered most kinds Is answer machine (Err stop.PortFailed) h = absurd h
does_answered most kinds Is answer machine (Err stop.OutOfMemory) h = absurd h

-- where a `?` returns early
pub does_early : {A T : Type 0} (most : ℕ) (kinds later : Kinds) (Is : T → A → Type 0) (doing : Doing Store A)
    (before now : MachineState) (why : Stop) (result : Result T Stop)
    → ((found : Stop) × (result ≡ Err found) × (found ≡ why))
    → Does most kinds later Is doing before now (Err why) → Does most kinds later Is doing before now result
does_early most kinds later Is doing before now why result is does =
    subst (Does most kinds later Is doing before now) (sym (is.1 ∙ ap Err is.2)) does

-- the steps that are left are fewer behind a step
pub does_behind_step : {A T : Type 0} (most : ℕ) (kinds later : Kinds) (Is : T → A → Type 0) (next : Doing Store A)
    (before between now : MachineState) (result : Result T Stop) → between.steps + 1 ≡ before.steps
    → Does (suc most) kinds kinds Any take_step before between (Ok (tt {0}))
    → Does most kinds later Is next between now result
    → Does (suc most) kinds later Is (take_step >> next) before now result
does_behind_step most kinds later Is next before between now result fewer step then_does = record {
  each = λ ports run stands within.
      let given = step.each ports run stands within in
      let onward : Onward run.world given.run.world =
      subst (λ outcome. Onward run.world (world_of outcome)) given.same (goes_step.each run) in
      subst (λ outcome. Done later ports Is run.world (and_then outcome (λ done. next)) now result) (sym given.same)
      (done_earlier later ports Is run.world given.run.world onward (next given.run) now result
      (then_does.each ports given.run given.stands
      (omega (arith, fewer, within, stands.world.steps, given.stands.world.steps))));
}

-- where no call of a port failed in a first part
as_many : (first between : List KeptFile) → CountFailures false first between → length between ≡ length first
as_many first between same =
    omega (
      arith,
      ap length same,
      length-map first (λ (kept : KeptFile). kept.failures),
      length-map between (λ (kept : KeptFile). kept.failures),
    )

pub counts_on : (failed : Bool) (first between now : List KeptFile) → CountFailures false first between
    → CountFailures failed between now → CountFailures failed first now
counts_on true first between now same counts =
    let many = as_many first between same in
    record {
      many = counts.many ∙ many;
      number = counts.number;
      there = omega (arith, counts.there, many);
      rose = subst (λ failures. Rose (slice_index_or failures counts.number 0)
          (slice_index_or (failures_of now) counts.number 0)) same counts.rose;
    }
counts_on false first between now same counts = counts ∙ same

-- a question to the variables and the world, which leaves the machine
pub does_question : {A T : Type 0} (most : ℕ) (kinds : Kinds) (Is : T → A → Type 0)
    (question : Store → World → Answer A) (machine : MachineState) (result : Result T Stop)
    → ((ports : List PortState) (run : Run Store) → IsRun kinds ports machine run
    → Answers Is (question run.store run.world) result)
    → Does most kinds kinds Is (ask question) machine machine result
does_question most kinds Is question machine result answers = record {
  each = λ ports run stands within.
      (does_answered most kinds Is (question run.store run.world) machine result (answers ports run stands)).each ports
      run stands within;
}

-- a question that goes on where another one is answered
asked_then : {A B : Type 0} (answer : Answer A) (next : A → Store → World → Answer B) (run : Run Store)
    → and_then (answered answer run) (λ value. ask (next value))
    ≡ answered (then_answer answer (λ value. next value run.store run.world)) run
asked_then (fine value) next run = refl
asked_then (wrong kind) next run = refl

pub does_asked_then : {A B T : Type 0} (most : ℕ) (kinds later : Kinds) (Is : T → B → Type 0)
    (question : Store → World → Answer A) (next : A → Store → World → Answer B) (before now : MachineState)
    (result : Result T Stop) → Does most kinds later Is (ask question >>= (λ value. ask (next value))) before now result
    → Does most kinds later Is
    (ask (λ store world. then_answer (question store world) (λ value. next value store world))) before now result
does_asked_then most kinds later Is question next before now result does = record {
  each = λ ports run stands within.
      subst (λ outcome. Done later ports Is run.world outcome now result)
      (asked_then (question run.store run.world) next run) (does.each ports run stands within);
}

-- an answer that goes on
module _ {A B T U : Type 0} (Is : T → A → Type 0) (IsThen : U → B → Type 0) (answer : Answer A)
    (next : A → Answer B) where
  pub then_stops : (why : Stop) → Answers Is answer (Err why) → Answers IsThen (then_answer answer next) (Err why)
  then_stops (stop.Wrong kind) is = ap (λ answer. then_answer answer next) is
  then_stops (stop.Halted status) is = absurd is
  then_stops stop.Going is = absurd is
  then_stops stop.TooDeep is = absurd is
  then_stops stop.PortFailed is = absurd is
  then_stops stop.OutOfMemory is = absurd is

  pub then_answers : (found : T) (result : Result U Stop) → Answers Is answer (Ok found)
      → ((value : A) → Is found value → Answers IsThen (next value) result)
      → Answers IsThen (then_answer answer next) result
  then_answers found result is answers =
      subst (λ answer. Answers IsThen (then_answer answer next) result) (sym is.1) (answers is.0 is.2)

-- where a `?` returns early
pub answers_early : {A T : Type 0} (Is : T → A → Type 0) (answer : Answer A) (why : Stop) (result : Result T Stop)
    → ((found : Stop) × (result ≡ Err found) × (found ≡ why)) → Answers Is answer (Err why) → Answers Is answer result
answers_early Is answer why result is answers =
    subst (Answers Is answer) (sym (is.1 ∙ ap Err is.2)) answers

-- where no call of a port failed before an early return
pub quiet_early : {T : Type 0} (found : List KeptFile) (why : Stop) (result : Result T Stop)
    → ((stopped : Stop) × (result ≡ Err stopped) × (stopped ≡ why)) → is_failure why ≡ false
    → CountFailures (is_port_failed result) found found
quiet_early found why result is quiet =
    subst (λ failed. CountFailures failed found found)
    (sym (ap is_port_failed (is.1 ∙ ap Err is.2) ∙ quiet)) refl
