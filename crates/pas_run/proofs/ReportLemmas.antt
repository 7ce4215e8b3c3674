-- What a run over ports reports, by how it ended.
use Rattle.std.proofs.Common.{◌≡◌, ℕ, ◌-◌, ◌<◌, List, [], ◌∷◌, length, map, Option, Some, None, arith, refl, sym, ap}
use Rattle.std.proofs.Common.{◌∙◌, subst, get_or}
use Rattle.std.specs.Prelude.{Contains, reverse, ⊤}
use Rattle.std.proofs.lemmas.List.{length-reverse, length-map, get_or-reverse}
use Rattle.wb_ports.specs.PortState.{PortState}
use Rattle.pas_typed.specs.Typed.{Variable, TypedProgram}
use Rattle.pas_meaning.specs.Outcome.{Output, moments, replay}
use Rattle.pas_meaning.specs.Laws.{Extends, as_it_was, and_one}
use Rattle.pas_meaning.specs.Trial as trial
use Rattle.pas_meaning.specs.Trial.{parameters_of, pascal_trial, pascal_moments}
use Rattle.pas_run.specs.declared.ends.Stop.{Stop}
use Rattle.pas_run.specs.declared.ends.Stop.TheVariants as stop
use Rattle.pas_run.specs.WholeRuns as whole
use Rattle.pas_run.specs.WholeRuns.{answer_of, Reports, Hold}
use Rattle.pas_run.specs.inner.MachineState.{KeptFile, MachineState}
use Rattle.pas_run.specs.inner.Starting.{IsCutOff, EndsFinished}
use Rattle.pas_run.specs.inner.Binding.{answer_by}
use Rattle.pas_run.proofs.BindingLemmas.{bound_ports, ports_behind, hold_shown}
use Rattle.pas_run.proofs.EndingLemmas.{earlier_moment}

contains_reversed : {X : Type 0} (xs : List X) (x : X) → Contains xs x → Contains (reverse xs) x
contains_reversed xs x among =
    let long = length-reverse xs in
    let less = among.1 in
    let back : length xs - 1 - (length xs - 1 - among.0) ≡ among.0 = omega arith in (
      length xs - 1 - among.0,
      omega arith,
      get_or-reverse xs (length xs - 1 - among.0) x (omega arith) ∙ ap (λ (k : ℕ). get_or xs k x) back ∙ among.2,
    )

-- each trail is longer than none
from_none : (trail : List Output) → Extends [] trail
from_none [] = as_it_was
from_none (output ∷ earlier) = and_one output earlier (from_none earlier)

-- ports that tell these bytes hold them
pub hold_given : (ports : List PortState) → Hold (map (λ port. port.bytes) ports) (map Some ports)
hold_given [] = tt
hold_given (port ∷ ports) = (refl, hold_given ports)

module _ (program : TypedProgram) (given : List PortState) (steps : ℕ) where
  abbrev pub bytes : List (List ℕ)
  bytes = map (λ (port : PortState). port.bytes) given

  -- nothing was put out before a port was told its name
  pub cut_off_before : (tells : List (Option PortState)) → Hold bytes tells
      → Reports program given steps (answer_by stop.PortFailed) tells
  cut_off_before tells hold = record {
    files = bytes;
    among = contains_reversed (moments bytes (pascal_trial program bytes steps).world.trail) bytes
        (earlier_moment bytes [] (pascal_trial program bytes steps).world.trail
        (from_none (pascal_trial program bytes steps).world.trail));
    hold = hold;
  }

  module _ (now : MachineState) (many : length given ≡ length (parameters_of program)) where
    abbrev tells : List (Option PortState)
    tells = map (λ (file : KeptFile). file.told) now.files

    abbrev Finished : Stop → Type 0
    Finished why =
        EndsFinished (bound_ports (parameters_of program) given) bytes (pascal_trial program bytes steps) now why

    pub reports_as : (why : Stop) → Finished why → Reports program given steps (answer_by why) tells
    reports_as (stop.Halted status) ends = record {
      answer = sym (ap answer_of ends.0);
      behind = ports_behind (parameters_of program) given now.files (pascal_trial program bytes steps).world.files many
          ends.1;
    }
    reports_as stop.Going ends = record {
      answer = sym (ap answer_of ends.0);
      behind = ports_behind (parameters_of program) given now.files (pascal_trial program bytes steps).world.files many
          ends.1;
    }
    reports_as (stop.Wrong kind) ends = record {
      answer = sym (ap answer_of ends.0);
      behind = ports_behind (parameters_of program) given now.files (pascal_trial program bytes steps).world.files many
          ends.1;
    }
    reports_as stop.TooDeep ends = record {
      answer = sym (ap answer_of ends.0);
      behind = ports_behind (parameters_of program) given now.files (pascal_trial program bytes steps).world.files many
          ends.1;
    }
    reports_as stop.PortFailed cut = record {
      files = cut.held;
      among = contains_reversed (moments bytes (pascal_trial program bytes steps).world.trail) cut.held cut.among;
      hold = hold_shown now.files cut.held cut.shown;
    }
    reports_as stop.OutOfMemory ends = tt
