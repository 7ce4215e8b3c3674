-- The run of a Pascal program over ports: what it comes to, and the line that tells how it ended. The lines, the texts
-- of the errors and the statuses are this project's own.
use Rattle.std.specs.Prelude.{◌≡◌, ℕ, List, [], ◌∷◌, ◌++◌, length, map, take, codes, decimal}
use Rattle.wb_base.specs.ConsoleLine.{text_beside}
use Rattle.wb_ports.specs.Counts.{next_count, grown}
use Rattle.wb_ports.specs.PortState.{PortState}
use Rattle.pas_typed.specs.Typed.{Variable, TypedProgram}
use Rattle.pas_meaning.specs.Outcome as outcome
use Rattle.pas_meaning.specs.Trial as trial
use Rattle.pas_meaning.specs.Trial.{Ending, Told, parameters_of, report_of, pascal_trial, pascal_moments}
use Rattle.pas_meaning.specs.declared.errors.TheConstants.{UNDEFINED_VALUE, OUT_OF_RANGE, INDEX_OUT_OF_RANGE}
use Rattle.pas_meaning.specs.declared.errors.TheConstants.{PAST_MAXINT, DIVISION_BY_ZERO, MOD_BELOW_1}
use Rattle.pas_meaning.specs.declared.errors.TheConstants.{CHR_OUT_OF_RANGE, NO_CASE_MATCHES, WIDTH_BELOW_1}
use Rattle.pas_meaning.specs.declared.errors.TheConstants.{WRONG_MODE, AT_END_OF_FILE, UNDEFINED_BUFFER}
use Rattle.pas_meaning.specs.declared.errors.TheConstants.{UNDEFINED_RESULT, STATUS_OUT_OF_RANGE}
use Rattle.tangle_core.specs.Work.{RunEnd, halted, going, error, too_deep, Played, Play, Work, prints, does, ends}
use Rattle.web2c_cli.specs.declared.status.Status.{Status}
use Rattle.web2c_cli.specs.declared.status.Status.TheVariants.{Done, Unfinished, Erroneous, TooDeep}
use Rattle.web2c_cli.specs.Status.{number_of}

-- how a trial ends
abbrev pub run_end_of : Ending → RunEnd
run_end_of (trial.ended (outcome.halted status)) = halted status
run_end_of (trial.ended outcome.going) = going
run_end_of (trial.ended outcome.too_deep) = too_deep
run_end_of (trial.error kind) = error kind

-- what a port is left with: the name and the bytes of its file; it was finished once, and started as often as the file
-- was reset or rewritten
abbrev pub port_after : Variable → PortState → Told → Played
port_after found before file = record {
  name = found.name;
  bytes = file.bytes;
  finishes = next_count before.finishes;
  starts = grown file.starts before.starts;
}

abbrev pub ports_after : List Variable → List PortState → List Told → List Played
ports_after (found ∷ parameters) (before ∷ ports) (file ∷ files) =
    port_after found before file ∷ ports_after parameters ports files
ports_after parameters ports files = []

-- the run of a program over ports, within a bound of steps
abbrev pub play_of : TypedProgram → ℕ → List PortState → Play
play_of program steps ports =
    let given = map (λ (port : PortState). port.bytes) ports in
    let report = report_of (pascal_trial program given steps) in
    record {
      ending = run_end_of report.ending;
      ports = ports_after (parameters_of program) ports report.files;
      moments = pascal_moments program given steps;
    }

-- the text of each error by its number
abbrev pub error_texts : List (ℕ × List ℕ)
error_texts =
    (UNDEFINED_VALUE, codes "undefined value")
    ∷ (OUT_OF_RANGE, codes "value out of its range")
    ∷ (INDEX_OUT_OF_RANGE, codes "index out of range")
    ∷ (PAST_MAXINT, codes "integer past maxint")
    ∷ (DIVISION_BY_ZERO, codes "division by zero")
    ∷ (MOD_BELOW_1, codes "mod by a number below 1")
    ∷ (CHR_OUT_OF_RANGE, codes "chr out of range")
    ∷ (NO_CASE_MATCHES, codes "no case matches")
    ∷ (WIDTH_BELOW_1, codes "width below 1")
    ∷ (WRONG_MODE, codes "file not in the needed mode")
    ∷ (AT_END_OF_FILE, codes "at the end of the file")
    ∷ (UNDEFINED_BUFFER, codes "put of an undefined buffer")
    ∷ (UNDEFINED_RESULT, codes "function result undefined")
    ∷ (STATUS_OUT_OF_RANGE, codes "uexit not in 0 to 255")
    ∷ []

-- the line that tells how a run within this bound of steps ended, without its byte 10
abbrev pub end_text : ℕ → RunEnd → List ℕ
end_text steps (halted status) = codes "Halted with status " ++ decimal status ++ codes "."
end_text steps going = codes "! Stopped after " ++ decimal steps ++ codes " steps."
end_text steps (error kind) =
    codes "! Error: " ++ text_beside error_texts kind ++ codes " (E" ++ decimal kind ++ codes ")"
end_text steps too_deep = codes "! Calls nested too deep."

-- the line with its byte 10
abbrev pub end_line : ℕ → RunEnd → List ℕ
end_line steps ending = end_text steps ending ++ 10 ∷ []

-- the status that a run ends the program with
abbrev pub status_after : RunEnd → Status
status_after (halted status) = Done
status_after going = Unfinished
status_after (error kind) = Erroneous
status_after too_deep = TooDeep

-- how a run ended is told
abbrev pub telling_end : ℕ → RunEnd → Work
telling_end steps ending = does (prints (end_line steps ending)) (ends (number_of (status_after ending)))

-- no call of a port failed: these are their counts before and now, where ports may have been dropped
abbrev pub NoPortFailed : List ℕ → List ℕ → Type 0
NoPortFailed before now = now ≡ take (length now) before
