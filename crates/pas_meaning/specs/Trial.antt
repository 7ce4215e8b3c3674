-- Whole runs of a program on given files, within a bound of steps: how they end, what the files hold then, and what
-- they held on the way. That a run on a machine may be too deep is this project's own.
use Rattle.std.specs.Prelude.{ℕ, suc, ◌==◌, pos, List, [], ◌∷◌, map, reverse, zip, position, slice_get, codes}
use Rattle.std.specs.Prelude.{if◌then◌else◌, Option, Some, None, option_map, unwrap_or}
use Rattle.std.specs.Str.{bytes_eq}
use Rattle.pas_typed.specs.Types.{text, same_type}
use Rattle.pas_typed.specs.Typed.{Variable, TypedProgram}
use Rattle.pas_typed.specs.Typed as typed
use Rattle.pas_meaning.specs.declared.errors.TheConstants.{CALL_LIMIT}
use Rattle.pas_meaning.specs.Files as files
use Rattle.pas_meaning.specs.Files.{File}
use Rattle.pas_meaning.specs.Outcome.{End, halted, World, Run, Outcome, gives, ends, errs, Doing, pure, ◌>>=◌, ◌>>◌}
use Rattle.pas_meaning.specs.Outcome.{stop}
use Rattle.pas_meaning.specs.Outcome.{moments}
use Rattle.pas_meaning.specs.FileSteps.{reset, rewrite}
use Rattle.pas_meaning.specs.Store.{holds, Cell, own, Store, blank_of}
use Rattle.pas_meaning.specs.Run.{start, within}

-- the globals at the start: a file variable holds the number of its file
abbrev pub global_cell : TypedProgram → ℕ → Variable → Cell
global_cell program variable found =
    own (unwrap_or (option_map (λ file. holds (pos file)) (position (λ other. other == variable) program.files))
    (blank_of program.types found.type))

abbrev pub cells_from : TypedProgram → ℕ → List Variable → List Cell
cells_from program variable [] = []
cells_from program variable (found ∷ variables) =
    global_cell program variable found ∷ cells_from program (suc variable) variables

abbrev pub store_at_start : TypedProgram → Store
store_at_start program = cells_from program 0 program.globals ∷ []

-- the parameters of the program, in their order
abbrev pub no_variable : Variable
no_variable = record { name = []; mode = typed.declared; type = text }

abbrev pub parameters_of : TypedProgram → List Variable
parameters_of program = map (λ variable. unwrap_or (slice_get program.globals variable) no_variable) program.files

-- their files at the start, with these bytes
abbrev pub file_given : Variable × List ℕ → File
file_given given = record {
  is_text = same_type given.0.type text;
  bytes = given.1;
  place = 0;
  mode = files.unused;
  buffer = None;
  starts = 0;
}

abbrev pub files_given : TypedProgram → List (List ℕ) → List File
files_given program given = map file_given (zip (parameters_of program) given)

-- `input` is reset at the start, and `output` rewritten
abbrev pub begun_by : ℕ → List ℕ → Doing Store (Unit {0})
begun_by file name =
    if bytes_eq name (codes "input") then reset file
    else if bytes_eq name (codes "output") then rewrite file else pure tt

abbrev pub begin_files : ℕ → List Variable → Doing Store (Unit {0})
begin_files file [] = pure tt
begin_files file (found ∷ parameters) = begun_by file found.name >> begin_files (suc file) parameters

-- a run of a program: it ends with 0 behind its last statement
abbrev pub whole_run : Option ℕ → TypedProgram → ℕ → Doing Store (Unit {0})
whole_run limit program steps = do
  begin_files 0 (parameters_of program)
  flow ← within limit program (suc steps) start (typed.compound program.statements)
  stop (halted 0)

abbrev pub run_at_start : TypedProgram → List (List ℕ) → ℕ → Run Store
run_at_start program given steps = record {
  store = store_at_start program;
  world = record { steps = steps; calls = 0; files = files_given program given; trail = [] };
}

-- how a run ends, and the world then
pub data Ending : Type 0 where
  ended : End → Ending
  error : ℕ → Ending

pub record Result : Type 0 where
  pub ending : Ending
  pub world : World

abbrev pub result_of : {A : Type 0} → Outcome Store A → Result
result_of (gives value run) = record { ending = ended (halted 0); world = run.world }
result_of (ends end world) = record { ending = ended end; world = world }
result_of (errs kind world) = record { ending = error kind; world = world }

-- the run of a program on the given files at a bound of steps, and the trial, which is too deep where a call begins
-- while as many are active as the limit says
unfoldable pub pascal_run : TypedProgram → List (List ℕ) → ℕ → Result
pascal_run program given steps = result_of (whole_run None program steps (run_at_start program given steps))

unfoldable pub pascal_trial : TypedProgram → List (List ℕ) → ℕ → Result
pascal_trial program given steps =
    result_of (whole_run (Some CALL_LIMIT) program steps (run_at_start program given steps))

-- what a run answers: its end, and what each file tells then, its bytes and how often it was reset or rewritten
pub record Told : Type 0 where
  pub bytes : List ℕ
  pub starts : ℕ

pub record Report : Type 0 where
  pub ending : Ending
  pub files : List Told

abbrev pub told_by : World → List Told
told_by world = map (λ file. record { bytes = file.bytes; starts = file.starts }) world.files

abbrev pub report_of : Result → Report
report_of result = record { ending = result.ending; files = told_by result.world }

-- the bytes of all files at each moment of a trial, those at its start first
abbrev pub pascal_moments : TypedProgram → List (List ℕ) → ℕ → List (List (List ℕ))
pascal_moments program given steps = reverse (moments given (pascal_trial program given steps).world.trail)
