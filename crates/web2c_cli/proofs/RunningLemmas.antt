-- The parts of the run of a program, and what each has to do with the work that is to be done.
use Rattle.std.proofs.Common.{◌≡◌, ◌∙◌, ◌≤◌, ◌<◌, inl, inr, ℕ, nat_lt, List, length, Bool, true, false, cond}
use Rattle.std.proofs.Common.{if◌then◌else◌}
use Rattle.std.proofs.Common.{Option, Some, None, IfSome, Result, Ok, Err, IsErrAnd, refl, sym, ap, subst, arith}
use Rattle.std.specs.Bool.{Decides}
use Rattle.std.specs.Str.{bytes_eq}
use Rattle.std.proofs.lemmas.Bool.Decides.{nat_tests}
use Rattle.std.proofs.lemmas.Slice.Eq.{bytes_eq-Decides}
use Rattle.wb_base.specs.declared.faults.Fault.{Fault as Flaw}
use Rattle.wb_base.specs.declared.faults.TheConstants.{FILE_RULE}
use Rattle.wb_base.specs.declared.faults.WorkErr.{WorkErr}
use Rattle.wb_base.specs.declared.faults.WorkErr.TheVariants as of_work
use Rattle.wb_base.specs.WorkResult.{IfFault}
use Rattle.wb_base.specs.declared.places.FileTag.TheVariants.{Pas}
use Rattle.wb_base.specs.FaultAt.{fault_at}
use Rattle.wb_ports.specs.Held.{WhereTold}
use Rattle.wb_ports.specs.Files.{Files, SameFiles}
use Rattle.wb_ports.specs.PortState.{PortState}
use Rattle.wb_ports.specs.declared.shelf.FailedCall.{FailedCall}
use Rattle.pas_typed.specs.Typed.{TypedProgram}
use Rattle.tangle_core.specs.Work.{RunEnd, Work, does, prints, asks, plays, ends, World, by_memory, Stops}
use Rattle.tangle_core.specs.Job.{Reaches, world_of}
use Rattle.tangle_core.proofs.WorkLemmas.{now_same}
use Rattle.tangle_core.proofs.ReachingLemmas.{counted, play_done, play_stopped, load_stopped, reaches_same}
use Rattle.tangle_core.proofs.ReachingLemmas.{reaches_then, rest_is, files_now}
use Rattle.web2c_cli.specs.declared.status.Status.{Status}
use Rattle.web2c_cli.specs.declared.halt.Stop.{Stop}
use Rattle.web2c_cli.specs.declared.halt.Stop.TheVariants.{Shelf, Console, Port, OutOfMemory}
use Rattle.web2c_cli.specs.declared.halt.Halt.{Halt}
use Rattle.web2c_cli.specs.declared.halt.Halt.TheVariants.{Fault, Stopped}
use Rattle.web2c_cli.specs.declared.ending.Ending.{Ending}
use Rattle.web2c_cli.specs.Status.{number_of}
use Rattle.web2c_cli.specs.CommandLine.{Order, steps_by_settings}
use Rattle.web2c_cli.specs.Readings.{Pascal, IsPascal, Readings, AreRight}
use Rattle.web2c_cli.specs.Runs.{play_of, end_line, status_after, telling_end}
use Rattle.web2c_cli.specs.Program.{refused, running, running_read, prun_work}
use Rattle.web2c_cli.specs.inner.Reaching.{Performs, Loading, Printing, cause_of}
use Rattle.web2c_cli.specs.inner.Running.{end_by, halt_by_work, Playing, TellingEnd, GoesToEnd, Running, RunningText}
use Rattle.web2c_cli.specs.inner.Running.{RunningProgram}
use Rattle.web2c_cli.proofs.ReachingLemmas.{stopped, halted}
use Rattle.web2c_cli.proofs.ListingLemmas.{goes_then}

-- the work of a program where there are ports for its files, and where there are not
abbrev played_work : Order → Pascal → Work
played_work order pascal =
    let steps = steps_by_settings order.settings in
    plays (length pascal.program.files) (play_of pascal.program steps) (telling_end steps)

abbrev refused_work : Order → Pascal → Work
refused_work order pascal = refused order (fault_at FILE_RULE (record { file = Pas; line = pascal.line }))

abbrev chosen : Order → Pascal → ℕ → Work
chosen order pascal ports =
    if nat_lt ports (length pascal.program.files) then refused_work order pascal else played_work order pascal

cond_is : {A : Type 0} (b c : Bool) (x y : A) → b ≡ c → cond b x y ≡ cond c x y
cond_is b c x y is = ap (λ (t : Bool). cond t x y) is

few : (n m : ℕ) → n < m → nat_lt n m ≡ true
few n m less = grind (arith, nat_tests)

enough : (n m : ℕ) → m ≤ n → nat_lt n m ≡ false
enough n m less = grind (arith, nat_tests)

-- too few ports
pub too_few : (order : Order) (pascal : Pascal) (w : World) → length w.ports < length pascal.program.files
    → Running order pascal (Err (Fault (fault_at FILE_RULE (record { file = Pas; line = pascal.line })))) w w
too_few order pascal w less last =
    rest_is (asks (chosen order pascal)) (chosen order pascal (length w.ports)) (refused_work order pascal) w w
    (cond_is _ true _ _ (few _ _ less)) (counted (chosen order pascal) w)

-- enough ports
pub had_enough : (order : Order) (pascal : Pascal) (w : World) → length pascal.program.files ≤ length w.ports
    → Reaches (running order pascal) (played_work order pascal) w w
had_enough order pascal w less =
    rest_is (asks (chosen order pascal)) (chosen order pascal (length w.ports)) (played_work order pascal) w w
    (cond_is _ false _ _ (enough _ _ less)) (counted (chosen order pascal) w)

-- a run that was stopped
stopped_play : (program : TypedProgram) (steps : ℕ) (next : RunEnd → Work) (stop : Stop) (last : Option FailedCall)
    (files : Option Files) (console : Option (List ℕ)) (before now : List (Option PortState))
    → Playing program steps (Err stop) before now
    → Stops (plays (length program.files) (play_of program steps) next) (cause_of stop last)
    (world_of files console before) (world_of files console now)
stopped_play program steps next Shelf last files console before now p = absurd p
stopped_play program steps next Console last files console before now p = absurd p
stopped_play program steps next Port last files console before now p =
    play_stopped (length program.files) (play_of program steps) next _ _ _ (now_same _, p)
stopped_play program steps next OutOfMemory last files console before now p =
    play_stopped (length program.files) (play_of program steps) next _ _ _ (now_same _, p)

pub play_halted : (order : Order) (pascal : Pascal) (steps : ℕ) (stop : Stop) (result : Result Status Halt)
    (files : Option Files) (console : Option (List ℕ)) (before now : List (Option PortState))
    → steps ≡ steps_by_settings order.settings → length pascal.program.files ≤ length before
    → IsErrAnd result (λ halt. halt ≡ Stopped stop) → Playing pascal.program steps (Err stop) before now
    → Running order pascal result (world_of files console before) (world_of files console now)
play_halted order pascal steps stop (Ok status) files console before now is less halt p last = absurd halt
play_halted order pascal steps stop (Err other) files console before now is less halt p last =
    subst (λ (h : Halt). GoesToEnd order (running order pascal) (Err h) last (world_of files console before)
    (world_of files console now)) (sym halt)
    ((had_enough order pascal (world_of files console before) less).stops _ _
    (subst (λ (n : ℕ). Stops (plays (length pascal.program.files) (play_of pascal.program n) (telling_end n))
    (cause_of stop last) (world_of files console before) (world_of files console now)) is
    (stopped_play pascal.program steps (telling_end steps) stop last files console before now p)))

-- a run that ended, and the telling of it
told_end : (order : Order) (pascal : Pascal) (ending : Ending) (told : Result Status Stop)
    (files : Option Files) (console heard : Option (List ℕ)) (before now : List (Option PortState))
    → length pascal.program.files ≤ length before
    → Playing pascal.program (steps_by_settings order.settings) (Ok ending) before now
    → TellingEnd (steps_by_settings order.settings) ending told console heard → (last : Option FailedCall)
    → Performs (running order pascal) (λ status. ends (number_of status)) told last (world_of files console before)
    (world_of files heard now)
told_end order pascal ending told files console heard before now less p tells last =
    let w = world_of files console before in
    let v = world_of files console now in
    performs_then (running order pascal) (telling_end (steps_by_settings order.settings) (end_by ending)) told last w v
    (world_of files heard now)
    (reaches_then (running order pascal) (played_work order pascal) _ w w v (had_enough order pascal w less)
    (play_done (length pascal.program.files) (play_of pascal.program (steps_by_settings order.settings))
    (telling_end (steps_by_settings order.settings)) (end_by ending) w v p (now_same v)))
    (tells last files now)
  where
    performs_then : (work middle : Work) (told : Result Status Stop) (last : Option FailedCall) (u v w : World)
        → Reaches work middle u v → Performs middle (λ status. ends (number_of status)) told last v w
        → Performs work (λ status. ends (number_of status)) told last u w
    performs_then work middle (Ok status) last u v w p q = reaches_then work middle (ends (number_of status)) u v w p q
    performs_then work middle (Err stop) last u v w p q = p.stops (cause_of stop last) w q

pub play_told : (order : Order) (pascal : Pascal) (steps : ℕ) (ending : Ending) (status : Status)
    (files : Option Files) (console heard : Option (List ℕ)) (before now : List (Option PortState))
    → steps ≡ steps_by_settings order.settings → length pascal.program.files ≤ length before
    → Playing pascal.program steps (Ok ending) before now → TellingEnd steps ending (Ok status) console heard
    → Running order pascal (Ok status) (world_of files console before) (world_of files heard now)
play_told order pascal steps ending status files console heard before now is less p tells last =
    told_end order pascal ending (Ok status) files console heard before now less
    (subst (λ (n : ℕ). Playing pascal.program n (Ok ending) before now) is p)
    (subst (λ (n : ℕ). TellingEnd n ending (Ok status) console heard) is tells) last

pub play_untold : (order : Order) (pascal : Pascal) (steps : ℕ) (ending : Ending) (stop : Stop)
    (result : Result Status Halt) (files : Option Files) (console heard : Option (List ℕ))
    (before now : List (Option PortState))
    → steps ≡ steps_by_settings order.settings → length pascal.program.files ≤ length before
    → Playing pascal.program steps (Ok ending) before now → TellingEnd steps ending (Err stop) console heard
    → IsErrAnd result (λ halt. halt ≡ Stopped stop)
    → Running order pascal result (world_of files console before) (world_of files heard now)
play_untold order pascal steps ending stop (Ok status) files console heard before now is less p tells halt last =
    absurd halt
play_untold order pascal steps ending stop (Err other) files console heard before now is less p tells halt last =
    subst (λ (h : Halt). GoesToEnd order (running order pascal) (Err h) last (world_of files console before)
    (world_of files heard now)) (sym halt)
    (told_end order pascal ending (Err stop) files console heard before now less
    (subst (λ (n : ℕ). Playing pascal.program n (Ok ending) before now) is p)
    (subst (λ (n : ℕ). TellingEnd n ending (Err stop) console heard) is tells) last)

-- a text that has a fault, or was not read
pub text_refused : (T : Type 0) (order : Order) (text : List ℕ) (err : WorkErr) (result : Result Status Halt)
    (w : World)
    → IsErrAnd result (λ halt. halt ≡ halt_by_work err)
    → IfFault {T = T} (Err err) (λ fault. IsPascal text (Err fault)) → RunningText order text result w w
text_refused T order text err (Ok status) w halt p = absurd halt
text_refused T order text (of_work.Fault fault) (Err other) w halt p =
    inr (
      Err fault,
      p,
      λ last. subst (λ (h : Halt). GoesToEnd order (refused order fault) (Err h) last w w) (sym halt)
          (reaches_same (refused order fault) w),
    )
text_refused T order text of_work.OutOfMemory (Err other) w halt p =
    inl (ap (λ (h : Halt). Err h) halt, refl)

-- what no text comes to that was not read
abbrev pub none_read : Readings
none_read text = None

pub none_wrong : AreRight none_read
none_wrong text = tt

-- what the one text comes to that was read
abbrev one_read : List ℕ → Result Pascal Flaw → Readings
one_read text reading other = if bytes_eq other text then Some reading else None

one_right : (text : List ℕ) (reading : Result Pascal Flaw) → IsPascal text reading → AreRight (one_read text reading)
one_right text reading is other = right_at (bytes_eq other text) (bytes_eq-Decides other text)
  where
    right_at : (t : Bool) → Decides t (other ≡ text) → IfSome (cond t (Some reading) None) (IsPascal other)
    right_at true d = subst (λ (x : List ℕ). IsPascal x reading) (sym (d.0 refl)) is
    right_at false d = tt

one_at : (text : List ℕ) (reading : Result Pascal Flaw) → one_read text reading text ≡ Some reading
one_at text reading = cond_is _ true (Some reading) None ((bytes_eq-Decides text text).1 refl)

-- a program that was not loaded
pub not_loaded : (order : Order) (stop : Stop) (result : Result Status Halt) (last : Option FailedCall)
    (a b : Option Files) (console : Option (List ℕ)) (ports : List (Option PortState))
    → IsErrAnd result (λ halt. halt ≡ Stopped stop) → Loading order.names.first (Err stop) last a b
    → RunningProgram order result last (world_of a console ports) (world_of b console ports)
not_loaded order stop result last a b console ports halt l = (
  none_read,
  none_wrong,
  halted (refused order) (prun_work none_read order) (λ status. ends (number_of status)) result stop last _ _ halt
      (l (λ text. running_read order None) console ports),
)

-- a program that was loaded, and its text run
program_ran_on : (order : Order) (text : List ℕ) (result : Result Status Halt) (loaded last : Option FailedCall)
    (a b : Option Files) (console : Option (List ℕ)) (ports : List (Option PortState)) (now : World)
    → Loading order.names.first (Ok text) loaded a b → WhereTold SameFiles a b
    → RunningText order text result (world_of b console ports) now
    → RunningProgram order result last (world_of a console ports) now
program_ran_on order text result loaded last a b console ports now l same ran = elim ran [
  | inl (halt, there) ↦ (
    none_read,
    none_wrong,
    subst (λ (w : World). GoesToEnd order (prun_work none_read order) result last (world_of a console ports) w)
        (sym there)
        (subst (λ (r : Result Status Halt). GoesToEnd order (prun_work none_read order) r last
        (world_of a console ports) (world_of b console ports)) (sym halt)
        (load_stopped order.names.first (λ text. running_read order None) by_memory (world_of a console ports)
        (world_of b console ports) (files_now a b console ports same))),
  )
  | inr (reading, is, goes) ↦ (
    one_read text reading,
    one_right text reading is,
    goes_then (refused order) (prun_work (one_read text reading) order) (running_read order (Some reading))
        (λ status. ends (number_of status)) result last (world_of a console ports) (world_of b console ports) now
        (rest_is _ _ _ _ _ (ap (running_read order) (one_at text reading))
        (l (λ text'. running_read order (one_read text reading text')) console ports)) (goes last),
  )
]

pub program_ran : (order : Order) (text run : List ℕ) (result : Result Status Halt) (loaded last : Option FailedCall)
    (a b : Option Files) (console : Option (List ℕ)) (ports : List (Option PortState)) (now : World)
    → Loading order.names.first (Ok text) loaded a b → WhereTold SameFiles a b → run ≡ text
    → RunningText order run result (world_of b console ports) now
    → RunningProgram order result last (world_of a console ports) now
program_ran order text run result loaded last a b console ports now l same is ran =
    program_ran_on order text result loaded last a b console ports now l same
    (subst (λ (t : List ℕ). RunningText order t result (world_of b console ports) now) is ran)

pub text_run : (order : Order) (text : List ℕ) (pascal : Pascal) (result : Result Status Halt) (u v : World)
    → IsPascal text (Ok pascal) → Running order pascal result u v → RunningText order text result u v
text_run order text pascal result u v is ran = inr (Ok pascal, is, ran)

-- the end of a run that was told, or not
pub end_told : (steps : ℕ) (ending : Ending) (text line : List ℕ) (status : Status) (a b : Option (List ℕ))
    (last : Option FailedCall) (files : Option Files) (ports : List (Option PortState))
    → line ≡ end_line steps (end_by ending) → text ≡ line → status ≡ status_after (end_by ending)
    → Printing text (Ok tt) a b
    → Performs (telling_end steps (end_by ending)) (λ status'. ends (number_of status')) (Ok status) last
    (world_of files a ports) (world_of files b ports)
end_told steps ending text line status a b last files ports is same status_is p =
    subst (λ (s : Status). Reaches (telling_end steps (end_by ending)) (ends (number_of s)) (world_of files a ports)
    (world_of files b ports)) (sym status_is)
    (subst (λ (t : List ℕ). Reaches (does (prints t) (ends (number_of (status_after (end_by ending)))))
    (ends (number_of (status_after (end_by ending)))) (world_of files a ports) (world_of files b ports)) (same ∙ is)
    (p (ends (number_of (status_after (end_by ending)))) last files ports))

pub end_untold : (steps : ℕ) (ending : Ending) (text line : List ℕ) (stop : Stop) (result : Result Status Stop)
    (a b : Option (List ℕ)) (last : Option FailedCall) (files : Option Files) (ports : List (Option PortState))
    → line ≡ end_line steps (end_by ending) → text ≡ line → IsErrAnd result (λ s. s ≡ stop)
    → Printing text (Err stop) a b
    → Performs (telling_end steps (end_by ending)) (λ status'. ends (number_of status')) result last
    (world_of files a ports) (world_of files b ports)
end_untold steps ending text line stop result a b last files ports is same halt p =
    stopped (telling_end steps (end_by ending)) (λ status'. ends (number_of status')) result stop last _ _ halt
    (subst (λ (t : List ℕ). Stops (does (prints t) (ends (number_of (status_after (end_by ending)))))
    (cause_of stop last) (world_of files a ports) (world_of files b ports)) (same ∙ is)
    (p (ends (number_of (status_after (end_by ending)))) last files ports))
