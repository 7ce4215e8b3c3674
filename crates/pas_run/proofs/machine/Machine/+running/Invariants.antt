use Rattle.std.proofs.Common.{ℕ, ◌+◌, ◌*◌, ◌≡◌, false, List, Option, None, Ok, map, take, drop}
use Rattle.pas_syntax.specs.Views.{in_turn}
use Rattle.pas_typed.specs.Types.{PasType}
use Rattle.pas_typed.specs.Typed.{Variable, Place}
use Rattle.pas_typed.specs.TypeOf.{type_of_place, is_buffer}
use Rattle.pas_typed.specs.TypeViews.{type_view}
use Rattle.pas_typed.specs.TypedViews.{slot_view, part_view, place_view, passed_views, program_view, statements_view}
use Rattle.pas_typed.specs.TypedViews.{value_view, item_view}
use Rattle.pas_typed.specs.Lawful.{IsLawfulPlace, ArePassed, IsLawfulStatement, AreLawful, IsLawfulTarget}
use Rattle.pas_typed.specs.Lawful.{IsLawfulNumber, IsLawfulItem}
use Rattle.pas_meaning.specs.Run.{start, at}
use Rattle.pas_meaning.specs.Standing.{Kinds}
use Rattle.pas_run.specs.inner.MachineState.{failures_of}
use Rattle.std.specs.List.{All}
use Rattle.pas_run.specs.inner.Running.{reads_of, writes_of, bytes_of, IsFlow, statement_of, list_of, LeadsTo}
use Rattle.pas_run.specs.inner.Running.{entry_by, loop_view, turning, turn_at}
use Rattle.pas_run.specs.inner.Scenes.{IsFileSlot, IsScene}
use Rattle.pas_run.specs.inner.Doings.{Any, Does}
use Rattle.pas_run.specs.inner.Evaluating.{IsBehind, place_at}
use Rattle.pas_run.specs.inner.Calling.{AreGiven, arguments_of}
use Rattle.pas_run.specs.declared.loops.Loop.{Loop as CodeLoop}
use Rattle.pas_typed.specs.Typed as typed
use Rattle.pas_run.proofs.machine.Machine.+running.Given as goal

-- each expression takes a level
abbrev left : ℕ → ℕ
left levels = 32 * levels

abbrev pub decreases-number : goal.decreases-number
decreases-number g l = left l.levels + 0

abbrev pub decreases-truth : goal.decreases-truth
decreases-truth g l = left l.levels + 1

abbrev pub decreases-boolean : goal.decreases-boolean
decreases-boolean g l = left l.levels + 1

abbrev pub decreases-applied : goal.decreases-applied
decreases-applied g l = left l.levels + 1

abbrev pub decreases-signed_value : goal.decreases-signed_value
decreases-signed_value g l = left l.levels + 1

abbrev pub decreases-negated : goal.decreases-negated
decreases-negated g l = left l.levels + 2

abbrev pub decreases-product : goal.decreases-product
decreases-product g l = left l.levels + 3

abbrev pub decreases-multiplication : goal.decreases-multiplication
decreases-multiplication g l = left l.levels + 1

abbrev pub decreases-conjunction : goal.decreases-conjunction
decreases-conjunction g l = left l.levels + 2

abbrev pub decreases-addition : goal.decreases-addition
decreases-addition g l = left l.levels + 3

abbrev pub decreases-sum : goal.decreases-sum
decreases-sum g l = left l.levels + 1

abbrev pub decreases-disjunction : goal.decreases-disjunction
decreases-disjunction g l = left l.levels + 2

abbrev pub decreases-comparison : goal.decreases-comparison
decreases-comparison g l = left l.levels + 1

abbrev pub decreases-read : goal.decreases-read
decreases-read g l = left l.levels + 5

abbrev pub decreases-spot_at : goal.decreases-spot_at
decreases-spot_at g l = left l.levels + 4

abbrev pub decreases-part_at : goal.decreases-part_at
decreases-part_at g l = left l.levels + 3

abbrev pub decreases-behind_part : goal.decreases-behind_part
decreases-behind_part g l = left l.levels + 2

abbrev pub decreases-behind_elements : goal.decreases-behind_elements
decreases-behind_elements g l = left l.levels + 1

abbrev pub decreases-copy_of : goal.decreases-copy_of
decreases-copy_of g l = left l.levels + 1

abbrev pub decreases-copy_of_place : goal.decreases-copy_of_place
decreases-copy_of_place g l = left l.levels + 5

abbrev pub decreases-value_argument : goal.decreases-value_argument
decreases-value_argument g l = left l.levels + 7

abbrev pub decreases-number_argument : goal.decreases-number_argument
decreases-number_argument g l = left l.levels + 5

abbrev pub decreases-whole_argument : goal.decreases-whole_argument
decreases-whole_argument g l = left l.levels + 6

abbrev pub decreases-place_argument : goal.decreases-place_argument
decreases-place_argument g l = left l.levels + 5

abbrev pub decreases-argument : goal.decreases-argument
decreases-argument g l = left l.levels + 8

abbrev pub decreases-arguments : goal.decreases-arguments
decreases-arguments g l = left l.levels + 9

abbrev pub decreases-assign_whole : goal.decreases-assign_whole
decreases-assign_whole g l = left l.levels + 6

abbrev pub decreases-run_body : goal.decreases-run_body
decreases-run_body g l = left l.levels + 27

abbrev pub decreases-body_run : goal.decreases-body_run
decreases-body_run g l = left l.levels + 28

abbrev pub decreases-call : goal.decreases-call
decreases-call g l = left l.levels + 29

abbrev pub decreases-call_procedure : goal.decreases-call_procedure
decreases-call_procedure g l = left l.levels + 30

abbrev pub decreases-function_result : goal.decreases-function_result
decreases-function_result g l = left l.levels + 30

abbrev pub invariant-part_at-loop-part : goal.invariant-part_at-loop-part
invariant-part_at-loop-part g l =
    let program = program_view l.scene.program.now in
    let so_far : Place = in_turn (typed.slot (slot_view l.place.slot)) (map part_view (take l.part-index
    l.part-items)) in
    (type_of_place so_far ≡ type_view l.whole)
    × (failures_of l.self.files ≡ failures_of l.fn.self.files)
    × (is_buffer (place_view l.place) ≡ false → (variables : List Variable) (result' : Option PasType) (kinds : Kinds)
    → IsScene l.scene variables result' kinds → IsLawfulPlace program variables (place_view l.place) → (most : ℕ)
    → Does most kinds kinds (IsBehind program variables l.place.slot (type_of_place so_far))
    (place_at program most so_far) l.fn.self l.self (Ok l.behind))

abbrev pub invariant-arguments-loop-one : goal.invariant-arguments-loop-one
invariant-arguments-loop-one g l =
    let program = program_view l.scene.program.now in
    (failures_of l.self.files ≡ failures_of l.fn.self.files)
    × ((variables : List Variable) (result' : Option PasType) (kinds : Kinds)
    → IsScene l.scene variables result' kinds → (parameters : List Variable)
    → ArePassed program variables (passed_views l.passed) parameters → (most : ℕ)
    → Does most kinds kinds (AreGiven program variables (take l.one-index parameters))
    (arguments_of program most (passed_views (take l.one-index l.one-items))) l.fn.self l.self (Ok l.arguments))

-- statements

abbrev pub decreases-statement : goal.decreases-statement
decreases-statement g l = left l.levels + 0

abbrev pub decreases-in_order : goal.decreases-in_order
decreases-in_order g l = left l.levels + 1

abbrev pub decreases-list : goal.decreases-list
decreases-list g l = left l.levels + 2

abbrev pub decreases-compound : goal.decreases-compound
decreases-compound g l = left l.levels + 4

abbrev pub decreases-list_caught : goal.decreases-list_caught
decreases-list_caught g l = left l.levels + 3

abbrev pub decreases-branch : goal.decreases-branch
decreases-branch g l = left l.levels + 2

abbrev pub decreases-choice : goal.decreases-choice
decreases-choice g l = left l.levels + 2

abbrev pub decreases-case : goal.decreases-case
decreases-case g l = left l.levels + 2

abbrev pub decreases-case_others : goal.decreases-case_others
decreases-case_others g l = left l.levels + 2

abbrev pub decreases-halt : goal.decreases-halt
decreases-halt g l = left l.levels + 1

abbrev pub decreases-store : goal.decreases-store
decreases-store g l = left l.levels + 5

abbrev pub decreases-assign_number : goal.decreases-assign_number
decreases-assign_number g l = left l.levels + 6

abbrev pub decreases-assign : goal.decreases-assign
decreases-assign g l = left l.levels + 7

abbrev pub decreases-set_result : goal.decreases-set_result
decreases-set_result g l = left l.levels + 1

abbrev pub invariant-in_order-loop-item : goal.invariant-in_order-loop-item
invariant-in_order-loop-item g l =
    let program = program_view l.scene.program.now in
    let list = statements_view l.scene.program.now.spellings l.list in
    let rest = statements_view l.scene.program.now.spellings (drop l.item-index l.list) in
    (failures_of l.self.files ≡ failures_of l.fn.self.files)
    × ((variables : List Variable) (result' : Option PasType) (kinds : Kinds)
    → IsScene l.scene variables result' kinds → AreLawful program variables result' list
    → AreLawful program variables result' rest
    × LeadsTo kinds IsFlow (λ most. list_of program most None list) (λ most. list_of program most None rest) l.fn.self
    l.self)

abbrev pub invariant-list_caught-loop : goal.invariant-list_caught-loop
invariant-list_caught-loop g l =
    let program = program_view l.scene.program.now in
    let around = typed.compound (statements_view l.scene.program.now.spellings l.list) in
    (failures_of l.self.files ≡ failures_of l.fn.self.files)
    × ((variables : List Variable) (result' : Option PasType) (kinds : Kinds)
    → IsScene l.scene variables result' kinds → IsLawfulStatement program variables result' around
    → LeadsTo kinds IsFlow (λ most. statement_of program most start around)
    (λ most. statement_of program most (entry_by at start l.from) around) l.fn.self l.self)

abbrev pub decreases-tested_turn : goal.decreases-tested_turn
decreases-tested_turn g l = left l.levels + 3

abbrev pub decreases-until : goal.decreases-until
decreases-until g l = left l.levels + 2

abbrev pub decreases-while_turn : goal.decreases-while_turn
decreases-while_turn g l = left l.levels + 4

abbrev pub decreases-repeat_turn : goal.decreases-repeat_turn
decreases-repeat_turn g l = left l.levels + 3

abbrev pub decreases-for_turn : goal.decreases-for_turn
decreases-for_turn g l = left l.levels + 3

abbrev pub decreases-turn : goal.decreases-turn
decreases-turn g l = left l.levels + 5

abbrev pub decreases-turns : goal.decreases-turns
decreases-turns g l = left l.levels + 6

abbrev pub decreases-looped : goal.decreases-looped
decreases-looped g l = left l.levels + 7

abbrev pub decreases-while_loop : goal.decreases-while_loop
decreases-while_loop g l = left l.levels + 8

abbrev pub decreases-repeat_loop : goal.decreases-repeat_loop
decreases-repeat_loop g l = left l.levels + 8

abbrev pub decreases-for_turns : goal.decreases-for_turns
decreases-for_turns g l = left l.levels + 8

abbrev pub decreases-for_between : goal.decreases-for_between
decreases-for_between g l = left l.levels + 9

abbrev pub decreases-for_from : goal.decreases-for_from
decreases-for_from g l = left l.levels + 10

abbrev pub decreases-for_list : goal.decreases-for_list
decreases-for_list g l = left l.levels + 11

abbrev pub decreases-for_loop : goal.decreases-for_loop
decreases-for_loop g l = left l.levels + 12

abbrev pub invariant-turns-loop : goal.invariant-turns-loop
invariant-turns-loop g l =
    let program = program_view l.scene.program.now in
    let kind : CodeLoop = l.kind in
    let loop = loop_view kind (statements_view l.scene.program.now.spellings l.list) in
    (failures_of l.self.files ≡ failures_of l.fn.self.files)
    × ((variables : List Variable) (result' : Option PasType) (kinds : Kinds)
    → IsScene l.scene variables result' kinds → IsLawfulStatement program variables result' loop
    → LeadsTo kinds IsFlow (λ most. statement_of program most (turning kind) loop)
    (λ most. statement_of program most (entry_by (turn_at kind) (turning kind) l.from) loop) l.fn.self l.self)

abbrev pub decreases-read_item : goal.decreases-read_item
decreases-read_item g l = left l.levels + 6

abbrev pub decreases-read_items : goal.decreases-read_items
decreases-read_items g l = left l.levels + 7

abbrev pub decreases-reads : goal.decreases-reads
decreases-reads g l = left l.levels + 8

abbrev pub decreases-write_byte : goal.decreases-write_byte
decreases-write_byte g l = left l.levels + 1

abbrev pub decreases-write_bytes : goal.decreases-write_bytes
decreases-write_bytes g l = left l.levels + 2

abbrev pub decreases-writes_bytes : goal.decreases-writes_bytes
decreases-writes_bytes g l = left l.levels + 3

abbrev pub invariant-read_items-loop-place : goal.invariant-read_items-loop-place
invariant-read_items-loop-place g l =
    let program = program_view l.scene.program.now in
    let slot = slot_view l.slot in
    let type = type_view l.component in
    (failures_of l.self.files ≡ failures_of l.fn.self.files)
    × ((variables : List Variable) (result' : Option PasType) (kinds : Kinds)
    → IsScene l.scene variables result' kinds
    → IsFileSlot program variables slot × All (IsLawfulTarget program variables) (map place_view l.places)
    → All (IsLawfulTarget program variables) (map place_view (drop l.place-index l.places))
    × LeadsTo {T = Unit {0}} kinds Any (λ most. reads_of program most type slot (map place_view l.places))
    (λ most. reads_of program most type slot (map place_view (drop l.place-index l.places))) l.fn.self l.self)

abbrev pub invariant-write_bytes-loop-item : goal.invariant-write_bytes-loop-item
invariant-write_bytes-loop-item g l =
    let program = program_view l.scene.program.now in
    let slot = slot_view l.slot in
    let type = type_view l.component in
    (failures_of l.self.files ≡ failures_of l.fn.self.files)
    × ((variables : List Variable) (result' : Option PasType) (kinds : Kinds)
    → IsScene l.scene variables result' kinds
    → IsFileSlot program variables slot × All (IsLawfulNumber program variables) (map value_view l.items)
    → All (IsLawfulNumber program variables) (map value_view (drop l.item-index l.items))
    × LeadsTo {T = Unit {0}} kinds Any (λ most. bytes_of program most type slot (map value_view l.items))
    (λ most. bytes_of program most type slot (map value_view (drop l.item-index l.items))) l.fn.self l.self)

abbrev pub decreases-width_or : goal.decreases-width_or
decreases-width_or g l = left l.levels + 1

abbrev pub decreases-byte : goal.decreases-byte
decreases-byte g l = left l.levels + 1

abbrev pub decreases-write_number_item : goal.decreases-write_number_item
decreases-write_number_item g l = left l.levels + 2

abbrev pub decreases-write_char_item : goal.decreases-write_char_item
decreases-write_char_item g l = left l.levels + 2

abbrev pub decreases-write_text_item : goal.decreases-write_text_item
decreases-write_text_item g l = left l.levels + 2

abbrev pub decreases-write_item : goal.decreases-write_item
decreases-write_item g l = left l.levels + 3

abbrev pub decreases-write_items : goal.decreases-write_items
decreases-write_items g l = left l.levels + 4

abbrev pub decreases-writes : goal.decreases-writes
decreases-writes g l = left l.levels + 5

abbrev pub decreases-write_line : goal.decreases-write_line
decreases-write_line g l = left l.levels + 5

abbrev pub decreases-writes_line : goal.decreases-writes_line
decreases-writes_line g l = left l.levels + 6

abbrev pub decreases-read_line : goal.decreases-read_line
decreases-read_line g l = left l.levels + 8

abbrev pub decreases-reads_line : goal.decreases-reads_line
decreases-reads_line g l = left l.levels + 9

abbrev pub invariant-write_items-loop-item : goal.invariant-write_items-loop-item
invariant-write_items-loop-item g l =
    let program = program_view l.scene.program.now in
    let slot = slot_view l.slot in
    (failures_of l.self.files ≡ failures_of l.fn.self.files)
    × ((variables : List Variable) (result' : Option PasType) (kinds : Kinds)
    → IsScene l.scene variables result' kinds
    → IsFileSlot program variables slot × All (IsLawfulItem program variables)
    (map (item_view l.scene.program.now.spellings) l.items)
    → All (IsLawfulItem program variables) (map (item_view l.scene.program.now.spellings) (drop l.item-index l.items))
    × LeadsTo {T = Unit {0}} kinds Any (λ most. writes_of program most slot
    (map (item_view l.scene.program.now.spellings) l.items))
    (λ most. writes_of program most slot (map (item_view l.scene.program.now.spellings) (drop l.item-index l.items)))
    l.fn.self l.self)
