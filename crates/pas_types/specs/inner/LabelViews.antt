-- What is known of the labels of a block at a place in it.
use Rattle.std.specs.Prelude.{ℕ, ◌==◌, ◌&&◌, ◌||◌, ◌+◌, ◌-◌, nat_lt, nat_eq, Bool, false, not, if◌then◌else◌}
use Rattle.std.specs.Prelude.{List, [], ◌∷◌, map, Option, Some, None}
use Rattle.std.specs.List.{list_all}
use Rattle.std.specs.Map.{lookup}
use Rattle.wb_base.specs.declared.faults.TheConstants.{CONSTANT_OUT_OF_RANGE, WRONG_LABEL, WRONG_GOTO}
use Rattle.pas_tokens.specs.Cutting.{Wrong, wrong}
use Rattle.pas_rules.specs.declared.limits.TheConstants.{GREATEST_LABEL}
use Rattle.pas_types.specs.declared.labels.Label.{Label}
use Rattle.pas_types.specs.declared.labels.Spot.{Spot as CodeSpot}
use Rattle.pas_types.specs.declared.labels.Spot.TheVariants as code
use Rattle.pas_types.specs.declared.labels.Goto.{Goto}
use Rattle.pas_types.specs.declared.labels.Goto.TheVariants as goto
use Rattle.pas_typed.specs.Typed as typed
use Rattle.pas_rules.specs.Marks.{unless, Judged, means, refuses}
use Rattle.pas_rules.specs.Labels.{has_label, Spot, in_list, elsewhere, is_in_list, is_last, to_list}

abbrev pub spot_in : CodeSpot → Spot
spot_in code.InList = in_list
spot_in code.Elsewhere = elsewhere

-- labels, each with what is known of it
abbrev pub Known : Type 0
Known = List (ℕ × Label)

abbrev pub numbers_of : Known → List ℕ
numbers_of labels = map (λ known. known.0) labels

-- how often a label is among others
abbrev pub times : ℕ → List ℕ → ℕ
times label [] = 0
times label (other ∷ labels) = (if other == label then 1 else 0) + times label labels

-- the labels of a block, where these stand before, and those are of the lists around
abbrev pub label_at : List ℕ → List ℕ → ℕ → Label
label_at before around label = record { stands = has_label before label; around = times label around }

abbrev pub known_labels : List ℕ → List ℕ → List ℕ → Known
known_labels declared before around = map (λ label. (label, label_at before around label)) declared

-- what is known becomes this of a label
abbrev pub changed_at : ℕ → (Label → Label) → Known → Known
changed_at label change labels = map (λ known. if label == known.0 then (known.0, change known.1) else known) labels

abbrev pub put_label : ℕ → Label → Known → Known
put_label label found labels = changed_at label (λ other. found) labels

-- the same within lists with these labels, and behind them
abbrev pub entered : List ℕ → Known → Known
entered lists labels =
    map (λ known. (known.0, record { stands = known.1.stands; around = known.1.around + times known.0 lists })) labels

abbrev pub left : List ℕ → Known → Known
left lists labels =
    map (λ known. (known.0, record { stands = known.1.stands; around = known.1.around - times known.0 lists })) labels

-- the same behind a label
abbrev pub stood : ℕ → Known → Known
stood label labels =
    map (λ known. (known.0, record { stands = known.1.stands || label == known.0; around = known.1.around })) labels

-- whether a label is declared and stands nowhere before, is in a list around, and whether all stand
abbrev pub is_free : Option Label → Bool
is_free None = false
is_free (Some found) = not found.stands

abbrev pub is_within : Option Label → Bool
is_within None = false
is_within (Some found) = nat_lt 0 found.around

abbrev pub may_stand : Known → ℕ → Bool
may_stand labels label = is_free (lookup (nat_eq label) labels)

abbrev pub is_around_in : Known → ℕ → Bool
is_around_in labels label = is_within (lookup (nat_eq label) labels)

abbrev pub all_stand_in : Known → Bool
all_stand_in labels = list_all (λ found. found.stands) (map (λ known. known.1) labels)

-- the faults of a label before a statement
abbrev pub standing_faults : Known → Spot → ℕ → List Wrong
standing_faults labels spot label =
    if nat_lt GREATEST_LABEL label then wrong CONSTANT_OUT_OF_RANGE ∷ []
    else unless (is_in_list spot && may_stand labels label) (wrong WRONG_LABEL)

-- a goto as the definition has it
abbrev pub goto_in : Goto → typed.Statement
goto_in (goto.Label label) = typed.goto label
goto_in (goto.Last status) = typed.goto_last status

-- a goto in the main block, one from a routine to the program, and one in either, by what is known of the labels
abbrev pub main_by : Known → Option ℕ → ℕ → Judged typed.Statement
main_by program last label =
    if has_label (numbers_of program) label
    then if is_last last label then means (typed.goto_last 0) else to_list (is_around_in program label) label
    else refuses (wrong WRONG_LABEL)

abbrev pub program_by : Known → Option ℕ → ℕ → Judged typed.Statement
program_by program last label =
    if has_label (numbers_of program) label
    then if is_last last label then means (typed.goto_last 1) else refuses (wrong WRONG_GOTO)
    else refuses (wrong WRONG_LABEL)

abbrev pub block_by : Known → Option ℕ → Option Known → ℕ → Judged typed.Statement
block_by program last None label = main_by program last label
block_by program last (Some routine) label =
    if has_label (numbers_of routine) label then to_list (is_around_in routine label) label
    else program_by program last label

abbrev pub goto_by : Known → Option ℕ → Option Known → ℕ → Judged typed.Statement
goto_by program last routine label =
    if nat_lt GREATEST_LABEL label then refuses (wrong CONSTANT_OUT_OF_RANGE)
    else block_by program last routine label
