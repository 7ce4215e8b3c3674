-- Labels and gotos (ISO 7185, 6.8.1 and 6.8.2.4, in this project's profile).
use Rattle.std.specs.Prelude.{ℕ, ◌==◌, ◌&&◌, nat_lt, Bool, true, false, not, if◌then◌else◌, List, [], ◌∷◌, ◌++◌}
use Rattle.std.specs.Prelude.{Option, Some, None}
use Rattle.std.specs.List.{list_any}
use Rattle.wb_base.specs.declared.faults.TheConstants.{CONSTANT_OUT_OF_RANGE, WRONG_LABEL, WRONG_GOTO}
use Rattle.pas_tokens.specs.Cutting.{Wrong, wrong}
use Rattle.pas_syntax.specs.Tree as tree
use Rattle.pas_syntax.specs.Tree.{Plain, Statement, Statements, Elements, Others}
use Rattle.pas_rules.specs.declared.limits.TheConstants.{GREATEST_LABEL}
use Rattle.pas_rules.specs.Marks.{unless, Judged, means, refuses}
use Rattle.pas_typed.specs.Typed as typed
use Rattle.pas_rules.specs.Scopes.{Outer, Inner, Scopes}

abbrev pub has_label : List ℕ → ℕ → Bool
has_label labels label = list_any (λ other. other == label) labels

-- the labels that stand in a statement, in the order of the text
abbrev mutual
  pub labels_in : Plain → List ℕ
  labels_in (tree.compound begin list end) = labels_in_list list
  labels_in (tree.if_then line e then_line s) = labels_at s
  labels_in (tree.if_else line e then_line s else_line t) = labels_at s ++ labels_at t
  labels_in (tree.case line e of_line elements tail end) = labels_in_elements elements ++ labels_in_others tail
  labels_in (tree.while line e do_line s) = labels_at s
  labels_in (tree.repeat line list until e) = labels_in_list list
  labels_in (tree.for line name becomes first toward last do_line s) = labels_at s
  labels_in other = []

  pub labels_at : Statement → List ℕ
  labels_at (tree.unlabelled s) = labels_in s
  labels_at (tree.labelled numeral colon s) = numeral.value ∷ labels_in s

  pub labels_in_list : Statements → List ℕ
  labels_in_list (tree.first_statement s) = labels_at s
  labels_in_list (tree.more_statements list line s) = labels_in_list list ++ labels_at s

  pub labels_in_elements : Elements → List ℕ
  labels_in_elements (tree.first_element constants colon s) = labels_at s
  labels_in_elements (tree.more_elements elements line constants colon s) =
      labels_in_elements elements ++ labels_at s

  pub labels_in_others : Others → List ℕ
  labels_in_others (tree.others line others_line colon s semicolon) = labels_at s
  labels_in_others other = []

-- the labels on the statements of a list itself
abbrev pub own_label : Statement → List ℕ
own_label (tree.unlabelled s) = []
own_label (tree.labelled numeral colon s) = numeral.value ∷ []

abbrev pub labels_of_list : Statements → List ℕ
labels_of_list (tree.first_statement s) = own_label s
labels_of_list (tree.more_statements list line s) = labels_of_list list ++ own_label s

-- the label of the last statement of a list, if that is empty
abbrev pub label_on_empty : Statement → Option ℕ
label_on_empty (tree.labelled numeral colon tree.empty) = Some numeral.value
label_on_empty s = None

abbrev pub label_at_end : Statements → Option ℕ
label_at_end (tree.first_statement s) = label_on_empty s
label_at_end (tree.more_statements list line s) = label_on_empty s

-- the labels of the block that these scopes are of
abbrev pub labels_of_block : List ℕ → Option Inner → List ℕ
labels_of_block labels None = labels
labels_of_block labels (Some inner) = inner.labels

abbrev pub block_labels : Scopes → List ℕ
block_labels scopes = labels_of_block scopes.outer.labels scopes.inner

-- a label before a statement: it is one of the block's, stands nowhere before, and the statement is one of a list
pub data Spot : Type 0 where
  in_list : Spot
  elsewhere : Spot

abbrev pub is_in_list : Spot → Bool
is_in_list in_list = true
is_in_list elsewhere = false

abbrev pub label_faults : Scopes → Spot → List ℕ → ℕ → List Wrong
label_faults scopes spot before label =
    if nat_lt GREATEST_LABEL label then wrong CONSTANT_OUT_OF_RANGE ∷ []
    else unless (is_in_list spot && has_label (block_labels scopes) label && not (has_label before label))
    (wrong WRONG_LABEL)

-- whether a label is the last one of the program
abbrev pub is_last : Option ℕ → ℕ → Bool
is_last None label = false
is_last (Some last) label = last == label

-- a goto from a block of which a list around it has the label or not
abbrev pub to_list : Bool → ℕ → Judged typed.Statement
to_list true label = means (typed.goto label)
to_list false label = refuses (wrong WRONG_GOTO)

-- a goto to a label of the program from a routine: only the last one can be reached
abbrev pub to_program : Outer → ℕ → Judged typed.Statement
to_program outer label =
    if has_label outer.labels label
    then if is_last outer.last_label label then means (typed.goto_last 1) else refuses (wrong WRONG_GOTO)
    else refuses (wrong WRONG_LABEL)

-- a goto in the main block, and one in a routine, of which the labels hide those of the program
abbrev pub goto_in : Outer → Option Inner → List ℕ → ℕ → Judged typed.Statement
goto_in outer None around label =
    if has_label outer.labels label
    then if is_last outer.last_label label then means (typed.goto_last 0) else to_list (has_label around label) label
    else refuses (wrong WRONG_LABEL)
goto_in outer (Some inner) around label =
    if has_label inner.labels label then to_list (has_label around label) label else to_program outer label

-- the label of a goto; `around` are the labels of the lists around it
abbrev pub goto_of : Scopes → List ℕ → ℕ → Judged typed.Statement
goto_of scopes around label =
    if nat_lt GREATEST_LABEL label then refuses (wrong CONSTANT_OUT_OF_RANGE)
    else goto_in scopes.outer scopes.inner around label
