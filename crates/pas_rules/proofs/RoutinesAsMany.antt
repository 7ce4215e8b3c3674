-- Routines show as many lists of faults as they have words.
use Rattle.std.proofs.Common.{ℕ, arith, List, [], ◌∷◌, ◌++◌, length}
use Rattle.std.proofs.Common.{Option, Some, None}
use Rattle.std.proofs.lemmas.List.{length-append}
use Rattle.std.specs.Prelude.{flat_map, not, nat_lt}
use Rattle.wb_base.specs.declared.faults.TheConstants.{DUPLICATE_NAME, TOO_LARGE, WRONG_TYPE}
use Rattle.pas_tokens.specs.declared.kinds.Kind.TheVariants as k
use Rattle.pas_tokens.specs.Cutting.{Wrong, wrong, spelling}
use Rattle.pas_syntax.specs.Tree as tree
use Rattle.pas_syntax.specs.Tree.{Behind, TypeName, Parameter, Parameters}
use Rattle.pas_syntax.specs.Tree.{Routine}
use Rattle.pas_syntax.specs.Words.{Word, at, says, name_at, words_if, type_name_words, parameter_words}
use Rattle.pas_syntax.specs.Words.{parameters_words, result_words, heading_words, compound_words, body_words}
use Rattle.pas_syntax.specs.Words.{routine_words, labels_words, rows_words}
use Rattle.pas_syntax.specs.Words.{variable_row_words, statements_words}
use Rattle.pas_rules.specs.declared.limits.TheConstants.{ROUTINE_LIMIT}
use Rattle.pas_rules.specs.Marks.{Marks, no_token, shows, quiet, at_first, joined, unless, Judged}
use Rattle.pas_rules.specs.Marks.{noted, checked}
use Rattle.pas_rules.specs.Scopes.{Outer, Inner, names_of, contains, spellings_of, new_names}
use Rattle.pas_rules.specs.TypeForms.{maybe_quiet}
use Rattle.pas_rules.specs.Labels.{labels_of_list}
use Rattle.pas_rules.specs.Statements.{statements_of}
use Rattle.pas_rules.specs.Declarations.{declared_labels, label_marks, taken, local_only, routine_scopes, local_rows}
use Rattle.pas_rules.specs.Declarations.{InnerStage}
use Rattle.pas_typed.specs.Typed.{Statements}
use Rattle.pas_rules.specs.Routines.{mode_of, type_in_heading, Formal, parameter_of, formal_behind, more_formals}
use Rattle.pas_rules.specs.Routines.{no_formals, formals_of, Sort, HeadingParts, head_of}
use Rattle.pas_rules.specs.Routines.{ordinal_result, result_part, missing_result, new_inner, HeadingStage}
use Rattle.pas_rules.specs.Routines.{first_heading, second_heading, more_than_name, awaited, headed_by, headed}
use Rattle.pas_rules.specs.Routines.{label_missing, result_missing, inner_of, with_body, RoutineStage}
use Rattle.pas_rules.specs.Routines.{routine_by, routine_of, routines_of}
use Rattle.pas_rules.specs.HeadingWords.{rest_words, parts_words}
use Rattle.pas_rules.proofs.AsMany.{AsMany, none, one, and_then, all, next_word, around, behind_word}
use Rattle.pas_rules.proofs.AsMany.{between, noted_many, checked_many, maybe_many, new_names_many, at_first_many}
use Rattle.pas_rules.proofs.AsMany.{nothing_behind, regrouped}
use Rattle.pas_rules.proofs.TypesAsMany.{type_named_many, left_out_many}
use Rattle.pas_rules.proofs.StatementsAsMany.{statements_many}
use Rattle.pas_rules.proofs.DeclarationsAsMany.{labels_many, local_rows_many}
use Rattle.pas_typed.specs.Types.{Made}

type_name_many : (outer : Outer) (inner : Inner) (n : ℕ) (found : TypeName)
    → AsMany (type_name_words n found) (type_in_heading outer inner found).marks
type_name_many outer inner n (tree.type_named ident) = type_named_many (routine_scopes outer inner) n ident
type_name_many outer inner n (tree.no_type_name form) = left_out_many n form

-- parameters
pub parameter_many : (outer : Outer) (inner : Inner) (n : ℕ) (parameter : Parameter)
    → AsMany (parameter_words n parameter) (parameter_of outer inner parameter).marks
parameter_many outer inner n (tree.parameters var idents colon found) =
    let demand : Made → List Wrong = local_only inner (mode_of var) (spellings_of idents) in
    let form : Judged Made = type_in_heading outer inner found in
    let names : Marks = new_names (names_of inner.names) idents in
    and_then (maybe_quiet var) (joined (names ∷ quiet ∷ (noted demand form).marks ∷ [])) (maybe_many n k.Var var)
    (around (at n k.Colon colon) names (noted demand form).marks (new_names_many n (names_of inner.names) idents)
    (noted_many demand form (type_name_many outer inner n found)))
parameter_many outer inner n (tree.procedure_parameter line) = one _ []
parameter_many outer inner n (tree.function_parameter line) = one _ []

more_formals_many : (outer : Outer) (n : ℕ) (words : List Word) (before : Formal) (more : List (Behind Parameter))
    → AsMany words before.marks
    → AsMany (words ++ flat_map (λ behind. at n k.Semicolon behind.line ∷ parameter_words n behind.item) more)
    (more_formals outer before more).marks
more_formals_many outer n words before [] h = nothing_behind words before.marks h
more_formals_many outer n words before (behind ∷ more) h =
    regrouped words (at n k.Semicolon behind.line ∷ parameter_words n behind.item)
    (flat_map (λ other. at n k.Semicolon other.line ∷ parameter_words n other.item) more)
    (more_formals outer before (behind ∷ more)).marks
    (more_formals_many outer n (words ++ at n k.Semicolon behind.line ∷ parameter_words n behind.item)
    (formal_behind outer quiet before behind.item) more
    (around (at n k.Semicolon behind.line) before.marks (parameter_of outer before.inner behind.item).marks h
    (parameter_many outer before.inner n behind.item)))

pub formals_many : (outer : Outer) (inner : Inner) (parameters : Option Parameters)
    → AsMany (words_if parameters_words parameters) (formals_of outer inner parameters).marks
formals_many outer inner None = none
formals_many outer inner (Some parameters) =
    let first : Formal = formal_behind outer no_token (no_formals inner) parameters.items.first in
    let one_parameter : Marks = (parameter_of outer inner parameters.items.first).marks in
    between (at 1 k.LeftParenthesis parameters.opened) (at 1 k.RightParenthesis parameters.closed)
    (more_formals outer first parameters.items.more).marks
    (more_formals_many outer 1 (parameter_words 1 parameters.items.first) first parameters.items.more
    (and_then no_token (joined (no_token ∷ one_parameter ∷ [])) none
    (and_then no_token (joined (one_parameter ∷ [])) none
    (all one_parameter (parameter_many outer inner 1 parameters.items.first)))))

-- headings, with the semicolon behind them
pub result_many : (outer : Outer) (inner : Inner) (result : Option (Behind TypeName))
    → AsMany (words_if result_words result) (result_part outer inner result).marks
result_many outer inner None = none
result_many outer inner (Some result) =
    behind_word (at 0 k.Colon result.line) (checked ordinal_result (type_in_heading outer inner result.item)).marks
    (checked_many ordinal_result (type_in_heading outer inner result.item) (type_name_many outer inner 0 result.item))

pub rest_many : (outer : Outer) (inner : Inner) (behind : Inner) (head : HeadingParts) (line : ℕ) (faults : List Wrong)
    → AsMany (rest_words head line) (joined ((formals_of outer inner head.parameters).marks
    ∷ (result_part outer behind head.result).marks ∷ shows faults ∷ []))
rest_many outer inner behind head line faults =
    let formals : Marks = (formals_of outer inner head.parameters).marks in
    let result : Marks = (result_part outer behind head.result).marks in
    and_then formals (joined (result ∷ shows faults ∷ [])) (formals_many outer inner head.parameters)
    (and_then result (joined (shows faults ∷ [])) (result_many outer behind head.result)
    (all (shows faults) (one (at 0 k.Semicolon line) faults)))

first_heading_many : (outer : Outer) (word : Word) (head : HeadingParts) (line : ℕ)
    → AsMany (parts_words word head line) (first_heading outer head).marks
first_heading_many outer word head line =
    let number : ℕ = length outer.routines in
    let formals : Formal = formals_of outer (new_inner number []) head.parameters in
    let result : Marks = (result_part outer formals.inner head.result).marks in
    let missing : Marks = shows (missing_result head.sort head.result) in
    let faults : List Wrong = unless (not (contains (taken outer) head.name.name)) (wrong DUPLICATE_NAME)
    ++ unless (nat_lt number ROUTINE_LIMIT) (wrong TOO_LARGE) in
    next_word word [] (joined (shows faults ∷ formals.marks ∷ result ∷ missing ∷ []))
    (next_word (name_at 0 head.name) faults (joined (formals.marks ∷ result ∷ missing ∷ []))
    (rest_many outer (new_inner number []) formals.inner head line (missing_result head.sort head.result)))

pub second_heading_many : (outer : Outer) (word : Word) (head : HeadingParts) (number line : ℕ)
    → AsMany (parts_words word head line) (second_heading outer head number).marks
second_heading_many outer word head number line =
    let formals : Formal = formals_of outer (new_inner number []) head.parameters in
    let result : Marks = (result_part outer formals.inner head.result).marks in
    let rest : Marks = joined (formals.marks ∷ result ∷ quiet ∷ []) in
    let faults : List Wrong = more_than_name head.parameters head.result in
    next_word word [] (joined (quiet ∷ at_first faults rest ∷ []))
    (next_word (name_at 0 head.name) [] (joined (at_first faults rest ∷ []))
    (all (at_first faults rest)
    (at_first_many faults rest (rest_many outer (new_inner number []) formals.inner head line []))))

headed_by_many : (outer : Outer) (word : Word) (head : HeadingParts) (line : ℕ) (number : Option ℕ)
    → AsMany (parts_words word head line) (headed_by outer head number).marks
headed_by_many outer word head line None = first_heading_many outer word head line
headed_by_many outer word head line (Some number) = second_heading_many outer word head number line

heading_many : (outer : Outer) (heading : tree.Heading) (line : ℕ)
    → AsMany (heading_words heading ++ at 0 k.Semicolon line ∷ []) (headed outer (head_of heading)).marks
heading_many outer (tree.procedure at_line name parameters) line =
    let head : HeadingParts = head_of (tree.procedure at_line name parameters) in
    headed_by_many outer (at 0 k.Procedure at_line) head line (awaited outer head)
heading_many outer (tree.function at_line name parameters result) line =
    let head : HeadingParts = head_of (tree.function at_line name parameters result) in
    let before : List Word = words_if parameters_words parameters in
    let behind : List Word = words_if result_words result in
    let last : List Word = at 0 k.Semicolon line ∷ [] in
    record {
      same = omega (
        arith,
        (headed_by_many outer (at 0 k.Function at_line) head line (awaited outer head)).same,
        length-append before (behind ++ last),
        length-append behind last,
        length-append (before ++ behind) last,
        length-append before behind,
      );
    }

-- blocks
routine_by_many : (found : HeadingStage) (sort : Sort) (body : tree.Body) (head : List Word) (end : ℕ)
    → AsMany head found.marks
    → AsMany (head ++ (body_words body ++ at 0 k.Semicolon end ∷ [])) (routine_by found sort body).marks
routine_by_many found sort (tree.forward line) head end h =
    let faults : List Wrong = unless (not found.is_second) (wrong WRONG_TYPE) in
    and_then found.marks (joined (shows faults ∷ quiet ∷ [])) h
    (next_word (says 0 k.Name (spelling tree.forward_name) line) faults (joined (quiet ∷ []))
    (all quiet (one (at 0 k.Semicolon end) [])))
routine_by_many found sort (tree.block labels variables body) head end h =
    let numbers : List ℕ = declared_labels labels in
    let outer : Outer = record found.outer { routines = with_body found.number found.outer.routines } in
    let local_part : InnerStage = local_rows outer (inner_of outer found.number numbers) variables in
    let behind : Outer = record outer { types = local_part.table } in
    let list : Judged Statements =
    statements_of (routine_scopes behind local_part.inner) (labels_of_list body.list) [] body.list in
    let faults : List Wrong = label_missing numbers body ++ result_missing sort list.value in
    let last : Word = at 0 k.Semicolon end in
    let at_labels : List Word = words_if labels_words labels in
    let at_variables : List Word = words_if (rows_words k.Var variable_row_words) variables in
    let at_list : List Word = statements_words 1 body.list in
    let ended : List Word = at 1 k.End body.end ∷ (last ∷ []) in
    let behind_variables : List Word = at 1 k.Begin body.begin ∷ (at_list ++ ended) in
    let h_all : AsMany (head ++ (at_labels ++ (at_variables ++ behind_variables)))
    (joined (found.marks ∷ label_marks labels ∷ local_part.marks ∷ quiet ∷ list.marks ∷ shows faults ∷ quiet ∷ [])) =
    and_then found.marks
    (joined (label_marks labels ∷ local_part.marks ∷ quiet ∷ list.marks ∷ shows faults ∷ quiet ∷ [])) h
    (and_then (label_marks labels) (joined (local_part.marks ∷ quiet ∷ list.marks ∷ shows faults ∷ quiet ∷ []))
    (labels_many labels)
    (and_then local_part.marks (joined (quiet ∷ list.marks ∷ shows faults ∷ quiet ∷ []))
    (local_rows_many outer (inner_of outer found.number numbers) variables)
    (next_word (at 1 k.Begin body.begin) [] (joined (list.marks ∷ shows faults ∷ quiet ∷ []))
    (and_then list.marks (joined (shows faults ∷ quiet ∷ []))
    (statements_many (routine_scopes behind local_part.inner) 1 (labels_of_list body.list) [] body.list)
    (next_word (at 1 k.End body.end) faults (joined (quiet ∷ [])) (all quiet (one last []))))))) in
    record {
      same = omega (
        arith,
        h_all.same,
        length-append head (at_labels ++ (at_variables ++ behind_variables)),
        length-append at_labels (at_variables ++ behind_variables),
        length-append at_variables behind_variables,
        length-append at_list ended,
        length-append head ((at_labels ++ (at_variables ++ compound_words body)) ++ last ∷ []),
        length-append (at_labels ++ (at_variables ++ compound_words body)) (last ∷ []),
        length-append at_labels (at_variables ++ compound_words body),
        length-append at_variables (compound_words body),
        length-append at_list (at 1 k.End body.end ∷ []),
      );
    }

pub routine_many : (outer : Outer) (found : Routine) → AsMany (routine_words found) (routine_of outer found).marks
routine_many outer found =
    let head : HeadingParts = head_of found.heading in
    let semicolon : List Word = at 0 k.Semicolon found.behind_heading ∷ [] in
    regrouped (heading_words found.heading) semicolon (body_words found.body ++ at 0 k.Semicolon found.end ∷ [])
    (routine_of outer found).marks
    (routine_by_many (headed outer head) head.sort found.body (heading_words found.heading ++ semicolon) found.end
    (heading_many outer found.heading found.behind_heading))

pub routines_many : (outer : Outer) (routines : List Routine)
    → AsMany (flat_map routine_words routines) (routines_of outer routines).marks
routines_many outer [] = none
routines_many outer (first ∷ more) =
    let before : RoutineStage = routine_of outer first in
    let behind : RoutineStage = routines_of before.outer more in
    and_then before.marks (joined (behind.marks ∷ [])) (routine_many outer first)
    (all behind.marks (routines_many before.outer more))
