-- The faults of a program stand beside its words, and it has a first fault or none shows one.
use Rattle.std.proofs.Common.{◌≡◌, refl, sym, ◌∙◌, ℕ, ◌+◌, arith, List, [], ◌∷◌, ◌++◌, length, map}
use Rattle.std.proofs.Common.{Option, Some, None}
use Rattle.std.specs.Prelude.{not}
use Rattle.std.proofs.lemmas.Option.{none-some}
use Rattle.wb_base.specs.declared.faults.Fault.{Fault}
use Rattle.wb_base.specs.declared.faults.TheConstants.{DUPLICATE_NAME}
use Rattle.pas_tokens.specs.declared.kinds.Kind.TheVariants as k
use Rattle.pas_tokens.specs.Cutting.{Wrong, wrong}
use Rattle.pas_syntax.specs.Tree.{Ident, Idents, Program, ProgramParameters}
use Rattle.pas_syntax.specs.Words.{Word, at, name_at, words_if, idents_words}
use Rattle.pas_syntax.specs.Words.{constant_row_words, type_row_words, variable_row_words}
use Rattle.pas_syntax.specs.Words.{compound_words, statements_words, program_parameters_words, program_words}
use Rattle.pas_rules.specs.Marks.{Marks, shows, quiet, followed, joined, listed, unless, Judged}
use Rattle.pas_typed.specs.Typed.{TypedProgram, Statements}
use Rattle.pas_rules.specs.Scopes.{Outer, contains, idents_of, entity_in}
use Rattle.pas_rules.specs.Labels.{labels_of_list}
use Rattle.pas_rules.specs.Statements.{statements_of}
use Rattle.pas_rules.specs.Declarations.{label_marks, program_scopes, Stage, rows_of, constant_row, type_row}
use Rattle.pas_rules.specs.Declarations.{global_row}
use Rattle.pas_rules.specs.Routines.{label_missing, RoutineStage, routines_of}
use Rattle.pas_rules.specs.Check.{start, parameter_faults, each_parameter, parameter_marks, body_missing, checked_of}
use Rattle.pas_rules.specs.Check.{Means, IsFaultOf}
use Rattle.pas_rules.proofs.AsMany.{AsMany, none, one, and_then, all, next_word, between, total, grouped}
use Rattle.pas_rules.proofs.AsMany.{listed_total, more_idents}
use Rattle.pas_rules.proofs.StatementsAsMany.{statements_many}
use Rattle.pas_rules.proofs.DeclarationsAsMany.{labels_many, rows_many, constant_row_many, type_row_many}
use Rattle.pas_rules.proofs.DeclarationsAsMany.{global_row_many}
use Rattle.pas_rules.proofs.RoutinesAsMany.{routines_many}

parameters_total : (outer : Outer) (before : List (List ℕ)) (idents : List Ident)
    → total (each_parameter outer before idents) ≡ length idents + length idents
parameters_total outer before [] = refl
parameters_total outer before (ident ∷ idents) =
    omega (arith, parameters_total outer (before ++ ident.name ∷ []) idents)

names_many : (outer : Outer) (names : Idents)
    → AsMany (idents_words 1 names) (listed (each_parameter outer [] (idents_of names)))
names_many outer names =
    let others : List Ident = map (λ behind. behind.item) names.more in
    let faults : List Wrong = unless (not (contains [] names.first.name)) (wrong DUPLICATE_NAME)
    ++ parameter_faults outer.types (entity_in outer.names names.first.name) in
    record {
      same = omega (
        arith,
        listed_total (shows faults) (each_parameter outer (names.first.name ∷ []) others),
        parameters_total outer (names.first.name ∷ []) others,
        more_idents 1 names.more,
      );
    }

pub parameters_many : (outer : Outer) (parameters : Option ProgramParameters)
    → AsMany (words_if program_parameters_words parameters) (parameter_marks outer parameters)
parameters_many outer None = none
parameters_many outer (Some parameters) =
    between (at 1 k.LeftParenthesis parameters.opened) (at 1 k.RightParenthesis parameters.closed)
    (listed (each_parameter outer [] (idents_of parameters.names))) (names_many outer parameters.names)

-- each token of a program has its list of faults
pub program_many : (program : Program) → AsMany (program_words program) (checked_of program).marks
unfolding checked_of program_words
program_many program =
    let constants : Stage = rows_of constant_row (start program) program.constants in
    let types : Stage = rows_of type_row constants.outer program.types in
    let variables : Stage = rows_of global_row types.outer program.variables in
    let routines : RoutineStage = routines_of variables.outer program.routines in
    let outer : Outer = routines.outer in
    let list : Judged Statements =
    statements_of (program_scopes outer) (labels_of_list program.body.list) [] program.body.list in
    let faults : List Wrong = body_missing outer.routines ++ label_missing outer.labels program.body in
    let last : List Word = at 0 k.Dot program.dot ∷ (at 0 k.EndOfText program.end ∷ []) in
    let ended : Marks = joined (shows faults ∷ quiet ∷ quiet ∷ []) in
    let at_list : List Word = statements_words 1 program.body.list in
    let compound : AsMany (compound_words program.body ++ last)
    (joined (quiet ∷ list.marks ∷ shows faults ∷ quiet ∷ quiet ∷ [])) =
    next_word (at 1 k.Begin program.body.begin) [] (followed list.marks ended)
    (grouped at_list (at 1 k.End program.body.end ∷ []) last (followed list.marks ended)
    (and_then list.marks ended
    (statements_many (program_scopes outer) 1 (labels_of_list program.body.list) [] program.body.list)
    (next_word (at 1 k.End program.body.end) faults (joined (quiet ∷ quiet ∷ []))
    (next_word (at 0 k.Dot program.dot) [] (joined (quiet ∷ []))
    (all quiet (one (at 0 k.EndOfText program.end) [])))))) in
    next_word (at 0 k.Program program.line) [] _
    (next_word (name_at 0 program.name) [] _
    (and_then (parameter_marks outer program.parameters) _ (parameters_many outer program.parameters)
    (next_word (at 0 k.Semicolon program.behind_heading) [] _
    (and_then (label_marks program.labels) _ (labels_many program.labels)
    (and_then constants.marks _ (rows_many k.Const constant_row_words constant_row constant_row_many (start program)
    program.constants)
    (and_then types.marks _ (rows_many k.Type type_row_words type_row type_row_many constants.outer program.types)
    (and_then variables.marks _ (rows_many k.Var variable_row_words global_row global_row_many types.outer
    program.variables)
    (and_then routines.marks _ (routines_many variables.outer program.routines) compound))))))))

-- no program has both a meaning and a fault
pub not_both : (program : Program) (meaning : TypedProgram) (fault : Fault) → Means program meaning
    → IsFaultOf program fault → ⊥
not_both program meaning fault means is = none-some fault (sym means.0 ∙ is)
