use Rattle.std.proofs.Common.{◌∙◌, refl, sym, arith, ℕ, Option}
use Rattle.pas_tokens.specs.declared.kinds.Kind.TheVariants as k
use Rattle.pas_syntax.specs.Tree as tree
use Rattle.pas_syntax.specs.Tree.{Ident, Behind, TypeName, Parameters, Heading}
use Rattle.pas_syntax.specs.Views.{ident_in, if_there}
use Rattle.pas_syntax.specs.ProgramViews.{parameters_in}
use Rattle.pas_syntax.specs.inner.Prog.{Prog, done, bind}
use Rattle.pas_syntax.specs.inner.DeclarationReaders.{parameters, result_type, procedure_behind, function_behind}
use Rattle.pas_syntax.specs.inner.DeclarationViews.{heading_at}
use Rattle.pas_syntax.proofs.PlaceLemmas.{goes_as, with_more}
use Rattle.pas_syntax.proofs.PlaceSteps.{from_here, looks_at, and_then, stopped, passed, read}
use Rattle.pas_syntax.proofs.RoutineSteps.{function_goes}
use Rattle.pas_syntax.proofs.routines.heading.Goals as goal

-- what is read behind each part
abbrev procedure_made : ℕ → Ident → Option Parameters → Prog Heading
procedure_made line name all = done (tree.procedure line name all)

abbrev after_procedure : ℕ → ℕ → Ident → Prog Heading
after_procedure line m name = bind (parameters m) (procedure_made line name)

abbrev function_made : ℕ → Ident → Option Parameters → Option (Behind TypeName) → Prog Heading
function_made line name all type = done (tree.function line name all type)

abbrev after_parameters : ℕ → Ident → Option Parameters → Prog Heading
after_parameters line name all = bind result_type (function_made line name all)

abbrev after_function : ℕ → ℕ → Ident → Prog Heading
after_function line m name = bind (parameters m) (after_parameters line name)

pub returns-in_err-name-in-Procedure : goal.returns-in_err-name-in-Procedure
returns-in_err-name-in-Procedure c =
    with_more (omega arith) (looks_at heading_at k.Procedure tt (sym c.in-Procedure.ensures.kind)
    c.in-Procedure.ensures.fits
    (from_here (passed procedure_behind c.pass-line.ensures
    (stopped (after_procedure c.pass-line.result) c.from_residual.result c.in_err-name-in-Procedure.ensures
    c.from_residual.ensures.1))))

pub returns-in_err-parameters-in-Procedure : goal.returns-in_err-parameters-in-Procedure
returns-in_err-parameters-in-Procedure c =
    let name = ident_in c.args.reader.now.spellings c.in_ok-name-in-Procedure.name in
    with_more (omega arith) (looks_at heading_at k.Procedure tt (sym c.in-Procedure.ensures.kind)
    c.in-Procedure.ensures.fits
    (from_here (passed procedure_behind c.pass-line.ensures
    (and_then (after_procedure c.pass-line.result) c.in_ok-name-in-Procedure.ensures
    (stopped (λ m. procedure_made c.pass-line.result name) c.from_residual-in_err-parameters-in-Procedure.result
    c.in_err-parameters-in-Procedure.ensures c.from_residual-in_err-parameters-in-Procedure.ensures.1)))))

pub returns-in_ok-parameters-in-Procedure : goal.returns-in_ok-parameters-in-Procedure
returns-in_ok-parameters-in-Procedure c =
    let name = ident_in c.args.reader.now.spellings c.in_ok-name-in-Procedure.name in
    with_more (omega arith) (looks_at heading_at k.Procedure tt (sym c.in-Procedure.ensures.kind)
    c.in-Procedure.ensures.fits
    (from_here (passed procedure_behind c.pass-line.ensures
    (and_then (after_procedure c.pass-line.result) c.in_ok-name-in-Procedure.ensures
    (and_then (λ m. procedure_made c.pass-line.result name) c.in_ok-parameters-in-Procedure.ensures (read refl))))))

pub returns-in_err-line-in_default : goal.returns-in_err-line-in_default
returns-in_err-line-in_default c =
    goes_as (λ m. function_goes m c.args.reader.now.tokens
    (λ e. c.in_default.not-Procedure (c.kind.ensures.kind ∙ sym e)))
    (from_here (stopped function_behind c.from_residual-in_err-line-in_default.result
    c.in_err-line-in_default.ensures c.from_residual-in_err-line-in_default.ensures.1))

pub returns-in_err-name-in_default : goal.returns-in_err-name-in_default
returns-in_err-name-in_default c =
    goes_as (λ m. function_goes m c.args.reader.now.tokens
    (λ e. c.in_default.not-Procedure (c.kind.ensures.kind ∙ sym e)))
    (from_here (and_then function_behind c.in_ok-line-in_default.ensures
    (stopped (after_function c.in_ok-line-in_default.line) c.from_residual-in_err-name-in_default.result
    c.in_err-name-in_default.ensures c.from_residual-in_err-name-in_default.ensures.1)))

pub returns-in_err-parameters-in_default : goal.returns-in_err-parameters-in_default
returns-in_err-parameters-in_default c =
    let s = c.args.reader.now.spellings in
    let line = c.in_ok-line-in_default.line in
    let name = ident_in s c.in_ok-name-in_default.name in
    goes_as (λ m. function_goes m c.args.reader.now.tokens
    (λ e. c.in_default.not-Procedure (c.kind.ensures.kind ∙ sym e)))
    (from_here (and_then function_behind c.in_ok-line-in_default.ensures
    (and_then (after_function line) c.in_ok-name-in_default.ensures
    (stopped (λ m. after_parameters line name) c.from_residual-in_err-parameters-in_default.result
    c.in_err-parameters-in_default.ensures c.from_residual-in_err-parameters-in_default.ensures.1))))

pub returns-in_err-result_type-in_default : goal.returns-in_err-result_type-in_default
returns-in_err-result_type-in_default c =
    let s = c.args.reader.now.spellings in
    let line = c.in_ok-line-in_default.line in
    let name = ident_in s c.in_ok-name-in_default.name in
    let all = if_there (parameters_in s) c.in_ok-parameters-in_default.parameters in
    goes_as (λ m. function_goes m c.args.reader.now.tokens
    (λ e. c.in_default.not-Procedure (c.kind.ensures.kind ∙ sym e)))
    (from_here (and_then function_behind c.in_ok-line-in_default.ensures
    (and_then (after_function line) c.in_ok-name-in_default.ensures
    (and_then (λ m. after_parameters line name) c.in_ok-parameters-in_default.ensures
    (stopped (λ m. function_made line name all) c.from_residual-in_err-result_type-in_default.result
    c.in_err-result_type-in_default.ensures c.from_residual-in_err-result_type-in_default.ensures.1)))))

pub returns-in_ok-result_type-in_default : goal.returns-in_ok-result_type-in_default
returns-in_ok-result_type-in_default c =
    let s = c.args.reader.now.spellings in
    let line = c.in_ok-line-in_default.line in
    let name = ident_in s c.in_ok-name-in_default.name in
    let all = if_there (parameters_in s) c.in_ok-parameters-in_default.parameters in
    goes_as (λ m. function_goes m c.args.reader.now.tokens
    (λ e. c.in_default.not-Procedure (c.kind.ensures.kind ∙ sym e)))
    (from_here (and_then function_behind c.in_ok-line-in_default.ensures
    (and_then (after_function line) c.in_ok-name-in_default.ensures
    (and_then (λ m. after_parameters line name) c.in_ok-parameters-in_default.ensures
    (and_then (λ m. function_made line name all) c.in_ok-result_type-in_default.ensures (read refl))))))
