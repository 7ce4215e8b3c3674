use Rattle.std.proofs.Common.{refl, ℕ, Option}
use Rattle.std.proofs.lemmas.Result.{err_from_is_err_and}
use Rattle.pas_tokens.specs.declared.kinds.Kind.TheVariants as k
use Rattle.pas_syntax.specs.Tree.{Ident, ProgramParameters}
use Rattle.pas_syntax.specs.Views.{ident_in, if_there}
use Rattle.pas_syntax.specs.ProgramViews.{program_parameters_in}
use Rattle.pas_syntax.specs.inner.Readers.{ident}
use Rattle.pas_syntax.specs.inner.DeclarationReaders.{ProgramHead, program_parameters}
use Rattle.pas_syntax.specs.inner.Prog.{Prog, done, bind}
use Rattle.pas_syntax.specs.inner.Marks.{mark}
use Rattle.pas_syntax.proofs.PlaceLemmas.{returned, stops}
use Rattle.pas_syntax.proofs.PlaceSteps.{from_here, and_then, stopped, read}
use Rattle.pas_syntax.proofs.programs.program_head.Goals as goal

-- what is read behind each part
abbrev made : ℕ → Ident → Option ProgramParameters → ℕ → Prog ProgramHead
made line name parameters end = done (record { line = line; name = name; parameters = parameters; end = end })

abbrev after_parameters : ℕ → Ident → ℕ → Option ProgramParameters → Prog ProgramHead
after_parameters line name m parameters = bind (mark k.Semicolon) (made line name parameters)

abbrev after_name : ℕ → ℕ → Ident → Prog ProgramHead
after_name line m name = bind (program_parameters m) (after_parameters line name m)

abbrev after_line : ℕ → ℕ → Prog ProgramHead
after_line m line = bind (ident) (after_name line m)

pub returns-in_err-line : goal.returns-in_err-line
returns-in_err-line c =
    returned (err_from_is_err_and _ c.from_residual.ensures.1)
    (stops after_line c.in_err-line.ensures)

pub returns-in_err-name : goal.returns-in_err-name
returns-in_err-name c =
    let line = c.in_ok-line.line in
    from_here (and_then after_line c.in_ok-line.ensures
    (stopped (after_name line) c.from_residual-in_err-name.result c.in_err-name.ensures
    c.from_residual-in_err-name.ensures.1))

pub returns-in_err-parameters : goal.returns-in_err-parameters
returns-in_err-parameters c =
    let s = c.args.reader.now.spellings in
    let line = c.in_ok-line.line in
    let name = ident_in s c.in_ok-name.name in
    from_here (and_then after_line c.in_ok-line.ensures
    (and_then (after_name line) c.in_ok-name.ensures
    (stopped (after_parameters line name) c.from_residual-in_err-parameters.result c.in_err-parameters.ensures
    c.from_residual-in_err-parameters.ensures.1)))

pub returns-in_err-end : goal.returns-in_err-end
returns-in_err-end c =
    let s = c.args.reader.now.spellings in
    let line = c.in_ok-line.line in
    let name = ident_in s c.in_ok-name.name in
    let parameters = if_there (program_parameters_in s) c.in_ok-parameters.parameters in
    from_here (and_then after_line c.in_ok-line.ensures
    (and_then (after_name line) c.in_ok-name.ensures
    (and_then (after_parameters line name) c.in_ok-parameters.ensures
    (stopped (λ m. made line name parameters) c.from_residual-in_err-end.result c.in_err-end.ensures
    c.from_residual-in_err-end.ensures.1))))

pub returns : goal.returns
returns c =
    let s = c.args.reader.now.spellings in
    let line = c.in_ok-line.line in
    let name = ident_in s c.in_ok-name.name in
    let parameters = if_there (program_parameters_in s) c.in_ok-parameters.parameters in
    from_here (and_then after_line c.in_ok-line.ensures
    (and_then (after_name line) c.in_ok-name.ensures
    (and_then (after_parameters line name) c.in_ok-parameters.ensures
    (and_then (λ m. made line name parameters) c.in_ok-end.ensures
    (read refl)))))
