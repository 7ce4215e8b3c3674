use Rattle.std.proofs.Common.{◌∙◌, refl, sym, ℕ, Option}
use Rattle.pas_tokens.specs.declared.kinds.Kind.TheVariants as k
use Rattle.pas_syntax.specs.Tree as tree
use Rattle.pas_syntax.specs.Tree.{Idents, TypeName, Parameter}
use Rattle.pas_syntax.specs.Views.{ident_in, separated_in}
use Rattle.pas_syntax.specs.inner.Prog.{Prog, done, bind}
use Rattle.pas_syntax.specs.inner.Marks.{mark}
use Rattle.pas_syntax.specs.inner.TypeReaders.{idents_by}
use Rattle.pas_syntax.specs.inner.DeclarationReaders.{type_name}
use Rattle.pas_syntax.proofs.PlaceLemmas.{goes_as}
use Rattle.pas_syntax.proofs.PlaceSteps.{from_here, and_then, stopped, read}
use Rattle.pas_syntax.proofs.RoutineSteps.{parameter_goes}
use Rattle.pas_syntax.proofs.routines.parameter.Goals as goal

-- what is read behind each part
abbrev made : Option ℕ → Idents → ℕ → TypeName → Prog Parameter
made by_name names colon type = done (tree.parameters by_name names colon type)

abbrev after_colon : Option ℕ → Idents → ℕ → Prog Parameter
after_colon by_name names colon = bind type_name (made by_name names colon)

abbrev after_names : Option ℕ → Idents → Prog Parameter
after_names by_name names = bind (mark k.Colon) (after_colon by_name names)

abbrev after_var : ℕ → Option ℕ → Prog Parameter
after_var m by_name = bind (idents_by m) (after_names by_name)

pub returns-in_err-names-in_default : goal.returns-in_err-names-in_default
returns-in_err-names-in_default c =
    goes_as (λ m. parameter_goes m c.args.reader.now.tokens
    (λ e. c.in_default.not-Procedure (c.kind.ensures.kind ∙ sym e))
    (λ e. c.in_default.not-Function (c.kind.ensures.kind ∙ sym e)))
    (from_here (and_then after_var c.maybe-by_name.ensures
    (stopped (λ m. after_names c.maybe-by_name.result) c.from_residual.result c.in_err-names-in_default.ensures
    c.from_residual.ensures.1)))

pub returns-in_err-colon-in_default : goal.returns-in_err-colon-in_default
returns-in_err-colon-in_default c =
    let names = separated_in (ident_in c.args.reader.now.spellings) c.in_ok-names-in_default.names in
    goes_as (λ m. parameter_goes m c.args.reader.now.tokens
    (λ e. c.in_default.not-Procedure (c.kind.ensures.kind ∙ sym e))
    (λ e. c.in_default.not-Function (c.kind.ensures.kind ∙ sym e)))
    (from_here (and_then after_var c.maybe-by_name.ensures
    (and_then (λ m. after_names c.maybe-by_name.result) c.in_ok-names-in_default.ensures
    (stopped (λ m. after_colon c.maybe-by_name.result names) c.from_residual-in_err-colon-in_default.result
    c.in_err-colon-in_default.ensures c.from_residual-in_err-colon-in_default.ensures.1))))

pub returns-in_err-type_name-in_default : goal.returns-in_err-type_name-in_default
returns-in_err-type_name-in_default c =
    let names = separated_in (ident_in c.args.reader.now.spellings) c.in_ok-names-in_default.names in
    let colon = c.in_ok-colon-in_default.colon in
    goes_as (λ m. parameter_goes m c.args.reader.now.tokens
    (λ e. c.in_default.not-Procedure (c.kind.ensures.kind ∙ sym e))
    (λ e. c.in_default.not-Function (c.kind.ensures.kind ∙ sym e)))
    (from_here (and_then after_var c.maybe-by_name.ensures
    (and_then (λ m. after_names c.maybe-by_name.result) c.in_ok-names-in_default.ensures
    (and_then (λ m. after_colon c.maybe-by_name.result names) c.in_ok-colon-in_default.ensures
    (stopped (λ m. made c.maybe-by_name.result names colon) c.from_residual-in_err-type_name-in_default.result
    c.in_err-type_name-in_default.ensures c.from_residual-in_err-type_name-in_default.ensures.1)))))

pub returns-in_ok-type_name-in_default : goal.returns-in_ok-type_name-in_default
returns-in_ok-type_name-in_default c =
    let names = separated_in (ident_in c.args.reader.now.spellings) c.in_ok-names-in_default.names in
    let colon = c.in_ok-colon-in_default.colon in
    goes_as (λ m. parameter_goes m c.args.reader.now.tokens
    (λ e. c.in_default.not-Procedure (c.kind.ensures.kind ∙ sym e))
    (λ e. c.in_default.not-Function (c.kind.ensures.kind ∙ sym e)))
    (from_here (and_then after_var c.maybe-by_name.ensures
    (and_then (λ m. after_names c.maybe-by_name.result) c.in_ok-names-in_default.ensures
    (and_then (λ m. after_colon c.maybe-by_name.result names) c.in_ok-colon-in_default.ensures
    (and_then (λ m. made c.maybe-by_name.result names colon) c.in_ok-type_name-in_default.ensures (read refl))))))
