use Rattle.std.proofs.Common.{◌≡◌, ◌∙◌, refl, sym, ap, arith, ℕ, Option, Some, None}
use Rattle.pas_tokens.specs.declared.kinds.Kind.{Kind}
use Rattle.pas_tokens.specs.declared.kinds.Kind.TheVariants as k
use Rattle.pas_tokens.specs.Cutting.{Payload}
use Rattle.pas_syntax.specs.Tree.{Idents, ProgramParameters}
use Rattle.pas_syntax.specs.Views.{separated_in}
use Rattle.pas_syntax.specs.Views.{ident_in}
use Rattle.pas_syntax.specs.inner.Prog.{Prog, done, bind, head, run}
use Rattle.pas_syntax.specs.inner.Marks.{mark}
use Rattle.pas_syntax.specs.inner.DeclarationReaders.{program_parameters_at}
use Rattle.pas_syntax.specs.inner.TypeReaders.{idents_by}
use Rattle.pas_syntax.proofs.PlaceLemmas.{goes_as, answers, with_more}
use Rattle.pas_syntax.proofs.PlaceSteps.{from_here, looks_at, and_then, stopped, passed, read}
use Rattle.pas_syntax.proofs.programs.program_parameters.Goals as goal

-- what is read behind the names
abbrev made : ℕ → Idents → ℕ → Prog (Option ProgramParameters)
made line names closed = done (Some (record { opened = line; names = names; closed = closed }))

abbrev behind_names : ℕ → Idents → Prog (Option ProgramParameters)
behind_names line names = bind (mark k.RightParenthesis) (made line names)

no_parameters : (most : ℕ) (kind : Kind) (payload : Payload) (line : ℕ) → (k.LeftParenthesis ≡ kind → ⊥)
    → program_parameters_at most kind payload line ≡ done None
no_parameters most k.LeftParenthesis payload line not = absurd (not refl)
no_parameters most kind payload line not = refl

pub returns-in_err-names-in-LeftParenthesis : goal.returns-in_err-names-in-LeftParenthesis
returns-in_err-names-in-LeftParenthesis c =
    with_more (omega arith) (looks_at program_parameters_at k.LeftParenthesis tt (sym c.in-LeftParenthesis.ensures.kind)
    c.in-LeftParenthesis.ensures.fits
    (from_here (passed (λ m line. bind (idents_by m) (behind_names line)) c.pass-opened.ensures
    (stopped (λ m. behind_names c.pass-opened.result) c.from_residual.result
    c.in_err-names-in-LeftParenthesis.ensures c.from_residual.ensures.1))))

pub returns-in_err-closed-in-LeftParenthesis : goal.returns-in_err-closed-in-LeftParenthesis
returns-in_err-closed-in-LeftParenthesis c =
    let names = separated_in (ident_in c.args.reader.now.spellings) c.in_ok-names-in-LeftParenthesis.names in
    with_more (omega arith) (looks_at program_parameters_at k.LeftParenthesis tt (sym c.in-LeftParenthesis.ensures.kind)
    c.in-LeftParenthesis.ensures.fits
    (from_here (passed (λ m line. bind (idents_by m) (behind_names line)) c.pass-opened.ensures
    (and_then (λ m. behind_names c.pass-opened.result) c.in_ok-names-in-LeftParenthesis.ensures
    (stopped (λ m. made c.pass-opened.result names) c.from_residual-in_err-closed-in-LeftParenthesis.result
    c.in_err-closed-in-LeftParenthesis.ensures c.from_residual-in_err-closed-in-LeftParenthesis.ensures.1)))))

pub returns-in_ok-closed-in-LeftParenthesis : goal.returns-in_ok-closed-in-LeftParenthesis
returns-in_ok-closed-in-LeftParenthesis c =
    let names = separated_in (ident_in c.args.reader.now.spellings) c.in_ok-names-in-LeftParenthesis.names in
    with_more (omega arith) (looks_at program_parameters_at k.LeftParenthesis tt (sym c.in-LeftParenthesis.ensures.kind)
    c.in-LeftParenthesis.ensures.fits
    (from_here (passed (λ m line. bind (idents_by m) (behind_names line)) c.pass-opened.ensures
    (and_then (λ m. behind_names c.pass-opened.result) c.in_ok-names-in-LeftParenthesis.ensures
    (and_then (λ m. made c.pass-opened.result names) c.in_ok-closed-in-LeftParenthesis.ensures (read refl))))))

pub returns-in_default : goal.returns-in_default
returns-in_default c =
    let ts = c.args.reader.now.tokens in
    goes_as (λ m. ap (λ q. run q ts) (no_parameters m (head ts).kind (head ts).payload (head ts).line
    (λ e. c.in_default.not-LeftParenthesis (c.kind.ensures.kind ∙ sym e)))) (answers refl)
