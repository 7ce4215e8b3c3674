use Rattle.std.proofs.Common.{◌≡◌, ◌∙◌, refl, sym, ap, arith, ℕ, Option, Some, None}
use Rattle.pas_tokens.specs.declared.kinds.Kind.{Kind}
use Rattle.pas_tokens.specs.declared.kinds.Kind.TheVariants as k
use Rattle.pas_tokens.specs.Cutting.{Payload}
use Rattle.pas_syntax.specs.Tree.{Separated, Parameter, Parameters}
use Rattle.pas_syntax.specs.Views.{separated_in}
use Rattle.pas_syntax.specs.ProgramViews.{parameter_in}
use Rattle.pas_syntax.specs.inner.Prog.{Prog, done, bind, head, run}
use Rattle.pas_syntax.specs.inner.Marks.{mark}
use Rattle.pas_syntax.specs.inner.DeclarationReaders.{parameter_list, parameters_at}
use Rattle.pas_syntax.proofs.PlaceLemmas.{goes_as, answers, with_more}
use Rattle.pas_syntax.proofs.PlaceSteps.{from_here, looks_at, and_then, stopped, passed, read}
use Rattle.pas_syntax.proofs.routines.parameters.Goals as goal

-- what is read behind the parameters
abbrev made : ℕ → Separated Parameter → ℕ → Prog (Option Parameters)
made line items closed = done (Some (record { opened = line; items = items; closed = closed }))

abbrev behind_items : ℕ → Separated Parameter → Prog (Option Parameters)
behind_items line items = bind (mark k.RightParenthesis) (made line items)

no_parameters : (most : ℕ) (kind : Kind) (payload : Payload) (line : ℕ) → (k.LeftParenthesis ≡ kind → ⊥)
    → parameters_at most kind payload line ≡ done None
no_parameters most k.LeftParenthesis payload line not = absurd (not refl)
no_parameters most kind payload line not = refl

pub returns-in_err-items-in-LeftParenthesis : goal.returns-in_err-items-in-LeftParenthesis
returns-in_err-items-in-LeftParenthesis c =
    with_more (omega arith) (looks_at parameters_at k.LeftParenthesis tt (sym c.in-LeftParenthesis.ensures.kind)
    c.in-LeftParenthesis.ensures.fits
    (from_here (passed (λ m line. bind (parameter_list m) (behind_items line)) c.pass-opened.ensures
    (stopped (λ m. behind_items c.pass-opened.result) c.from_residual.result
    c.in_err-items-in-LeftParenthesis.ensures c.from_residual.ensures.1))))

pub returns-in_err-closed-in-LeftParenthesis : goal.returns-in_err-closed-in-LeftParenthesis
returns-in_err-closed-in-LeftParenthesis c =
    let items = separated_in (parameter_in c.args.reader.now.spellings) c.in_ok-items-in-LeftParenthesis.items in
    with_more (omega arith) (looks_at parameters_at k.LeftParenthesis tt (sym c.in-LeftParenthesis.ensures.kind)
    c.in-LeftParenthesis.ensures.fits
    (from_here (passed (λ m line. bind (parameter_list m) (behind_items line)) c.pass-opened.ensures
    (and_then (λ m. behind_items c.pass-opened.result) c.in_ok-items-in-LeftParenthesis.ensures
    (stopped (λ m. made c.pass-opened.result items) c.from_residual-in_err-closed-in-LeftParenthesis.result
    c.in_err-closed-in-LeftParenthesis.ensures c.from_residual-in_err-closed-in-LeftParenthesis.ensures.1)))))

pub returns-in_ok-closed-in-LeftParenthesis : goal.returns-in_ok-closed-in-LeftParenthesis
returns-in_ok-closed-in-LeftParenthesis c =
    let items = separated_in (parameter_in c.args.reader.now.spellings) c.in_ok-items-in-LeftParenthesis.items in
    with_more (omega arith) (looks_at parameters_at k.LeftParenthesis tt (sym c.in-LeftParenthesis.ensures.kind)
    c.in-LeftParenthesis.ensures.fits
    (from_here (passed (λ m line. bind (parameter_list m) (behind_items line)) c.pass-opened.ensures
    (and_then (λ m. behind_items c.pass-opened.result) c.in_ok-items-in-LeftParenthesis.ensures
    (and_then (λ m. made c.pass-opened.result items) c.in_ok-closed-in-LeftParenthesis.ensures (read refl))))))

pub returns-in_default : goal.returns-in_default
returns-in_default c =
    let ts = c.args.reader.now.tokens in
    goes_as (λ m. ap (λ q. run q ts) (no_parameters m (head ts).kind (head ts).payload (head ts).line
    (λ e. c.in_default.not-LeftParenthesis (c.kind.ensures.kind ∙ sym e)))) (answers refl)
