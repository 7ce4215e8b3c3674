use Rattle.std.proofs.Common.{◌≡◌, ◌∙◌, refl, sym, ap, arith, ℕ, Option, Some, None}
use Rattle.pas_tokens.specs.declared.kinds.Kind.{Kind}
use Rattle.pas_tokens.specs.declared.kinds.Kind.TheVariants as k
use Rattle.pas_tokens.specs.Cutting.{Payload}
use Rattle.pas_syntax.specs.Tree.{Separated, Numeral, Labels}
use Rattle.pas_syntax.specs.Views.{numeral_in, separated_in}
use Rattle.pas_syntax.specs.inner.Prog.{Prog, done, bind, head, run}
use Rattle.pas_syntax.specs.inner.Marks.{mark}
use Rattle.pas_syntax.specs.inner.TypeReaders.{items_by}
use Rattle.pas_syntax.specs.inner.StatementReaders.{numeral}
use Rattle.pas_syntax.specs.inner.DeclarationReaders.{labels_at}
use Rattle.pas_syntax.proofs.PlaceLemmas.{goes_as, answers, with_more}
use Rattle.pas_syntax.proofs.PlaceSteps.{from_here, looks_at, and_then, stopped, passed, read}
use Rattle.pas_syntax.proofs.declarations.labels.Goals as goal

-- what is read behind the numbers
abbrev made : ℕ → Separated Numeral → ℕ → Prog (Option Labels)
made line numbers end = done (Some (record { line = line; numbers = numbers; end = end }))

abbrev behind_numbers : ℕ → Separated Numeral → Prog (Option Labels)
behind_numbers line numbers = bind (mark k.Semicolon) (made line numbers)

no_labels : (most : ℕ) (kind : Kind) (payload : Payload) (line : ℕ) → (k.Label ≡ kind → ⊥)
    → labels_at most kind payload line ≡ done None
no_labels most k.Label payload line not = absurd (not refl)
no_labels most kind payload line not = refl

pub returns-in_err-numbers-in-Label : goal.returns-in_err-numbers-in-Label
returns-in_err-numbers-in-Label c =
    with_more (omega arith) (looks_at labels_at k.Label tt (sym c.in-Label.ensures.kind) c.in-Label.ensures.fits
    (from_here (passed (λ m line. bind (items_by numeral m) (behind_numbers line)) c.pass-line.ensures
    (stopped (λ m. behind_numbers c.pass-line.result) c.from_residual.result c.in_err-numbers-in-Label.ensures
    c.from_residual.ensures.1))))

pub returns-in_err-end-in-Label : goal.returns-in_err-end-in-Label
returns-in_err-end-in-Label c =
    let numbers = separated_in numeral_in c.in_ok-numbers-in-Label.numbers in
    with_more (omega arith) (looks_at labels_at k.Label tt (sym c.in-Label.ensures.kind) c.in-Label.ensures.fits
    (from_here (passed (λ m line. bind (items_by numeral m) (behind_numbers line)) c.pass-line.ensures
    (and_then (λ m. behind_numbers c.pass-line.result) c.in_ok-numbers-in-Label.ensures
    (stopped (λ m. made c.pass-line.result numbers) c.from_residual-in_err-end-in-Label.result
    c.in_err-end-in-Label.ensures c.from_residual-in_err-end-in-Label.ensures.1)))))

pub returns-in_ok-end-in-Label : goal.returns-in_ok-end-in-Label
returns-in_ok-end-in-Label c =
    let numbers = separated_in numeral_in c.in_ok-numbers-in-Label.numbers in
    with_more (omega arith) (looks_at labels_at k.Label tt (sym c.in-Label.ensures.kind) c.in-Label.ensures.fits
    (from_here (passed (λ m line. bind (items_by numeral m) (behind_numbers line)) c.pass-line.ensures
    (and_then (λ m. behind_numbers c.pass-line.result) c.in_ok-numbers-in-Label.ensures
    (and_then (λ m. made c.pass-line.result numbers) c.in_ok-end-in-Label.ensures (read refl))))))

pub returns-in_default : goal.returns-in_default
returns-in_default c =
    let ts = c.args.reader.now.tokens in
    goes_as (λ m. ap (λ q. run q ts) (no_labels m (head ts).kind (head ts).payload (head ts).line
    (λ e. c.in_default.not-Label (c.kind.ensures.kind ∙ sym e)))) (answers refl)
