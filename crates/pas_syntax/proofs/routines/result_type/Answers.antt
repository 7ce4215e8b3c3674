use Rattle.std.proofs.Common.{◌≡◌, ◌∙◌, refl, sym, ap, arith, ℕ, Option, Some, None}
use Rattle.pas_tokens.specs.declared.kinds.Kind.{Kind}
use Rattle.pas_tokens.specs.declared.kinds.Kind.TheVariants as k
use Rattle.pas_tokens.specs.Cutting.{Payload}
use Rattle.pas_syntax.specs.Tree.{Behind, TypeName}
use Rattle.pas_syntax.specs.inner.Prog.{Prog, done, bind, head, run}
use Rattle.pas_syntax.specs.inner.DeclarationReaders.{type_name, result_at}
use Rattle.pas_syntax.proofs.PlaceLemmas.{goes_as, answers, with_more}
use Rattle.pas_syntax.proofs.PlaceSteps.{from_here, looks_at, and_then, stopped, passed, read}
use Rattle.pas_syntax.proofs.routines.result_type.Goals as goal

-- what is made of the name of a type
abbrev made : ℕ → TypeName → Prog (Option (Behind TypeName))
made line type = done (Some (record { line = line; item = type }))

no_type : (kind : Kind) (payload : Payload) (line : ℕ) → (k.Colon ≡ kind → ⊥) → result_at kind payload line ≡ done None
no_type k.Colon payload line not = absurd (not refl)
no_type kind payload line not = refl

pub returns-in_err-item-in-Colon : goal.returns-in_err-item-in-Colon
returns-in_err-item-in-Colon c =
    with_more (omega arith) (looks_at (λ m. result_at) k.Colon tt (sym c.in-Colon.ensures.kind) c.in-Colon.ensures.fits
    (from_here (passed (λ m line. bind type_name (made line)) c.pass-line.ensures
    (stopped (λ m. made c.pass-line.result) c.from_residual.result c.in_err-item-in-Colon.ensures
    c.from_residual.ensures.1))))

pub returns-in_ok-item-in-Colon : goal.returns-in_ok-item-in-Colon
returns-in_ok-item-in-Colon c =
    with_more (omega arith) (looks_at (λ m. result_at) k.Colon tt (sym c.in-Colon.ensures.kind) c.in-Colon.ensures.fits
    (from_here (passed (λ m line. bind type_name (made line)) c.pass-line.ensures
    (and_then (λ m. made c.pass-line.result) c.in_ok-item-in-Colon.ensures (read refl)))))

pub returns-in_default : goal.returns-in_default
returns-in_default c =
    let ts = c.args.reader.now.tokens in
    goes_as (λ m. ap (λ q. run q ts) (no_type (head ts).kind (head ts).payload (head ts).line
    (λ e. c.in_default.not-Colon (c.kind.ensures.kind ∙ sym e)))) (answers refl)
