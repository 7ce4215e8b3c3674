use Rattle.std.proofs.Common.{◌≡◌, ℕ, ◌∷◌, List, map, All, Option, Err, arith}
use Rattle.std.proofs.Common.{subst, ◌∙◌}
use Rattle.std.proofs.lemmas.List.Elements.{All-head}
use Rattle.std.proofs.lemmas.Result.{err_from_is_err_and}
use Rattle.wb_base.specs.declared.faults.TheConstants.{LINE_NOT_CUT}
use Rattle.tangle_out.specs.Folder.{IsShort}
use Rattle.tangle_out.specs.declared.pieces.OutPiece.{OutPiece}
use Rattle.tangle_out.specs.declared.pieces.OutErr.TheVariants.{Fault, Failed}
use Rattle.tangle_out.specs.Pieces.{Piece, piece_of}
use Rattle.tangle_out.specs.Packer.{PackerState}
use Rattle.tangle_core.specs.inner.Emitting.{Packs}
use Rattle.tangle_core.proofs.LinedLemmas.{finished-few}
use Rattle.tangle_core.proofs.EmittingLemmas.{Packs-piece, Packs-fault, Packs-failed, Packs-end, if_fault}
use Rattle.tangle_core.proofs.output.pack.Goals as goal

pub push-requires-clause-short : goal.push-requires-clause-short
push-requires-clause-short g c =
    let is = c.in-Some.ensures.steps in
    let short : All IsShort (map piece_of (c.in-Some.piece ∷ c.next.new.self)) =
    subst (λ (l : List OutPiece). All IsShort (map piece_of l)) is c.loop-piece.invariant.0.short in
    (All-head IsShort _ _ short).short

pub push-requires-clause-countable : goal.push-requires-clause-countable
push-requires-clause-countable g c =
    let count = c.loop-piece.invariant.0.can_count in
    omega (arith, finished-few c.loop-piece.packer count.pieces count.stands, count.few)

-- what is known where a piece is next
packs_next : (whole : List Piece) (first packer : PackerState) (first_held held : Option (List ℕ))
    (left rest : List OutPiece) (piece : OutPiece) → Packs whole first first_held packer (map piece_of left) held
    → left ≡ piece ∷ rest → Packs whole first first_held packer (piece_of piece ∷ map piece_of rest) held
packs_next whole first packer first_held held left rest piece packs is =
    subst (λ (l : List OutPiece). Packs whole first first_held packer (map piece_of l) held) is packs

pub loop-piece-preserved : goal.loop-piece-preserved
loop-piece-preserved g c =
    let packs = packs_next _ _ _ _ _ _ _ _ c.loop-piece.invariant.0 c.in-Some.ensures.steps in (
      Packs-piece _ _ _ _ _ _ _ _ _ packs c.in_ok-push.ensures.gained c.in_ok-push.ensures.stands,
      c.push.ensures.frame ∙ c.loop-piece.invariant.1,
      c.in_ok-push.ensures.cause ∙ c.loop-piece.invariant.2,
    )

pub returns-in_err-push-clause-fault : goal.returns-in_err-push-clause-fault
returns-in_err-push-clause-fault g c =
    let p = err_from_is_err_and c.from_residual.result c.from_residual.ensures.1 in
    let packs = packs_next _ _ _ _ _ _ _ _ c.loop-piece.invariant.0 c.in-Some.ensures.steps in
    rw (p.1, p.2) (if_fault (Unit {0}) _ _ LINE_NOT_CUT c.in_err-push.ensures.refusals
    (λ is before start sent rest.
    let was = c.in_err-push.was in let shown : c.push.result ≡ Err (Fault LINE_NOT_CUT) = cc in
    rw (c.in_err-push.ensures.unchanged, c.push.ensures.unwritten shown) (Packs-fault _ _ _ _ _ _ _ packs
    (λ pieces stands. (c.push.ensures.fault pieces stands).0 shown) before start sent rest)))

pub returns-in_err-push-clause-failed : goal.returns-in_err-push-clause-failed
returns-in_err-push-clause-failed g c =
    let p = err_from_is_err_and c.from_residual.result c.from_residual.ensures.1 in
    let packs = packs_next _ _ _ _ _ _ _ _ c.loop-piece.invariant.0 c.in-Some.ensures.steps in
    λ is before start sent.
    let was = c.in_err-push.was in let same = p.2 in let there = p.1 in let failed : c.push.result ≡ Err Failed = cc in
    Packs-failed _ _ _ _ _ _ _ _ packs (c.push.ensures.failed failed) before start sent

pub returns-in_err-push-clause-counted : goal.returns-in_err-push-clause-counted
returns-in_err-push-clause-counted g c =
    let count = c.loop-piece.invariant.0.can_count in
    rw (c.in_err-push.ensures.unchanged)
    (omega (arith, finished-few c.loop-piece.packer count.pieces count.stands, count.few))

pub returns-clause-ok : goal.returns-clause-ok
returns-clause-ok g c = λ before start sent.
    let packs = subst (λ (l : List OutPiece). Packs (map piece_of c.args.pieces.items) c.args.packer.now
    (g.K.Sink.held c.args.sink.now) c.loop-piece.packer (map piece_of l) (g.K.Sink.held c.loop-piece.sink))
    c.in-None.ensures.steps.0 c.loop-piece.invariant.0 in
    Packs-end _ _ _ _ _ packs before start sent

pub returns-clause-counted : goal.returns-clause-counted
returns-clause-counted g c =
    let count = c.loop-piece.invariant.0.can_count in
    omega (arith, finished-few c.loop-piece.packer count.pieces count.stands, count.few)
