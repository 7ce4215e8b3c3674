use Rattle.std.proofs.Common.{◌≡◌, sym, subst, ◌∙◌, arith}
use Rattle.std.proofs.lemmas.Result.{err_from_is_err_and}
use Rattle.tangle_out.specs.Folder.{FolderState, Stands}
use Rattle.tangle_out.proofs.FolderLemmas.{end_ok, end_open, end_err_number, end_err_sum}
use Rattle.tangle_out.proofs.folder.Folder.finish.Goals as goal

pub returns-then-self-gt0-clause-fault : goal.returns-then-self-gt0-clause-fault
returns-then-self-gt0-clause-fault c = λ items s.
    let s1 = subst (λ (state : FolderState). Stands state items) (sym c.self.view_is) s in
    end_open items _ s1 c.if-self-gt0.true

pub returns-in_err-kept-clause-fault : goal.returns-in_err-kept-clause-fault
returns-in_err-kept-clause-fault c =
    let p = err_from_is_err_and c.from_residual.result c.from_residual.ensures.1 in
    let closed : c.self.inside.kept.depth ≡ 0 = omega arith in
    rw (p.1, p.2) (λ items s.
    let s1 = subst (λ (state : FolderState). Stands state items) (sym c.self.view_is) s in
    end_err_number items _ _ s1 closed (sym c.in_err-kept.ensures.value))

pub returns-in_err-check-clause-fault : goal.returns-in_err-check-clause-fault
returns-in_err-check-clause-fault c =
    let p = err_from_is_err_and c.from_residual-in_err-check.result c.from_residual-in_err-check.ensures.1 in
    let closed : c.self.inside.kept.depth ≡ 0 = omega arith in
    rw (p.1, p.2) (λ items s.
    let s1 = subst (λ (state : FolderState). Stands state items) (sym c.self.view_is) s in
    end_err_sum items _ _ _ s1 closed (sym c.in_ok-kept.ensures.value)
    (sym c.fault_of_held.ensures ∙ c.in_err-check.ensures.err))

pub returns-clause-ok : goal.returns-clause-ok
returns-clause-ok c = λ items s.
    let s1 = subst (λ (state : FolderState). Stands state items) (sym c.self.view_is) s in
    let closed : c.self.inside.kept.depth ≡ 0 = omega arith in
    rw (
      c.put_held.ensures.pieces,
      c.in_ok-kept.ensures.pieces,
      c.in_ok-kept.ensures.joined,
      c.new-given.ensures.pieces,
      c.new-given.ensures.joined,
    )
    (end_ok items _ _ s1 closed (sym c.in_ok-kept.ensures.value)
    (sym c.fault_of_held.ensures ∙ c.in_ok-check.ensures.ok))
