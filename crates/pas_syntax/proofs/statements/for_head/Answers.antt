use Rattle.std.proofs.Common.{ℕ, refl}
use Rattle.pas_tokens.specs.declared.kinds.Kind.TheVariants as k
use Rattle.pas_syntax.specs.declared.operators.Way.{Way}
use Rattle.pas_syntax.specs.Tree.{Ident, Lined, Expr}
use Rattle.pas_syntax.specs.inner.Prog.{Prog, done, look, bind}
use Rattle.pas_syntax.specs.inner.Readers.{expr}
use Rattle.pas_syntax.specs.inner.Marks.{mark}
use Rattle.pas_syntax.specs.inner.StatementReaders.{ForHead, way_at, for_head_by}
use Rattle.pas_syntax.proofs.PlaceSteps.{from_here, and_then, stopped, passed, read}
use Rattle.pas_syntax.proofs.statements.for_head.Goals as goal

abbrev made : ℕ → Ident → ℕ → Expr → Lined Way → Expr → ℕ → Prog ForHead
made line name becomes first toward last do_line =
    done (record {
      line = line;
      name = name;
      becomes = becomes;
      first = first;
      toward = toward;
      last = last;
      do_line = do_line;
    })

abbrev behind_last : ℕ → Ident → ℕ → Expr → Lined Way → Expr → Prog ForHead
behind_last line name becomes first toward last = bind (mark k.Do) (made line name becomes first toward last)

abbrev behind_way : ℕ → ℕ → ℕ → Ident → ℕ → Expr → Lined Way → Prog ForHead
behind_way m n line name becomes first toward = bind (expr m n 0) (behind_last line name becomes first toward)

abbrev behind_first : ℕ → ℕ → ℕ → Ident → ℕ → Expr → Prog ForHead
behind_first m n line name becomes first = bind (look way_at) (behind_way m n line name becomes first)

abbrev behind_becomes : ℕ → ℕ → ℕ → Ident → ℕ → Prog ForHead
behind_becomes m n line name becomes = bind (expr m n 0) (behind_first m n line name becomes)

abbrev behind_name : ℕ → ℕ → ℕ → Ident → Prog ForHead
behind_name m n line name = bind (mark k.Becomes) (behind_becomes m n line name)

pub returns-in_err-name : goal.returns-in_err-name
returns-in_err-name c =
    from_here (passed (λ m. for_head_by m c.args.depth.forms) c.pass-line.ensures
    (stopped (λ m. behind_name m c.args.depth.forms c.pass-line.result) c.from_residual.result c.in_err-name.ensures
    c.from_residual.ensures.1))

pub returns-in_err-becomes : goal.returns-in_err-becomes
returns-in_err-becomes c =
    let n = c.args.depth.forms in
    let line = c.pass-line.result in
    from_here (passed (λ m. for_head_by m n) c.pass-line.ensures
    (and_then (λ m. behind_name m n line) c.in_ok-name.ensures
    (stopped (λ m. behind_becomes m n line _) c.from_residual-in_err-becomes.result c.in_err-becomes.ensures
    c.from_residual-in_err-becomes.ensures.1)))

pub returns-in_err-first : goal.returns-in_err-first
returns-in_err-first c =
    let n = c.args.depth.forms in
    let line = c.pass-line.result in
    from_here (passed (λ m. for_head_by m n) c.pass-line.ensures
    (and_then (λ m. behind_name m n line) c.in_ok-name.ensures
    (and_then (λ m. behind_becomes m n line _) c.in_ok-becomes.ensures
    (stopped (λ m. behind_first m n line _ _) c.from_residual-in_err-first.result c.in_err-first.ensures
    c.from_residual-in_err-first.ensures.1))))

pub returns-in_err-way : goal.returns-in_err-way
returns-in_err-way c =
    let n = c.args.depth.forms in
    let line = c.pass-line.result in
    from_here (passed (λ m. for_head_by m n) c.pass-line.ensures
    (and_then (λ m. behind_name m n line) c.in_ok-name.ensures
    (and_then (λ m. behind_becomes m n line _) c.in_ok-becomes.ensures
    (and_then (λ m. behind_first m n line _ _) c.in_ok-first.ensures
    (stopped (λ m. behind_way m n line _ _ _) c.from_residual-in_err-way.result c.in_err-way.ensures
    c.from_residual-in_err-way.ensures.1)))))

pub returns-in_err-last : goal.returns-in_err-last
returns-in_err-last c =
    let n = c.args.depth.forms in
    let line = c.pass-line.result in
    from_here (passed (λ m. for_head_by m n) c.pass-line.ensures
    (and_then (λ m. behind_name m n line) c.in_ok-name.ensures
    (and_then (λ m. behind_becomes m n line _) c.in_ok-becomes.ensures
    (and_then (λ m. behind_first m n line _ _) c.in_ok-first.ensures
    (and_then (λ m. behind_way m n line _ _ _) c.in_ok-way.ensures
    (stopped (λ m. behind_last line _ _ _ _) c.from_residual-in_err-last.result c.in_err-last.ensures
    c.from_residual-in_err-last.ensures.1))))))

pub returns-in_err-do_line : goal.returns-in_err-do_line
returns-in_err-do_line c =
    let n = c.args.depth.forms in
    let line = c.pass-line.result in
    from_here (passed (λ m. for_head_by m n) c.pass-line.ensures
    (and_then (λ m. behind_name m n line) c.in_ok-name.ensures
    (and_then (λ m. behind_becomes m n line _) c.in_ok-becomes.ensures
    (and_then (λ m. behind_first m n line _ _) c.in_ok-first.ensures
    (and_then (λ m. behind_way m n line _ _ _) c.in_ok-way.ensures
    (and_then (λ m. behind_last line _ _ _ _) c.in_ok-last.ensures
    (stopped (λ m. made line _ _ _ _ _) c.from_residual-in_err-do_line.result c.in_err-do_line.ensures
    c.from_residual-in_err-do_line.ensures.1)))))))

pub returns : goal.returns
returns c =
    let n = c.args.depth.forms in
    let line = c.pass-line.result in
    from_here (passed (λ m. for_head_by m n) c.pass-line.ensures
    (and_then (λ m. behind_name m n line) c.in_ok-name.ensures
    (and_then (λ m. behind_becomes m n line _) c.in_ok-becomes.ensures
    (and_then (λ m. behind_first m n line _ _) c.in_ok-first.ensures
    (and_then (λ m. behind_way m n line _ _ _) c.in_ok-way.ensures
    (and_then (λ m. behind_last line _ _ _ _) c.in_ok-last.ensures
    (and_then (λ m. made line _ _ _ _ _) c.in_ok-do_line.ensures
    (read refl))))))))
