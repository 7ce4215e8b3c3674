use Rattle.std.proofs.Common.{refl, ℕ, Option}
use Rattle.pas_tokens.specs.declared.kinds.Kind.TheVariants as k
use Rattle.pas_syntax.specs.Tree.{Separated, Simple}
use Rattle.pas_syntax.specs.Views.{separated_in, simple_in}
use Rattle.pas_syntax.specs.inner.Prog.{Prog, done, bind}
use Rattle.pas_syntax.specs.inner.Marks.{mark}
use Rattle.pas_syntax.specs.inner.TypeReaders.{ArrayStart, array_start_by, items_by, simple}
use Rattle.pas_syntax.proofs.PlaceSteps.{from_here, and_then, stopped, passed, read}
use Rattle.pas_syntax.proofs.type_forms.array_head.Goals as goal

-- what is read behind each part
module _ (packed : Option ℕ) (line : ℕ) where
  abbrev made : ℕ → Separated Simple → ℕ → ℕ → Prog ArrayStart
  made opened indexes closed of_line =
      done (record {
        packed = packed;
        line = line;
        opened = opened;
        indexes = indexes;
        closed = closed;
        of_line = of_line;
      })

  abbrev behind_closed : ℕ → Separated Simple → ℕ → Prog ArrayStart
  behind_closed opened indexes closed = bind (mark k.Of) (made opened indexes closed)

  abbrev behind_indexes : ℕ → Separated Simple → Prog ArrayStart
  behind_indexes opened indexes = bind (mark k.RightBracket) (behind_closed opened indexes)

  abbrev behind_opened : ℕ → ℕ → Prog ArrayStart
  behind_opened m opened = bind (items_by simple m) (behind_indexes opened)

pub returns-in_err-opened : goal.returns-in_err-opened
returns-in_err-opened c outer is =
    let packed = c.args.packed in
    let line = c.pass-line.result in
    from_here (passed (λ m. array_start_by m outer packed) c.pass-line.ensures
    (stopped (behind_opened packed line) c.from_residual.result (c.in_err-opened.ensures outer is)
    c.from_residual.ensures.1))

pub returns-in_err-indexes : goal.returns-in_err-indexes
returns-in_err-indexes c outer is =
    let packed = c.args.packed in
    let line = c.pass-line.result in
    from_here (passed (λ m. array_start_by m outer packed) c.pass-line.ensures
    (and_then (behind_opened packed line) (c.in_ok-opened.ensures outer is)
    (stopped (λ m. behind_indexes packed line c.in_ok-opened.opened) c.from_residual-in_err-indexes.result
    c.in_err-indexes.ensures c.from_residual-in_err-indexes.ensures.1)))

pub returns-in_err-closed : goal.returns-in_err-closed
returns-in_err-closed c outer is =
    let packed = c.args.packed in
    let line = c.pass-line.result in
    let indexes = separated_in (simple_in c.args.reader.now.spellings) c.in_ok-indexes.indexes in
    from_here (passed (λ m. array_start_by m outer packed) c.pass-line.ensures
    (and_then (behind_opened packed line) (c.in_ok-opened.ensures outer is)
    (and_then (λ m. behind_indexes packed line c.in_ok-opened.opened) c.in_ok-indexes.ensures
    (stopped (λ m. behind_closed packed line c.in_ok-opened.opened indexes) c.from_residual-in_err-closed.result
    c.in_err-closed.ensures c.from_residual-in_err-closed.ensures.1))))

pub returns-in_err-of_line : goal.returns-in_err-of_line
returns-in_err-of_line c outer is =
    let packed = c.args.packed in
    let line = c.pass-line.result in
    let indexes = separated_in (simple_in c.args.reader.now.spellings) c.in_ok-indexes.indexes in
    from_here (passed (λ m. array_start_by m outer packed) c.pass-line.ensures
    (and_then (behind_opened packed line) (c.in_ok-opened.ensures outer is)
    (and_then (λ m. behind_indexes packed line c.in_ok-opened.opened) c.in_ok-indexes.ensures
    (and_then (λ m. behind_closed packed line c.in_ok-opened.opened indexes) c.in_ok-closed.ensures
    (stopped (λ m. made packed line c.in_ok-opened.opened indexes c.in_ok-closed.closed)
    c.from_residual-in_err-of_line.result c.in_err-of_line.ensures c.from_residual-in_err-of_line.ensures.1)))))

pub returns : goal.returns
returns c outer is =
    let packed = c.args.packed in
    let line = c.pass-line.result in
    let indexes = separated_in (simple_in c.args.reader.now.spellings) c.in_ok-indexes.indexes in
    from_here (passed (λ m. array_start_by m outer packed) c.pass-line.ensures
    (and_then (behind_opened packed line) (c.in_ok-opened.ensures outer is)
    (and_then (λ m. behind_indexes packed line c.in_ok-opened.opened) c.in_ok-indexes.ensures
    (and_then (λ m. behind_closed packed line c.in_ok-opened.opened indexes) c.in_ok-closed.ensures
    (and_then (λ m. made packed line c.in_ok-opened.opened indexes c.in_ok-closed.closed) c.in_ok-of_line.ensures
    (read refl))))))
