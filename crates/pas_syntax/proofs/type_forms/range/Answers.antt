use Rattle.std.proofs.Common.{refl}
use Rattle.pas_syntax.specs.Tree as tree
use Rattle.pas_syntax.specs.Views.{constant_in}
use Rattle.pas_syntax.specs.inner.Prog.{done, bind}
use Rattle.pas_syntax.specs.inner.TypeReaders.{constant}
use Rattle.pas_syntax.proofs.PlaceSteps.{from_here, and_then, stopped, read}
use Rattle.pas_syntax.proofs.type_forms.range.Goals as goal

pub returns-in_err-high : goal.returns-in_err-high
returns-in_err-high c =
    let low = constant_in c.args.reader.now.spellings c.args.low in
    from_here (and_then (λ m line. bind constant (λ high. done (tree.range low line high))) c.in_ok-line.ensures
    (stopped (λ m high. done (tree.range low c.in_ok-line.line high)) c.from_residual-in_err-high.result
    c.in_err-high.ensures c.from_residual-in_err-high.ensures.1))

pub returns : goal.returns
returns c =
    let low = constant_in c.args.reader.now.spellings c.args.low in
    from_here (and_then (λ m line. bind constant (λ high. done (tree.range low line high))) c.in_ok-line.ensures
    (and_then (λ m high. done (tree.range low c.in_ok-line.line high)) c.in_ok-high.ensures (read refl)))
