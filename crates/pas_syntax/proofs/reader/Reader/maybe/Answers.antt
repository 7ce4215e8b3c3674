use Rattle.std.proofs.Common.{◌∙◌, sym, ap}
use Rattle.pas_syntax.specs.inner.Marks.{same_kind}
use Rattle.pas_syntax.proofs.PlaceLemmas.{takes_none}
use Rattle.pas_syntax.proofs.reader.Reader.maybe.Goals as goal

pub returns-else-eq : goal.returns-else-eq
returns-else-eq c =
    takes_none c.args.kind (ap (same_kind c.args.kind) (sym c.kind.ensures.kind) ∙ sym c.eq.ensures ∙ c.if-eq.false)
