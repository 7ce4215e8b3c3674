use Rattle.std.proofs.Common.{arith}
use Rattle.pas_tokens.specs.inner.CodeCuts.{token_by}
use Rattle.pas_syntax.proofs.PlaceLemmas.{first_is, spelled_front}
use Rattle.pas_syntax.proofs.reader.Reader.span.Goals as goal

pub overflow_cast-result-2 : goal.overflow_cast-result-2
overflow_cast-result-2 c =
    let tokens = c.self.inside.cursor in
    let t = token_by c.peek.result in
    let s = spelled_front c.self.inside.spellings.now c.self.inside.spelled c.spelled_by.result tokens t
    c.self.invariant.spelled (first_is tokens t c.peek.ensures)
    c.self.invariant.tokens (c.spelled_by.ensures c.peek.result.kind) in
    omega (arith, s, c.self.invariant.short)
