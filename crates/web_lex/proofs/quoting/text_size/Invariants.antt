use Rattle.std.proofs.Common.{◌≡◌, ◌-◌, ◌+◌, length, drop}
use Rattle.web_lex.specs.Token.{text_size, longer}
use Rattle.web_lex.specs.inner.LineTokens.{delimiter_of}
use Rattle.web_lex.proofs.quoting.text_size.Given as goal

abbrev pub invariant-loop-size : goal.invariant-loop-size
invariant-loop-size l =
    text_size (delimiter_of l.kind) l.bytes ≡ longer l.size (text_size (delimiter_of l.kind) (drop l.size l.bytes))

abbrev pub decreases-loop-size : goal.decreases-loop-size
decreases-loop-size l = length l.bytes + 2 - l.size
