use Rattle.std.proofs.Common.{length, take, drop, ◌-◌}
use Rattle.std.proofs.lemmas.List.{take_rest}
use Rattle.web_lex.specs.inner.LineTokens.{delimiter_of}
use Rattle.web_lex.proofs.QuotingLemmas.{text_size-more}
use Rattle.web_lex.proofs.quoting.text_size.Goals as goal

pub loop-size-preserved-in-Single : goal.loop-size-preserved-in-Single
loop-size-preserved-in-Single c =
    let bytes = c.args.bytes.now in
    let size = c.loop-size.size in
    text_size-more (delimiter_of c.args.kind) bytes (take (length bytes - size) (drop size bytes)) size 1
    (take_rest bytes size) c.in-Single.ensures c.loop-size.invariant

pub loop-size-preserved : goal.loop-size-preserved
loop-size-preserved c =
    let bytes = c.args.bytes.now in
    let size = c.loop-size.size in
    text_size-more (delimiter_of c.args.kind) bytes (take (length bytes - size) (drop size bytes)) size 2
    (take_rest bytes size) c.in-Doubled.ensures c.loop-size.invariant
