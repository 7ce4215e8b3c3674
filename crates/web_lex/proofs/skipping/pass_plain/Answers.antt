use Rattle.std.proofs.Common.{ap, ◌∙◌, drop}
use Rattle.std.specs.List.{position_or_len}
use Rattle.web_lex.specs.SkipAhead.{next_code}
use Rattle.web_lex.specs.inner.Ahead.{is_at_sign}
use Rattle.web_lex.proofs.CodeLemmas.{next_code-plain}
use Rattle.web_lex.proofs.skipping.pass_plain.Goals as goal

pub returns-clause-code : goal.returns-clause-code
returns-clause-code c =
    let rest = c.args.cursor.now.rest in
    ap next_code c.pass.ensures.rest
    ∙ ap (λ n. next_code (drop n rest)) c.length_to_at_sign.ensures.value
    ∙ ap (λ bytes. next_code (drop (position_or_len is_at_sign bytes) rest)) c.line.ensures.line
    ∙ next_code-plain rest
