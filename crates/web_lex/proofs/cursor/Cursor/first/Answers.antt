use Rattle.std.proofs.Common.{◌≡◌, ℕ, ◌<◌, length, arith, ap, sym, ◌∙◌, Some, Option, unwrap_or}
use Rattle.std.specs.Prelude.{slice_get}
use Rattle.web_lex.proofs.TextLemmas.{first_byte-from}
use Rattle.web_lex.specs.inner.Ahead.{first_byte}
use Rattle.web_lex.proofs.cursor.Cursor.first.Goals as goal

pub returns-then-self-count-clause-byte : goal.returns-then-self-count-clause-byte
returns-then-self-count-clause-byte c =
    let inside = c.self.inside in
    let rest = ap (λ ahead. ahead.rest) c.self.view_is in
    let within : inside.index < length inside.lines.now = omega arith in
    let there : c.unwrap_or.result ≡ unwrap_or (slice_get inside.line.now 0) 32 =
    c.unwrap_or.ensures ∙ ap (λ (found : Option ℕ). unwrap_or found 32) (c.copied.ensures ∙ c.first.ensures.value) in
    ap Some there ∙ sym (first_byte-from inside.lines.now inside.index inside.line.now within) ∙ ap first_byte rest
