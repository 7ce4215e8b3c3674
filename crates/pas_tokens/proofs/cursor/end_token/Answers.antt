use Rattle.std.proofs.Common.{◌≡◌, ◌∙◌, ◌-◌, ap, sym, cond}
use Rattle.pas_tokens.specs.declared.kinds.Kind.TheVariants.{EndOfText}
use Rattle.pas_tokens.specs.Cutting.{nothing}
use Rattle.pas_tokens.specs.inner.Places.{is_ended}
use Rattle.pas_tokens.proofs.LineLemmas.{last_line-at}
use Rattle.pas_tokens.proofs.cursor.end_token.Goals as goal
use Rattle.pas_tokens.proofs.cursor.end_token.Goals.{then-is_ended, else-is_ended}

pub returns : goal.returns
returns c =
    let line = c.args.end.line in
    let by_end : c.if-is_ended.line ≡ cond (is_ended c.args.text.now) (line - 1) line =
    elim c.if-is_ended.branch [
      | then-is_ended w ↦ w.line-is
          ∙ sym (ap (λ b. cond b (line - 1) line) (sym c.is_ended.ensures ∙ w.if-is_ended.true))
      | else-is_ended w ↦ w.line-is
          ∙ sym (ap (λ b. cond b (line - 1) line) (sym c.is_ended.ensures ∙ w.if-is_ended.false))
    ] in
    ap (λ line. record { kind = EndOfText; payload = nothing; line = line })
    (by_end ∙ last_line-at c.args.text.now c.args.end.before line c.requires.end c.requires.place.line)
