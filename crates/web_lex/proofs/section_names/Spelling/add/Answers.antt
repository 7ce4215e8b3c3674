use Rattle.std.proofs.Common.{◌≡◌, ◌∷◌, ◌++◌, [], false, ap, ◌∙◌, sym}
use Rattle.wb_base.specs.Bytes.{is_blank}
use Rattle.web_lex.specs.inner.Spelling.{continued}
use Rattle.web_lex.proofs.SpellingLemmas.{continued-visible}
use Rattle.web_lex.proofs.section_names.Spelling.add.Goals as goal

pub returns : goal.returns
returns c bytes =
    let spelling = c.args.self.now in
    let visible : is_blank c.args.byte ≡ false = sym c.is_blank.ensures ∙ c.if-is_blank.false in
    continued-visible spelling.text spelling.blank c.args.byte bytes visible
    ∙ ap (λ text. continued text false bytes)
    (ap (λ text. text ++ c.args.byte ∷ []) (sym c.in_ok-add_gap.ensures.text) ∙ sym c.in_ok-push.ensures.ok)
