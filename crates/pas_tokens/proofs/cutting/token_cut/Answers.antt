use Rattle.std.proofs.Common.{◌∙◌, ap, drop, ◌∷◌, sym}
use Rattle.std.proofs.lemmas.List.{take_rest}
use Rattle.pas_tokens.specs.Cutting.{string_by, string_size}
use Rattle.pas_tokens.specs.inner.CodeCuts.{cut_by}
use Rattle.pas_tokens.proofs.CuttingLemmas.{string_front}
use Rattle.pas_tokens.proofs.cutting.token_cut.Goals as goal

pub returns-in-39-clause-value : goal.returns-in-39-clause-value
returns-in-39-clause-value c = λ byte bytes is.
    let text = c.args.text.now in
    let rest = take_rest text 1 in
    ap (λ t. cut_by t c.string_cut.result) is ∙ string_front text
    (λ quote. cut_by (quote ∷ bytes) c.string_cut.result) (sym c.in-39.is)
    (λ quote. ap (λ bs. cut_by (quote ∷ bs) c.string_cut.result) (sym (ap (drop 1) is) ∙ sym rest)
    ∙ c.string_cut.ensures.value quote ∙ ap (λ bs. string_by bs (string_size bs)) rest)
    byte bytes is
