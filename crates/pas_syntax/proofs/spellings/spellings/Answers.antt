use Rattle.std.proofs.Common.{◌≡◌, ◌++◌, ◌∙◌, [], sym, ap}
use Rattle.std.proofs.lemmas.List.{append-nil}
use Rattle.pas_tokens.specs.inner.CodeCuts.{token_by}
use Rattle.pas_syntax.specs.inner.Places.{spelled_of}
use Rattle.pas_syntax.proofs.PlaceLemmas.{first_is}
use Rattle.pas_syntax.proofs.TokenLemmas.{end_spelled}
use Rattle.pas_syntax.proofs.spellings.spellings.Goals as goal

pub returns-in-EndOfText : goal.returns-in-EndOfText
returns-in-EndOfText c =
    let tokens = c.tokens.cursor in
    let none : spelled_of tokens ≡ [] = end_spelled tokens c.tokens.invariant.tokens
    (ap (λ t. t.kind) (first_is tokens (token_by c.peek-token.result) c.peek-token.ensures) ∙ c.in-EndOfText.is) in
    sym (append-nil c.tokens.all) ∙ ap (λ rest. c.tokens.all ++ rest) (sym none) ∙ c.tokens.invariant.same
