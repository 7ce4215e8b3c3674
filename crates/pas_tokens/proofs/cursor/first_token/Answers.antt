use Rattle.std.proofs.Common.{◌≡◌, ◌∙◌, ◌∷◌, Ok}
use Rattle.pas_tokens.specs.declared.cursor.Point.{Point}
use Rattle.pas_tokens.specs.Tokens.{tokens_of}
use Rattle.pas_tokens.specs.inner.CodeCuts.{token_by}
use Rattle.pas_tokens.specs.inner.Places.{Follows, tokens_behind}
use Rattle.pas_tokens.proofs.WalkLemmas.{tokens_of-short, tokens_read, if_ok}
use Rattle.pas_tokens.proofs.cursor.first_token.Goals as goal

abbrev start : Point
start = record { before = 0; line = 1 }

pub returns-in-Ok-clause-token : goal.returns-in-Ok-clause-token
returns-in-Ok-clause-token c =
    let text = c.args.text.now in
    if_ok (λ read. Follows text start read.0 read.1)
    (λ read. tokens_of text ≡ Ok (token_by read.0 ∷ tokens_behind text read.1)) c.next_token.result
    (λ read follows. tokens_of-short text c.requires
    ∙ tokens_read text start read.0 read.1 c.in-Ok.ensures.ok follows) c.next_token.ensures.token

pub returns-in-Err-clause-fault : goal.returns-in-Err-clause-fault
returns-in-Err-clause-fault c = tokens_of-short c.args.text.now c.requires ∙ c.in-Err.ensures.fault
