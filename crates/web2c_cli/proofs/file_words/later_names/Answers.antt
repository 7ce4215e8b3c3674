use Rattle.std.proofs.Common.{◌≡◌, ℕ, List, drop, IfOk, subst}
use Rattle.web2c_cli.proofs.RequestLemmas.{said_found}
use Rattle.web2c_cli.proofs.file_words.later_names.Goals as goal

pub returns-in-Some : goal.returns-in-Some
returns-in-Some c =
    subst (λ (said : List (List ℕ)). IfOk c.names_after_first.result (λ names. names ≡ drop 1 said))
    (said_found _ _ _ c.word.ensures c.in-Some.ensures) c.names_after_first.ensures
