use Rattle.std.proofs.Common.{◌≡◌, sym, ap, ◌∙◌, ℕ, List, [], ◌∷◌, ◌++◌, Option, rules}
use Rattle.std.specs.Prelude.{position, option_to_list}
use Rattle.std.specs.Str.{bytes_eq}
use Rattle.std.proofs.lemmas.List.{append-nil}
use Rattle.pas_syntax.specs.Views.{spelled_in}
use Rattle.pas_types.proofs.ParameterLemmas.{number_seen}
use Rattle.pas_types.proofs.checking.add_number.Goals as goal

pub returns-in_ok-push-in-Some : goal.returns-in_ok-push-in-Some
returns-in_ok-push-in-Some c =
    let spellings = c.args.scopes.now.spellings.now in
    let globals = c.args.scopes.now.globals in
    let numbers : List ℕ = c.args.numbers.now in
    let name : List ℕ = spelled_in spellings c.args.ident.span in
    let same : c.in_ok-number-in-Some.number ≡ c.in-Some.number = first_of (search rules, cc) in
    c.in_ok-push-in-Some.ensures.ok
    ∙ (ap (λ (n : ℕ). numbers ++ n ∷ []) same
    ∙ ap (λ (found : Option ℕ). numbers ++ option_to_list found)
    (sym c.in-Some.is ∙ (c.global_number.ensures
    ∙ (ap (λ (spelled : List ℕ). position (λ found. bytes_eq (spelled_in spellings found.name) spelled) globals)
    c.spelling.ensures ∙ number_seen spellings name globals))))

pub returns-in-None : goal.returns-in-None
returns-in-None c =
    let spellings = c.args.scopes.now.spellings.now in
    let globals = c.args.scopes.now.globals in
    let numbers : List ℕ = c.args.numbers.now in
    let name : List ℕ = spelled_in spellings c.args.ident.span in
    sym (append-nil numbers)
    ∙ ap (λ (found : Option ℕ). numbers ++ option_to_list found)
    (sym c.in-None.is ∙ (c.global_number.ensures
    ∙ (ap (λ (spelled : List ℕ). position (λ found. bytes_eq (spelled_in spellings found.name) spelled) globals)
    c.spelling.ensures ∙ number_seen spellings name globals)))
