use Rattle.std.proofs.Common.{◌≡◌, refl, sym, ap, ◌∙◌, ℕ, Bool, true, false, List, length, Some, None}
use Rattle.std.specs.Prelude.{nat_lt, if◌then◌else◌}
use Rattle.pas_syntax.specs.Views.{quoted_in}
use Rattle.pas_typed.specs.Texts.{undoubled}
use Rattle.pas_types.proofs.transfers.long_quoted.Goals as goal

pub returns-then-is_long : goal.returns-then-is_long
returns-then-is_long c =
    let bytes : List ℕ = undoubled (quoted_in c.args.scopes.now.spellings.now c.args.quoted).text in
    let long : nat_lt 1 (length bytes) ≡ true =
    ap (λ (text : List ℕ). nat_lt 1 (length (undoubled text))) (sym c.spelling.ensures) ∙ sym c.is_long.ensures
    ∙ c.if-is_long.true in
    (refl, ap (λ (b : Bool). if b then Some bytes else None) long)

pub returns-else-is_long : goal.returns-else-is_long
returns-else-is_long c =
    let bytes : List ℕ = undoubled (quoted_in c.args.scopes.now.spellings.now c.args.quoted).text in
    let short : nat_lt 1 (length bytes) ≡ false =
    ap (λ (text : List ℕ). nat_lt 1 (length (undoubled text))) (sym c.spelling.ensures) ∙ sym c.is_long.ensures
    ∙ c.if-is_long.false in
    ap (λ (b : Bool). if b then Some bytes else None) short
