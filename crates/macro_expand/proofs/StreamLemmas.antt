-- What a stream still gives, before and after a removal.
use Rattle.std.proofs.Common.{◌≡◌, ℕ, ◌<◌, List, [], ◌∷◌, length, Option, Some, None, Ok}
use Rattle.std.proofs.Common.{Err, sym, ap, ◌∙◌, arith}
use Rattle.wb_base.specs.declared.tokens.Tok.{Tok}
use Rattle.web_scan.specs.Scanned.{Scanned}
use Rattle.macro_expand.specs.declared.frames.Frame.{Frame}
use Rattle.macro_expand.specs.declared.refusals.ExpandErr.{ExpandErr}
use Rattle.macro_expand.specs.Expansion.{removal, continued, with_item, stopped, given_by}
use Rattle.macro_expand.specs.Flat.{Flat, levels}
use Rattle.macro_expand.specs.Items.{Expanded}
use Rattle.macro_expand.specs.inner.Levels.{levels_of, list_of}
use Rattle.macro_expand.proofs.ExpansionLemmas.{IsLeft, given_by-left, given_by-nothing}
use Rattle.macro_expand.proofs.LevelsLemmas.{length-levels_of, levels-list_of}

-- something is left where a level is open
pub IsLeft-levels : (tokens : List Tok) (items : List Frame) → 0 < length items
    → IsLeft (list_of tokens (levels_of items))
IsLeft-levels tokens items some is =
    omega (arith, ap levels is, levels-list_of tokens (levels_of items), length-levels_of items)

-- nothing is left where none is
pub given-none : (web : Scanned) (steps : ℕ) (items : List Frame) → length items ≡ 0
    → given_by web steps (list_of web.tokens (levels_of items)) ≡ stopped None
given-none web steps [] none = given_by-nothing web steps
given-none web steps (frame ∷ items) none = absurd (omega arith)

-- after a removal
pub given-ok : (web web' : Scanned) (steps steps' : ℕ) (list list' : Flat) (item : Option Expanded) → IsLeft list
    → web' ≡ web
    → removal web steps list ≡ Ok (record { item = item; steps = steps'; list = list' })
    → given_by web steps list ≡ with_item item (given_by web' steps' list')
given-ok web web' steps steps' list list' item left same is =
    given_by-left web steps list left ∙ ap (continued (given_by web)) is
    ∙ ap (λ web. with_item item (given_by web steps' list')) (sym same)

-- at a refusal
pub given-err : (web : Scanned) (steps : ℕ) (list : Flat) (refusal : ExpandErr) → IsLeft list
    → removal web steps list ≡ Err refusal
    → given_by web steps list ≡ stopped (Some refusal)
given-err web steps list refusal left is = given_by-left web steps list left ∙ ap (continued (given_by web)) is
