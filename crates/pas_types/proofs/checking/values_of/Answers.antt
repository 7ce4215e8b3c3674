use Rattle.std.proofs.Common.{ap, ◌∙◌, ◌∷◌, List, map}
use Rattle.pas_syntax.specs.declared.tree.Numeral.{Numeral as CodeNumeral}
use Rattle.pas_syntax.specs.declared.tree.Behind.{Behind as CodeBehind}
use Rattle.pas_scopes.proofs.LabelSeen.{taken_all}
use Rattle.pas_types.proofs.BegunLemmas.{values_seen}
use Rattle.pas_types.proofs.checking.values_of.Goals as goal

pub returns : goal.returns
returns c =
    c.loop-behind.invariant
    ∙ (ap (λ (more : List (CodeBehind CodeNumeral)). c.args.numerals.now.first.value
    ∷ map (λ behind. behind.item.value) more)
    (taken_all c.as_slice-behind-items.result.now c.loop-behind.behind-index c.loop-behind-test.false
    ∙ c.as_slice-behind-items.ensures)
    ∙ ap (λ rest. c.args.numerals.now.first.value ∷ rest) (values_seen c.args.numerals.now.more))
