use Rattle.std.proofs.Common.{ap, sym, subst, Option}
use Rattle.std.specs.Option.{option_copied}
use Rattle.pas_syntax.specs.declared.tree.Labels.{Labels as CodeLabels}
use Rattle.pas_syntax.specs.Views.{if_there}
use Rattle.pas_syntax.specs.ProgramViews.{labels_in}
use Rattle.pas_types.specs.inner.LabelAnswers.{Declares}
use Rattle.pas_types.proofs.NumberLemmas.{declares}
use Rattle.pas_types.proofs.labels.Labels.declared.Goals as goal

pub returns-in-Some : goal.returns-in-Some
returns-in-Some c = λ spellings.
    subst (λ (part : Option CodeLabels). Declares (if_there (labels_in spellings) part) c.numbered.result)
    (sym (ap option_copied c.in-Some.is))
    (declares (labels_in spellings c.in-Some.part.now) c.numbered.result c.numbered.ensures)
