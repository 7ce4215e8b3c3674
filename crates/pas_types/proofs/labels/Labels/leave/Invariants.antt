use Rattle.std.proofs.Common.{◌≡◌, ℕ, List, take}
use Rattle.pas_syntax.specs.declared.tree.Others.TheViews.{out-Statements}
use Rattle.pas_syntax.specs.ProgramViews.{statement_in}
use Rattle.pas_types.specs.inner.LabelViews.{left}
use Rattle.pas_scopes.proofs.LabelSeen.{labels_so_far}
use Rattle.pas_types.proofs.labels.Labels.leave.Given as goal

abbrev pub invariant-loop-more : goal.invariant-loop-more
invariant-loop-more l =
    (spellings : List ℕ)
    → l.self ≡ left (labels_so_far spellings (statement_in spellings (out-Statements l.list).first)
    (take l.more-index l.more-items)) l.fn.self
