use Rattle.std.proofs.Common.{◌≡◌, ◌∙◌, sym, subst, ◌-◌, List, length, Some, None}
use Rattle.std.specs.Prelude.{slice_get}
use Rattle.pas_syntax.specs.declared.tree.MoreStatement.{MoreStatement}
use Rattle.pas_scopes.proofs.LabelSeen.{end_seen, end_seen_first}
use Rattle.pas_types.proofs.labels.label_at_end.Goals as goal

pub returns-in-Some : goal.returns-in-Some
returns-in-Some c = λ spellings.
    c.label_on_empty.ensures spellings
    ∙ sym (end_seen spellings c.args.list.now c.in-Some.more.now
    (subst (λ (more : List MoreStatement). Some c.in-Some.more.now ≡ slice_get more (length more - 1))
    c.as_slice.ensures c.in-Some.ensures.value))

pub returns-in-None : goal.returns-in-None
returns-in-None c = λ spellings.
    c.label_on_empty-in-None.ensures spellings
    ∙ sym (end_seen_first spellings c.args.list.now
    (subst (λ (more : List MoreStatement). None ≡ slice_get more (length more - 1))
    c.as_slice.ensures c.in-None.ensures.value))
