use Rattle.std.proofs.Common.{◌≡◌, map, slice_get, Some, ap, ◌∙◌, subst, sym}
use Rattle.web_names.specs.Identifiers.{Name, Identifiers, printed_form}
use Rattle.web_names.proofs.EntryLemmas.{printed_at}
use Rattle.web_names.proofs.names.Names.printed.Goals as goal

pub returns : goal.returns
returns c =
    subst (λ (held : Identifiers). slice_get
    (map (λ (name : Name). printed_form held.options name.word) held.names) c.args.id ≡ Some c.deref.result.now)
    c.self.view_is
    (printed_at c.self.inside.options c.self.inside.entries.entries c.args.id c.index.result.now
    c.self.invariant.printed c.index.ensures ∙ ap Some (sym c.deref.ensures.value))
