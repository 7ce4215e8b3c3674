use Rattle.std.proofs.Common.{◌≡◌, map, slice_get, Some, refl, ap, ◌∙◌, subst, sym}
use Rattle.web_names.specs.Identifiers.{Name, Identifiers}
use Rattle.web_names.specs.declared.names.Entry.{Entry}
use Rattle.web_names.proofs.EntryLemmas.{of_value}
use Rattle.web_names.proofs.names.Names.kind.Goals as goal

pub returns : goal.returns
returns c =
    subst (λ (held : Identifiers). slice_get (map (λ (name : Name). (name.class, name.value)) held.names) c.args.id
    ≡ Some c.kind.result) c.self.view_is
    (of_value (λ (name : Name). (name.class, name.value)) (λ (entry : Entry). (entry.class, entry.value))
    (λ entry. refl)
    c.self.inside.entries.entries c.args.id c.index.result.now c.index.ensures
    ∙ ap Some (sym c.kind.ensures))
