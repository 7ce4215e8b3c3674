use Rattle.std.proofs.Common.{◌≡◌, ◌<◌, List, length, sym, ap, ◌∙◌, subst, false}
use Rattle.std.proofs.lemmas.List.{length-map}
use Rattle.web_names.specs.Identifiers.{Name, Identifiers, is_form_taken, is_ordinary, class_of}
use Rattle.web_names.specs.inner.NameIndex.{name_in, names_in}
use Rattle.web_names.proofs.ClassTests.{same_as_ordinary}
use Rattle.web_names.proofs.EntryLemmas.{class_of-names_in}
use Rattle.web_names.proofs.FormIndex.{taken-none, taken-found, found-within}
use Rattle.web_names.proofs.names.Names.is_taken.Goals as goal

pub index-requires : goal.index-requires
index-requires c =
    subst (λ n. c.in-Some.place.now < n) (length-map c.self.inside.entries.entries name_in)
    (found-within c.self.inside.options
    (names_in c.self.inside.entries.entries) c.self.inside.places c.self.invariant.finds c.args.form.now
    c.in-Some.place.now (sym c.in-Some.ensures.value))

pub returns-in-Some : goal.returns-in-Some
returns-in-Some c =
    let names : List Name = names_in c.self.inside.entries.entries in
    let within : c.in-Some.place.now < length names =
    found-within c.self.inside.options names c.self.inside.places c.self.invariant.finds c.args.form.now
    c.in-Some.place.now (sym c.in-Some.ensures.value) in
    let taken : is_form_taken c.self.inside.options c.args.form.now.items names ≡ is_ordinary
    (class_of c.in-Some.place.now names) =
    taken-found c.self.inside.options names c.self.inside.places c.self.invariant.finds c.args.form.now
    c.in-Some.place.now within (sym c.in-Some.ensures.value) in
    subst (λ (held : Identifiers). c.eq.result ≡ is_form_taken held.options c.args.form.now.items held.names)
    c.self.view_is
    (c.eq.ensures ∙ same_as_ordinary c.index.result.now.class
    ∙ ap is_ordinary (sym
    (class_of-names_in c.self.inside.entries.entries c.in-Some.place.now c.index.result.now c.index.ensures))
    ∙ sym taken)

pub returns-in-None : goal.returns-in-None
returns-in-None c =
    subst (λ (held : Identifiers). false ≡ is_form_taken held.options c.args.form.now.items held.names) c.self.view_is
    (sym (taken-none c.self.inside.options
    (names_in c.self.inside.entries.entries) c.self.inside.places c.self.invariant.finds c.args.form.now
    (sym c.in-None.ensures.value)))
