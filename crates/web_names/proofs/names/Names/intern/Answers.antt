use Rattle.std.proofs.Common.{◌≡◌, None, Ok, Err, IfOk, ◌∙◌, subst, sym}
use Rattle.web_names.specs.Refusals.{IfRefused}
use Rattle.web_names.specs.Identifiers.{Identifiers, id_of, used}
use Rattle.web_names.specs.inner.NameIndex.{names_in}
use Rattle.web_names.proofs.NameLemmas.{id_of-names_in, used-new, used-held}
use Rattle.web_names.proofs.names.Names.intern.Goals as goal

pub returns-in-Some-clause-ok : goal.returns-in-Some-clause-ok
returns-in-Some-clause-ok c =
    subst (λ (held : Identifiers). used held.options c.args.word.now held.names ≡ Ok (c.in-Some.index, held.names))
    c.self.view_is
    (used-held c.self.inside.options c.args.word.now (names_in c.self.inside.entries.entries) c.in-Some.index
    (id_of-names_in c.args.word.now c.self.inside.entries.entries ∙ sym c.in-Some.ensures.index))

pub add_ordinary-requires : goal.add_ordinary-requires
add_ordinary-requires c =
    subst (λ (held : Identifiers). id_of c.args.word.now held.names ≡ None) c.self.view_is
    (id_of-names_in c.args.word.now c.self.inside.entries.entries ∙ sym c.in-None.ensures.index)

pub returns-in-None-clause-ok : goal.returns-in-None-clause-ok
returns-in-None-clause-ok c =
    let none : id_of c.args.word.now c.args.self.now.names ≡ None =
    subst (λ (held : Identifiers). id_of c.args.word.now held.names ≡ None) c.self.view_is
    (id_of-names_in c.args.word.now c.self.inside.entries.entries ∙ sym c.in-None.ensures.index) in
    subst (λ answer. IfOk c.add_ordinary.result (λ id. answer ≡ Ok (id, c.add_ordinary.new.self.names)))
    (sym (used-new c.args.self.now.options c.args.word.now c.args.self.now.names none)) c.add_ordinary.ensures.ok

pub returns-in-None-clause-refused : goal.returns-in-None-clause-refused
returns-in-None-clause-refused c =
    let none : id_of c.args.word.now c.args.self.now.names ≡ None =
    subst (λ (held : Identifiers). id_of c.args.word.now held.names ≡ None) c.self.view_is
    (id_of-names_in c.args.word.now c.self.inside.entries.entries ∙ sym c.in-None.ensures.index) in
    subst (λ answer. IfRefused c.add_ordinary.result (λ refusal. answer ≡ Err refusal))
    (sym (used-new c.args.self.now.options c.args.word.now c.args.self.now.names none))
    c.add_ordinary.ensures.refused

pub returns-in-None-clause-memory : goal.returns-in-None-clause-memory
returns-in-None-clause-memory c = λ _.
    subst (λ (held : Identifiers). id_of c.args.word.now held.names ≡ None) c.self.view_is
    (id_of-names_in c.args.word.now c.self.inside.entries.entries ∙ sym c.in-None.ensures.index)
