use Rattle.std.proofs.Common.{◌≡◌, Some, None, Ok, Err, IfOk, ◌∙◌, subst, sym}
use Rattle.web_names.specs.Refusals.{IfRefused}
use Rattle.web_names.specs.Identifiers.{Identifiers, id_of}
use Rattle.web_names.proofs.NameLemmas.{id_of-names_in, defined-new, defined-held}
use Rattle.web_names.proofs.names.Names.define.Goals as goal

pub returns-in-Some-clause-ok : goal.returns-in-Some-clause-ok
returns-in-Some-clause-ok c =
    let some : id_of c.args.word.now c.args.self.now.names ≡ Some c.in-Some.index =
    subst (λ (held : Identifiers). id_of c.args.word.now held.names ≡ Some c.in-Some.index) c.self.view_is
    (id_of-names_in c.args.word.now c.self.inside.entries.entries ∙ sym c.in-Some.ensures.index) in
    subst (λ answer. IfOk c.define_again.result (λ id. answer ≡ Ok (id, c.define_again.new.self.names)))
    (sym (defined-held c.args.word.now c.args.class c.args.self.now.names c.in-Some.index some))
    c.define_again.ensures.ok

pub returns-in-Some-clause-refused : goal.returns-in-Some-clause-refused
returns-in-Some-clause-refused c =
    let some : id_of c.args.word.now c.args.self.now.names ≡ Some c.in-Some.index =
    subst (λ (held : Identifiers). id_of c.args.word.now held.names ≡ Some c.in-Some.index) c.self.view_is
    (id_of-names_in c.args.word.now c.self.inside.entries.entries ∙ sym c.in-Some.ensures.index) in
    subst (λ answer. IfRefused c.define_again.result (λ refusal. answer ≡ Err refusal))
    (sym (defined-held c.args.word.now c.args.class c.args.self.now.names c.in-Some.index some))
    c.define_again.ensures.refused

pub add-requires-clause-new : goal.add-requires-clause-new
add-requires-clause-new c =
    subst (λ (held : Identifiers). id_of c.args.word.now held.names ≡ None) c.self.view_is
    (id_of-names_in c.args.word.now c.self.inside.entries.entries ∙ sym c.in-None.ensures.index)

pub returns-in-None-clause-ok : goal.returns-in-None-clause-ok
returns-in-None-clause-ok c =
    let none : id_of c.args.word.now c.args.self.now.names ≡ None =
    subst (λ (held : Identifiers). id_of c.args.word.now held.names ≡ None) c.self.view_is
    (id_of-names_in c.args.word.now c.self.inside.entries.entries ∙ sym c.in-None.ensures.index) in
    subst (λ answer. IfOk c.add.result (λ id. answer ≡ Ok (id, c.add.new.self.names)))
    (sym (defined-new c.args.word.now c.args.class c.args.self.now.names none)) c.add.ensures.ok

pub returns-in-None-clause-refused : goal.returns-in-None-clause-refused
returns-in-None-clause-refused c =
    let none : id_of c.args.word.now c.args.self.now.names ≡ None =
    subst (λ (held : Identifiers). id_of c.args.word.now held.names ≡ None) c.self.view_is
    (id_of-names_in c.args.word.now c.self.inside.entries.entries ∙ sym c.in-None.ensures.index) in
    subst (λ answer. IfRefused c.add.result (λ refusal. answer ≡ Err refusal))
    (sym (defined-new c.args.word.now c.args.class c.args.self.now.names none)) c.add.ensures.refused

pub returns-in-None-clause-memory : goal.returns-in-None-clause-memory
returns-in-None-clause-memory c = λ _.
    subst (λ (held : Identifiers). id_of c.args.word.now held.names ≡ None) c.self.view_is
    (id_of-names_in c.args.word.now c.self.inside.entries.entries ∙ sym c.in-None.ensures.index)
