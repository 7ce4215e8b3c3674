use Rattle.std.proofs.Common.{◌≡◌, position, Some, None, Ok, Err, IfOk, sym, ◌∙◌, subst}
use Rattle.std.specs.Str.{bytes_eq}
use Rattle.web_names.specs.Refusals.{IfRefused}
use Rattle.web_names.specs.inner.SectionOrder.{texts_of}
use Rattle.web_names.proofs.Positions.{position-map}
use Rattle.web_names.proofs.NewSection.{whole_name-held, whole_name-new}
use Rattle.web_names.proofs.sections.Sections.whole.Goals as goal

pub returns-in-Some-clause-ok : goal.returns-in-Some-clause-ok
returns-in-Some-clause-ok c =
    let found : position (bytes_eq c.args.name.now) (texts_of c.self.inside.names.keys) ≡ Some c.in-Some.place =
    position-map (bytes_eq c.args.name.now) (λ key. key.items) c.self.inside.names.keys
    ∙ sym c.in-Some.ensures.index in
    rw (← c.self.view_is) (whole_name-held c.args.name.now (texts_of c.self.inside.names.keys) c.in-Some.place found)

pub add-requires : goal.add-requires
add-requires c = rw (← c.self.view_is)
    (position-map (bytes_eq c.args.name.now) (λ key. key.items) c.self.inside.names.keys
    ∙ sym c.in-None.ensures.index)

pub returns-in-None-clause-ok : goal.returns-in-None-clause-ok
returns-in-None-clause-ok c =
    let none : position (bytes_eq c.args.name.now) c.args.self.now ≡ None =
    rw (← c.self.view_is)
    (position-map (bytes_eq c.args.name.now) (λ key. key.items) c.self.inside.names.keys
    ∙ sym c.in-None.ensures.index) in
    subst (λ answer. IfOk c.add.result (λ place. answer ≡ Ok (place, c.add.new.self)))
    (sym (whole_name-new c.args.name.now c.args.self.now none)) c.add.ensures.ok

pub returns-in-None-clause-refused : goal.returns-in-None-clause-refused
returns-in-None-clause-refused c =
    let none : position (bytes_eq c.args.name.now) c.args.self.now ≡ None =
    rw (← c.self.view_is)
    (position-map (bytes_eq c.args.name.now) (λ key. key.items) c.self.inside.names.keys
    ∙ sym c.in-None.ensures.index) in
    subst (λ answer. IfRefused c.add.result (λ refusal. answer ≡ Err refusal))
    (sym (whole_name-new c.args.name.now c.args.self.now none)) c.add.ensures.refused

pub returns-in-None-clause-memory : goal.returns-in-None-clause-memory
returns-in-None-clause-memory c =
    λ _. rw (← c.self.view_is)
    (position-map (bytes_eq c.args.name.now) (λ key. key.items) c.self.inside.names.keys
    ∙ sym c.in-None.ensures.index)
