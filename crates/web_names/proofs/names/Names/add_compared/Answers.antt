use Rattle.std.proofs.Common.{◌≡◌, ℕ, ◌++◌, [], ◌∷◌, cond, false, List, length, Some, None, Ok, OnOk}
use Rattle.std.proofs.Common.{ap, ◌∙◌, subst, sym, arith}
use Rattle.std.specs.Global.{Vec}
use Rattle.std.specs.HashMap.{get}
use Rattle.std.proofs.lemmas.List.{length-map}
use Rattle.indexmap.specs.IndexMap.{insert_entry}
use Rattle.web_names.specs.Identifiers.{Identifiers, id_of, new_name, with_name, compared_form}
use Rattle.web_names.specs.Identifiers.{is_form_taken}
use Rattle.web_names.specs.declared.classes.Class.TheVariants.{Ordinary}
use Rattle.web_names.specs.declared.names.Entry.{Entry}
use Rattle.web_names.specs.inner.NameIndex.{name_in, names_in, is_same_key}
use Rattle.web_names.proofs.EntryLemmas.{AreIndexed, insert_entry-new, names_in-push, indexed-push}
use Rattle.web_names.proofs.FormIndex.{finds-push_compared}
use Rattle.web_names.proofs.NameLemmas.{with_name-kept}
use Rattle.web_names.proofs.names.Names.add_compared.Goals as goal

pub invariant_of-self-2 : goal.invariant_of-self-2
invariant_of-self-2 c =
    let entries : List (Vec ℕ × Entry) = c.self.inside.entries.entries in
    let key : Vec ℕ = c.in_ok-key.key in
    let entry : Entry = c.in_ok-entry.entry in
    let word : List ℕ = c.args.word.now in
    let new : id_of word (names_in entries) ≡ None =
    subst (λ (held : Identifiers). id_of word held.names ≡ None) (sym c.self.view_is) c.requires.new in
    let form : c.args.form.items ≡ compared_form c.self.inside.options word =
    subst (λ (held : Identifiers). c.args.form.items ≡ compared_form held.options word)
    (sym c.self.view_is) c.requires.form in
    let free : is_form_taken c.self.inside.options c.args.form.items (names_in entries) ≡ false =
    subst (λ (held : Identifiers). is_form_taken held.options c.args.form.items held.names ≡ false)
    (sym c.self.view_is) c.requires.free in
    let kept : c.reserve.new.self.entries ≡ entries = c.reserve.ensures.entries in
    let inserted : c.insert-2.new.self.entries ≡ insert_entry is_same_key c.reserve.new.self.entries key entry =
    subst (λ result. OnOk result
    (c.insert-2.new.self.entries ≡ insert_entry is_same_key c.reserve.new.self.entries key entry))
    c.unwrap.ensures c.insert-2.ensures.entries in
    let pushed : c.insert-2.new.self.entries ≡ entries ++ (key, entry) ∷ [] =
    inserted ∙ ap (λ es. insert_entry is_same_key es key entry) kept
    ∙ insert_entry-new word key entry entries new c.in_ok-key.ensures.items in
    let size : length (names_in entries) ≡ length entries = length-map entries name_in in
    let id : c.len-id.result ≡ length (names_in entries) = omega arith in
    let updates : (other : Vec ℕ)
    → get is_same_key c.insert.new.self other ≡ cond (is_same_key c.args.form other)
    (Some (length (names_in entries))) (get is_same_key c.self.inside.places other) =
    λ other. c.in_ok-insert.ensures.updates.0 other
    ∙ ap (λ id. cond (is_same_key c.args.form other) (Some id) (get is_same_key c.self.inside.places other))
    id in
    let indexed : AreIndexed c.self.inside.options (entries ++ (key, entry) ∷ []) c.insert.new.self =
    indexed-push c.self.inside.options entries c.self.inside.places c.insert.new.self word Ordinary key entry
    c.in_ok-key.ensures.items c.in_ok-entry.ensures.class c.in_ok-entry.ensures.value
    c.in_ok-entry.ensures.printed (omega (arith, c.self.invariant.limit))
    (finds-push_compared c.self.inside.options (names_in entries) c.self.inside.places c.insert.new.self
    (new_name word Ordinary) c.args.form c.requires.letters form free updates c.self.invariant.finds)
    (record {
      limit = c.self.invariant.limit;
      printed = c.self.invariant.printed;
      finds =
          c.self.invariant.finds;
    }) in
    let whole : AreIndexed c.self.inside.options c.insert-2.new.self.entries c.insert.new.self =
    subst (λ es. AreIndexed c.self.inside.options es c.insert.new.self) (sym pushed) indexed in
    record { limit = whole.limit; printed = whole.printed; finds = whole.finds }

pub returns-clause-ok : goal.returns-clause-ok
returns-clause-ok c =
    let entries : List (Vec ℕ × Entry) = c.self.inside.entries.entries in
    let key : Vec ℕ = c.in_ok-key.key in
    let entry : Entry = c.in_ok-entry.entry in
    let word : List ℕ = c.args.word.now in
    let new : id_of word (names_in entries) ≡ None =
    subst (λ (held : Identifiers). id_of word held.names ≡ None) (sym c.self.view_is) c.requires.new in
    let kept : c.reserve.new.self.entries ≡ entries = c.reserve.ensures.entries in
    let inserted : c.insert-2.new.self.entries ≡ insert_entry is_same_key c.reserve.new.self.entries key entry =
    subst (λ result. OnOk result
    (c.insert-2.new.self.entries ≡ insert_entry is_same_key c.reserve.new.self.entries key entry))
    c.unwrap.ensures c.insert-2.ensures.entries in
    let pushed : c.insert-2.new.self.entries ≡ entries ++ (key, entry) ∷ [] =
    inserted ∙ ap (λ es. insert_entry is_same_key es key entry) kept
    ∙ insert_entry-new word key entry entries new c.in_ok-key.ensures.items in
    let names : names_in c.insert-2.new.self.entries ≡ names_in entries ++ new_name word Ordinary ∷ [] =
    ap names_in pushed ∙ names_in-push word Ordinary key entry entries c.in_ok-key.ensures.items
    c.in_ok-entry.ensures.class c.in_ok-entry.ensures.value in
    let size : length (names_in entries) ≡ length entries = length-map entries name_in in
    let id : length (names_in entries) ≡ c.len-id.result = omega arith in
    subst (λ (held : Identifiers). with_name (new_name word Ordinary) held.names ≡ Ok
    (c.len-id.result, names_in c.insert-2.new.self.entries)) c.self.view_is
    (with_name-kept (new_name word Ordinary) (names_in entries) (omega (arith, c.self.invariant.limit))
    ∙ (λ i. Ok (id i, sym names i)))
