use Rattle.std.proofs.Common.{◌≡◌, ℕ, ◌++◌, [], ◌∷◌, List, length, None, Ok, ap, ◌∙◌, subst, sym}
use Rattle.std.proofs.Common.{arith}
use Rattle.std.specs.Global.{Vec}
use Rattle.std.proofs.lemmas.List.{length-map}
use Rattle.web_names.specs.Identifiers.{Identifiers, id_of, new_name, with_name}
use Rattle.web_names.specs.declared.names.Entry.{Entry}
use Rattle.web_names.specs.inner.NameIndex.{name_in, names_in}
use Rattle.web_names.proofs.EntryLemmas.{AreIndexed, insert_entry-new, names_in-push, indexed-push}
use Rattle.web_names.proofs.FormIndex.{finds-push}
use Rattle.web_names.proofs.NameLemmas.{with_name-kept}
use Rattle.web_names.proofs.names.Names.add.Goals as goal

pub invariant_of-self-2 : goal.invariant_of-self-2
invariant_of-self-2 c =
    let entries : List (Vec ℕ × Entry) = c.self.inside.entries.entries in
    let key : Vec ℕ = c.in_ok-key.key in
    let entry : Entry = c.in_ok-entry.entry in
    let new : id_of c.args.word.now (names_in entries) ≡ None =
    subst (λ (held : Identifiers). id_of c.args.word.now held.names ≡ None) (sym c.self.view_is) c.requires.new in
    let pushed : c.insert.new.self.entries ≡ entries ++ (key, entry) ∷ [] =
    c.in_ok-insert.ensures.entries
    ∙ insert_entry-new c.args.word.now key entry entries new c.in_ok-key.ensures.items in
    let indexed : AreIndexed c.self.inside.options (entries ++ (key, entry) ∷ []) c.self.inside.places =
    indexed-push c.self.inside.options entries c.self.inside.places c.self.inside.places c.args.word.now
    c.args.class key entry
    c.in_ok-key.ensures.items c.in_ok-entry.ensures.class c.in_ok-entry.ensures.value
    c.in_ok-entry.ensures.printed (omega (arith, c.self.invariant.limit))
    (finds-push c.self.inside.options (names_in entries) c.self.inside.places
    (new_name c.args.word.now c.args.class) c.requires.not_compared c.self.invariant.finds)
    (record {
      limit = c.self.invariant.limit;
      printed = c.self.invariant.printed;
      finds =
          c.self.invariant.finds;
    }) in
    let whole : AreIndexed c.self.inside.options c.insert.new.self.entries c.self.inside.places =
    subst (λ es. AreIndexed c.self.inside.options es c.self.inside.places) (sym pushed) indexed in
    record { limit = whole.limit; printed = whole.printed; finds = whole.finds }

pub returns-clause-ok : goal.returns-clause-ok
returns-clause-ok c =
    let entries : List (Vec ℕ × Entry) = c.self.inside.entries.entries in
    let key : Vec ℕ = c.in_ok-key.key in
    let entry : Entry = c.in_ok-entry.entry in
    let new : id_of c.args.word.now (names_in entries) ≡ None =
    subst (λ (held : Identifiers). id_of c.args.word.now held.names ≡ None) (sym c.self.view_is) c.requires.new in
    let pushed : c.insert.new.self.entries ≡ entries ++ (key, entry) ∷ [] =
    c.in_ok-insert.ensures.entries
    ∙ insert_entry-new c.args.word.now key entry entries new c.in_ok-key.ensures.items in
    let names : names_in c.insert.new.self.entries ≡ names_in entries ++ new_name c.args.word.now c.args.class ∷ [] =
    ap names_in pushed ∙ names_in-push c.args.word.now c.args.class key entry entries c.in_ok-key.ensures.items
    c.in_ok-entry.ensures.class c.in_ok-entry.ensures.value in
    let size : length (names_in entries) ≡ length entries = length-map entries name_in in
    let id : length (names_in entries) ≡ c.len-id.result = omega arith in
    subst (λ (held : Identifiers). with_name (new_name c.args.word.now c.args.class) held.names ≡ Ok
    (c.len-id.result, names_in c.insert.new.self.entries)) c.self.view_is
    (with_name-kept (new_name c.args.word.now c.args.class) (names_in entries)
    (omega (arith, c.self.invariant.limit))
    ∙ (λ i. Ok (id i, sym names i)))
