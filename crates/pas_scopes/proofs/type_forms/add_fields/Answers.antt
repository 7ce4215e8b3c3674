use Rattle.std.proofs.Common.{◌∙◌, ap, sym, List, ◌∷◌, ◌++◌, map}
use Rattle.std.proofs.lemmas.List.{take_all}
use Rattle.std.proofs.lemmas.Simd.{map-map}
use Rattle.pas_syntax.specs.declared.tree.Ident.{Ident}
use Rattle.pas_syntax.specs.declared.tree.Behind.{Behind}
use Rattle.pas_typed.specs.declared.types.Field.{Field}
use Rattle.pas_scopes.proofs.type_forms.add_fields.Goals as goal

pub returns : goal.returns
returns c =
    let field_of : Ident → Field = λ ident. record { name = ident.span; pas_type = c.args.pas_type } in
    let list = c.as_slice-behind-items.result.now in
    c.loop-behind.invariant
    ∙ ap (λ (rest : List Field). c.args.fields.now ++ field_of c.args.names.now.first ∷ rest)
    (ap (map (λ (behind : Behind Ident). field_of behind.item))
    (take_all c.loop-behind.behind-index list c.loop-behind-test.false ∙ c.as_slice-behind-items.ensures)
    ∙ sym (map-map field_of (λ (behind : Behind Ident). behind.item) c.args.names.now.more))
