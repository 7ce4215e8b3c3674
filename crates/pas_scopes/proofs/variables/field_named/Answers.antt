use Rattle.std.proofs.Common.{◌≡◌, sym, ap, ◌∙◌, List, map, Option, Some, None}
use Rattle.std.specs.Prelude.{option_map}
use Rattle.std.specs.Borrow.{Bor}
use Rattle.std.specs.Option.{option_copied}
use Rattle.pas_typed.specs.declared.types.Field.{Field as CodeField}
use Rattle.pas_typed.specs.TypeViews.{field_view}
use Rattle.pas_scopes.proofs.variables.field_named.Goals as goal

pub returns-in-None : goal.returns-in-None
returns-in-None c fields is place =
    let spellings = c.args.scopes.now.spellings.now in
    let both : Some fields ≡ None =
    sym is ∙ c.fields_of.ensures spellings
    ∙ ap (λ (found : Option (Bor (List CodeField))). option_map (map (field_view spellings)) (option_copied found))
    c.in-None.is in
    cc
