use Rattle.std.proofs.Common.{sym, ◌∙◌}
use Rattle.pas_scopes.proofs.PlaceLemmas.{field_missing, field_there}
use Rattle.pas_scopes.proofs.variables.field_among.Goals as goal

pub returns-in_ok-count_of-in-Some : goal.returns-in_ok-count_of-in-Some
returns-in_ok-count_of-in-Some c place =
    field_there c.args.scopes.now.spellings.now c.args.name.now c.args.fields.now place c.in-Some.index
    c.in_ok-count_of-in-Some.field-0 _ (sym c.in-Some.is ∙ c.field_number.ensures) c.in_ok-count_of-in-Some.ensures.1

pub returns-in-None : goal.returns-in-None
returns-in-None c place =
    field_missing c.args.scopes.now.spellings.now c.args.name.now c.args.fields.now place
    (sym c.in-None.is ∙ c.field_number.ensures)
