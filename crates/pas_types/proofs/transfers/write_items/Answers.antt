use Rattle.std.proofs.Common.{ap, ◌∙◌}
use Rattle.pas_typed.specs.Types.{PasType, text, same_type}
use Rattle.pas_types.proofs.transfers.write_items.Goals as goal

pub returns-then-is : goal.returns-then-is
returns-then-is c clear n word h =
    c.write_text.ensures clear n word h
    (ap (λ (type : PasType). same_type type text) c.pas_type.ensures ∙ c.is.ensures ∙ c.if-is.true)

pub returns-else-is : goal.returns-else-is
returns-else-is c clear n word h =
    c.write_components.ensures clear n word h
    (ap (λ (type : PasType). same_type type text) c.pas_type.ensures ∙ c.is.ensures ∙ c.if-is.false)
