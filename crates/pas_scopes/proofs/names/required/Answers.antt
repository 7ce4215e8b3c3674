use Rattle.std.proofs.Common.{sym, subst, Option, IfSome}
use Rattle.pas_rules.specs.Scopes.{Entity, required}
use Rattle.pas_scopes.specs.NameViews.{IsSmallEntity}
use Rattle.pas_scopes.proofs.NameLemmas.{small_in, small_view, small_required}
use Rattle.pas_scopes.proofs.names.required.Goals as goal

pub returns-clause-small : goal.returns-clause-small
returns-clause-small c =
    small_view c.entity_among.result
    (subst (λ (entity : Option Entity). IfSome entity IsSmallEntity) (sym c.entity_among.ensures)
    (small_in required c.args.name.now small_required))
