use Rattle.std.proofs.Common.{rules, ◌≡◌, sym, ap, ◌∙◌, true, false, []}
use Rattle.pas_rules.specs.Calls.{missing_items}
use Rattle.pas_types.specs.inner.Transfers.{extent_view, refused_by, behind_actuals}
use Rattle.pas_types.proofs.FileLemmas.{none_refused}
use Rattle.pas_types.proofs.transfers.some_item.Goals as goal

pub returns-in-ItemsAlone : goal.returns-in-ItemsAlone
returns-in-ItemsAlone c scopes spellings =
    let more = c.args.arguments.now.items.more in
    let none : c.is_empty.result ≡ true → more ≡ [] = search rules in
    let some : c.is_empty.result ≡ false → more ≡ [] → ⊥ = search rules in
    c.demand.ensures
    ∙ none_refused scopes spellings c.args.arguments.now.closed more c.is_empty.result none some
    ∙ ap (λ found. refused_by c.args.arguments.now.closed (missing_items (extent_view found)
    (behind_actuals scopes spellings more))) (sym c.in-ItemsAlone.is)
