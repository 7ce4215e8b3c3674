use Rattle.std.proofs.Common.{ap, sym, ◌∙◌}
use Rattle.std.specs.Prelude.{is_some, ◌&&◌, Option}
use Rattle.pas_typed.specs.declared.typed.Mode.{Mode as CodeMode}
use Rattle.pas_typed.specs.Types.{Range, range_of}
use Rattle.pas_typed.specs.TypeViews.{range_view, type_view, table_view}
use Rattle.pas_typed.specs.TypedViews.{mode_view}
use Rattle.pas_rules.specs.Statements.{is_declared}
use Rattle.pas_types.proofs.FlowLemmas.{is_some_map}
use Rattle.pas_types.proofs.statements.counts.Goals as goal

pub returns-in-Declared : goal.returns-in-Declared
returns-in-Declared c =
    let spellings = c.args.scopes.now.spellings.now in
    let found : Option Range =
    range_of (table_view spellings c.args.scopes.now.types) (type_view c.args.slot.pas_type) in
    c.is_some.ensures
    ∙ (sym (is_some_map range_view c.range_of.result)
    ∙ (ap (λ (range : Option Range). is_some range) (sym (c.range_of.ensures spellings))
    ∙ sym (ap (λ (mode : CodeMode). is_declared (mode_view mode) && is_some found) c.in-Declared.is)))
