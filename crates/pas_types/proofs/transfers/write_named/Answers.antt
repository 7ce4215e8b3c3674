use Rattle.std.proofs.Common.{sym, subst}
use Rattle.pas_typed.specs.TypedViews.{place_view, statement_view}
use Rattle.pas_types.specs.declared.transfers.Extent.{Extent as CodeExtent}
use Rattle.pas_scopes.specs.ScopeViews.{scopes_view}
use Rattle.pas_scopes.specs.Answers.{Settles}
use Rattle.pas_types.specs.inner.Transfers.{extent_view, IsOnText}
use Rattle.pas_types.proofs.TransferParts.{call_words}
use Rattle.pas_types.proofs.WriteParts.{written}
use Rattle.pas_types.proofs.transfers.write_named.Goals as goal

pub returns-in-ItemsAlone : goal.returns-in-ItemsAlone
returns-in-ItemsAlone c clear n word h =
    let scopes = scopes_view c.args.scopes.now in
    let spellings = c.args.scopes.now.spellings.now in
    let arguments = c.args.arguments.now in
    subst (λ (extent : CodeExtent). Settles (call_words scopes spellings n word arguments)
    (written scopes spellings n word arguments (extent_view extent)) (statement_view spellings) c.write_items.result)
    (sym c.in-ItemsAlone.is) (c.write_items.ensures clear n word h)

pub returns-in-WholeLine : goal.returns-in-WholeLine
returns-in-WholeLine c clear n word h =
    c.write_text.ensures clear n word h
    (subst (λ (extent : CodeExtent). IsOnText (extent_view extent) (place_view c.args.file.value))
    (sym c.in-WholeLine.is) tt)
