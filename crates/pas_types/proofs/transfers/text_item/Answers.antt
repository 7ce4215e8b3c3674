use Rattle.std.proofs.Common.{subst, Option}
use Rattle.pas_syntax.specs.declared.tree.Quoted.{Quoted as CodeQuoted}
use Rattle.pas_syntax.specs.ProgramViews.{argument_in}
use Rattle.pas_syntax.specs.Views.{quoted_in}
use Rattle.pas_typed.specs.TypedViews.{item_view}
use Rattle.pas_scopes.specs.ScopeViews.{scopes_view}
use Rattle.pas_types.specs.inner.Transfers.{IsLongText}
use Rattle.pas_types.proofs.PrintLemmas.{string_argument, other_argument}
use Rattle.pas_types.proofs.transfers.text_item.Goals as goal

pub returns-in-Some : goal.returns-in-Some
returns-in-Some c clear n =
    let scopes = scopes_view c.args.scopes.now in
    let spellings = c.args.scopes.now.spellings.now in
    let argument = argument_in spellings c.args.argument.now in
    let is = subst (λ (found : Option CodeQuoted). IsLongText spellings argument.value found) c.in-Some.is
    c.long_text.ensures in
    string_argument scopes n argument (quoted_in spellings c.in-Some.quoted) is.0 is.1 (item_view spellings)
    c.string_item.result (c.string_item.ensures clear n)

pub returns-in-None : goal.returns-in-None
returns-in-None c clear n =
    let scopes = scopes_view c.args.scopes.now in
    let spellings = c.args.scopes.now.spellings.now in
    let argument = argument_in spellings c.args.argument.now in
    let is = subst (λ (found : Option CodeQuoted). IsLongText spellings argument.value found) c.in-None.is
    c.long_text.ensures in
    other_argument scopes n argument is (item_view spellings) c.printed_item.result (c.printed_item.ensures clear n)
