use Rattle.std.proofs.Common.{sym, subst, ◌∙◌, suc, List, [], ◌∷◌, ◌++◌, map, take, drop}
use Rattle.std.proofs.Common.{Some}
use Rattle.std.proofs.lemmas.Result.{err_from_is_err_and}
use Rattle.pas_syntax.specs.declared.tree.Argument.{Argument as CodeArgument}
use Rattle.pas_syntax.specs.declared.tree.Behind.{Behind as CodeBehind}
use Rattle.pas_tokens.specs.declared.kinds.Kind.TheVariants as k
use Rattle.pas_syntax.specs.Words.{at}
use Rattle.pas_typed.specs.declared.typed.Place as code_place
use Rattle.pas_typed.specs.TypedViews.{place_view}
use Rattle.pas_rules.specs.Calls.{read_item}
use Rattle.pas_scopes.specs.ScopeViews.{scopes_view}
use Rattle.pas_scopes.specs.inner.Listed.{items_behind, Gathered}
use Rattle.pas_scopes.proofs.ExprCalls.{taken_split}
use Rattle.pas_scopes.proofs.LabelSeen.{taken_more, taken_all}
use Rattle.pas_types.proofs.GatherLemmas.{line_moved, more_fails, more_short, one_more}
use Rattle.pas_types.proofs.GatherLemmas.{gathers_stop}
use Rattle.pas_types.proofs.TransferItems.{read_many}
use Rattle.pas_types.proofs.transfers.read_more.Goals as goal

pub returns-in_err-found : goal.returns-in_err-found
returns-in_err-found c clear n place same some =
    let scopes = scopes_view c.args.scopes.now in
    let spellings = c.args.scopes.now.spellings.now in
    let look = read_item scopes.outer.types (Some place) in
    let all = c.args.arguments.now.items.more in
    let items = c.as_slice-more-items.result.now in
    let i = c.loop-index.index in
    let before = map place_view c.args.places in
    let why = c.in_err-found.field-0.0 in
    gathers_stop place_view before (items_behind scopes spellings n look all)
    (at n k.RightParenthesis c.args.arguments.now.closed) why c.from_residual.result
    (err_from_is_err_and _ c.from_residual.ensures.1)
    (λ name first still. more_fails scopes spellings n look (read_many scopes spellings n (Some place)) name
    c.args.arguments.now.closed place_view before first all (take i items) c.more-item.result (drop (suc i) items)
    (taken_split items all i c.more-item.result c.as_slice-more-items.ensures c.loop-index-test.true c.more-item.is)
    c.loop-index.places (c.loop-index.invariant clear n place same some name first still) why
    (c.in_err-found.ensures clear n place same some))

pub returns-in_err-before : goal.returns-in_err-before
returns-in_err-before c clear n place same some =
    let scopes = scopes_view c.args.scopes.now in
    let spellings = c.args.scopes.now.spellings.now in
    let look = read_item scopes.outer.types (Some place) in
    let all = c.args.arguments.now.items.more in
    let closed = c.args.arguments.now.closed in
    let items = c.as_slice-more-items.result.now in
    let i = c.loop-index.index in
    let before = map place_view c.args.places in
    let why = c.in_err-before.field-0.0 in
    gathers_stop place_view before (items_behind scopes spellings n look all)
    (at n k.RightParenthesis closed) why c.from_residual-in_err-before.result
    (err_from_is_err_and _ c.from_residual-in_err-before.ensures.1)
    (λ name first still. more_short scopes spellings n look (read_many scopes spellings n (Some place)) name
    closed place_view before first all (take i items) c.more-item.result (drop (suc i) items)
    (taken_split items all i c.more-item.result c.as_slice-more-items.ensures c.loop-index-test.true c.more-item.is)
    c.loop-index.places (c.loop-index.invariant clear n place same some name first still) c.in_ok-found.found
    (c.in_ok-found.ensures clear n place same some) c.line_behind.result why
    (line_moved closed items all i c.line_behind.result c.as_slice-more-items.ensures c.line_behind.ensures)
    c.in_err-before.ensures)

pub loop-index-preserved : goal.loop-index-preserved
loop-index-preserved c clear n place same some name first still =
    let scopes = scopes_view c.args.scopes.now in
    let spellings = c.args.scopes.now.spellings.now in
    let look = read_item scopes.outer.types (Some place) in
    let all = c.args.arguments.now.items.more in
    let items = c.as_slice-more-items.result.now in
    let i = c.loop-index.index in
    let before = map place_view c.args.places in
    subst (λ (done : List (CodeBehind CodeArgument)). Gathered place_view before name first
    (items_behind scopes spellings n look done) c.push.new.self)
    (sym (taken_more items i c.more-item.result c.loop-index-test.true c.more-item.is))
    (subst (λ (places : List code_place.Place). Gathered place_view before name first
    (items_behind scopes spellings n look (take i items ++ c.more-item.result ∷ [])) places)
    (sym c.in_ok-push.ensures.ok)
    (one_more scopes spellings n look (read_many scopes spellings n (Some place)) name
    c.args.arguments.now.closed place_view before first all (take i items) c.more-item.result (drop (suc i) items)
    (taken_split items all i c.more-item.result c.as_slice-more-items.ensures c.loop-index-test.true c.more-item.is)
    c.loop-index.places (c.loop-index.invariant clear n place same some name first still) c.in_ok-found.found
    (c.in_ok-found.ensures clear n place same some) c.line_behind.result c.in_ok-before.field-0
    c.in_ok-before.ensures))

pub returns : goal.returns
returns c clear n place same some name first still =
    let scopes = scopes_view c.args.scopes.now in
    let spellings = c.args.scopes.now.spellings.now in
    let look = read_item scopes.outer.types (Some place) in
    let items = c.as_slice-more-items.result.now in
    subst (λ (done : List (CodeBehind CodeArgument)). Gathered place_view (map place_view c.args.places) name first
    (items_behind scopes spellings n look done) c.loop-index.places)
    (taken_all items c.loop-index.index c.loop-index-test.false ∙ c.as_slice-more-items.ensures)
    (c.loop-index.invariant clear n place same some name first still)
