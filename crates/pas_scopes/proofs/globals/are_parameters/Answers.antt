use Rattle.std.proofs.Common.{sym, ap, ◌∙◌, ℕ, List, get_or, Bool}
use Rattle.std.specs.Prelude.{◌&&◌}
use Rattle.pas_syntax.specs.declared.tree.Ident.{Ident as CodeIdent}
use Rattle.pas_syntax.specs.declared.tree.Behind.{Behind as CodeBehind}
use Rattle.pas_syntax.specs.Views.{spelled_in}
use Rattle.pas_rules.specs.Scopes.{Outer, contains}
use Rattle.pas_rules.specs.Declarations.{are_parameters}
use Rattle.pas_scopes.specs.ScopeViews.{outer_view}
use Rattle.pas_scopes.proofs.AddedLemmas.{no_name, seen, so_far_all, seen_all, parameter_more}
use Rattle.pas_scopes.proofs.globals.are_parameters.Goals as goal
use Rattle.pas_scopes.proofs.globals.are_parameters.Goals.{then-all, else-all}

pub loop-behind-preserved : goal.loop-behind-preserved
loop-behind-preserved c =
    let spellings = c.args.scopes.now.spellings.now in
    let outer : Outer = outer_view c.args.scopes.now in
    let next : CodeBehind CodeIdent = get_or c.as_slice-behind-items.result.now c.loop-behind.behind-index no_name in
    let name : List ℕ = spelled_in spellings next.item.span in
    let more = parameter_more outer spellings c.args.names.now.first c.as_slice-behind-items.result.now
    c.loop-behind.behind-index no_name c.loop-behind-test.true c.loop-behind.all c.loop-behind.invariant in
    elim c.if-all.branch [
      | then-all w ↦ w.all-is ∙ (w.has-all-then-all.ensures
          ∙ (ap (contains outer.parameters) w.spelling-then-all.ensures
          ∙ (sym (ap (λ (b : Bool). b && contains outer.parameters name) w.if-all.true) ∙ more)))
      | else-all w ↦ w.all-is ∙ (w.if-all.false
          ∙ (sym (ap (λ (b : Bool). b && contains outer.parameters name) w.if-all.false) ∙ more))
    ]

pub returns : goal.returns
returns c =
    let spellings = c.args.scopes.now.spellings.now in
    let outer : Outer = outer_view c.args.scopes.now in
    c.loop-behind.invariant
    ∙ ap (are_parameters outer) (ap (seen spellings) (so_far_all c.args.names.now c.as_slice-behind-items.result.now
    c.loop-behind.behind-index c.loop-behind-test.false c.as_slice-behind-items.ensures)
    ∙ sym (seen_all spellings c.args.names.now))
