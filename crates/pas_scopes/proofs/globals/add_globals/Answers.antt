use Rattle.std.proofs.Common.{sym, ap, ◌∙◌, ℕ, ◌+◌, ◌*◌, List, length, get_or, map, ◌++◌}
use Rattle.pas_syntax.specs.declared.tree.Ident.{Ident as CodeIdent}
use Rattle.pas_syntax.specs.declared.tree.Behind.{Behind as CodeBehind}
use Rattle.pas_syntax.specs.Views.{spelled_in}
use Rattle.pas_typed.specs.declared.typed.Home.TheVariants as home
use Rattle.pas_typed.specs.declared.typed.Mode.TheVariants as mode
use Rattle.pas_typed.specs.Typed.{global, declared}
use Rattle.pas_typed.specs.TypeViews.{type_view, counted}
use Rattle.pas_typed.specs.TypedViews.{variable_view}
use Rattle.pas_scopes.specs.declared.scopes.Scopes.{Scopes as CodeScopes}
use Rattle.pas_rules.specs.Declarations.{named_slots, variables_of}
use Rattle.pas_rules.specs.Scopes.{with_new}
use Rattle.pas_scopes.specs.ScopeViews.{all_idents}
use Rattle.pas_scopes.specs.DeclaredSoFar.{with_each}
use Rattle.pas_scopes.proofs.AddedLemmas.{no_name, seen, so_far, so_far_all, seen_all, slot_at, added_next, added_view}
use Rattle.pas_scopes.proofs.globals.add_globals.Goals as goal

pub loop-behind-preserved : goal.loop-behind-preserved
loop-behind-preserved c =
    let old : CodeScopes = c.args.scopes.now in
    let now : CodeScopes = c.loop-behind.scopes in
    let new : CodeScopes = c.add_global-in-loop-behind.new.scopes in
    let next : CodeBehind CodeIdent = get_or c.as_slice-behind-items.result.now c.loop-behind.behind-index no_name in
    record {
      kept = c.in_ok-add_global-2.ensures.kept
          ∙ ap (λ (cells : ℕ). record now { names = new.names; globals = new.globals; cells = cells })
          (sym (ap (λ (scopes : CodeScopes). scopes.cells) c.in_ok-add_global-2.ensures.kept))
          ∙ ap (λ (scopes : CodeScopes). record scopes { names = new.names; globals = new.globals; cells = new.cells })
          c.loop-behind.invariant.kept;
      cells_are = ap (λ (scopes : CodeScopes). scopes.cells) c.in_ok-add_global-2.ensures.kept
          ∙ c.loop-behind.invariant.cells_are;
      added = added_next home.Global mode.Declared c.args.pas_type old.spellings.now old.names old.globals
          c.args.names.now.first c.as_slice-behind-items.result.now c.loop-behind.behind-index no_name
          c.loop-behind-test.true now.names new.names now.globals new.globals c.loop-behind.invariant.added
          (c.in_ok-add_global-2.ensures.names
          ∙ ap (λ (seen : List ℕ). with_new now.names (spelled_in seen next.item.span)
          (slot_at home.Global mode.Declared c.args.pas_type (length now.globals)))
          (ap (λ (scopes : CodeScopes). scopes.spellings.now) c.loop-behind.invariant.kept))
          c.in_ok-add_global-2.ensures.globals;
    }

pub returns-clause-names : goal.returns-clause-names
returns-clause-names c =
    let old : CodeScopes = c.args.scopes.now in
    c.loop-behind.invariant.added.names_are
    ∙ ap (λ (all : List (List ℕ)). with_each old.names (named_slots global (length old.globals)
    (variables_of declared (type_view c.args.pas_type) all)))
    (ap (seen old.spellings.now) (so_far_all c.args.names.now c.as_slice-behind-items.result.now
    c.loop-behind.behind-index c.loop-behind-test.false c.as_slice-behind-items.ensures)
    ∙ sym (seen_all old.spellings.now c.args.names.now))

pub returns-clause-globals : goal.returns-clause-globals
returns-clause-globals c =
    let old : CodeScopes = c.args.scopes.now in
    added_view home.Global mode.Declared c.args.pas_type old.spellings.now old.globals c.loop-behind.scopes.globals
    (so_far c.args.names.now.first c.as_slice-behind-items.result.now c.loop-behind.behind-index)
    c.loop-behind.invariant.added.variables_are
    ∙ ap (λ (all : List (List ℕ)). map (variable_view old.spellings.now) old.globals
    ++ variables_of declared (type_view c.args.pas_type) all)
    (ap (seen old.spellings.now) (so_far_all c.args.names.now c.as_slice-behind-items.result.now
    c.loop-behind.behind-index c.loop-behind-test.false c.as_slice-behind-items.ensures)
    ∙ sym (seen_all old.spellings.now c.args.names.now))

pub returns-clause-cells : goal.returns-clause-cells
returns-clause-cells c each is =
    c.loop-behind.invariant.cells_are
    ∙ ap (λ (one : ℕ). counted (c.args.scopes.now.cells + length (all_idents c.args.names.now) * one))
    (sym (c.cells_of-each.ensures c.args.scopes.now.spellings.now) ∙ is)
