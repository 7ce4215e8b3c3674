use Rattle.std.proofs.Common.{sym, ap, ◌∙◌, ℕ, List, get_or}
use Rattle.pas_syntax.specs.declared.tree.Ident.{Ident as CodeIdent}
use Rattle.pas_syntax.specs.declared.tree.Behind.{Behind as CodeBehind}
use Rattle.pas_syntax.specs.Views.{spelled_in}
use Rattle.pas_scopes.specs.declared.scopes.Scopes.{Scopes as CodeScopes}
use Rattle.pas_rules.specs.Scopes.{unclear}
use Rattle.pas_rules.specs.Declarations.{unclear_names}
use Rattle.pas_rules.specs.Scopes.{with_new}
use Rattle.pas_scopes.specs.DeclaredSoFar.{with_each}
use Rattle.pas_scopes.proofs.AddedLemmas.{no_name, seen, so_far_all, seen_all, unknown_next}
use Rattle.pas_scopes.proofs.globals.add_unclear.Goals as goal

pub loop-behind-preserved : goal.loop-behind-preserved
loop-behind-preserved c =
    let old : CodeScopes = c.args.scopes.now in
    let now : CodeScopes = c.loop-behind.scopes in
    let next : CodeBehind CodeIdent = get_or c.as_slice-behind-items.result.now c.loop-behind.behind-index no_name in
    record {
      kept = ap (λ (scopes : CodeScopes). record scopes { names = c.declare-in-loop-behind.new.self })
          c.loop-behind.invariant.kept;
      unknown = unknown_next old.spellings.now old.names c.args.names.now.first c.as_slice-behind-items.result.now
          c.loop-behind.behind-index no_name c.loop-behind-test.true now.names c.declare-in-loop-behind.new.self
          c.loop-behind.invariant.unknown
          (c.in_ok-declare-2.ensures.ok
          ∙ (ap (λ (name : List ℕ). with_new now.names name unclear) c.spelling-name-in-loop-behind.ensures
          ∙ ap (λ (scopes : CodeScopes). with_new now.names (spelled_in scopes.spellings.now next.item.span) unclear)
          c.loop-behind.invariant.kept));
    }

pub returns-clause-names : goal.returns-clause-names
returns-clause-names c =
    let old : CodeScopes = c.args.scopes.now in
    c.loop-behind.invariant.unknown.names_are
    ∙ ap (λ (all : List (List ℕ)). with_each old.names (unclear_names all))
    (ap (seen old.spellings.now) (so_far_all c.args.names.now c.as_slice-behind-items.result.now
    c.loop-behind.behind-index c.loop-behind-test.false c.as_slice-behind-items.ensures)
    ∙ sym (seen_all old.spellings.now c.args.names.now))
