use Rattle.std.proofs.Common.{ap, ◌∙◌, List, get_or}
use Rattle.std.specs.Prelude.{option_map}
use Rattle.pas_syntax.specs.declared.tree.Ident.{Ident as CodeIdent}
use Rattle.pas_syntax.specs.declared.tree.Behind.{Behind as CodeBehind}
use Rattle.pas_scopes.specs.declared.scopes.Inner.{Inner as CodeInner}
use Rattle.pas_scopes.specs.declared.scopes.Scopes.{Scopes as CodeScopes}
use Rattle.pas_scopes.specs.Locals.{with_local, with_all}
use Rattle.pas_scopes.proofs.AddedLemmas.{no_name, so_far_all}
use Rattle.pas_scopes.proofs.LocalLemmas.{all_next}
use Rattle.pas_scopes.proofs.locals.add_all.Goals as goal

pub loop-behind-preserved : goal.loop-behind-preserved
loop-behind-preserved c =
    let old : CodeScopes = c.args.scopes.now in
    let now : CodeScopes = c.loop-behind.scopes in
    let new : CodeScopes = c.add_local-in-loop-behind.new.scopes in
    let next : CodeBehind CodeIdent = get_or c.as_slice-behind-items.result.now c.loop-behind.behind-index no_name in
    record {
      kept = c.in_ok-add_local-2.ensures.kept
          ∙ ap (λ (scopes : CodeScopes). record scopes { inner = new.inner }) c.loop-behind.invariant.kept;
      inner_is = c.in_ok-add_local-2.ensures.inner
          ∙ (ap (λ (scopes : CodeScopes). option_map (λ (one : CodeInner). with_local scopes.spellings.now c.args.mode
          c.args.pas_type one next.item) now.inner) c.loop-behind.invariant.kept
          ∙ (ap (option_map (λ (one : CodeInner). with_local old.spellings.now c.args.mode c.args.pas_type one
          next.item)) c.loop-behind.invariant.inner_is
          ∙ all_next old.spellings.now c.args.mode c.args.pas_type old.inner c.args.names.now.first
          c.as_slice-behind-items.result.now c.loop-behind.behind-index no_name c.loop-behind-test.true));
    }

pub returns-clause-inner : goal.returns-clause-inner
returns-clause-inner c =
    let old : CodeScopes = c.args.scopes.now in
    c.loop-behind.invariant.inner_is
    ∙ ap (λ (idents : List CodeIdent). option_map (with_all old.spellings.now c.args.mode c.args.pas_type idents)
    old.inner)
    (so_far_all c.args.names.now c.as_slice-behind-items.result.now c.loop-behind.behind-index
    c.loop-behind-test.false c.as_slice-behind-items.ensures)
