use Rattle.std.proofs.Common.{◌≡◌, sym, ap, subst, ◌∙◌, ℕ, true, List}
use Rattle.std.specs.Prelude.{not, ◌&&◌}
use Rattle.pas_syntax.specs.Views.{spelled_in}
use Rattle.pas_scopes.specs.declared.scopes.Scopes.{Scopes as CodeScopes}
use Rattle.pas_rules.specs.Scopes.{contains, standard_names}
use Rattle.pas_rules.specs.Scopes.{with_name}
use Rattle.pas_types.specs.inner.Checking.{HasParameters}
use Rattle.pas_types.proofs.BegunLemmas.{has_more, and_true, ok_two}
use Rattle.pas_types.proofs.checking.add_parameter.Goals as goal

pub returns-then-is_standard-clause-has : goal.returns-then-is_standard-clause-has
returns-then-is_standard-clause-has c =
    let old : CodeScopes = c.args.scopes.now in
    let name : List ℕ = spelled_in old.spellings.now c.args.ident.span in
    let spelled : c.spelling-name.result.now ≡ name = c.spelling-name.ensures in
    let more : (not (contains old.parameters name) && contains standard_names name) ≡ true =
    and_true (not (contains old.parameters name)) (contains standard_names name)
    (ap (λ (found : List ℕ). not (contains old.parameters found)) (sym spelled)
    ∙ (sym c.in_ok-is_new.ensures.new ∙ c.if-is_new.true))
    (ap (contains standard_names) (sym spelled) ∙ (sym c.is_standard.ensures ∙ c.if-is_standard.true)) in
    ok_two _ _ _ c.add_global.result c.add_global.ensures.names c.add_global.ensures.globals
    (λ names_is globals_is before h. subst (HasParameters (with_name before name)) (sym c.add_global.ensures.kept)
    (has_more before old c.args.ident c.add.new.self h
    (c.in_ok-is_new.ensures.ok ∙ ap (with_name old.parameters) spelled) c.add_global.new.scopes.names
    c.add_global.new.scopes.globals more names_is globals_is))
