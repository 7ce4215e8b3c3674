use Rattle.std.proofs.Common.{◌≡◌, subst, ◌∙◌, ℕ, List}
use Rattle.std.specs.Prelude.{position}
use Rattle.std.specs.Str.{bytes_eq}
use Rattle.pas_scopes.proofs.NameSetLemmas.{position_view}
use Rattle.pas_scopes.proofs.name_sets.NameSet.number_of.Goals as goal

pub returns : goal.returns
returns c =
    subst (λ (held : List (List ℕ)). c.get_index_of.result ≡ position (λ other. bytes_eq other c.args.name.now) held)
    c.self.view_is
    (c.get_index_of.ensures.index ∙ position_view c.args.name.now c.self.inside.names.keys)
