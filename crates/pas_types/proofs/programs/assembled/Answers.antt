use Rattle.std.proofs.Common.{ap, ◌∙◌, ℕ, List, map}
use Rattle.pas_syntax.specs.declared.tree.Ident.{Ident as CodeIdent}
use Rattle.pas_syntax.specs.Tree.{Ident}
use Rattle.pas_syntax.specs.Views.{ident_in}
use Rattle.pas_typed.specs.TypedViews.{variable_view}
use Rattle.pas_rules.specs.Check.{file_numbers}
use Rattle.pas_types.proofs.BegunLemmas.{spelled_all}
use Rattle.pas_types.proofs.programs.assembled.Goals as goal

pub returns-clause-files : goal.returns-clause-files
returns-clause-files c =
    let spellings : List ℕ = c.args.scopes.spellings.now in
    let idents : List CodeIdent = c.as_slice.result.now in
    c.in_ok-files.ensures
    ∙ ap (file_numbers (map (variable_view spellings) c.args.scopes.globals)) (spelled_all spellings idents
    ∙ ap (map (λ (ident : Ident). ident.name)) (ap (map (ident_in spellings)) c.as_slice.ensures
    ∙ c.in_ok-parameters.ensures spellings))
