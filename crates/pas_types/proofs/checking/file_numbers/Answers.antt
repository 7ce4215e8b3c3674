use Rattle.std.proofs.Common.{sym, ap, ◌∙◌, ℕ, List, ◌++◌, get_or}
use Rattle.std.specs.Prelude.{position, option_to_list}
use Rattle.std.specs.Str.{bytes_eq}
use Rattle.pas_syntax.specs.declared.tree.Ident.{Ident as CodeIdent}
use Rattle.pas_syntax.specs.Views.{spelled_in}
use Rattle.pas_scopes.specs.ScopeViews.{scopes_view}
use Rattle.pas_types.proofs.ParameterLemmas.{files_more}
use Rattle.pas_types.proofs.checking.file_numbers.Goals as goal

abbrev no_name : CodeIdent
no_name = record { span = record { first = 0; count = 0 }; line = 0 }

pub loop-ident-preserved : goal.loop-ident-preserved
loop-ident-preserved c =
    let spellings = c.args.scopes.now.spellings.now in
    let globals = (scopes_view c.args.scopes.now).outer.globals in
    let idents : List CodeIdent = c.args.parameters.now in
    let i = c.loop-ident.ident-index in
    c.in_ok-add_number.ensures
    ∙ (ap (λ (files : List ℕ). files ++ option_to_list (position (λ found. bytes_eq found.name
    (spelled_in spellings (get_or idents i no_name).span)) globals)) c.loop-ident.invariant
    ∙ sym (files_more globals spellings idents i no_name c.loop-ident-test.true))
