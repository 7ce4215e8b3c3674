use Rattle.std.proofs.Common.{◌≡◌, map, take}
use Rattle.pas_syntax.specs.Views.{spelled_in}
use Rattle.pas_rules.specs.Check.{file_numbers}
use Rattle.pas_scopes.specs.ScopeViews.{scopes_view}
use Rattle.pas_types.proofs.checking.file_numbers.Given as goal

abbrev pub invariant-loop-ident : goal.invariant-loop-ident
invariant-loop-ident l =
    l.files ≡ file_numbers (scopes_view l.scopes).outer.globals
    (map (λ ident. spelled_in l.scopes.spellings.now ident.span) (take l.ident-index l.parameters))
