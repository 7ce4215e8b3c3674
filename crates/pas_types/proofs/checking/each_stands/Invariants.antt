use Rattle.std.proofs.Common.{take}
use Rattle.pas_syntax.specs.Views.{ident_in}
use Rattle.pas_scopes.specs.ScopeViews.{scopes_view}
use Rattle.pas_scopes.proofs.NewNameLemmas.{seen_behind}
use Rattle.pas_types.proofs.ParameterLemmas.{SoFar}
use Rattle.pas_types.proofs.checking.each_stands.Given as goal

abbrev pub invariant-loop-behind : goal.invariant-loop-behind
invariant-loop-behind l =
    SoFar (scopes_view l.scopes).outer (ident_in l.scopes.spellings.now l.idents.first)
    (seen_behind l.scopes.spellings.now (take l.behind-index l.behind-items)) l.before
