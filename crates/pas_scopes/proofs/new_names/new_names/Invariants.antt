use Rattle.std.proofs.Common.{take}
use Rattle.pas_syntax.specs.Views.{ident_in}
use Rattle.pas_scopes.specs.ScopeViews.{scopes_view}
use Rattle.pas_scopes.specs.NameAnswers.{taken_in}
use Rattle.pas_scopes.proofs.NewNameLemmas.{SoFar, seen_behind}
use Rattle.pas_scopes.proofs.new_names.new_names.Given as goal

abbrev pub invariant-loop-behind : goal.invariant-loop-behind
invariant-loop-behind l =
    SoFar (taken_in (scopes_view l.scopes) l.region) l.fn.before (ident_in l.scopes.spellings.now l.idents.first)
    (seen_behind l.scopes.spellings.now (take l.behind-index l.behind-items)) l.before
