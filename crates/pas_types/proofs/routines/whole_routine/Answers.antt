use Rattle.std.proofs.Common.{◌≡◌, sym, ap, subst, ◌∙◌, ℕ, List, [], take, Option, Some}
use Rattle.std.specs.Prelude.{option_to_list}
use Rattle.wb_base.specs.declared.faults.Fault.{Fault}
use Rattle.pas_syntax.specs.Tree.{Routine}
use Rattle.pas_syntax.specs.Words.{routine_words}
use Rattle.pas_syntax.specs.ProgramViews.{routine_in}
use Rattle.pas_typed.specs.TypeViews.{table_view}
use Rattle.pas_scopes.specs.declared.scopes.Scopes.{Scopes as CodeScopes}
use Rattle.pas_scopes.specs.declared.stop.Stop.{Stop}
use Rattle.pas_rules.specs.Scopes.{unclear}
use Rattle.pas_rules.specs.Routines.{routine_of}
use Rattle.pas_rules.specs.Scopes.{with_new}
use Rattle.pas_scopes.specs.ScopeViews.{outer_view}
use Rattle.pas_scopes.specs.Answers.{FailsBy}
use Rattle.pas_types.proofs.FollowRoutines.{head_name}
use Rattle.pas_types.proofs.ThroughLemmas.{Stepped, goes_on, first_shown}
use Rattle.pas_types.proofs.routines.whole_routine.Goals as goal

pub returns-in-Ok-clause-steps : goal.returns-in-Ok-clause-steps
returns-in-Ok-clause-steps c none labels =
    let old : CodeScopes = c.args.scopes.now in
    let found : Routine = routine_in old.spellings.now c.args.routine.now in
    subst (λ (a : Option Fault). Stepped found old c.routine_of.new.scopes a a (option_to_list c.in-Ok.found)) (sym none)
    (goes_on found old c.routine_of.new.scopes c.in-Ok.found (λ ready. c.in-Ok.ensures.goes ready labels))

module _ (c : goal.In_ok-unclear_name-in-Err-Fault) where
  abbrev old : CodeScopes
  old = c.args.scopes.now

  abbrev now : CodeScopes
  now = c.routine_of.new.scopes

  abbrev new : CodeScopes
  new = c.unclear_name.new.scopes

  abbrev found : Routine
  found = routine_in old.spellings.now c.args.routine.now

  same : now.spellings.now ≡ old.spellings.now
  same = ap (λ (s : CodeScopes). s.spellings.now) c.routine_of.ensures.kept

  names_are : new.names ≡ with_new now.names (head_name found) unclear
  names_are =
      c.in_ok-unclear_name-in-Err-Fault.ensures.names
      ∙ ap (λ (s : List ℕ). with_new now.names (head_name (routine_in s c.args.routine.now)) unclear) same

  types_are : (outer_view new).types ≡ (outer_view old).types
  types_are =
      (λ i. table_view ((ap (λ (s : CodeScopes). s.spellings.now) c.unclear_name.ensures.kept ∙ same) i)
      ((ap (λ (s : CodeScopes). s.types) c.unclear_name.ensures.kept ∙ (c.shorten.ensures
      ∙ (ap (λ (count : ℕ). take count now.types) c.len-count.ensures ∙ c.routine_of.ensures.grows))) i))

  cells_are : new.cells ≡ old.cells
  cells_are =
      ap (λ (s : CodeScopes). s.cells) c.unclear_name.ensures.kept
      ∙ ap (λ (s : CodeScopes). s.cells) c.routine_of.ensures.kept

pub returns-in_ok-unclear_name-in-Err-Fault-clause-steps : goal.returns-in_ok-unclear_name-in-Err-Fault-clause-steps
returns-in_ok-unclear_name-in-Err-Fault-clause-steps c none labels =
    let before : CodeScopes = old c in
    let routine : Routine = found c in
    subst (λ (a : Option Fault). Stepped routine before (new c) a (Some c.in-Err-Fault.fault) []) (sym none)
    (first_shown routine before (new c) c.in-Err-Fault.fault (now c)
    (λ ready. subst (λ (why : Stop). FailsBy (routine_words routine) (routine_of (outer_view before) routine).marks why)
    c.in-Err-Fault.field-0-is (c.in-Err-Fault.ensures.goes ready labels))
    c.in-Err-Fault.ensures.names (names_are c) (types_are c) (cells_are c))
