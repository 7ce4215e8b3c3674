use Rattle.std.proofs.Common.{◌≡◌, sym, ap, subst, ◌∙◌, ℕ, ◌+◌, List, [], ◌∷◌, ◌++◌, map, take}
use Rattle.std.specs.Prelude.{option_to_list}
use Rattle.std.proofs.lemmas.List.{map-append, take_more, take_all}
use Rattle.pas_syntax.specs.Tree.{Routine}
use Rattle.pas_syntax.specs.Words.{routine_words}
use Rattle.pas_syntax.specs.ProgramViews.{routine_in}
use Rattle.pas_syntax.specs.declared.tree.Routine.{Routine as CodeRoutine}
use Rattle.pas_scopes.specs.declared.scopes.Scopes.{Scopes as CodeScopes}
use Rattle.pas_rules.specs.Routines.{routine_of}
use Rattle.pas_types.specs.inner.RoutineStands.{Steps}
use Rattle.pas_types.proofs.ThroughLemmas.{Leads, Stepped, leads_more, leads_all, goes_through}
use Rattle.pas_types.proofs.routines.routines_of.Goals as goal

pub loop-routine-preserved : goal.loop-routine-preserved
loop-routine-preserved c =
    let old : CodeScopes = c.args.scopes.now in
    let now : CodeScopes = c.loop-routine.scopes in
    let later : CodeScopes = c.next_routine.new.scopes in
    let spellings : List ℕ = old.spellings.now in
    let i : ℕ = c.loop-routine.routine-index in
    let routines : List CodeRoutine = c.args.routines.now in
    let next : CodeRoutine = c.routine-item.result in
    let found = c.in_ok-found.found in
    let same : now.spellings.now ≡ spellings =
    ap (λ (s : CodeScopes). s.spellings.now) c.loop-routine.invariant.kept in
    let done : map (routine_in spellings) (take i routines) ++ routine_in spellings next ∷ []
    ≡ map (routine_in spellings) (take (i + 1) routines) =
    sym (ap (map (routine_in spellings)) (subst (λ (one : CodeRoutine). take (i + 1) routines ≡ take i routines ++ one ∷ [])
    (sym c.routine-item.is) (take_more routines i next c.loop-routine-test.true))
    ∙ map-append (routine_in spellings) (take i routines) (next ∷ [])) in
    record {
      kept = c.in_ok-found.ensures.kept
          ∙ ap (λ (s : CodeScopes). record s {
            types = later.types;
            names = later.names;
            routines = later.routines;
            inner = later.inner;
          }) c.loop-routine.invariant.kept;
      first = λ none. c.loop-routine.invariant.first (c.in_ok-found.ensures.first none);
      leads = λ labels.
          let step : Stepped (routine_in spellings next) now later c.loop-routine.noted c.next_routine.new.noted
          (option_to_list found) =
          subst (λ (s : List ℕ). Steps (routine_words (routine_in s next)) (λ outer. routine_of outer (routine_in s next))
          now c.loop-routine.noted later c.next_routine.new.noted (option_to_list found)) same
          (c.in_ok-found.ensures.steps (λ none. labels (c.loop-routine.invariant.first none)
          ∙ sym (ap (λ (s : CodeScopes). s.labels) c.loop-routine.invariant.kept))) in
          subst (λ bodies. Leads (map (routine_in spellings) (take (i + 1) routines)) old c.args.noted.now later
          c.next_routine.new.noted bodies) (sym c.in_ok-add_body.ensures)
          (subst (λ (all : List Routine). Leads all old c.args.noted.now later c.next_routine.new.noted
          (c.loop-routine.bodies ++ option_to_list found)) done
          (leads_more (map (routine_in spellings) (take i routines)) (routine_in spellings next) old now later
          c.args.noted.now c.loop-routine.noted c.next_routine.new.noted c.loop-routine.bodies (option_to_list found)
          (ap (λ (s : CodeScopes). s.spellings.now) c.in_ok-found.ensures.kept) (c.loop-routine.invariant.leads labels)
          step));
    }

pub returns-clause-declares : goal.returns-clause-declares
returns-clause-declares c none labels =
    let old : CodeScopes = c.args.scopes.now in
    let new : CodeScopes = c.loop-routine.scopes in
    let spellings : List ℕ = old.spellings.now in
    let routines : List CodeRoutine = c.args.routines.now in
    goes_through (map (routine_in spellings) routines) old c.args.noted.now new c.loop-routine.noted
    c.loop-routine.bodies none
    (leads_all (map (routine_in spellings) routines) old new c.args.noted.now c.loop-routine.noted c.loop-routine.bodies
    (subst (λ (list : List CodeRoutine). Leads (map (routine_in spellings) list) old c.args.noted.now new
    c.loop-routine.noted c.loop-routine.bodies)
    (take_all c.loop-routine.routine-index routines c.loop-routine-test.false) (c.loop-routine.invariant.leads labels)))
