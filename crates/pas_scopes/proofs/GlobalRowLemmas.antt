-- What the steps of a declaration of variables of the program leave, by the scopes before it.
use Rattle.std.proofs.Common.{◌≡◌, sym, ap, subst, ◌∙◌, ℕ, ◌+◌, ◌*◌, List, [], ◌++◌, map, length, Option, Some, None}
use Rattle.std.proofs.Common.{Result, Ok, Err, OnOk}
use Rattle.std.proofs.lemmas.List.{append-nil}
use Rattle.std.specs.Prelude.{option_map}
use Rattle.wb_base.specs.declared.memory.OutOfMemory.{OutOfMemory}
use Rattle.pas_syntax.specs.Tree.{Idents}
use Rattle.pas_syntax.specs.Views.{ident_in, separated_in}
use Rattle.pas_syntax.specs.ProgramViews.{type_in}
use Rattle.pas_syntax.specs.declared.tree.VariableRow.{VariableRow as CodeRow}
use Rattle.pas_typed.specs.declared.types.PasType.{PasType as CodePasType}
use Rattle.pas_typed.specs.Types.{Table, cells_of}
use Rattle.pas_typed.specs.Typed.{declared, global}
use Rattle.pas_typed.specs.TypeViews.{type_view, table_view, counted}
use Rattle.pas_typed.specs.TypedViews.{variable_view}
use Rattle.pas_scopes.specs.declared.scopes.Scopes.{Scopes as CodeScopes}
use Rattle.pas_scopes.specs.declared.stop.Stop.{Stop}
use Rattle.pas_rules.specs.Scopes.{Outer, spellings_of}
use Rattle.pas_rules.specs.Declarations.{taken, types_behind, variables_of, named_slots, unclear_names}
use Rattle.pas_scopes.specs.ScopeViews.{made_view, all_idents}
use Rattle.pas_scopes.specs.NameAnswers.{AreNewNames, AreNew}
use Rattle.pas_scopes.specs.DeclaredSoFar.{global_form, with_each}
use Rattle.pas_scopes.proofs.KeptLemmas.{spellings_kept}
use Rattle.pas_scopes.proofs.AddedLemmas.{seen_length}
use Rattle.pas_scopes.proofs.GlobalLemmas.{Adds, made_by}

-- what holds where all that is answered is right
pub ok_all : (A B C D : Type 0) (result : Result (Unit {0}) OutOfMemory) → OnOk result A → OnOk result B → OnOk result C
    → (A → B → C → D) → OnOk result D
ok_all A B C D (Ok done) a b c h = h a b c
ok_all A B C D (Err why) a b c h = tt

pub ok_one : (A D : Type 0) (result : Result (Unit {0}) OutOfMemory) → OnOk result A → (A → D) → OnOk result D
ok_one A D (Ok done) a h = h a
ok_one A D (Err why) a h = tt

-- names before which none stands
pub names_alone : (taken before : List (List ℕ)) (idents : Idents) (result : Result (Unit {0}) Stop) → before ≡ []
    → AreNewNames (taken ++ before) idents result → AreNewNames taken idents result
names_alone taken before idents result none h =
    subst (λ (found : List (List ℕ)). AreNewNames found idents result)
    (ap (λ (b : List (List ℕ)). taken ++ b) none ∙ append-nil taken) h

pub fresh_alone : (taken before spellings : List (List ℕ)) (result : Result (Unit {0}) Stop) → before ≡ []
    → OnOk result (AreNew (taken ++ before) spellings) → OnOk result (AreNew taken spellings)
fresh_alone taken before spellings result none h =
    subst (λ (found : List (List ℕ)). OnOk result (AreNew found spellings))
    (ap (λ (b : List (List ℕ)). taken ++ b) none ∙ append-nil taken) h

module _ (old now new : CodeScopes) (row : CodeRow) (kept : now ≡ record old { types = now.types }) where
  abbrev names_in : CodeScopes → List (List ℕ)
  names_in scopes = spellings_of (separated_in (ident_in scopes.spellings.now) row.names)

  pub kept_globals : new ≡ record now { names = new.names; globals = new.globals; cells = new.cells }
      → new ≡ record old { types = new.types; names = new.names; globals = new.globals; cells = new.cells }
  kept_globals h =
      h ∙ (ap (λ (scopes : CodeScopes). record scopes {
        names = new.names;
        globals = new.globals;
        cells = new.cells;
      }) kept
      ∙ ap (λ (scopes : CodeScopes). record old {
        types = scopes.types;
        names = new.names;
        globals = new.globals;
        cells = new.cells;
      }) (sym h))

  pub kept_unclear : new ≡ record now { names = new.names }
      → new ≡ record now { names = new.names; globals = new.globals; cells = new.cells }
  kept_unclear h =
      h ∙ ap (λ (scopes : CodeScopes). record now {
        names = new.names;
        globals = scopes.globals;
        cells = scopes.cells;
      }) (sym h)

  module _ (stay : new.types ≡ now.types) where
    tables : table_view now.spellings.now now.types ≡ table_view old.spellings.now new.types
    tables =
        ap (λ (seen : List ℕ). table_view seen now.types) (spellings_kept old now kept)
        ∙ ap (table_view old.spellings.now) (sym stay)

    pub value_behind : (found : Option CodePasType) (outer : Outer)
        → option_map (made_view now) found ≡ (global_form outer (type_in old.spellings.now row.form)).value
        → option_map (made_by old new (names_in old)) found
        ≡ (global_form outer (type_in old.spellings.now row.form)).value
    value_behind found outer h =
        ap (λ (table : Table). option_map (λ (one : CodePasType). record { type = type_view one; table = table }) found)
        (sym tables) ∙ h

    pub types_after : (outer : Outer)
        → table_view old.spellings.now now.types
        ≡ types_behind outer.types (global_form outer (type_in old.spellings.now row.form)).value
        → table_view old.spellings.now new.types
        ≡ types_behind outer.types (global_form outer (type_in old.spellings.now row.form)).value
    types_after outer h = ap (table_view old.spellings.now) stay ∙ h

    pub adds_some : (found : CodePasType)
        → new.names ≡ with_each now.names (named_slots global (length now.globals)
        (variables_of declared (type_view found) (names_in now)))
        → map (variable_view now.spellings.now) new.globals
        ≡ map (variable_view now.spellings.now) now.globals ++ variables_of declared (type_view found) (names_in now)
        → ((each : ℕ) → counted (cells_of (table_view now.spellings.now now.types) (type_view found)) ≡ each
        → new.cells ≡ counted (now.cells + length (all_idents row.names) * each))
        → Adds old new (names_in old) (Some found)
    adds_some found named globals cells = (
      named ∙ ap (λ (scopes : CodeScopes). with_each scopes.names (named_slots global (length scopes.globals)
          (variables_of declared (type_view found) (names_in scopes)))) kept,
      subst (λ (scopes : CodeScopes). map (variable_view scopes.spellings.now) new.globals
          ≡ map (variable_view scopes.spellings.now) scopes.globals
          ++ variables_of declared (type_view found) (names_in scopes)) kept globals,
      λ each is. cells each (ap (λ (table : Table). counted (cells_of table (type_view found))) tables ∙ is)
          ∙ (ap (λ (scopes : CodeScopes). counted (scopes.cells + length (all_idents row.names) * each)) kept
          ∙ ap (λ (n : ℕ). counted (old.cells + n * each)) (sym (seen_length old.spellings.now row.names))),
    )

    pub adds_none : new ≡ record now { names = new.names }
        → new.names ≡ with_each now.names (unclear_names (names_in now)) → Adds old new (names_in old) None
    adds_none h named = (
      named ∙ ap (λ (scopes : CodeScopes). with_each scopes.names (unclear_names (names_in scopes))) kept,
      ap (λ (scopes : CodeScopes). scopes.globals) (h ∙ ap (λ (s : CodeScopes). record s { names = new.names }) kept),
      ap (λ (scopes : CodeScopes). scopes.cells) (h ∙ ap (λ (s : CodeScopes). record s { names = new.names }) kept),
    )
