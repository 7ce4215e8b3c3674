-- The scopes of the code as those of the definition.
use Rattle.std.specs.Prelude.{◌≡◌, ◌≢◌, List, [], ◌∷◌, ℕ, map, Some, None, option_map, is_some}
use Rattle.pas_syntax.specs.declared.tree.Ident.{Ident as CodeIdent}
use Rattle.pas_syntax.specs.declared.tree.Separated.{Separated as CodeSeparated}
use Rattle.pas_typed.specs.declared.types.PasType.{PasType as CodePasType}
use Rattle.pas_typed.specs.Types.{Made}
use Rattle.pas_typed.specs.TypeViews.{type_view, table_view}
use Rattle.pas_typed.specs.TypedViews.{variable_view, heading_view}
use Rattle.pas_scopes.specs.declared.scopes.Inner.{Inner as CodeInner}
use Rattle.pas_scopes.specs.declared.scopes.KnownRoutine.{KnownRoutine as CodeRoutine}
use Rattle.pas_scopes.specs.declared.scopes.Scopes.{Scopes as CodeScopes}
use Rattle.pas_rules.specs.Scopes.{KnownRoutine, Outer, Inner, Scopes, entity_of, unclear}

-- names of a list of the tree, one after another
abbrev pub all_idents : CodeSeparated CodeIdent → List CodeIdent
all_idents idents = idents.first ∷ map (λ behind. behind.item) idents.more

module _ (spellings : List ℕ) where
  abbrev pub inner_view : CodeInner → Inner
  inner_view inner = record {
    number = inner.number;
    labels = inner.labels;
    names = inner.names;
    variables = map (variable_view spellings) inner.variables;
  }

  abbrev pub routine_view : CodeRoutine → KnownRoutine
  routine_view known = record {
    heading = heading_view spellings known.heading;
    awaits_body = is_some known.awaited;
  }

abbrev pub outer_view : CodeScopes → Outer
outer_view scopes = record {
  parameters = scopes.parameters;
  labels = scopes.labels;
  last_label = scopes.last_label;
  types = table_view scopes.spellings.now scopes.types;
  names = scopes.names;
  globals = map (variable_view scopes.spellings.now) scopes.globals;
  routines = map (routine_view scopes.spellings.now) scopes.routines.items;
}

abbrev pub scopes_view : CodeScopes → Scopes
scopes_view scopes = record {
  outer = outer_view scopes;
  inner = option_map (inner_view scopes.spellings.now) scopes.inner;
}

-- scopes before all declarations
abbrev pub no_declarations : Scopes
no_declarations = record {
  outer = record {
    parameters = [];
    labels = [];
    last_label = None;
    types = [];
    names = [];
    globals = [];
    routines = [];
  };
  inner = None;
}

-- no name is one of which the declaration shows a fault
abbrev pub IsClear : Scopes → Type 0
IsClear scopes = (name : List ℕ) → entity_of scopes name ≢ Some unclear

-- scopes in which each name stands for the same
abbrev pub Agrees : Scopes → Scopes → Type 0
Agrees scopes other = (name : List ℕ) → entity_of scopes name ≡ entity_of other name

-- a type of the code, with the table behind it
abbrev pub made_view : CodeScopes → CodePasType → Made
made_view scopes found = record {
  type = type_view found;
  table = table_view scopes.spellings.now scopes.types;
}
